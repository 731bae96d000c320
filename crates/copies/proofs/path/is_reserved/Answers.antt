use Rattle.std.proofs.Common.{◌∙◌, ap, bytes_eq, codes, take}
use Rattle.std.proofs.lemmas.List.{take_min}
use Rattle.std.proofs.lemmas.Slice.Eq.{bytes_eq-Decides}
use Rattle.std.specs.Bool.{one_answer}
use Rattle.std.specs.Str.{str_to_ascii_lowercase}
use Rattle.copies.proofs.path.is_reserved.Goals as goal

pub returns : goal.returns
returns c =
    let bytes = c.as_bytes-bytes.result.now in
    let start = ap (λ n. take n bytes) c.min.ensures ∙ take_min 10 bytes ∙ ap (take 10) c.as_bytes-bytes.ensures.value in
    record {
      test = one_answer _ _ c.eq_ignore_ascii_case.ensures.test (bytes_eq-Decides _ _)
          ∙ ap (λ s. bytes_eq (str_to_ascii_lowercase s) (codes ".tufcheck.")) start;
    }
