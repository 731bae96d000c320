use Rattle.std.proofs.Common.{ap, sym, ◌∙◌, refl, length, Some}
use Rattle.std.specs.Prelude.{option_map}
use Rattle.std.specs.Result.{is_ok}
use Rattle.examine.specs.Checks.{file_in}
use Rattle.plan.proofs.Spending.{pushed}
use Rattle.plan.proofs.reading.Reader.read_file.Goals as goal

pub invariant_of-self-2 : goal.invariant_of-self-2
invariant_of-self-2 g c =
    let s = c.args.self.now in
    record {
      bound = pushed (is_ok c.push.result) (file_in s.scope.repo.now.metadata) s.documents.items c.push.new.self.items c.in_ok-new.field-0 c.args.name.now c.as_slice-bytes.result.now (length c.as_slice-bytes.result.now) s.bytes_left 4000000
          c.push.ensures.items c.in_ok-new.ensures.file (ap (option_map (λ v. v.items)) (sym c.in-Some.ensures.value) ∙ ap Some (sym c.as_slice-bytes.ensures.value)) refl c.if-length-self.false s.bound;
    }
