use Rattle.std.proofs.Common.{◌≡◌, Some, arith, length, refl, slice_get, string_bytes, subst}
use Rattle.std.proofs.lemmas.Option.{slice_get_read}
use Rattle.report.proofs.Paths.{one_line}
use Rattle.report.proofs.lines.push_path.Goals as goal

pub returns : goal.returns
returns c =
    let at = c.in-Some.ensures.lookup in
    let verdicts = c.verdicts.result.now in
    let i = c.args.line.place in
    let v = c.in-Some.verdict.now in
    let there = subst (λ vs. slice_get vs i ≡ Some v) c.verdicts.ensures.value (slice_get_read verdicts (length verdicts) i v refl (omega (arith, at.3.0)) at.1) in
    record {
      lines = one_line c.push_why.result c.args.told.now.outcome.verdicts c.args.told.now.why.paths i c.args.line.is_stored c.args.path.now v
          (string_bytes c.args.text.now) (string_bytes c.push_placed.new.text) (string_bytes c.push_why.new.text) there c.in_ok-push_placed.ensures.line c.push_why.ensures.lines;
    }
