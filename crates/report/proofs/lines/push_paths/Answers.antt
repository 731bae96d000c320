use Rattle.std.proofs.Common.{arith, ◌≤◌, length, string_bytes}
use Rattle.report.proofs.Paths.{all_paths, one_path}
use Rattle.report.proofs.lines.push_paths.Goals as goal

pub loop-place-preserved : goal.loop-place-preserved
loop-place-preserved c =
    one_path c.args.told.now.outcome.verdicts c.args.stored.now c.args.told.now.why.paths c.args.wanted.now (string_bytes c.args.text.now)
    c.loop-place.place c.index-wanted-place.result c.as_str.result.now c.is_stored_at-is_stored.result (string_bytes c.loop-place.text) _
    c.loop-place-test.true c.index-wanted-place.is c.as_str.ensures.value c.is_stored_at-is_stored.ensures.test c.loop-place.invariant c.in_ok-push_path.ensures.lines

pub returns : goal.returns
returns c =
    let spent = c.loop-place-test.false in
    let end : length c.args.wanted.now ≤ c.loop-place.place = omega arith in
    record {
      lines = all_paths c.args.told.now.outcome.verdicts c.args.stored.now c.args.told.now.why.paths c.args.wanted.now (string_bytes c.args.text.now)
          c.loop-place.place (string_bytes c.loop-place.text) end c.loop-place.invariant;
    }
