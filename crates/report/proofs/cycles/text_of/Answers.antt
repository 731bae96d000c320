use Rattle.std.proofs.Common.{arith, ◌≤◌, ◌∙◌, ◌+◌, ◌++◌, ap, sym, length, map, string_bytes}
use Rattle.report.specs.Lines.{cycle_text}
use Rattle.report.proofs.Numbered.{all_of, one_more}
use Rattle.report.proofs.cycles.text_of.Goals as goal

pub loop-place-preserved : goal.loop-place-preserved
loop-place-preserved c =
    let more = one_more (cycle_text (map string_bytes c.args.wanted.now)) c.args.all.now 1 c.loop-place.place c.index-all-place.result c.loop-place-test.true c.index-all-place.is in
    c.in_ok-push_cycle.ensures.lines
    ∙ ap (λ l. l ++ cycle_text (map string_bytes c.args.wanted.now) (c.loop-place.place + 1, c.index-all-place.result)) c.loop-place.invariant
    ∙ sym more

pub returns : goal.returns
returns c =
    let spent = c.loop-place-test.false in
    let le : length c.args.all.now ≤ c.loop-place.place = omega arith in
    record { lines = c.loop-place.invariant ∙ all_of (cycle_text (map string_bytes c.args.wanted.now)) c.args.all.now 1 c.loop-place.place le }
