use Rattle.std.proofs.Common.{◌≡◌, ◌∙◌, string_bytes, sym, subst, arith}
use Rattle.lanes.specs.Lanes.{lane}
use Rattle.folder.specs.Streams.{IsMeasureIn}
use Rattle.folder.proofs.together.more_of.Goals as goal

pub returns-then-has_ended-clause-done : goal.returns-then-has_ended-clause-done
returns-then-has_ended-clause-done g c = λ content stream all.
    let left : c.args.room.now.left ≡ 0 = omega (arith, c.if-room-gt0.false) in
    c.note.ensures.done content
    (subst (λ n. IsMeasureIn (content (string_bytes n)) c.done.result.need c.done.result.measure) (sym c.done.ensures.name)
    (c.done.ensures.measure (content (string_bytes c.args.stream.name)) (lane c.args.l c.args.state.now) c.args.room.now
    (record { left = left; is_ended = sym c.has_ended.ensures ∙ c.if-has_ended.true; stream = stream }) c.digest.ensures.value))
    all
