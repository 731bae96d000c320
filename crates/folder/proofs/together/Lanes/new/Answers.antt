use Rattle.std.proofs.Common.{◌≡◌, ◌∙◌, ◌+◌, All, None, Option, ap, arith, refl, subst, sym, slice_index_or, length}
use Rattle.std.proofs.lemmas.List.{length_push}
use Rattle.std.proofs.lemmas.List.Elements.{All-push}
use Rattle.lanes.specs.Lanes.{lane}
use Rattle.lanes.specs.Pending.{IsPending}
use Rattle.folder.specs.Streams.{IsInLane}
use Rattle.folder.specs.declared.stream.Stream.{Stream}
use Rattle.folder.proofs.together.Lanes.new.Goals as goal

pub lanes-preserved : goal.lanes-preserved
lanes-preserved g c =
    let was = c.lanes.invariant in
    let rooms = c.in_ok-push.ensures.items in
    let streams = c.in_ok-push-2.ensures.items in
    record {
      rooms = ap length rooms ∙ length_push c.lanes.rooms.items _ ∙ ap (λ n. n + 1) was.rooms;
      streams = ap length streams ∙ length_push c.lanes.streams.items None ∙ ap (λ n. n + 1) was.streams;
      pending = subst (All IsPending) (sym rooms) (All-push IsPending c.lanes.rooms.items _ was.pending c.in_ok-new.ensures);
      none = subst (All (λ (o : Option (Stream g.row.F.Denot)). o ≡ None)) (sym streams) (All-push (λ (o : Option (Stream g.row.F.Denot)). o ≡ None) c.lanes.streams.items None was.none refl);
    }

pub returns : goal.returns
returns g c = λ content state.
    let was = c.lanes.invariant in
    let all : c.lanes.counter ≡ c.args.count = omega (arith, c.lanes.auto.counter-end, c.lanes-test.false) in
    record {
      rooms = record { rooms = was.rooms ∙ all; streams = was.streams ∙ all; pending = was.pending };
      files = λ i p o lt. subst (λ e. IsInLane content g.F.Read.remaining (lane i state) (slice_index_or c.lanes.rooms.items i p) e) (sym (was.none i o (omega (arith, lt, all, was.streams)))) tt;
    }
