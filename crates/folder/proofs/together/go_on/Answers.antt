use Rattle.std.proofs.Common.{◌∙◌, arith, refl, sym, subst, string_bytes, slice_set}
use Rattle.std.proofs.lemmas.List.{get_or-set_same, get_or-set_other, length-set}
use Rattle.lanes.specs.Lanes.{lane}
use Rattle.lanes.specs.declared.pending.Pending.{Pending}
use Rattle.folder.specs.Streams.{IsStream}
use Rattle.folder.proofs.Laning.{in_lane, lane_set}
use Rattle.folder.proofs.together.go_on.Goals as goal

pub returns-in-Some-clause-lanes : goal.returns-in-Some-clause-lanes
returns-in-Some-clause-lanes g c = λ content are.
    let rem = g.F.Read.remaining in
    let l = c.args.l in
    let state = c.args.state.now in
    let streams = c.args.lanes.now.streams.items in
    let taken = slice_set streams l c.take.new.self in
    let room = c.index_mut-in-Some.result.now in
    let s = c.in-Some.stream in
    let is = sym c.index_mut.ensures.value ∙ sym c.take.ensures.value ∙ c.in-Some.is in
    let stream = subst (λ (r : Pending). IsStream (content (string_bytes s.name)) (rem s.file) (lane l state) r s) (sym c.index_mut-in-Some.ensures.value)
    (in_lane content rem g.row.N l state c.args.lanes.now room c.index_mut.result.now s are c.requires.lane is) in
    lane_set content rem g.row.N l state state c.args.lanes.now _ c.more_of.new.room c.more_of.result are c.requires.lane refl
    (length-set taken l c.more_of.result ∙ length-set streams l c.take.new.self ∙ are.rooms.streams)
    (λ e. get_or-set_same taken l c.more_of.result e (omega (arith, length-set streams l c.take.new.self, are.rooms.streams, c.requires.lane)))
    (λ i e other. get_or-set_other taken l i c.more_of.result e other ∙ get_or-set_other streams l i c.take.new.self e other)
    (λ i other. refl) c.more_of.ensures.room (c.more_of.ensures.stream content stream)

pub returns-in-Some-clause-done : goal.returns-in-Some-clause-done
returns-in-Some-clause-done g c = λ content are all.
    let rem = g.F.Read.remaining in
    let l = c.args.l in
    let state = c.args.state.now in
    let room = c.index_mut-in-Some.result.now in
    let s = c.in-Some.stream in
    let is = sym c.index_mut.ensures.value ∙ sym c.take.ensures.value ∙ c.in-Some.is in
    let stream = subst (λ (r : Pending). IsStream (content (string_bytes s.name)) (rem s.file) (lane l state) r s) (sym c.index_mut-in-Some.ensures.value)
    (in_lane content rem g.row.N l state c.args.lanes.now room c.index_mut.result.now s are c.requires.lane is) in
    c.more_of.ensures.done content stream all
