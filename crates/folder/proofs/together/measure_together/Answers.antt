use Rattle.std.proofs.Common.{◌≡◌, ◌∙◌, ◌<◌, ◌*◌, All, List, ap, arith, length, refl, slice_index_or, sym, subst}
use Rattle.lanes.specs.Lanes.{lane}
use Rattle.lanes.specs.Pending.{IsPending, Reaches}
use Rattle.lanes.specs.declared.pending.Pending.{Pending}
use Rattle.folder.proofs.Laning.{lanes_moved}
use Rattle.folder.proofs.Streaming.{written}
use Rattle.folder.proofs.together.measure_together.Goals as goal

pub returns-then-not-have_files : goal.returns-then-not-have_files
returns-then-not-have_files g c = λ all. c.tend_all.ensures.done (c.turns.invariant.done all)

pub take_blocks-requires : goal.take_blocks-requires
take_blocks-requires g c =
    let row : 8 * (g.row.N * 4) < 9223372036854775808 = omega (arith, c.requires) in
    let lane : g.row.N * 4 < 9223372036854775808 = omega (arith, c.requires) in
    let rooms = c.tend_all.ensures.lanes.rooms in
    (row, (lane, (c.requires, (c.tend_all.ensures.row, (ap length c.as_mut_slice.ensures.value ∙ rooms.rooms, subst (All IsPending) (sym c.as_mut_slice.ensures.value) rooms.pending)))))

pub turns-preserved : goal.turns-preserved
turns-preserved g c =
    let lanes = c.tend_all.new.lanes in
    let are = c.tend_all.ensures.lanes in
    let new : List Pending = c.take_blocks.new.pending in
    let value = c.as_mut_slice.ensures.value in
    let size : length new ≡ length c.as_mut_slice.result.now = c.take_blocks.auto.pending in
    let rooms = written lanes.rooms.len new lanes.rooms.items (size ∙ c.as_mut_slice.ensures.len) in
    record {
      row = c.take_blocks.ensures.row;
      lanes = lanes_moved (g.O.Opener.content c.args.opener.now) g.O.File.Read.remaining g.row.N c.tend_all.new.state c.take_blocks.new.state lanes _ are
          (ap length rooms ∙ size ∙ ap length value ∙ are.rooms.rooms) (subst (All IsPending) (sym rooms) c.take_blocks.ensures.pending) refl
          (λ i d m lt reaches. subst (λ (xs : List Pending). Reaches (lane i c.take_blocks.new.state) (slice_index_or xs i d) m) (sym rooms)
          (c.take_blocks.ensures.reaches i d m lt (subst (λ (xs : List Pending). Reaches (lane i c.tend_all.new.state) (slice_index_or xs i d) m) (sym value) reaches)));
      done = λ all. c.tend_all.ensures.done (c.turns.invariant.done all);
    }
