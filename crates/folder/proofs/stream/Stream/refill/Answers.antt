use Rattle.std.proofs.Common.{◌≡◌, ◌≢◌, ◌∙◌, ◌≤◌, ◌+◌, ◌⊎◌, ◌++◌, arith, refl, inl, inr, length, take, List, ℕ, ap, sym, subst}
use Rattle.std.proofs.lemmas.Bool.{cases_lt}
use Rattle.std.specs.Io.KnownBytes.{IsAtEnd}
use Rattle.sha2.specs.Sha256.{padded_message}
use Rattle.lanes.specs.Pending.{Reaches}
use Rattle.folder.proofs.Streaming.{end_read, more_read, written}
use Rattle.folder.proofs.stream.Stream.refill.Goals as goal

pub returns-then-count-eq-PIECE-clause-stream : goal.returns-then-count-eq-PIECE-clause-stream
returns-then-count-eq-PIECE-clause-stream g c = λ had hash drained.
    let room : List ℕ = c.read_most.new.room in
    let n : ℕ = c.in_ok-count.count in
    let most = c.most-most.ensures.count in
    let some = c.in_ok-count.ensures.within in
    let size : length room ≡ 32832 = c.read_most.auto.room ∙ ap length c.as_mut_slice.ensures.value ∙ c.requires.size in
    let piece : n ≡ 32768 = c.if-count-eq-PIECE.true in
    let whole = written _ room c.args.room.now.bytes.items (c.read_most.auto.room ∙ c.as_mut_slice.ensures.len) in
    more_read had _ _ hash c.args.room.now c.put_piece.new.self c.args.self.now _ room n drained
    c.in_ok-count.ensures.taken (omega (arith, size, piece)) (omega (arith, most, some)) refl refl drained.is_ended (omega (arith, piece))
    (λ m blocks after. subst (λ k. Reaches hash c.put_piece.new.self (m ++ take k room)) (sym piece)
    (subst (λ b. Reaches hash c.put_piece.new.self (m ++ take 32768 b)) whole (c.put_piece.ensures.reaches hash m blocks after)))

pub returns-clause-stream : goal.returns-clause-stream
returns-clause-stream g c = λ had hash drained.
    let room : List ℕ = c.read_most.new.room in
    let n : ℕ = c.in_ok-count.count in
    let most = c.most-most.ensures.count in
    let some = c.in_ok-count.ensures.within in
    let size : length room ≡ 32832 = c.read_most.auto.room ∙ ap length c.as_mut_slice.ensures.value ∙ c.requires.size in
    let whole = written _ room c.args.room.now.bytes.items (c.read_most.auto.room ∙ c.as_mut_slice.ensures.len) in
    let short : n ≢ 32768 = c.if-count-eq-PIECE.false in
    let done : (c.args.self.now.need.up_to ≤ c.args.self.now.length + n) ⊎ IsAtEnd (g.F.Read.remaining c.read_most.new.reader) =
    elim (cases_lt n c.most-most.result) [
      | inl few ↦ inr (c.in_ok-count.ensures.end few)
      | inr all ↦ inl (omega (arith, all, most, some, short))
    ] in
    end_read had _ _ hash c.args.room.now c.put_end.new.self c.args.self.now _ room n drained
    c.in_ok-count.ensures.taken (omega (arith, size, most, some)) (omega (arith, most, some)) refl refl refl done
    (λ m blocks count after. subst (λ b. Reaches hash c.put_end.new.self (padded_message (m ++ take n b))) whole (c.put_end.ensures.reaches hash m blocks count after))
