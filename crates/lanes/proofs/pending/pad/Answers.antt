use Rattle.std.proofs.Common.{◌≡◌, ◌∙◌, ◌+◌, ◌%◌, ◌-◌, ap, arith, refl, replicate, take, ◌∷◌, ◌++◌, drop, length, List, ℕ}
use Rattle.std.proofs.lemmas.Simd.{length-replicate}
use Rattle.sha2.proofs.Absorbing256.{padding-take}
use Rattle.lanes.proofs.Blocks.{taken_end}
use Rattle.lanes.proofs.pending.pad.Goals as goal

pub returns-clause-blocks : goal.returns-clause-blocks
returns-clause-blocks c = λ hash m whole count after.
    let old : List ℕ = c.args.bytes.now in
    let used : ℕ = c.args.used in
    let zeros : ℕ = (119 - used % 64) % 64 in
    let start : take (zeros + 1) (0x80 ∷ replicate 63 0) ≡ 0x80 ∷ replicate zeros 0 = padding-take 0x80 0 zeros (omega arith) in
    let size : length {A = ℕ} (0x80 ∷ replicate zeros 0) ≡ zeros + 1 = omega (arith, length-replicate {A = ℕ} zeros 0) in
    let first = c.put.ensures ∙ (λ e. take used old ++ start e ++ drop (used + length (start e)) old)
    ∙ ap (λ n. take used old ++ (0x80 ∷ replicate zeros 0) ++ drop (used + n) old) size in
    taken_end hash m old c.put.new.bytes c.put-2.new.bytes used zeros c.args.total _ whole count (omega (arith, c.requires.size, c.requires.used)) after refl refl
    first (rw c.to_be_bytes.ensures at c.put-2.ensures)
