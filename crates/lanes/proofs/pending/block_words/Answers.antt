use Rattle.std.proofs.Common.{◌≡◌, ℕ, ◌+◌, ◌*◌, arith, slice_index, slice_index_or, take, drop, [], ◌∷◌, List, ◌++◌, ◌∙◌}
use Rattle.sha2.specs.Sha256.{word_at}
use Rattle.lanes.specs.Lanes.{lane}
use Rattle.lanes.proofs.Blocks.{word_of}
use Rattle.lanes.proofs.Row.{of_sixteen}
use Rattle.lanes.proofs.pending.block_words.Goals as goal

pub returns-clause-blocks : goal.returns-clause-blocks
returns-clause-blocks g c =
    let first = c.eight.ensures ∙ (λ j. c.four.ensures j ++ c.four-2.ensures j) in
    let last = c.eight-2.ensures ∙ (λ j. c.four-3.ensures j ++ c.four-4.ensures j) in
    let made = c.sixteen.ensures ∙ (λ j. first j ++ last j) in
    λ i d lt.
    let p = slice_index_or c.args.pending.now i d in
    let at : ℕ = p.at + c.args.offset in
    let vs : List (List ℕ) = c.block_column.result ∷ c.block_column-2.result ∷ c.block_column-3.result ∷ c.block_column-4.result ∷ c.block_column-5.result ∷ c.block_column-6.result ∷ c.block_column-7.result ∷ c.block_column-8.result ∷ c.block_column-9.result ∷ c.block_column-10.result ∷ c.block_column-11.result ∷ c.block_column-12.result ∷ c.block_column-13.result ∷ c.block_column-14.result ∷ c.block_column-15.result ∷ c.block_column-16.result ∷ [] in
    rw made (of_sixteen (λ (k : ℕ). slice_index (lane i vs) k ≡ word_at (take 64 (drop at p.bytes.items)) (4 * k))
    (word_of p.bytes.items at 0 _ (omega arith) (c.block_column.ensures.words i d lt))
    (word_of p.bytes.items at 1 _ (omega arith) (c.block_column-2.ensures.words i d lt))
    (word_of p.bytes.items at 2 _ (omega arith) (c.block_column-3.ensures.words i d lt))
    (word_of p.bytes.items at 3 _ (omega arith) (c.block_column-4.ensures.words i d lt))
    (word_of p.bytes.items at 4 _ (omega arith) (c.block_column-5.ensures.words i d lt))
    (word_of p.bytes.items at 5 _ (omega arith) (c.block_column-6.ensures.words i d lt))
    (word_of p.bytes.items at 6 _ (omega arith) (c.block_column-7.ensures.words i d lt))
    (word_of p.bytes.items at 7 _ (omega arith) (c.block_column-8.ensures.words i d lt))
    (word_of p.bytes.items at 8 _ (omega arith) (c.block_column-9.ensures.words i d lt))
    (word_of p.bytes.items at 9 _ (omega arith) (c.block_column-10.ensures.words i d lt))
    (word_of p.bytes.items at 10 _ (omega arith) (c.block_column-11.ensures.words i d lt))
    (word_of p.bytes.items at 11 _ (omega arith) (c.block_column-12.ensures.words i d lt))
    (word_of p.bytes.items at 12 _ (omega arith) (c.block_column-13.ensures.words i d lt))
    (word_of p.bytes.items at 13 _ (omega arith) (c.block_column-14.ensures.words i d lt))
    (word_of p.bytes.items at 14 _ (omega arith) (c.block_column-15.ensures.words i d lt))
    (word_of p.bytes.items at 15 _ (omega arith) (c.block_column-16.ensures.words i d lt)))
