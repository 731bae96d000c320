use Rattle.std.proofs.Common.{true, ◌≡◌, ◌∙◌, ◌+◌, ◌<◌, [], List, ℕ, Some, Result, Ok, Err, OnErr, ap, arith, get_or, length, map, set, string_bytes, refl, rules, subst, sym}
use Rattle.std.proofs.lemmas.Option.{slice_get-get_or, slice_get_read}
use Rattle.std.specs.List.{slice_get}
use Rattle.copies.specs.Paths.{is_below}
use Rattle.update.specs.Copies.{AreCopied, good_paths, is_good_at}
use Rattle.update.specs.Stored.{DecidesOne, placing_of, with_stored}
use Rattle.update.proofs.Copied.{IsDone, all_done, below_of, copy_for, flags_count, inside_paths, none_done, none_in, none_installed, once_copied, one_decided, one_skipped, path_at, same_count, tested}
use Rattle.update.proofs.installing.store_copies.Goals as goal
use Rattle.update.proofs.installing.store_copies.Goals.{then-index+in_ok-flags-2, else-index}

on_err : {A E : Type 0} (P : Type 0) (r : Result A E) → P → OnErr r P
on_err P (Ok x) p = tt
on_err P (Err e) p = p

pub loop-i-init : goal.loop-i-init
loop-i-init g c = record {
  done = none_done _ _ _ _ _ _ _ _ c.in_ok-flags.ensures.candidates (none_in _ c.new.ensures.empty) (none_in _ c.new-2.ensures.empty);
  obstacles = refl;
  locked = λ path h. h;
}

pub returns-in_err-flags-clause-begun : goal.returns-in_err-flags-clause-begun
returns-in_err-flags-clause-begun g c = on_err _ c.from_residual.result (none_installed _ _ _ _ _ _)

pub store_copy-requires : goal.store_copy-requires
store_copy-requires g c =
    let w : List (List ℕ) = map string_bytes c.args.wanted.now in
    let v = c.args.verdicts.now in
    let p : List ℕ = string_bytes c.index-wanted-i.result in
    let at : slice_get w c.loop-i.i ≡ Some p = path_at c.args.wanted.now c.loop-i.i c.index-wanted-i.result c.loop-i-test.true c.index-wanted-i.is in
    let done = c.loop-i.invariant.done in
    let inside : c.loop-i.i < length w = inside_paths c.args.wanted.now c.loop-i.i c.loop-i-test.true in
    let count : length c.loop-i.flags.items ≡ length w = flags_count _ _ _ _ _ _ _ _ _ _ (omega arith) done in
    let flag : slice_get c.loop-i.flags.items c.loop-i.i ≡ Some c.index.result.now = slice_get_read c.loop-i.flags.items (length c.loop-i.flags.items) c.loop-i.i c.index.result.now refl (omega arith) c.index.ensures in
    let is = tested _ _ _ _ _ c.loop-i.i c.loop-i.flags.items _ _ _ p at inside done c.index.result.now flag ∙ c.if-index.true in
    record { below = ap is_below c.as_str-path.ensures.value ∙ below_of (good_paths w v) p (is_good_at v c.loop-i.i) is }

pub loop-i-preserved : goal.loop-i-preserved
loop-i-preserved g c =
    let w : List (List ℕ) = map string_bytes c.args.wanted.now in
    let v = c.args.verdicts.now in
    let copies = c.args.copies.now in
    let took = g.D.Temporary.Temporary.wrote in
    let pl = placing_of g.D.Destination.site c.args.places.now (g.S.System.obstacles c.args.system.now) in
    let keeps = g.S.System.keeps in
    let locks = g.S.System.locks in
    let before = keeps c.args.system.now in
    let i = c.loop-i.i in
    let done = c.loop-i.invariant.done in
    let inside : i < length w = inside_paths c.args.wanted.now i c.loop-i-test.true in
    let count : length c.loop-i.flags.items ≡ length w = flags_count pl took w v copies i c.loop-i.flags.items c.loop-i.decided before (keeps c.loop-i.system) (omega arith) done in
    let flag : slice_get c.loop-i.flags.items i ≡ Some c.index.result.now = slice_get_read c.loop-i.flags.items (length c.loop-i.flags.items) i c.index.result.now refl (omega arith) c.index.ensures in
    elim c.if-index.branch [
      | then-index+in_ok-flags-2 b ↦
          let p : List ℕ = string_bytes b.index-wanted-i.result in
          let at : slice_get w i ≡ Some p = path_at c.args.wanted.now i b.index-wanted-i.result c.loop-i-test.true b.index-wanted-i.is in
          let q : b.as_str-path.result.now ≡ p = b.as_str-path.ensures.value in
          let is : c.if-index.flags.items ≡ set c.loop-i.flags.items i b.in_ok-flags-2.field-0 = search rules in
          let new = b.in_ok-flags-2.ensures in
          let same = c.loop-i.invariant.obstacles in
          let decides : DecidesOne pl c.loop-i.decided b.store_copy.new.decided p b.in_ok-flags-2.field-0 =
          subst (λ z. DecidesOne pl c.loop-i.decided b.store_copy.new.decided z b.in_ok-flags-2.field-0) q
          (subst (λ k. DecidesOne (placing_of g.D.Destination.site c.args.places.now k) c.loop-i.decided b.store_copy.new.decided b.as_str-path.result.now b.in_ok-flags-2.field-0) same new.decided) in
          record {
            done = subst (λ d. IsDone pl took w v copies (i + 1) c.if-index.flags.items d before (keeps c.if-index.system)) (sym b.decided-is)
                (subst (λ t. IsDone pl took w v copies (i + 1) c.if-index.flags.items b.store_copy.new.decided before (keeps t)) (sym b.system-is)
                (one_decided pl took w v copies i c.loop-i.flags.items c.loop-i.decided before (keeps c.loop-i.system) p at inside done b.in_ok-flags-2.field-0 c.if-index.flags.items b.store_copy.new.decided
                (keeps b.store_copy.new.system) (flag ∙ ap Some b.if-index.true) is decides
                (λ found all h has was. subst (λ z. AreCopied pl.site.path pl.state found (with_stored all z b.in_ok-flags-2.field-0) before (keeps b.store_copy.new.system)) q
                (once_copied pl.site.path pl.state c.loop-i.decided.stored found all b.as_str-path.result.now b.in_ok-flags-2.field-0 before _ _ has was new.again
                (new.copied (found b.as_str-path.result.now)
                (copy_for took w copies i b.as_str-path.result.now _ b.copy_at-copy.ensures (at ∙ ap Some (sym q)) found h))
                new.not_stored new.others))
                new.spared new.outside));
            obstacles = ap g.S.System.obstacles b.system-is ∙ new.same_obstacles ∙ same;
            locked = λ path h. subst (λ t. locks t path ≡ true) (sym b.system-is) (new.locked path (c.loop-i.invariant.locked path h));
          }
      | else-index b ↦
          let p : List ℕ = get_or w i [] in
          record {
            done = subst (λ d. IsDone pl took w v copies (i + 1) c.if-index.flags.items d before (keeps c.if-index.system)) (sym b.decided-is)
                (subst (λ t. IsDone pl took w v copies (i + 1) c.if-index.flags.items c.loop-i.decided before (keeps t)) (sym b.system-is)
                (subst (λ f. IsDone pl took w v copies (i + 1) f.items c.loop-i.decided before (keeps c.loop-i.system)) (sym b.flags-is)
                (one_skipped pl took w v copies i c.loop-i.flags.items c.loop-i.decided before (keeps c.loop-i.system) p (slice_get-get_or w i [] inside) inside done (flag ∙ ap Some b.if-index.false))));
            obstacles = ap g.S.System.obstacles b.system-is ∙ c.loop-i.invariant.obstacles;
            locked = λ path h. subst (λ t. locks t path ≡ true) (sym b.system-is) (c.loop-i.invariant.locked path h);
          }
    ]

pub returns-clause-stored : goal.returns-clause-stored
returns-clause-stored g c = all_done _ _ _ _ _ _ _ _ _ _ (same_count c.args.wanted.now _ c.loop-i-test.false) c.loop-i.invariant.done
