use Rattle.std.proofs.Common.{◌<◌, length, map, slice_index_or, Err, inr, ap, arith}
use Rattle.seals.specs.Sealed.{holder}
use Rattle.seals.proofs.Seals.{signers_kept, used_if, used_up_at, none_more, ok_err, used_unless, never_used_up, holder_at, entries_more, leaves_more, spent_or_not}
use Rattle.seals.proofs.sealing.entries.Goals as goal
use Rattle.std.proofs.lemmas.Grind.{common_steps}

pub returns-in_err-entry-clause-kept : goal.returns-in_err-entry-clause-kept
returns-in_err-entry-clause-kept c =
    signers_kept c.args.signers.now c.loop-place.signers (slice_index_or c.args.by.now c.loop-place.place-index 0)
    c.index-signers-place.result c.entry.new.signer c.entry.ensures.kept c.loop-place.invariant.kept

pub returns-in_err-push-clause-kept : goal.returns-in_err-push-clause-kept
returns-in_err-push-clause-kept c =
    signers_kept c.args.signers.now c.loop-place.signers (slice_index_or c.args.by.now c.loop-place.place-index 0)
    c.index-signers-place.result c.entry.new.signer c.entry.ensures.kept c.loop-place.invariant.kept

pub returns-in_err-entry-clause-used : goal.returns-in_err-entry-clause-used
returns-in_err-entry-clause-used c =
    let within = c.requires c.loop-place.place-index 0 c.loop-place-test.true in
    let there : slice_index_or c.args.by.now c.loop-place.place-index 0 < length c.loop-place.signers = omega arith in
    used_if _ c.in_err-entry.field-0.0 _ c.from_residual-in_err-entry.ensures.1 (λ line is. c.in_err-entry.ensures.no_script line (ap Err is))
    (λ is. used_up_at c.args.signers.now c.loop-place.signers c.args.by.now c.loop-place.place-index c.index-signers-place.result
    c.loop-place-test.true there (c.in_err-entry.ensures.used.0 (ap Err is)) c.loop-place.invariant.kept c.loop-place.invariant.leaves)

pub returns-in_err-entry-clause-spent : goal.returns-in_err-entry-clause-spent
returns-in_err-entry-clause-spent c =
    let within = c.requires c.loop-place.place-index 0 c.loop-place-test.true in
    let there : slice_index_or c.args.by.now c.loop-place.place-index 0 < length c.loop-place.signers = omega arith in
    spent_or_not _ c.args.signers.now c.loop-place.signers c.args.by.now c.loop-place.place-index c.index-signers-place.result
    c.entry.new.signer c.loop-place-test.true there c.in_err-entry.ensures.spent c.loop-place.invariant.leaves

pub returns-in_err-push-clause-spent : goal.returns-in_err-push-clause-spent
returns-in_err-push-clause-spent c =
    let within = c.requires c.loop-place.place-index 0 c.loop-place-test.true in
    let there : slice_index_or c.args.by.now c.loop-place.place-index 0 < length c.loop-place.signers = omega arith in
    spent_or_not _ c.args.signers.now c.loop-place.signers c.args.by.now c.loop-place.place-index c.index-signers-place.result
    c.entry.new.signer c.loop-place-test.true there (inr c.in_ok-entry.ensures.leaf) c.loop-place.invariant.leaves

pub loop-place-preserved : goal.loop-place-preserved
loop-place-preserved c =
    let so_far = c.loop-place.invariant.made in
    let made = c.in_ok-entry.ensures.entry in
    let place = slice_index_or c.args.by.now c.loop-place.place-index 0 in
    let before = c.index-signers-place.result in
    let within = c.requires c.loop-place.place-index 0 c.loop-place-test.true in
    let there : slice_index_or c.args.by.now c.loop-place.place-index 0 < length c.loop-place.signers = omega arith in
    let at = holder_at c.args.signers.now c.loop-place.signers place before there c.loop-place.invariant.kept in
    let more = entries_more (map holder c.args.signers.now) c.args.by.now c.args.text.now c.loop-place.place-index
    c.loop-place.entries.items so_far.0 c.in_ok-entry.field-0 made.0 _ c.loop-place-test.true at so_far.1 so_far.2 made.1 made.2 in
    record {
      made = rw c.in_ok-push.ensures.items more;
      kept = signers_kept c.args.signers.now c.loop-place.signers place before c.entry.new.signer c.entry.ensures.kept
          c.loop-place.invariant.kept;
      leaves = leaves_more c.args.signers.now c.loop-place.signers c.args.by.now c.loop-place.place-index before
          c.entry.new.signer c.loop-place-test.true there c.in_ok-entry.ensures.leaf c.loop-place.invariant.leaves;
      left = none_more c.args.signers.now c.loop-place.signers c.args.by.now c.loop-place.place-index before there
          (λ none. ok_err _ _ (c.in_ok-entry.ensures.used.1 none))
          c.loop-place.invariant.kept c.loop-place.invariant.leaves c.loop-place.invariant.left;
    }

pub returns-clause-entries : goal.returns-clause-entries
returns-clause-entries = grind (arith, common_steps)

pub returns-clause-used : goal.returns-clause-used
returns-clause-used c = λ _. used_unless _ _ (never_used_up _ _ _ c.loop-place-test.false c.loop-place.invariant.left)
