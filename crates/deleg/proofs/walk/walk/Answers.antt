use Rattle.std.proofs.Common.{◌∙◌, List, IfSome, IsTrue, slice_get, subst, sym, ap, arith}
use Rattle.deleg.specs.declared.accepted.Accepted.{Accepted}
use Rattle.deleg.specs.declared.found.Found.TheVariants.{NotFound}
use Rattle.deleg.specs.Glue.{outlook, pending}
use Rattle.deleg.specs.Search.{Edge, is_for}
use Rattle.deleg.proofs.Stack.{first_is_for, left_file, ended, skipped_one, entered_one, nothing_left, fewer_files, fewer_tries, fewer_roles}
use Rattle.deleg.proofs.walk.walk.Goals as goal

pub follow-requires-clause-first : goal.follow-requires-clause-first
follow-requires-clause-first g c =
    let path = c.args.query.now.path.now in
    subst (λ (es : List Edge). IfSome (slice_get es 0) (λ e. IsTrue (is_for path e))) (sym c.skip_others.ensures) (first_is_for path c.in-Some.frame)

pub loop-frame-preserved : goal.loop-frame-preserved
loop-frame-preserved g c =
    let q = c.args.query.now in
    record {
      same = c.loop-frame.invariant.same
          ∙ entered_one q c.loop-frame.stack.items c.pop.new.self.items c.in-Some.frame c.skip_others.new.self c.in-Some.ensures.items c.skip_others.ensures c.loop-frame.seen.items c.follow.new.seen.items c.in-Enters.terminating c.in-Enters.below c.put_back-in-Enters.new.stack.items c.push.new.self.items
          (rw c.in-Enters.is at (c.in_ok-follow.ensures.step (pending q.path.now c.pop.new.self.items))) c.in_ok-put_back-in-Enters.ensures c.in_ok-push-in-Enters.ensures.items;
      cache = c.follow.ensures.cache;
    }

pub loop-frame-smaller : goal.loop-frame-smaller
loop-frame-smaller g c =
    fewer_roles c.args.query.now c.loop-frame.stack.items c.pop.new.self.items c.in-Some.frame c.skip_others.new.self c.in-Some.ensures.items c.skip_others.ensures c.loop-frame.seen.items c.follow.new.seen.items c.in-Enters.terminating c.in-Enters.below c.put_back-in-Enters.new.stack.items c.push.new.self.items
    (rw c.in-Enters.is at c.in_ok-follow.ensures.progress) c.in_ok-put_back-in-Enters.ensures c.in_ok-push-in-Enters.ensures.items

pub returns-in-Ends-clause-searched : goal.returns-in-Ends-clause-searched
returns-in-Ends-clause-searched g c =
    let q = c.args.query.now in
    ap (λ (a : List Accepted). record { found = c.in-Ends.found; accepted = a }) c.new-accepted.ensures.value
    ∙ sym (c.loop-frame.invariant.same
    ∙ ended q c.loop-frame.stack.items c.pop.new.self.items c.in-Some.frame c.skip_others.new.self c.in-Some.ensures.items c.skip_others.ensures c.loop-frame.seen.items c.follow.new.seen.items c.in-Ends.found
    (rw c.in-Ends.is at (c.in_ok-follow.ensures.step (pending q.path.now c.pop.new.self.items))))
    ∙ ap (outlook q (pending q.path.now c.args.stack.items)) c.new-seen.ensures.items

pub returns-clause-searched : goal.returns-clause-searched
returns-clause-searched g c =
    let q = c.args.query.now in
    ap (λ (a : List Accepted). record { found = NotFound; accepted = a }) c.new.ensures.value
    ∙ sym (c.loop-frame.invariant.same ∙ nothing_left q c.loop-frame.stack.items c.loop-frame.seen.items (omega (arith, c.in_default.ensures.cases.0)))
    ∙ ap (outlook q (pending q.path.now c.args.stack.items)) c.new-seen.ensures.items

pub loop-frame-preserved-in-Leaves-1 : goal.loop-frame-preserved-in-Leaves-1
loop-frame-preserved-in-Leaves-1 g c =
    let q = c.args.query.now in
    record {
      same = c.loop-frame.invariant.same
          ∙ left_file q c.loop-frame.stack.items c.pop.new.self.items c.in-Some.frame c.skip_others.new.self c.in-Some.ensures.items c.skip_others.ensures c.loop-frame.seen.items c.follow.new.seen.items
          (rw c.in-Leaves.is at (c.in_ok-follow.ensures.step (pending q.path.now c.pop.new.self.items)));
      cache = c.follow.ensures.cache;
    }

pub loop-frame-smaller-in-Leaves-1 : goal.loop-frame-smaller-in-Leaves-1
loop-frame-smaller-in-Leaves-1 g c =
    fewer_files c.args.query.now c.loop-frame.stack.items c.pop.new.self.items c.in-Some.frame c.skip_others.new.self c.in-Some.ensures.items c.skip_others.ensures c.loop-frame.seen.items c.follow.new.seen.items
    (rw c.in-Leaves.is at c.in_ok-follow.ensures.progress)

pub loop-frame-preserved-in-Continue-branch-3 : goal.loop-frame-preserved-in-Continue-branch-3
loop-frame-preserved-in-Continue-branch-3 g c =
    let q = c.args.query.now in
    record {
      same = c.loop-frame.invariant.same
          ∙ skipped_one q c.loop-frame.stack.items c.pop.new.self.items c.in-Some.frame c.skip_others.new.self c.in-Some.ensures.items c.skip_others.ensures c.loop-frame.seen.items c.follow.new.seen.items c.in-Skips.terminating c.put_back.new.stack.items
          (rw c.in-Skips.is at (c.in_ok-follow.ensures.step (pending q.path.now c.pop.new.self.items))) c.in_ok-put_back-in-Skips.ensures;
      cache = c.follow.ensures.cache;
    }

pub loop-frame-smaller-in-Continue-branch-3 : goal.loop-frame-smaller-in-Continue-branch-3
loop-frame-smaller-in-Continue-branch-3 g c =
    fewer_tries c.args.query.now c.loop-frame.stack.items c.pop.new.self.items c.in-Some.frame c.skip_others.new.self c.in-Some.ensures.items c.skip_others.ensures c.loop-frame.seen.items c.follow.new.seen.items c.in-Skips.terminating c.put_back.new.stack.items
    (rw c.in-Skips.is at c.in_ok-follow.ensures.progress) c.in_ok-put_back-in-Skips.ensures
