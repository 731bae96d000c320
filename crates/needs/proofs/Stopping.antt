-- A cycle that stops because a file is missing stops for the file that is listed.
use Rattle.std.proofs.Common.{◌≡◌, ℕ, zero, suc, ◌+◌, Bool, true, false, not, ◌&&◌, nat_le, List, codes, Option, Some, None, is_none, is_some, option_map, Result, Ok, Err, refl, sym, ap, ◌∙◌, true≢false, if◌then◌else◌}
use Rattle.std.specs.Option.{option_map_or}
use Rattle.cjson.specs.Document.{◌>>=◌, or_refuse}
use Rattle.cjson.specs.Form.{greatest}
use Rattle.meta.specs.Metadata.{Moment}
use Rattle.meta.specs.Content.{root_name, Part}
use Rattle.meta.specs.Metadata.{Root, Timestamp, Snapshot, Targets}
use Rattle.meta.specs.declared.fault.Fault.{Fault}
use Rattle.meta.specs.declared.fault.Fault.TheVariants.{NotListed, Expired}
use Rattle.examine.specs.Checks.{Files, is_absent, is_expired, expiry_check, root_part, first_timestamp, next_timestamp, snapshot_part, targets_part}
use Rattle.rolechain.specs.declared.end.Step.TheVariants as step
use Rattle.rolechain.specs.declared.end.Step.{Step}
use Rattle.rolechain.specs.Advance.{State, Advanced, or_stop, with_root, with_newer, with_snapshot, with_targets, listing_of, reading_in, due_root, due_timestamp, due_snapshot, top_targets, following, successor, followed, most_roots, unexpired, root_step, newer_timestamp, timestamp_step, listed_snapshot, snapshot_step, listed_targets, targets_step, steps, ended, advanced}
use Rattle.needs.specs.Laws.{is_short_end}
use Rattle.needs.specs.Needs.{Need, end_need, role_need, snapshot_need, step_need, timestamp_need}
use Rattle.needs.specs.declared.need.Place.TheVariants.{Metadata}
use Rattle.needs.proofs.Missing.{is_miss, denied, still, gone, one_then, lacks, passes, expiry-sure, root_part-miss, first_timestamp-miss, next_timestamp-miss, snapshot_part-miss, targets_part-miss}

-- a metadata file that must be there, and isn't
pub record IsGone (files : Files) (n : Need) : Type 0 where
  pub place : n.place ≡ Metadata
  pub needed : n.optional ≡ false
  pub absent : files n.name ≡ None

-- the need is that of a file that is gone
abbrev pub IsListed : Files → Option Need → Type 0
IsListed files o = (n : Need) × (o ≡ Some n) × IsGone files n

-- the file that a step stops for
abbrev pub stopped_for : Result State Advanced → Option Need
stopped_for (Ok s) = None
stopped_for (Err a) = end_need a.state a.end

abbrev pub is_short : Result State Advanced → Bool
is_short (Ok s) = false
is_short (Err a) = is_short_end a.end

-- a step that stops because a file is missing
abbrev pub Lists : Files → Result State Advanced → Type 0
Lists files r = is_short r ≡ true → IsListed files (stopped_for r)

module _ (files : Files) where
  lists-next : (r : Result State Advanced) (k : State → Result State Advanced) → Lists files r → ((s : State) → Lists files (k s)) → Lists files (r >>= k)
  lists-next (Ok s) k t more = more s
  lists-next (Err a) k t more = t

  -- a step that goes on from what was examined
  lists-step : {A : Type 0} (s : State) (at : Step) (r : Result A Fault) (w : A → State) → (is_miss r ≡ true → IsListed files (step_need s at)) → Lists files (or_stop s at r >>= λ x. Ok (w x))
  unfolding is_miss
  lists-step s at (Ok x) w h short = absurd (true≢false (sym short))
  lists-step s at (Err fault) w h short =
      let listed = h short in (listed.0, ap (λ b. if b then step_need s at else None) short ∙ listed.1, listed.2)

  module _ (now : Moment) where
    -- ---- roots

    following-sure : (r : Root) (file : Option (List ℕ)) → files (root_name (r.header.version + 1)) ≡ file → is_miss (following files r file) ≡ false
    following-sure r None h = passes _
    following-sure r (Some bytes) h =
        still (root_part (due_root r) (r.header.version + 1) files) _ (λ next. passes _)
        ∙ root_part-miss files (due_root r) (r.header.version + 1)
        ∙ ap is_none h

    successor-sure : (r : Root) → is_miss (successor files r) ≡ false
    successor-sure r = last (nat_le greatest r.header.version) (following files r (files (root_name (r.header.version + 1)))) (following-sure r (files (root_name (r.header.version + 1))) refl)
      where
        last : (b : Bool) (q : Result (Option (Part Root)) Fault) → is_miss q ≡ false → is_miss (if b then Ok None else q) ≡ false
        last true q h = passes _
        last false q h = h

    after_root : (most : ℕ) (s : State) (r : Result (Option (Part Root)) Fault) → is_miss r ≡ false → ((next : Part Root) → Lists files (followed files most (with_root s next)))
        → Lists files (or_stop s step.Root r >>= λ next. option_map_or (λ next. followed files most (with_root s next)) next (Ok s))
    unfolding is_miss
    after_root most s (Err fault) h more short = absurd (true≢false (sym short ∙ h))
    after_root most s (Ok None) h more short = absurd (true≢false (sym short))
    after_root most s (Ok (Some next)) h more short = more next short

    followed-lists : (most : ℕ) (s : State) → Lists files (followed files most s)
    unfolding followed
    followed-lists zero s = λ short. absurd (true≢false (sym short))
    followed-lists (suc most) s = after_root most s (successor files s.root.reading) (successor-sure s.root.reading) (λ next. followed-lists most (with_root s next))

    never : {A : Type 0} {P : Type 0} (r : Result A Fault) → is_miss r ≡ false → is_miss r ≡ true → P
    never r not_so so = absurd (true≢false (sym so ∙ not_so))

    root_step-lists : (s : State) → Lists files (root_step files now s)
    root_step-lists s =
        lists-next (followed files most_roots s) (unexpired files now) (followed-lists most_roots s)
        (λ s. lists-step s step.Root (expiry_check s.root.reading.header now) (λ _. s) (never (expiry_check s.root.reading.header now) (expiry-sure files s.root.reading.header now)))

    -- ---- the timestamp

    pub newer-miss : (r : Root) (old : Option (Part Timestamp)) → is_miss (newer_timestamp files now r old) ≡ lacks files (due_timestamp r)
    newer-miss r None = still (first_timestamp (due_timestamp r) files now) _ (λ p. passes _) ∙ first_timestamp-miss files (due_timestamp r) now
    newer-miss r (Some old) =
        still (next_timestamp (due_timestamp r) old.reading files now) _ (λ newer. one_then (not (is_some newer) && is_expired old.reading.header now) Expired newer refl)
        ∙ next_timestamp-miss files (due_timestamp r) old.reading now

    timestamp_step-lists : (s : State) → Lists files (timestamp_step files now s)
    timestamp_step-lists s =
        lists-step s step.Timestamp (newer_timestamp files now s.root.reading s.timestamp) (with_newer s)
        (λ miss. (
          timestamp_need,
          refl,
          record {
            place = refl;
            needed = refl;
            absent = gone false (files (codes "timestamp.json")) (sym (newer-miss s.root.reading s.timestamp) ∙ miss);
          },
        ))

    -- ---- the snapshot

    snapshot-lists : (r : Root) (old : Option Snapshot) (t : Option (Part Timestamp)) → is_miss (or_refuse (reading_in t) NotListed >>= λ t. snapshot_part (due_snapshot r t.snapshot) old files now) ≡ true
        → IsListed files (option_map (λ t. snapshot_need r t.reading.snapshot) t)
    snapshot-lists r old None miss = never _ (denied (Part Snapshot) NotListed refl) miss
    snapshot-lists r old (Some t) miss = (
      snapshot_need r t.reading.snapshot,
      refl,
      record {
        place = refl;
        needed = refl;
        absent = gone false _ (sym (snapshot_part-miss files (due_snapshot r t.reading.snapshot) old now) ∙ miss);
      },
    )

    snapshot_step-lists : (s : State) → Lists files (snapshot_step files now s)
    snapshot_step-lists s = lists-step s step.Snapshot (listed_snapshot files now s) (with_snapshot s) (snapshot-lists s.root.reading (reading_in s.snapshot) s.timestamp)

    -- ---- the top-level targets file

    targets-lists : (r : Root) (n : Option (Part Snapshot)) → is_miss (or_refuse (reading_in n) NotListed >>= λ n. targets_part (top_targets r n) files now) ≡ true
        → IsListed files (option_map (λ n. role_need r n.reading (codes "targets")) n)
    targets-lists r None miss = never _ (denied (Part Targets) NotListed refl) miss
    targets-lists r (Some n) miss = (
      role_need r n.reading (codes "targets"),
      refl,
      record {
        place = refl;
        needed = refl;
        absent = gone (is_absent (listing_of (codes "targets") n.reading)) _ (sym (targets_part-miss files (top_targets r n.reading) now) ∙ miss);
      },
    )

    targets_step-lists : (s : State) → Lists files (targets_step files now s)
    targets_step-lists s = lists-step s step.Targets (listed_targets files now s) (with_targets s) (targets-lists s.root.reading s.snapshot)

    -- ---- the whole

    steps-lists : (s : State) → Lists files (steps files now s)
    unfolding steps
    steps-lists s =
        lists-next (root_step files now s) _ (root_step-lists s)
        (λ s. lists-next (timestamp_step files now s) _ (timestamp_step-lists s)
        (λ s. lists-next (snapshot_step files now s) _ (snapshot_step-lists s) targets_step-lists))

    ended-lists : (r : Result State Advanced) → Lists files r → is_short_end (ended r).end ≡ true → IsListed files (end_need (ended r).state (ended r).end)
    ended-lists (Ok s) t short = absurd (true≢false (sym short))
    ended-lists (Err a) t short = t short

    -- a cycle that stops because a file is missing
    pub advanced-lists : (s : State) → is_short_end (advanced files now s).end ≡ true → IsListed files (end_need (advanced files now s).state (advanced files now s).end)
    advanced-lists s = ended-lists (steps files now s) (steps-lists s)
