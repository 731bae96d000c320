-- Files that have all that these files have, and none of the files that are listed, give the same
-- course.
use Rattle.std.proofs.Common.{◌≡◌, ℕ, zero, suc, ◌+◌, ◌<◌, ◌==◌, Bool, true, false, not, ◌&&◌, nat_le, List, codes, Option, Some, None, is_none, option_map, Result, Ok, Err, IfSome, refl, sym, ap, ◌∙◌, subst, true≢false, arith, if◌then◌else◌}
use Rattle.std.specs.Bool.{⊤}
use Rattle.std.specs.Option.{option_map_or}
use Rattle.std.proofs.lemmas.Bool.{not-false}
use Rattle.std.proofs.lemmas.Bool.Decides.{Decides-eqb}
use Rattle.std.proofs.lemmas.Option.{none-some}
use Rattle.cjson.specs.Document.{◌>>=◌, refuse_if, or_refuse}
use Rattle.cjson.specs.Form.{greatest}
use Rattle.meta.specs.Metadata.{Moment}
use Rattle.meta.specs.Content.{root_name, root_limit, timestamp_limit, snapshot_limit, targets_limit, Part}
use Rattle.meta.specs.Metadata.{Form, Root, Timestamp, Snapshot, Targets}
use Rattle.meta.specs.Metadata as form
use Rattle.meta.specs.declared.fault.Fault.{Fault}
use Rattle.meta.specs.declared.fault.Fault.TheVariants.{NotListed, Missing, Unsigned, VersionWrong}
use Rattle.examine.specs.Checks.{Files, Expectation, is_absent, is_signed, is_version_wrong, signed_candidate, root_part, first_timestamp, next_timestamp, snapshot_part, targets_part}
use Rattle.rolechain.specs.declared.end.Step.TheVariants as step
use Rattle.rolechain.specs.declared.end.Step.{Step}
use Rattle.rolechain.specs.Advance.{State, Advanced, or_stop, is_rotated, with_root, with_newer, with_snapshot, with_targets, reading_in, due_root, due_timestamp, due_snapshot, top_targets, following, successor, followed, most_roots, unexpired, root_step, newer_timestamp, timestamp_step, listed_snapshot, snapshot_step, listed_targets, targets_step, steps}
use Rattle.needs.specs.Needs.{Need, role_need, snapshot_need, step_need, timestamp_need}
use Rattle.needs.proofs.Missing.{is_miss, lacks, snapshot_part-miss, targets_part-miss}
use Rattle.needs.proofs.Stopping.{newer-miss, stopped_for}

-- ---- results in order

-- the same steps after what agrees
before : {A B E : Type 0} (r s : Result A E) (k : A → Result B E) → r ≡ s → (r >>= k) ≡ (s >>= k)
before r s k e = ap (λ t. t >>= k) e

bind : {A B E : Type 0} (r s : Result A E) (k l : A → Result B E) → r ≡ s → ((x : A) → r ≡ Ok x → k x ≡ l x) → (r >>= k) ≡ (s >>= l)
bind (Ok x) s k l e h = h x refl ∙ ap (λ t. t >>= l) e
bind (Err x) s k l e h = ap (λ t. t >>= l) e

bind_ok : {A B E : Type 0} (r : Result A E) (f : A → Result B E) (y : B) → (r >>= f) ≡ Ok y → (x : A) × (r ≡ Ok x) × (f x ≡ Ok y)
bind_ok (Ok x) f y h = (x, refl, h)
bind_ok (Err e) f y h = absurd (cc)

passed : {E : Type 0} (b : Bool) (e : E) (x : ⊤) → refuse_if b e ≡ Ok x → b ≡ false
passed true e x h = absurd (cc)
passed false e x h = refl

same_ok : {A E : Type 0} (x y : A) → ◌≡◌ {A = Result A E} (Ok x) (Ok y) → x ≡ y
same_ok x y h = cc

-- ---- the version of the next root

root_version : (files : Files) (e : Expectation) (due : ℕ) (p : Part Root) → root_part e due files ≡ Ok p → p.reading.header.version ≡ due
root_version files e due p h =
    let c = bind_ok (signed_candidate form.root root_limit e files) _ p h in
    let root : Root = c.0.part.reading in
    let own = bind_ok (refuse_if (not (is_signed root.ring root.root c.0.doc)) Unsigned) _ p c.2 in
    let fine = bind_ok (refuse_if (is_version_wrong (Some due) root.header) VersionWrong) _ p own.2 in
    let right : (due == root.header.version) ≡ true = not-false _ (passed (is_version_wrong (Some due) root.header) VersionWrong fine.0 fine.1) in
    ap (λ (q : Part Root). q.reading.header.version) (sym (same_ok c.0.part p fine.2)) ∙ sym ((Decides-eqb due root.header.version).0 right)

with_root-root : (s : State) (p : Part Root) → (with_root s p).root ≡ p
with_root-root s p = pick (is_rotated s.root.reading p.reading) _ _ refl refl
  where
    pick : (b : Bool) (s t : State) → s.root ≡ p → t.root ≡ p → (if b then s else t).root ≡ p
    pick true s t h k = h
    pick false s t h k = k

stop_ok : {A : Type 0} (s : State) (at : Step) (r : Result A Fault) (x : A) → or_stop s at r ≡ Ok x → r ≡ Ok x
stop_ok s at (Ok y) x h = ap Ok (same_ok y x h)
stop_ok s at (Err fault) x h = absurd (cc)

module _ (files : Files) where
  following_version : (r : Root) (file : Option (List ℕ)) (p : Part Root) → following files r file ≡ Ok (Some p) → p.reading.header.version ≡ r.header.version + 1
  following_version r None p h = absurd (none-some p (same_ok None (Some p) h))
  following_version r (Some bytes) p h =
      let next = bind_ok (root_part (due_root r) (r.header.version + 1) files) _ (Some p) h in
      let same : next.0 ≡ p = same_some next.0 p (same_ok (Some next.0) (Some p) next.2) in
      ap (λ (q : Part Root). q.reading.header.version) (sym same) ∙ root_version files (due_root r) (r.header.version + 1) next.0 next.1
    where
      same_some : (x y : Part Root) → Some x ≡ Some y → x ≡ y
      same_some x y h = cc

  successor_version : (r : Root) (p : Part Root) → successor files r ≡ Ok (Some p) → p.reading.header.version ≡ r.header.version + 1
  successor_version r p h = pick (nat_le greatest r.header.version) h
    where
      pick : (b : Bool) → (if b then Ok None else following files r (files (root_name (r.header.version + 1)))) ≡ Ok (Some p) → p.reading.header.version ≡ r.header.version + 1
      pick true h = absurd (none-some p (same_ok None (Some p) h))
      pick false h = following_version r (files (root_name (r.header.version + 1))) p h

-- ---- files that have more

module _ (f g : Files) (kept : (name : List ℕ) → IfSome (f name) (λ bytes. g name ≡ Some bytes)) where
  -- a file that must be there and isn't in the one is in neither
  abbrev pub Alike : Expectation → Type 0
  Alike e = lacks f e ≡ true → g e.name ≡ None

  agree : {A : Type 0} (b : Bool) (x y : Option (List ℕ)) (checks : List ℕ → Result A Fault) → IfSome x (λ bytes. y ≡ Some bytes) → ((not b && is_none x) ≡ true → y ≡ None)
      → (refuse_if b NotListed >>= λ _. or_refuse x Missing >>= checks) ≡ (refuse_if b NotListed >>= λ _. or_refuse y Missing >>= checks)
  agree true x y checks k h = refl
  agree false None y checks k h = ap (λ o. or_refuse o Missing >>= checks) (sym (h refl))
  agree false (Some bytes) y checks k h = ap (λ o. or_refuse o Missing >>= checks) (sym k)

  same_signed : (A : Type 0) (form : Form A) (limit : ℕ) (e : Expectation) → Alike e → signed_candidate form limit e f ≡ signed_candidate form limit e g
  same_signed A form limit e h = agree (is_absent e.listed) (f e.name) (g e.name) _ (kept e.name) h

  -- ---- the files of each kind

  same_root_part : (e : Expectation) (due : ℕ) → Alike e → root_part e due f ≡ root_part e due g
  same_root_part e due h = before (signed_candidate form.root root_limit e f) (signed_candidate form.root root_limit e g) _ (same_signed Root form.root root_limit e h)

  same_first_timestamp : (e : Expectation) (now : Moment) → Alike e → first_timestamp e f now ≡ first_timestamp e g now
  same_first_timestamp e now h = before (signed_candidate form.timestamp timestamp_limit e f) (signed_candidate form.timestamp timestamp_limit e g) _ (same_signed Timestamp form.timestamp timestamp_limit e h)

  same_next_timestamp : (e : Expectation) (old : Timestamp) (now : Moment) → Alike e → next_timestamp e old f now ≡ next_timestamp e old g now
  same_next_timestamp e old now h = before (signed_candidate form.timestamp timestamp_limit e f) (signed_candidate form.timestamp timestamp_limit e g) _ (same_signed Timestamp form.timestamp timestamp_limit e h)

  same_snapshot_part : (e : Expectation) (old : Option Snapshot) (now : Moment) → Alike e → snapshot_part e old f now ≡ snapshot_part e old g now
  same_snapshot_part e old now h = before (signed_candidate form.snapshot snapshot_limit e f) (signed_candidate form.snapshot snapshot_limit e g) _ (same_signed Snapshot form.snapshot snapshot_limit e h)

  pub same_targets_part : (e : Expectation) (now : Moment) → Alike e → targets_part e f now ≡ targets_part e g now
  same_targets_part e now h = before (signed_candidate form.targets targets_limit e f) (signed_candidate form.targets targets_limit e g) _ (same_signed Targets form.targets targets_limit e h)

  -- ---- roots

  abbrev pub next_name : Root → List ℕ
  next_name r = root_name (r.header.version + 1)

  same_following : (r : Root) (x y : Option (List ℕ)) → f (next_name r) ≡ x → IfSome x (λ bytes. y ≡ Some bytes) → (x ≡ None → y ≡ None) → following f r x ≡ following g r y
  same_following r None None is k h = refl
  same_following r None (Some b) is k h = absurd (none-some b (sym (h refl)))
  same_following r (Some a) None is k h = absurd (none-some a k)
  same_following r (Some a) (Some b) is k h =
      before (root_part (due_root r) (r.header.version + 1) f) (root_part (due_root r) (r.header.version + 1) g) _
      (same_root_part (due_root r) (r.header.version + 1) (λ lack. absurd (true≢false (sym lack ∙ ap is_none is))))

  -- the next root is missing in both
  abbrev pub NoNext : Root → Type 0
  NoNext r = nat_le greatest r.header.version ≡ false → f (next_name r) ≡ None → g (next_name r) ≡ None

  same_successor : (r : Root) → NoNext r → successor f r ≡ successor g r
  same_successor r h = pick (nat_le greatest r.header.version) (λ is. same_following r (f (next_name r)) (g (next_name r)) refl (kept (next_name r)) (h is))
    where
      pick : {y z : Result (Option (Part Root)) Fault} (b : Bool) → (b ≡ false → y ≡ z) → (if b then Ok None else y) ≡ (if b then Ok None else z)
      pick true h = refl
      pick false h = h refl

  no_successor : (r : Root) → nat_le greatest r.header.version ≡ false → f (next_name r) ≡ None → successor f r ≡ Ok None
  no_successor r greater none = ap (λ b. if b then Ok None else following f r (f (next_name r))) greater ∙ ap (following f r) none

  -- after the last root that is accepted, with `most` roots to go
  abbrev pub Last : ℕ → State → Type 0
  Last most s = (t : State) → followed f most s ≡ Ok t → t.root.reading.header.version < s.root.reading.header.version + most → NoNext t.root.reading

  abbrev onward : Files → ℕ → State → Option (Part Root) → Result State Advanced
  onward files most s next = option_map_or (λ p. followed files most (with_root s p)) next (Ok s)

  same_onward : (most : ℕ) (s : State) → ((t : State) → (or_stop s step.Root (successor f s.root.reading) >>= onward f most s) ≡ Ok t → t.root.reading.header.version < s.root.reading.header.version + suc most → NoNext t.root.reading)
      → ((p : Part Root) → Last most (with_root s p) → followed f most (with_root s p) ≡ followed g most (with_root s p))
      → (next : Option (Part Root)) → or_stop s step.Root (successor f s.root.reading) ≡ Ok next → onward f most s next ≡ onward g most s next
  same_onward most s last more None is = refl
  same_onward most s last more (Some p) is =
      let version : (with_root s p).root.reading.header.version ≡ s.root.reading.header.version + 1 =
      ap (λ (q : Part Root). q.reading.header.version) (with_root-root s p) ∙ successor_version f s.root.reading p (stop_ok s step.Root (successor f s.root.reading) (Some p) is) in
      more p (λ t q less. last t (ap (λ o. o >>= onward f most s) is ∙ q) (omega (arith, version, less)))

  same_followed : (most : ℕ) (s : State) → Last most s → followed f most s ≡ followed g most s
  unfolding followed
  same_followed zero s last = refl
  same_followed (suc most) s last =
      let r : Root = s.root.reading in
      bind (or_stop s step.Root (successor f r)) (or_stop s step.Root (successor g r)) (onward f most s) (onward g most s)
      (ap (or_stop s step.Root) (same_successor r (λ greater none. last s (ap (λ q. or_stop s step.Root q >>= onward f most s) (no_successor r greater none)) (omega arith) greater none)))
      (same_onward most s last (λ p h. same_followed most (with_root s p) h))

  -- ---- what a step stops for is missing in both

  abbrev pub Known : Result State Advanced → Type 0
  Known r = (n : Need) → stopped_for r ≡ Some n → g n.name ≡ None

  known-first : (r : Result State Advanced) (k : State → Result State Advanced) → Known (r >>= k) → Known r
  known-first (Ok s) k h = λ n is. absurd (none-some n is)
  known-first (Err a) k h = h

  known-next : (r : Result State Advanced) (k : State → Result State Advanced) (s : State) → Known (r >>= k) → r ≡ Ok s → Known (k s)
  known-next r k s h is = subst (λ r. Known (r >>= k)) is h

  -- the file of a step
  known-step : {A : Type 0} (s : State) (at : Step) (r : Result A Fault) (w : A → State) → Known (or_stop s at r >>= λ x. Ok (w x)) → is_miss r ≡ true → (n : Need) → step_need s at ≡ Some n → g n.name ≡ None
  unfolding is_miss
  known-step s at (Ok x) w h miss n is = absurd (true≢false (sym miss))
  known-step s at (Err fault) w h miss n is = h n (ap (λ b. if b then step_need s at else None) miss ∙ is)

  -- a step that goes on from what was examined
  after : {A : Type 0} (s : State) (at : Step) (r q : Result A Fault) (w : A → State) → r ≡ q → (or_stop s at r >>= λ x. Ok (w x)) ≡ (or_stop s at q >>= λ x. Ok (w x))
  after s at r q w e = ap (λ t. or_stop s at t >>= λ x. Ok (w x)) e

  module _ (now : Moment) where
    same_newer : (r : Root) (old : Option (Part Timestamp)) → Alike (due_timestamp r) → newer_timestamp f now r old ≡ newer_timestamp g now r old
    same_newer r None h = before (first_timestamp (due_timestamp r) f now) (first_timestamp (due_timestamp r) g now) _ (same_first_timestamp (due_timestamp r) now h)
    same_newer r (Some old) h = before (next_timestamp (due_timestamp r) old.reading f now) (next_timestamp (due_timestamp r) old.reading g now) _ (same_next_timestamp (due_timestamp r) old.reading now h)

    same_timestamp_step : (s : State) → Known (timestamp_step f now s) → timestamp_step f now s ≡ timestamp_step g now s
    same_timestamp_step s h =
        let r = newer_timestamp f now s.root.reading s.timestamp in
        after s step.Timestamp r (newer_timestamp g now s.root.reading s.timestamp) (with_newer s)
        (same_newer s.root.reading s.timestamp
        (λ lack. known-step s step.Timestamp r (with_newer s) h (newer-miss f now s.root.reading s.timestamp ∙ lack) timestamp_need refl))

    same_snapshot : (r : Root) (old : Option Snapshot) (t : Option (Part Timestamp))
        → (is_miss (or_refuse (reading_in t) NotListed >>= λ t. snapshot_part (due_snapshot r t.snapshot) old f now) ≡ true → (n : Need) → option_map (λ t. snapshot_need r t.reading.snapshot) t ≡ Some n → g n.name ≡ None)
        → (or_refuse (reading_in t) NotListed >>= λ t. snapshot_part (due_snapshot r t.snapshot) old f now) ≡ (or_refuse (reading_in t) NotListed >>= λ t. snapshot_part (due_snapshot r t.snapshot) old g now)
    same_snapshot r old None h = refl
    same_snapshot r old (Some t) h =
        same_snapshot_part (due_snapshot r t.reading.snapshot) old now
        (λ lack. h (snapshot_part-miss f (due_snapshot r t.reading.snapshot) old now ∙ lack) (snapshot_need r t.reading.snapshot) refl)

    same_snapshot_step : (s : State) → Known (snapshot_step f now s) → snapshot_step f now s ≡ snapshot_step g now s
    same_snapshot_step s h =
        after s step.Snapshot (listed_snapshot f now s) (listed_snapshot g now s) (with_snapshot s)
        (same_snapshot s.root.reading (reading_in s.snapshot) s.timestamp (known-step s step.Snapshot (listed_snapshot f now s) (with_snapshot s) h))

    same_targets : (r : Root) (n : Option (Part Snapshot))
        → (is_miss (or_refuse (reading_in n) NotListed >>= λ n. targets_part (top_targets r n) f now) ≡ true → (m : Need) → option_map (λ n. role_need r n.reading (codes "targets")) n ≡ Some m → g m.name ≡ None)
        → (or_refuse (reading_in n) NotListed >>= λ n. targets_part (top_targets r n) f now) ≡ (or_refuse (reading_in n) NotListed >>= λ n. targets_part (top_targets r n) g now)
    same_targets r None h = refl
    same_targets r (Some n) h =
        same_targets_part (top_targets r n.reading) now
        (λ lack. h (targets_part-miss f (top_targets r n.reading) now ∙ lack) (role_need r n.reading (codes "targets")) refl)

    same_targets_step : (s : State) → Known (targets_step f now s) → targets_step f now s ≡ targets_step g now s
    same_targets_step s h =
        after s step.Targets (listed_targets f now s) (listed_targets g now s) (with_targets s)
        (same_targets s.root.reading s.snapshot (known-step s step.Targets (listed_targets f now s) (with_targets s) h))

    -- ---- the top-level files, one after the other

    pub same_steps : (s : State) → Last most_roots s → Known (steps f now s) → steps f now s ≡ steps g now s
    unfolding steps
    same_steps s last h =
        bind (root_step f now s) (root_step g now s) _ _ (before (followed f most_roots s) (followed g most_roots s) (unexpired f now) (same_followed most_roots s last))
        (λ s1 is1. let h1 = known-next (root_step f now s) _ s1 h is1 in
        bind (timestamp_step f now s1) (timestamp_step g now s1) _ _ (same_timestamp_step s1 (known-first (timestamp_step f now s1) _ h1))
        (λ s2 is2. let h2 = known-next (timestamp_step f now s1) _ s2 h1 is2 in
        bind (snapshot_step f now s2) (snapshot_step g now s2) _ _ (same_snapshot_step s2 (known-first (snapshot_step f now s2) _ h2))
        (λ s3 is3. same_targets_step s3 (known-next (snapshot_step f now s2) _ s3 h2 is3))))
