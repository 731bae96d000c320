-- Two repositories have the same outcome if the same part of their metadata files is looked at.
use Rattle.std.proofs.Common.{◌≡◌, ℕ, zero, suc, ◌+◌, ◌≤◌, ◌<◌, min, Bool, true, false, cond, nat_le, nat_lt, List, [], ◌∷◌, ◌++◌, length, take, map, decimal, codes, Option, Some, None, not, option_map, option_and_then, Result, Ok, Err, refl, sym, ap, ◌∙◌, ⊎_elim, true≢false, arith, append_assoc, length-take, take_all, if◌then◌else◌}
use Rattle.std.specs.Bool.{⊤}
use Rattle.std.specs.Option.{option_map_or}
use Rattle.std.proofs.lemmas.Bool.{cases_Bool, lt-ltb, ltb-true, ltb-false}
use Rattle.std.proofs.lemmas.Bool.Decides.{Decides-eqb}
use Rattle.std.proofs.lemmas.Slice.Eq.{ends_is}
use Rattle.cjson.specs.Document.{◌>>=◌, refuse_if, or_refuse}
use Rattle.cjson.specs.Form.{greatest}
use Rattle.moment.specs.Moment.{Moment}
use Rattle.meta.specs.Content.{content, versioned, root_name, role_name, root_limit, timestamp_limit, snapshot_limit, targets_limit, Part}
use Rattle.meta.specs.Metadata.{Key, RoleKeys, Form, Root, Timestamp, Snapshot, Targets}
use Rattle.meta.specs.Metadata as form
use Rattle.meta.specs.declared.fault.Fault.{Fault}
use Rattle.meta.specs.declared.fault.Fault.TheVariants.{NotListed, Missing, TooLong, Unsigned}
use Rattle.meta.specs.declared.hashes.Hashes.{Hashes}
use Rattle.examine.specs.Checks.{Files, Expectation, Candidate, is_absent, listed_length, listed_hashes, listed_version, is_signed, read_candidate, signed_candidate, root_part, first_timestamp, next_timestamp, snapshot_part, targets_part}
use Rattle.rolechain.specs.declared.end.Step.TheVariants as step
use Rattle.rolechain.specs.declared.end.Step.{Step}
use Rattle.rolechain.specs.declared.end.End.{End}
use Rattle.rolechain.specs.declared.end.End.TheVariants.{Ready, Stopped}
use Rattle.rolechain.specs.Advance.{State, Advanced, or_stop, with_root, listing_of, reading_in, due_root, due_timestamp, due_snapshot, due_targets, following, successor, followed, most_roots, unexpired, root_step, newer_timestamp, timestamp_step, listed_snapshot, snapshot_step, listed_targets, targets_step, steps, ended, advanced}
use Rattle.deleg.specs.Search.{Edge, Visited, Visits, done, go_on, and_then, walk_by, in_file, accepting, entered, examined, from_top, visit, search_from, search_in, settled, target_of, is_visited}
use Rattle.deleg.specs.Search as paths
use Rattle.deleg.specs.declared.accepted.Accepted.{Accepted}
use Rattle.deleg.specs.declared.found.Found.{Found}
use Rattle.deleg.specs.declared.found.Found.TheVariants.{Listed, LimitReached}
use Rattle.cycle.specs.Looked.{AreAlike, is_metadata_name, most_looked_at, looked_at}
use Rattle.cycle.specs.Workflow.{Course, Repository, Request, closed_course, course, searched, workflow}
use Rattle.deleg.specs.declared.accepted.Search.{Search}

-- ---- names

-- what ends in `.json`
pub ends_in_json : (name front : List ℕ) → name ≡ front ++ codes ".json" → is_metadata_name name ≡ true
ends_in_json name front e = (ends_is Decides-eqb name (codes ".json") _ refl).1 front e

root_name-json : (version : ℕ) → is_metadata_name (root_name version) ≡ true
root_name-json version = ends_in_json (root_name version) (decimal version ++ codes ".root") (sym (append_assoc (decimal version) (codes ".root") (codes ".json")))

timestamp-json : is_metadata_name (codes "timestamp.json") ≡ true
timestamp-json = refl

versioned-json : (consistent : Bool) (version : ℕ) (name front : List ℕ) → name ≡ front ++ codes ".json" → is_metadata_name (versioned consistent version name) ≡ true
versioned-json true version name front e =
    ends_in_json _ (decimal version ++ 46 ∷ front) (ap (λ n. decimal version ++ 46 ∷ n) e ∙ sym (append_assoc (decimal version) (46 ∷ front) (codes ".json")))
versioned-json false version name front e = ends_in_json name front e

file_name-json : (r : Root) (role : List ℕ) (version : Option ℕ) → is_metadata_name (option_map_or (λ v. versioned r.consistent v (role_name role)) version (role_name role)) ≡ true
file_name-json r role (Some v) = versioned-json r.consistent v (role_name role) role refl
file_name-json r role None = ends_in_json (role_name role) role refl

-- ---- worked values

pub root_is_metadata : is_metadata_name (codes "1.root.json") ≡ true
root_is_metadata = refl

pub role_is_metadata : is_metadata_name (codes "a/b.json") ≡ true
role_is_metadata = refl

pub ending_alone_is_metadata : is_metadata_name (codes ".json") ≡ true
ending_alone_is_metadata = refl

pub text_is_none : is_metadata_name (codes "x.txt") ≡ false
text_is_none = refl

pub name_before_another_ending_is_none : is_metadata_name (codes "1.root.json.gz") ≡ false
name_before_another_ending_is_none = refl

pub empty_name_is_none : is_metadata_name (codes "") ≡ false
empty_name_is_none = refl

pub text_is_not_looked_at : (files : Files) → looked_at files (codes "x.txt") ≡ None
text_is_not_looked_at files = refl

pub short_file_is_whole : looked_at (λ name. Some (123 ∷ 125 ∷ [])) (codes "timestamp.json") ≡ Some (123 ∷ 125 ∷ [])
short_file_is_whole = refl

pub five_million_bytes_and_one : most_looked_at ≡ 5000001
five_million_bytes_and_one = refl

-- ---- steps that agree

bind : {A B E : Type 0} (r s : Result A E) (k l : A → Result B E) → r ≡ s → ((x : A) → k x ≡ l x) → (r >>= k) ≡ (s >>= l)
bind (Ok x) s k l e h = h x ∙ ap (λ t. t >>= l) e
bind (Err x) s k l e h = ap (λ t. t >>= l) e

-- the same steps after what agrees
before : {A B E : Type 0} (r s : Result A E) (k : A → Result B E) → r ≡ s → (r >>= k) ≡ (s >>= k)
before r s k e = ap (λ t. t >>= k) e

map_or-same : {A B : Type 0} (o : Option A) (k l : A → B) (x : B) → ((a : A) → k a ≡ l a) → option_map_or k o x ≡ option_map_or l o x
map_or-same None k l x h = refl
map_or-same (Some a) k l x h = h a

option_map-same : {A B : Type 0} (o : Option A) (k l : A → B) → ((a : A) → k a ≡ l a) → option_map k o ≡ option_map l o
option_map-same None k l h = refl
option_map-same (Some a) k l h = ap Some (h a)

and_then-same : {A B : Type 0} (o : Option A) (k l : A → Option B) → ((a : A) → k a ≡ l a) → option_and_then k o ≡ option_and_then l o
and_then-same None k l h = refl
and_then-same (Some a) k l h = h a

map-same : {A B : Type 0} (xs : List A) (k l : A → B) → ((a : A) → k a ≡ l a) → map k xs ≡ map l xs
map-same [] k l h = refl
map-same (x ∷ xs) k l h = ap (λ y. y ∷ map k xs) (h x) ∙ ap (λ ys. l x ∷ ys) (map-same xs k l h)

-- ---- one file

-- what is chosen agrees if it is chosen
chosen : {A : Type 0} (b : Bool) (x y z : A) → b ≡ true → (if b then x else z) ≡ (if b then y else z) → x ≡ y
chosen true x y z is h = h
chosen false x y z is h = absurd (true≢false (sym is))

module _ (A : Type 0) (form : Form A) (limit : ℕ) (size : Option ℕ) (hashes : Option Hashes) (checks : Candidate A → Result (Candidate A) Fault) where
  -- the bytes, checked and read, and what follows
  abbrev intact : List ℕ → Result (Candidate A) Fault
  intact bytes = content (Some limit) size hashes bytes >>= λ _. read_candidate form bytes >>= checks

  too_long : (bytes : List ℕ) → nat_lt limit (length bytes) ≡ true → intact bytes ≡ Err TooLong
  too_long bytes h = rw h refl

  -- only the first `up_to` bytes matter, if that is more than the limit
  intact-same : (up_to : ℕ) (a b : List ℕ) → limit < up_to → take up_to a ≡ take up_to b → intact a ≡ intact b
  intact-same up_to a b within same =
      let lengths : min up_to (length a) ≡ min up_to (length b) = sym (length-take up_to a) ∙ ap length same ∙ length-take up_to b in
      ⊎_elim
      (λ long.
      let past : limit < length a = ltb-true limit (length a) long in
      too_long a long ∙ sym (too_long b (lt-ltb limit (length b) (omega arith))))
      (λ short.
      let low : length a ≤ limit = ltb-false limit (length a) short in
      ap intact (sym (take_all up_to a (omega arith)) ∙ same ∙ take_all up_to b (omega arith)))
      (cases_Bool (nat_lt limit (length a)))

  -- what is examined of a file that may be there
  abbrev file_read : Result ⊤ Fault → Option (List ℕ) → Result (Candidate A) Fault
  file_read listed file = listed >>= λ _. or_refuse file Missing >>= intact

  file_read-same : (up_to : ℕ) (listed : Result ⊤ Fault) (a b : Option (List ℕ)) → limit < up_to → option_map (take up_to) a ≡ option_map (take up_to) b → file_read listed a ≡ file_read listed b
  file_read-same up_to (Err fault) a b within same = refl
  file_read-same up_to (Ok fine) None None within same = refl
  file_read-same up_to (Ok fine) None (Some b) within same = absurd cc
  file_read-same up_to (Ok fine) (Some a) None within same = absurd cc
  file_read-same up_to (Ok fine) (Some a) (Some b) within same = intact-same up_to a b within cc

-- ---- walks whose visits agree

go_on-same : (b : Bool) (r q : List Accepted → Visited) (o : Option Found) (seen : List Accepted) → ((u : List Accepted) → r u ≡ q u) → go_on b r o seen ≡ go_on b q o seen
go_on-same b r q (Some found) seen h = refl
go_on-same true r q None seen h = refl
go_on-same false r q None seen h = h seen

module _ (by to : Visits) (agree : (e : Edge) (seen : List Accepted) → by e seen ≡ to e seen) where
  walk-same : (es : List Edge) (seen : List Accepted) → walk_by by es seen ≡ walk_by to es seen
  walk-same [] seen = refl
  walk-same (e ∷ es) seen = ap (λ v. and_then e (walk_by by es) v) (agree e seen) ∙ go_on-same e.terminating (walk_by by es) (walk_by to es) (to e seen).found (to e seen).accepted (walk-same es)

  in_file-same : (path role : List ℕ) (m : Targets) (seen : List Accepted) → in_file path (walk_by by) role m seen ≡ in_file path (walk_by to) role m seen
  in_file-same path role m seen =
      ap (λ (v : Visited). option_map_or (λ t. done (Some (Listed role t (length seen + 1))) seen) (target_of m path) v) (walk-same (paths.followed m path) seen)

  entered-same : (path : List ℕ) (e : Edge) (seen : List Accepted) (r : Result (Part Targets) Fault) → entered path (walk_by by) e seen r ≡ entered path (walk_by to) e seen r
  entered-same path e seen (Err fault) = refl
  entered-same path e seen (Ok p) = in_file-same path e.name p.reading (accepting e p seen)

  from_top-same : (path : List ℕ) (m : Targets) → from_top by path m ≡ from_top to path m
  from_top-same path m = ap settled (in_file-same path (codes "targets") m [])

-- ---- two repositories of which the same is looked at

module _ (f g : Files) (same : (name : List ℕ) → looked_at f name ≡ looked_at g name) where
  -- the first bytes of a file of such a name
  starts : (name : List ℕ) → is_metadata_name name ≡ true → option_map (take most_looked_at) (f name) ≡ option_map (take most_looked_at) (g name)
  starts name is = chosen (is_metadata_name name) _ _ None is (same name)

  pub same_signed_candidate : (A : Type 0) (form : Form A) (limit : ℕ) (e : Expectation) → limit < most_looked_at → is_metadata_name e.name ≡ true → signed_candidate form limit e f ≡ signed_candidate form limit e g
  same_signed_candidate A form limit e within is =
      file_read-same A form limit (listed_length e.listed) (listed_hashes e.listed) (λ (c : Candidate A). refuse_if (not (is_signed e.ring e.role c.doc)) Unsigned >>= λ _. Ok c) most_looked_at
      (refuse_if (is_absent e.listed) NotListed) (f e.name) (g e.name) within (starts e.name is)

  -- ---- the files of each kind

  pub same_root_part : (e : Expectation) (due : ℕ) → is_metadata_name e.name ≡ true → root_part e due f ≡ root_part e due g
  same_root_part e due is = before (signed_candidate form.root root_limit e f) (signed_candidate form.root root_limit e g) _ (same_signed_candidate Root form.root root_limit e (omega arith) is)

  pub same_first_timestamp : (e : Expectation) (now : Moment) → is_metadata_name e.name ≡ true → first_timestamp e f now ≡ first_timestamp e g now
  same_first_timestamp e now is =
      before (signed_candidate form.timestamp timestamp_limit e f) (signed_candidate form.timestamp timestamp_limit e g) _ (same_signed_candidate Timestamp form.timestamp timestamp_limit e (omega arith) is)

  pub same_next_timestamp : (e : Expectation) (old : Timestamp) (now : Moment) → is_metadata_name e.name ≡ true → next_timestamp e old f now ≡ next_timestamp e old g now
  same_next_timestamp e old now is =
      before (signed_candidate form.timestamp timestamp_limit e f) (signed_candidate form.timestamp timestamp_limit e g) _ (same_signed_candidate Timestamp form.timestamp timestamp_limit e (omega arith) is)

  pub same_snapshot_part : (e : Expectation) (old : Option Snapshot) (now : Moment) → is_metadata_name e.name ≡ true → snapshot_part e old f now ≡ snapshot_part e old g now
  same_snapshot_part e old now is =
      before (signed_candidate form.snapshot snapshot_limit e f) (signed_candidate form.snapshot snapshot_limit e g) _ (same_signed_candidate Snapshot form.snapshot snapshot_limit e (omega arith) is)

  pub same_targets_part : (e : Expectation) (now : Moment) → is_metadata_name e.name ≡ true → targets_part e f now ≡ targets_part e g now
  same_targets_part e now is =
      before (signed_candidate form.targets targets_limit e f) (signed_candidate form.targets targets_limit e g) _ (same_signed_candidate Targets form.targets targets_limit e (omega arith) is)

  module _ (now : Moment) where
    -- ---- the roots

    -- before a file is examined, only its presence matters
    following-same : (r : Root) (a b : Option (List ℕ)) → option_map (take most_looked_at) a ≡ option_map (take most_looked_at) b → following f r a ≡ following g r b
    following-same r None None h = refl
    following-same r None (Some b) h = absurd cc
    following-same r (Some a) None h = absurd cc
    following-same r (Some a) (Some b) h =
        let version : ℕ = r.header.version + 1 in
        before (root_part (due_root r) version f) (root_part (due_root r) version g) _ (same_root_part (due_root r) version (root_name-json version))

    pub same_successor : (r : Root) → successor f r ≡ successor g r
    same_successor r =
        let name : List ℕ = root_name (r.header.version + 1) in
        ap (λ x. if nat_le greatest r.header.version then Ok None else x) (following-same r (f name) (g name) (starts name (root_name-json (r.header.version + 1))))

    same_followed : (most : ℕ) (s : State) → followed f most s ≡ followed g most s
    unfolding followed
    same_followed zero s = refl
    same_followed (suc most) s =
        bind (or_stop s step.Root (successor f s.root.reading)) (or_stop s step.Root (successor g s.root.reading)) _ _
        (ap (or_stop s step.Root) (same_successor s.root.reading))
        (λ next. map_or-same next _ _ (Ok s) (λ r. same_followed most (with_root s r)))

    same_root_step : (s : State) → root_step f now s ≡ root_step g now s
    same_root_step s = before (followed f most_roots s) (followed g most_roots s) (unexpired f now) (same_followed most_roots s)

    -- ---- the timestamp, the snapshot and the top-level targets file

    same_newer_timestamp : (r : Root) (old : Option (Part Timestamp)) → newer_timestamp f now r old ≡ newer_timestamp g now r old
    same_newer_timestamp r None = before (first_timestamp (due_timestamp r) f now) (first_timestamp (due_timestamp r) g now) _ (same_first_timestamp (due_timestamp r) now timestamp-json)
    same_newer_timestamp r (Some old) =
        before (next_timestamp (due_timestamp r) old.reading f now) (next_timestamp (due_timestamp r) old.reading g now) _ (same_next_timestamp (due_timestamp r) old.reading now timestamp-json)

    -- a step that examines a file, and goes on from what was examined
    after : {A : Type 0} (s : State) (at : Step) (r q : Result A Fault) (k : A → Result State Advanced) → r ≡ q → (or_stop s at r >>= k) ≡ (or_stop s at q >>= k)
    after s at r q k e = ap (λ t. or_stop s at t >>= k) e

    same_timestamp_step : (s : State) → timestamp_step f now s ≡ timestamp_step g now s
    same_timestamp_step s = after s step.Timestamp (newer_timestamp f now s.root.reading s.timestamp) (newer_timestamp g now s.root.reading s.timestamp) _ (same_newer_timestamp s.root.reading s.timestamp)

    same_listed_snapshot : (s : State) → listed_snapshot f now s ≡ listed_snapshot g now s
    same_listed_snapshot s =
        let r : Root = s.root.reading in
        bind (or_refuse (reading_in s.timestamp) NotListed) (or_refuse (reading_in s.timestamp) NotListed) _ _ refl
        (λ t. same_snapshot_part (due_snapshot r t.snapshot) (reading_in s.snapshot) now (versioned-json r.consistent t.snapshot.version (codes "snapshot.json") (codes "snapshot") refl))

    same_snapshot_step : (s : State) → snapshot_step f now s ≡ snapshot_step g now s
    same_snapshot_step s = after s step.Snapshot (listed_snapshot f now s) (listed_snapshot g now s) _ (same_listed_snapshot s)

    -- the file of a role
    same_role : (r : Root) (n : Snapshot) (role : List ℕ) (ring : List Key) (keys : RoleKeys) → targets_part (due_targets r n role ring keys) f now ≡ targets_part (due_targets r n role ring keys) g now
    same_role r n role ring keys = same_targets_part (due_targets r n role ring keys) now (file_name-json r role (listed_version (listing_of role n)))

    same_listed_targets : (s : State) → listed_targets f now s ≡ listed_targets g now s
    same_listed_targets s =
        let r : Root = s.root.reading in
        bind (or_refuse (reading_in s.snapshot) NotListed) (or_refuse (reading_in s.snapshot) NotListed) _ _ refl (λ n. same_role r n (codes "targets") r.ring r.targets)

    same_targets_step : (s : State) → targets_step f now s ≡ targets_step g now s
    same_targets_step s = after s step.Targets (listed_targets f now s) (listed_targets g now s) _ (same_listed_targets s)

    -- ---- the top-level files, one after the other

    same_steps : (s : State) → steps f now s ≡ steps g now s
    unfolding steps
    same_steps s =
        bind (root_step f now s) (root_step g now s) _ _ (same_root_step s)
        (λ s. bind (timestamp_step f now s) (timestamp_step g now s) _ _ (same_timestamp_step s)
        (λ s. bind (snapshot_step f now s) (snapshot_step g now s) _ _ (same_snapshot_step s) same_targets_step))

    pub same_advanced : (s : State) → advanced f now s ≡ advanced g now s
    same_advanced s = ap ended (same_steps s)

    -- ---- the search for a path

    module _ (top : Root) (snap : Snapshot) (path : List ℕ) (most : ℕ) where
      pub same_examined : (e : Edge) → examined f now top snap e ≡ examined g now top snap e
      same_examined e = same_role top snap e.name e.ring e.keys

      pub same_visit : (d : ℕ) (e : Edge) (seen : List Accepted) → visit f now top snap path most d e seen ≡ visit g now top snap path most d e seen
      same_visit zero e seen = refl
      same_visit (suc d) e seen =
          ap (λ (v : Visited). cond (is_visited seen e.name) (done None seen) (cond (nat_le most (length seen + 1)) (done (Some LimitReached) seen) v))
          (ap (λ r. entered path (walk_by (visit f now top snap path most d)) e seen r) (same_examined e)
          ∙ entered-same (visit f now top snap path most d) (visit g now top snap path most d) (same_visit d) path e seen (examined g now top snap e))

      pub same_search_from : (m : Targets) → search_from f now top snap path most m ≡ search_from g now top snap path most m
      same_search_from m = from_top-same (visit f now top snap path most (suc most)) (visit g now top snap path most (suc most)) (same_visit (suc most)) path m

    pub same_search_in : (s : State) (path : List ℕ) (most : ℕ) → search_in f now s path most ≡ search_in g now s path most
    same_search_in s path most =
        and_then-same s.snapshot _ _ (λ snap. option_map-same s.targets _ _ (λ m. same_search_from s.root.reading snap.reading path most m.reading))

    pub same_searched : (most : ℕ) (s : State) (e : End) (path : List ℕ) → searched f now most s e path ≡ searched g now most s e path
    same_searched most s Ready path = same_search_in s path most
    same_searched most s (Stopped at fault) path = refl

-- ---- the whole

made : State → End → List (Option Search) → Course
made s e all = record { trusted = s; end = e; searches = all }

of : Files → Request → Advanced → Course
of f r a = made a.state a.end (map (searched f r.moment r.limit a.state a.end) r.wanted)

pub same_course : (f g : Files) (r : Request) → AreAlike f g → course r f ≡ course r g
unfolding made of
same_course f g r same =
    let a : Advanced = advanced g r.moment r.trusted in
    ap (of f r) (same_advanced f g same r.moment r.trusted)
    ∙ ap (made a.state a.end) (map-same r.wanted (searched f r.moment r.limit a.state a.end) (searched g r.moment r.limit a.state a.end) (same_searched f g same r.moment r.limit a.state a.end))

pub same_workflow : (r : Request) (a b : Repository) → AreAlike a.metadata b.metadata → a.targets ≡ b.targets → workflow r a ≡ workflow r b
same_workflow r a b same targets =
    ap (closed_course a.targets) (same_course a.metadata b.metadata r same) ∙ ap (λ t. closed_course t (course r b.metadata)) targets
