-- The search for a path through delegations (TUF 1.0 sections 4.5 and 5.6.7).
use Rattle.hex.specs.Hex.{encode_lower}
use Rattle.sha2.specs.Sha256.{sha256}
use Rattle.std.specs.Prelude.{◌≢◌, ℕ, ◌==◌, ◌&&◌, ◌||◌, not, if◌then◌else◌, List, [], ◌∷◌, Bool, true, false, Option, None, Some, zero, suc, ◌+◌, ◌-◌, ◌*◌, ◌^◌, ◌/◌, ◌%◌, ◌++◌, codes, map, filter, chars, ◌≡◌, nat_le, length, find, option_map, option_and_then, unwrap_or, bytes_eq, Result, Ok, Err}
use Rattle.std.specs.Char.{digit_char}
use Rattle.std.specs.Int.{w32, from_be_bytes}
use Rattle.std.specs.List.{list_any}
use Rattle.std.specs.Option.{option_map_or}
pub use Rattle.meta.specs.Metadata.{Key, RoleKeys, Targets, begins_with}
use Rattle.meta.specs.declared.delegations.Roles.TheVariants as delegated
use Rattle.meta.specs.declared.delegation.Paths.{Paths}
pub use Rattle.meta.specs.declared.delegations.Bins.{Bins}
use Rattle.meta.specs.declared.delegation.Delegation.{Delegation}
use Rattle.meta.specs.declared.delegation.Paths.TheVariants.{Patterns, Prefixes}
use Rattle.meta.specs.declared.delegations.Roles.{Roles}
pub use Rattle.examine.specs.Checks.{file_in, Moment, Root, Snapshot, Target, Part, Fault, Files, targets_part}
pub use Rattle.rolechain.specs.Advance.{State, due_targets}
use Rattle.deleg.specs.declared.edge.Edge as program
use Rattle.deleg.specs.declared.found.Found.TheVariants.{Listed, NotFound, LimitReached, RoleRefused}
pub use Rattle.deleg.specs.declared.accepted.Accepted.{Accepted}
pub use Rattle.deleg.specs.declared.found.Found.{Found}
pub use Rattle.deleg.specs.declared.accepted.Search.{Search}

-- # Which paths a pattern matches (TUF 1.0 section 4.5).

-- The pattern matches the path, both as characters: 42 is `*`, 63 is `?` and 47 is `/`.
pub data Matches : List ℕ → List ℕ → Type 0 where
  both_end : Matches [] []
  itself : (c : ℕ) (cs ds : List ℕ) → c ≢ 42 → c ≢ 63 → Matches cs ds → Matches (c ∷ cs) (c ∷ ds)
  any_one : (d : ℕ) (cs ds : List ℕ) → d ≢ 47 → Matches cs ds → Matches (63 ∷ cs) (d ∷ ds)
  run_ends : (cs ds : List ℕ) → Matches cs ds → Matches (42 ∷ cs) ds
  run_goes_on : (d : ℕ) (cs ds : List ℕ)
      → d ≢ 47 → Matches (42 ∷ cs) ds → Matches (42 ∷ cs) (d ∷ ds)

-- whether the pattern's character, which isn't `*`, matches the path's
abbrev pub stands_for : ℕ → ℕ → Bool
stands_for c d = if c == 63 then not (d == 47) else c == d

-- whether the rest matches after some run without `/`
abbrev pub behind_run : (List ℕ → Bool) → List ℕ → Bool
behind_run rest [] = rest []
behind_run rest (d ∷ ds) = rest (d ∷ ds) || (not (d == 47) && behind_run rest ds)

abbrev pub behind_one : ℕ → (List ℕ → Bool) → List ℕ → Bool
behind_one c rest [] = false
behind_one c rest (d ∷ ds) = stands_for c d && rest ds

-- the same, as a test
abbrev pub is_match : List ℕ → List ℕ → Bool
is_match [] [] = true
is_match [] (d ∷ ds) = false
is_match (c ∷ cs) path =
    if c == 42 then behind_run (is_match cs) path else behind_one c (is_match cs) path

-- # Which paths a prefix of digests matches (TUF 1.0 section 4.5).

-- the path's digest in lower-case hexadecimal
abbrev pub path_digest : List ℕ → List ℕ
path_digest path = encode_lower (sha256 path)

-- # The hash bin of a path (this project's profile).

-- the first bits of a digest, as a number
abbrev pub first_bits : ℕ → List ℕ → ℕ
first_bits bits digest = from_be_bytes w32 digest / 2 ^ (32 - bits)

-- the last `left` hexadecimal digits of a number
abbrev pub hexadecimal : ℕ → ℕ → List ℕ
hexadecimal zero n = []
hexadecimal (suc left) n = digit_char (n / 2 ^ (4 * left) % 16) ∷ hexadecimal left n

-- number of hexadecimal digits of the greatest number of `bits` bits
abbrev pub width : ℕ → ℕ
width bits = (bits + 3) / 4

-- the name of the bin of that number
abbrev pub name_of : Bins → ℕ → List ℕ
name_of bins n = bins.prefix ++ codes "-" ++ hexadecimal (width bins.bits) n

-- the name of the path's bin
abbrev pub bin_name : Bins → List ℕ → List ℕ
bin_name bins path = name_of bins (first_bits bins.bits (sha256 path))

-- # The delegations of a targets file, and the paths that they are for (TUF 1.0 section 4.5).

-- one of the patterns or prefixes matches the path
abbrev pub is_matched : Paths → List ℕ → Bool
is_matched (Patterns ps) path = list_any (λ p. is_match (chars p) (chars path)) ps
is_matched (Prefixes ps) path = list_any (λ p. begins_with p (path_digest path)) ps

-- a delegation to a role, with the keys of the file that has it; no `paths` means every path
pub record Edge : Type 0 where
  pub ring : List Key
  pub name : List ℕ
  pub keys : RoleKeys
  pub terminating : Bool
  pub paths : Option Paths

abbrev pub edge : List Key → List ℕ → RoleKeys → Bool → Option Paths → Edge
edge ring name keys terminating paths =
    record { ring = ring; name = name; keys = keys; terminating = terminating; paths = paths }

abbrev pub to_role : List Key → Delegation → Edge
to_role ring d = edge ring d.name d.keys d.terminating (Some d.paths)

-- the delegation to the bin of that name: it is for every path, and terminating
abbrev pub to_bin : List Key → Bins → List ℕ → Edge
to_bin ring bins name = edge ring name bins.keys true None

-- the name of the path's bin, if a file delegates to bins
abbrev pub bin_in : List ℕ → Roles → List ℕ
bin_in path (delegated.Listed roles) = []
bin_in path (delegated.Binned bins) = bin_name bins path

abbrev pub bin_of : Targets → List ℕ → List ℕ
bin_of m path = option_map_or (λ d. bin_in path d.roles) m.delegations []

-- the delegations, if the path's bin has that name: the listed ones, or the one to the bin
abbrev pub edges_in : List Key → List ℕ → Roles → List Edge
edges_in ring bin (delegated.Listed roles) = map (to_role ring) roles
edges_in ring bin (delegated.Binned bins) = to_bin ring bins bin ∷ []

abbrev pub edges_by : List ℕ → Targets → List Edge
edges_by bin m = option_map_or (λ d. edges_in d.ring bin d.roles) m.delegations []

-- the delegations for a path
abbrev pub edges : Targets → List ℕ → List Edge
edges m path = edges_by (bin_of m path) m

-- the delegation is for the path
abbrev pub is_for : List ℕ → Edge → Bool
is_for path e = option_map_or (λ p. is_matched p path) e.paths true

-- the delegations that a search follows, in order
abbrev pub followed : Targets → List ℕ → List Edge
followed m path = filter (is_for path) (edges m path)

-- # The search for a path through delegations, in preorder (TUF 1.0 section 5.6.7).

-- the outcome of a visit or a walk, or None if the search goes on; and the delegated roles that
-- were accepted so far
pub record Visited : Type 0 where
  pub found : Option Found
  pub accepted : List Accepted

-- the outcome of the visit to a delegation's role, if these roles were accepted before
abbrev pub Visits : Type 0
Visits = Edge → List Accepted → Visited

abbrev pub done : Option Found → List Accepted → Visited
done found seen = record { found = found; accepted = seen }

abbrev pub target_of : Targets → List ℕ → Option Target
target_of m path = find (λ t. bytes_eq t.path path) m.targets

-- the role is among those that were accepted
abbrev pub has_role : List Accepted → List ℕ → Bool
has_role accepted role = list_any (λ a. bytes_eq a.role role) accepted

-- the top-level role is visited first
abbrev pub is_visited : List Accepted → List ℕ → Bool
is_visited seen role = bytes_eq role (codes "targets") || has_role seen role

-- ---- delegations, one after the other

-- Nothing is tried after what was found, nor after a terminating delegation.
abbrev pub go_on : Bool → (List Accepted → Visited) → Option Found → List Accepted → Visited
go_on terminating rest (Some found) seen = done (Some found) seen
go_on terminating rest None seen = if terminating then done (Some NotFound) seen else rest seen

abbrev pub and_then : Edge → (List Accepted → Visited) → Visited → Visited
and_then e rest v = go_on e.terminating rest v.found v.accepted

abbrev pub walk_by : Visits → List Edge → List Accepted → Visited
walk_by visits [] seen = done None seen
walk_by visits (e ∷ es) seen = and_then e (walk_by visits es) (visits e seen)

-- ---- one file

-- a role's file lists the path, or else its delegations are followed
abbrev pub in_file : List ℕ → (List Edge → List Accepted → Visited) → List ℕ → Targets
    → List Accepted → Visited
in_file path walk role m seen =
    option_map_or (λ t. done (Some (Listed role t (length seen + 1))) seen)
    (target_of m path) (walk (followed m path) seen)

abbrev pub accepting : Edge → Part Targets → List Accepted → List Accepted
accepting e p seen = seen ++ record { role = e.name; version = p.reading.header.version } ∷ []

-- a role is entered if its file is accepted
abbrev pub entered : List ℕ → (List Edge → List Accepted → Visited) → Edge → List Accepted
    → Result (Part Targets) Fault → Visited
entered path walk e seen (Err fault) = done (Some (RoleRefused e.name fault)) seen
entered path walk e seen (Ok p) = in_file path walk e.name p.reading (accepting e p seen)

-- the role's file, by the keys and the threshold of the delegation that is followed
abbrev pub examined : Files → Moment → Root → Snapshot → Edge → Result (Part Targets) Fault
examined files now top snap e =
    targets_part (due_targets top snap e.name e.ring e.keys) files now

-- ---- the search

-- what was found at last
abbrev pub settled : Visited → Search
settled v = record { found = unwrap_or v.found NotFound; accepted = v.accepted }

-- the search by such visits, from the top-level targets file
abbrev pub from_top : Visits → List ℕ → Targets → Search
from_top visits path m = settled (in_file path (walk_by visits) (codes "targets") m [])

-- the same in a trusted state that is ready
abbrev pub search_by : Visits → State → List ℕ → Option Search
search_by visits s path = option_map (λ m. from_top visits path m.reading) s.targets

-- `most` is the maximum number of roles to visit, the top-level role included
module _ (files : Files) (now : Moment) (top : Root) (snap : Snapshot)
    (path : List ℕ) (most : ℕ) where
  -- The equations of the visits of a search in preorder, with no depth: a role that was visited is
  -- skipped, one too many ends the search, and so does a refused one; else the role is accepted,
  -- and the path is looked up in its file and then below it.
  abbrev pub IsPreorder : Visits → Type 0
  IsPreorder visits = (e : Edge) (seen : List Accepted) → visits e seen
      ≡ (if is_visited seen e.name then done None seen
      else if nat_le most (length seen + 1) then done (Some LimitReached) seen
      else entered path (walk_by visits) e seen (examined files now top snap e))

  -- `depth` bounds how deep visits nest. Each adds a role, so a search within its limit never
  -- reaches the bound.
  abbrev pub visit : ℕ → Visits
  visit zero e seen =
      if is_visited seen e.name then done None seen else done (Some LimitReached) seen
  visit (suc depth) e seen =
      if is_visited seen e.name then done None seen
      else if nat_le most (length seen + 1) then done (Some LimitReached) seen
      else entered path (walk_by (visit depth)) e seen (examined files now top snap e)

  -- so these visits satisfy the equations
  abbrev pub IsSolved : Type 0
  IsSolved = IsPreorder (visit (suc most))

  abbrev pub walk : List Edge → List Accepted → Visited
  walk = walk_by (visit (suc most))

  -- the search by these visits
  abbrev pub search_from : Targets → Search
  search_from m = from_top (visit (suc most)) path m

-- the equations below a trusted state, by its root and its snapshot
abbrev pub IsPreorderOf : Files → Moment → State → List ℕ → ℕ → Visits → Type 0
IsPreorderOf files now s path most visits =
    (snap : Part Snapshot) × (s.snapshot ≡ Some snap)
    × IsPreorder files now s.root.reading snap.reading path most visits

-- the search in a trusted state that is ready
abbrev pub search_in : Files → Moment → State → List ℕ → ℕ → Option Search
search_in files now s path most =
    option_and_then (λ snap. option_map (λ m.
    search_from files now s.root.reading snap.reading path most m.reading) s.targets) s.snapshot

-- # What a delegation of the program represents.

abbrev pub edge_of : program.Edge → Edge
edge_of e =
    edge e.ring.now e.name.now e.keys.now e.terminating (option_map (λ p. p.now) e.paths)
