-- A search that is refused because a file is missing is refused for the file that is listed.
use Rattle.std.proofs.Common.{◌≡◌, ℕ, zero, suc, ◌+◌, Bool, true, false, nat_le, cond, List, [], ◌∷◌, codes, length, Option, Some, None, option_map, option_and_then, Result, Ok, Err, refl, sym, ap, ◌∙◌, true≢false, if◌then◌else◌}
use Rattle.std.specs.Bool.{⊤}
use Rattle.std.specs.Option.{option_map_or}
use Rattle.std.specs.Prelude.{unwrap_or}
use Rattle.meta.specs.Metadata.{Moment}
use Rattle.meta.specs.Content.{Part}
use Rattle.meta.specs.Metadata.{Root, Snapshot, Targets}
use Rattle.meta.specs.declared.fault.Fault.{Fault}
use Rattle.examine.specs.Checks.{Files, Target, is_absent}
use Rattle.rolechain.specs.Advance.{State, due_targets, listing_of}
use Rattle.deleg.specs.Search.{Edge, Visited, Visits, done, go_on, and_then, walk_by, in_file, accepting, entered, examined, from_top, visit, search_from, search_in, settled, target_of, is_visited}
use Rattle.deleg.specs.Search as paths
use Rattle.deleg.specs.declared.accepted.Accepted.{Accepted}
use Rattle.deleg.specs.declared.found.Found.{Found}
use Rattle.deleg.specs.declared.found.Found.TheVariants.{Listed, NotFound, LimitReached, RoleRefused}
use Rattle.cycle.specs.Workflow.{End, Ready, Stopped, searched}
use Rattle.needs.specs.Laws.{is_short, is_short_found}
use Rattle.needs.specs.Needs.{found_need, is_missing, role_need, search_need}
use Rattle.needs.proofs.Missing.{is_miss, gone, targets_part-miss}
use Rattle.needs.proofs.Stopping.{IsListed}

module _ (files : Files) (top : Root) (snap : Snapshot) where
  -- a role that is refused because its file is missing has none
  abbrev pub Lacks : Option Found → Type 0
  Lacks None = ⊤
  Lacks (Some (RoleRefused role fault)) = is_missing fault ≡ true → files (role_need top snap role).name ≡ None
  Lacks (Some (Listed role t visited)) = ⊤
  Lacks (Some NotFound) = ⊤
  Lacks (Some LimitReached) = ⊤

  lacks-go_on : (b : Bool) (rest : List Accepted → Visited) (o : Option Found) (seen : List Accepted) → Lacks o → ((u : List Accepted) → Lacks (rest u).found) → Lacks (go_on b rest o seen).found
  lacks-go_on b rest (Some found) seen h more = h
  lacks-go_on true rest None seen h more = tt
  lacks-go_on false rest None seen h more = more seen

  lacks-cond : (b : Bool) (x y : Visited) → Lacks x.found → Lacks y.found → Lacks (cond b x y).found
  lacks-cond true x y h k = h
  lacks-cond false x y h k = k

  module _ (by : Visits) (each : (e : Edge) (seen : List Accepted) → Lacks (by e seen).found) where
    lacks-walk : (es : List Edge) (seen : List Accepted) → Lacks (walk_by by es seen).found
    lacks-walk [] seen = tt
    lacks-walk (e ∷ es) seen = lacks-go_on e.terminating (walk_by by es) (by e seen).found (by e seen).accepted (each e seen) (lacks-walk es)

    lacks-target : (o : Option Target) (role : List ℕ) (seen : List Accepted) (v : Visited) → Lacks v.found → Lacks (option_map_or (λ t. done (Some (Listed role t (length seen + 1))) seen) o v).found
    lacks-target None role seen v h = h
    lacks-target (Some t) role seen v h = tt

    pub lacks-file : (path role : List ℕ) (m : Targets) (seen : List Accepted) → Lacks (in_file path (walk_by by) role m seen).found
    lacks-file path role m seen = lacks-target (target_of m path) role seen (walk_by by (paths.followed m path) seen) (lacks-walk (paths.followed m path) seen)

    lacks-entered : (path : List ℕ) (e : Edge) (seen : List Accepted) (r : Result (Part Targets) Fault) → (is_miss r ≡ true → files (role_need top snap e.name).name ≡ None) → Lacks (entered path (walk_by by) e seen r).found
    unfolding is_miss
    lacks-entered path e seen (Err fault) h = h
    lacks-entered path e seen (Ok p) h = lacks-file path e.name p.reading (accepting e p seen)

  module _ (now : Moment) (path : List ℕ) (most : ℕ) where
    examined-lacks : (e : Edge) → is_miss (examined files now top snap e) ≡ true → files (role_need top snap e.name).name ≡ None
    examined-lacks e miss =
        gone (is_absent (listing_of e.name snap)) (files (role_need top snap e.name).name) (sym (targets_part-miss files (due_targets top snap e.name e.ring e.keys) now) ∙ miss)

    lacks-visit : (depth : ℕ) (e : Edge) (seen : List Accepted) → Lacks (visit files now top snap path most depth e seen).found
    lacks-visit zero e seen = lacks-cond (is_visited seen e.name) (done None seen) (done (Some LimitReached) seen) tt tt
    lacks-visit (suc depth) e seen =
        lacks-cond (is_visited seen e.name) (done None seen) _ tt
        (lacks-cond (nat_le most (length seen + 1)) (done (Some LimitReached) seen) _ tt
        (lacks-entered (visit files now top snap path most depth) (lacks-visit depth) path e seen (examined files now top snap e) (examined-lacks e)))

    lacks-settled : (v : Visited) → Lacks v.found → Lacks (Some (settled v).found)
    lacks-settled v h = last v.found h
      where
        last : (o : Option Found) → Lacks o → Lacks (Some (unwrap_or o NotFound))
        last None h = tt
        last (Some found) h = h

    pub lacks-search : (m : Targets) → Lacks (Some (search_from files now top snap path most m).found)
    lacks-search m =
        let visits = visit files now top snap path most (suc most) in
        lacks-settled (in_file path (walk_by visits) (codes "targets") m []) (lacks-file visits (lacks-visit (suc most)) path (codes "targets") m [])

module _ (files : Files) (now : Moment) where
  -- the file of the role that a search was refused
  gone-found : (s : State) (snap : Part Snapshot) (found : Found) → s.snapshot ≡ Some snap → Lacks files s.root.reading snap.reading (Some found) → is_short_found found ≡ true → IsListed files (found_need s found)
  gone-found s snap (RoleRefused role fault) is h short = (
    role_need s.root.reading snap.reading role,
    ap (λ b. if b then option_map (λ n. role_need s.root.reading n.reading role) s.snapshot else None) short ∙ ap (option_map (λ n. role_need s.root.reading n.reading role)) is,
    record { place = refl; needed = refl; absent = h short },
  )
  gone-found s snap (Listed role t visited) is h short = absurd (true≢false (sym short))
  gone-found s snap NotFound is h short = absurd (true≢false (sym short))
  gone-found s snap LimitReached is h short = absurd (true≢false (sym short))

  module _ (path : List ℕ) (most : ℕ) (s : State) where
    listed-search : (n : Option (Part Snapshot)) (m : Option (Part Targets)) → s.snapshot ≡ n
        → let o = option_and_then (λ snap. option_map (λ m. search_from files now s.root.reading snap.reading path most m.reading) m) n in
        is_short o ≡ true → IsListed files (search_need s o)
    listed-search None m is short = absurd (true≢false (sym short))
    listed-search (Some snap) None is short = absurd (true≢false (sym short))
    listed-search (Some snap) (Some m) is short = gone-found s snap _ is (lacks-search files s.root.reading snap.reading now path most m.reading) short

    -- a search that is refused because a file is missing
    pub searched-lists : (e : End) → is_short (searched files now most s e path) ≡ true → IsListed files (search_need s (searched files now most s e path))
    searched-lists Ready short = listed-search s.snapshot s.targets refl short
    searched-lists (Stopped at fault) short = absurd (true≢false (sym short))
