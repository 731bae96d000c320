-- If the listed metadata files are missing for good, no other files change the course.
use Rattle.std.proofs.Common.{◌≡◌, ℕ, zero, suc, ◌+◌, ◌<◌, Bool, true, false, not, ◌&&◌, ◌||◌, nat_le, nat_lt, cond, List, [], ◌∷◌, ◌++◌, codes, length, map, fold, Option, Some, None, is_some, option_map, option_and_then, Result, Ok, Err, IfSome, refl, sym, ap, ◌∙◌, subst, true≢false, if◌then◌else◌}
use Rattle.std.specs.List.{AllByRecursion as ByRecursion}
use Rattle.std.specs.Option.{option_map_or}
use Rattle.std.specs.Prelude.{option_to_list, unwrap_or}
use Rattle.std.specs.Str.{bytes_eq}
use Rattle.std.proofs.lemmas.Bool.{leb-false, lt-ltb}
use Rattle.std.proofs.lemmas.List.Elements.{recursion_from_All}
use Rattle.std.proofs.lemmas.Option.{none-some}
use Rattle.std.proofs.lemmas.Slice.Eq.{bytes_eq-Decides}
use Rattle.cjson.specs.Document.{◌>>=◌}
use Rattle.cjson.specs.Form.{greatest}
use Rattle.meta.specs.Metadata.{Moment}
use Rattle.meta.specs.Content.{Part, root_limit}
use Rattle.meta.specs.Metadata.{Root, Snapshot, Targets, Timestamp}
use Rattle.meta.specs.declared.fault.Fault.{Fault}
use Rattle.examine.specs.Checks.{Files, Target, expiry_check}
use Rattle.rolechain.specs.declared.end.Step.TheVariants as step
use Rattle.rolechain.specs.declared.end.Step.{Step}
use Rattle.rolechain.specs.Advance.{State, Advanced, advanced, due_targets, ended, followed, listed_snapshot, listed_targets, most_roots, newer_timestamp, or_stop, root_step, snapshot_step, steps, timestamp_step, unexpired, with_newer, with_snapshot, with_targets}
use Rattle.deleg.specs.Search.{Edge, Visited, Visits, done, go_on, and_then, walk_by, in_file, accepting, entered, examined, visit, search_from, settled, target_of, is_visited}
use Rattle.deleg.specs.Search as paths
use Rattle.deleg.specs.declared.accepted.Accepted.{Accepted}
use Rattle.deleg.specs.declared.accepted.Search.{Search}
use Rattle.deleg.specs.declared.found.Found.{Found}
use Rattle.deleg.specs.declared.found.Found.TheVariants.{Listed, NotFound, LimitReached, RoleRefused}
use Rattle.cycle.specs.Workflow.{Course, End, Ready, Request, Stopped, course, searched}
use Rattle.needs.specs.Laws.{IsMore, IsSettled}
use Rattle.needs.specs.Needs.{Names, Need, absent, each_once, end_need, found_need, is_needed, is_sought, metadata_needs, missing_metadata, needs, next_root, noted, role_need, root_need, search_need, target_needs}
use Rattle.needs.specs.declared.need.Place.TheVariants.{Metadata}
use Rattle.needs.proofs.Laws.{holds-metadata}
use Rattle.needs.proofs.Lists.{Holds}
use Rattle.needs.proofs.Missing.{is_miss, targets_part-miss}
use Rattle.needs.proofs.Refusing.{Lacks}
use Rattle.needs.proofs.Settling.{Known, Last, NoNext, next_name, same_steps, same_targets_part}

-- ---- the root at the end is the last of the chain

-- a step that leaves the root
abbrev Keeps : Part Root → Result State Advanced → Type 0
Keeps r (Ok s) = r ≡ s.root
Keeps r (Err a) = r ≡ a.state.root

keeps-next : (r : Part Root) (o : Result State Advanced) (k : State → Result State Advanced) → Keeps r o → ((s : State) → Keeps s.root (k s)) → Keeps r (o >>= k)
keeps-next r (Ok s) k h more = subst (λ a. Keeps a (k s)) (sym h) (more s)
keeps-next r (Err a) k h more = h

keeps-step : {A : Type 0} (s : State) (at : Step) (r : Result A Fault) (w : A → State) → ((x : A) → s.root ≡ (w x).root) → Keeps s.root (or_stop s at r >>= λ x. Ok (w x))
keeps-step s at (Ok x) w same = same x
keeps-step s at (Err fault) w same = refl

newer-root : (s : State) (o : Option (Part Timestamp)) → s.root ≡ (with_newer s o).root
newer-root s None = refl
newer-root s (Some p) = refl

module _ (files : Files) (now : Moment) where
  keeps-steps : (s t : State) → followed files most_roots s ≡ Ok t → Keeps t.root (steps files now s)
  unfolding steps
  keeps-steps s t is =
      keeps-next t.root (root_step files now s) _
      (subst (λ r. Keeps t.root (r >>= unexpired files now)) (sym is) (keeps-step t step.Root (expiry_check t.root.reading.header now) (λ _. t) (λ _. refl)))
      (λ s. keeps-next s.root (timestamp_step files now s) _ (keeps-step s step.Timestamp (newer_timestamp files now s.root.reading s.timestamp) (with_newer s) (newer-root s))
      (λ s. keeps-next s.root (snapshot_step files now s) _ (keeps-step s step.Snapshot (listed_snapshot files now s) (with_snapshot s) (λ _. refl))
      (λ s. keeps-step s step.Targets (listed_targets files now s) (with_targets s) (λ _. refl))))

  last-root : (s t : State) → followed files most_roots s ≡ Ok t → t.root ≡ (advanced files now s).state.root
  last-root s t is = at_end (steps files now s) (keeps-steps s t is)
    where
      at_end : (r : Result State Advanced) → Keeps t.root r → t.root ≡ (ended r).state.root
      at_end (Ok u) h = h
      at_end (Err a) h = h

-- ---- searches

module _ (f g : Files) (kept : (name : List ℕ) → IfSome (f name) (λ bytes. g name ≡ Some bytes)) (top : Root) (snap : Snapshot) where
  -- a role that is refused because its file is missing has none in the other files
  abbrev Gone : Visited → Type 0
  Gone v = Lacks g top snap v.found

  gone-first : (b : Bool) (rest : List Accepted → Visited) (o : Option Found) (seen : List Accepted) → Gone (go_on b rest o seen) → Lacks g top snap o
  gone-first b rest (Some found) seen h = h
  gone-first b rest None seen h = tt

  same_go_on : (b : Bool) (rest other : List Accepted → Visited) (o : Option Found) (seen : List Accepted) → Gone (go_on b rest o seen) → ((u : List Accepted) → Gone (rest u) → rest u ≡ other u)
      → go_on b rest o seen ≡ go_on b other o seen
  same_go_on b rest other (Some found) seen h more = refl
  same_go_on true rest other None seen h more = refl
  same_go_on false rest other None seen h more = more seen h

  same_cond : (b : Bool) (x y z : Visited) → Gone (cond b x y) → (Gone y → y ≡ z) → cond b x y ≡ cond b x z
  same_cond true x y z h more = refl
  same_cond false x y z h more = more h

  module _ (by to : Visits) (agree : (e : Edge) (seen : List Accepted) → Gone (by e seen) → by e seen ≡ to e seen) where
    same_walk : (es : List Edge) (seen : List Accepted) → Gone (walk_by by es seen) → walk_by by es seen ≡ walk_by to es seen
    same_walk [] seen h = refl
    same_walk (e ∷ es) seen h =
        let v : Visited = by e seen in
        same_go_on e.terminating (walk_by by es) (walk_by to es) v.found v.accepted h (same_walk es)
        ∙ ap (λ v. and_then e (walk_by to es) v) (agree e seen (gone-first e.terminating (walk_by by es) v.found v.accepted h))

    same_target : (o : Option Target) (role : List ℕ) (seen : List Accepted) (v w : Visited) → Gone (option_map_or (λ t. done (Some (Listed role t (length seen + 1))) seen) o v) → (Gone v → v ≡ w)
        → option_map_or (λ t. done (Some (Listed role t (length seen + 1))) seen) o v ≡ option_map_or (λ t. done (Some (Listed role t (length seen + 1))) seen) o w
    same_target None role seen v w h more = more h
    same_target (Some t) role seen v w h more = refl

    pub same_file : (path role : List ℕ) (m : Targets) (seen : List Accepted) → Gone (in_file path (walk_by by) role m seen) → in_file path (walk_by by) role m seen ≡ in_file path (walk_by to) role m seen
    same_file path role m seen h =
        let es = paths.followed m path in
        same_target (target_of m path) role seen (walk_by by es seen) (walk_by to es seen) h (same_walk es seen)

    same_entered : (path : List ℕ) (e : Edge) (seen : List Accepted) (r : Result (Part Targets) Fault) → Gone (entered path (walk_by by) e seen r) → entered path (walk_by by) e seen r ≡ entered path (walk_by to) e seen r
    same_entered path e seen (Err fault) h = refl
    same_entered path e seen (Ok p) h = same_file path e.name p.reading (accepting e p seen) h

    gone-role : (path : List ℕ) (e : Edge) (seen : List Accepted) (r : Result (Part Targets) Fault) → Gone (entered path (walk_by by) e seen r) → is_miss r ≡ true → g (role_need top snap e.name).name ≡ None
    unfolding is_miss
    gone-role path e seen (Err fault) h miss = h miss
    gone-role path e seen (Ok p) h miss = absurd (true≢false (sym miss))

  module _ (now : Moment) (path : List ℕ) (most : ℕ) where
    same_visit : (depth : ℕ) (e : Edge) (seen : List Accepted) → Gone (visit f now top snap path most depth e seen) → visit f now top snap path most depth e seen ≡ visit g now top snap path most depth e seen
    same_visit zero e seen h = refl
    same_visit (suc depth) e seen h =
        let by : Visits = visit f now top snap path most depth in
        let to : Visits = visit g now top snap path most depth in
        let due = due_targets top snap e.name e.ring e.keys in
        same_cond (is_visited seen e.name) (done None seen) _ _ h
        (λ h. same_cond (nat_le most (length seen + 1)) (done (Some LimitReached) seen) _ _ h
        (λ h. same_entered by to (same_visit depth) path e seen (examined f now top snap e) h
        ∙ ap (entered path (walk_by to) e seen)
        (same_targets_part f g kept due now (λ lack. gone-role by to (same_visit depth) path e seen (examined f now top snap e) h (targets_part-miss f due now ∙ lack)))))

    gone-settled : (v : Visited) → Lacks g top snap (Some (settled v).found) → Gone v
    gone-settled v h = last v.found h
      where
        last : (o : Option Found) → Lacks g top snap (Some (unwrap_or o NotFound)) → Lacks g top snap o
        last None h = tt
        last (Some found) h = h

    pub same_search : (m : Targets) → Lacks g top snap (Some (search_from f now top snap path most m).found) → search_from f now top snap path most m ≡ search_from g now top snap path most m
    same_search m h =
        let by : Visits = visit f now top snap path most (suc most) in
        let to : Visits = visit g now top snap path most (suc most) in
        ap settled (same_file by to (same_visit (suc most)) path (codes "targets") m [] (gone-settled (in_file path (walk_by by) (codes "targets") m []) h))

module _ (f g : Files) (kept : (name : List ℕ) → IfSome (f name) (λ bytes. g name ≡ Some bytes)) (now : Moment) where
  -- the file that a search was refused for is missing in both
  abbrev AreGone : State → Option Search → Type 0
  AreGone s o = (n : Need) → search_need s o ≡ Some n → g n.name ≡ None

  gone-found : (s : State) (snap : Part Snapshot) (found : Found) → s.snapshot ≡ Some snap → ((n : Need) → found_need s found ≡ Some n → g n.name ≡ None) → Lacks g s.root.reading snap.reading (Some found)
  gone-found s snap (RoleRefused role fault) is h = λ miss.
      h (role_need s.root.reading snap.reading role)
      (ap (λ b. if b then option_map (λ n. role_need s.root.reading n.reading role) s.snapshot else None) miss ∙ ap (option_map (λ n. role_need s.root.reading n.reading role)) is)
  gone-found s snap (Listed role t visited) is h = tt
  gone-found s snap NotFound is h = tt
  gone-found s snap LimitReached is h = tt

  module _ (path : List ℕ) (most : ℕ) (s : State) where
    searched_by : Files → Option (Part Snapshot) → Option (Part Targets) → Option Search
    searched_by files n m = option_and_then (λ snap. option_map (λ m. search_from files now s.root.reading snap.reading path most m.reading) m) n

    same_in : (n : Option (Part Snapshot)) (m : Option (Part Targets)) → s.snapshot ≡ n → AreGone s (searched_by f n m) → searched_by f n m ≡ searched_by g n m
    unfolding searched_by
    same_in None m is h = refl
    same_in (Some snap) None is h = refl
    same_in (Some snap) (Some m) is h = ap Some (same_search f g kept s.root.reading snap.reading now path most m.reading (gone-found s snap _ is h))

    same_searched : (e : End) → AreGone s (searched f now most s e path) → searched f now most s e path ≡ searched g now most s e path
    unfolding searched_by
    same_searched Ready h = same_in s.snapshot s.targets refl h
    same_searched (Stopped at fault) h = refl

  same_searches : (most : ℕ) (s : State) (e : End) (wanted : List (List ℕ)) → ByRecursion (λ o. AreGone s o) (map (searched f now most s e) wanted) → map (searched f now most s e) wanted ≡ map (searched g now most s e) wanted
  same_searches most s e [] h = refl
  same_searches most s e (path ∷ wanted) h =
      ap (λ o. o ∷ map (searched f now most s e) wanted) (same_searched path most s e h.0)
      ∙ ap (λ os. searched g now most s e path ∷ os) (same_searches most s e wanted h.1)

-- ---- what is listed

holds-some : (P : Need → Type 0) (o : Option Need) (n : Need) → Holds P o → o ≡ Some n → P n
holds-some P o n h is = subst (Holds P) is h

parts : (P : Need → Type 0) (all more : List Need) → ByRecursion P (all ++ more) → ByRecursion P all × ByRecursion P more
parts P [] more h = (tt, h)
parts P (n ∷ all) more h = let rest = parts P all more h.1 in ((h.0, rest.0), rest.1)

module _ (Q : List ℕ → Type 0) where
  abbrev OfName : Need → Type 0
  OfName n = Q n.name

  pick : (m : Need) (a b c : Bool) (name : List ℕ) → bytes_eq m.name name ≡ b → Q m.name → (c ≡ true → Q name) → ((a && b) || c) ≡ true → Q name
  pick m true true c name same h more is = subst Q ((bytes_eq-Decides m.name name).0 same) h
  pick m true false c name same h more is = more is
  pick m false b c name same h more is = more is

  -- so it is of a name that is listed
  named : (all : List Need) (optional : Bool) (name : List ℕ) → ByRecursion OfName all → is_needed all optional name ≡ true → Q name
  named [] optional name h is = absurd (true≢false (sym is))
  named (m ∷ all) optional name h is =
      pick m (if optional then m.optional else not m.optional) (bytes_eq m.name name) (is_needed all optional name) name refl h.0 (named all optional name h.1) is

  last-noted : (all : List Need) (n : Need) (b : Bool) → is_needed all n.optional n.name ≡ b → ByRecursion OfName (if b then all else all ++ n ∷ []) → ByRecursion OfName all × Q n.name
  last-noted all n true is h = (h, named all n.optional n.name h is)
  last-noted all n false is h = let both = parts OfName all (n ∷ []) h in (both.0, both.1.0)

  first-noted : (all : List Need) (o : Option Need) → ByRecursion OfName (noted all o) → ByRecursion OfName all × Holds OfName o
  first-noted all None h = (h, tt)
  first-noted all (Some n) h = last-noted all n (is_needed all n.optional n.name) refl h

  from-noted : (all : List Need) (found : List (Option Need)) → ByRecursion OfName (fold noted all found) → ByRecursion OfName all × ByRecursion (Holds OfName) found
  from-noted all [] h = (h, tt)
  from-noted all (o ∷ found) h =
      let rest = from-noted (noted all o) found h in
      let first = first-noted all o rest.0 in
      (first.0, (first.1, rest.1))

  pub from-once : (found : List (Option Need)) → ByRecursion OfName (each_once found) → ByRecursion (Holds OfName) found
  from-once found h = (from-noted [] found h).1

-- ---- the whole

made : State → End → List (Option Search) → Course
made s e all = record { trusted = s; end = e; searches = all }

of : Files → Request → Advanced → Course
of files r a = made a.state a.end (map (searched files r.moment r.limit a.state a.end) r.wanted)

module _ (r : Request) (files : Files) (metadata : Names) (same : (name : List ℕ) → metadata name ≡ is_some (files name)) where
  abbrev here : Course
  here = course r files

  abbrev lacking : List Need
  lacking = missing_metadata r.trusted.root.reading here metadata

  -- a metadata file that is listed is missing in both
  abbrev IsOut : Files → Need → Type 0
  IsOut more n = n.place ≡ Metadata → more n.name ≡ None

  module _ (more : Files) (kept : (name : List ℕ) → IfSome (files name) (λ bytes. more name ≡ Some bytes)) (gone : ByRecursion (IsOut more) lacking) where
    out : ByRecursion (IsOut more) (next_root r.trusted.root.reading here metadata) × ByRecursion (IsOut more) (metadata_needs here)
    out = parts (IsOut more) (next_root r.trusted.root.reading here metadata) (metadata_needs here) gone

    both : (all : List Need) → ByRecursion (IsOut more) all → ByRecursion (λ n. n.place ≡ Metadata) all → ByRecursion (λ n. more n.name ≡ None) all
    both [] h k = tt
    both (n ∷ all) h k = (h.0 k.0, both all h.1 k.1)

    missing : ByRecursion (Holds (λ n. more n.name ≡ None)) (end_need here.trusted here.end ∷ map (search_need here.trusted) here.searches)
    missing = from-once (λ name. more name ≡ None) (end_need here.trusted here.end ∷ map (search_need here.trusted) here.searches)
        (both (metadata_needs here) out.1 (holds-metadata (λ n. n.place ≡ Metadata) r files (λ n g. g.place)))

    known : Known files more kept (steps files r.moment r.trusted)
    known = at_end (steps files r.moment r.trusted) missing.0
      where
        at_end : (o : Result State Advanced) → Holds (λ n. more n.name ≡ None) (end_need (ended o).state (ended o).end) → Known files more kept o
        at_end (Ok s) h = λ n is. absurd (none-some n is)
        at_end (Err a) h = λ n is. holds-some (λ n. more n.name ≡ None) (end_need a.state a.end) n h is

    no_next : (p : Root) → ByRecursion (IsOut more) (option_to_list (root_need metadata r.trusted.root.reading p)) → p.header.version < r.trusted.root.reading.header.version + most_roots → NoNext files more kept p
    no_next p h less greater none =
        at_root (absent Metadata true (next_name files more kept p) root_limit) (is_sought r.trusted.root.reading p) (metadata (next_name files more kept p)) sought (same (next_name files more kept p) ∙ ap is_some none) h refl
      where
        sought : is_sought r.trusted.root.reading p ≡ true
        sought = ap (λ b. b && nat_lt p.header.version (r.trusted.root.reading.header.version + most_roots)) (lt-ltb p.header.version greatest (leb-false greatest p.header.version greater))
            ∙ lt-ltb p.header.version (r.trusted.root.reading.header.version + most_roots) less

        at_root : (n : Need) (a b : Bool) → a ≡ true → b ≡ false → ByRecursion (IsOut more) (option_to_list (if a && not b then Some n else None)) → n.place ≡ Metadata → more n.name ≡ None
        at_root n true true is there h place = absurd (true≢false there)
        at_root n true false is there h place = h.0 place
        at_root n false b is there h place = absurd (true≢false (sym is))

    last : Last files more kept most_roots r.trusted
    last t is less =
        no_next t.root.reading
        (subst (λ (p : Part Root). ByRecursion (IsOut more) (option_to_list (root_need metadata r.trusted.root.reading p.reading))) (sym (last-root files r.moment r.trusted t is)) out.0) less

    all_gone : (searches : List (Option Search)) → ByRecursion (Holds (λ n. more n.name ≡ None)) (map (search_need here.trusted) searches) → ByRecursion (λ o. AreGone files more kept r.moment here.trusted o) searches
    all_gone [] h = tt
    all_gone (o ∷ searches) h = ((λ n is. holds-some (λ n. more n.name ≡ None) (search_need here.trusted o) n h.0 is), all_gone searches h.1)

    pub same_course : course r more ≡ course r files
    unfolding made of
    same_course =
        let a : Advanced = advanced files r.moment r.trusted in
        ap (of more r) (ap ended (sym (same_steps files more kept r.moment r.trusted last known)))
        ∙ ap (made a.state a.end) (sym (same_searches files more kept r.moment r.limit a.state a.end r.wanted (all_gone here.searches missing.1)))

  -- no other files change the course
  pub is_settled_by : IsSettled r files lacking
  is_settled_by more m = same_course more m.kept (recursion_from_All (IsOut more) lacking m.absent)

  pub is_settled : (targets : Names) → IsSettled r files (needs r.trusted.root.reading here metadata targets)
  is_settled targets more m =
      let all : List Need = needs r.trusted.root.reading here metadata targets in
      same_course more m.kept (parts (IsOut more) lacking (target_needs here targets) (recursion_from_All (IsOut more) all m.absent)).0
