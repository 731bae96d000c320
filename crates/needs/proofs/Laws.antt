-- What holds of the files that are listed.
use Rattle.std.proofs.Common.{◌≡◌, ℕ, ◌+◌, Bool, true, false, not, ◌&&◌, ◌||◌, List, [], ◌∷◌, ◌++◌, map, Option, Some, None, is_some, fold, refl, sym, ap, ◌∙◌, subst, true≢false, if◌then◌else◌}
use Rattle.std.specs.List.{AllByRecursion as ByRecursion, list_all, list_any}
use Rattle.std.specs.Option.{option_map_or}
use Rattle.std.proofs.lemmas.Option.{none-some}
use Rattle.std.proofs.lemmas.Bool.{and_from}
use Rattle.std.proofs.lemmas.List.Elements.{All-from_recursion}
use Rattle.meta.specs.Content.{root_name}
use Rattle.meta.specs.Metadata.{Root}
use Rattle.examine.specs.Checks.{Files, target_names}
use Rattle.rolechain.specs.Advance.{State}
use Rattle.deleg.specs.declared.accepted.Search.{Search}
use Rattle.deleg.specs.declared.found.Found.{Found}
use Rattle.deleg.specs.declared.found.Found.TheVariants.{Listed, NotFound, LimitReached, RoleRefused}
use Rattle.cycle.specs.Workflow.{Course, End, Ready, Request, Stopped, Target, course, searched, target_of}
use Rattle.needs.specs.Laws.{AreAbsent, HasEnough, are_optional, has_file, is_one_there, is_short, is_short_end, is_short_found, names_at}
use Rattle.needs.specs.Needs.{Names, Need, absent, end_need, file_needs, found_need, is_none_of, is_sought, metadata_needs, missing_metadata, name_needs, needs, next_root, noted_files, role_below, root_need, search_need, step_need, target_need, target_needs}
use Rattle.needs.specs.declared.need.Place.TheVariants as place
use Rattle.needs.proofs.Lists.{Holds, IsOptional, holds-both, holds-each, holds-from, holds-list, holds-once, holds-somes, none-once, optional-from, optional-none, split}
use Rattle.needs.proofs.Refusing.{searched-lists}
use Rattle.needs.proofs.Stopping.{IsGone, IsListed, advanced-lists}

-- ---- a file that is listed is gone

-- what is listed if something is short, and is nothing else
holds_listed : (P : Need → Type 0) (files : Files) (short : Bool) (o : Option Need) → ((n : Need) → IsGone files n → P n) → (short ≡ true → IsListed files o) → (short ≡ false → o ≡ None) → Holds P o
holds_listed P files true o p h none = let found = h refl in subst (Holds P) (sym found.1) (p found.0 found.2)
holds_listed P files false o p h none = subst (Holds P) (sym (none refl)) tt

no_end : (s : State) (e : End) → is_short_end e ≡ false → end_need s e ≡ None
no_end s Ready h = refl
no_end s (Stopped at fault) h = ap (λ b. if b then step_need s at else None) h

no_found : (s : State) (found : Found) → is_short_found found ≡ false → found_need s found ≡ None
no_found s (RoleRefused role fault) h = ap (λ b. if b then role_below s role else None) h
no_found s (Listed role t visited) h = refl
no_found s NotFound h = refl
no_found s LimitReached h = refl

no_search : (s : State) (o : Option Search) → is_short o ≡ false → search_need s o ≡ None
no_search s None h = refl
no_search s (Some x) h = no_found s x.found h

module _ (P : Need → Type 0) (r : Request) (files : Files) (gone : (n : Need) → IsGone files n → P n) where
  abbrev it : Course
  it = course r files

  holds-end : Holds P (end_need it.trusted it.end)
  holds-end = holds_listed P files (is_short_end it.end) (end_need it.trusted it.end) gone (advanced-lists files r.moment r.trusted) (no_end it.trusted it.end)

  holds-searches : (wanted : List (List ℕ)) → ByRecursion (Holds P) (map (search_need it.trusted) (map (searched files r.moment r.limit it.trusted it.end) wanted))
  holds-searches [] = tt
  holds-searches (path ∷ wanted) =
      let o = searched files r.moment r.limit it.trusted it.end path in
      (holds_listed P files (is_short o) (search_need it.trusted o) gone (searched-lists files r.moment path r.limit it.trusted it.end) (no_search it.trusted o), holds-searches wanted)

  pub holds-metadata : ByRecursion P (metadata_needs it)
  holds-metadata = holds-once P (end_need it.trusted it.end ∷ map (search_need it.trusted) it.searches) (holds-end, holds-searches r.wanted)

-- ---- targets

module _ (P : Need → Type 0) (there : Names) (consistent : Bool) (gone : (optional : Bool) (name : List ℕ) (most : ℕ) → there name ≡ false → P (absent place.Targets optional name most)) where
  holds-names : (names : List (List ℕ)) (most : ℕ) → ByRecursion P (name_needs there most names)
  holds-names [] most = tt
  holds-names (name ∷ names) most = if_out (there name) refl (holds-names names most)
    where
      if_out : (b : Bool) → there name ≡ b → ByRecursion P (name_needs there most names)
          → ByRecursion P (if b then [] else absent place.Targets (not (is_none_of names)) name most ∷ name_needs there most names)
      if_out true is h = tt
      if_out false is h = (gone (not (is_none_of names)) name most is, h)

  holds-file : (o : Option Target) → ByRecursion P (option_map_or (target_need there consistent) o [])
  holds-file None = tt
  holds-file (Some t) = holds-names (target_names consistent t.path t.hashes.sha256 t.hashes.sha512) t.length

  holds-files : (all : List Need) (searches : List (Option Search)) → ByRecursion P all → ByRecursion P (fold (noted_files there consistent) all searches)
  holds-files all [] h = h
  holds-files all (o ∷ searches) h =
      holds-files (noted_files there consistent all o) searches
      (holds-from P all (map Some (file_needs there consistent o)) h (holds-somes P (file_needs there consistent o) (holds-file (target_of o))))

  pub holds-targets : (searches : List (Option Search)) → ByRecursion P (fold (noted_files there consistent) [] searches)
  holds-targets searches = holds-files [] searches tt

-- ---- the next root

holds-root : (P : Need → Type 0) (there : Names) (old last : Root) → ((name : List ℕ) (most : ℕ) → there name ≡ false → P (absent place.Metadata true name most)) → Holds P (root_need there old last)
holds-root P there old last h = if_not (is_sought old last) (there (root_name (last.header.version + 1))) (h (root_name (last.header.version + 1)) _)
  where
    if_not : {n : Need} (a b : Bool) → (b ≡ false → P n) → Holds P (if a && not b then Some n else None)
    if_not true true h = tt
    if_not true false h = h refl
    if_not false b h = tt

-- ---- the laws

-- no metadata file among them is there
pub gone_metadata : (r : Request) (files : Files) (metadata : Names) → ((name : List ℕ) → metadata name ≡ is_some (files name))
    → ByRecursion (λ n. metadata n.name ≡ false) (missing_metadata r.trusted.root.reading (course r files) metadata)
gone_metadata r files metadata same =
    let IsGoneBy = λ (n : Need). metadata n.name ≡ false in
    let here : Course = course r files in
    holds-both IsGoneBy (next_root r.trusted.root.reading here metadata) (metadata_needs here)
    (holds-list IsGoneBy _ (holds-root IsGoneBy metadata r.trusted.root.reading here.trusted.root.reading (λ name most h. h)))
    (holds-metadata IsGoneBy r files (λ n g. same n.name ∙ ap is_some g.absent))

module _ (r : Request) (files : Files) (metadata targets : Names) (same : (name : List ℕ) → metadata name ≡ is_some (files name)) where
  abbrev here : Course
  here = course r files

  abbrev listed : List Need
  listed = needs r.trusted.root.reading here metadata targets

  abbrev IsOut : Need → Type 0
  IsOut n = names_at metadata targets n.place n.name ≡ false

  gone-out : (n : Need) → IsGone files n → IsOut n
  gone-out n g = ap (λ p. names_at metadata targets p n.name) g.place ∙ same n.name ∙ ap is_some g.absent

  metadata_out : ByRecursion IsOut (missing_metadata r.trusted.root.reading here metadata)
  metadata_out = holds-both IsOut (next_root r.trusted.root.reading here metadata) (metadata_needs here)
      (holds-list IsOut _ (holds-root IsOut metadata r.trusted.root.reading here.trusted.root.reading (λ name most h. h)))
      (holds-metadata IsOut r files gone-out)

  -- none of them is there
  pub are_absent : AreAbsent metadata targets listed
  are_absent = All-from_recursion IsOut listed
      (holds-both IsOut (missing_metadata r.trusted.root.reading here metadata) (target_needs here targets)
      metadata_out
      (holds-targets IsOut targets here.trusted.root.reading.consistent (λ optional name most h. h) here.searches))

  -- ---- if all of them are optional

  not_none : {P : Type 0} (o : Option Need) → IsListed files o → o ≡ None → P
  not_none o t is = absurd (none-some t.0 (sym is ∙ t.1))

  -- what isn't listed isn't short
  not_short : (b : Bool) (o : Option Need) → (b ≡ true → IsListed files o) → o ≡ None → b ≡ false
  not_short true o h is = not_none o (h refl) is
  not_short false o h is = refl

  none_short : (wanted : List (List ℕ)) → ByRecursion (λ o. o ≡ None) (map (search_need here.trusted) (map (searched files r.moment r.limit here.trusted here.end) wanted))
      → list_all (λ s. not (is_short s)) (map (searched files r.moment r.limit here.trusted here.end) wanted) ≡ true
  none_short [] h = refl
  none_short (path ∷ wanted) h =
      let o = searched files r.moment r.limit here.trusted here.end path in
      and_from (not (is_short o)) _ (ap not (not_short (is_short o) (search_need here.trusted o) (searched-lists files r.moment path r.limit here.trusted here.end) h.0)) (none_short wanted h.1)

  -- the last name is there if no other is and what is listed is optional
  one_there : (names : List (List ℕ)) (most : ℕ) → ByRecursion IsOptional (name_needs targets most names) → is_one_there targets names ≡ true
  one_there [] most h = refl
  one_there (name ∷ names) most h = if_out (targets name) refl h (λ k. one_there names most k)
    where
      next : (none there : Bool) → not none ≡ true → (none || there) ≡ true → there ≡ true
      next true there h k = absurd (true≢false (sym h))
      next false there h k = k

      if_out : (b : Bool) → targets name ≡ b → ByRecursion IsOptional (if b then [] else absent place.Targets (not (is_none_of names)) name most ∷ name_needs targets most names)
          → (ByRecursion IsOptional (name_needs targets most names) → is_one_there targets names ≡ true) → (targets name || list_any targets names) ≡ true
      if_out true is h rest = ap (λ b. b || list_any targets names) is
      if_out false is h rest = ap (λ b. b || list_any targets names) is ∙ next (is_none_of names) (list_any targets names) h.0 (rest h.1)

  file_there : (consistent : Bool) (o : Option Target) → ByRecursion IsOptional (option_map_or (target_need targets consistent) o [])
      → option_map_or (λ t. is_one_there targets (target_names consistent t.path t.hashes.sha256 t.hashes.sha512)) o true ≡ true
  file_there consistent None h = refl
  file_there consistent (Some t) h = one_there (target_names consistent t.path t.hashes.sha256 t.hashes.sha512) t.length h

  files_there : (consistent : Bool) (all : List Need) (searches : List (Option Search)) → are_optional (fold (noted_files targets consistent) all searches) ≡ true
      → (are_optional all ≡ true) × (list_all (has_file targets consistent) searches ≡ true)
  files_there consistent all [] h = (h, refl)
  files_there consistent all (o ∷ searches) h =
      let rest = files_there consistent (noted_files targets consistent all o) searches h in
      let first = optional-from all (map Some (file_needs targets consistent o)) rest.0 in
      (first.0, and_from (has_file targets consistent o) _ (file_there consistent (target_of o) (holds-each IsOptional (file_needs targets consistent o) first.1)) rest.1)

  -- the workflow had all that it looked up
  pub has_enough : are_optional listed ≡ true → HasEnough targets here
  has_enough h =
      let IsNeeded = λ (n : Need). n.optional ≡ false in
      let parts = split (missing_metadata r.trusted.root.reading here metadata) (target_needs here targets) h in
      let others = (split (next_root r.trusted.root.reading here metadata) (metadata_needs here) parts.0).1 in
      let consistent = here.trusted.root.reading.consistent in
      let others_none = none-once (end_need here.trusted here.end ∷ map (search_need here.trusted) here.searches) (optional-none (metadata_needs here) others (holds-metadata IsNeeded r files (λ n g. g.needed))) in
      record {
        end = not_short (is_short_end here.end) (end_need here.trusted here.end) (advanced-lists files r.moment r.trusted) others_none.0;
        roles = none_short r.wanted others_none.1;
        targets = (files_there consistent [] here.searches parts.1).1;
      }
