-- A course that no other metadata files of the folder change.
use Rattle.std.proofs.Common.{◌≡◌, ℕ, List, Bool, true, false, ◌&&◌, take, is_some, Option, Some, None, IfSome, Vec, Global, All, map, string_bytes, option_map, refl, sym, ap, ◌∙◌, subst, le_refl, take-take, if◌then◌else◌}
use Rattle.std.proofs.Math.Path.{fun_ext}
use Rattle.std.proofs.lemmas.List.Elements.{All-weaker}
use Rattle.std.specs.BTreeMap.{get_by_text}
use Rattle.examine.specs.Checks.{Files, file_in}
use Rattle.cycle.specs.Looked.{AreAlike, is_metadata_name, looked_at, most_looked_at}
use Rattle.cycle.specs.Workflow.{Course, Request, course}
use Rattle.cycle.proofs.Looking.{same_course}
use Rattle.folder.specs.Folders.{Giving}
use Rattle.folder.specs.Seen.{AreSeen, IsStartOf, MayBeSeen, Seen, Start, is_named}
use Rattle.lookups.specs.Lookups.{Grows, HasNoneOf, IsCourseOn, IsDone, IsPart, IsReadOf, IsSettledOn, IsWhole, files_read, is_listed, is_metadata_in, is_read, missing_in}
use Rattle.lookups.specs.declared.metadata.Metadata.{Metadata}
use Rattle.needs.specs.Laws.{IsMore}
use Rattle.needs.specs.Needs.{is_in, missing_metadata}
use Rattle.needs.specs.declared.need.Need.{Need}
use Rattle.needs.proofs.Answering.{metadata_absent, metadata_settled}

-- ---- none of the files that the course lacks is listed

not_there : (m : Metadata) (name : List ℕ) → IsDone m name → is_read m name ≡ false → is_listed m name ≡ false
not_there m name done none = by (is_listed m name) refl
  where
    by : (b : Bool) → is_listed m name ≡ b → b ≡ false
    by true is = absurd (cc (done is))
    by false is = refl

both : (m : Metadata) (all : List Need) → All (λ n. IsDone m n.name) all → All (λ n. is_read m n.name ≡ false) all → All (λ n. is_listed m n.name ≡ false) all
both m all done none k d inside = not_there m _ (done k d inside) (none k d inside)

absent_on : (r : Request) (m : Metadata) (c : Course) → c ≡ course r (file_in m.repo.metadata) → All (λ n. is_read m n.name ≡ false) (missing_metadata r.trusted.root.reading c (is_in m.repo.metadata))
absent_on r m c is = subst (λ k. All (λ n. is_read m n.name ≡ false) (missing_metadata r.trusted.root.reading k (is_in m.repo.metadata))) (sym is) (metadata_absent r m.repo.metadata)

-- all that it lacks isn't listed
pub settled_none : (r : Request) (m : Metadata) (c : Course) (all : List Need) → c ≡ course r (file_in m.repo.metadata) → all ≡ missing_metadata r.trusted.root.reading c (is_in m.repo.metadata)
    → All (λ n. IsDone m n.name) all → IsSettledOn r m c
settled_none r m c all is listed done = record {
  same = is;
  absent = both m _ (subst (λ l. All (λ n. IsDone m n.name) l) listed done) (absent_on r m c is);
}

-- all that is listed was read
pub settled_whole : (r : Request) (m : Metadata) (c : Course) → c ≡ course r (file_in m.repo.metadata) → IsWhole m → IsSettledOn r m c
settled_whole r m c is whole = record {
  same = is;
  absent = both m _ (λ k d inside. whole _) (absent_on r m c is);
}

-- ---- what was read, as what was seen

abbrev start_of : Option (Vec ℕ Global) → Option Start
start_of o = option_map (λ v. record { up_to = most_looked_at; bytes = v.items }) o

abbrev pub seen_of : Metadata → Seen
seen_of m = record { names = map string_bytes m.names.items; read = λ name. start_of (get_by_text m.repo.metadata name) }

bytes_of : (o : Option (Vec ℕ Global)) → option_map (λ r. r.bytes) (start_of o) ≡ option_map (λ v. v.items) o
bytes_of None = refl
bytes_of (Some v) = refl

left_true : (a b : Bool) → (a && b) ≡ true → a ≡ true
left_true true b h = refl
left_true false b h = absurd (cc)

right_true : (a b : Bool) → (a && b) ≡ true → b ≡ true
right_true true b h = h
right_true false b h = absurd (cc)

if_start : (P : Start → Type 0) (o : Option (Vec ℕ Global)) → IfSome o (λ v. P (record { up_to = most_looked_at; bytes = v.items })) → IfSome (start_of o) P
if_start P None h = tt
if_start P (Some v) h = h

of_start : (P : Start → Type 0) (o : Option (Vec ℕ Global)) → IfSome (start_of o) P → IfSome o (λ v. P (record { up_to = most_looked_at; bytes = v.items }))
of_start P None h = tt
of_start P (Some v) h = h

weaker : (P Q : Vec ℕ Global → Type 0) (o : Option (Vec ℕ Global)) → ((v : Vec ℕ Global) → P v → Q v) → IfSome o P → IfSome o Q
weaker P Q None f h = tt
weaker P Q (Some v) f h = f v h

module _ (g : Giving) (m : Metadata) (is : IsPart g m) where
  named_of : (name : List ℕ) → is_listed m name ≡ true → is_named (map string_bytes m.names.items) name ≡ true
  named_of name h = sym (is.listed name) ∙ left_true _ _ h

  pub may_be : MayBeSeen g.lists g.holds (seen_of m)
  may_be = record {
    listed = is.names;
    named = λ name. if_start (λ _. is_named (map string_bytes m.names.items) name ≡ true) (get_by_text m.repo.metadata name)
        (weaker (λ v. IsReadOf g m name v.items) (λ _. is_named (map string_bytes m.names.items) name ≡ true) (get_by_text m.repo.metadata name) (λ v h. named_of name h.listed) (is.read name));
    held = λ name. if_start (λ r. IsStartOf (g.holds name) r.up_to r.bytes) (get_by_text m.repo.metadata name)
        (weaker (λ v. IsReadOf g m name v.items) (λ v. IsStartOf (g.holds name) most_looked_at v.items) (get_by_text m.repo.metadata name) (λ v h. h.start) (is.read name));
  }

  -- the part of files that is looked at, if they are seen so
  looked_again : (files : Files) → AreAlike files (looked_at files)
  looked_again files name = by (is_metadata_name name)
    where
      twice : (o : Option (List ℕ)) → option_map (take most_looked_at) o ≡ option_map (take most_looked_at) (option_map (take most_looked_at) o)
      twice None = refl
      twice (Some bytes) = ap Some (sym (take-take most_looked_at most_looked_at bytes (le_refl most_looked_at)))

      by : (b : Bool) → (if b then option_map (take most_looked_at) (files name) else None) ≡ (if b then option_map (take most_looked_at) (if b then option_map (take most_looked_at) (files name) else None) else None)
      by true = twice (files name)
      by false = refl

  module _ (files : Files) (are : AreSeen (seen_of m) files) where
    as_looked : (name : List ℕ) (b : Bool) (x : Option (List ℕ)) → is_metadata_name name ≡ b → b ≡ true → x ≡ option_map (take most_looked_at) (files name) → looked_at files name ≡ x
    as_looked name true x json h same = ap (λ b. if b then option_map (take most_looked_at) (files name) else None) json ∙ sym same
    as_looked name false x json h same = absurd (cc)

    kept : (name : List ℕ) → IfSome (file_in m.repo.metadata name) (λ bytes. looked_at files name ≡ Some bytes)
    kept name = at (get_by_text m.repo.metadata name) (is.read name)
        (of_start (λ r. option_map (take r.up_to) (files name) ≡ Some r.bytes) (get_by_text m.repo.metadata name) (are.bytes name))
      where
        at : (o : Option (Vec ℕ Global)) → IfSome o (λ v. IsReadOf g m name v.items) → IfSome o (λ v. option_map (take most_looked_at) (files name) ≡ Some v.items)
            → IfSome (option_map (λ v. v.items) o) (λ bytes. looked_at files name ≡ Some bytes)
        at None h k = tt
        at (Some v) h k = as_looked name (is_metadata_name name) (Some v.items) refl (right_true _ _ h.listed) (sym k)

    gone : (name : List ℕ) → is_listed m name ≡ false → looked_at files name ≡ None
    gone name h = by (is_metadata_name name) (is_in m.listed name) refl refl h (sym (is.listed name)) (are.names name)
      where
        none_of : (o : Option (List ℕ)) → is_some o ≡ false → option_map (take most_looked_at) o ≡ None
        none_of None h = refl
        none_of (Some x) h = absurd (cc)

        by : (json there : Bool) → is_metadata_name name ≡ json → is_in m.listed name ≡ there → (there && json) ≡ false → is_named (map string_bytes m.names.items) name ≡ there
            → is_some (files name) ≡ is_named (map string_bytes m.names.items) name → looked_at files name ≡ None
        by false there is_json is_there h listed named = ap (λ b. if b then option_map (take most_looked_at) (files name) else None) is_json
        by true true is_json is_there h listed named = absurd (cc)
        by true false is_json is_there h listed named =
            ap (λ b. if b then option_map (take most_looked_at) (files name) else None) is_json ∙ none_of (files name) (named ∙ listed)

    pub on_files : (r : Request) (c : Course) → IsSettledOn r m c → c ≡ course r files
    on_files r c settled =
        let missing = missing_metadata r.trusted.root.reading (course r (file_in m.repo.metadata)) (is_in m.repo.metadata) in
        let listed : All (λ n. is_listed m n.name ≡ false) missing =
        subst (λ k. All (λ n. is_listed m n.name ≡ false) (missing_metadata r.trusted.root.reading k (is_in m.repo.metadata))) settled.same settled.absent in
        let more : IsMore (file_in m.repo.metadata) missing (looked_at files) = record {
          kept = kept;
          absent = λ k d inside place. gone _ (listed k d inside);
        } in
        settled.same ∙ sym (metadata_settled r m.repo.metadata (looked_at files) more) ∙ sym (same_course files (looked_at files) r (looked_again files))

  pub read_files : file_in m.repo.metadata ≡ files_read (seen_of m)
  read_files = fun_ext (λ name. sym (bytes_of (get_by_text m.repo.metadata name)))

  pub starts : (name : List ℕ) → IfSome ((seen_of m).read name) (λ s. (is_metadata_name name ≡ true) × (s.up_to ≡ most_looked_at))
  starts name = if_start (λ s. (is_metadata_name name ≡ true) × (s.up_to ≡ most_looked_at)) (get_by_text m.repo.metadata name)
      (weaker (λ v. IsReadOf g m name v.items) (λ v. (is_metadata_name name ≡ true) × (most_looked_at ≡ most_looked_at)) (get_by_text m.repo.metadata name) (λ v h. (right_true _ _ h.listed, refl)) (is.read name))

  pub read_names : is_in m.repo.metadata ≡ (λ name. is_some (files_read (seen_of m) name))
  read_names = fun_ext (λ name. there (get_by_text m.repo.metadata name) ∙ ap (λ (f : Files). is_some (f name)) read_files)
    where
      there : (o : Option (Vec ℕ Global)) → is_some o ≡ is_some (option_map (λ v. v.items) o)
      there None = refl
      there (Some v) = refl

  pub none_there : (r : Request) (c : Course) → IsSettledOn r m c → All (λ n. is_metadata_in (map string_bytes m.names.items) n.name ≡ false) (missing_in r (files_read (seen_of m)))
  none_there r c settled =
      let on : All (λ n. is_listed m n.name ≡ false) (missing_in r (files_read (seen_of m))) =
      subst (λ (f : Files). All (λ n. is_listed m n.name ≡ false) (missing_metadata r.trusted.root.reading (course r f) (λ name. is_some (files_read (seen_of m) name)))) read_files
      (subst (λ k. All (λ n. is_listed m n.name ≡ false) (missing_metadata r.trusted.root.reading (course r (file_in m.repo.metadata)) k)) read_names
      (subst (λ k. All (λ n. is_listed m n.name ≡ false) (missing_metadata r.trusted.root.reading k (is_in m.repo.metadata))) settled.same settled.absent)) in
      All-weaker (λ n. is_listed m n.name ≡ false) (λ n. is_metadata_in (map string_bytes m.names.items) n.name ≡ false)
      (λ n h. ap (λ b. b && is_metadata_name n.name) (sym (is.listed n.name)) ∙ h) _ on

  abbrev pub course_on : (r : Request) (c : Course) → IsSettledOn r m c → IsCourseOn g r c
  course_on r c settled = record {
    seen = seen_of m;
    looked_up = record { may_be_seen = may_be; starts = starts };
    on_read = settled.same ∙ ap (course r) read_files;
    on_all = λ files are. on_files files are r c settled;
    absent = none_there r c settled;
  }

-- ---- more that is read later

-- it changes nothing
pub stays : (g : Giving) (r : Request) (m later : Metadata) (c : Course) → IsSettledOn r m c → IsPart g later → Grows m later → course r (file_in later.repo.metadata) ≡ c
stays g r m later c settled part grows =
    let missing = missing_metadata r.trusted.root.reading (course r (file_in m.repo.metadata)) (is_in m.repo.metadata) in
    let listed : All (λ n. is_listed m n.name ≡ false) missing =
    subst (λ k. All (λ n. is_listed m n.name ≡ false) (missing_metadata r.trusted.root.reading k (is_in m.repo.metadata))) settled.same settled.absent in
    let more : IsMore (file_in m.repo.metadata) missing (file_in later.repo.metadata) = record {
      kept = λ name. kept_file (get_by_text m.repo.metadata name) (get_by_text later.repo.metadata name) (grows.read name);
      absent = λ k d inside place. none_read _ (get_by_text later.repo.metadata _) (part.read _) (listed k d inside);
    } in
    metadata_settled r m.repo.metadata (file_in later.repo.metadata) more ∙ sym settled.same
  where
    kept_file : (x y : Option (Vec ℕ Global)) → IfSome x (λ v. y ≡ Some v) → IfSome (option_map (λ v. v.items) x) (λ bytes. option_map (λ v. v.items) y ≡ Some bytes)
    kept_file None y h = tt
    kept_file (Some v) y h = ap (option_map (λ v. v.items)) h

    none_read : (name : List ℕ) (o : Option (Vec ℕ Global)) → IfSome o (λ v. IsReadOf g later name v.items) → is_listed m name ≡ false → option_map (λ v. v.items) o ≡ None
    none_read name None h is = refl
    none_read name (Some v) h is =
        let was : is_listed m name ≡ true = sym (ap (λ l. is_listed (record m { listed = l }) name) grows.listed) ∙ h.listed in
        absurd (cc)

-- a course after which nothing more was read
pub settled_once : (r : Request) (old new : Metadata) (c : Course) (all : List Need) → c ≡ course r (file_in old.repo.metadata) → all ≡ missing_metadata r.trusted.root.reading c (is_in old.repo.metadata)
    → HasNoneOf all old new → IsSettledOn r new c
settled_once r old new c all is listed none = subst (λ m. IsSettledOn r m c) (sym none.same) (settled_none r old c all is listed none.done)
