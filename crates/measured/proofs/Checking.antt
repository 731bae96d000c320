-- A target's file beside its measure.
use Rattle.std.proofs.Common.{◌≡◌, ℕ, ◌==◌, arith, List, [], ◌∷◌, Bool, true, false, not, nat_lt, ◌||◌, length, take, Option, None, Some, Result, Err, is_some, IfSome, find, option_map, option_and_then, unwrap_or, if◌then◌else◌, refl, sym, ◌∙◌, ap, subst}
use Rattle.std.specs.Bool.{⊤}
use Rattle.std.specs.BTreeMap.{get_by_text}
use Rattle.std.specs.Option.{option_map_or}
use Rattle.sha2.specs.Sha256.{sha256}
use Rattle.sha2.specs.Sha512.{sha512}
use Rattle.std.proofs.lemmas.List.{length-take, take_all}
use Rattle.meta.specs.Content.{content, differs, has_no_known_hash}
use Rattle.meta.specs.declared.fault.Fault.TheVariants.{HashWrong, LengthWrong, NoKnownHash}
use Rattle.examine.specs.Checks.{first_there, target_names, target_file, Missing}
use Rattle.cjson.specs.Document.{◌>>=◌, or_refuse, refuse_if}
use Rattle.cycle.specs.Workflow.{Checks, Fault, Files, Target, target_checked}
use Rattle.folder.specs.Measures.{measure_of}
use Rattle.folder.specs.declared.measure.Measure.{Measure}
use Rattle.folder.specs.declared.measure.Need.{Need}
use Rattle.measured.specs.Known.{MayBe, MayGive, covers, differs_from, has_wrong_hash, measured_content, place}
use Rattle.measured.proofs.Covering.{first_of_three, second_of_three, third_of_three}
use Rattle.measured.specs.declared.known.Known.{Known}
use Rattle.measured.specs.declared.known.Wanted.{Wanted}

-- the file under the first name that is there
at_first : (file : Option (List ℕ)) (there : Bool) (name : List ℕ) (files : Files) (rest : Option (List ℕ)) (more : Option (List ℕ)) → is_some file ≡ there → files name ≡ file
    → more ≡ option_and_then files rest → option_map_or Some file more ≡ option_and_then files (if there then Some name else rest)
at_first None false name files rest more is at h = h
at_first None true name files rest more is at h = absurd (cc)
at_first (Some b) true name files rest more is at h = sym at
at_first (Some b) false name files rest more is at h = absurd (cc)

first_of : (files : Files) (there : List ℕ → Bool) (names : List (List ℕ)) → ((name : List ℕ) → is_some (files name) ≡ there name)
    → first_there files names ≡ option_and_then files (find there names)
first_of files there [] same = refl
first_of files there (name ∷ names) same = at_first (files name) (there name) name files (find there names) (first_there files names) (same name) refl (first_of files there names same)

pub file_of : (k : Known) (files : Files) (consistent : Bool) (t : Target) → MayBe k files → target_file files consistent t ≡ option_and_then files (place k consistent t)
file_of k files consistent t may = first_of files (λ n. is_some (get_by_text k.files n)) (target_names consistent t.path t.hashes.sha256 t.hashes.sha512) may.names

unmeasured : (need : Need) (file : Option (List ℕ)) (m : Measure) → option_map (measure_of need) file ≡ Some m → (bytes : List ℕ) × (file ≡ Some bytes) × (m ≡ measure_of need bytes)
unmeasured need None m is = absurd (cc)
unmeasured need (Some bytes) m is = (bytes, refl, ap (λ o. unwrap_or o m) (sym is))

bytes_at : (k : Known) (files : Files) (name : List ℕ) (w : Wanted) (m : Measure) → MayBe k files → get_by_text k.files name ≡ Some (Some w) → w.measure ≡ Some m
    → (bytes : List ℕ) × (files name ≡ Some bytes) × (m ≡ measure_of w.need bytes)
bytes_at k files name w m may at measured =
    unmeasured w.need (files name) m
    (subst (λ o. IfSome o (λ m. option_map (measure_of w.need) (files name) ≡ Some m)) measured
    (subst (λ o. IfSome o (λ v. IfSome v (λ w. IfSome w.measure (λ m. option_map (measure_of w.need) (files name) ≡ Some m)))) at (may.measures name)))

-- the file isn't there
absent : (k : Known) (files : Files) (consistent : Bool) (t : Target) → MayBe k files → place k consistent t ≡ None → target_checked files consistent t ≡ Err Missing
absent k files consistent t may none =
    ap (λ o. or_refuse o Missing >>= content None (Some t.length) (Some t.hashes)) (file_of k files consistent t may ∙ ap (option_and_then files) none)

pub missing : (k : Known) (checks : Checks) (consistent : Bool) (t : Target) → MayGive k checks → place k consistent t ≡ None → checks consistent t ≡ Err Missing
missing k checks consistent t gives none = ap (λ (f : Checks). f consistent t) gives.are ∙ absent k gives.files consistent t gives.may_be none

-- ---- a measure beside the bytes

step : (b : Bool) (f : Fault) (k l : ⊤ → Result ⊤ Fault) → (b ≡ false → (u : ⊤) → k u ≡ l u) → (refuse_if b f >>= k) ≡ (refuse_if b f >>= l)
step true f k l same = refl
step false f k l same = same refl _

same_length : (n up_to : ℕ) (bytes : List ℕ) → nat_lt n up_to ≡ true → (n == length (take up_to bytes)) ≡ (n == length bytes)
same_length n up_to bytes below = rw (length-take up_to bytes) (grind arith)

equal_length : (n l : ℕ) → not (n == l) ≡ false → n ≡ l
equal_length n l h = grind arith

whole : (n up_to : ℕ) (bytes : List ℕ) → nat_lt n up_to ≡ true → not (n == length bytes) ≡ false → take up_to bytes ≡ bytes
whole n up_to bytes below right = let same = equal_length n (length bytes) right in take_all up_to bytes (grind arith)

same_digest : (given : Option (List ℕ)) (is_wanted : Bool) (digest : List ℕ) → (not (is_some given) || is_wanted) ≡ true
    → differs_from given (if is_wanted then Some digest else None) ≡ differs given digest
same_digest None is_wanted digest h = refl
same_digest (Some d) true digest h = refl
same_digest (Some d) false digest h = absurd (cc)

both : {a b c d : Bool} → a ≡ b → c ≡ d → (a || c) ≡ (b || d)
both {a} {b} {c} {d} p q = ap (λ x. x || c) p ∙ ap (λ y. b || y) q

-- a measure that was taken as far as the target needs it passes the checks that the bytes pass
pub measured_is : (need : Need) (bytes : List ℕ) (t : Target) → covers need t ≡ true
    → measured_content t (measure_of need bytes) ≡ content None (Some t.length) (Some t.hashes) bytes
measured_is need bytes t covered =
    let a = nat_lt t.length need.up_to in
    let b = not (is_some t.hashes.sha256) || need.sha256 in
    let c = not (is_some t.hashes.sha512) || need.sha512 in
    let below = first_of_three a b c covered in
    let later = λ (u : ⊤). refuse_if (has_wrong_hash t.hashes (measure_of need bytes)) HashWrong >>= (λ hashed. refuse_if (has_no_known_hash t.hashes) NoKnownHash) in
    ap (λ same. refuse_if (not same) LengthWrong >>= later) (same_length t.length need.up_to bytes below)
    ∙ step (not (t.length == length bytes)) LengthWrong later _ (λ right u.
    let all = whole t.length need.up_to bytes below right in
    ap (λ wrong. refuse_if wrong HashWrong >>= (λ hashed. refuse_if (has_no_known_hash t.hashes) NoKnownHash))
    (both
    (ap (λ bs. differs_from t.hashes.sha256 (if need.sha256 then Some (sha256 bs) else None)) all ∙ same_digest t.hashes.sha256 need.sha256 (sha256 bytes) (second_of_three a b c covered))
    (ap (λ bs. differs_from t.hashes.sha512 (if need.sha512 then Some (sha512 bs) else None)) all ∙ same_digest t.hashes.sha512 need.sha512 (sha512 bytes) (third_of_three a b c covered))))

-- the file is there, and was measured as far as it is needed
beside : (k : Known) (files : Files) (consistent : Bool) (t : Target) (name : List ℕ) (w : Wanted) (m : Measure)
    → MayBe k files → place k consistent t ≡ Some name → get_by_text k.files name ≡ Some (Some w) → w.measure ≡ Some m → covers w.need t ≡ true
    → target_checked files consistent t ≡ measured_content t m
beside k files consistent t name w m may is at measured covered =
    let found = bytes_at k files name w m may at measured in
    ap (λ o. or_refuse o Missing >>= content None (Some t.length) (Some t.hashes)) (file_of k files consistent t may ∙ ap (option_and_then files) is ∙ found.1)
    ∙ sym (ap (measured_content t) found.2 ∙ measured_is w.need found.0 t covered)

pub checked : (k : Known) (checks : Checks) (consistent : Bool) (t : Target) (name : List ℕ) (w : Wanted) (m : Measure)
    → MayGive k checks → place k consistent t ≡ Some name → get_by_text k.files name ≡ Some (Some w) → w.measure ≡ Some m → covers w.need t ≡ true
    → checks consistent t ≡ measured_content t m
checked k checks consistent t name w m gives is at measured covered =
    ap (λ (f : Checks). f consistent t) gives.are ∙ beside k gives.files consistent t name w m gives.may_be is at measured covered
