-- A step or a search that ends because a file is missing: which file that is.
use Rattle.std.proofs.Common.{◌≡◌, ℕ, Bool, true, false, not, ◌&&◌, List, Option, Some, None, is_none, Result, Ok, Err, refl, sym, ◌∙◌, true≢false, if◌then◌else◌}
use Rattle.std.specs.Option.{option_map_or}
use Rattle.cjson.specs.Document.{Document, document, ◌>>=◌, refuse_if, or_refuse}
use Rattle.cjson.specs.declared.fault.DocFault.{DocFault}
use Rattle.meta.specs.Metadata.{Moment}
use Rattle.meta.specs.Content.{content, has_no_known_hash, is_hash_wrong, is_length_wrong, is_too_long, document_of, formed, or_malformed, root_limit, snapshot_limit, targets_limit, timestamp_limit}
use Rattle.meta.specs.Metadata.{Key, RoleKeys, Form, Root, Timestamp, Snapshot, Targets}
use Rattle.meta.specs.Metadata as form
use Rattle.meta.specs.declared.fault.Fault.{Fault}
use Rattle.meta.specs.declared.fault.Fault.TheVariants.{NotListed, Missing, TooLong, LengthWrong, HashWrong, NoKnownHash, Malformed, Unsigned, VersionWrong, Rollback, Expired}
use Rattle.meta.specs.declared.hashes.Hashes.{Hashes}
use Rattle.meta.specs.declared.header.Header.{Header}
use Rattle.examine.specs.Checks.{Files, Expectation, Part, is_absent, listed_length, listed_hashes, listed_version, read_candidate, signed_candidate, in_order, is_earlier, is_expired, is_version_wrong, lists_less, expiry_check, is_again, later_timestamp, root_part, first_timestamp, next_timestamp, snapshot_part, targets_part}
use Rattle.needs.specs.Needs.{is_missing}

-- ---- results that miss a file

unfoldable pub is_miss : {A : Type 0} → Result A Fault → Bool
is_miss (Ok x) = false
is_miss (Err fault) = is_missing fault

-- what follows misses none
pub still : {A B : Type 0} (r : Result A Fault) (k : A → Result B Fault) → ((x : A) → is_miss (k x) ≡ false) → is_miss (r >>= k) ≡ is_miss r
unfolding is_miss
still (Ok x) k h = h x
still (Err fault) k h = refl

-- nor does the first
sure : {A B : Type 0} (r : Result A Fault) (k : A → Result B Fault) → is_miss r ≡ false → ((x : A) → is_miss (k x) ≡ false) → is_miss (r >>= k) ≡ false
sure r k first rest = still r k rest ∙ first

refused : (b : Bool) (fault : Fault) → is_missing fault ≡ false → is_miss (refuse_if b fault) ≡ false
unfolding is_miss
refused true fault h = h
refused false fault h = refl

needed : {A : Type 0} (o : Option A) (fault : Fault) → is_missing fault ≡ false → is_miss (or_refuse o fault) ≡ false
unfolding is_miss
needed None fault h = h
needed (Some x) fault h = refl

either : {A : Type 0} (b : Bool) (r q : Result A Fault) → is_miss r ≡ false → is_miss q ≡ false → is_miss (if b then r else q) ≡ false
either true r q h k = h
either false r q h k = k

-- ---- checks in order

two_then : {A : Type 0} (a b : Bool) (e f : Fault) (x : A) → is_missing e ≡ false → is_missing f ≡ false → is_miss (refuse_if a e >>= λ _. refuse_if b f >>= λ _. Ok x) ≡ false
unfolding is_miss
two_then true b e f x h k = h
two_then false true e f x h k = k
two_then false false e f x h k = refl

three : (a b c : Bool) (e f g : Fault) → is_missing e ≡ false → is_missing f ≡ false → is_missing g ≡ false → is_miss (refuse_if a e >>= λ _. refuse_if b f >>= λ _. refuse_if c g) ≡ false
unfolding is_miss
three true b c e f g h k l = h
three false true c e f g h k l = k
three false false true e f g h k l = l
three false false false e f g h k l = refl

pub passes : {A : Type 0} (x : A) → is_miss (Ok x) ≡ false
unfolding is_miss
passes x = refl

pub denied : (A : Type 0) (e : Fault) → is_missing e ≡ false → is_miss {A = A} (Err e) ≡ false
unfolding is_miss
denied A e h = h

pub one_then : {A : Type 0} (a : Bool) (e : Fault) (x : A) → is_missing e ≡ false → is_miss (refuse_if a e >>= λ _. Ok x) ≡ false
unfolding is_miss
one_then true e x h = h
one_then false e x h = refl

-- ---- one file

sound : (r : Result Document DocFault) → is_miss (or_malformed r) ≡ false
unfolding is_miss
sound (Ok x) = refl
sound (Err fault) = refl

content-sure : (limit size : Option ℕ) (hashes : Option Hashes) (bytes : List ℕ) → is_miss (content limit size hashes bytes) ≡ false
unfolding is_miss
content-sure limit size hashes bytes =
    four (is_too_long limit bytes) (is_length_wrong size bytes) (option_map_or (λ h. is_hash_wrong h bytes) hashes false) (option_map_or has_no_known_hash hashes false)
  where
    four : (a b c d : Bool) → is_miss (refuse_if a TooLong >>= λ _. refuse_if b LengthWrong >>= λ _. refuse_if c HashWrong >>= λ _. refuse_if d NoKnownHash) ≡ false
    four true b c d = refl
    four false true c d = refl
    four false false true d = refl
    four false false false true = refl
    four false false false false = refl

-- a file that must be there isn't
abbrev pub lacks : Files → Expectation → Bool
lacks files e = not (is_absent e.listed) && is_none (files e.name)

-- so there is none of its name
pub gone : (b : Bool) (file : Option (List ℕ)) → (not b && is_none file) ≡ true → file ≡ None
gone true file h = absurd (true≢false (sym h))
gone false None h = refl
gone false (Some bytes) h = absurd (true≢false (sym h))

listed-miss : {A : Type 0} (b : Bool) (file : Option (List ℕ)) (k : List ℕ → Result A Fault) → ((bytes : List ℕ) → is_miss (k bytes) ≡ false)
    → is_miss (refuse_if b NotListed >>= λ _. or_refuse file Missing >>= k) ≡ (not b && is_none file)
unfolding is_miss
listed-miss true file k h = refl
listed-miss false None k h = refl
listed-miss false (Some bytes) k h = h bytes

module _ (files : Files) where
  module _ (A : Type 0) (form : Form A) (limit : ℕ) (e : Expectation) where
    read-sure : (bytes : List ℕ) → is_miss (read_candidate form bytes) ≡ false
    read-sure bytes =
        sure (document_of bytes) _ (sound (document bytes))
        (λ doc. sure (formed form doc) _ (needed (form doc.signed) Malformed refl) (λ _. passes _))

    signed-miss : is_miss (signed_candidate form limit e files) ≡ lacks files e
    signed-miss =
        listed-miss (is_absent e.listed) (files e.name) _
        (λ bytes. sure (content (Some limit) (listed_length e.listed) (listed_hashes e.listed) bytes) _
        (content-sure (Some limit) (listed_length e.listed) (listed_hashes e.listed) bytes)
        (λ _. sure (read_candidate form bytes) _ (read-sure bytes) (λ c. sure (refuse_if _ Unsigned) _ (refused _ Unsigned refl) (λ _. passes _))))

  -- ---- the files of each kind

  order-sure : (due : Option ℕ) (is_below : Bool) (h : Header) (now : Moment) → is_miss (in_order due is_below h now) ≡ false
  order-sure due is_below h now = three (is_version_wrong due h) is_below (is_expired h now) VersionWrong Rollback Expired refl refl refl

  pub expiry-sure : (h : Header) (now : Moment) → is_miss (expiry_check h now) ≡ false
  expiry-sure h now = refused (is_expired h now) Expired refl

  later-sure : (old : Timestamp) (p : Part Timestamp) (now : Moment) → is_miss (later_timestamp old p now) ≡ false
  later-sure old p now =
      either (is_again old p.reading) (Ok None) _ (passes None)
      (sure (in_order None (is_earlier old p.reading) p.reading.header now) _ (order-sure None (is_earlier old p.reading) p.reading.header now) (λ _. passes _))

  pub root_part-miss : (e : Expectation) (due : ℕ) → is_miss (root_part e due files) ≡ lacks files e
  root_part-miss e due =
      still (signed_candidate form.root root_limit e files) _ (λ c. two_then _ (is_version_wrong (Some due) c.part.reading.header) Unsigned VersionWrong c.part refl refl)
      ∙ signed-miss Root form.root root_limit e

  pub first_timestamp-miss : (e : Expectation) (now : Moment) → is_miss (first_timestamp e files now) ≡ lacks files e
  first_timestamp-miss e now =
      still (signed_candidate form.timestamp timestamp_limit e files) _ (λ c. sure (in_order None false c.part.reading.header now) _ (order-sure None false c.part.reading.header now) (λ _. passes _))
      ∙ signed-miss Timestamp form.timestamp timestamp_limit e

  pub next_timestamp-miss : (e : Expectation) (old : Timestamp) (now : Moment) → is_miss (next_timestamp e old files now) ≡ lacks files e
  next_timestamp-miss e old now =
      still (signed_candidate form.timestamp timestamp_limit e files) _ (λ c. later-sure old c.part now)
      ∙ signed-miss Timestamp form.timestamp timestamp_limit e

  pub snapshot_part-miss : (e : Expectation) (old : Option Snapshot) (now : Moment) → is_miss (snapshot_part e old files now) ≡ lacks files e
  snapshot_part-miss e old now =
      still (signed_candidate form.snapshot snapshot_limit e files) _
      (λ c. sure (in_order (listed_version e.listed) (option_map_or (λ s. lists_less s c.part.reading) old false) c.part.reading.header now) _
      (order-sure (listed_version e.listed) (option_map_or (λ s. lists_less s c.part.reading) old false) c.part.reading.header now) (λ _. passes _))
      ∙ signed-miss Snapshot form.snapshot snapshot_limit e

  pub targets_part-miss : (e : Expectation) (now : Moment) → is_miss (targets_part e files now) ≡ lacks files e
  targets_part-miss e now =
      still (signed_candidate form.targets targets_limit e files) _
      (λ c. sure (in_order (listed_version e.listed) false c.part.reading.header now) _ (order-sure (listed_version e.listed) false c.part.reading.header now) (λ _. passes _))
      ∙ signed-miss Targets form.targets targets_limit e
