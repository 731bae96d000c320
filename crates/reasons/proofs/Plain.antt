-- Without their reasons, the checks are those of `Checks` and `Advance`.
use Rattle.std.proofs.Common.{◌≡◌, ℕ, Bool, true, false, ◌&&◌, ◌||◌, not, cond, List, Option, Some, None, Result, Ok, Err, is_some, nat_lt, bytes_eq, refl, ap, sym, ◌∙◌}
use Rattle.std.specs.Prelude.{⊤, length, ◌==◌, nat_le, option_map}
use Rattle.std.specs.Option.{option_map_or}
use Rattle.cjson.specs.Document.{◌>>=◌, refuse_if, or_refuse, Document, document}
use Rattle.cjson.specs.declared.fault.DocFault.{DocFault}
use Rattle.keys.specs.Keys.{digest_by}
use Rattle.keys.specs.declared.judge.Algorithm.TheVariants.{Sha256, Sha512}
use Rattle.moment.specs.Moment.{Moment}
use Rattle.meta.specs.Metadata as form
use Rattle.meta.specs.Metadata.{Form, Root, Timestamp, Snapshot, Targets}
use Rattle.meta.specs.Content.{Part, content, differs, document_of, formed, or_malformed, root_limit, timestamp_limit, snapshot_limit, targets_limit, is_hash_wrong, has_no_known_hash, is_length_wrong}
use Rattle.meta.specs.declared.fault.Fault.{Fault}
use Rattle.meta.specs.declared.fault.Fault.TheVariants as fault
use Rattle.meta.specs.declared.hashes.Hashes.{Hashes}
use Rattle.meta.specs.declared.header.Header.{Header}
use Rattle.examine.specs.Checks as checks
use Rattle.examine.specs.Checks.{Files, Expectation, Candidate, is_earlier, lists_less, is_version_wrong, is_expired, is_again, listed_length, listed_hashes, listed_version}
use Rattle.rolechain.specs.Advance as advance
use Rattle.rolechain.specs.Advance.{State, reading_in, due_root, due_timestamp, due_snapshot, top_targets}
use Rattle.cjson.specs.Form.{Data, greatest}
use Rattle.reasons.specs.Reasons as why
use Rattle.reasons.specs.Stops as stops
use Rattle.reasons.specs.Reasons.{By, plain, fault_of, below, sha256_pair, sha512_pair, differing, has_difference, timestamp_fall, has_fall}
use Rattle.reasons.specs.declared.reason.Reason.{Reason}
use Rattle.reasons.specs.declared.reason.Reason.TheVariants as reason

-- ---- one check after another

pub then-same : {A B : Type 0} (x : Result A Reason) (y : Result A Fault) (f : A → Result B Reason) (g : A → Result B Fault) → plain x ≡ y → ((v : A) → plain (f v) ≡ g v) → plain (x >>= f) ≡ (y >>= g)
then-same (Ok v) y f g e h = h v ∙ ap (λ z. z >>= g) e
then-same (Err w) y f g e h = ap (λ z. z >>= g) e

pub plain-refuse : (b : Bool) (w : Reason) → plain (refuse_if b w) ≡ refuse_if b (fault_of w)
plain-refuse true w = refl
plain-refuse false w = refl

pub plain-or : {A : Type 0} (o : Option A) (w : Reason) → plain (or_refuse o w) ≡ or_refuse o (fault_of w)
plain-or None w = refl
plain-or (Some x) w = refl

-- the same check, told by another test
pub refuse-same : (b c : Bool) (w : Reason) → b ≡ c → plain (refuse_if b w) ≡ refuse_if c (fault_of w)
refuse-same b c w e = plain-refuse b w ∙ ap (λ t. refuse_if t (fault_of w)) e

-- ---- the tests

some-if : {A : Type 0} (t : Bool) (x : A) → is_some (cond t (Some x) None) ≡ t
some-if true x = refl
some-if false x = refl

some-unless : {A : Type 0} (t : Bool) (x : A) → is_some (cond t None (Some x)) ≡ not t
some-unless true x = refl
some-unless false x = refl

pub below-is : (a b : ℕ) → is_some (below a b) ≡ nat_lt a b
below-is a b = some-if (nat_lt a b) _

pub sha256-is : (o : Option (List ℕ)) (found : List ℕ) → is_some (sha256_pair o found) ≡ differs o found
sha256-is None found = refl
sha256-is (Some listed) found = some-unless (bytes_eq listed found) _

pub sha512-is : (o : Option (List ℕ)) (found : List ℕ) → is_some (sha512_pair o found) ≡ differs o found
sha512-is None found = refl
sha512-is (Some listed) found = some-unless (bytes_eq listed found) _

pub difference-is : (h : Hashes) (bytes : List ℕ) → has_difference (differing h bytes) ≡ is_hash_wrong h bytes
difference-is h bytes = λ i. sha256-is h.sha256 (digest_by Sha256 bytes) i || sha512-is h.sha512 (digest_by Sha512 bytes) i

pub fall-is : (old new : Timestamp) → has_fall (timestamp_fall old new) ≡ is_earlier old new
fall-is old new = λ i. below-is new.header.version old.header.version i || below-is new.snapshot.version old.snapshot.version i

-- ---- length and digests

hashes-plain : (hashes : Option Hashes) (bytes : List ℕ)
    → plain (why.hash_check hashes bytes) ≡ (refuse_if (option_map_or (λ h. is_hash_wrong h bytes) hashes false) fault.HashWrong >>= λ x. refuse_if (option_map_or has_no_known_hash hashes false) fault.NoKnownHash)
hashes-plain None bytes = refl
hashes-plain (Some h) bytes =
    then-same _ _ _ _ (refuse-same _ _ _ (difference-is h bytes)) (λ x. plain-refuse (has_no_known_hash h) reason.NoKnownHash)

length-plain : (size : Option ℕ) (bytes : List ℕ) → plain (why.length_check size bytes) ≡ refuse_if (is_length_wrong size bytes) fault.LengthWrong
length-plain None bytes = refl
length-plain (Some n) bytes = plain-refuse (not (n == length bytes)) _

pub content-plain : (most : ℕ) (size : Option ℕ) (hashes : Option Hashes) (bytes : List ℕ) → plain (why.content_check most size hashes bytes) ≡ content (Some most) size hashes bytes
content-plain most size hashes bytes =
    then-same _ _ _ _ (plain-refuse (nat_lt most (length bytes)) _) (λ x. then-same _ _ _ _ (length-plain size bytes) (λ y. hashes-plain hashes bytes))

-- ---- form and signatures

malformed-plain : (r : Result Document DocFault) → plain (why.or_malformed r) ≡ or_malformed r
malformed-plain (Ok d) = refl
malformed-plain (Err f) = refl

read-plain : {A : Type 0} (form : Form A) (bytes : List ℕ) → plain (why.read_check form bytes) ≡ checks.read_candidate form bytes
read-plain form bytes =
    then-same _ _ _ _ (malformed-plain (document bytes)) (λ d. then-same _ _ _ _ (plain-or (form d.signed) _) (λ r. refl))

signed-plain : (by : By) (doc : Document) → plain (why.signed_check by doc) ≡ refuse_if (not (checks.is_signed by.ring by.role doc)) fault.Unsigned
signed-plain by doc = plain-refuse (not (checks.is_signed by.ring by.role doc)) _

pub candidate-plain : {A : Type 0} (form : Form A) (limit : ℕ) (e : Expectation) (keys : Data) (files : Files) → plain (why.signed_candidate form limit e keys files) ≡ checks.signed_candidate form limit e files
candidate-plain form limit e keys files =
    then-same _ _ _ _ (plain-refuse (checks.is_absent e.listed) _) (λ x.
    then-same _ _ _ _ (plain-or (files e.name) _) (λ bytes.
    then-same _ _ _ _ (content-plain limit (listed_length e.listed) (listed_hashes e.listed) bytes) (λ y.
    then-same _ _ _ _ (read-plain form bytes) (λ c.
    then-same _ _ _ _ (signed-plain (why.expected_by e keys) c.doc) (λ z. refl)))))

-- ---- version, rollback and expiry

version-plain : (due : Option ℕ) (h : Header) → plain (why.version_check due h) ≡ refuse_if (is_version_wrong due h) fault.VersionWrong
version-plain None h = refl
version-plain (Some n) h = plain-refuse (not (n == h.version)) _

expiry-plain : (h : Header) (now : Moment) → plain (why.expiry_check h now) ≡ refuse_if (is_expired h now) fault.Expired
expiry-plain h now = plain-refuse (is_expired h now) _

snapshot-plain : (old : Option Snapshot) (new : Snapshot) → plain (why.snapshot_order old new) ≡ refuse_if (option_map_or (λ s. lists_less s new) old false) fault.Rollback
snapshot-plain None new = refl
snapshot-plain (Some old) new = plain-refuse (lists_less old new) _

-- ---- steps one after another

pub regroup : {A B C : Type 0} (x : Result A Fault) (f : A → Result B Fault) (g : B → Result C Fault) → ((x >>= f) >>= g) ≡ (x >>= λ v. f v >>= g)
regroup (Ok p) f g = refl
regroup (Err e) f g = refl

either-same : {A : Type 0} (b : Bool) (x y : Result A Reason) (v w : Result A Fault) → plain x ≡ v → plain y ≡ w → plain (cond b x y) ≡ cond b v w
either-same true x y v w e f = e
either-same false x y v w e f = f

-- ---- the files of each kind

root-ordered : (due : ℕ) (c : Candidate Root) → plain (why.root_order due c.part.reading (why.signing_by (why.own_by c.part.reading c.doc) c.doc) >>= λ x. Ok c.part)
    ≡ (refuse_if (not (checks.is_signed c.part.reading.ring c.part.reading.root c.doc)) fault.Unsigned >>= λ own. refuse_if (is_version_wrong (Some due) c.part.reading.header) fault.VersionWrong >>= λ versioned. Ok c.part)
root-ordered due c =
    then-same _ _ _ _ (then-same _ _ _ _ (plain-refuse (not (checks.is_signed c.part.reading.ring c.part.reading.root c.doc)) _) (λ x. version-plain (Some due) c.part.reading.header)) (λ x. refl)
    ∙ regroup (refuse_if (not (checks.is_signed c.part.reading.ring c.part.reading.root c.doc)) fault.Unsigned) (λ x. refuse_if (is_version_wrong (Some due) c.part.reading.header) fault.VersionWrong) (λ x. Ok c.part)

pub root-plain : (e : Expectation) (keys : Data) (due : ℕ) (files : Files) → plain (why.root_check e keys due files) ≡ checks.root_part e due files
root-plain e keys due files = then-same _ _ _ _ (candidate-plain form.root root_limit e keys files) (root-ordered due)

pub first-plain : (e : Expectation) (keys : Data) (files : Files) (now : Moment) → plain (why.first_check e keys files now) ≡ checks.first_timestamp e files now
first-plain e keys files now =
    then-same _ _ _ _ (candidate-plain form.timestamp timestamp_limit e keys files) (λ c. then-same _ _ _ _ (expiry-plain c.part.reading.header now) (λ x. refl))

later-plain : (old : Timestamp) (p : Part Timestamp) (now : Moment) → plain (why.later_check old p now) ≡ checks.later_timestamp old p now
later-plain old p now =
    either-same (is_again old p.reading) _ _ _ _ refl
    (then-same _ _ _ _ (refuse-same _ _ _ (fall-is old p.reading)) (λ x. then-same _ _ _ _ (expiry-plain p.reading.header now) (λ y. refl))
    ∙ sym (regroup (refuse_if (is_earlier old p.reading) fault.Rollback) (λ x. refuse_if (is_expired p.reading.header now) fault.Expired) (λ y. Ok (Some p))))

pub next-plain : (e : Expectation) (keys : Data) (old : Timestamp) (files : Files) (now : Moment) → plain (why.next_check e keys old files now) ≡ checks.next_timestamp e old files now
next-plain e keys old files now =
    then-same _ _ _ _ (candidate-plain form.timestamp timestamp_limit e keys files) (λ c. later-plain old c.part now)

in-order : {A : Type 0} (v r x : Result ⊤ Reason) (v' r' x' : Result ⊤ Fault) (p : A) → plain v ≡ v' → plain r ≡ r' → plain x ≡ x'
    → plain (v >>= λ a. r >>= λ b. x >>= λ c. Ok p) ≡ ((v' >>= λ a. r' >>= λ b. x') >>= λ c. Ok p)
in-order v r x v' r' x' p e f g =
    then-same _ _ _ _ e (λ a. then-same _ _ _ _ f (λ b. then-same _ _ _ _ g (λ c. refl)) ∙ sym (regroup r' (λ b. x') (λ c. Ok p)))
    ∙ sym (regroup v' (λ a. r' >>= λ b. x') (λ c. Ok p))

pub snapshot-part-plain : (e : Expectation) (keys : Data) (old : Option Snapshot) (files : Files) (now : Moment) → plain (why.snapshot_check e keys old files now) ≡ checks.snapshot_part e old files now
snapshot-part-plain e keys old files now =
    then-same _ _ _ _ (candidate-plain form.snapshot snapshot_limit e keys files) (λ c.
    in-order _ _ _ _ _ _ c.part (version-plain (listed_version e.listed) c.part.reading.header) (snapshot-plain old c.part.reading) (expiry-plain c.part.reading.header now))

pub targets-plain : (e : Expectation) (keys : Data) (files : Files) (now : Moment) → plain (why.targets_check e keys files now) ≡ checks.targets_part e files now
targets-plain e keys files now =
    then-same _ _ _ _ (candidate-plain form.targets targets_limit e keys files) (λ c.
    in-order _ (Ok tt) _ _ (Ok tt) _ c.part (version-plain (listed_version e.listed) c.part.reading.header) refl (expiry-plain c.part.reading.header now))

-- ---- the steps of a cycle

following-plain : (files : Files) (keys : Data) (r : Root) (o : Option (List ℕ)) → plain (stops.following_check files keys r o) ≡ advance.following files r o
following-plain files keys r None = refl
following-plain files keys r (Some bytes) = then-same _ _ _ _ (root-plain (due_root r) keys _ files) (λ n. refl)

pub successor-plain : (files : Files) (keys : Data) (r : Root) → plain (stops.successor_check files keys r) ≡ advance.successor files r
successor-plain files keys r = either-same (nat_le greatest r.header.version) _ _ _ _ refl (following-plain files keys r _)

renewed-plain : (files : Files) (now : Moment) (keys : Data) (r : Root) (old : Timestamp) → plain (stops.renewed_check files now keys r old) ≡ advance.renewed files now r old
renewed-plain files now keys r old =
    then-same _ _ _ _ (next-plain (due_timestamp r) keys old files now) (λ newer. then-same _ _ _ _ (plain-refuse (not (is_some newer) && is_expired old.header now) _) (λ x. refl))

pub newer-plain : (files : Files) (now : Moment) (keys : Data) (r : Root) (o : Option (Part Timestamp)) → plain (stops.newer_check files now keys r o) ≡ advance.newer_timestamp files now r o
newer-plain files now keys r None = then-same _ _ _ _ (first-plain (due_timestamp r) keys files now) (λ p. refl)
newer-plain files now keys r (Some old) = renewed-plain files now keys r old.reading

pub timestamp-stop-plain : (files : Files) (now : Moment) (keys : Data) (s : State) → plain (stops.timestamp_stop files now keys s) ≡ (advance.newer_timestamp files now s.root.reading s.timestamp >>= λ n. Ok tt)
timestamp-stop-plain files now keys s = then-same _ _ _ _ (newer-plain files now keys s.root.reading s.timestamp) (λ n. refl)

pub snapshot-stop-plain : (files : Files) (now : Moment) (keys : Data) (s : State) → plain (stops.snapshot_stop files now keys s) ≡ (advance.listed_snapshot files now s >>= λ n. Ok tt)
snapshot-stop-plain files now keys s =
    then-same _ _ _ _ (then-same _ _ _ _ (plain-or (reading_in s.timestamp) reason.NotListed) (λ t. snapshot-part-plain (due_snapshot s.root.reading t.snapshot) keys (reading_in s.snapshot) files now)) (λ p. refl)

pub targets-stop-plain : (files : Files) (now : Moment) (keys : Data) (s : State) → plain (stops.targets_stop files now keys s) ≡ (advance.listed_targets files now s >>= λ n. Ok tt)
targets-stop-plain files now keys s =
    then-same _ _ _ _ (plain-or (reading_in s.snapshot) reason.NotListed) (λ n. then-same _ _ _ _ (targets-plain (top_targets s.root.reading n) keys files now) (λ p. refl))
    ∙ sym (regroup (or_refuse (reading_in s.snapshot) fault.NotListed) (λ n. checks.targets_part (top_targets s.root.reading n) files now) (λ p. Ok tt))
