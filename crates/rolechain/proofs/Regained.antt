-- Reading a state's text returns the state, and a text that is read is that of its state.
use Rattle.std.proofs.Common.{◌≡◌, ℕ, Bool, true, false, ◌||◌, not, nat_lt, if◌then◌else◌, List, length, Option, Some, None, Result, Ok, Err, IfOk, IfSome, bytes_eq, refl, sym, ap, ◌∙◌}
use Rattle.std.specs.Prelude.{⊤}
use Rattle.std.specs.Str.{is_utf8}
use Rattle.std.proofs.lemmas.Slice.Eq.{bytes_eq-Decides}
use Rattle.hex.specs.Hex.{IsBytes}
use Rattle.serde_json.specs.Data.{Data}
use Rattle.serde_json.specs.Read.{read}
use Rattle.cjson.specs.Document.{◌>>=◌, refuse_if, or_refuse, Document, tree_of, document}
use Rattle.cjson.specs.Form.{Form}
use Rattle.cjson.specs.declared.fault.DocFault.{DocFault}
use Rattle.cjson.specs.declared.fault.DocFault.TheVariants.{NotJson}
use Rattle.cjson.specs.declared.fault.NoMemory.{NoMemory}
use Rattle.meta.specs.Metadata.{Root, Timestamp, Snapshot, Targets}
use Rattle.meta.specs.Metadata as form
use Rattle.meta.specs.Content.{Part, part_of, root_limit, timestamp_limit, snapshot_limit, targets_limit, or_malformed, document_of, formed, reading_of}
use Rattle.meta.specs.declared.fault.Fault.{Fault}
use Rattle.meta.specs.declared.fault.Fault.TheVariants as fault
use Rattle.rolechain.specs.Advance.{State}
use Rattle.rolechain.specs.Kept.{IsRead, AreRead, Kept, kept, kept_of, bytes_in, kept_text, is_over, has_long, kept_tree}
use Rattle.rolechain.specs.Text.{or_state_fault, part_in, state_in, kept_in, state_of, ReadsState}
use Rattle.rolechain.specs.declared.fault.StateFault.{StateFault}
use Rattle.rolechain.specs.declared.fault.StateFault.TheVariants.{TooLong, Malformed}
use Rattle.rolechain.proofs.Bytes.{IsBytes-is_utf8}
use Rattle.cjson.specs.Canon.{canon}
use Rattle.rolechain.proofs.Spelled.{canon-kept_tree}
use Rattle.rolechain.proofs.Written.{HasBytes, files, tree_of-kept_text, kept-tree}

-- ---- checks in order

bind_ok : {A B E : Type 0} (r : Result A E) (f : A → Result B E) (y : B) → (r >>= f) ≡ Ok y → (x : A) × (r ≡ Ok x) × (f x ≡ Ok y)
bind_ok (Ok x) f y h = (x, refl, h)
bind_ok (Err e) f y h = absurd (cc)

passed : {E : Type 0} (b : Bool) (e : E) (x : ⊤) → refuse_if b e ≡ Ok x → b ≡ false
passed true e x h = absurd (cc)
passed false e x h = refl

found : {A E : Type 0} (o : Option A) (e : E) (x : A) → or_refuse o e ≡ Ok x → o ≡ Some x
found None e x h = absurd (cc)
found (Some y) e x h = cc

well_formed : {A : Type 0} (r : Result A DocFault) (x : A) → or_malformed r ≡ Ok x → r ≡ Ok x
well_formed (Ok y) x h = cc
well_formed (Err e) x h = absurd (cc)

no_fault : {A : Type 0} (r : Result A Fault) (x : A) → or_state_fault r ≡ Ok x → r ≡ Ok x
no_fault (Ok y) x h = cc
no_fault (Err e) x h = absurd (cc)

same_ok : {A E : Type 0} (x y : A) → ◌≡◌ {A = Result A E} (Ok x) (Ok y) → x ≡ y
same_ok x y h = cc

-- ---- one file

only_if : (b : Bool) (o : Option Data) (t : Data) → (if b then o else None) ≡ Some t → b ≡ true
only_if true o t h = refl
only_if false o t h = absurd (cc)

document-utf8 : (bytes : List ℕ) (d : Document) → document bytes ≡ Ok d → is_utf8 bytes ≡ true
document-utf8 bytes d h =
    let tree = bind_ok (or_refuse (tree_of bytes) NotJson) _ d h in
    only_if (is_utf8 bytes) (read bytes) tree.0 (found (tree_of bytes) NotJson tree.0 tree.1)

-- what is known of the bytes of a file that was read
record Shown {A : Type 0} (limit : ℕ) (bytes : List ℕ) (p : Part A) : Type 0 where
  short : nat_lt limit (length bytes) ≡ false
  utf8 : is_utf8 bytes ≡ true
  own : p.bytes ≡ bytes

shown : {A : Type 0} (form : Form A) (limit : ℕ) (bytes : List ℕ) (p : Part A) → part_of form limit bytes ≡ Ok p → Shown limit bytes p
shown form limit bytes p h =
    let short = bind_ok (refuse_if (nat_lt limit (length bytes)) fault.TooLong) _ p h in
    let reading = bind_ok (reading_of form bytes) _ p short.2 in
    let doc = bind_ok (document_of bytes) (formed form) reading.0 reading.1 in
    record {
      short = passed (nat_lt limit (length bytes)) fault.TooLong short.0 short.1;
      utf8 = document-utf8 bytes doc.0 (well_formed (document bytes) doc.0 doc.1);
      own = sym (ap (λ q. q.bytes) (same_ok _ p reading.2));
    }

bytes-read : {A : Type 0} (form : Form A) (limit : ℕ) (p : Part A) → IsRead form limit p → IsBytes p.bytes
bytes-read form limit p h = IsBytes-is_utf8 p.bytes (shown form limit p.bytes p h).utf8

bytes_in-read : {A : Type 0} (form : Form A) (limit : ℕ) (o : Option (Part A)) → IfSome o (IsRead form limit) → IfSome (bytes_in o) IsBytes
bytes_in-read form limit None h = tt
bytes_in-read form limit (Some p) h = bytes-read form limit p h

is_over-read : {A : Type 0} (form : Form A) (limit : ℕ) (o : Option (Part A)) → IfSome o (IsRead form limit) → is_over limit (bytes_in o) ≡ false
is_over-read form limit None h = refl
is_over-read form limit (Some p) h = (shown form limit p.bytes p h).short

own_bytes : {A : Type 0} (form : Form A) (limit : ℕ) (k : Option (List ℕ)) (o : Option (Part A)) → part_in (part_of form limit) k ≡ Ok o → bytes_in o ≡ k
own_bytes form limit None o h = sym (ap bytes_in (same_ok None o h))
own_bytes form limit (Some bytes) o h =
    let p = bind_ok (or_state_fault (part_of form limit bytes)) _ o h in
    sym (ap bytes_in (same_ok (Some p.0) o p.2)) ∙ ap Some (shown form limit bytes p.0 (no_fault (part_of form limit bytes) p.0 p.1)).own

part_in-read : {A : Type 0} (reads : List ℕ → Result (Part A) Fault) (o : Option (Part A)) → IfSome o (λ p. reads p.bytes ≡ Ok p) → part_in reads (bytes_in o) ≡ Ok o
part_in-read reads None h = refl
part_in-read reads (Some p) h = rw h

-- ---- a state written is a state read

HasBytes-kept_of : (s : State) → AreRead s → HasBytes (kept_of s)
HasBytes-kept_of s h = record {
  root = bytes-read form.root root_limit s.root h.root;
  snapshot = bytes_in-read form.snapshot snapshot_limit s.snapshot h.snapshot;
  targets = bytes_in-read form.targets targets_limit s.targets h.targets;
  timestamp = bytes_in-read form.timestamp timestamp_limit s.timestamp h.timestamp;
}

all_short : (a b c d : Bool) → a ≡ false → b ≡ false → c ≡ false → d ≡ false → (a || b || c || d) ≡ false
all_short a b c d p q r s = rw (p, q, r, s)

has_long-kept_of : (s : State) → AreRead s → has_long (kept_of s) ≡ false
has_long-kept_of s h =
    all_short _ _ _ _ (shown form.root root_limit s.root.bytes s.root h.root).short (is_over-read form.snapshot snapshot_limit s.snapshot h.snapshot)
    (is_over-read form.targets targets_limit s.targets h.targets) (is_over-read form.timestamp timestamp_limit s.timestamp h.timestamp)

-- the files in turn, each with its reading
in_turn : (root : Part Root) (snapshot : Option (Part Snapshot)) (targets : Option (Part Targets)) (timestamp : Option (Part Timestamp))
    (r : Result (Part Root) StateFault) (s : Result (Option (Part Snapshot)) StateFault) (t : Result (Option (Part Targets)) StateFault) (m : Result (Option (Part Timestamp)) StateFault)
    → r ≡ Ok root → s ≡ Ok snapshot → t ≡ Ok targets → m ≡ Ok timestamp
    → ◌≡◌ {A = Result State StateFault} (r >>= (λ root. s >>= (λ snapshot. t >>= (λ targets. m >>= (λ timestamp. Ok (record { root = root; timestamp = timestamp; snapshot = snapshot; targets = targets })))))) (Ok (record { root = root; timestamp = timestamp; snapshot = snapshot; targets = targets }))
in_turn root snapshot targets timestamp r s t m a b c d = rw (a, b, c, d)

state_in-kept_of : (s : State) → AreRead s → state_in (kept_of s) ≡ Ok s
state_in-kept_of s h =
    in_turn s.root s.snapshot s.targets s.timestamp _ _ _ _ (ap or_state_fault h.root) (part_in-read (part_of form.snapshot snapshot_limit) s.snapshot h.snapshot)
    (part_in-read (part_of form.targets targets_limit) s.targets h.targets) (part_in-read (part_of form.timestamp timestamp_limit) s.timestamp h.timestamp)

kept_in-spelled : (text : List ℕ) (d : Data) (k : Kept) → tree_of text ≡ Some d → kept d ≡ Some k → text ≡ kept_text k → kept_in text ≡ Ok k
kept_in-spelled text d k a b same = rw (a, b, (bytes_eq-Decides text (kept_text k)).1 same)

kept_in-kept_text : (k : Kept) → HasBytes k → kept_in (kept_text k) ≡ Ok k
kept_in-kept_text k h = kept_in-spelled (kept_text k) _ k (tree_of-kept_text k h) (kept-tree k.root k.snapshot k.targets k.timestamp h) refl

state_of-by : (text : List ℕ) (k : Kept) (s : State) → kept_in text ≡ Ok k → has_long k ≡ false → state_in k ≡ Ok s → state_of text ≡ Ok s
state_of-by text k s a b c = rw (a, b) c

pub state_of-kept_text : (s : State) → AreRead s → state_of (kept_text (kept_of s)) ≡ Ok s
state_of-kept_text s h =
    state_of-by (kept_text (kept_of s)) (kept_of s) s (kept_in-kept_text (kept_of s) (HasBytes-kept_of s h)) (has_long-kept_of s h) (state_in-kept_of s h)

-- a result that is the text of a state
pub IfOk-read : {T : Type 0} (r : Result T NoMemory) (items : T → List ℕ) (s : State) → AreRead s → IfOk r (λ t. items t ≡ kept_text (kept_of s)) → IfOk r (λ t. state_of (items t) ≡ Ok s)
IfOk-read (Ok t) items s h e = ap state_of e ∙ state_of-kept_text s h
IfOk-read (Err n) items s h e = tt

pub IfOk-tree : {T : Type 0} (r : Result T NoMemory) (items : T → List ℕ) (s : State) → AreRead s → IfOk r (λ t. items t ≡ kept_text (kept_of s)) → IfOk r (λ t. canon (kept_tree (kept_of s)) ≡ Some (items t))
IfOk-tree (Ok t) items s h e = canon-kept_tree (kept_of s) (HasBytes-kept_of s h) ∙ ap Some (sym e)
IfOk-tree (Err n) items s h e = tt

-- ---- a text that is read is its state's own

spelled-kept_in : (text : List ℕ) (k : Kept) → kept_in text ≡ Ok k → text ≡ kept_text k
spelled-kept_in text k h =
    let tree = bind_ok (or_refuse (tree_of text) Malformed) _ k h in
    let inside = bind_ok (or_refuse (kept tree.0) Malformed) _ k tree.2 in
    let same = bind_ok (refuse_if (not (bytes_eq text (kept_text inside.0))) Malformed) _ k inside.2 in
    (bytes_eq-Decides text (kept_text inside.0)).0 (turned (bytes_eq text (kept_text inside.0)) (passed (not (bytes_eq text (kept_text inside.0))) Malformed same.0 same.1)) ∙ ap kept_text (same_ok inside.0 k same.2)
  where
    turned : (b : Bool) → not b ≡ false → b ≡ true
    turned true h = refl
    turned false h = absurd (cc)

same_files : (r r' : List ℕ) (s s' t t' m m' : Option (List ℕ)) → r ≡ r' → s ≡ s' → t ≡ t' → m ≡ m' → files r s t m ≡ files r' s' t' m'
same_files r r' s s' t t' m m' a b c d = cc

same_kept : (k : Kept) (s : State) → s.root.bytes ≡ k.root → bytes_in s.snapshot ≡ k.snapshot → bytes_in s.targets ≡ k.targets → bytes_in s.timestamp ≡ k.timestamp → kept_of s ≡ k
same_kept k s a b c d = same_files _ _ _ _ _ _ _ _ a b c d

kept_of-state_in : (k : Kept) (s : State) → state_in k ≡ Ok s → kept_of s ≡ k
kept_of-state_in k s h =
    let root = bind_ok (or_state_fault (part_of form.root root_limit k.root)) _ s h in
    let snapshot = bind_ok (part_in (part_of form.snapshot snapshot_limit) k.snapshot) _ s root.2 in
    let targets = bind_ok (part_in (part_of form.targets targets_limit) k.targets) _ s snapshot.2 in
    let timestamp = bind_ok (part_in (part_of form.timestamp timestamp_limit) k.timestamp) _ s targets.2 in
    let whole = sym (same_ok _ s timestamp.2) in
    same_kept k s (ap (λ t. t.root.bytes) whole ∙ (shown form.root root_limit k.root root.0 (no_fault (part_of form.root root_limit k.root) root.0 root.1)).own)
    (ap (λ t. bytes_in t.snapshot) whole ∙ own_bytes form.snapshot snapshot_limit k.snapshot snapshot.0 snapshot.1)
    (ap (λ t. bytes_in t.targets) whole ∙ own_bytes form.targets targets_limit k.targets targets.0 targets.1)
    (ap (λ t. bytes_in t.timestamp) whole ∙ own_bytes form.timestamp timestamp_limit k.timestamp timestamp.0 timestamp.1)

pub own_text : (text : List ℕ) (s : State) → state_of text ≡ Ok s → text ≡ kept_text (kept_of s)
own_text text s h =
    let inside = bind_ok (kept_in text) _ s h in
    let short = bind_ok (refuse_if (has_long inside.0) TooLong) _ s inside.2 in
    spelled-kept_in text inside.0 inside.1 ∙ ap kept_text (sym (kept_of-state_in inside.0 s short.2))

-- a result that is the state of a text
pub IfOk-own : (text : List ℕ) (r : Result State StateFault) → ReadsState (state_of text) r → IfOk r (λ s. text ≡ kept_text (kept_of s))
IfOk-own text (Ok s) h = own_text text s h
IfOk-own text (Err e) h = tt
