-- The forms of a JSON member. A form reads a tree, or is None if the tree is malformed.
use Rattle.std.specs.Prelude.{Option, Some, None, ℕ, ◌&&◌, nat_le, if◌then◌else◌, List, [], ◌∷◌, Bool, true, false, option_map, option_and_then, Result, Ok, Err, ⊤, codes, ◌≡◌}
pub use Rattle.serde_json.specs.Data.{Data, Items, no_items, item, Members, no_members, member}
use Rattle.serde_json.specs.Find.{get, as_str, as_number, as_u64, as_array, as_object}
use Rattle.hex.specs.Hex.{decode_sized}
pub use Rattle.cjson.specs.declared.doc.Entry.{Entry}
use Rattle.cjson.specs.declared.fault.ReadFault.{ReadFault}
use Rattle.cjson.specs.declared.fault.ReadFault.TheVariants.{Malformed, NoMemory}

-- # The `?` of the definitions: the next step, if there is a value.

infixl 10 ◌>>=◌
abbrev pub ◌>>=◌ : {A B : Type 0} → Option A → (A → Option B) → Option B
None >>= f = None
Some x >>= f = f x

-- # The forms.

abbrev pub Form : Type 0 → Type 0
Form A = Data → Option A

-- a needed member
abbrev pub needed : {A : Type 0} → List ℕ → Form A → Form A
needed name form d = do
  value ← get name d
  form value

-- None if the member is absent, or else what it is read as
abbrev pub absent_or : {A : Type 0} → Form A → Option Data → Option (Option A)
absent_or form None = Some None
absent_or form (Some d) = option_map Some (form d)

-- a member that may be absent
abbrev pub optional : {A : Type 0} → List ℕ → Form A → Form (Option A)
optional name form d = absent_or form (get name d)

-- each of a list's items has the form
abbrev pub each : {A : Type 0} → Form A → Items → Option (List A)
each form no_items = Some []
each form (item d ds) = do
  first ← form d
  rest ← each form ds
  Some (first ∷ rest)

-- a list of items of one form
abbrev pub list : {A : Type 0} → Form A → Form (List A)
list form d = do
  items ← as_array d
  each form items

-- each of an object's members has the form of its name
abbrev pub each_member : {A : Type 0} → (List ℕ → Form A) → Members → Option (List A)
each_member form no_members = Some []
each_member form (member k d ms) = do
  first ← form k d
  rest ← each_member form ms
  Some (first ∷ rest)

-- an object with members of such forms
abbrev pub members : {A : Type 0} → (List ℕ → Form A) → Form (List A)
members form d = do
  found ← as_object d
  each_member form found

-- None if the test fails
abbrev pub guard : Bool → Option ⊤
guard true = Some tt
guard false = None

-- each of an object's members passes the test
abbrev pub all_members : (Data → Bool) → Members → Bool
all_members test no_members = true
all_members test (member k d ms) = test d && all_members test ms

-- whether a member is a text that passes the test
abbrev pub has_text : List ℕ → (List ℕ → Bool) → Data → Bool
has_text name test d = text_passes test (option_and_then as_str (get name d))
  where
    text_passes : (List ℕ → Bool) → Option (List ℕ) → Bool
    text_passes test None = false
    text_passes test (Some found) = test found

-- a text, as its bytes in UTF-8
abbrev pub text : Form (List ℕ)
text d = as_str d

-- the greatest version, threshold or length
abbrev pub greatest : ℕ
greatest = 9223372036854775807

-- a whole number from `least` to `most`
abbrev pub whole : ℕ → ℕ → Form ℕ
whole least most d = do
  number ← as_number d
  n ← as_u64 number
  if nat_le least n && nat_le n most then Some n else None

-- the value, if there is one
abbrev pub ok : {A E : Type 0} → Result A E → Option A
ok (Ok x) = Some x
ok (Err e) = None

-- the hexadecimal text, in either case, of `size` bytes
abbrev pub hex_bytes : ℕ → Form (List ℕ)
hex_bytes size d = do
  digits ← as_str d
  ok (decode_sized digits size)

-- # An entry of `signatures` (TUF 1.0 section 4.2).

abbrev pub entry : Form Entry
entry d = do
  keyid ← needed (codes "keyid") text d
  sig ← needed (codes "sig") text d
  Some (record { keyid = keyid; sig = sig })

-- # What a reader returns. If it is out of memory, nothing is known.

-- the value, as `seen` sees it, or `Malformed` if there is none
abbrev pub ReadsAs : {A B : Type 0} → Option A → Result B ReadFault → (B → A) → Type 0
ReadsAs o (Ok x) seen = o ≡ Some (seen x)
ReadsAs o (Err Malformed) seen = o ≡ None
ReadsAs o (Err NoMemory) seen = Unit {0}

-- the form's value
abbrev pub Reads : {A : Type 0} → Option A → Result A ReadFault → Type 0
Reads o r = ReadsAs o r (λ x. x)
