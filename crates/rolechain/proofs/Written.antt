-- The text of a state's files is JSON that is read as those files.
use Rattle.std.proofs.Common.{◌≡◌, ℕ, ◌≤◌, true, List, [], ◌∷◌, ◌++◌, codes, IsUtf8, IfSome, Option, Some, None, option_and_then, refl, sym, ap, ◌∙◌, arith, append_assoc, append-nil}
use Rattle.std.specs.Prelude.{if◌then◌else◌}
use Rattle.std.specs.Str.{is_utf8}
use Rattle.std.proofs.lemmas.Str.{IsUtf8-append, IsUtf8-nil, is_utf8-from_IsUtf8}
use Rattle.json.specs.Token.{Token}
use Rattle.json.specs.Lex.{tokens}
use Rattle.json.specs.Print.{escape, quoted, print}
use Rattle.json.specs.Json as json
use Rattle.json.specs.Tree as tokens
use Rattle.json.proofs.Printed.Tokens.{tokens-print}
use Rattle.json.proofs.Printed.Trees.{value-json_tokens, ArePrintable-json_tokens}
use Rattle.json.proofs.Printed.Utf8.{IsUtf8-are_ascii}
use Rattle.serde_json.specs.Data.{Data, string, Members, no_members}
use Rattle.serde_json.specs.Read.{read, of_json, max_depth}
use Rattle.serde_json.specs.Written.{outline, members_outline, compact_text, members_text}
use Rattle.serde_json.proofs.Texts.{print-outline}
use Rattle.serde_json.proofs.OnLiterals.{serde_json_on_literals}
use Rattle.hex.specs.Hex.{IsBytes, encode_lower}
use Rattle.hex.proofs.HexLemmas.{decode_of-encode_lower}
use Rattle.cjson.specs.Document.{tree_of}
use Rattle.cjson.specs.Form.{ok}
use Rattle.rolechain.specs.Kept.{Kept, kept, hex_text, kept_text, member_text, later_text, later_member, kept_tree}
use Rattle.rolechain.proofs.Digits.{escape-encode_lower, IsUtf8-encode_lower}

-- ---- the tree of a state's text

abbrev pub files : List ℕ → Option (List ℕ) → Option (List ℕ) → Option (List ℕ) → Kept
files root snapshot targets timestamp = record { root = root; snapshot = snapshot; targets = targets; timestamp = timestamp }

-- every file is bytes
pub record HasBytes (k : Kept) : Type 0 where
  pub root : IsBytes k.root
  pub snapshot : IfSome k.snapshot IsBytes
  pub targets : IfSome k.targets IsBytes
  pub timestamp : IfSome k.timestamp IsBytes

-- ---- its text

regroup : (n h r : List ℕ) → 34 ∷ ((n ++ 34 ∷ []) ++ 58 ∷ 34 ∷ ((h ++ 34 ∷ []) ++ r)) ≡ (34 ∷ (((n ++ 34 ∷ 58 ∷ 34 ∷ []) ++ h) ++ 34 ∷ [])) ++ r
regroup n h r = simp append_assoc

pub regroup_members : (m s t u : List ℕ) → 123 ∷ (m ++ (s ++ (t ++ (u ++ 125 ∷ [])))) ≡ ((((123 ∷ m) ++ s) ++ t) ++ u) ++ 125 ∷ []
regroup_members m s t u = simp append_assoc

quoted_plain : (s : List ℕ) → escape s ≡ s → quoted s ≡ 34 ∷ (s ++ 34 ∷ [])
quoted_plain s plain = ap (λ t. 34 ∷ (t ++ 34 ∷ [])) plain

pub pair_text : (n h r p q : List ℕ) → p ≡ 34 ∷ (n ++ 34 ∷ []) → q ≡ 34 ∷ (h ++ 34 ∷ []) → p ++ 58 ∷ (q ++ r) ≡ (34 ∷ (((n ++ 34 ∷ 58 ∷ 34 ∷ []) ++ h) ++ 34 ∷ [])) ++ r
pair_text n h r p q a b = rw (a, b) (regroup n h r)

member_text-quoted : (name bytes rest : List ℕ) → escape name ≡ name → IsBytes bytes → quoted name ++ 58 ∷ (quoted (encode_lower bytes) ++ rest) ≡ member_text name bytes ++ rest
member_text-quoted name bytes rest plain h =
    pair_text name (encode_lower bytes) rest (quoted name) (quoted (encode_lower bytes)) (quoted_plain name plain) (quoted_plain (encode_lower bytes) (escape-encode_lower bytes h))

later_text-members : (name : List ℕ) (o : Option (List ℕ)) (ms : Members) → escape name ≡ name → IfSome o IsBytes → members_text true (later_member name o ms) ≡ later_text name o ++ members_text true ms
later_text-members name None ms plain h = refl
later_text-members name (Some bytes) ms plain h = ap (λ l. 44 ∷ l) (member_text-quoted name bytes (members_text true ms) plain h)

plain-root : escape (codes "root") ≡ codes "root"
unfolding serde_json_on_literals
plain-root = refl

plain-snapshot : escape (codes "snapshot") ≡ codes "snapshot"
unfolding serde_json_on_literals
plain-snapshot = refl

plain-targets : escape (codes "targets") ≡ codes "targets"
unfolding serde_json_on_literals
plain-targets = refl

plain-timestamp : escape (codes "timestamp") ≡ codes "timestamp"
unfolding serde_json_on_literals
plain-timestamp = refl

compact_text-tree : (k : Kept) → HasBytes k → compact_text (kept_tree k) ≡ kept_text k
compact_text-tree k h =
    let third = later_text-members (codes "timestamp") k.timestamp no_members plain-timestamp h.timestamp in
    let second = later_text-members (codes "targets") k.targets (later_member (codes "timestamp") k.timestamp no_members) plain-targets h.targets ∙ ap (λ l. later_text (codes "targets") k.targets ++ l) third in
    let first = later_text-members (codes "snapshot") k.snapshot (later_member (codes "targets") k.targets (later_member (codes "timestamp") k.timestamp no_members)) plain-snapshot h.snapshot ∙ ap (λ l. later_text (codes "snapshot") k.snapshot ++ l) second in
    ap (λ l. 123 ∷ l) (member_text-quoted (codes "root") k.root _ plain-root h.root ∙ ap (λ l. member_text (codes "root") k.root ++ l) first)
    ∙ regroup_members (member_text (codes "root") k.root) (later_text (codes "snapshot") k.snapshot) (later_text (codes "targets") k.targets) (later_text (codes "timestamp") k.timestamp)

-- ---- the text is read as the tree

numbers-later : (name : List ℕ) (o : Option (List ℕ)) (ms : Members) → tokens.MembersHaveNumbers (members_outline ms) → tokens.MembersHaveNumbers (members_outline (later_member name o ms))
numbers-later name None ms h = h
numbers-later name (Some bytes) ms h = (tt, h)

flat-later : (name : List ℕ) (o : Option (List ℕ)) (ms : Members) → tokens.members_depth (members_outline ms) ≤ 0 → tokens.members_depth (members_outline (later_member name o ms)) ≤ 0
flat-later name None ms h = h
flat-later name (Some bytes) ms h = omega arith

numbers : (k : Kept) → tokens.HasNumbers (outline (kept_tree k))
numbers k = (tt, numbers-later _ k.snapshot _ (numbers-later _ k.targets _ (numbers-later _ k.timestamp no_members tt)))

shallow : (k : Kept) → tokens.depth (outline (kept_tree k)) ≤ 127
shallow k = let flat = flat-later (codes "snapshot") k.snapshot _ (flat-later (codes "targets") k.targets _ (flat-later (codes "timestamp") k.timestamp no_members (omega arith))) in omega arith

of_json-tree : (r : List ℕ) (s t m : Option (List ℕ)) → of_json (outline (kept_tree (files r s t m))) ≡ Some (kept_tree (files r s t m))
unfolding serde_json_on_literals
of_json-tree r None None None = refl
of_json-tree r None None (Some m) = refl
of_json-tree r None (Some t) None = refl
of_json-tree r None (Some t) (Some m) = refl
of_json-tree r (Some s) None None = refl
of_json-tree r (Some s) None (Some m) = refl
of_json-tree r (Some s) (Some t) None = refl
of_json-tree r (Some s) (Some t) (Some m) = refl

abbrev whole : Option (json.Json × List Token) → Option Data
whole o = option_and_then of_json (option_and_then (λ p. json.if_last p.0 p.1) o)

read_printed : (j : json.Json) (d : Data) (text : List ℕ) → tokens.HasNumbers j → tokens.depth j ≤ 127 → of_json j ≡ Some d → text ≡ print (tokens.json_tokens j) → read text ≡ Some d
read_printed j d text numbers shallow is same =
    let read_tokens = ap (λ l. tokens l) same ∙ tokens-print (tokens.json_tokens j) (ArePrintable-json_tokens j numbers) ∙ sym (append-nil (tokens.json_tokens j)) in
    ap (λ ts. whole (json.value max_depth ts)) read_tokens ∙ ap whole (value-json_tokens j 127 [] shallow) ∙ is

read-kept_text : (k : Kept) → HasBytes k → read (kept_text k) ≡ Some (kept_tree k)
read-kept_text k h =
    read_printed (outline (kept_tree k)) (kept_tree k) (kept_text k) (numbers k) (shallow k) (of_json-tree k.root k.snapshot k.targets k.timestamp) (sym (print-outline (kept_tree k) ∙ compact_text-tree k h))

-- ---- it is UTF-8

IsUtf8-member : (name bytes : List ℕ) → IsUtf8 name → IsBytes bytes → IsUtf8 (member_text name bytes)
IsUtf8-member name bytes u h =
    let colon = IsUtf8-append name (codes "\":\"") u (IsUtf8-are_ascii (codes "\":\"") refl) in
    let value = IsUtf8-append (name ++ codes "\":\"") (encode_lower bytes) colon (IsUtf8-encode_lower bytes h) in
    let closed = IsUtf8-append ((name ++ codes "\":\"") ++ encode_lower bytes) (codes "\"") value (IsUtf8-are_ascii (codes "\"") refl) in
    IsUtf8-append (34 ∷ []) (((name ++ codes "\":\"") ++ encode_lower bytes) ++ codes "\"") (IsUtf8-are_ascii (34 ∷ []) refl) closed

IsUtf8-later : (name : List ℕ) (o : Option (List ℕ)) → IsUtf8 name → IfSome o IsBytes → IsUtf8 (later_text name o)
IsUtf8-later name None u h = IsUtf8-nil
IsUtf8-later name (Some bytes) u h = IsUtf8-append (44 ∷ []) (member_text name bytes) (IsUtf8-are_ascii (44 ∷ []) refl) (IsUtf8-member name bytes u h)

is_utf8-kept_text : (k : Kept) → HasBytes k → is_utf8 (kept_text k) ≡ true
is_utf8-kept_text k h =
    let first = IsUtf8-append (codes "{") _ (IsUtf8-are_ascii (codes "{") refl) (IsUtf8-member (codes "root") k.root (IsUtf8-are_ascii (codes "root") refl) h.root) in
    let second = IsUtf8-append _ _ first (IsUtf8-later (codes "snapshot") k.snapshot (IsUtf8-are_ascii (codes "snapshot") refl) h.snapshot) in
    let third = IsUtf8-append _ _ second (IsUtf8-later (codes "targets") k.targets (IsUtf8-are_ascii (codes "targets") refl) h.targets) in
    let last = IsUtf8-append _ _ third (IsUtf8-later (codes "timestamp") k.timestamp (IsUtf8-are_ascii (codes "timestamp") refl) h.timestamp) in
    is_utf8-from_IsUtf8 (kept_text k) (IsUtf8-append _ (codes "}") last (IsUtf8-are_ascii (codes "}") refl))

pub tree_of-kept_text : (k : Kept) → HasBytes k → tree_of (kept_text k) ≡ Some (kept_tree k)
tree_of-kept_text k h = ap (λ b. if b then read (kept_text k) else None) (is_utf8-kept_text k h) ∙ read-kept_text k h

-- ---- the tree is read as the files

hex_text-lower : (bytes : List ℕ) → IsBytes bytes → hex_text (string (encode_lower bytes)) ≡ Some bytes
hex_text-lower bytes h = ap ok (decode_of-encode_lower bytes h)

pub kept-tree : (r : List ℕ) (s t m : Option (List ℕ)) → HasBytes (files r s t m) → kept (kept_tree (files r s t m)) ≡ Some (files r s t m)
unfolding serde_json_on_literals
kept-tree r None None None h = rw (hex_text-lower r h.root)
kept-tree r None None (Some m) h = rw (hex_text-lower r h.root, hex_text-lower m h.timestamp)
kept-tree r None (Some t) None h = rw (hex_text-lower r h.root, hex_text-lower t h.targets)
kept-tree r None (Some t) (Some m) h = rw (hex_text-lower r h.root, hex_text-lower t h.targets, hex_text-lower m h.timestamp)
kept-tree r (Some s) None None h = rw (hex_text-lower r h.root, hex_text-lower s h.snapshot)
kept-tree r (Some s) None (Some m) h = rw (hex_text-lower r h.root, hex_text-lower s h.snapshot, hex_text-lower m h.timestamp)
kept-tree r (Some s) (Some t) None h = rw (hex_text-lower r h.root, hex_text-lower s h.snapshot, hex_text-lower t h.targets)
kept-tree r (Some s) (Some t) (Some m) h = rw (hex_text-lower r h.root, hex_text-lower s h.snapshot, hex_text-lower t h.targets, hex_text-lower m h.timestamp)
