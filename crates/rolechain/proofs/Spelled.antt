-- The text of a state's files is the canonical text of their tree.
use Rattle.std.proofs.Common.{◌≡◌, ℕ, suc, ◌/◌, ◌%◌, ◌<◌, ◌||◌, ◌&&◌, ◌==◌, true, false, List, [], ◌∷◌, ◌++◌, codes, IfSome, Option, Some, None, refl, ap, ◌∙◌, slice_index, arith}
use Rattle.std.specs.Prelude.{if◌then◌else◌}
use Rattle.serde_json.specs.Data.{Members, no_members}
use Rattle.hex.specs.Hex.{IsBytes, hex_digit_value, lower_digits, encode_with, encode_lower}
use Rattle.hex.proofs.HexLemmas.{IsDigits-lower_digits}
use Rattle.cjson.specs.Canon.{canon, escaped, quoted, text, members_text, has_whole_numbers, is_ordered}
use Rattle.rolechain.specs.Kept.{Kept, kept_text, kept_tree, member_text, later_text, later_member}
use Rattle.rolechain.proofs.Written.{HasBytes, files, pair_text, regroup_members}

plain : (c v : ℕ) → hex_digit_value c ≡ Some v → (c == 34 || c == 92) ≡ false
plain c v h = grind (arith)

abbrev digit : ℕ → ℕ
digit n = slice_index lower_digits n

plain-digit : (n : ℕ) → n < 16 → (digit n == 34 || digit n == 92) ≡ false
plain-digit n small = plain (digit n) n (IsDigits-lower_digits n small)

escaped-pair : (x y : ℕ) (rest more : List ℕ) → (x == 34 || x == 92) ≡ false → (y == 34 || y == 92) ≡ false → escaped rest ≡ more → escaped (x ∷ y ∷ rest) ≡ x ∷ y ∷ more
escaped-pair x y rest more p q r = rw (p, q, r)

escaped-encode_lower : (bs : List ℕ) → IsBytes bs → escaped (encode_lower bs) ≡ encode_lower bs
unfolding encode_with
escaped-encode_lower [] h = refl
escaped-encode_lower (b ∷ rest) h =
    let fits : b < 256 = h 0 in
    escaped-pair (digit (b / 16)) (digit (b % 16)) (encode_with lower_digits rest) (encode_with lower_digits rest)
    (plain-digit (b / 16) (omega arith)) (plain-digit (b % 16) (omega arith)) (escaped-encode_lower rest (λ k. h (suc k)))

quoted_plain : (s : List ℕ) → escaped s ≡ s → quoted s ≡ 34 ∷ (s ++ 34 ∷ [])
quoted_plain s same = ap (λ t. 34 ∷ (t ++ 34 ∷ [])) same

member_text-quoted : (name bytes rest : List ℕ) → escaped name ≡ name → IsBytes bytes → quoted name ++ 58 ∷ (quoted (encode_lower bytes) ++ rest) ≡ member_text name bytes ++ rest
member_text-quoted name bytes rest same h =
    pair_text name (encode_lower bytes) rest (quoted name) (quoted (encode_lower bytes)) (quoted_plain name same) (quoted_plain (encode_lower bytes) (escaped-encode_lower bytes h))

later_text-members : (name : List ℕ) (o : Option (List ℕ)) (ms : Members) → escaped name ≡ name → IfSome o IsBytes → members_text true (later_member name o ms) ≡ later_text name o ++ members_text true ms
later_text-members name None ms same h = refl
later_text-members name (Some bytes) ms same h = ap (λ l. 44 ∷ l) (member_text-quoted name bytes (members_text true ms) same h)

text-kept_tree : (k : Kept) → HasBytes k → text (kept_tree k) ≡ kept_text k
text-kept_tree k h =
    let third = later_text-members (codes "timestamp") k.timestamp no_members refl h.timestamp in
    let second = later_text-members (codes "targets") k.targets (later_member (codes "timestamp") k.timestamp no_members) refl h.targets ∙ ap (λ l. later_text (codes "targets") k.targets ++ l) third in
    let first = later_text-members (codes "snapshot") k.snapshot (later_member (codes "targets") k.targets (later_member (codes "timestamp") k.timestamp no_members)) refl h.snapshot ∙ ap (λ l. later_text (codes "snapshot") k.snapshot ++ l) second in
    ap (λ l. 123 ∷ l) (member_text-quoted (codes "root") k.root _ refl h.root ∙ ap (λ l. member_text (codes "root") k.root ++ l) first)
    ∙ regroup_members (member_text (codes "root") k.root) (later_text (codes "snapshot") k.snapshot) (later_text (codes "targets") k.targets) (later_text (codes "timestamp") k.timestamp)

has_text : (r : List ℕ) (s t m : Option (List ℕ)) → (has_whole_numbers (kept_tree (files r s t m)) && is_ordered (kept_tree (files r s t m))) ≡ true
has_text r None None None = refl
has_text r None None (Some m) = refl
has_text r None (Some t) None = refl
has_text r None (Some t) (Some m) = refl
has_text r (Some s) None None = refl
has_text r (Some s) None (Some m) = refl
has_text r (Some s) (Some t) None = refl
has_text r (Some s) (Some t) (Some m) = refl

pub canon-kept_tree : (k : Kept) → HasBytes k → canon (kept_tree k) ≡ Some (kept_text k)
canon-kept_tree k h =
    ap (λ b. if b then Some (text (kept_tree k)) else None) (has_text k.root k.snapshot k.targets k.timestamp) ∙ ap Some (text-kept_tree k h)
