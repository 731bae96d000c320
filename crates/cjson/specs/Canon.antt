-- The canonical text of a tree of JSON (OLPC Canonical JSON; TUF 1.0 section 4.1).
use Rattle.std.specs.Prelude.{ℕ, ◌^◌, ◌&&◌, ◌||◌, ◌==◌, pos, negsuc, List, [], ◌∷◌, ◌++◌, Bool, true, false, codes, decimal, nat_lt, if◌then◌else◌, Option, Some, None}
use Rattle.std.specs.Cmp.Lexicographic.{slice_cmp}
use Rattle.std.specs.Fmt.{signed_decimal}
use Rattle.std.specs.Ordering.{nat_cmp, match_ordering}
use Rattle.serde_json.specs.Data.{Num, unsigned, negative, float, Data, null, boolean, number, string, array, object, Items, no_items, item, Members, no_members, member}

-- a whole number from -2^63 to 2^64 - 1
abbrev pub is_whole : Num → Bool
is_whole (unsigned n) = nat_lt n (2 ^ 64)
is_whole (negative (pos n)) = false
is_whole (negative (negsuc n)) = nat_lt n (2 ^ 63)
is_whole (float x) = false

-- decimal digits, after a minus if the number is below zero; a float has no text
abbrev pub number_text : Num → List ℕ
number_text (unsigned n) = decimal n
number_text (negative z) = signed_decimal z
number_text (float x) = []

-- a backslash before each quote and each backslash; all other characters unchanged
abbrev pub escaped : List ℕ → List ℕ
escaped [] = []
escaped (x ∷ xs) = if x == 34 || x == 92 then 92 ∷ x ∷ escaped xs else x ∷ escaped xs

-- between quotes
abbrev pub quoted : List ℕ → List ℕ
quoted s = 34 ∷ (escaped s ++ 34 ∷ [])

-- a comma, if something is before it
abbrev pub comma_if : Bool → List ℕ
comma_if later = if later then 44 ∷ [] else []

-- the text, which counts if each number is whole
abbrev mutual
  pub text : Data → List ℕ
  text null = codes "null"
  text (boolean b) = if b then codes "true" else codes "false"
  text (number n) = number_text n
  text (string s) = quoted s
  text (array ds) = 91 ∷ items_text false ds
  text (object ms) = 123 ∷ members_text false ms

  -- the items, and the closing bracket
  pub items_text : Bool → Items → List ℕ
  items_text later no_items = 93 ∷ []
  items_text later (item d ds) = comma_if later ++ (text d ++ items_text true ds)

  -- the members, each a key, a colon and a value, and the closing brace
  pub members_text : Bool → Members → List ℕ
  members_text later no_members = 125 ∷ []
  members_text later (member k d ms) =
      comma_if later ++ (quoted k ++ 58 ∷ (text d ++ members_text true ms))

-- whether each number of the tree is whole
abbrev mutual
  pub has_whole_numbers : Data → Bool
  has_whole_numbers null = true
  has_whole_numbers (boolean b) = true
  has_whole_numbers (number n) = is_whole n
  has_whole_numbers (string s) = true
  has_whole_numbers (array ds) = items_are_whole ds
  has_whole_numbers (object ms) = members_are_whole ms

  pub items_are_whole : Items → Bool
  items_are_whole no_items = true
  items_are_whole (item d ds) = has_whole_numbers d && items_are_whole ds

  pub members_are_whole : Members → Bool
  members_are_whole no_members = true
  members_are_whole (member k d ms) = has_whole_numbers d && members_are_whole ms

-- whether the key is before the first key of the members, byte for byte
abbrev pub comes_before : List ℕ → Members → Bool
comes_before k no_members = true
comes_before k (member l d ms) = match_ordering (slice_cmp nat_cmp k l) true false false

-- whether the keys of each object ascend
abbrev mutual
  pub is_ordered : Data → Bool
  is_ordered null = true
  is_ordered (boolean b) = true
  is_ordered (number n) = true
  is_ordered (string s) = true
  is_ordered (array ds) = items_are_ordered ds
  is_ordered (object ms) = members_are_ordered ms

  pub items_are_ordered : Items → Bool
  items_are_ordered no_items = true
  items_are_ordered (item d ds) = is_ordered d && items_are_ordered ds

  pub members_are_ordered : Members → Bool
  members_are_ordered no_members = true
  members_are_ordered (member k d ms) =
      comes_before k ms && (is_ordered d && members_are_ordered ms)

-- The canonical text, if the tree has one. A tree whose keys don't ascend has none here. No `Value`
-- is such a tree, and none is read, so in practice only a number that isn't whole leaves a tree
-- without a text.
abbrev pub canon : Data → Option (List ℕ)
canon d = if has_whole_numbers d && is_ordered d then Some (text d) else None
