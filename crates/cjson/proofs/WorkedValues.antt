-- Worked values of the definitions.
use Rattle.std.specs.Prelude.{◌≡◌, refl, codes, false, Option, Some, None, option_map, Err, List, ℕ, [], ◌∷◌}
use Rattle.serde_json.specs.Read.{read}
use Rattle.cjson.proofs.OnLiterals.{cjson_on_literals}
use Rattle.cjson.specs.Form.{◌>>=◌, Form, optional, greatest, whole, text, ok, hex_bytes}
use Rattle.cjson.specs.Canon.{canon, has_whole_numbers}
use Rattle.cjson.specs.Document.{Document, tree_of, document}
use Rattle.cjson.specs.declared.fault.DocFault.TheVariants.{NotJson, NotObject, Float, BadSignatures}

-- ---- canonical texts

abbrev text_of : List ℕ → Option (List ℕ)
text_of json = read json >>= canon

pub escapes : text_of (codes "{\"b\":1,\"a\":\"x\\u0022\\n\"}")
    ≡ Some (0x7b ∷ 0x22 ∷ 0x61 ∷ 0x22 ∷ 0x3a ∷ 0x22 ∷ 0x78 ∷ 0x5c ∷ 0x22 ∷ 0x0a ∷ 0x22 ∷ 0x2c ∷ 0x22 ∷ 0x62 ∷ 0x22 ∷ 0x3a ∷ 0x31 ∷ 0x7d ∷ [])
unfolding cjson_on_literals
escapes = refl

pub bounds : text_of (codes "[-1, 18446744073709551615, null]") ≡ Some (codes "[-1,18446744073709551615,null]")
unfolding cjson_on_literals
bounds = refl

pub order_of_bytes : text_of (codes "{\"\\u00e9\":1,\"z\":2}")
    ≡ Some (0x7b ∷ 0x22 ∷ 0x7a ∷ 0x22 ∷ 0x3a ∷ 0x32 ∷ 0x2c ∷ 0x22 ∷ 0xc3 ∷ 0xa9 ∷ 0x22 ∷ 0x3a ∷ 0x31 ∷ 0x7d ∷ [])
unfolding cjson_on_literals
order_of_bytes = refl

pub least : text_of (codes "-9223372036854775808") ≡ Some (codes "-9223372036854775808")
unfolding cjson_on_literals
least = refl

pub last_wins : text_of (codes "{\"a\":1,\"a\":2}") ≡ Some (codes "{\"a\":2}")
unfolding cjson_on_literals
last_wins = refl

-- the number has no text, and neither has a tree that holds it
pub fraction : text_of (codes "{\"a\":1.5}") ≡ None
unfolding cjson_on_literals
fraction = refl

pub too_great : text_of (codes "18446744073709551616") ≡ None
unfolding cjson_on_literals
too_great = refl

pub too_small : text_of (codes "-9223372036854775809") ≡ None
unfolding cjson_on_literals
too_small = refl

pub minus_zero : option_map has_whole_numbers (read (codes "-0")) ≡ Some false
unfolding cjson_on_literals
minus_zero = refl

pub exponent : option_map has_whole_numbers (read (codes "1e2")) ≡ Some false
unfolding cjson_on_literals
exponent = refl

-- ---- documents

pub no_json : document (codes "{\"signed\":{}") ≡ Err NotJson
unfolding cjson_on_literals
no_json = refl

pub no_utf8 : tree_of (0x22 ∷ 0xff ∷ 0x22 ∷ []) ≡ None
unfolding cjson_on_literals
no_utf8 = refl

pub no_object : document (codes "[]") ≡ Err NotObject
unfolding cjson_on_literals
no_object = refl

pub signed_is_a_list : document (codes "{\"signed\":[1.5],\"signatures\":{}}") ≡ Err NotObject
unfolding cjson_on_literals
signed_is_a_list = refl

pub signed_has_a_fraction : document (codes "{\"signed\":{\"a\":1.5},\"signatures\":{}}") ≡ Err Float
unfolding cjson_on_literals
signed_has_a_fraction = refl

pub signatures_is_an_object : document (codes "{\"signed\":{},\"signatures\":{}}") ≡ Err BadSignatures
unfolding cjson_on_literals
signatures_is_an_object = refl

pub two_entries : option_map (λ (d : Document). d.entries) (ok (document (codes "{\"signatures\":[{\"sig\":\"22\",\"keyid\":\"b\",\"x\":1.5},{\"keyid\":\"a\",\"sig\":\"11\"}],\"signed\":{}}")))
    ≡ Some (record { keyid = codes "b"; sig = codes "22" } ∷ record { keyid = codes "a"; sig = codes "11" } ∷ [])
unfolding cjson_on_literals
two_entries = refl

-- ---- forms

abbrev read_as : {A : Type 0} → Form A → List ℕ → Option A
read_as form json = read json >>= form

pub greatest_whole : read_as (whole 1 greatest) (codes "9223372036854775807") ≡ Some 9223372036854775807
unfolding cjson_on_literals
greatest_whole = refl

pub past_whole : read_as (whole 1 greatest) (codes "9223372036854775808") ≡ None
unfolding cjson_on_literals
past_whole = refl

pub below_whole : read_as (whole 1 greatest) (codes "0") ≡ None
unfolding cjson_on_literals
below_whole = refl

pub no_whole : read_as (whole 1 greatest) (codes "\"1\"") ≡ None
unfolding cjson_on_literals
no_whole = refl

pub either_case : read_as (hex_bytes 2) (codes "\"fF0a\"") ≡ Some (255 ∷ 10 ∷ [])
unfolding cjson_on_literals
either_case = refl

pub another_length : read_as (hex_bytes 2) (codes "\"ff\"") ≡ None
unfolding cjson_on_literals
another_length = refl

pub absent : read_as (optional (codes "a") text) (codes "{\"b\":1}") ≡ Some None
unfolding cjson_on_literals
absent = refl

pub of_another_form : read_as (optional (codes "a") text) (codes "{\"a\":1}") ≡ None
unfolding cjson_on_literals
of_another_form = refl
