-- A key object that was made is usable.
use Rattle.std.proofs.Common.{◌≡◌, ℕ, Bool, true, Option, Some, None, List, bytes_eq, refl, sym, ap, ◌∙◌, Ok}
use Rattle.serde_json.specs.Data.{Data}
use Rattle.hex.specs.Hex.{decode_sized, encode_lower}
use Rattle.cjson.specs.Form.{◌>>=◌, ok}
use Rattle.cjson.proofs.OnLiterals.{cjson_on_literals}
use Rattle.keys.specs.Keys.{is_lms, is_own_id, key_id, public_value, usable}
use Rattle.keys.specs.declared.key.Key.{Key}
use Rattle.lms.specs.Lms.{is_public, public_of}
use Rattle.signing.specs.NewKeys.{key_object}
use Rattle.std.proofs.lemmas.Slice.Eq.{bytes_eq-Decides}

lms_object : (public : List ℕ) → is_lms (key_object public) ≡ true
unfolding cjson_on_literals
lms_object public = refl

found : (public : List ℕ) → public_value (key_object public) ≡ (ok (decode_sized (encode_lower public) 56) >>= public_of)
unfolding cjson_on_literals
found public = refl

pub public_value_object : (d : Data) (public : List ℕ) → d ≡ key_object public → decode_sized (encode_lower public) 56 ≡ Ok public → is_public public ≡ true → public_value d ≡ Some public
public_value_object d public object back is = ap public_value object ∙ found public ∙ rw (back, is) refl

own : (d : Data) (id : List ℕ) → key_id d ≡ Some id → is_own_id id d ≡ true
own d id h = rw (h, (bytes_eq-Decides id id).1 refl) refl

-- a key object under its own id
pub usable_object : (d : Data) (public id : List ℕ) → d ≡ key_object public → public_value d ≡ Some public → key_id d ≡ Some id → usable id d ≡ Some (record { id = id; public = public })
usable_object d public id is p k = rw (p, ap is_lms is ∙ lms_object public, own d id k) refl
