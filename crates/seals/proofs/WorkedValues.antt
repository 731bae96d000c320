-- Worked values of the definitions.
use Rattle.std.specs.Prelude.{◌≡◌, refl, codes, fold, Some, [], ◌∷◌}
use Rattle.serde_json.specs.Data.{object, no_members}
use Rattle.cjson.proofs.OnLiterals.{cjson_on_literals}
use Rattle.cjson.specs.Canon.{canon}
use Rattle.seals.specs.Sealed.{sealed, spend}

pub file_of_nobody : canon (sealed (object no_members) []) ≡ Some (codes "{\"signatures\":[],\"signed\":{}}")
unfolding cjson_on_literals
file_of_nobody = refl

pub file_of_two : canon (sealed (object no_members) (record { keyid = codes "b"; sig = codes "22" } ∷ record { keyid = codes "a"; sig = codes "11" } ∷ []))
    ≡ Some (codes "{\"signatures\":[{\"keyid\":\"b\",\"sig\":\"22\"},{\"keyid\":\"a\",\"sig\":\"11\"}],\"signed\":{}}")
unfolding cjson_on_literals
file_of_two = refl

-- the second signer signs twice, and then the first
pub three_leaves : fold spend (4 ∷ 7 ∷ []) (1 ∷ 1 ∷ 0 ∷ []) ≡ 5 ∷ 9 ∷ []
three_leaves = refl
