-- Worked values of the definitions.
use Rattle.std.proofs.Common.{◌≡◌, ℕ, List, [], ◌∷◌, true, false, Some, None, codes, refl}
use Rattle.serde_json.specs.Data.{Data, number, string, array, object, item, no_items, member, no_members, unsigned}
use Rattle.hex.specs.Hex.{decode_pairs}
use Rattle.keys.specs.Keys.{is_lms, listed_key, ring, role_keys, is_signed_by}

-- {"keyids":["a","b","a"],"threshold":n}
role : ℕ → Data
role n = object (member (codes "keyids") (array (item (string (codes "a")) (item (string (codes "b")) (item (string (codes "a")) no_items))))
    (member (codes "threshold") (number (unsigned n)) no_members))

repeated_ids : role_keys (role 2) ≡ Some (record { ids = codes "a" ∷ codes "b" ∷ codes "a" ∷ []; threshold = 2 })
unfolding role
repeated_ids = refl

greatest_threshold : role_keys (role 9223372036854775807) ≡ Some (record { ids = codes "a" ∷ codes "b" ∷ codes "a" ∷ []; threshold = 9223372036854775807 })
unfolding role
greatest_threshold = refl

threshold_of_0 : role_keys (role 0) ≡ None
unfolding role
threshold_of_0 = refl

threshold_too_great : role_keys (role 9223372036854775808) ≡ None
unfolding role
threshold_too_great = refl

no_threshold : role_keys (object (member (codes "keyids") (array no_items) no_members)) ≡ None
no_threshold = refl

no_keys : ring (object no_members) ≡ Some []
no_keys = refl

-- a value of an object of keys has to be an object
key_of_a_number : ring (object (member (codes "a") (number (unsigned 1)) no_members)) ≡ None
key_of_a_number = refl

key_without_members : listed_key (codes "a") (object no_members) ≡ Some None
key_without_members = refl

-- {"keytype":type,"scheme":scheme}
key : List ℕ → List ℕ → Data
key type scheme = object (member (codes "keytype") (string type) (member (codes "scheme") (string scheme) no_members))

lms_key : is_lms (key (codes "lms") (codes "lms-sha256")) ≡ true
unfolding key
lms_key = refl

key_of_another_type : is_lms (key (codes "ed25519") (codes "lms-sha256")) ≡ false
unfolding key
key_of_another_type = refl

key_of_another_scheme : is_lms (key (codes "lms") (codes "lms-sha512")) ≡ false
unfolding key
key_of_another_scheme = refl

odd_text : (public message : List ℕ) → is_signed_by public message (codes "000") ≡ false
odd_text public message = refl

bad_digit : (public message : List ℕ) → is_signed_by public message (codes "000g") ≡ false
unfolding decode_pairs
bad_digit public message = refl
