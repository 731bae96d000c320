-- The file of a key object that a ceremony makes.
use Rattle.std.specs.Prelude.{◌≡◌, ◌≢◌, ◌⊎◌, ℕ, List, Bool, true, Some, Ok, Err, ⊤}
use Rattle.cjson.specs.Canon.{canon}
use Rattle.keys.specs.Keys.{key_id, usable}
use Rattle.keys.specs.declared.key.Key.{Key}
use Rattle.failure.specs.declared.failure.Failure.{Failure}
use Rattle.failure.specs.declared.failure.Failure.TheVariants.{Input, Output, Memory}
use Rattle.signing.specs.NewKeys.{key_object, public_in}
use Rattle.signing.specs.Octets.{octets}
use Rattle.signing.specs.declared.fault.KeyFault.{KeyFault}
use Rattle.signing.specs.declared.fault.KeyFault.TheVariants.{NoMemory}

-- A file that may be read has a public key. The canonical text of its key object is stored; the key
-- counts under the object's id, and more holds of it.
pub record IsMade (gives keeps : List ℕ → Bool) (follows : Key → Type 0) : Type 0 where
  pub file : List ℕ
  pub key : Key
  pub text : List ℕ
  pub read : gives file ≡ true
  pub public : public_in (octets file) ≡ Ok key.public
  pub object : canon (key_object key.public) ≡ Some text
  pub id : key_id (key_object key.public) ≡ Some key.id
  pub usable : usable key.id (key_object key.public) ≡ Some key
  pub kept : keeps text ≡ true
  pub more : follows key

-- A file that may be read has no public key, with a fault of which more holds.
pub record IsNoKey (gives : List ℕ → Bool) (follows : KeyFault → Type 0) : Type 0 where
  pub file : List ℕ
  pub fault : KeyFault
  pub read : gives file ≡ true
  pub memory : fault ≢ NoMemory
  pub refused : public_in (octets file) ≡ Err fault
  pub more : follows fault

-- Why the step fails: the file can't be read; or the key object can't be stored, or the line of the
-- stored one or of the fault can't be written.
abbrev pub IsCause : (List ℕ → Bool) → Bool → Bool → (List ℕ → Bool) → Failure → Type 0
IsCause gives refused fails keeps Input = refused ≡ true
IsCause gives refused fails keeps Output =
    (fails ≡ true) ⊎ (IsMade gives keeps (λ _. ⊤) ⊎ IsNoKey gives (λ _. ⊤))
IsCause gives refused fails keeps Memory = ⊤
IsCause gives refused fails keeps _ = ⊥
