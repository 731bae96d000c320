-- The lines of who signed a file.
use Rattle.std.specs.Prelude.{ℕ, ◌-◌, ◌==◌, List, [], ◌∷◌, ◌++◌, if◌then◌else◌, codes, decimal, flat_map, length}
use Rattle.failure.specs.Failures.{line}
use Rattle.inout.specs.Quoted.{cut_text}
use Rattle.signing.specs.declared.fault.Invalid.{Invalid}
use Rattle.signing.specs.declared.fault.Invalid.TheVariants as invalid
use Rattle.signing.specs.declared.signing.KeyFinding.{KeyFinding}
use Rattle.signing.specs.declared.signing.KeyFinding.TheVariants as finding
use Rattle.signing.specs.declared.signing.ListedKey.{ListedKey}
use Rattle.signing.specs.declared.signing.Signing.{Signing}
use Rattle.signing.specs.declared.unusable.Unusable.{Unusable}
use Rattle.signing.specs.declared.unusable.Unusable.TheVariants as unusable

-- `why keys FILE threshold T signed N`
abbrev pub keys_text : List ℕ → ℕ → ℕ → List ℕ
keys_text file threshold signed =
    line (codes "why" ∷ codes "keys" ∷ cut_text file ∷ codes "threshold" ∷ decimal threshold
    ∷ codes "signed" ∷ decimal signed ∷ [])

-- ---- `why key ID WHAT`, of a quoted id

abbrev pub key_words : List ℕ → List (List ℕ) → List ℕ
key_words id words = line (codes "why" ∷ codes "key" ∷ id ∷ words)

abbrev pub signed_text : List ℕ → ℕ → List ℕ
signed_text id leaf = key_words id (codes "signed" ∷ decimal leaf ∷ [])

abbrev pub again_text : List ℕ → List ℕ → List ℕ
again_text id other = key_words id (codes "again" ∷ cut_text other ∷ [])

abbrev pub unsigned_text : List ℕ → List ℕ
unsigned_text id = key_words id (codes "unsigned" ∷ [])

abbrev pub other_type_text : List ℕ → List ℕ → List ℕ
other_type_text id quoted =
    key_words id (codes "unusable" ∷ codes "type" ∷ quoted ∷ [])

abbrev pub unusable_text : List ℕ → Unusable → List ℕ
unusable_text id unusable.Absent = key_words id (codes "absent" ∷ [])
unusable_text id (unusable.Type name) = other_type_text id (cut_text name)
unusable_text id unusable.Kind = key_words id (codes "unusable" ∷ codes "kind" ∷ [])
unusable_text id unusable.Id = key_words id (codes "unusable" ∷ codes "id" ∷ [])

abbrev pub invalid_text : List ℕ → ℕ → Invalid → List ℕ
invalid_text id n invalid.Hexadecimal =
    key_words id (codes "invalid" ∷ decimal n ∷ codes "hexadecimal" ∷ [])
invalid_text id n (invalid.Length found due) =
    key_words id (codes "invalid" ∷ decimal n ∷ codes "length" ∷ decimal found ∷ decimal due
    ∷ [])
invalid_text id n invalid.Kind = key_words id (codes "invalid" ∷ decimal n ∷ codes "kind" ∷ [])
invalid_text id n (invalid.Leaf leaf) =
    key_words id (codes "invalid" ∷ decimal n ∷ codes "leaf" ∷ decimal leaf ∷ [])
invalid_text id n invalid.Root = key_words id (codes "invalid" ∷ decimal n ∷ codes "root" ∷ [])

abbrev pub finding_of_text : List ℕ → KeyFinding → List ℕ
finding_of_text id (finding.Unusable why) = unusable_text id why
finding_of_text id (finding.Signed leaf) = signed_text id leaf
finding_of_text id (finding.Again other) = again_text id other
finding_of_text id finding.Unsigned = unsigned_text id
finding_of_text id (finding.Invalid n why) = invalid_text id n why

-- the line of a listed id
abbrev pub finding_text : ListedKey → List ℕ
finding_text k = finding_of_text (cut_text k.id) k.finding

-- `why more N`, if there is more than has a line
abbrev pub more_text : ℕ → List ℕ
more_text n = if n == 0 then [] else line (codes "why" ∷ codes "more" ∷ decimal n ∷ [])

-- all lines, of the keys that this file lists
abbrev pub signing_text : List ℕ → Signing → List ℕ
signing_text file s =
    keys_text file s.threshold s.signed ++ flat_map finding_text s.keys
    ++ more_text (s.listed - length s.keys)
