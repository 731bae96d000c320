-- The lines that a ceremony prints.
use Rattle.std.specs.Prelude.{ℕ, ◌^◌, List, [], ◌∷◌, if◌then◌else◌, codes, decimal}
use Rattle.std.specs.Option.{option_map_or}
use Rattle.cjson.specs.declared.fault.DocFault.{DocFault}
use Rattle.cjson.specs.declared.fault.DocFault.TheVariants.{NotJson, NotObject, Float, BadSignatures}
use Rattle.cjson.specs.declared.fault.DocFault.TheVariants as doc
use Rattle.keys.specs.declared.key.Key.{Key}
use Rattle.lms.specs.Lms.{levels, public_kind}
use Rattle.lms.specs.declared.kind.Kind.{Kind}
use Rattle.lms.specs.declared.kind.Width.{Width}
use Rattle.lms.specs.declared.kind.Width.TheVariants.{W4, W8}
use Rattle.lms.specs.declared.kind.Height.{Height}
use Rattle.lms.specs.declared.kind.Height.TheVariants.{H5, H10, H15}
use Rattle.failure.specs.Failures.{line}
use Rattle.inout.specs.Quoted.{quoted_text}
use Rattle.signing.specs.declared.fault.KeyFault.{KeyFault}
use Rattle.signing.specs.declared.fault.KeyFault.TheVariants as key
use Rattle.signing.specs.declared.fault.Invalid.{Invalid}
use Rattle.signing.specs.declared.fault.Invalid.TheVariants as invalid
use Rattle.signing.specs.declared.attaching.Attached.{Attached}
use Rattle.ceremony.specs.declared.lines.Refusal.{Refusal}
use Rattle.ceremony.specs.declared.lines.Refusal.TheVariants as refusal

-- # Why a step is refused: `refused WHY`.

abbrev pub key_fault_text : KeyFault → List ℕ
key_fault_text (key.Length n) = line (codes "refused" ∷ codes "length" ∷ decimal n ∷ [])
key_fault_text (key.Levels n) = line (codes "refused" ∷ codes "levels" ∷ decimal n ∷ [])
key_fault_text key.Kind = line (codes "refused" ∷ codes "kind" ∷ [])
key_fault_text key.NoMemory = line (codes "refused" ∷ codes "memory" ∷ [])

abbrev pub signature_text : Invalid → List ℕ
signature_text invalid.Hexadecimal = line (codes "refused" ∷ codes "hexadecimal" ∷ [])
signature_text (invalid.Length n m) =
    line (codes "refused" ∷ codes "length" ∷ decimal n ∷ decimal m ∷ [])
signature_text invalid.Kind = line (codes "refused" ∷ codes "kind" ∷ [])
signature_text (invalid.Leaf n) = line (codes "refused" ∷ codes "leaf" ∷ decimal n ∷ [])
signature_text invalid.Root = line (codes "refused" ∷ codes "root" ∷ [])

abbrev pub file_fault_text : DocFault → List ℕ
file_fault_text NotJson = line (codes "refused" ∷ codes "json" ∷ [])
file_fault_text NotObject = line (codes "refused" ∷ codes "object" ∷ [])
file_fault_text Float = line (codes "refused" ∷ codes "float" ∷ [])
file_fault_text BadSignatures = line (codes "refused" ∷ codes "signatures" ∷ [])
file_fault_text doc.NoMemory = line (codes "refused" ∷ codes "memory" ∷ [])

abbrev pub refusal_text : Refusal → List ℕ
refusal_text (refusal.Key fault) = key_fault_text fault
refusal_text (refusal.Signature why) = signature_text why
refusal_text refusal.KeyFile = line (codes "refused" ∷ codes "key" ∷ [])
refusal_text (refusal.File fault) = file_fault_text fault
refusal_text refusal.Role = line (codes "refused" ∷ codes "role" ∷ [])

-- the exit status
abbrev pub refusal_status : Refusal → ℕ
refusal_status (refusal.Key fault) = 1
refusal_status (refusal.Signature why) = 1
refusal_status refusal.KeyFile = 2
refusal_status (refusal.File fault) = 2
refusal_status refusal.Role = 2

-- # A key: `key ID WIDTH HEIGHT LEAVES`.

abbrev pub width_word : Width → List ℕ
width_word W4 = codes "W4"
width_word W8 = codes "W8"

abbrev pub height_word : Height → List ℕ
height_word H5 = codes "H5"
height_word H10 = codes "H10"
height_word H15 = codes "H15"

abbrev pub kind_text : List ℕ → Kind → List ℕ
kind_text id k = line (codes "key" ∷ quoted_text id ∷ width_word k.width ∷ height_word k.height
    ∷ decimal (2 ^ levels k.height) ∷ [])

abbrev pub key_text : Key → List ℕ
key_text key = option_map_or (kind_text key.id) (public_kind key.public) []

-- # A signature that was attached: `entry ID LEAF`, or `again ID LEAF`.

abbrev pub entry_text : Key → Attached → List ℕ
entry_text key a =
    line ((if a.is_new then codes "entry" else codes "again") ∷ quoted_text key.id
    ∷ decimal a.leaf ∷ [])
