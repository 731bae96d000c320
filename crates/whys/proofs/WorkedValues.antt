-- Worked values of the definitions.
use Rattle.std.proofs.Common.{◌≡◌, [], ◌∷◌, ◌++◌, false, Some, None, refl, codes}
use Rattle.std.specs.Fmt.{digits}
use Rattle.hex.proofs.OnLiterals.{hex_on_literals}
use Rattle.signing.specs.declared.fault.Invalid.TheVariants as invalid
use Rattle.signing.specs.declared.signing.KeyFinding.TheVariants as finding
use Rattle.signing.specs.declared.unusable.Unusable.TheVariants as unusable
use Rattle.reasons.specs.declared.reason.Malformation.TheVariants as malformed
use Rattle.reasons.specs.declared.reason.Reason.TheVariants as reason
use Rattle.whys.specs.Signed.{finding_text, more_text}
use Rattle.whys.specs.Whys.{digest_text, fall_text, refusal_text}
use Rattle.whys.specs.declared.place.Place.{Place}

abbrev place : Place
place = record { file = codes "2.root.json"; length = Some 7; by = codes "1.root.json"; snapshot = Some (record { version = 4; names = 3 }) }

-- a file that is there, and the reason
version-lines : refusal_text place (reason.VersionWrong 3 2) ≡ codes "why file \"2.root.json\" 7" ++ 10 ∷ codes "why version 3 expected 2" ++ 10 ∷ []
unfolding digits
version-lines = refl

form-lines : refusal_text place (reason.Malformed malformed.NotFormed) ≡ codes "why file \"2.root.json\" 7" ++ 10 ∷ codes "why form" ++ 10 ∷ []
unfolding digits
form-lines = refl

-- no line of a file that isn't there
absent-line : refusal_text place reason.Missing ≡ codes "why absent \"2.root.json\"" ++ 10 ∷ []
absent-line = refl

listings-line : refusal_text place reason.NotListed ≡ codes "why snapshot 4 names 3" ++ 10 ∷ []
unfolding digits
listings-line = refl

-- whose keys were asked: those of the root before, and a root's own
keys-lines : refusal_text place (reason.Unsigned (record { is_met = false; threshold = 2; signed = 1; listed = 1; keys = record { id = codes "a"; finding = finding.Unsigned } ∷ [] }))
    ≡ codes "why file \"2.root.json\" 7" ++ 10 ∷ codes "why keys \"1.root.json\" threshold 2 signed 1" ++ 10 ∷ codes "why key \"a\" unsigned" ++ 10 ∷ []
unfolding digits
keys-lines = refl

own-lines : refusal_text place (reason.OwnUnsigned (record { is_met = false; threshold = 2; signed = 1; listed = 67; keys = record { id = codes "a"; finding = finding.Signed 5 } ∷ [] }))
    ≡ codes "why file \"2.root.json\" 7" ++ 10 ∷ codes "why keys \"2.root.json\" threshold 2 signed 1" ++ 10 ∷ codes "why key \"a\" signed 5" ++ 10 ∷ codes "why more 66" ++ 10 ∷ []
unfolding digits
own-lines = refl

invalid-line : finding_text (record { id = codes "a"; finding = finding.Invalid 2 (invalid.Length 9 1296) }) ≡ codes "why key \"a\" invalid 2 length 9 1296" ++ 10 ∷ []
unfolding digits
invalid-line = refl

-- a type with a line feed and a quote
type-line : finding_text (record { id = codes "a"; finding = finding.Unusable (unusable.Type (10 ∷ 34 ∷ [])) }) ≡ codes "why key \"a\" unusable type \"\\x0a\\x22\"" ++ 10 ∷ []
unfolding hex_on_literals
type-line = refl

digest-line : digest_text (codes "sha256") (1 ∷ 255 ∷ []) (171 ∷ []) ≡ codes "why sha256 01ff listed ab" ++ 10 ∷ []
unfolding hex_on_literals
digest-line = refl

gone-line : fall_text (record { name = codes "a.json"; trusted = 2; found = None }) ≡ codes "why name \"a.json\" gone" ++ 10 ∷ []
gone-line = refl

lower-line : fall_text (record { name = codes "a.json"; trusted = 2; found = Some 1 }) ≡ codes "why name \"a.json\" 1 trusted 2" ++ 10 ∷ []
unfolding digits
lower-line = refl

no-more : more_text 0 ≡ []
no-more = refl
