-- How reading a file changes what was read and what is left.
use Rattle.std.proofs.Common.{arith, ℕ, ◌+◌, ◌-◌, ◌≤◌, ◌≡◌, ◌∙◌, ap, Bool, true, false, if◌then◌else◌, List, [], ◌∷◌, ◌++◌, length, Some}
use Rattle.std.proofs.lemmas.List.Sums.{sum_by_push}
use Rattle.std.specs.Option.{option_map_or}
use Rattle.examine.specs.Checks.{Files}
use Rattle.plan.specs.Bound.{bytes_of, bytes_read}
use Rattle.plan.specs.declared.document.Document.{Document}

-- one more document, whose file has that many bytes, or none if there is no memory for it
pub pushed : (done : Bool) (files : Files) (ds es : List Document) (d : Document) (name bytes : List ℕ) (read left most : ℕ) → es ≡ (if done then ds ++ d ∷ [] else ds)
    → d.file ≡ name → files name ≡ Some bytes → read ≡ length bytes → read ≤ left → bytes_read files ds + left ≤ most → bytes_read files es + (left - read) ≤ most
pushed true files ds es d name bytes read left most is named there size fits bound =
    let one : bytes_of files d ≡ length bytes = ap (λ (n : List ℕ). option_map_or length (files n) 0) named ∙ ap (λ o. option_map_or length o 0) there in
    let all : bytes_read files es ≡ bytes_read files ds + bytes_of files d = ap (bytes_read files) is ∙ sum_by_push (bytes_of files) ds d in
    omega (arith, one, all, size, fits, bound)
pushed false files ds es d name bytes read left most is named there size fits bound =
    let all : bytes_read files es ≡ bytes_read files ds = ap (bytes_read files) is in
    omega (arith, all, fits, bound)
