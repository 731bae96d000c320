-- A plan of checks, and its index.
use Rattle.std.specs.Prelude.{◌≡◌, ◌∷◌, ◌++◌, ℕ, List, Bool, map, Option, Some, option_map, unwrap_or, IsSomeAnd, slice_get, ◌<◌, [], vec_len, ◌≤◌, All}
use Rattle.std.specs.BTreeMap.{is_at}
use Rattle.std.specs.Cmp.Lexicographic.{slice_cmp}
use Rattle.std.specs.Int.{w64, to_be_bytes}
use Rattle.std.specs.Map.{lookup}
use Rattle.std.specs.Ordering.{nat_cmp}
use Rattle.sha2.specs.Sha256.{sha256}
pub use Rattle.keys.specs.Keys.{truth_of, Question, signature_of, digest_of, question_of}
use Rattle.keys.specs.declared.judge.Algorithm.TheVariants.{Sha256, Sha512}
use Rattle.keys.specs.declared.judge.Algorithm.{Algorithm}
use Rattle.plan.specs.declared.document.Document.{Document}
use Rattle.plan.specs.declared.plan.Planned.{Planned}
use Rattle.plan.specs.declared.plan.Planned.TheVariants as planned
use Rattle.plan.specs.declared.draft.Draft.{Draft}

abbrev pub truths_of : List Question → List Bool
truths_of questions = map truth_of questions

-- ---- the index

abbrev pub tag : Algorithm → ℕ
tag Sha256 = 1
tag Sha512 = 2

-- the key of a check in the index: the digest of its file, place and public value, or of its file,
-- algorithm and digest
abbrev pub mark : Question → List ℕ
mark (signature_of file place public message sig) =
    sha256 (((0 ∷ to_be_bytes w64 place) ++ public) ++ file)
mark (digest_of file algorithm bytes digest) = sha256 ((tag algorithm ∷ digest) ++ file)

-- the number at a mark
abbrev pub at : List (List ℕ × ℕ) → List ℕ → Option ℕ
at entries k = lookup (is_at (slice_cmp nat_cmp k)) entries

-- each check is found by its mark, and each entry names a check of that mark
pub record IsIndex (questions : List Question) (entries : List (List ℕ × ℕ)) : Type 0 where
  pub found : (j : ℕ) (q : Question) → slice_get questions j ≡ Some q → at entries (mark q) ≡ Some j
  pub named : (k : List ℕ) (j : ℕ)
      → at entries k ≡ Some j → (q : Question) × (slice_get questions j ≡ Some q) × (mark q ≡ k)

-- no check is in the list twice
abbrev pub IsDistinct : List Question → Type 0
IsDistinct questions = (i j : ℕ) (q : Question)
    → slice_get questions i ≡ Some q → slice_get questions j ≡ Some q → i ≡ j

-- # What the fields of a plan represent.

-- the check of a signature of a document; never made if the signature isn't there
abbrev pub entry_question : ℕ → List ℕ → Document → Question
entry_question place public d =
    signature_of d.file place public d.message.items (unwrap_or (slice_get d.sigs.items place) [])

abbrev pub question_in : List Document → Planned → Question
question_in docs (planned.Signature document place public) =
    unwrap_or (option_map (entry_question place public) (slice_get docs document))
    (signature_of [] place public [] [])
question_in docs (planned.Digest listed) =
    digest_of listed.file listed.algorithm listed.bytes.now listed.digest.items

abbrev pub questions_in : List Document → List Planned → List Question
questions_in docs planned = map (question_in docs) planned

-- the entry is there
abbrev pub IsWhole : List Document → Planned → Type 0
IsWhole docs (planned.Signature document place public) =
    IsSomeAnd (slice_get docs document) (λ d. place < vec_len d.sigs)
IsWhole docs (planned.Digest listed) = Unit {0}

-- # A plan that is being made.

pub record IsDraft (d : Draft) : Type 0 where
  pub whole : All (IsWhole d.documents.items) d.questions.items
  pub index : IsIndex (questions_in d.documents.items d.questions.items) d.index.entries
  pub within : vec_len d.questions ≤ d.most

-- e is a draft over the same documents, with the same maximum number of checks
pub record Grows (d e : Draft) : Type 0 where
  pub documents : e.documents ≡ d.documents
  pub most : e.most ≡ d.most
  pub draft : IsDraft e
