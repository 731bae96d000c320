-- Why a run ends early: usage error or system error, and the line that is printed.
use Rattle.std.specs.Prelude.{◌≡◌, ◌⊎◌, ℕ, List, [], ◌∷◌, ◌++◌, Bool, true, false, codes, decimal}
use Rattle.failure.specs.declared.failure.Failure.TheVariants.{Words, Now, State, Script, Input, Folder, Clock, Output, Memory}
use Rattle.failure.specs.declared.failure.Failure.{Failure}

-- # A line of words.

-- the words with a space between them, and a line feed at the end
abbrev pub line : List (List ℕ) → List ℕ
line [] = 10 ∷ []
line (word ∷ []) = word ++ 10 ∷ []
line (word ∷ next ∷ more) = word ++ 32 ∷ line (next ∷ more)

-- # Failures.

-- whether it is a usage error, in the caller's arguments or files, and not a system error
abbrev pub is_callers : Failure → Bool
is_callers Words = true
is_callers Now = true
is_callers State = true
is_callers (Script line) = true
is_callers _ = false

-- one that may come late, when something was written: out of memory, or by the output
abbrev pub IsLate : Failure → Type 0
IsLate f = (f ≡ Memory) ⊎ (f ≡ Output)

-- the text of a failure, without the line of a script
abbrev pub failure_word : Failure → List ℕ
failure_word Words = codes "words"
failure_word Now = codes "now"
failure_word State = codes "state file"
failure_word (Script at) = codes "script"
failure_word Input = codes "input"
failure_word Folder = codes "folder"
failure_word Clock = codes "clock"
failure_word Output = codes "output"
failure_word Memory = codes "memory"

-- `tufcheck: WORDS`, or `tufcheck: script N`
abbrev pub failure_text : Failure → List ℕ
failure_text (Script at) = line (codes "tufcheck:" ∷ failure_word (Script at) ∷ decimal at ∷ [])
failure_text failure = line (codes "tufcheck:" ∷ failure_word failure ∷ [])
