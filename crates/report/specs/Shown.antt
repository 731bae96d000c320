-- The lines that show a trusted state, and their exit status.
use Rattle.std.specs.List.{flat_map, list_any}
use Rattle.std.specs.Prelude.{ℕ, Bool, false, if◌then◌else◌, List, [], ◌∷◌, Option, Some, None, decimal}
use Rattle.moment.specs.Moment.{Moment, is_before}
use Rattle.meta.specs.declared.header.Header.{Header}
use Rattle.rolechain.specs.Advance.{State}
use Rattle.rolechain.specs.declared.end.Step.{Step}
use Rattle.rolechain.specs.Headers.{headers}
use Rattle.failure.specs.Failures.{line}
use Rattle.inout.specs.Moments.{moment_text}
use Rattle.report.specs.Lines.{step_word}

-- # The lines.

-- `STEP VERSION EXPIRES` of a trusted file
abbrev pub file_text : Step × Option Header → List ℕ
file_text (step, None) = []
file_text (step, Some h) =
    line (step_word step ∷ decimal h.version ∷ moment_text h.expires ∷ [])

-- root, timestamp, snapshot and targets, as far as they are trusted
abbrev pub shown_text : State → List ℕ
shown_text s = flat_map file_text (headers s)

-- # The exit status.

-- the file is trusted, and expires before the moment
abbrev pub is_due : Moment → Step × Option Header → Bool
is_due m (step, None) = false
is_due m (step, Some h) = is_before h.expires m

-- 1 if a moment is given and some file expires before it, else 0
abbrev pub status_of : Option Moment → List (Step × Option Header) → ℕ
status_of None files = 0
status_of (Some m) files = if list_any (is_due m) files then 1 else 0

abbrev pub shown_status : Option Moment → State → ℕ
shown_status before s = status_of before (headers s)
