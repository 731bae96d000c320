-- What a caller gets of a state: a row for each file that it may trust (TUF 1.0 section 5).
use Rattle.std.specs.Prelude.{◌≡◌, List, map, Ok, Option, None, Some, ℤ, pos, ◌*ℤ◌, ◌+ℤ◌, replicate, ℕ}
use Rattle.meta.specs.declared.header.Header.{Header}
use Rattle.moment.specs.Moment.{Moment}
use Rattle.rolechain.specs.Advance.{State}
use Rattle.rolechain.specs.Headers.{headers}
use Rattle.rolechain.specs.Text.{state_of}
use Rattle.rolechain.specs.declared.end.Step.{Step}
use Rattle.embed.specs.declared.trusted.TrustedRow.{TrustedRow}

-- the seconds after 1970-01-01T00:00:00Z, below 0 before that
abbrev pub seconds_of : Moment → ℤ
seconds_of m = m.day *ℤ pos 86400 +ℤ pos m.second

-- version and expiry of a trusted file, and zeros for one that isn't trusted
abbrev pub row_of : Step × Option Header → TrustedRow
row_of (step, None) = record { version = 0; expires = pos 0; reserved = replicate 2 0 }
row_of (step, Some h) =
    record { version = h.version; expires = seconds_of h.expires; reserved = replicate 2 0 }

-- the rows of root, timestamp, snapshot and targets, of the state with that text
pub record AreTrusted (text : List ℕ) (rows : List TrustedRow) : Type 0 where
  pub trusted : State
  pub read : state_of text ≡ Ok trusted
  pub of_rows : rows ≡ map row_of (headers trusted)
