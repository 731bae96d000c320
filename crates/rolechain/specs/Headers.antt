-- What each trusted file says of itself (TUF 1.0 section 4.3).
use Rattle.std.specs.Prelude.{List, [], ◌∷◌, Option, Some, option_map}
use Rattle.meta.specs.declared.header.Header.{Header}
use Rattle.rolechain.specs.Advance.{State}
use Rattle.rolechain.specs.declared.end.Step.{Step}
use Rattle.rolechain.specs.declared.end.Step.TheVariants.{Root, Timestamp, Snapshot, Targets}

-- the header of each file, if the file is trusted
abbrev pub headers : State → List (Step × Option Header)
headers s =
    (Root, Some s.root.reading.header)
    ∷ (Timestamp, option_map (λ p. p.reading.header) s.timestamp)
    ∷ (Snapshot, option_map (λ p. p.reading.header) s.snapshot)
    ∷ (Targets, option_map (λ p. p.reading.header) s.targets) ∷ []
