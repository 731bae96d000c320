-- The lines that a run prints, and its exit status.
use Rattle.std.specs.List.{enumerate_from, list_all, slice_get}
use Rattle.std.specs.Option.{option_map_or}
use Rattle.std.specs.Prelude.{ℕ, ◌≤◌, Bool, ◌&&◌, List, [], ◌∷◌, ◌++◌, if◌then◌else◌, flat_map, codes, decimal, ◌-◌, true, false, length, Option, unwrap_or}
use Rattle.meta.specs.declared.fault.Fault.TheVariants.{NotListed, TooLong, LengthWrong, HashWrong, NoKnownHash, Malformed, Unsigned, VersionWrong, Rollback, Expired, Missing}
pub use Rattle.rolechain.specs.declared.end.Step.TheVariants.{Root, Timestamp, Snapshot, Targets}
use Rattle.rolechain.specs.declared.end.Step.{Step}
use Rattle.cycle.specs.Workflow.{Fault, End, Ready, Stopped, Accepted, Outcome}
use Rattle.cycle.specs.declared.verdict.Verdict.TheVariants.{Good, NotFound, LimitReached, RoleRefused, FileRefused, NotSearched}
use Rattle.cycle.specs.declared.verdict.Verdict.{Verdict}
use Rattle.failure.specs.Failures.{line}
use Rattle.report.specs.declared.told.Told.{Told}
pub use Rattle.inout.specs.Quoted.{quoted_text}
pub use Rattle.report.specs.Whys.{Whys, nothing, why_at}

-- # The lines.

-- ---- words

abbrev pub step_word : Step → List ℕ
step_word Root = codes "root"
step_word Timestamp = codes "timestamp"
step_word Snapshot = codes "snapshot"
step_word Targets = codes "targets"

abbrev pub fault_word : Fault → List ℕ
fault_word NotListed = codes "NotListed"
fault_word Missing = codes "Missing"
fault_word TooLong = codes "TooLong"
fault_word LengthWrong = codes "LengthWrong"
fault_word HashWrong = codes "HashWrong"
fault_word NoKnownHash = codes "NoKnownHash"
fault_word Malformed = codes "Malformed"
fault_word Unsigned = codes "Unsigned"
fault_word VersionWrong = codes "VersionWrong"
fault_word Rollback = codes "Rollback"
fault_word Expired = codes "Expired"

-- ---- lines

-- `root N`
abbrev pub root_text : ℕ → List ℕ
root_text version = line (codes "root" ∷ decimal version ∷ [])

-- `end ready`, or `end STEP FAULT`
abbrev pub end_text : End → List ℕ
end_text Ready = line (codes "end" ∷ codes "ready" ∷ [])
end_text (Stopped step fault) = line (codes "end" ∷ step_word step ∷ fault_word fault ∷ [])

-- `role NAME VERSION`
abbrev pub role_text : Accepted → List ℕ
role_text a = line (codes "role" ∷ quoted_text a.role ∷ decimal a.version ∷ [])

-- `ok PATH LENGTH ROLE`, or `no PATH WHY`, with the name of a refused role after its fault
abbrev pub verdict_text : List ℕ → Verdict → List ℕ
verdict_text path (Good role length) =
    line (codes "ok" ∷ quoted_text path ∷ decimal length ∷ quoted_text role ∷ [])
verdict_text path NotFound = line (codes "no" ∷ quoted_text path ∷ codes "NotFound" ∷ [])
verdict_text path LimitReached = line (codes "no" ∷ quoted_text path ∷ codes "LimitReached" ∷ [])
verdict_text path (RoleRefused role fault) =
    line (codes "no" ∷ quoted_text path ∷ fault_word fault ∷ quoted_text role ∷ [])
verdict_text path (FileRefused fault) = line (codes "no" ∷ quoted_text path ∷ fault_word fault ∷ [])
verdict_text path NotSearched = line (codes "no" ∷ quoted_text path ∷ codes "NotSearched" ∷ [])

-- the same, with whether a copy was stored: `no PATH NoPlace` of an accepted path without one
abbrev pub stored_text : List ℕ → Verdict → Bool → List ℕ
stored_text path (Good role length) false =
    line (codes "no" ∷ quoted_text path ∷ codes "NoPlace" ∷ [])
stored_text path v is_stored = verdict_text path v

-- ---- the whole

-- whether the copy of the path at a position was stored; without a flag it needs none
abbrev pub is_stored_at : List Bool → ℕ → Bool
is_stored_at stored i = unwrap_or (slice_get stored i) true

-- the line of the path at a position, if it has a verdict, and then why it is refused
abbrev pub path_line : List Verdict → Option (List (List ℕ)) → ℕ → Bool → List ℕ → List ℕ
path_line verdicts whys i is_stored path = option_map_or
    (λ v. stored_text path v is_stored ++ why_at whys i) (slice_get verdicts i) []

abbrev pub path_text : List Verdict → List Bool → Option (List (List ℕ)) → ℕ × List ℕ → List ℕ
path_text verdicts stored whys (i, path) = path_line verdicts whys i (is_stored_at stored i) path

-- those of all paths
abbrev pub path_texts : List Verdict → List Bool → Option (List (List ℕ)) → List (List ℕ) → List ℕ
path_texts verdicts stored whys wanted =
    flat_map (path_text verdicts stored whys) (enumerate_from 0 wanted)

-- the trusted root, how the cycle ended and the lines that say why, the roles that were accepted,
-- all in order, and then the lines of the wanted paths
abbrev pub outcome_with : Outcome → List ℕ → List ℕ → List ℕ
outcome_with o stop lines = root_text o.trusted.root.reading.header.version
    ++ (end_text o.end ++ (stop ++ (flat_map role_text o.accepted ++ lines)))

-- an outcome with copies, of which these were stored
abbrev pub stored_outcome_text : Outcome → Whys → List (List ℕ) → List Bool → List ℕ
stored_outcome_text o why wanted stored =
    outcome_with o why.stop (path_texts o.verdicts stored why.paths wanted)

-- an outcome without copies
abbrev pub outcome_text : Outcome → Whys → List (List ℕ) → List ℕ
outcome_text o why wanted = stored_outcome_text o why wanted []

-- `cycle K`, and then the outcome's lines
abbrev pub cycle_text : List (List ℕ) → ℕ × Told → List ℕ
cycle_text wanted (number, t) = line (codes "cycle" ∷ decimal number ∷ [])
    ++ outcome_text t.outcome t.why wanted

-- one cycle after another, numbered from 1
abbrev pub cycles_text : List (List ℕ) → List Told → List ℕ
cycles_text wanted all = flat_map (cycle_text wanted) (enumerate_from 1 all)

-- # The exit status of a whole run.

-- whether the target was found and its file accepted
abbrev pub is_good : Verdict → Bool
is_good (Good role length) = true
is_good _ = false

-- 2 if the cycle stopped, else 0 if all targets are accepted, else 1
abbrev pub status_of : End → Bool → ℕ
status_of Ready true = 0
status_of Ready false = 1
status_of (Stopped step fault) all_good = 2

-- one of these
abbrev pub IsStatus : ℕ → Type 0
IsStatus status = status ≤ 2

abbrev pub outcome_status : Outcome → ℕ
outcome_status o = status_of o.end (list_all is_good o.verdicts)

-- the same, where a target without a stored copy isn't accepted either
abbrev pub stored_outcome_status : Outcome → List Bool → ℕ
stored_outcome_status o stored =
    status_of o.end (list_all is_good o.verdicts && list_all (λ is_stored. is_stored) stored)

-- the status of the last outcome, or 0 if there is none
abbrev pub last_status : List Told → ℕ
last_status all =
    option_map_or (λ t. outcome_status t.outcome) (slice_get all (length all - 1)) 0
