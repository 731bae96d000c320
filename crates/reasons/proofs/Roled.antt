-- The reason of a refused role is of the fault with which a search ends there.
use Rattle.std.proofs.Common.{◌≡◌, ◌∙◌, ℕ, List, Option, Some, None, Result, Ok, Err, option_map, refl, ap, sym, subst}
use Rattle.std.specs.Prelude.{⊤}
use Rattle.cjson.specs.Document.{◌>>=◌}
use Rattle.moment.specs.Moment.{Moment}
use Rattle.meta.specs.Metadata.{Root, Snapshot, Targets}
use Rattle.meta.specs.Content.{Part}
use Rattle.meta.specs.declared.fault.Fault.{Fault}
use Rattle.examine.specs.Checks.{Files, targets_part}
use Rattle.rolechain.specs.Advance.{due_targets}
use Rattle.reasons.specs.Reasons.{By, fault_in, fault_of, plain, reason_in, targets_check}
use Rattle.reasons.specs.Stops.{role_stop}
use Rattle.reasons.specs.declared.reason.Reason.{Reason}
use Rattle.reasons.proofs.Plain.{targets-plain}

same-fault : (r : Result (Part Targets) Reason) → option_map fault_of (reason_in (r >>= λ p. Ok tt)) ≡ fault_in (plain r)
same-fault (Ok p) = refl
same-fault (Err w) = refl

pub role_told : (files : Files) (now : Moment) (top : Root) (snap : Snapshot) (name : List ℕ) (by : By)
    → option_map fault_of (reason_in (role_stop files now top snap name by)) ≡ fault_in (targets_part (due_targets top snap name by.ring by.role) files now)
role_told files now top snap name by =
    same-fault (targets_check (due_targets top snap name by.ring by.role) by.keys files now) ∙ ap fault_in (targets-plain (due_targets top snap name by.ring by.role) by.keys files now)
