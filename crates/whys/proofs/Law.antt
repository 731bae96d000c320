-- The lines are those of a reason of the fault.
use Rattle.std.proofs.Common.{◌≡◌, ◌∙◌, ℕ, List, [], Option, Some, None, option_map, Result, Ok, Err, IfOk, String, string_bytes, ap, sym}
use Rattle.std.proofs.lemmas.Option.{none-some, same_Some}
use Rattle.meta.specs.declared.fault.Fault.{Fault}
use Rattle.moment.specs.Moment.{Moment}
use Rattle.examine.specs.Checks.{Files}
use Rattle.rolechain.specs.Advance.{State, advanced, stops}
use Rattle.rolechain.specs.declared.end.Step.{Step}
use Rattle.reasons.specs.Reasons.{fault_of}
use Rattle.reasons.specs.declared.reason.Reason.{Reason}
use Rattle.whys.specs.Places.{stop_place}
use Rattle.whys.specs.Whys.{IsStopWhy, IsWhy, IsWhyIf, lines_of}
use Rattle.whys.specs.declared.place.Place.{Place}

pub why_of : (p : Place) (o : Option Reason) (f : Fault) (text : List ℕ) → option_map fault_of o ≡ Some f → text ≡ lines_of p o → IsWhy p f text
why_of p (Some w) f text h is = record { reason = w; fault = same_Some (fault_of w) f h; lines = is }
why_of p None f text h is = absurd (none-some f h)

pub why_if : (p : Place) (o : Option Reason) (f : Option Fault) (text : List ℕ) → option_map fault_of o ≡ f → text ≡ lines_of p o → IsWhyIf p f text
why_if p o (Some f) text h is = why_of p o f text h is
why_if p None None text h is = is
why_if p (Some w) None text h is = absurd (none-some (fault_of w) (sym h))

-- ---- of what a call returns

pub why_told : {Y E : Type 0} (r : Result (String Y) E) (p q : Place) (o : Option Reason) (f : Fault) → IfOk r (λ text. string_bytes text ≡ lines_of p o) → p ≡ q
    → option_map fault_of o ≡ Some f → IfOk r (λ text. IsWhy q f (string_bytes text))
why_told (Ok s) p q o f h same told = why_of q o f (string_bytes s) told (h ∙ ap (λ p. lines_of p o) same)
why_told (Err e) p q o f h same told = tt

pub why_told_if : {Y E : Type 0} (r : Result (String Y) E) (p q : Place) (o : Option Reason) (f : Option Fault) → IfOk r (λ text. string_bytes text ≡ lines_of p o) → p ≡ q
    → option_map fault_of o ≡ f → IfOk r (λ text. IsWhyIf q f (string_bytes text))
why_told_if (Ok s) p q o f h same told = why_if q o f (string_bytes s) told (h ∙ ap (λ p. lines_of p o) same)
why_told_if (Err e) p q o f h same told = tt

-- of each state that such a cycle may have begun with
pub stop_why : {Y E : Type 0} (r : Result (String Y) E) (files : Files) (now : Moment) (s : State) (at : Step) (f : Fault)
    → ((from : State) → advanced files now from ≡ stops s at f → IfOk r (λ text. IsWhy (stop_place files s at) f (string_bytes text)))
    → IfOk r (λ text. IsStopWhy files now s at f (string_bytes text))
stop_why (Ok text) files now s at f told = told
stop_why (Err e) files now s at f told = tt
