-- Logs, one event more.
use Rattle.std.proofs.Common.{◌≡◌, ◌∙◌, ℕ, ◌+◌, ◌≤◌, List, [], ◌∷◌, ◌++◌, length, take, Option, Some, None, true, subst, sym, ap, inl, inr, refl, arith}
use Rattle.std.specs.Prelude.{Vec, Result, Ok, Err, OnErr}
use Rattle.std.specs.declared.alloc.Global.{Global}
use Rattle.std.proofs.lemmas.Bool.{or_cases, or_left, cases_lt}
use Rattle.std.proofs.lemmas.List.{take_all, take-append-le, length-append}
use Rattle.std.proofs.lemmas.List.Sums.{fold-append}
use Rattle.std.proofs.lemmas.Slice.Eq.{bytes_eq-Decides}
use Rattle.leaves.specs.Disk.{Left, Passes, HasNoMore, IsStoring, LeavesOnly}
use Rattle.leaves.specs.Log.{after, after_all, happens, is_possible}
use Rattle.leaves.specs.declared.log.Event.{Event}
use Rattle.leaves.specs.declared.log.Event.TheVariants.{Storing, Stored}
use Rattle.leaves.proofs.Passing.{goes_on}

pub after_more : (log : List Event) (e : Event) → after (log ++ e ∷ []) ≡ happens (after log) e
after_more log e = fold-append happens _ log (e ∷ [])

-- what a log has at its end
pub at_length : (log : List Event) → after (take (length log) log) ≡ after log
at_length log = ap after (take_all (length log) log (omega arith))

-- an event is noted
pub noted : {Step : Left → Left → Type 0} (log new : List Event) (e : Event) → new ≡ log ++ e ∷ []
    → Step (after log) (after log) → Step (after log) (happens (after log) e)
    → Passes (length log) (length new) (λ t. after (take t log)) (λ t. after (take t new)) Step
noted {Step} log new e is same step =
    let long : length new ≡ length log + 1 = ap length is ∙ length-append log (e ∷ []) in
    let early_same : (t : ℕ) → t ≤ length log → after (take t new) ≡ after (take t log) =
    λ t le. ap (λ l. after (take t l)) is ∙ ap after (take-append-le t log (e ∷ []) le) in
    record {
      later = omega (arith, long);
      past = λ t le. early_same t le;
      during = λ t from to. elim (cases_lt (length log) t) [
        | inl late ↦
            let end : after (take t new) ≡ happens (after log) e =
            ap after (take_all t new (omega (arith, long, late))) ∙ ap after is ∙ after_more log e in
            rw (at_length log, end) step
        | inr early ↦
            let here : t ≡ length log = omega (arith, early, from) in
            let end : after (take t new) ≡ after log =
            early_same t early ∙ ap after (take_all t log (omega (arith, here))) in
            rw (at_length log, end) same
      ];
    }

storing_refl : (text : List ℕ) (a : Left) → IsStoring text a a
storing_refl text a = record { files = λ f may. inl may; given = refl }

is_of : (text : List ℕ) (file : Option (List ℕ)) → is_possible text file ≡ true → file ≡ Some text
is_of text None may = absurd (cc)
is_of text (Some bytes) may = ap Some ((bytes_eq-Decides bytes text).0 may)

storing_step : (text : List ℕ) (a : Left) (v : Vec ℕ Global) → v.items ≡ text → IsStoring text a (happens a (Storing v))
storing_step text a v is = record {
  files = λ f may. elim (or_cases (a.may_leave f) (is_possible v.items f) may) [
    | inl was ↦ inl was
    | inr new ↦ inr (is_of v.items f new ∙ ap Some is)
  ];
  given = refl;
}

stored_step : (text : List ℕ) (a : Left) (v : Vec ℕ Global) → v.items ≡ text → IsStoring text a (happens a (Stored v))
stored_step text a v is = record { files = λ f may. inr (is_of v.items f may ∙ ap Some is); given = refl }

-- a text is noted before it is stored
pub storing : (text : List ℕ) (log new : List Event) (v : Vec ℕ Global) → v.items ≡ text → new ≡ log ++ Storing v ∷ []
    → Passes (length log) (length new) (λ t. after (take t log)) (λ t. after (take t new)) (IsStoring text)
storing text log new v is e = noted log new (Storing v) e (storing_refl text (after log)) (storing_step text (after log) v is)

-- and once it is
pub stored : (text : List ℕ) (log mid new : List Event) (v w : Vec ℕ Global) → v.items ≡ text → w.items ≡ text
    → mid ≡ log ++ Storing v ∷ [] → new ≡ mid ++ Stored w ∷ []
    → Passes (length log) (length new) (λ t. after (take t log)) (λ t. after (take t new)) (IsStoring text)
stored text log mid new v w is_v is_w e f =
    goes_on {A = IsStoring text} {B = IsStoring text} {C = IsStoring text} (length log) (length mid) (length new) (λ t. after (take t log)) (λ t. after (take t mid)) (λ t. after (take t new))
    (storing text log mid v is_v e)
    (noted mid new (Stored w) f (storing_refl text (after mid)) (stored_step text (after mid) w is_w))
    (λ b s. s)
    (λ c first then. record {
      files = λ file may. elim (then.files file may) [ inl was ↦ first.files file was | inr new ↦ inr new ];
      given = then.given ∙ first.given;
    })

pub only_stored : (text : List ℕ) (mid new : List Event) (w : Vec ℕ Global) → w.items ≡ text → new ≡ mid ++ Stored w ∷ []
    → LeavesOnly (after (take (length new) new)) text
only_stored text mid new w is f file may =
    let end : after (take (length new) new) ≡ happens (after mid) (Stored w) = at_length new ∙ ap after f ∙ after_more mid (Stored w) in
    is_of w.items file (subst (λ a. a.may_leave file ≡ true) end may) ∙ ap Some is

-- what was possible is, once a text is noted
pub still_possible : (log new : List Event) (v : Vec ℕ Global) → new ≡ log ++ Storing v ∷ [] → HasNoMore (after_all new) (after_all log)
still_possible log new v is file may =
    let end : after_all new ≡ happens (after log) (Storing v) = at_length new ∙ ap after is ∙ after_more log (Storing v) in
    let was : (after log).may_leave file ≡ true = subst (λ a. a.may_leave file ≡ true) (at_length log) may in
    subst (λ a. a.may_leave file ≡ true) (sym end) (or_left ((after log).may_leave file) (is_possible v.items file) was)

-- what holds in any case holds after an error
pub on_err : {T E P : Type 0} (r : Result T E) → P → OnErr r P
on_err (Ok x) holds = tt
on_err (Err e) holds = holds
