use Rattle.std.proofs.Common.{rules, ◌≡◌, sym, ◌∙◌, None}
use Rattle.moment.proofs.Stamps.{no_moment, the_moment}
use Rattle.moment.proofs.Moment.read.Goals as goal

pub returns-in_err-stamp-clause-value : goal.returns-in_err-stamp-clause-value
returns-in_err-stamp-clause-value c = let none : c.from_residual.result ≡ None = search rules in none ∙ sym (no_moment _ (search rules))

pub returns-in_err-second-clause-value : goal.returns-in_err-second-clause-value
returns-in_err-second-clause-value c = let none : c.from_residual-in_err-second.result ≡ None = search rules in none ∙ sym (no_moment _ (search rules))

pub returns-in_err-day-clause-value : goal.returns-in_err-day-clause-value
returns-in_err-day-clause-value c = let none : c.from_residual-in_err-day.result ≡ None = search rules in none ∙ sym (no_moment _ (search rules))

pub returns-clause-value : goal.returns-clause-value
returns-clause-value c = sym (the_moment _ _ (search rules))
