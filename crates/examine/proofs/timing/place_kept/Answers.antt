use Rattle.std.proofs.Common.{◌∙◌, sym, ap, is_none, position}
use Rattle.examine.specs.Checks.{is_kept_by}
use Rattle.examine.proofs.Places.{kept_behind, kept_before}
use Rattle.examine.proofs.timing.place_kept.Goals as goal

pub returns-in-Some-clause-none : goal.returns-in-Some-clause-none
returns-in-Some-clause-none c = sym (kept_behind c.args.from c.in-Some.place c.args.files.now c.args.old.now (ap (position (is_kept_by c.args.old.now)) (sym c.split_at.ensures.back) ∙ sym c.first_kept.ensures ∙ c.in-Some.is))

pub returns-in-None-clause-none : goal.returns-in-None-clause-none
returns-in-None-clause-none c = ap is_none (c.first_kept-in-None.ensures ∙ ap (position (is_kept_by c.args.old.now)) c.split_at.ensures.front)
    ∙ sym (kept_before c.args.from c.args.files.now c.args.old.now (ap (position (is_kept_by c.args.old.now)) (sym c.split_at.ensures.back) ∙ sym c.first_kept.ensures ∙ c.in-None.is))
