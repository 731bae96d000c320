use Rattle.std.proofs.Common.{◌≡◌, drop}
use Rattle.std.specs.List.{list_all}
use Rattle.embed.specs.Outcomes.{is_good}
use Rattle.embed.proofs.verifying.are_good.Given as goal

-- the verdicts so far are good
abbrev pub invariant-loop-verdict : goal.invariant-loop-verdict
invariant-loop-verdict l =
    list_all is_good (drop l.verdict-index l.verdicts) ≡ list_all is_good l.verdicts
