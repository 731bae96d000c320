use Rattle.std.proofs.Common.{◌≡◌, drop}
use Rattle.std.specs.List.{list_all}
use Rattle.embed.proofs.fetching.are_optional.Given as goal

-- the files so far are optional
abbrev pub invariant-loop-need : goal.invariant-loop-need
invariant-loop-need l =
    list_all (λ n. n.optional) (drop l.need-index l.all) ≡ list_all (λ n. n.optional) l.all
