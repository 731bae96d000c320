use Rattle.std.proofs.Common.{◌∙◌, Some, ap, rules, string_bytes}
use Rattle.measured.proofs.Finding.{found, named, none}
use Rattle.measured.proofs.known.Known.found.Goals as goal

pub returns-in_default : goal.returns-in_default
returns-in_default c = record { found = λ s known. none c.args.self.now c.args.consistent c.args.target.now (search rules) s known }

pub returns : goal.returns
returns c = record {
  found = λ s known.
      ap (λ m. Some (named (string_bytes c.in-Some.there.name) m)) c.listed_of.ensures
      ∙ found c.args.self.now c.args.consistent c.args.target.now (string_bytes c.in-Some.there.name) c.in-Some-wanted.wanted c.in-Some-measure.measure
      (search rules) (search rules) (search rules) (search rules) s known;
}
