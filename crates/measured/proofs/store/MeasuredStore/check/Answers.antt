use Rattle.std.proofs.Common.{◌∙◌, rules, string_bytes}
use Rattle.measured.proofs.Checking.{checked}
use Rattle.measured.proofs.store.MeasuredStore.check.Goals as goal

pub returns-in_default : goal.returns-in_default
returns-in_default = search rules

pub returns : goal.returns
returns g c = record {
  checked = λ checks gives.
      checked c.args.self.now.known.now checks c.args.consistent c.args.target.now (string_bytes c.in-Some.there.name) c.in-Some-wanted.wanted c.in-Some-measure.measure gives
      (search rules) (search rules) (search rules) (search rules) ∙ (search rules);
}
