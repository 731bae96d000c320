use Rattle.std.proofs.Common.{ap, sym, ◌∙◌, bytes_eq}
use Rattle.std.specs.List.{list_any}
use Rattle.std.specs.FinSet as set
use Rattle.keys.proofs.Sets.{contains_values}
use Rattle.keys.proofs.signers.Signers.has.Goals as goal

pub returns : goal.returns
returns c = record {
  value =
      c.is_among.ensures
      ∙ ap (list_any (bytes_eq c.args.public.now)) c.deref.ensures.value
      ∙ sym (contains_values _ _)
      ∙ ap (λ s. set.contains s c.args.public.now) c.self.view_is;
}
