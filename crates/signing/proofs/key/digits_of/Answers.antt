use Rattle.std.proofs.Common.{length, ap, ◌∙◌}
use Rattle.lms.proofs.Keys.{length-public}
use Rattle.signing.proofs.key.digits_of.Goals as goal

pub encoded-requires : goal.encoded-requires
encoded-requires c = ap length (c.as_slice.ensures ∙ c.bytes.ensures.same) ∙ length-public _ c.bytes.ensures.public
