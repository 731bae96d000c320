use Rattle.std.proofs.Common.{sym, ◌∙◌}
use Rattle.lms.proofs.Keys.{is_public-kind}
use Rattle.signing.proofs.Lengths.{last_kind}
use Rattle.signing.proofs.kind.kind_of.Goals as goal

pub returns : goal.returns
returns c = record {
  kind = rw c.kind-2.ensures (last_kind _ _ (sym (is_public-kind _) ∙ c.bytes-is_public.ensures.public) c.signature_len-length.ensures.length c.if-length-eq2348.false c.if-length-eq2508.false c.if-length-eq2668.false c.if-length-eq1292.false c.if-length-eq1452.false);
}
