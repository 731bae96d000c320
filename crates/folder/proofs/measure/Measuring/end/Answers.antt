use Rattle.std.proofs.Common.{◌∙◌}
use Rattle.folder.proofs.Taking.{digest_is, whole}
use Rattle.folder.proofs.measure.Measuring.end.Goals as goal

pub returns : goal.returns
returns c = record {
  measure = λ bytes has. whole _ bytes _ _ _ has.length
      (digest_is _ _ _ (c.digest_if.ensures.wanted ∙ has.has_sha256) (c.digest_if.ensures.digest _ has.in_sha256))
      (digest_is _ _ _ (c.digest_if-2.ensures.wanted ∙ has.has_sha512) (c.digest_if-2.ensures.digest _ has.in_sha512));
}
