use Rattle.std.proofs.Common.{◌≡◌, arith, length}
use Rattle.lms.proofs.Keys.{length-public}
use Rattle.leaves.proofs.Reading.{reads_text}
use Rattle.leaves.proofs.text.text_of.Goals as goal

pub returns : goal.returns
returns c = record {
  reads = reads_text c.args.public.now c.extend_from_slice-2.new.self.items c.args.n size c.ranges.n.fits
      (grind (arith, c.in_ok-extend_from_slice-2.ensures.items, c.in_ok-extend_from_slice.ensures.items, c.in_ok-text.ensures.items, c.bytes.ensures.same, c.to_be_bytes.ensures));
}
  where
    size : length c.args.public.now ≡ 56
    size = length-public c.args.public.now c.bytes.ensures.public
