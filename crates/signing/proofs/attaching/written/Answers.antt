use Rattle.signing.proofs.Files.{written}
use Rattle.signing.proofs.attaching.written.Goals as goal

pub returns : goal.returns
returns c = record {
  file = written c.to_vec.result _ _ _ c.in_ok-file.ensures.file c.requires.object c.requires.depth c.to_vec.ensures.utf8 c.to_vec.ensures.reads_back;
}
