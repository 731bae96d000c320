use Rattle.std.proofs.Common.{arith}
use Rattle.folder.proofs.Streaming.{none_read, one_read}
use Rattle.folder.proofs.stream.read_most.Goals as goal
use Rattle.folder.proofs.stream.read_most.Goals.{in-Ok, in-Err+else-ne}

pub reads-preserved : goal.reads-preserved
reads-preserved g c =
    let was = c.reads.invariant in
    let room = c.reads.auto.room in
    let buf = c.read.auto.buf in
    let within = c.requires in
    elim c.match-read.branch [
      | in-Ok w ↦
          let bound = w.in-Ok.ensures.bound.0 in
          record {
            within = omega (arith, w.count-is, bound, buf, was.within, room, within);
            taken = rw w.count-is (one_read _ _ _ c.reads.room c.read.new.buf c.reads.count _ w.in-Ok.n (omega (arith, was.within, room, within)) bound was.taken w.in-Ok.ensures.bytes.0);
          }
      | in-Err+else-ne w ↦
          record {
            within = omega (arith, w.count-is, was.within);
            taken = rw w.count-is (none_read _ _ _ c.reads.room c.read.new.buf c.reads.count _ (omega (arith, was.within, room, within)) was.taken w.in-Err.ensures.bytes);
          }
    ]
