use Rattle.std.proofs.Common.{◌∙◌, subst, sym}
use Rattle.std.proofs.lemmas.Slice.Eq.{bytes_eq-Decides}
use Rattle.std.specs.Io.KnownBytes.{Consumes}
use Rattle.folder.proofs.Streaming.{written}
use Rattle.copies.proofs.standing.has_next.Goals as goal

pub returns : goal.returns
returns g c =
    let filled = c.as_slice.ensures.value ∙ written _ c.read_exact.new.buf c.in_ok-room.room.items (c.read_exact.auto.buf ∙ c.as_mut_slice.ensures.len) in
    record {
      same = λ is. subst (Consumes (g.R.Read.remaining c.args.reader.now) (g.R.Read.remaining c.read_exact.new.self))
          (sym filled ∙ (bytes_eq-Decides c.as_slice.result.now c.args.piece.now).0 (sym c.eq.ensures ∙ is)) c.in_ok-read_exact.ensures.bytes;
    }
