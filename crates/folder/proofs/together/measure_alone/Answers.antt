use Rattle.std.proofs.Common.{◌≡◌, string_bytes, subst}
use Rattle.folder.specs.Measures.{measure_of}
use Rattle.folder.specs.Streams.{IsOpened}
use Rattle.folder.proofs.Laning.{known_by}
use Rattle.folder.proofs.together.measure_alone.Goals as goal

pub returns-in-Ok-of_reader-clause-done : goal.returns-in-Ok-of_reader-clause-done
returns-in-Ok-of_reader-clause-done g c = λ all.
    let content = g.O.Opener.content c.args.opener.now in
    let name = string_bytes c.args.job.name in
    let opened = subst (λ n. IsOpened (content n) (g.O.File.Read.remaining c.in-Ok.file)) c.as_str.ensures.value c.in-Ok.ensures in
    c.note.ensures.done content
    (record {
      some = c.in-Ok-of_reader.ensures.some;
      known = known_by (content name) _ (λ bytes. c.in-Ok-of_reader.measure ≡ measure_of c.args.job.need bytes) opened c.in-Ok-of_reader.ensures.known;
    })
    all
