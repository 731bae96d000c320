use Rattle.std.proofs.Common.{◌∙◌, [], inl, length}
use Rattle.std.proofs.lemmas.List.{length-map}
use Rattle.replay.specs.Cycles.{IsCause}
use Rattle.command.proofs.Doing.{cause_of, held_of, out_of_memory, replayed_of}
use Rattle.command.proofs.folders.replay_in.Goals as goal

pub returns-in-Err-clause-cause : goal.returns-in-Err-clause-cause
returns-in-Err-clause-cause g c = out_of_memory c.from.result (λ w v f. IsCause c.args.cycles.now w v f) (g.W.Write.contents c.args.out) (g.W.Write.contents c.args.out) c.from.ensures (λ w v. inl tt)

pub returns-clause-replayed : goal.returns-clause-replayed
returns-clause-replayed g c =
    let h = held_of c.new.result.locked c.new.result.stored in
    let k = held_of c.replay-done.new.host.system.locked c.replay-done.new.host.system.stored in
    replayed_of c.replay-done.result c.args.cycles.now (length c.args.repositories.now) h k _ [] (g.W.Write.contents c.args.out) (g.W.Write.contents c.replay-done.new.host.out)
    (length-map c.in-Ok.folders.items _ ∙ c.in-Ok.ensures.each) c.replay-done.ensures.replayed

pub returns-clause-cause : goal.returns-clause-cause
returns-clause-cause g c =
    let h = held_of c.new.result.locked c.new.result.stored in
    let k = held_of c.replay-done.new.host.system.locked c.replay-done.new.host.system.stored in
    cause_of c.replay-done.result (λ w v f. IsCause c.args.cycles.now w v f) h k _ _ (g.W.Write.contents c.args.out) (g.W.Write.contents c.replay-done.new.host.out) c.replay-done.ensures.cause
