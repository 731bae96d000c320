use Rattle.replay.proofs.Places.{opened_in, opened_result, set_cause_in, set_same}
use Rattle.replay.proofs.replaying.open_at.Goals as goal

pub returns-clause-opened : goal.returns-clause-opened
returns-clause-opened g c = opened_in _ c.args.folders.now.items c.args.k c.index_mut.result.now c.open.result c.requires.place c.index_mut.ensures.value
    (opened_result _ c.open.result c.open.ensures.metadata c.open.ensures.names)

pub returns-clause-same : goal.returns-clause-same
returns-clause-same g c = set_same _ c.args.folders.now.items c.args.k c.index_mut.result.now c.open.new.self c.index_mut.ensures.value c.open.ensures.same

pub returns-clause-cause : goal.returns-clause-cause
returns-clause-cause g c = set_cause_in _ c.args.folders.now.items c.args.k c.index_mut.result.now c.open.new.self c.open.result c.requires.place c.index_mut.ensures.value c.open.ensures.cause
