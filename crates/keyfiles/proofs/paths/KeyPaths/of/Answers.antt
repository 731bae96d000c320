use Rattle.keyfiles.proofs.paths.KeyPaths.of.Goals as goal

pub returns-clause-new : goal.returns-clause-new
returns-clause-new c = c.in_ok-format-2.ensures.ok
