use Rattle.paths.proofs.Inverse.{has_targets}
use Rattle.paths.proofs.names.paths_of_names.Goals as goal

pub returns-clause-targets : goal.returns-clause-targets
returns-clause-targets c = has_targets _ _ _ _ c.in_ok-paths.ensures c.once_in_order.ensures
