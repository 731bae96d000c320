-- Folders between the steps of a run, for the contracts of its private functions.
use Rattle.std.specs.Bool.{⊤}
use Rattle.failure.specs.declared.failure.Failure.{Failure}
use Rattle.failure.specs.declared.failure.Failure.TheVariants.{Folder, Memory}
use Rattle.folder.specs.Folders.{Giving, HasFailed, IsSameFolder}
use Rattle.update.specs.World.{Mirror}

-- both folders of a repository are what they were
pub record IsSame (old new : Mirror) : Type 0 where
  pub metadata : IsSameFolder old.metadata new.metadata
  pub targets : IsSameFolder old.targets new.targets

-- why a course isn't ended by a folder of target files
abbrev pub IsCauseToEnd : Giving → Giving → Failure → Type 0
IsCauseToEnd old new Folder = HasFailed old new
IsCauseToEnd old new Memory = ⊤
IsCauseToEnd old new _ = ⊥
