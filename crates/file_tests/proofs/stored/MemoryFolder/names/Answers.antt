use Rattle.file_tests.proofs.Names.{copied_names}
use Rattle.file_tests.proofs.stored.MemoryFolder.names.Goals as goal

pub returns-clause-given : goal.returns-clause-given
returns-clause-given c =
    rw (← c.turn.ensures.same_names) (copied_names c.turn.new.self.names.items c.in_ok-clone.field-0.items c.in_ok-clone.ensures.cases.0)
