-- The bound on what is read in advance.
use Rattle.std.specs.Prelude.{ℕ, List, length}
use Rattle.std.specs.List.{sum_by}
use Rattle.std.specs.Option.{option_map_or}
use Rattle.examine.specs.Checks.{Files}
use Rattle.plan.specs.declared.document.Document.{Document}

-- number of bytes of a document's file
abbrev pub bytes_of : Files → Document → ℕ
bytes_of files document = option_map_or length (files document.file) 0

abbrev pub bytes_read : Files → List Document → ℕ
bytes_read files documents = sum_by (bytes_of files) documents
