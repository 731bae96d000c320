-- What keeps a file from being put at a path.
use Rattle.std.specs.Prelude.{ℕ, List, Bool, true, false}
use Rattle.std.specs.declared.io.ErrorKind.{ErrorKind}
use Rattle.std.specs.declared.io.ErrorKind.TheVariants.{AlreadyExists, CrossesDevices, DirectoryNotEmpty, FilesystemLoop, InvalidFilename, InvalidInput, IsADirectory, NotADirectory, TooManyLinks}

-- The error is that of the path, and not one of the whole system: a folder is there, or what should
-- be a folder is none; it is on another device; or its name is too long or malformed.
abbrev pub is_of_path : ErrorKind → Bool
is_of_path AlreadyExists = true
is_of_path CrossesDevices = true
is_of_path DirectoryNotEmpty = true
is_of_path FilesystemLoop = true
is_of_path InvalidFilename = true
is_of_path InvalidInput = true
is_of_path IsADirectory = true
is_of_path NotADirectory = true
is_of_path TooManyLinks = true
is_of_path _ = false

-- Which path no file can be put at, and for which path a call may fail, whatever the cause but that
-- it is out of memory.
pub record Obstacles : Type 0 where
  pub blocks : List ℕ → Bool
  pub fails : List ℕ → Bool
