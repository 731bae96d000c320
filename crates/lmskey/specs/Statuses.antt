-- Which exit status a run ends with.
use Rattle.std.specs.Prelude.{Bool, true, false}
use Rattle.leaves.specs.declared.fault.LeavesFault.{LeavesFault}
use Rattle.leaves.specs.declared.fault.LeavesFault.TheVariants as fault
use Rattle.lmskey.specs.declared.fault.RunFault.{RunFault}
use Rattle.lmskey.specs.declared.fault.RunFault.TheVariants.{Words, KeyFile, Exists, Tree, Leaves}

-- the leaves file is missing, there already or another key's, or has too few leaves left
abbrev pub is_of_leaves : LeavesFault → Bool
is_of_leaves fault.Missing = true
is_of_leaves fault.Exists = true
is_of_leaves fault.Foreign = true
is_of_leaves fault.Used = true
is_of_leaves _ = false

-- the leaves file keeps the key from signing
abbrev pub is_leaves : RunFault → Bool
is_leaves (Leaves f) = is_of_leaves f
is_leaves _ = false

-- it is a usage error, in the caller's arguments or files, and no system error
abbrev pub is_callers : RunFault → Bool
is_callers Words = true
is_callers KeyFile = true
is_callers Exists = true
is_callers Tree = true
is_callers (Leaves fault.Key) = true
is_callers _ = false
