-- The names of members, as the logic holds them.
use base.Stored.{Coded}
use denote.RattleType.{RattleType}
use Rattle.std.specs.Prelude.{ℕ, List, String, string_bytes, Option}
use Rattle.std.specs.BTreeMap.{is_at}
use Rattle.std.specs.Cmp.Lexicographic.{slice_cmp}
use Rattle.std.specs.Map.{lookup}
use Rattle.std.specs.Ordering.{nat_cmp}
use Rattle.std.specs.declared.alloc.Global.{Global}
use Rattle.std.specs.contracts.alloc.Global as heap
use Rattle.std.specs.contracts.string.String as text
use Rattle.std.specs.contracts.impls.GlobalAllocator.TheImpl.{ghosts}

abbrev pub name_row : RattleType
name_row = text.the_row heap.the_row ghosts

abbrev pub name_code : Coded (String Global)
name_code = name_row.coded

-- the member of that name
abbrev pub named : {X : Type 0} → List ℕ → List (String Global × X) → Option X
named name es = lookup (is_at (λ k. slice_cmp nat_cmp name (string_bytes k))) es
