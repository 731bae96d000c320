-- The data that a `Tree` stands for.
use Rattle.std.specs.Prelude.{List, map, String, string_bytes}
use Rattle.std.specs.declared.alloc.Global.{Global}
use Rattle.serde_json.specs.Data.{Data, null, boolean, number, string, array, object, Items, Members}
use Rattle.serde_json.specs.View.{number_view, items_of, members_of}
use Rattle.cjson.specs.declared.tree.Tree.{Tree, fold-Tree}
use Rattle.cjson.specs.declared.tree.Tree.TheOpen.{Tree-F}

-- one level, with each tree inside already seen as its data
abbrev pub view_step : Tree-F Data → Data
view_step Tree-F.Null = null
view_step (Tree-F.Bool b) = boolean b
view_step (Tree-F.Number x) = number (number_view x)
view_step (Tree-F.String s) = string (string_bytes s)
view_step (Tree-F.Array v) = array (items_of v.items)
view_step (Tree-F.Object m) = object (members_of m)

abbrev pub view : Tree → Data
view = fold-Tree Data view_step

abbrev pub items_view : List Tree → Items
items_view vs = items_of (map view vs)

abbrev pub members_view : List (String Global × Tree) → Members
members_view ms = members_of (map (λ m. (m.0, view m.1)) ms)
