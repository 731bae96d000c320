-- The lines that name the files to fetch.
use Rattle.std.specs.Prelude.{Bool, true, false, if◌then◌else◌, List, [], ◌∷◌, flat_map, codes, decimal, ℕ, Option, Some, None}
use Rattle.failure.specs.Failures.{line}
use Rattle.needs.specs.declared.need.Need.{Need}
use Rattle.needs.specs.declared.need.Place.{Place}
use Rattle.needs.specs.declared.need.Place.TheVariants.{Metadata, Targets}
use Rattle.inout.specs.Quoted.{quoted_text}

-- whether the file may be absent for good
abbrev pub need_word : Bool → List ℕ
need_word true = codes "maybe"
need_word false = codes "need"

-- `need NAME MOST`, or `maybe NAME MOST`
abbrev pub need_text : Need → List ℕ
need_text n = line (need_word n.optional ∷ quoted_text n.name ∷ decimal n.most ∷ [])

abbrev pub is_same_place : Place → Place → Bool
is_same_place Metadata Metadata = true
is_same_place Targets Targets = true
is_same_place Metadata Targets = false
is_same_place Targets Metadata = false

-- of one folder alone, if one is named
abbrev pub is_of : Option Place → Need → Bool
is_of None n = true
is_of (Some place) n = is_same_place place n.place

abbrev pub line_of : Option Place → Need → List ℕ
line_of only n = if is_of only n then need_text n else []

-- a line for each file, in order
abbrev pub needs_text : Option Place → List Need → List ℕ
needs_text only all = flat_map (line_of only) all
