-- Files that are kept in a map, by their names.
use Rattle.std.proofs.Common.{◌≡◌, ℕ, List, Option, None, Some, String, Vec, string_bytes, refl, sym, ap, ◌∙◌, BTreeMap, Global, Bool, true, false, cond, bytes_eq, option_map, ◌<◌, length, get_or, Result, Ok, Err, IsErrAnd, IfErr, All, inl, inr, is_some}
use Rattle.std.specs.BTreeMap.{get_by_text, Updates}
use Rattle.std.proofs.Math.Path.{fun_ext}
use Rattle.std.proofs.lemmas.Map.Text.{btree_map_updates_text}
use Rattle.std.specs.String.{string_cmp}
use Rattle.examine.specs.Checks.{file_in}
use Rattle.std.proofs.lemmas.List.Elements.{All-get_or}
use Rattle.needs.specs.Needs.{is_in}
use Rattle.embed.specs.Inputs.{given_by, held_in}
use Rattle.embed.specs.Jobs.{Files, Givens, with_file, IsNoText}
use Rattle.embed.specs.Outcomes.{has_name}
use Rattle.embed.specs.declared.fault.JobFault.{JobFault}
use Rattle.embed.specs.declared.held.Held.{Held}
use Rattle.embed.specs.declared.job.File.{File}

-- what is found after a value is put by a test
found : {Y : Type 0} (is_it same : Bool) (value : Vec ℕ Y) (bytes : List ℕ) (old : Option (Vec ℕ Y)) → is_it ≡ same → value.items ≡ bytes
    → option_map (λ v. v.items) (cond is_it (Some value) old) ≡ cond same (Some bytes) (option_map (λ v. v.items) old)
found true same value bytes old e holds = rw (sym e, holds) refl
found false same value bytes old e holds = rw (sym e) refl

-- a file more
pub one_more : (old new : BTreeMap (String Global) (Vec ℕ Global)) (name : String Global) (value : Vec ℕ Global) (f : File)
    → Updates string_cmp old new name (Some value) → string_bytes name ≡ f.name.now → value.items ≡ f.bytes.now
    → file_in new ≡ with_file (file_in old) f
one_more old new name value f updates named holds = fun_ext (λ q.
    ap (option_map (λ v. v.items)) (btree_map_updates_text (string_bytes name) old new (Some value) updates q)
    ∙ found _ _ value f.bytes.now (get_by_text old q) (ap (λ n. bytes_eq n q) named) holds)

-- if one isn't a text, they aren't all texts
pub not_all : {A T : Type 0} (P : A → Type 0) (xs : List A) (i : ℕ) (d : A) (f : JobFault) (r : Result T JobFault)
    → i < length xs → IsNoText (P (get_or xs i d)) f → IsErrAnd r (λ g. g ≡ f) → IfErr r (IsNoText (All P xs))
not_all P xs i d f (Ok x) low said given = tt
not_all P xs i d f (Err g) low (inl memory) same = inl (same ∙ memory)
not_all P xs i d f (Err g) low (inr name) same = inr (same ∙ name.0, λ all. name.1 (All-get_or P xs i d low all))

-- the names in a map
named : {A B : Type 0} (f : A → B) (o : Option A) → is_some o ≡ is_some (option_map f o)
named f None = refl
named f (Some x) = refl

pub in_files : (all : BTreeMap (String Global) (Vec ℕ Global)) (files : Files) → file_in all ≡ files → is_in all ≡ has_name files
in_files all files same = fun_ext (λ q. named (λ v. v.items) (get_by_text all q)) ∙ ap has_name same

pub in_held : (all : BTreeMap (String Global) Held) (given : Givens) → held_in all ≡ given → is_in all ≡ has_name given
in_held all given same = fun_ext (λ q. named given_by (get_by_text all q)) ∙ ap has_name same
