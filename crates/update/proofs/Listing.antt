-- The files that are absent, by the names of folders.
use Rattle.std.proofs.Common.{◌≡◌, ℕ, List, Bool, true, is_some, Global, ap, ◌∙◌}
use Rattle.std.specs.Bool.{⊤}
use Rattle.std.specs.Prelude.{String}
use Rattle.std.specs.BTreeMap.{BTreeMap}
use Rattle.std.specs.List.{list_any}
use Rattle.std.specs.Str.{bytes_eq}
use Rattle.std.proofs.Math.Path.{fun_ext}
use Rattle.cycle.specs.Workflow.{Course, course}
use Rattle.lookups.specs.Lookups.{IsPart, IsSettledOn, files_read}
use Rattle.lookups.specs.declared.metadata.Metadata.{Metadata}
use Rattle.lookups.proofs.Settling.{course_on, read_names}
use Rattle.needs.specs.Needs.{is_in, needs}
use Rattle.needs.specs.declared.need.Need.{Need}
use Rattle.update.specs.Fetching.{AreAbsentOn}
use Rattle.update.specs.Runs.{Request}
use Rattle.update.specs.World.{Mirror}

-- the needs of a course, with a map of the names of the target files
pub absent_on : (m : Mirror) (r : Request) (o : Metadata) (c : Course) (t : BTreeMap (String Global) ⊤) (names : List (List ℕ)) (all : List Need)
    → IsPart m.metadata o → IsSettledOn r o c → m.targets.lists names ≡ true → ((name : List ℕ) → is_in t name ≡ list_any (λ other. bytes_eq other name) names)
    → all ≡ needs r.trusted.root.reading c (is_in o.repo.metadata) (is_in t) → AreAbsentOn m r all
absent_on m r o c t names all part settled listed named is =
    let on = course_on m.metadata o part r c settled in
    let here : Course = course r (files_read on.seen) in
    let there : List ℕ → Bool = λ name. is_some (files_read on.seen name) in
    record {
      names = names;
      listed = listed;
      course = c;
      of_request = on;
      needed = is
          ∙ ap (λ (k : Course). needs r.trusted.root.reading k (is_in o.repo.metadata) (is_in t)) on.on_read
          ∙ ap (λ n. needs r.trusted.root.reading here n (is_in t)) (read_names m.metadata o part)
          ∙ ap (λ n. needs r.trusted.root.reading here there n) (fun_ext named);
    }
