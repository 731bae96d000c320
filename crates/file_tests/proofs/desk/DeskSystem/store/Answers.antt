use Rattle.std.proofs.Common.{◌≡◌, ◌≢◌, ◌∙◌, ◌||◌, ℕ, List, Bool, true, false, Result, Ok, Err, OnErr, Some, bytes_eq, ap, cond, refl, string_bytes, sym}
use Rattle.std.proofs.lemmas.Map.Text.{btree_map_updates_text}
use Rattle.std.specs.BTreeMap.{get_by_text}
use Rattle.std.specs.BTreeSet.{contains_text}
use Rattle.std.specs.Option.{option_map_or}
use Rattle.file_tests.proofs.Apart.{on_err, other_text}
use Rattle.file_tests.proofs.desk.DeskSystem.store.Goals as goal

pub returns-clause-others : goal.returns-clause-others
returns-clause-others c = λ other held isnt.
    let same : string_bytes c.in_ok-name.name ≡ c.args.path.now = c.in_ok-name.ensures.ok in
    ap (λ o. contains_text c.args.self.now.installed other || option_map_or (λ v. bytes_eq v.items held) o false)
    (btree_map_updates_text (string_bytes c.in_ok-name.name) c.args.self.now.files c.insert.new.self (Some c.in_ok-bytes.bytes) c.in_ok-insert.ensures.updates other
    ∙ ap (λ b. cond b (Some c.in_ok-bytes.bytes) (get_by_text c.args.self.now.files other)) (ap (λ p. bytes_eq p other) same ∙ other_text c.args.path.now other isnt))
