use Rattle.std.proofs.Common.{◌≡◌, ◌∙◌, Bool, true, false, if◌then◌else◌, cond, bytes_eq, ap, refl, string_bytes}
use Rattle.std.proofs.lemmas.Map.Text.{btree_set_updates_text}
use Rattle.std.specs.BTreeSet.{contains_text}
use Rattle.update.proofs.installing.add_path.Goals as goal

as_if : (b x y : Bool) → cond b x y ≡ (if b then x else y)
as_if true x y = refl
as_if false x y = refl

pub returns : goal.returns
returns c = λ other.
    btree_set_updates_text (string_bytes c.in_ok-from_str.field-0) c.args.set.now c.insert.new.self true c.in_ok-insert.ensures.updates other
    ∙ ap (λ p. cond (bytes_eq p other) true (contains_text c.args.set.now other)) c.in_ok-from_str.ensures.ok
    ∙ as_if (bytes_eq c.args.path.now other) true (contains_text c.args.set.now other)
