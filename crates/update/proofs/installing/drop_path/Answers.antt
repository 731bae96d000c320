use Rattle.std.proofs.Common.{◌≡◌, ◌∙◌, Bool, true, false, if◌then◌else◌, cond, bytes_eq, refl}
use Rattle.std.proofs.lemmas.Map.Text.{btree_set_updates_text}
use Rattle.std.specs.BTreeSet.{contains_text}
use Rattle.update.proofs.installing.drop_path.Goals as goal

as_if : (b x y : Bool) → cond b x y ≡ (if b then x else y)
as_if true x y = refl
as_if false x y = refl

pub returns : goal.returns
returns c = λ other.
    btree_set_updates_text c.args.path.now c.args.set.now c.remove.new.self false c.remove.ensures.updates other
    ∙ as_if (bytes_eq c.args.path.now other) false (contains_text c.args.set.now other)
