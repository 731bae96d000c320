use Rattle.std.proofs.Common.{◌≡◌, drop, is_some}
use Rattle.serde_json.specs.Find.{as_str}
use Rattle.cjson.specs.Tree.{members_view}
use Rattle.cjson.specs.Form.{all_members}
use Rattle.meta.proofs.hashes.has_only_texts.Given as goal

abbrev pub invariant-loop-value : goal.invariant-loop-value
invariant-loop-value l = all_members (λ value. is_some (as_str value)) (members_view l.members) ≡ all_members (λ value. is_some (as_str value)) (members_view (drop l.value-index l.members))
