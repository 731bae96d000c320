use Rattle.std.proofs.Common.{◌≡◌, ◌∙◌, ◌++◌, ◌∷◌, [], List, ℕ, ap, subst, true, false}
use Rattle.std.specs.List.Sorted.{IsPartitionPoint}
use Rattle.update.specs.Stored.{is_before, lent_texts, begins_at}
use Rattle.update.proofs.Search.{is_found}
use Rattle.update.proofs.placing.is_folder_of_one.Goals as goal

pub returns : goal.returns
returns c =
    let start : List ℕ = c.args.path.now ++ 47 ∷ [] in
    let is : c.as_str.result.now ≡ start = c.as_str.ensures.value ∙ c.in_ok-folder.ensures.ok in
    let again : c.as_str-2.result.now ≡ start = c.as_str-2.ensures.value ∙ c.in_ok-folder.ensures.ok in
    let first = subst (λ z. IsPartitionPoint (λ t. is_before z t.now ≡ true) (λ t. is_before z t.now ≡ false) c.args.paths.now c.first_from-first.result) is c.first_from-first.ensures.first in
    record {
      test = c.begins_with.ensures ∙ ap (λ z. begins_at z (lent_texts c.args.paths.now) c.first_from-first.result) again
          ∙ is_found start c.args.paths.now c.first_from-first.result c.requires.sorted first;
    }
