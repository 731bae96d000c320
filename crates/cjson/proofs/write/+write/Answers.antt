use Rattle.std.proofs.Common.{◌≡◌, List, ℕ, ◌+◌, drop, [], ◌∷◌, ◌++◌, ◌&&◌, true, string_bytes, sym, ap, ◌∙◌, rules, append_assoc, IsUtf8, arith, codes}
use Rattle.std.specs.List.Sorted.{IsStrictlySortedBy}
use Rattle.std.specs.Map.{keys_of}
use Rattle.std.specs.String.{string_cmp}
use Rattle.serde_json.specs.View.{number_view}
use Rattle.cjson.specs.Tree.{view, items_view, members_view}
use Rattle.cjson.proofs.Views.{Entry}
use Rattle.cjson.specs.Canon.{text, quoted, comma_if, items_text, members_text, items_are_whole, members_are_whole, items_are_ordered, members_are_ordered, has_whole_numbers, is_ordered}
use Rattle.std.proofs.lemmas.Str.{IsUtf8-nil, IsUtf8-string_bytes}
use Rattle.std.proofs.lemmas.Grind.{common_steps}
use Rattle.cjson.proofs.Utf8.{ascii_then, IsUtf8-null, IsUtf8-after_boolean, IsUtf8-after_number, IsUtf8-quoted, IsUtf8-comma_if, IsUtf8-key, IsUtf8-then}
use Rattle.cjson.proofs.Order.{comes_before-at}
use Rattle.cjson.proofs.write.+write.Goals as goal

-- comma, key and colon, and then the value
one_member : (o o1 o2 c q t r : List ℕ) → o1 ≡ o ++ (c ++ (q ++ 58 ∷ [])) → o2 ≡ o1 ++ t → o2 ++ r ≡ o ++ (c ++ (q ++ 58 ∷ (t ++ r)))
one_member o o1 o2 c q t r e1 e2 = rw (e2, e1) (simp append_assoc)

-- comma, and then the item
one_item : (o o1 o2 c t r : List ℕ) → o1 ≡ o ++ c → o2 ≡ o1 ++ t → o2 ++ r ≡ o ++ (c ++ (t ++ r))
one_item o o1 o2 c t r e1 e2 = rw (e2, e1) (simp append_assoc)

pub write_members-loop-key-preserved : goal.write_members-loop-key-preserved
write_members-loop-key-preserved t c =
    let l = c.loop-key in
    let all = c.as_slice-key-items.result.now in
    let e : Entry = c.loop-key-item.result in
    let left = drop (l.key-index + 1) all in
    let step : drop l.key-index all ≡ e ∷ left = grind (arith, common_steps) in
    let sorted : IsStrictlySortedBy string_cmp (keys_of all) = rw c.as_slice-key-items.ensures.value c.as_slice-key-items.ensures.ordered in
    let before = comes_before-at l.key-index all e left step sorted in
    let key : c.write_key.new.out.items ≡ l.out.items ++ (comma_if l.later ++ (quoted (string_bytes e.0) ++ 58 ∷ [])) = search rules in
    let value : c.write.new.out.items ≡ c.write_key.new.out.items ++ text (view e.1) = search rules in
    let kept : IsUtf8 c.write_key.new.out.items → IsUtf8 c.write.new.out.items = search rules in
    let whole : has_whole_numbers (view e.1) ≡ true = search rules in
    let ordered : is_ordered (view e.1) ≡ true = search rules in (
      one_member _ _ _ (comma_if l.later) (quoted (string_bytes e.0)) (text (view e.1)) (members_text true (members_view left)) key value ∙ ap (λ es. l.out.items ++ members_text l.later (members_view es)) (sym step) ∙ l.invariant.0,
      ap (λ b. b && members_are_whole (members_view left)) (sym whole) ∙ ap (λ es. members_are_whole (members_view es)) (sym step) ∙ l.invariant.1,
      ap (λ b. b && members_are_ordered (members_view left)) (sym ordered) ∙ ap (λ b. b && (is_ordered (view e.1) && members_are_ordered (members_view left))) (sym before)
          ∙ ap (λ es. members_are_ordered (members_view es)) (sym step) ∙ l.invariant.2,
      l.invariant.3,
      λ h. kept (IsUtf8-then _ _ _ key (IsUtf8-key l.later (string_bytes e.0) (IsUtf8-string_bytes e.0)) (l.invariant.4 h)),
    )

-- ---- UTF-8

pub write-returns-in_ok-extend_from_slice-in-Null-clause-utf8 : goal.write-returns-in_ok-extend_from_slice-in-Null-clause-utf8
write-returns-in_ok-extend_from_slice-in-Null-clause-utf8 t c =
    λ h. IsUtf8-then c.args.out.now.items c.extend_from_slice.new.self.items (codes "null") c.in_ok-extend_from_slice-in-Null.ensures.items IsUtf8-null h

pub write-returns-in-Bool-clause-utf8 : goal.write-returns-in-Bool-clause-utf8
write-returns-in-Bool-clause-utf8 t c = IsUtf8-after_boolean c.write_bool.result c.in-Bool.b c.args.out.now.items c.write_bool.new.out.items c.write_bool.ensures.text

pub write-returns-in-Number-clause-utf8 : goal.write-returns-in-Number-clause-utf8
write-returns-in-Number-clause-utf8 t c =
    IsUtf8-after_number c.write_number.result (number_view c.in-Number.n) c.args.out.now.items c.write_number.new.out.items c.write_number.ensures.text c.write_number.ensures.whole

pub write-returns-in_ok-write_text-in-String-clause-utf8 : goal.write-returns-in_ok-write_text-in-String-clause-utf8
write-returns-in_ok-write_text-in-String-clause-utf8 t c =
    let written : c.write_text.new.out.items ≡ c.args.out.now.items ++ quoted (string_bytes c.in-String.s) = search rules in
    λ h. IsUtf8-then _ _ _ written (IsUtf8-quoted (string_bytes c.in-String.s) (IsUtf8-string_bytes c.in-String.s)) h

pub write_items-loop-item-preserved : goal.write_items-loop-item-preserved
write_items-loop-item-preserved t c =
    let l = c.loop-item in
    let all = c.deref-item-items.result.now in
    let item = c.item-item.result in
    let left = drop (l.item-index + 1) all in
    let step : drop l.item-index all ≡ item ∷ left = grind (arith, common_steps) in
    let comma : c.write_comma.new.out.items ≡ l.out.items ++ comma_if l.later = search rules in
    let value : c.write.new.out.items ≡ c.write_comma.new.out.items ++ text (view item) = search rules in
    let kept : IsUtf8 c.write_comma.new.out.items → IsUtf8 c.write.new.out.items = search rules in
    let whole : has_whole_numbers (view item) ≡ true = search rules in
    let ordered : is_ordered (view item) ≡ true = search rules in (
      one_item _ _ _ (comma_if l.later) (text (view item)) (items_text true (items_view left)) comma value ∙ ap (λ es. l.out.items ++ items_text l.later (items_view es)) (sym step) ∙ l.invariant.0,
      ap (λ b. b && items_are_whole (items_view left)) (sym whole) ∙ ap (λ es. items_are_whole (items_view es)) (sym step) ∙ l.invariant.1,
      ap (λ b. b && items_are_ordered (items_view left)) (sym ordered) ∙ ap (λ es. items_are_ordered (items_view es)) (sym step) ∙ l.invariant.2,
      λ h. kept (IsUtf8-then _ _ _ comma (IsUtf8-comma_if l.later) (l.invariant.3 h)),
    )

pub write_items-returns-clause-utf8 : goal.write_items-returns-clause-utf8
write_items-returns-clause-utf8 t c =
    λ h. IsUtf8-then _ _ _ c.in_ok-push-2.ensures.items (ascii_then _ [] (omega arith) IsUtf8-nil) (c.loop-item.invariant.3 (IsUtf8-then _ _ _ c.in_ok-push.ensures.items (ascii_then _ [] (omega arith) IsUtf8-nil) h))

pub write_members-returns-clause-utf8 : goal.write_members-returns-clause-utf8
write_members-returns-clause-utf8 t c =
    λ h. IsUtf8-then _ _ _ c.in_ok-push-2.ensures.items (ascii_then _ [] (omega arith) IsUtf8-nil) (c.loop-key.invariant.4 (IsUtf8-then _ _ _ c.in_ok-push.ensures.items (ascii_then _ [] (omega arith) IsUtf8-nil) h))
