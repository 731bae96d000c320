use Rattle.std.proofs.Common.{ap, sym, ◌∙◌, subst}
use Rattle.needs.specs.Glue.{Puts, key}
use Rattle.needs.specs.Needs.{is_in, is_needed}
use Rattle.needs.proofs.Lists.{grows, one_more, stays}
use Rattle.needs.proofs.once.note_need.Goals as goal

pub returns-then-contains_key-clause-noted : goal.returns-then-contains_key-clause-noted
returns-then-contains_key-clause-noted c =
    let is = c.as_str-2.ensures.value ∙ c.in_ok-key.ensures ∙ ap (key c.args.need.optional) c.as_str.ensures.value in
    stays c.args.once.now c.args.need c.requires
    (ap (is_in c.args.once.now.keys) (sym is) ∙ sym c.contains_key.ensures ∙ c.if-contains_key.true)

pub returns-clause-noted : goal.returns-clause-noted
returns-clause-noted c =
    let is = c.as_str-2.ensures.value ∙ c.in_ok-key.ensures ∙ ap (key c.args.need.optional) c.as_str.ensures.value in
    c.in_ok-push.ensures.items
    ∙ grows c.args.once.now c.args.need c.requires
    (ap (is_in c.args.once.now.keys) (sym is) ∙ sym c.contains_key.ensures ∙ c.if-contains_key.false)

pub returns-clause-once : goal.returns-clause-once
returns-clause-once c optional q =
    let is = c.in_ok-key.ensures ∙ ap (key c.args.need.optional) c.as_str.ensures.value in
    one_more c.args.once.now c.args.need c.requires c.put.new.names
    (subst (λ name. Puts name c.args.once.now.keys c.put.new.names) is c.in_ok-put.ensures) optional q
    ∙ ap (λ needs. is_needed needs optional q) (sym c.in_ok-push.ensures.items)
