use Rattle.std.proofs.Common.{◌∙◌}
use Rattle.leaves.proofs.Logs.{on_err, only_stored, still_possible, storing, stored}
use Rattle.leaves.proofs.log.LoggedDisk.store.Goals as goal

pub take_over-requires-clause-noted : goal.take_over-requires-clause-noted
take_over-requires-clause-noted g c = (
  c.args.self.now.log.items,
  (
    c.in_ok-to_vec.field-0,
    c.in_ok-to_vec.ensures.items_if_clones_equal (λ x y e. e),
    c.deref.ensures.value ∙ c.in_ok-push.ensures.items,
  ),
)

pub returns-in_err-take_over-clause-time : goal.returns-in_err-take_over-clause-time
returns-in_err-take_over-clause-time g c =
    storing c.args.text.now c.args.self.now.log.items c.push.new.self.items c.in_ok-to_vec.field-0
    (c.in_ok-to_vec.ensures.items_if_clones_equal (λ x y e. e)) c.in_ok-push.ensures.items

pub returns-in_err-flush_folder-clause-time : goal.returns-in_err-flush_folder-clause-time
returns-in_err-flush_folder-clause-time g c =
    storing c.args.text.now c.args.self.now.log.items c.push.new.self.items c.in_ok-to_vec.field-0
    (c.in_ok-to_vec.ensures.items_if_clones_equal (λ x y e. e)) c.in_ok-push.ensures.items

pub returns-in_err-record-clause-time : goal.returns-in_err-record-clause-time
returns-in_err-record-clause-time g c =
    storing c.args.text.now c.args.self.now.log.items c.push.new.self.items c.in_ok-to_vec.field-0
    (c.in_ok-to_vec.ensures.items_if_clones_equal (λ x y e. e)) c.in_ok-push.ensures.items

pub returns-in_err-note_stored-clause-time : goal.returns-in_err-note_stored-clause-time
returns-in_err-note_stored-clause-time g c =
    storing c.args.text.now c.args.self.now.log.items c.note_stored.new.log.items c.in_ok-to_vec.field-0
    (c.in_ok-to_vec.ensures.items_if_clones_equal (λ x y e. e)) (c.in_err-note_stored.ensures.err ∙ c.in_ok-push.ensures.items)

pub returns-clause-stored : goal.returns-clause-stored
returns-clause-stored g c =
    let n = c.in_ok-note_stored.ensures.noted in
    only_stored c.args.text.now c.push.new.self.items c.note_stored.new.log.items n.0 n.1 n.2

pub returns-clause-time : goal.returns-clause-time
returns-clause-time g c =
    let n = c.in_ok-note_stored.ensures.noted in
    stored c.args.text.now c.args.self.now.log.items c.push.new.self.items c.note_stored.new.log.items c.in_ok-to_vec.field-0 n.0
    (c.in_ok-to_vec.ensures.items_if_clones_equal (λ x y e. e)) n.1 c.in_ok-push.ensures.items n.2

pub returns-in_err-take_over-clause-unsure : goal.returns-in_err-take_over-clause-unsure
returns-in_err-take_over-clause-unsure g c =
    on_err _ (still_possible c.args.self.now.log.items c.push.new.self.items c.in_ok-to_vec.field-0 c.in_ok-push.ensures.items)

pub returns-in_err-flush_folder-clause-unsure : goal.returns-in_err-flush_folder-clause-unsure
returns-in_err-flush_folder-clause-unsure g c =
    on_err _ (still_possible c.args.self.now.log.items c.push.new.self.items c.in_ok-to_vec.field-0 c.in_ok-push.ensures.items)

pub returns-in_err-record-clause-unsure : goal.returns-in_err-record-clause-unsure
returns-in_err-record-clause-unsure g c =
    on_err _ (still_possible c.args.self.now.log.items c.push.new.self.items c.in_ok-to_vec.field-0 c.in_ok-push.ensures.items)

pub returns-in_err-note_stored-clause-unsure : goal.returns-in_err-note_stored-clause-unsure
returns-in_err-note_stored-clause-unsure g c =
    on_err _ (still_possible c.args.self.now.log.items c.note_stored.new.log.items c.in_ok-to_vec.field-0
    (c.in_err-note_stored.ensures.err ∙ c.in_ok-push.ensures.items))
