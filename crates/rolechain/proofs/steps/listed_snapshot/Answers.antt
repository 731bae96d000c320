use Rattle.std.proofs.Common.{rules, ◌≡◌, Some, ap, ap₂, codes, sym, ◌∙◌, option_map}
use Rattle.cjson.specs.Document.{◌>>=◌, or_refuse}
use Rattle.meta.specs.Content.{versioned}
use Rattle.examine.specs.Checks.{NotListed, snapshot_part, expectation, file_in}
use Rattle.rolechain.specs.Advance.{reading_in, due_snapshot, listed_snapshot}
use Rattle.rolechain.proofs.Along.{gives}
use Rattle.rolechain.proofs.steps.listed_snapshot.Goals as goal

pub returns : goal.returns
returns g c =
    let files = file_in c.args.context.now.files.now in
    let now = c.args.context.now.moment in
    let s = c.args.state.now in
    let due = due_snapshot s.root.reading c.reading.result.now.snapshot in
    let same : expectation c.due_snapshot-expect.result ≡ due = cc in
    let there : reading_in s.timestamp ≡ Some c.reading.result.now = search rules in
    gives _ (listed_snapshot files now s) _
    (ap (λ e. snapshot_part e (option_map (λ s. s.now) c.old_snapshot-old.result) files now) same ∙ ap (λ o. snapshot_part due o files now) c.old_snapshot-old.ensures
    ∙ sym (ap (λ t. or_refuse t NotListed >>= (λ t. snapshot_part (due_snapshot s.root.reading t.snapshot) (reading_in s.snapshot) files now)) there))
    c.examine_snapshot.ensures.answer

pub due_snapshot-expect-requires : goal.due_snapshot-expect-requires
due_snapshot-expect-requires g c =
    c.as_str.ensures.value ∙ c.in_ok-name.ensures.name
    ∙ ap₂ (λ b n. versioned b n (codes "snapshot.json")) c.consistent.ensures.value c.get-version.ensures.value
