use Rattle.std.proofs.Common.{rules, ◌≡◌, Some, ap, ap₂, codes, sym, ◌∙◌, option_map}
use Rattle.cjson.specs.Document.{◌>>=◌, or_refuse}
use Rattle.cjson.specs.Tree.{view}
use Rattle.meta.specs.Content.{versioned}
use Rattle.examine.specs.Checks.{expectation, file_in}
use Rattle.rolechain.specs.Advance.{reading_in, due_snapshot}
use Rattle.reasons.specs.Reasons.{snapshot_check}
use Rattle.reasons.specs.Stops.{listed_snapshot_check}
use Rattle.reasons.specs.declared.reason.Reason.TheVariants.{NotListed}
use Rattle.reasons.proofs.Along.{gives}
use Rattle.reasons.proofs.stop.listed_snapshot_check.Goals as goal

pub returns : goal.returns
returns c =
    let files = file_in c.args.context.now.files.now in
    let now = c.args.context.now.moment in
    let keys = view c.args.keys.now in
    let s = c.args.trusted.now in
    let due = due_snapshot s.root.reading c.reading.result.now.snapshot in
    let same : expectation c.due_snapshot-expect.result ≡ due = cc in
    let there : reading_in s.timestamp ≡ Some c.reading.result.now = search rules in
    gives _ (listed_snapshot_check files now keys s) _ _
    (ap (λ e. snapshot_check e keys (option_map (λ s. s.now) c.old_snapshot-old.result) files now) same ∙ ap (λ o. snapshot_check due keys o files now) c.old_snapshot-old.ensures
    ∙ sym (ap (λ t. or_refuse t NotListed >>= (λ t. snapshot_check (due_snapshot s.root.reading t.snapshot) keys (reading_in s.snapshot) files now)) there))
    c.snapshot_check.ensures

pub due_snapshot-expect-requires : goal.due_snapshot-expect-requires
due_snapshot-expect-requires c =
    c.as_str.ensures.value ∙ c.in_ok-name.ensures.name
    ∙ ap₂ (λ b n. versioned b n (codes "snapshot.json")) c.consistent.ensures.value c.get-version.ensures.value
