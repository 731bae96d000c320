use Rattle.std.proofs.Common.{rules, ap, ◌∙◌, ◌+◌}
use Rattle.cjson.specs.Tree.{view}
use Rattle.examine.specs.Checks.{file_in}
use Rattle.rolechain.specs.Advance.{due_root}
use Rattle.reasons.specs.Reasons.{Explains, root_check}
use Rattle.reasons.proofs.Along.{gives}
use Rattle.reasons.proofs.stop.successor_check.Goals as goal

pub returns-in_err-next : goal.returns-in_err-next
returns-in_err-next c =
    let files = file_in c.args.context.now.files.now in
    let keys = view c.args.keys.now in
    let root = c.args.root.now in
    let answer : Explains (root_check (due_root root) keys (root.header.version + 1) files) c.root_check.result (λ p. p) =
    gives _ (root_check (due_root root) keys (root.header.version + 1) files) _ _
    (ap (λ e. root_check e keys c.due_version-version.result files) c.due_root-expect.ensures ∙ ap (λ n. root_check (due_root root) keys n files) c.due_version-version.ensures)
    c.root_check.ensures in
    search (rules, answer)

pub returns-then-get-ge-LAST_VERSION : goal.returns-then-get-ge-LAST_VERSION
returns-then-get-ge-LAST_VERSION = search rules
