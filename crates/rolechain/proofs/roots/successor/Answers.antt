use Rattle.std.proofs.Common.{rules, ap, ◌∙◌, ◌+◌}
use Rattle.meta.specs.Content.{Answers}
use Rattle.examine.specs.Checks.{root_part, file_in}
use Rattle.rolechain.specs.Advance.{due_root}
use Rattle.rolechain.proofs.Along.{gives}
use Rattle.rolechain.proofs.roots.successor.Goals as goal

pub returns-in_err-next : goal.returns-in_err-next
returns-in_err-next g c =
    let files = file_in c.args.context.now.files.now in
    let root = c.args.root.now in
    let answer : Answers (root_part (due_root root) (root.header.version + 1) files) c.examine_root.result (λ p. p) =
    gives _ (root_part (due_root root) (root.header.version + 1) files) _
    (ap (λ e. root_part e c.due_version-version.result files) c.due_root-expect.ensures ∙ ap (λ n. root_part (due_root root) n files) c.due_version-version.ensures)
    c.examine_root.ensures.answer in
    search (rules, answer)

pub returns-then-get-ge-LAST_VERSION : goal.returns-then-get-ge-LAST_VERSION
returns-then-get-ge-LAST_VERSION = search rules
