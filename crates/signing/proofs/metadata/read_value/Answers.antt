use Rattle.std.proofs.Common.{sym, ◌∙◌, true≢false}
use Rattle.cjson.proofs.Trees.{tree_of-none, tree_of-read}
use Rattle.signing.proofs.metadata.read_value.Goals as goal

pub returns-in-Ok-clause-read : goal.returns-in-Ok-clause-read
returns-in-Ok-clause-read c = tree_of-read _ _ c.in-Ok.ensures.ok.0 c.in-Ok.ensures.ok.1

pub returns-in-Err-2-clause-read : goal.returns-in-Err-2-clause-read
returns-in-Err-2-clause-read c = tree_of-none _ (c.in-Err.ensures.err (λ m. absurd (true≢false (sym (c.is_memory.ensures.1 m) ∙ c.if-is_memory.false))))
