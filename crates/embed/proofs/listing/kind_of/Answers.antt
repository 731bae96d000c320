use Rattle.std.proofs.Common.{rules}
use Rattle.embed.proofs.listing.kind_of.Goals as goal

pub returns-in-NotFound-clause-kind : goal.returns-in-NotFound-clause-kind
returns-in-NotFound-clause-kind = search rules
