use Rattle.deleg.specs.Cache.{examination_in}
use Rattle.deleg.proofs.searching.search_or_again.Goals as goal

pub search_from-requires-in-Err : goal.search_from-requires-in-Err
search_from-requires-in-Err g c = record { cache = c.new.ensures (examination_in c.args.query.now) }
