use Rattle.paths.proofs.Parting.{no_paths}
use Rattle.paths.proofs.list.read_list.Goals as goal

pub returns-in_default-path_of : goal.returns-in_default-path_of
returns-in_default-path_of c =
    record { paths = no_paths c.args.mark c.args.bytes.now _ _ _ c.in-Some.path.now c.loop-path.invariant.1 c.in-Some.ensures.parts c.in_default-path_of.ensures.path }
