use Rattle.std.proofs.Common.{arith}
use Rattle.keyfiles.proofs.Slashes.{in_root, in_some}
use Rattle.keyfiles.proofs.paths.folder_of.Goals as goal

pub returns-in-Some : goal.returns-in-Some
returns-in-Some c = record {
  folder = in_root c.args.path.now c.in-Some.folder.now c.in-Some.field-0-1.now c.in-Some.ensures.cases
      (grind (arith, c.if-is_empty.true, c.is_empty.ensures));
}

pub returns-in-Some-2 : goal.returns-in-Some-2
returns-in-Some-2 c = record {
  folder = in_some c.args.path.now c.in-Some.folder.now c.in-Some.field-0-1.now c.in-Some.ensures.cases
      (grind (arith, c.if-is_empty.false, c.is_empty.ensures));
}
