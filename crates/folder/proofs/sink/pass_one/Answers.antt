use Rattle.std.proofs.Common.{◌≡◌, ◌≤◌, ℕ, List, length, take, min, arith, length-take}
use Rattle.folder.proofs.Passing.{none_passed, one_passed}
use Rattle.folder.proofs.sink.pass_one.Goals as goal

pub returns-then-most-eq0 : goal.returns-then-most-eq0
returns-then-most-eq0 g c = record { passed = none_passed _ _ }

pub returns-in-Ok-eq0 : goal.returns-in-Ok-eq0
returns-in-Ok-eq0 g c = record { passed = none_passed _ _ }

few : (n most len wanted : ℕ) (buf room ys : List ℕ) → n ≤ length buf → length buf ≡ length (take most room) → most ≡ min len wanted → length (take n ys) ≤ wanted
few n most len wanted buf room ys a b c =
    let x : length (take n ys) ≡ min n (length ys) = length-take n ys in
    let y : length (take most room) ≡ min most (length room) = length-take most room in
    omega (arith, a, b, c, x, y)

pub returns-in-Ok : goal.returns-in-Ok
returns-in-Ok g c = record {
  passed = one_passed _ _ _ _ _ (few _ _ _ _ c.read.new.buf c.args.room.now _ c.in-Ok.ensures.bound.0 c.read.auto.buf c.most-most.ensures.count) c.take.ensures.need c.take.ensures.counted c.take.ensures.taken c.take-in-Ok.ensures.taken;
}

pub returns-else-ne : goal.returns-else-ne
returns-else-ne g c = record { passed = none_passed _ _ }
