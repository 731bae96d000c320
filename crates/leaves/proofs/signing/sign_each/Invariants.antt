use Rattle.std.proofs.Common.{◌≡◌, ◌+◌, take}
use Rattle.leaves.specs.Disk.{Passes}
use Rattle.leaves.specs.Reserved.{HasSigned, IsSpending}
use Rattle.leaves.proofs.signing.sign_each.Given as goal

abbrev pub invariant-messages : goal.invariant-messages
invariant-messages g l = record {
  passes : Passes (g.D.Disk.moment l.initial.disk) (g.D.Disk.moment l.disk) (g.D.Disk.left_at l.initial.disk) (g.D.Disk.left_at l.disk)
      (IsSpending (g.K.Key.next l.initial.key) l.message-index);
  next : g.K.Key.next l.key ≡ g.K.Key.next l.initial.key + l.message-index;
  public : g.K.Key.public l.key ≡ g.K.Key.public l.initial.key;
  signed : HasSigned (g.K.Key.public l.initial.key) (take l.message-index l.messages)
      (g.D.Disk.left_at l.initial.disk (g.D.Disk.moment l.initial.disk)) (g.D.Disk.left_at l.disk (g.D.Disk.moment l.disk));
}
