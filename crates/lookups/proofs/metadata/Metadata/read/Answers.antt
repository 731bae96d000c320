use Rattle.std.proofs.Common.{refl, rules, subst, sym}
use Rattle.lookups.specs.Lookups.{Puts}
use Rattle.lookups.proofs.Reading.{read_done, read_grows, read_part}
use Rattle.lookups.proofs.metadata.Metadata.read.Goals as goal

pub returns-clause-part : goal.returns-clause-part
returns-clause-part g c =
    read_part (g.F.Folder.gives c.args.folder.now) c.args.self.now (record { names = c.args.self.now.names; listed = c.args.self.now.listed; repo = record { metadata = c.put.new.files; targets = c.args.self.now.repo.targets } }) c.args.name.now c.in_ok-bytes.bytes refl refl
    (subst (λ n. Puts n c.in_ok-bytes.bytes c.args.self.now.repo.metadata c.put.new.files) (search rules) c.in_ok-put.ensures) (search rules) c.in_ok-bytes.ensures.given c.requires.part

pub returns-clause-grows : goal.returns-clause-grows
returns-clause-grows g c =
    read_grows (g.F.Folder.gives c.args.folder.now) c.args.self.now (record { names = c.args.self.now.names; listed = c.args.self.now.listed; repo = record { metadata = c.put.new.files; targets = c.args.self.now.repo.targets } }) c.args.name.now c.in_ok-bytes.bytes refl refl
    (subst (λ n. Puts n c.in_ok-bytes.bytes c.args.self.now.repo.metadata c.put.new.files) (search rules) c.in_ok-put.ensures) (search rules)

pub returns-clause-done : goal.returns-clause-done
returns-clause-done g c =
    read_done (g.F.Folder.gives c.args.folder.now) c.args.self.now (record { names = c.args.self.now.names; listed = c.args.self.now.listed; repo = record { metadata = c.put.new.files; targets = c.args.self.now.repo.targets } }) c.args.name.now c.in_ok-bytes.bytes refl refl
    (subst (λ n. Puts n c.in_ok-bytes.bytes c.args.self.now.repo.metadata c.put.new.files) (search rules) c.in_ok-put.ensures) (search rules)
