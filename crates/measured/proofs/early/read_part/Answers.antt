use Rattle.std.proofs.Common.{◌∙◌, All, subst, sym}
use Rattle.folder.proofs.Streaming.{written}
use Rattle.measured.specs.Known.{AreDone}
use Rattle.measured.specs.declared.early.Share.{Share}
use Rattle.measured.proofs.early.read_part.Goals as goal

pub returns : goal.returns
returns g c = record {
  known = λ names found known.
      let holds = (g.F.Folder.gives c.args.folder.now).holds in
      let size = c.measure_all.auto.shares ∙ c.as_mut_slice-2.ensures.len in
      c.keep_shares.ensures.known names holds found
      (subst (All (λ (s : Share). AreDone holds s.done.items)) (sym (written _ c.measure_all.new.shares _ size)) c.measure_all.ensures) known;
}
