use Rattle.std.proofs.Common.{◌≡◌, ◌+◌, vec_len, arith, ap, ◌∙◌}
use Rattle.std.specs.Prelude.{◌%◌}
use Rattle.hands.specs.Parts.{part_of}
use Rattle.hands.proofs.Sharing.{read_workers, read_count, read_part, read_same, read_way}
use Rattle.hands.proofs.dealing.add_way.Goals as goal

pub way-requires : goal.way-requires
way-requires c = record {
  others =
      let w = read_workers _ _ _ _ _ _ _ c.requires.shares (grind arith) c.index_mut.ensures.value in
      grind arith;
}

pub add-requires-clause-most : goal.add-requires-clause-most
add-requires-clause-most c =
    let before = read_count _ _ _ _ _ _ _ c.requires.shares (grind arith) c.index_mut.ensures.value in
    let same = read_same _ _ _ _ _ _ _ _ c.requires.shares c.index_mut.ensures.value c.in_ok-way.ensures.share in
    let after = read_count _ _ _ _ _ _ _ same (grind arith) c.index_mut-2.ensures.value in
    let most = c.in_ok-way.ensures.most in
    grind arith

pub returns-clause-shares : goal.returns-clause-shares
returns-clause-shares c =
    let at : c.next_of-other.result ≡ (c.args.k + c.args.step) % vec_len c.args.hands.now = grind arith in
    let to = read_part _ _ _ _ _ _ _ c.requires.shares (grind arith) c.index_mut.ensures.value ∙ ap (part_of c.args.count _) at in
    let same = read_same _ _ _ _ _ _ _ _ c.requires.shares c.index_mut.ensures.value c.in_ok-way.ensures.share in
    read_way _ _ _ _ _ _ _ _ same c.requires.hand c.requires.some c.index_mut-2.ensures.value (c.in_ok-way.ensures.part ∙ to) c.in_ok-add.ensures.share
