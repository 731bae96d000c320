use Rattle.std.proofs.Common.{◌≡◌, ◌≤◌, ◌∷◌, ◌++◌, ◌∙◌, [], length, vec_len, ap, sym, refl, arith}
use Rattle.plan.specs.Questions.{mark, question_in}
use Rattle.plan.proofs.Drafting.{indexed_more, whole_more}
use Rattle.plan.proofs.draft.put.Goals as goal

pub returns : goal.returns
returns c =
    let items : c.push_reserved.new.self.items ≡ c.args.draft.now.questions.items ++ c.args.planned ∷ [] = c.push_reserved.ensures.items ∙ ap (λ xs. xs ++ c.args.planned ∷ []) c.reserve.ensures.items in
    let key : c.mark-mark.result ≡ mark (question_in c.args.draft.now.documents.items c.args.planned) = c.mark-mark.ensures ∙ ap mark c.ask_of.ensures ∙ ap (λ docs. mark (question_in docs c.args.planned)) c.as_slice.ensures.value in
    let number : c.len.result ≡ length c.args.draft.now.questions.items = c.len.ensures ∙ c.reserve.ensures.len ∙ c.args.draft.now.questions.ok.0 in
    let within : vec_len c.push_reserved.new.self ≤ c.args.draft.now.most = let a = c.push_reserved.ensures.len in let b = c.reserve.ensures.len in let d = c.is_full.ensures c.if-is_full.false in omega arith in
    record {
      documents = refl;
      most = refl;
      draft = record {
        whole = whole_more _ _ _ _ items c.requires.draft.whole c.requires.whole;
        index = indexed_more c.args.draft.now.documents.items c.args.draft.now.questions.items c.push_reserved.new.self.items c.args.planned c.args.draft.now.index c.insert.new.self c.mark-mark.result c.len.result items c.requires.draft.index key (sym c.has.ensures ∙ c.if-has.false) c.in_ok-insert.ensures.updates number;
        within = within;
      };
    }
