use Rattle.std.proofs.Common.{◌≡◌, ◌∙◌, List, ℕ, ap, subst}
use Rattle.mail_reader.specs.Content.{content_id_of}
use Rattle.mail_reader.specs.Ids.{own_id}
use Rattle.arch_model.specs.declared.choice.Meeting.TheVariants.{Free}
use Rattle.arch_judge.specs.Indexes.{met_own}
use Rattle.arch_judge.proofs.Choosing.{own_decides, own_new}
use Rattle.arch_judge.proofs.judging.judge_text.Goals as goal

pub judge_new-requires-clause-new : goal.judge_new-requires-clause-new
judge_new-requires-clause-new c =
    let index = c.args.index.now in
    let content = c.content_id-content.result in
    own_new c.law_of_taken_texts.ensures index c.args.text content c.requires.stored (subst (λ (t : List ℕ). Free ≡ met_own index.owners (own_id t) content) c.as_slice-2.ensures c.in-Free.ensures)

pub returns-in-Free-clause-judged : goal.returns-in-Free-clause-judged
returns-in-Free-clause-judged c = λ a bytes known is.
    let index = c.args.index.now in
    let content = c.content_id-content.result in
    let content_is : content ≡ content_id_of c.args.text = c.content_id-content.ensures ∙ ap content_id_of c.as_slice.ensures in
    let free : Free ≡ met_own index.owners (own_id c.args.text) content = subst (λ (t : List ℕ). Free ≡ met_own index.owners (own_id t) content) c.as_slice-2.ensures c.in-Free.ensures in
    c.judge_new.ensures.judged a bytes c.args.text known is (own_decides a index c.args.text content Free known.indexed content_is free)
