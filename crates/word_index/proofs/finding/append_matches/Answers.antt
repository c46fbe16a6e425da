use Rattle.std.proofs.Common.{◌++◌, ℕ, List, ap, ◌∙◌}
use Rattle.std.proofs.lemmas.Result.{on_ok_weaker}
use Rattle.word_index.proofs.SourceLemmas.{matching-is}
use Rattle.word_index.proofs.finding.append_matches.Goals as goal

pub returns : goal.returns
returns c =
    let tables = c.args.tables.now in
    on_ok_weaker c.append_matching.result
    (λ is. is ∙ ap (λ (l : List ℕ). c.args.into.now ++ l) (matching-is tables.words c.args.query.now tables.rows.entries c.as_slice.result.now c.as_slice-2.result.now c.args.numbers.now c.requires.spelled
    (λ row held. rw (c.as_slice.ensures.value, c.as_slice-2.ensures) (c.in_ok-asked.ensures row held))))
    c.append_matching.ensures
