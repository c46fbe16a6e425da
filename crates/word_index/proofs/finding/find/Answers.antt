use Rattle.std.proofs.Common.{◌++◌, ℕ, List, ap, ◌∙◌}
use Rattle.std.specs.List.{filter}
use Rattle.word_index.specs.Kept.{keeps_at}
use Rattle.word_index.specs.Asked.{matches_asked}
use Rattle.word_index.specs.Sources.{HasEachMatch}
use Rattle.word_index.proofs.SourceLemmas.{found-is}
use Rattle.word_index.proofs.finding.find.Goals as goal

pub returns : goal.returns
returns c =
    let tables = c.args.tables.now in
    let rows = tables.rows.entries in
    let asked = c.as_slice-3.result.now in
    let days = c.as_slice-days.result.now in
    let source : HasEachMatch asked days c.least_source-source.result = rw (c.as_slice-3.ensures.value) (rw (c.as_slice.ensures.value) at c.least_source-source.ensures) in
    c.in_ok-append_matching.ensures
    ∙ ap (λ (l : List ℕ). l ++ filter (keeps_at (matches_asked asked days) rows) c.as_slice-2.result.now) c.new-found.ensures
    ∙ found-is tables.words c.args.query.now rows asked days c.least_source-source.result c.as_slice-2.result.now c.requires.index.rising c.requires.spelled
    (λ row held. rw (c.as_slice-3.ensures.value, c.as_slice-days.ensures) (c.in_ok-asked.ensures row held)) source (rw (c.as_slice-2.ensures.value) c.in_ok-numbers.ensures)
