use Rattle.std.proofs.Common.{ℕ, true, List, sym, subst}
use Rattle.word_index.specs.Kept.{keeps_at}
use Rattle.word_index.specs.Postings.{IsListOf}
use Rattle.word_index.proofs.SourceLemmas.{all-list}
use Rattle.word_index.proofs.reading.all_rows.Goals as goal

pub returns : goal.returns
returns c =
    let rows = c.args.tables.now.rows.entries in
    subst (λ (list : List ℕ). IsListOf list (keeps_at (λ row. true) rows)) (sym c.in_ok-all_numbers.ensures) (all-list rows c.requires.rising)
