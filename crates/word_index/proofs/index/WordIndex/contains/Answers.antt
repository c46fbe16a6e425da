use Rattle.std.proofs.Common.{ℕ, List, sym, ap, ◌∙◌}
use Rattle.std.specs.Option.{is_some}
use Rattle.word_index.specs.Rows.{WordRow, row_at}
use Rattle.word_index.proofs.RowLemmas.{has_row}
use Rattle.word_index.proofs.index.WordIndex.contains.Goals as goal

pub returns : goal.returns
returns c = c.contains_key.ensures ∙ sym (has_row c.self.inside.tables.words c.self.inside.tables.rows.entries c.args.n) ∙ ap (λ (rows : List (ℕ × WordRow)). is_some (row_at rows c.args.n)) c.self.view_is
