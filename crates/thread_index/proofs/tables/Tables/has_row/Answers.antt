use Rattle.thread_index.proofs.Shown.{has-row}
use Rattle.thread_index.proofs.tables.Tables.has_row.Goals as goal

-- src/tables.rt:53:5
pub returns : goal.returns
returns c = has-row c.args.self.now.rows.entries c.args.n c.contains_key.result c.contains_key.ensures
