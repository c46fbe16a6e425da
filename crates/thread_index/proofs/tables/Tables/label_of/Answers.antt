use Rattle.thread_index.specs.Lists.{list_at, list_at_key}
use Rattle.thread_index.proofs.Shown.{label-shown}
use Rattle.thread_index.proofs.tables.Tables.label_of.Goals as goal

-- src/tables.rt:61:5
pub returns : goal.returns
returns c = label-shown c.args.self.now.rows.entries c.args.self.now.labels (list_at c.args.self.now.members) (list_at_key c.args.self.now.holders) c.requires c.args.n c.if-not-has_row.ensures c.get.result c.get.ensures
