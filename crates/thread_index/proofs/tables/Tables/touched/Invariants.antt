use Rattle.std.proofs.Common.{take}
use Rattle.thread_model.specs.Labelling.{IsTouched, label_in}
use Rattle.thread_index.proofs.tables.Tables.touched.Given as goal

abbrev pub invariant-loop-key : goal.invariant-loop-key
invariant-loop-key l = IsTouched l.self.rows.entries (label_in l.self.labels) (take l.key-index l.keys) l.found.items
