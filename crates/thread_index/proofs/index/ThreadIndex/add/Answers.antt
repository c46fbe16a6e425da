use Rattle.thread_index.specs.Index.{IsNew}
use Rattle.std.proofs.Common.{subst, sym}
use Rattle.thread_index.specs.Index.{Threads}
use Rattle.thread_index.proofs.index.ThreadIndex.add.Goals as goal

-- src/index.rt:89:9
pub add_row-requires-clause-new : goal.add_row-requires-clause-new
add_row-requires-clause-new g c = subst (λ (t : Threads). IsNew t.rows c.args.n) (sym c.self.view_is) c.requires.new
