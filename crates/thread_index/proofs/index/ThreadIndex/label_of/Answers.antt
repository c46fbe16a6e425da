use Rattle.std.proofs.Common.{◌≡◌, true}
use Rattle.thread_model.specs.Threads.{AreThreads}
use Rattle.thread_model.specs.Labelling.{label_in}
use Rattle.thread_model.proofs.ThreadLabels.{labels-threads}
use Rattle.std.proofs.Common.{subst, ap, ◌∙◌}
use Rattle.thread_index.specs.Index.{Threads}
use Rattle.thread_index.proofs.index.ThreadIndex.label_of.Goals as goal

-- src/index.rt:115:5
pub returns-clause-threads : goal.returns-clause-threads
returns-clause-threads c =
    let tables = c.self.inside.tables in
    let whole : c.self.inside.whole ≡ true = ap (λ (t : Threads). t.whole) c.self.view_is ∙ c.requires in
    subst (λ (t : Threads). AreThreads t.rows (label_in t.labels)) c.self.view_is (labels-threads tables.rows.entries (label_in tables.labels) (c.self.invariant whole).threads)
