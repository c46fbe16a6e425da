use Rattle.std.proofs.Common.{◌≡◌}
use Rattle.std.specs.Map.{remove_entry}
use Rattle.std.specs.BTreeMap.{is_at}
use Rattle.std.specs.Ordering.{nat_cmp}
use Rattle.thread_index.specs.Index.{IsNew}
use Rattle.std.proofs.Common.{subst, sym}
use Rattle.thread_index.specs.Index.{Threads}
use Rattle.thread_index.proofs.Shown.{removed-idle}
use Rattle.thread_index.proofs.index.ThreadIndex.take.Goals as goal

-- src/index.rt:106:13
pub returns-then-not-has_row-clause-rows : goal.returns-then-not-has_row-clause-rows
returns-then-not-has_row-clause-rows g c = subst (λ (t : Threads). t.rows ≡ remove_entry (is_at (nat_cmp c.args.n)) t.rows) c.self.view_is (sym (removed-idle c.self.inside.tables.rows.entries c.args.n c.if-not-has_row.ensures))

-- src/index.rt:109:9
pub returns-in_err-take_row-clause-missing : goal.returns-in_err-take_row-clause-missing
returns-in_err-take_row-clause-missing g c = λ new. absurd (c.if-not-has_row.ensures (subst (λ (t : Threads). IsNew t.rows c.args.n) (sym c.self.view_is) new))

-- src/index.rt:98:5
pub returns-clause-missing : goal.returns-clause-missing
returns-clause-missing g c = λ new. absurd (c.if-not-has_row.ensures (subst (λ (t : Threads). IsNew t.rows c.args.n) (sym c.self.view_is) new))
