use Rattle.std.proofs.Common.{ℕ, List}
use Rattle.std.proofs.Common.{sym, subst}
use Rattle.thread_model.specs.Members.{Among}
use Rattle.thread_index.specs.Lists.{list_at, list_at_key}
use Rattle.thread_index.proofs.MapLists.{first-some}
use Rattle.thread_index.proofs.Shown.{key-shown}
use Rattle.thread_index.proofs.tables.Tables.label_of_key.Goals as goal

-- src/tables.rt:97:5
pub returns : goal.returns
returns c =
    key-shown c.args.self.now.rows.entries c.args.self.now.labels (list_at c.args.self.now.members) (list_at_key c.args.self.now.holders) c.requires c.args.key.now c.in_ok-first.first.now
    (subst (λ (ns : List ℕ). Among ns c.in_ok-first.first.now) c.list_of_key.ensures (first-some c.list_of_key.result.now c.in_ok-first.first.now (sym c.in_ok-first.ensures.value)))
    c.get.result c.get.ensures
