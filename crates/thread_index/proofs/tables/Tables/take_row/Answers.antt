use Rattle.std.proofs.Common.{◌≡◌, [], ℕ}
use Rattle.thread_model.specs.Labelling.{label_in}
use Rattle.std.proofs.Common.{ap, sym, ◌∙◌, subst, unwrap_or, Option}
use Rattle.thread_model.specs.Labelling.{label_at}
use Rattle.thread_model.proofs.Entries.{lookup-among}
use Rattle.thread_model.proofs.Numbers.{sorted-once}
use Rattle.thread_index.specs.Lists.{PutsList, list_at, list_at_key}
use Rattle.thread_index.specs.Taking.{AreOthers, LetGo}
use Rattle.thread_index.proofs.MapLists.{unwrap-zero}
use Rattle.thread_index.proofs.Begun.{Leaves, leaves-row, partial-begins, partial-ends}
use Rattle.thread_index.proofs.Costs.{cost-of-take}
use Rattle.thread_index.proofs.tables.Tables.take_row.Goals as goal

-- src/tables.rt:184:9
pub divide-requires : goal.divide-requires
divide-requires g c =
    let self = c.args.self.now in
    let rows = self.rows.entries in
    let members = list_at self.members in
    let members' = list_at c.take_list-list.new.lists in
    let pending = c.in_ok-pending.pending.keys in
    let label : c.unwrap_or-label.result ≡ label_in self.labels c.args.n = c.unwrap_or-label.ensures ∙ ap (λ (found : Option ℕ). unwrap_or found 0) c.get.ensures ∙ unwrap-zero (label_at self.labels c.args.n) in
    partial-begins rows c.remove.new.self.entries self.labels members members' (list_at_key self.holders) (list_at_key c.let_go.new.holders) c.args.n c.in-Some.row pending
    c.requires
    (lookup-among rows c.args.n c.in-Some.row (sym c.in-Some.ensures.value))
    (subst (λ left. Leaves rows left c.args.n) (sym c.remove.ensures.entries) (leaves-row rows c.args.n c.requires.has.distinct))
    (sorted-once _ c.remove.ensures.ordered)
    (subst (λ l. PutsList members members' l []) label c.take_list-list.ensures.rest)
    (subst (λ ns. AreOthers ns c.args.n pending) (c.as_slice.ensures.value ∙ c.take_list-list.ensures.list ∙ ap members label) c.in_ok-pending.ensures)
    (subst (λ ks. LetGo (list_at_key self.holders) (list_at_key c.let_go.new.holders) ks c.args.n) c.as_slice-2.ensures c.in_ok-let_go.ensures)

-- src/tables.rt:165:5
pub returns-clause-index : goal.returns-clause-index
returns-clause-index g c = partial-ends c.remove.new.self.entries c.divide.new.labels (list_at c.divide.new.members) (list_at_key c.let_go.new.holders) c.in_ok-divide.ensures.index

-- src/tables.rt:165:5
pub returns-clause-steps : goal.returns-clause-steps
returns-clause-steps g c =
    let self = c.args.self.now in
    let members = list_at self.members in
    let pending = c.in_ok-pending.pending.keys in
    let label : c.unwrap_or-label.result ≡ label_in self.labels c.args.n = c.unwrap_or-label.ensures ∙ ap (λ (found : Option ℕ). unwrap_or found 0) c.get.ensures ∙ unwrap-zero (label_at self.labels c.args.n) in
    cost-of-take self.rows.entries self.labels members (list_at_key self.holders) c.requires c.args.n pending
    (subst (λ ns. AreOthers ns c.args.n pending) (c.as_slice.ensures.value ∙ c.take_list-list.ensures.list ∙ ap members label) c.in_ok-pending.ensures)
    c.args.steps.now c.divide.new.steps c.in_ok-divide.ensures.steps
