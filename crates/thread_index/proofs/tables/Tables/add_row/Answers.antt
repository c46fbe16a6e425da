use Rattle.std.proofs.Common.{◌≡◌, [], ℕ, ◌+◌, length, List, ◌∷◌, ◌++◌}
use Rattle.std.specs.BTreeMap.{insert_entry}
use Rattle.std.specs.Ordering.{nat_cmp}
use Rattle.thread_model.specs.Labelling.{IsTouched, label_in}
use Rattle.std.proofs.Common.{ap, sym, ◌∙◌, subst}
use Rattle.thread_model.proofs.Numbers.{sorted-once}
use Rattle.thread_model.proofs.ThreadLabels.{Adds}
use Rattle.thread_index.specs.Lists.{PutsList, list_at, list_at_key}
use Rattle.thread_index.specs.Adding.{IsTarget, Gathers, GiveLabel, HeldBy}
use Rattle.thread_index.proofs.Added.{adds-row, added}
use Rattle.thread_index.proofs.Costs.{cost-of-add}
use Rattle.thread_index.proofs.tables.Tables.add_row.Goals as goal

-- src/tables.rt:135:5
pub returns-clause-index : goal.returns-clause-index
returns-clause-index g c =
    let self = c.args.self.now in
    let rows = self.rows.entries in
    let keys = c.args.keys.now in
    let touched = c.in_ok-touched.touched.items in
    let target = c.target_of-target.result in
    let moved = c.in_ok-moved.moved.items in
    let members = list_at self.members in
    let mid = list_at c.gather.new.members in
    let ns : c.as_slice-4.result.now ≡ moved ++ c.args.n ∷ [] = c.as_slice-4.ensures.value ∙ c.in_ok-push.ensures.items in
    added rows c.insert.new.self.entries self.labels c.relabel.new.labels members mid (list_at c.append.new.members) (list_at_key self.holders) (list_at_key c.hold.new.holders) c.args.n keys touched target moved
    c.requires.index c.requires.new
    (subst (λ later. Adds rows later (c.args.n, keys)) (sym (c.in_ok-insert.ensures.entries ∙ ap (insert_entry nat_cmp rows c.args.n) c.in_ok-row.ensures)) (adds-row rows c.args.n keys c.requires.new))
    (sorted-once _ c.insert.ensures.ordered)
    (subst (λ ks. IsTouched rows (label_in self.labels) ks touched) c.as_slice.ensures c.in_ok-touched.ensures)
    (subst (λ ls. IsTarget members ls c.args.n target) c.as_slice-2.ensures.value c.target_of-target.ensures)
    (subst (λ ls. Gathers members mid ls target moved) c.as_slice-3.ensures.value c.in_ok-moved.ensures)
    (subst (λ ms. GiveLabel self.labels c.relabel.new.labels ms target) ns c.in_ok-relabel.ensures.labels)
    (subst (λ ms. PutsList mid (list_at c.append.new.members) target (mid target ++ ms)) (c.as_slice-5.ensures.value ∙ c.in_ok-push.ensures.items) c.in_ok-append.ensures)
    (subst (λ ks. HeldBy (list_at_key self.holders) (list_at_key c.hold.new.holders) ks c.args.n) c.as_slice-6.ensures c.in_ok-hold.ensures)

-- src/tables.rt:135:5
pub returns-clause-steps : goal.returns-clause-steps
returns-clause-steps g c =
    let self = c.args.self.now in
    let rows = self.rows.entries in
    let keys = c.args.keys.now in
    let touched = c.in_ok-touched.touched.items in
    let target = c.target_of-target.result in
    let moved = c.in_ok-moved.moved.items in
    let members = list_at self.members in
    let mid = list_at c.gather.new.members in
    let ns : c.as_slice-4.result.now ≡ moved ++ c.args.n ∷ [] = c.as_slice-4.ensures.value ∙ c.in_ok-push.ensures.items in
    cost-of-add rows self.labels members mid (list_at_key self.holders) c.args.n keys touched target moved
    c.requires.index
    (subst (λ ks. IsTouched rows (label_in self.labels) ks touched) c.as_slice.ensures c.in_ok-touched.ensures)
    (subst (λ ls. IsTarget members ls c.args.n target) c.as_slice-2.ensures.value c.target_of-target.ensures)
    (subst (λ ls. Gathers members mid ls target moved) c.as_slice-3.ensures.value c.in_ok-moved.ensures)
    c.args.steps.now c.relabel.new.steps (c.in_ok-relabel.ensures.steps ∙ ap (λ (ms : List ℕ). c.args.steps.now + length ms) ns)
