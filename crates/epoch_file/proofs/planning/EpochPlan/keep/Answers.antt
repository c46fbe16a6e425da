-- An entry stays as it is, or with a new commit.
use Rattle.std.proofs.Common.{◌≡◌, refl, sym, ap, subst, rules, ℕ, List, Option, Some, None, Ok, Err}
use Rattle.std.proofs.lemmas.Result.{err_from_is_err_and}
use Rattle.disk_model.specs.Disk.{WhereTold}
use Rattle.root_change.specs.Rewriting.{Plan, plan_count}
use Rattle.epoch_file.specs.Planning.{Checks, CopiesEntry, KeepsNext, Planned, TellsLack}
use Rattle.epoch_file.specs.Planning.{IsPlannedIn, KeepsIn}
use Rattle.epoch_file.proofs.Lying.{keeps_copied_in, keeps_in_place}
use Rattle.epoch_file.proofs.Planned.{checks_copied, checks_refused, checks_same, keep_copied, keep_refused, keep_same}
use Rattle.epoch_file.proofs.planning.EpochPlan.keep.Goals as goal

pub returns-in_err-commit-in-Some-clause-kept : goal.returns-in_err-commit-in-Some-clause-kept
returns-in_err-commit-in-Some-clause-kept g c =
    let inside = c.self.inside in
    let seen = c.args.seen.now in
    let k = g.D.Disk.content c.args.disk.now in
    let was : Planned = record { file = inside.file; changed = inside.changed; end_ = inside.end; parent = inside.parent; form = inside.form } in
    let now : Planned = record { file = inside.file; changed = Some c.in-Some.plan; end_ = inside.end; parent = inside.parent; form = inside.form } in
    let refusal = c.in_err-commit-in-Some.field-0.0 in
    let p = err_from_is_err_and c.from_residual-in_err-commit-in-Some.result c.from_residual-in_err-commit-in-Some.ensures.1 in
    rw (p.1, p.2) (subst (λ (old : Planned). WhereTold (KeepsNext old seen now (Err refusal)) k) c.self.view_is (keep_refused refusal was now seen k c.in_err-commit-in-Some.ensures.commit))

pub returns-in_ok-moved-in-None-clause-kept : goal.returns-in_ok-moved-in-None-clause-kept
returns-in_ok-moved-in-None-clause-kept g c =
    let inside = c.self.inside in
    let seen = c.args.seen.now in
    let k = g.D.Disk.content c.args.disk.now in
    let made = c.in_ok-moved-in-None.field-0 in
    let was : Planned = record { file = inside.file; changed = inside.changed; end_ = inside.end; parent = inside.parent; form = inside.form } in
    let now : Planned = record { file = inside.file; changed = inside.changed; end_ = inside.end; parent = Some seen.commit; form = inside.form } in
    let none : inside.changed ≡ None = search rules in
    subst (λ (old : Planned). WhereTold (KeepsNext old seen now (Ok made)) k) c.self.view_is
    (keep_same was now seen made k none (ap (λ (o : Option Plan). record { file = inside.file; changed = o; end_ = inside.end; parent = Some seen.commit; form = inside.form }) none) c.in_ok-moved-in-None.ensures)

pub returns-in_ok-made-in-Some-clause-kept : goal.returns-in_ok-made-in-Some-clause-kept
returns-in_ok-made-in-Some-clause-kept g c =
    let inside = c.self.inside in
    let seen = c.args.seen.now in
    let k = g.D.Disk.content c.args.disk.now in
    let commit = c.in_ok-commit-in-Some.commit in
    let made = c.in_ok-made-in-Some.made in
    let plan = c.in-Some.plan in
    let new = c.copy_entry.new.plan in
    let end_ = c.count-self-inside.result in
    let was : Planned = record { file = inside.file; changed = inside.changed; end_ = inside.end; parent = inside.parent; form = inside.form } in
    let now : Planned = record { file = inside.file; changed = Some new; end_ = end_; parent = Some commit.id; form = inside.form } in
    let some : inside.changed ≡ Some plan = search rules in
    let bytes : c.as_slice.result.now ≡ commit.bytes = search rules in
    let copies = subst (λ (l : List ℕ). CopiesEntry inside.file seen l plan new) bytes c.in_ok-copy_entry-in-Some.ensures.copied in
    let count : end_ ≡ plan_count new = search rules in
    subst (λ (old : Planned). WhereTold (KeepsNext old seen now (Ok made)) k) c.self.view_is
    (keep_copied was now plan new seen made commit k some c.in_ok-commit-in-Some.ensures.commit copies (ap (λ (n : ℕ). record { file = inside.file; changed = Some new; end_ = n; parent = Some commit.id; form = inside.form }) count) c.in_ok-made-in-Some.ensures)

pub returns-in_err-commit-in-Some-clause-checked : goal.returns-in_err-commit-in-Some-clause-checked
returns-in_err-commit-in-Some-clause-checked g c =
    let inside = c.self.inside in
    let seen = c.args.seen.now in
    let k = g.D.Disk.content c.args.disk.now in
    let was : Planned = record { file = inside.file; changed = inside.changed; end_ = inside.end; parent = inside.parent; form = inside.form } in
    let refusal = c.in_err-commit-in-Some.field-0.0 in
    let p = err_from_is_err_and c.from_residual-in_err-commit-in-Some.result c.from_residual-in_err-commit-in-Some.ensures.1 in
    rw (p.1, p.2) (subst (λ (old : Planned). WhereTold (Checks old seen (Err refusal)) k) c.self.view_is (checks_refused refusal was seen k c.in_err-commit-in-Some.ensures.commit))

pub returns-in_ok-moved-in-None-clause-checked : goal.returns-in_ok-moved-in-None-clause-checked
returns-in_ok-moved-in-None-clause-checked g c =
    let inside = c.self.inside in
    let seen = c.args.seen.now in
    let k = g.D.Disk.content c.args.disk.now in
    let was : Planned = record { file = inside.file; changed = inside.changed; end_ = inside.end; parent = inside.parent; form = inside.form } in
    let none : inside.changed ≡ None = search rules in
    subst (λ (old : Planned). WhereTold (Checks old seen (Ok c.in_ok-moved-in-None.field-0)) k) c.self.view_is (checks_same was seen (Ok c.in_ok-moved-in-None.field-0) k none)

pub returns-in_ok-made-in-Some-clause-checked : goal.returns-in_ok-made-in-Some-clause-checked
returns-in_ok-made-in-Some-clause-checked g c =
    let inside = c.self.inside in
    let seen = c.args.seen.now in
    let k = g.D.Disk.content c.args.disk.now in
    let made = c.in_ok-made-in-Some.made in
    let was : Planned = record { file = inside.file; changed = inside.changed; end_ = inside.end; parent = inside.parent; form = inside.form } in
    subst (λ (old : Planned). WhereTold (Checks old seen (Ok made)) k) c.self.view_is (checks_copied was seen made c.in_ok-commit-in-Some.commit k c.in_ok-commit-in-Some.ensures.commit)

pub returns-in_err-commit-in-Some-clause-damage : goal.returns-in_err-commit-in-Some-clause-damage
returns-in_err-commit-in-Some-clause-damage g c =
    let seen = c.args.seen.now in
    let k = g.D.Disk.content c.args.disk.now in
    let refusal = c.in_err-commit-in-Some.field-0.0 in
    let p = err_from_is_err_and c.from_residual-in_err-commit-in-Some.result c.from_residual-in_err-commit-in-Some.ensures.1 in
    rw (p.1, p.2) (subst (λ (old : Planned). TellsLack old.form old.file seen k refusal) c.self.view_is c.in_err-commit-in-Some.ensures.damage)

pub returns-in_ok-moved-in-None-clause-lies : goal.returns-in_ok-moved-in-None-clause-lies
returns-in_ok-moved-in-None-clause-lies g c = λ from most lies in_.
    let inside = c.self.inside in
    let seen = c.args.seen.now in
    let made = c.in_ok-moved-in-None.field-0 in
    let was : Planned = record { file = inside.file; changed = inside.changed; end_ = inside.end; parent = inside.parent; form = inside.form } in
    let now : Planned = record { file = inside.file; changed = inside.changed; end_ = inside.end; parent = Some seen.commit; form = inside.form } in
    let none : inside.changed ≡ None = search rules in
    subst (λ (old : Planned). KeepsIn from most old seen now made) c.self.view_is (keeps_in_place from most was now seen made none none c.in_ok-moved-in-None.ensures lies)

pub returns-in_ok-made-in-Some-clause-lies : goal.returns-in_ok-made-in-Some-clause-lies
returns-in_ok-made-in-Some-clause-lies g c = λ from most lies in_.
    let inside = c.self.inside in
    let seen = c.args.seen.now in
    let commit = c.in_ok-commit-in-Some.commit in
    let made = c.in_ok-made-in-Some.made in
    let plan = c.in-Some.plan in
    let new = c.copy_entry.new.plan in
    let end_ = c.count-self-inside.result in
    let was : Planned = record { file = inside.file; changed = inside.changed; end_ = inside.end; parent = inside.parent; form = inside.form } in
    let now : Planned = record { file = inside.file; changed = Some new; end_ = end_; parent = Some commit.id; form = inside.form } in
    let some : inside.changed ≡ Some plan = search rules in
    let count : end_ ≡ plan_count new = search rules in
    let before : IsPlannedIn most was = subst (IsPlannedIn most) (sym c.self.view_is) in_ in
    subst (λ (old : Planned). KeepsIn from most old seen now made) c.self.view_is
    (keeps_copied_in from most was now plan new seen made commit.id c.as_slice.result.now some refl count c.in_ok-copy_entry-in-Some.ensures.copied c.in_ok-made-in-Some.ensures lies before)
