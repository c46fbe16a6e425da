-- An entry is taken: it was left out, or is kept.
use Rattle.std.proofs.Common.{◌≡◌, ◌∙◌, sym, true, false}
use Rattle.std.proofs.lemmas.Result.{on_ok_weaker}
use Rattle.arch_base.specs.Ids.{id_eq}
use Rattle.arch_base.proofs.IdOrder.{same_ids}
use Rattle.store_planning.proofs.Losing.{changes_by}
use Rattle.store_planning.proofs.Taking.{drops_step, keeps_step, next_kept, next_left}
use Rattle.store_planning.proofs.planning.Planner.take.Goals as goal

pub returns-then-eq-clause-taken : goal.returns-then-eq-clause-taken
returns-then-eq-clause-taken g c =
    let test : id_eq c.args.blob.now c.args.entry.now.seen.blob ≡ true = sym (same_ids c.args.blob.now c.args.entry.now.seen.blob) ∙ (sym c.eq.ensures ∙ c.if-eq.true) in
    next_left c.args.self.now c.args.file c.args.entry.now c.args.blob.now (g.D.Disk.content c.args.disk.now) c.drop_entry.new.self test c.in_ok-drop_entry.ensures.dropped c.in_ok-drop_entry.ensures.gone

pub returns-then-eq-clause-kept : goal.returns-then-eq-clause-kept
returns-then-eq-clause-kept g c =
    let test : id_eq c.args.blob.now c.args.entry.now.seen.blob ≡ true = sym (same_ids c.args.blob.now c.args.entry.now.seen.blob) ∙ (sym c.eq.ensures ∙ c.if-eq.true) in
    drops_step (id_eq c.args.blob.now c.args.entry.now.seen.blob) c.args.self.now.entries c.drop_entry.new.self.entries c.args.entry.now test c.in_ok-drop_entry.ensures.same

pub returns-then-eq-clause-changes : goal.returns-then-eq-clause-changes
returns-then-eq-clause-changes g c =
    let test : id_eq c.args.blob.now c.args.entry.now.seen.blob ≡ true = sym (same_ids c.args.blob.now c.args.entry.now.seen.blob) ∙ (sym c.eq.ensures ∙ c.if-eq.true) in
    changes_by c.args.self.now c.args.file.number (id_eq c.args.blob.now c.args.entry.now.seen.blob) true c.drop_entry.new.self test c.in_ok-drop_entry.ensures.changes

pub returns-clause-taken : goal.returns-clause-taken
returns-clause-taken g c =
    let test : id_eq c.args.blob.now c.args.entry.now.seen.blob ≡ false = sym (same_ids c.args.blob.now c.args.entry.now.seen.blob) ∙ (sym c.eq.ensures ∙ c.if-eq.false) in
    next_kept c.args.self.now c.args.file c.args.entry.now c.args.blob.now (g.D.Disk.content c.args.disk.now) c.keep_entry.new.self c.keep_entry.result test c.keep_entry.ensures.kept c.keep_entry.ensures.gone

pub returns-clause-kept : goal.returns-clause-kept
returns-clause-kept g c =
    let test : id_eq c.args.blob.now c.args.entry.now.seen.blob ≡ false = sym (same_ids c.args.blob.now c.args.entry.now.seen.blob) ∙ (sym c.eq.ensures ∙ c.if-eq.false) in
    on_ok_weaker c.keep_entry.result (λ made. keeps_step (id_eq c.args.blob.now c.args.entry.now.seen.blob) c.args.self.now.entries c.keep_entry.new.self.entries c.args.entry.now test made) c.keep_entry.ensures.made

pub returns-clause-changes : goal.returns-clause-changes
returns-clause-changes g c =
    let test : id_eq c.args.blob.now c.args.entry.now.seen.blob ≡ false = sym (same_ids c.args.blob.now c.args.entry.now.seen.blob) ∙ (sym c.eq.ensures ∙ c.if-eq.false) in
    on_ok_weaker c.keep_entry.result (λ changes. changes_by c.args.self.now c.args.file.number (id_eq c.args.blob.now c.args.entry.now.seen.blob) false c.keep_entry.new.self test changes) c.keep_entry.ensures.changes
