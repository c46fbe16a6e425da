-- One entry more is planned, after all own entries were taken.
use Rattle.std.proofs.Common.{◌∙◌, List, length, sym, ap, subst}
use Rattle.std.proofs.lemmas.Result.{on_ok_weaker}
use Rattle.store_finding.specs.Extents.{AreUpToEpoch}
use Rattle.store_finding.specs.declared.entries.StoredEntry.{StoredEntry}
use Rattle.epoch_store.specs.AdoptedLines.{ClosesAdoption}
use Rattle.epoch_store.specs.Adopting.{AdoptionState, IsAdoptionOf, PlansMore}
use Rattle.epoch_store.proofs.AdoptedEpochs.{added_line, added_more, added_of, taking}
use Rattle.epoch_store.proofs.adopting.Adoption.add.Goals as goal

pub close_rest-requires : goal.close_rest-requires
close_rest-requires c = subst (IsAdoptionOf c.args.store.now) (sym c.self.view_is) c.requires.of

pub plan_line-requires-clause-later : goal.plan_line-requires-clause-later
plan_line-requires-clause-later c =
    let same = c.in_ok-close_rest.ensures.entries ∙ ap (λ (s : AdoptionState). s.planned.entries) c.self.view_is in
    subst (AreUpToEpoch c.args.line.now.epoch) (sym same) c.requires.later

pub plan_line-requires-clause-ready : goal.plan_line-requires-clause-ready
plan_line-requires-clause-ready c = c.in_ok-close_rest.ensures.adding.ready

pub returns-clause-of : goal.returns-clause-of
returns-clause-of c =
    let v = c.args.store.now in
    let closed = subst (λ (s : AdoptionState). ClosesAdoption v s (taking c.close_rest.new.planned (length v.entries))) c.self.view_is c.in_ok-close_rest.ensures in
    on_ok_weaker c.plan_line.result
    (λ added. subst (λ (l : List StoredEntry). IsAdoptionOf v (taking c.plan_line.new.planned (length l))) (sym c.stored.ensures)
    (added_of v c.args.self.now c.close_rest.new.planned c.args.line.now c.args.text.now c.plan_line.new.planned c.requires.of.low closed c.requires.epoch added))
    c.plan_line.ensures

pub returns-clause-added : goal.returns-clause-added
returns-clause-added c =
    let same = c.in_ok-close_rest.ensures.entries ∙ ap (λ (s : AdoptionState). s.planned.entries) c.self.view_is in
    on_ok_weaker c.plan_line.result
    (λ added. added_line c.args.store.now.root.config.form c.args.line.now c.args.text.now c.args.self.now.planned.entries c.close_rest.new.planned.entries c.plan_line.new.planned.entries same added.added) c.plan_line.ensures

pub returns-clause-plans : goal.returns-clause-plans
returns-clause-plans c =
    let v = c.args.store.now in
    let closed = subst (λ (s : AdoptionState). ClosesAdoption v s (taking c.close_rest.new.planned (length v.entries))) c.self.view_is c.in_ok-close_rest.ensures in
    on_ok_weaker c.plan_line.result
    (λ added. subst (λ (l : List StoredEntry). PlansMore v c.args.line.now c.args.text.now c.args.self.now (taking c.plan_line.new.planned (length l))) (sym c.stored.ensures)
    (added_more v c.args.self.now c.close_rest.new.planned c.args.line.now c.args.text.now c.plan_line.new.planned closed added))
    c.plan_line.ensures
