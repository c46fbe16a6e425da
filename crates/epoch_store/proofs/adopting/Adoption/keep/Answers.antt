-- The next own entry on a line stays, or there is none.
use Rattle.std.proofs.Common.{◌≡◌, ◌∙◌, ◌+◌, ◌++◌, ◌∷◌, [], List, Option, Some, Ok, sym, ap, rules, subst, slice_get, ℕ, refl}
use Rattle.arch_base.specs.declared.ids.ObjectId.{ObjectId}
use Rattle.store_finding.specs.declared.entries.StoredEntry.{StoredEntry}
use Rattle.store_finding.proofs.FindingTold.{reads_none}
use Rattle.store_planning.specs.Dropping.{KeptOf}
use Rattle.epoch_store.specs.Adopting.{AdoptionState, IsAdoptionOf, KeepsLine, NoneOnLine, PlansSame, TakesFirst}
use Rattle.epoch_store.proofs.AdoptedEpochs.{adoption_apart, form_of_keeping, found_at, is_kept_on, kept_of, keeps_line, last_kept, skips_line, starves_line, stops_line, takes_none, taking}
use Rattle.epoch_store.proofs.TextDamage.{entry_damage}
use Rattle.epoch_store.proofs.adopting.Adoption.keep.Goals as goal

pub next_on_line-at-requires : goal.next_on_line-at-requires
next_on_line-at-requires g c = (let of = subst (IsAdoptionOf c.args.store.now) (sym c.self.view_is) c.requires.of in of.most)

pub drop_to-requires-clause-of : goal.drop_to-requires-clause-of
drop_to-requires-clause-of g c = subst (IsAdoptionOf c.args.store.now) (sym c.self.view_is) c.requires.of

pub returns-in_err-drop_to-clause-plans : goal.returns-in_err-drop_to-clause-plans
returns-in_err-drop_to-clause-plans g c = starves_line c.args.store.now c.args.self.now _ c.args.line.now (g.D.Disk.content c.args.disk.now) c.from_residual.result (search rules)

pub returns-in_err-drop_to-clause-reads : goal.returns-in_err-drop_to-clause-reads
returns-in_err-drop_to-clause-reads g c = reads_none g.D.Disk c.args.disk.now (λ image. g.met.D.Disk.only_now c.args.disk.now image)

pub returns-in_default-clause-kept : goal.returns-in_default-clause-kept
returns-in_default-clause-kept g c = c.in_ok-drop_to.ensures.same ∙ ap (λ (s : AdoptionState). s.planned.entries) c.self.view_is

pub returns-in_default-clause-plans : goal.returns-in_default-clause-plans
returns-in_default-clause-plans g c =
    let v = c.args.store.now in
    let last = taking c.drop_to.new.planned c.next_on_line-at.result in
    skips_line v c.args.self.now last c.args.line.now (g.D.Disk.content c.args.disk.now) (subst (λ (s : AdoptionState). PlansSame v s last) c.self.view_is c.in_ok-drop_to.ensures.plans)

pub returns-in_default-clause-reads : goal.returns-in_default-clause-reads
returns-in_default-clause-reads g c = reads_none g.D.Disk c.args.disk.now (λ image. g.met.D.Disk.only_now c.args.disk.now image)

pub keep_entry-requires-clause-apart : goal.keep_entry-requires-clause-apart
keep_entry-requires-clause-apart g c = adoption_apart c.args.store.now (taking c.drop_to.new.planned c.next_on_line-at.result) c.in_ok-drop_to.ensures.of

pub returns-in-Err-clause-plans : goal.returns-in-Err-clause-plans
returns-in-Err-clause-plans g c =
    let v = c.args.store.now in
    let i = c.next_on_line-at.result in
    let e = c.in-Some.entry.now in
    let here : slice_get v.entries i ≡ Some e = found_at v.entries c.stored.result.now i e c.stored.ensures c.in-Some.ensures.lookup.3.0 (c.in-Some.ensures.lookup.3.1 e) in
    let old = c.drop_to.new.planned in
    let same = subst (λ (s : AdoptionState). PlansSame v s (taking old i)) c.self.view_is c.in_ok-drop_to.ensures.plans in
    stops_line v i e here c.file_of.result c.file_of.ensures old c.keep_entry.new.self c.args.self.now (taking c.keep_entry.new.self i) c.args.line.now (g.D.Disk.content c.args.disk.now) c.in-Err.refusal same c.in-Err.ensures.kept

pub returns-in-Err-clause-damage : goal.returns-in-Err-clause-damage
returns-in-Err-clause-damage g c =
    let v = c.args.store.now in
    let i = c.next_on_line-at.result in
    let e = c.in-Some.entry.now in
    let here : slice_get v.entries i ≡ Some e = found_at v.entries c.stored.result.now i e c.stored.ensures c.in-Some.ensures.lookup.3.0 (c.in-Some.ensures.lookup.3.1 e) in
    let old = c.drop_to.new.planned in
    let content = g.D.Disk.content c.args.disk.now in
    let form_is = form_of_keeping v i e here c.file_of.result c.file_of.ensures old c.keep_entry.new.self c.in_ok-drop_to.ensures.of in
    entry_damage v i e old.form c.file_of.result content content c.in-Err.refusal here form_is c.file_of.ensures (reads_none g.D.Disk c.args.disk.now (λ image. g.met.D.Disk.only_now c.args.disk.now image)).same c.in-Err.ensures.damage

pub returns-clause-of : goal.returns-clause-of
returns-clause-of g c =
    let v = c.args.store.now in
    let i = c.next_on_line-at.result in
    let e = c.in-Some.entry.now in
    let here : slice_get v.entries i ≡ Some e = found_at v.entries c.stored.result.now i e c.stored.ensures c.in-Some.ensures.lookup.3.0 (c.in-Some.ensures.lookup.3.1 e) in
    let did = c.in-Ok.ensures in
    kept_of v i e here c.file_of.result c.file_of.ensures c.drop_to.new.planned c.keep_entry.new.self c.in_ok-drop_to.ensures.of c.law_of_named.ensures.low did.made did.plans did.lies

pub returns-clause-kept : goal.returns-clause-kept
returns-clause-kept g c =
    let v = c.args.store.now in
    let i = c.next_on_line-at.result in
    let e = c.in-Some.entry.now in
    let here : slice_get v.entries i ≡ Some e = found_at v.entries c.stored.result.now i e c.stored.ensures c.in-Some.ensures.lookup.3.0 (c.in-Some.ensures.lookup.3.1 e) in
    let on = c.next_on_line-at.ensures.on e here in
    let front_is = c.in_ok-drop_to.ensures.same ∙ ap (λ (s : AdoptionState). s.planned.entries) c.self.view_is in
    let entries = c.keep_entry.new.self.entries in
    let made = subst (λ (l : List StoredEntry). (made : StoredEntry) × KeptOf e made × (entries ≡ l ++ made ∷ [])) front_is c.in-Ok.ensures.made in
    is_kept_on e c.args.line.now c.args.self.now.planned.entries entries c.last_commit.result on made c.last_commit.ensures

pub returns-in_default-clause-first : goal.returns-in_default-clause-first
returns-in_default-clause-first g c =
    let v = c.args.store.now in
    let passed = subst (λ (n : ℕ). NoneOnLine v.entries n c.next_on_line-at.result c.args.line.now) (ap (λ (s : AdoptionState). s.taken) c.self.view_is) c.next_on_line-at.ensures.passed in
    takes_none v.entries c.stored.result.now c.args.self.now.taken c.next_on_line-at.result c.args.line.now c.stored.ensures c.in_default.ensures.lookup.0 passed

pub returns-clause-first : goal.returns-clause-first
returns-clause-first g c =
    let v = c.args.store.now in
    let i = c.next_on_line-at.result in
    let e = c.in-Some.entry.now in
    let here : slice_get v.entries i ≡ Some e = found_at v.entries c.stored.result.now i e c.stored.ensures c.in-Some.ensures.lookup.3.0 (c.in-Some.ensures.lookup.3.1 e) in
    let on = c.next_on_line-at.ensures.on e here in
    let passed = subst (λ (n : ℕ). NoneOnLine v.entries n i c.args.line.now) (ap (λ (s : AdoptionState). s.taken) c.self.view_is) c.next_on_line-at.ensures.passed in
    let made = c.in-Ok.ensures.made in
    let commit_is = c.last_commit.ensures ∙ last_kept c.drop_to.new.planned.entries c.keep_entry.new.self.entries made.0 made.2 in
    subst (λ (o : Option ObjectId). TakesFirst v.entries c.args.self.now.taken c.args.line.now o (i + 1)) (sym commit_is) (i, e, refl, here, on, passed)

pub returns-clause-plans : goal.returns-clause-plans
returns-clause-plans g c =
    let v = c.args.store.now in
    let i = c.next_on_line-at.result in
    let e = c.in-Some.entry.now in
    let here : slice_get v.entries i ≡ Some e = found_at v.entries c.stored.result.now i e c.stored.ensures c.in-Some.ensures.lookup.3.0 (c.in-Some.ensures.lookup.3.1 e) in
    let on = c.next_on_line-at.ensures.on e here in
    let old = c.drop_to.new.planned in
    let new = c.keep_entry.new.self in
    let content = g.D.Disk.content c.args.disk.now in
    let first = c.args.self.now in
    let same = subst (λ (s : AdoptionState). PlansSame v s (taking old i)) c.self.view_is c.in_ok-drop_to.ensures.plans in
    let made = c.in-Ok.ensures.made in
    let commit_is = c.last_commit.ensures ∙ last_kept old.entries new.entries made.0 made.2 in
    subst (λ (o : Option ObjectId). KeepsLine v c.args.line.now first (taking new (i + 1)) (Ok o) content) (sym commit_is)
    (keeps_line v i e here c.file_of.result c.file_of.ensures old new first c.args.line.now made.0.seen.commit content on same c.in-Ok.ensures.kept)
