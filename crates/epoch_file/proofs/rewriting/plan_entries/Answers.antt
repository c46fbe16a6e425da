-- One more entry is planned.
use Rattle.std.proofs.Common.{◌≡◌, ◌∙◌, ◌<◌, ◌≤◌, List, Bool, Err, Ok, ap, arith, get_or, length, subst}
use Rattle.disk_model.specs.Disk.{Image, WhereTold}
use Rattle.disk_model.specs.Moments.{joined}
use Rattle.epoch_file.specs.declared.entry.Seen.{Seen}
use Rattle.epoch_file.specs.Planning.{TakesNext, is_among}
use Rattle.epoch_file.proofs.Rewritten.{entries_refused, entries_whole, image_back, planned_more, unchanged_then}
use Rattle.epoch_file.proofs.rewriting.plan_entries.Goals as goal

pub returns-in-Err-clause-planned : goal.returns-in-Err-clause-planned
returns-in-Err-clause-planned g c =
    let before = c.loop-entry.invariant in
    let content = g.D.Disk.content in
    let seen = c.args.seen.now in
    let gone = c.args.gone.now in
    let i = c.loop-entry.entry-index in
    let s = c.entry-item.result in
    let old = c.loop-entry.plan in
    let new = c.take_entry.new.plan in
    let m = content c.loop-entry.disk in
    let below : i < length seen = (let test = c.loop-entry-test.true in let items = ap (λ (l : List Seen). length l) c.as_slice-entry-items.ensures in omega (arith, test, items)) in
    let item : s ≡ get_or seen i s = c.entry-item.is ∙ ap (λ (l : List Seen). get_or l i s) c.as_slice-entry-items.ensures in
    let leaves : c.is_among-leaves.result ≡ is_among gone i = c.is_among-leaves.ensures ∙ ap (is_among gone) before.count in
    let takes = subst (λ (b : Bool). WhereTold (TakesNext old (get_or seen i s) b new (Err c.in-Err.refusal)) m) leaves
    (subst (λ (x : Seen). WhereTold (TakesNext old x c.is_among-leaves.result new (Err c.in-Err.refusal)) m) item c.in-Err.ensures.taken) in
    entries_refused c.args.form c.args.from seen gone i s old new c.in-Err.refusal (content c.args.disk.now) m below before.file before.form before.same takes before.planned

pub loop-entry-preserved : goal.loop-entry-preserved
loop-entry-preserved g c =
    let before = c.loop-entry.invariant in
    let content = g.D.Disk.content in
    let seen = c.args.seen.now in
    let gone = c.args.gone.now in
    let i = c.loop-entry.entry-index in
    let s = c.entry-item.result in
    let old = c.loop-entry.plan in
    let new = c.take_entry.new.plan in
    let disk = c.args.disk.now in
    let d1 = c.loop-entry.disk in
    let d2 = c.take_entry.new.disk in
    let m = content d1 in
    let below : i < length seen = (let test = c.loop-entry-test.true in let items = ap (λ (l : List Seen). length l) c.as_slice-entry-items.ensures in omega (arith, test, items)) in
    let item : s ≡ get_or seen i s = c.entry-item.is ∙ ap (λ (l : List Seen). get_or l i s) c.as_slice-entry-items.ensures in
    let leaves : c.is_among-leaves.result ≡ is_among gone i = c.is_among-leaves.ensures ∙ ap (is_among gone) before.count in
    let takes = subst (λ (b : Bool). WhereTold (TakesNext old (get_or seen i s) b new (Ok tt)) m) leaves
    (subst (λ (x : Seen). WhereTold (TakesNext old x c.is_among-leaves.result new (Ok tt)) m) item c.in_default.ensures.taken) in
    let faults = c.in_default.ensures.cause.kept (λ wrong. absurd (cc)) in
    record {
      count = (let count = before.count in omega (arith, count));
      file = c.in_default.ensures.file ∙ before.file;
      form = c.in_default.ensures.form ∙ before.form;
      planned = planned_more c.args.form c.args.from seen gone i s old new m (content d2) below before.file before.form c.in_default.ensures.same takes before.planned;
      same = unchanged_then (content disk) m (content d2) before.same c.in_default.ensures.same;
      moments = joined g.D.Disk disk d1 d2 (Image (content disk)) (Image m) (Image (content disk)) before.moments c.in_default.ensures.crash (λ image left. left) (image_back (content disk) m before.same);
      kept = faults ∙ before.kept;
    }

pub returns-clause-planned : goal.returns-clause-planned
returns-clause-planned g c =
    let before = c.loop-entry.invariant in
    let content = g.D.Disk.content in
    let seen = c.args.seen.now in
    let i = c.loop-entry.entry-index in
    let most : length seen ≤ i = (let test = c.loop-entry-test.false in let items = ap (λ (l : List Seen). length l) c.as_slice-entry-items.ensures in omega (arith, test, items)) in
    entries_whole c.args.form c.args.from seen c.args.gone.now i c.loop-entry.plan c.finish.result (content c.args.disk.now) (content c.loop-entry.disk) most before.form c.finish.ensures.finished before.same before.planned
