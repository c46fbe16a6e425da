use Rattle.std.proofs.Common.{◌≡◌, ◌∙◌, ap, subst, sym, List, ℕ}
use Rattle.arch_judge.specs.declared.judging.Verdict.TheVariants.{Take}
use Rattle.store_finding.specs.Kept.{StoreState}
use Rattle.store_planning.specs.Dropping.{without_blob}
use Rattle.store_finding.specs.declared.entries.StoredEntry.{StoredEntry}
use Rattle.archive_core.specs.Commands.{JudgesOn}
use Rattle.archive_core.specs.Kept.{IndexesKept}
use Rattle.archive_core.specs.Rewriting.{MayReplace}
use Rattle.archive_core.proofs.EditKept.{taken-kept}
use Rattle.archive_core.proofs.Redone.{edits-none, edits-refused, edits-failed, edits-done}
use Rattle.archive_core.proofs.WithoutText.{may-replace}
use Rattle.archive_core.proofs.archive.DiskArchive.replace.Goals as goal

pub returns-in_default-clause-edits : goal.returns-in_default-clause-edits
returns-in_default-clause-edits g c = edits-none g.D.Disk g.met.D.Disk.only_now c.law_of_stores.ensures.recovers c.args.disk.now c.args.self.now c.args.number c.args.bytes.now c.args.moment c.requires.sizes

pub keep_instead-requires-clause-may : goal.keep_instead-requires-clause-may
keep_instead-requires-clause-may g c =
    let v : StoreState = c.args.self.now in
    let entries : c.stored.result.now ≡ v.entries = c.stored.ensures ∙ ap (λ (u : StoreState). u.entries) c.self.view_is in
    let indexed : IndexesKept (without_blob v.entries c.args.blob.now) c.in-Ok.index = subst (λ (es : List StoredEntry). IndexesKept (without_blob es c.args.blob.now) c.in-Ok.index) entries c.in-Ok.ensures in
    subst (λ (t : List ℕ). MayReplace v c.args.blob.now t c.in-Take.ids) (sym c.as_slice.ensures) (may-replace v c.in-Ok.index c.args.blob.now c.in-Take.ids c.args.number c.in-Take.new c.in-Take.text c.requires.may indexed c.in-Take.ensures.taken)

pub returns-in-Refuse-clause-edits : goal.returns-in-Refuse-clause-edits
returns-in-Refuse-clause-edits g c =
    let v : StoreState = c.args.self.now in
    let entries : c.stored.result.now ≡ v.entries = c.stored.ensures ∙ ap (λ (u : StoreState). u.entries) c.self.view_is in
    let indexed : IndexesKept (without_blob v.entries c.args.blob.now) c.in-Ok.index = subst (λ (es : List StoredEntry). IndexesKept (without_blob es c.args.blob.now) c.in-Ok.index) entries c.in-Ok.ensures in
    edits-refused g.D.Disk g.met.D.Disk.only_now c.law_of_stores.ensures.recovers c.args.disk.now c.verdict.new.disk v c.in-Ok.index c.args.blob.now c.args.number c.args.bytes.now c.args.moment c.in-Refuse.answer c.requires.may indexed c.requires.sizes c.in-Refuse.ensures.judged c.verdict.ensures.looks c.in-Refuse.ensures.cause c.in-Refuse.ensures.damage
    (c.in-Refuse.ensures.formed c.requires.formed.0 c.requires.may.writable c.requires.formed.1)

pub returns-in-Ok-keep_instead-clause-edits : goal.returns-in-Ok-keep_instead-clause-edits
returns-in-Ok-keep_instead-clause-edits g c =
    let v : StoreState = c.args.self.now in
    let entries : c.stored.result.now ≡ v.entries = c.stored.ensures ∙ ap (λ (u : StoreState). u.entries) c.self.view_is in
    let indexed : IndexesKept (without_blob v.entries c.args.blob.now) c.in-Ok.index = subst (λ (es : List StoredEntry). IndexesKept (without_blob es c.args.blob.now) c.in-Ok.index) entries c.in-Ok.ensures in
    let judged : JudgesOn g.D.Disk.content c.args.disk.now v c.in-Ok.index c.args.bytes.now (Take c.as_slice.result.now c.in-Take.ids c.in-Take.new) = subst (λ (t : List ℕ). JudgesOn g.D.Disk.content c.args.disk.now v c.in-Ok.index c.args.bytes.now (Take t c.in-Take.ids c.in-Take.new)) (sym c.as_slice.ensures) c.in-Take.ensures.judged in
    edits-done g.D.Disk g.met.D.Disk.only_now c.law_of_stores.ensures.recovers c.args.disk.now c.verdict.new.disk c.keep_instead.new.disk v c.keep_instead.new.self c.in-Ok.index c.args.blob.now c.args.number c.args.bytes.now c.as_slice.result.now c.args.moment c.in-Take.new c.in-Take.ids c.requires.may indexed
    judged c.verdict.ensures.looks (c.in-Take.ensures.cause.kept (λ never. never)) c.in-Ok-keep_instead.ensures.changes

pub returns-in-Err-clause-edits : goal.returns-in-Err-clause-edits
returns-in-Err-clause-edits g c =
    let v : StoreState = c.args.self.now in
    let entries : c.stored.result.now ≡ v.entries = c.stored.ensures ∙ ap (λ (u : StoreState). u.entries) c.self.view_is in
    let indexed : IndexesKept (without_blob v.entries c.args.blob.now) c.in-Ok.index = subst (λ (es : List StoredEntry). IndexesKept (without_blob es c.args.blob.now) c.in-Ok.index) entries c.in-Ok.ensures in
    let judged : JudgesOn g.D.Disk.content c.args.disk.now v c.in-Ok.index c.args.bytes.now (Take c.as_slice.result.now c.in-Take.ids c.in-Take.new) = subst (λ (t : List ℕ). JudgesOn g.D.Disk.content c.args.disk.now v c.in-Ok.index c.args.bytes.now (Take t c.in-Take.ids c.in-Take.new)) (sym c.as_slice.ensures) c.in-Take.ensures.judged in
    edits-failed g.D.Disk g.met.D.Disk.only_now c.law_of_stores.ensures.recovers c.args.disk.now c.verdict.new.disk c.keep_instead.new.disk v c.keep_instead.new.self c.in-Ok.index c.args.blob.now c.args.number c.args.bytes.now c.as_slice.result.now c.args.moment c.in-Take.new c.in-Take.ids c.requires.may indexed
    judged c.verdict.ensures.looks (c.in-Take.ensures.cause.kept (λ never. never)) c.in-Err.refusal c.answer_of.result c.answer_of.ensures c.requires.sizes c.in-Err.ensures.changes

pub returns-in-Ok-keep_instead-clause-kept : goal.returns-in-Ok-keep_instead-clause-kept
returns-in-Ok-keep_instead-clause-kept g c = λ a cache gone store shown.
    let v : StoreState = c.args.self.now in
    let entries : c.stored.result.now ≡ v.entries = c.stored.ensures ∙ ap (λ (u : StoreState). u.entries) c.self.view_is in
    let indexed : IndexesKept (without_blob v.entries c.args.blob.now) c.in-Ok.index = subst (λ (es : List StoredEntry). IndexesKept (without_blob es c.args.blob.now) c.in-Ok.index) entries c.in-Ok.ensures in
    taken-kept g.D.Disk.content c.args.disk.now v c.in-Ok.index c.args.blob.now c.args.number c.args.bytes.now c.in-Take.text c.args.moment c.in-Take.new c.in-Take.ids a cache gone c.requires.may indexed c.in-Take.ensures.judged store shown
