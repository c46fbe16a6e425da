use Rattle.std.proofs.Common.{◌≡◌, ◌∙◌, sym, ap, subst, refl, ℕ, List, None}
use Rattle.mail_commits.specs.declared.ids.TextIds.{TextIds}
use Rattle.arch_model.specs.Archives.{Archive}
use Rattle.arch_model.specs.Delivery.{Done, delivered}
use Rattle.arch_model.specs.Shelves.{ReadsOnce}
use Rattle.arch_model.specs.declared.command.Command.TheVariants.{Deliver}
use Rattle.epoch_store.specs.Promises.{AddsMessage}
use Rattle.store_finding.specs.Indexes.{IndexesStored}
use Rattle.store_finding.specs.Kept.{StoreState, IsStoreWith}
use Rattle.archive_core.specs.Commands.{AnswersDelivery, IfUnread}
use Rattle.archive_core.specs.Kept.{MayGoIn}
use Rattle.archive_core.proofs.Indexes.{index-of_kept}
use Rattle.archive_core.proofs.KeptTexts.{refuse-answers, refuse-tells, refuse-done, error-tells, error-done, error-then}
use Rattle.archive_core.proofs.Standing.{adds-taken, archive_taken, refusal-done, store_keeps}
use Rattle.archive_core.proofs.TellingDamage.{entry-damage}
use Rattle.archive_core.proofs.Taking.{done-taken, failed-taken, refused-taken}
use Rattle.archive_core.proofs.Verdicts.{may-go}
use Rattle.archive_core.proofs.archive.DiskArchive.deliver.Goals as goal

pub keep-requires-clause-may : goal.keep-requires-clause-may
keep-requires-clause-may g c =
    let indexed : IndexesStored c.args.self.now.entries c.self.inside.index = subst (λ (v : StoreState). IndexesStored v.entries c.self.inside.index) c.self.view_is c.self.invariant.0 in
    subst (λ (t : List ℕ). MayGoIn c.args.self.now t c.in-Take.ids) (sym c.as_slice.ensures) (may-go c.args.self.now c.self.inside.index c.in-Take.text c.in-Take.ids c.in-Take.number indexed c.in-Take.ensures.taken)

pub returns-in-Refuse-clause-taken : goal.returns-in-Refuse-clause-taken
returns-in-Refuse-clause-taken g c =
    let indexed : IndexesStored c.args.self.now.entries c.self.inside.index = subst (λ (v : StoreState). IndexesStored v.entries c.self.inside.index) c.self.view_is c.self.invariant.0 in
    let judged = λ (a : Archive) (cache : List ℕ) (store : IsStoreWith c.args.self.now cache a (g.D.Disk.content c.args.disk.now)). c.in-Refuse.ensures.judged a cache None store (index-of_kept c.args.self.now a c.self.inside.index (store_keeps c.args.self.now cache a (g.D.Disk.content c.args.disk.now) store) indexed) in
    refused-taken g.D.Disk g.met.D.Disk.only_now c.law_of_stores.ensures.recovers (Deliver c.args.bytes) (λ (a : Archive). delivered a c.args.bytes.now c.args.moment) c.args.disk.now c.verdict.new.disk c.args.self.now c.in-Refuse.answer
    (refuse-done c.args.self.now c.self.inside.index c.in-Refuse.answer ⊥ c.in-Refuse.ensures.taken) c.requires.sizes c.verdict.ensures.looks
    (λ a cache store own. refusal-done c.args.self.now cache a c.args.bytes.now c.args.moment (g.D.Disk.content c.verdict.new.disk) c.in-Refuse.answer own (judged a cache store).0)
    c.in-Refuse.ensures.unmoved c.in-Refuse.ensures.cause (refuse-answers c.args.self.now c.self.inside.index c.in-Refuse.answer c.in-Refuse.ensures.taken) c.verdict.ensures.count (entry-damage c.args.self.now (g.D.Disk.content c.args.disk.now) c.in-Refuse.answer c.in-Refuse.ensures.damage)

pub returns-in-Ok-clause-taken : goal.returns-in-Ok-clause-taken
returns-in-Ok-clause-taken g c =
    let indexed : IndexesStored c.args.self.now.entries c.self.inside.index = subst (λ (v : StoreState). IndexesStored v.entries c.self.inside.index) c.self.view_is c.self.invariant.0 in
    let judged = λ (a : Archive) (cache : List ℕ) (store : IsStoreWith c.args.self.now cache a (g.D.Disk.content c.args.disk.now)). c.in-Take.ensures.judged a cache None store (index-of_kept c.args.self.now a c.self.inside.index (store_keeps c.args.self.now cache a (g.D.Disk.content c.args.disk.now) store) indexed) in
    let disk = c.args.disk.now in
    let mid = c.verdict.new.disk in
    let wanted = λ (a : Archive). delivered a c.args.bytes.now c.args.moment in
    let made = λ (a : Archive) (cache : List ℕ) (store : IsStoreWith c.args.self.now cache a (g.D.Disk.content disk)). adds-taken a c.in-Take.text c.as_slice.result.now c.args.moment (wanted a) _ c.as_slice.ensures ((judged a cache store).0 c.args.moment) (judged a cache store).1 in
    let count = subst (λ (n : ℕ). ReadsOnce (g.D.Disk.reads disk) n) (sym c.keep.ensures.changes.count) c.verdict.ensures.count in
    done-taken g.D.Disk g.met.D.Disk.only_now c.law_of_stores.ensures.recovers (Deliver c.args.bytes) wanted disk mid c.keep.new.disk c.args.self.now c.keep.new.self (AddsMessage c.as_slice.result.now c.args.moment) c.verdict.ensures.looks (c.in-Take.ensures.cause.kept (λ never. never)) made count _ _ c.in-Ok.ensures.changes (λ a cache store. ap (λ (d : Done). d.answer) ((judged a cache store).0 c.args.moment)) tt tt tt

pub returns-in-Err-clause-taken : goal.returns-in-Err-clause-taken
returns-in-Err-clause-taken g c =
    let indexed : IndexesStored c.args.self.now.entries c.self.inside.index = subst (λ (v : StoreState). IndexesStored v.entries c.self.inside.index) c.self.view_is c.self.invariant.0 in
    let judged = λ (a : Archive) (cache : List ℕ) (store : IsStoreWith c.args.self.now cache a (g.D.Disk.content c.args.disk.now)). c.in-Take.ensures.judged a cache None store (index-of_kept c.args.self.now a c.self.inside.index (store_keeps c.args.self.now cache a (g.D.Disk.content c.args.disk.now) store) indexed) in
    let why = c.in-Err.refusal in
    let disk = c.args.disk.now in
    let mid = c.verdict.new.disk in
    let wanted = λ (a : Archive). delivered a c.args.bytes.now c.args.moment in
    let made = λ (a : Archive) (cache : List ℕ) (store : IsStoreWith c.args.self.now cache a (g.D.Disk.content disk)). adds-taken a c.in-Take.text c.as_slice.result.now c.args.moment (wanted a) _ c.as_slice.ensures ((judged a cache store).0 c.args.moment) (judged a cache store).1 in
    let count = subst (λ (n : ℕ). ReadsOnce (g.D.Disk.reads disk) n) (sym c.keep.ensures.changes.count) c.verdict.ensures.count in
    failed-taken g.D.Disk g.met.D.Disk.only_now c.law_of_stores.ensures.recovers (Deliver c.args.bytes) wanted disk mid c.keep.new.disk c.args.self.now c.keep.new.self (AddsMessage c.as_slice.result.now c.args.moment) c.verdict.ensures.looks (c.in-Take.ensures.cause.kept (λ never. never)) made count why c.answer_of.result c.answer_of.ensures c.requires.sizes c.in-Err.ensures.changes
    (error-then why (λ r. IfUnread r (c.keep.new.disk ≡ disk)) tt tt (λ file at. tt)) (error-then why AnswersDelivery tt tt (λ file at. tt))

pub returns-in-Refuse-clause-unread : goal.returns-in-Refuse-clause-unread
returns-in-Refuse-clause-unread g c = λ a cache store unknown. c.verdict.ensures.unread a cache None store (index-of_kept c.args.self.now a c.self.inside.index (store_keeps c.args.self.now cache a (g.D.Disk.content c.args.disk.now) store) (subst (λ (v : StoreState). IndexesStored v.entries c.self.inside.index) c.self.view_is c.self.invariant.0)) unknown

pub returns-in-Ok-clause-unread : goal.returns-in-Ok-clause-unread
returns-in-Ok-clause-unread g c = λ a cache store unknown. c.keep.ensures.changes.count
    ∙ c.verdict.ensures.unread a cache None store (index-of_kept c.args.self.now a c.self.inside.index (store_keeps c.args.self.now cache a (g.D.Disk.content c.args.disk.now) store) (subst (λ (v : StoreState). IndexesStored v.entries c.self.inside.index) c.self.view_is c.self.invariant.0)) unknown

pub returns-in-Err-clause-unread : goal.returns-in-Err-clause-unread
returns-in-Err-clause-unread g c = λ a cache store unknown. c.keep.ensures.changes.count
    ∙ c.verdict.ensures.unread a cache None store (index-of_kept c.args.self.now a c.self.inside.index (store_keeps c.args.self.now cache a (g.D.Disk.content c.args.disk.now) store) (subst (λ (v : StoreState). IndexesStored v.entries c.self.inside.index) c.self.view_is c.self.invariant.0)) unknown

pub returns-in-Refuse-clause-text : goal.returns-in-Refuse-clause-text
returns-in-Refuse-clause-text g c = refuse-tells c.args.self.now c.self.inside.index c.in-Refuse.answer c.args.kept.now c.in-Refuse.ensures.taken

pub returns-in-Refuse-clause-kept : goal.returns-in-Refuse-clause-kept
returns-in-Refuse-clause-kept g c = λ a cache store. refuse-done c.args.self.now c.self.inside.index c.in-Refuse.answer _ c.in-Refuse.ensures.taken

pub returns-in-Ok-clause-text : goal.returns-in-Ok-clause-text
returns-in-Ok-clause-text g c =
    let taken = c.in-Take.ensures.taken.comes in
    (taken.storage, ap (λ (i : TextIds). i.blob) taken.ids_are, ap (λ (i : TextIds). i.content) taken.ids_are)

pub returns-in-Ok-clause-kept : goal.returns-in-Ok-clause-kept
returns-in-Ok-clause-kept g c = λ a cache store.
    let indexed : IndexesStored c.args.self.now.entries c.self.inside.index = subst (λ (v : StoreState). IndexesStored v.entries c.self.inside.index) c.self.view_is c.self.invariant.0 in
    let judged = λ (a : Archive) (cache : List ℕ) (store : IsStoreWith c.args.self.now cache a (g.D.Disk.content c.args.disk.now)). c.in-Take.ensures.judged a cache None store (index-of_kept c.args.self.now a c.self.inside.index (store_keeps c.args.self.now cache a (g.D.Disk.content c.args.disk.now) store) indexed) in
    sym (archive_taken a c.in-Take.text c.in-Take.text c.args.moment (delivered a c.args.bytes.now c.args.moment) _ refl ((judged a cache store).0 c.args.moment))

pub returns-in-Err-clause-text : goal.returns-in-Err-clause-text
returns-in-Err-clause-text g c = error-tells c.args.self.now.root.config.form c.in-Err.refusal c.answer_of.result c.args.kept.now c.answer_of.ensures

pub returns-in-Err-clause-kept : goal.returns-in-Err-clause-kept
returns-in-Err-clause-kept g c = λ a cache store. error-done c.in-Err.refusal c.answer_of.result _ c.answer_of.ensures
