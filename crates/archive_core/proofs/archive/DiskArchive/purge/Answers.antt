use Rattle.std.proofs.Common.{◌≡◌, ◌∙◌, ap, subst, sym, refl, ℕ, List}
use Rattle.arch_base.specs.declared.config.Config.{Config}
use Rattle.arch_base.specs.declared.ids.ObjectId.{ObjectId}
use Rattle.arch_model.specs.Archives.{Archive, messages, text_of}
use Rattle.arch_model.specs.Delivery.{purged, purged_text}
use Rattle.arch_model.specs.declared.answer.Answer.TheVariants as answer
use Rattle.arch_model.specs.declared.command.Command.TheVariants.{Purge}
use Rattle.store_finding.specs.Kept.{StoreState, IsStoreWith}
use Rattle.epoch_store.specs.Commands.{KeepsFiles}
use Rattle.archive_core.specs.Commands.{AnswersPurge, FilesFor, IfUnread}
use Rattle.archive_core.specs.Walks.{looks-same}
use Rattle.archive_core.proofs.KeptTexts.{error-then}
use Rattle.archive_core.proofs.Standing.{store_keeps}
use Rattle.archive_core.proofs.Taking.{absent-refuses, done-taken, failed-taken, mirror-refuses, quiet-taken}
use Rattle.archive_core.proofs.WithoutText.{may-read, purge-blob, purge-makes, shown-text, writable-of}
use Rattle.archive_core.proofs.archive.DiskArchive.purge.Goals as goal

pub returns-then-config-clause-taken : goal.returns-then-config-clause-taken
returns-then-config-clause-taken g c =
    quiet-taken g.D.Disk g.met.D.Disk.only_now c.law_of_stores.ensures.recovers (Purge c.args.number) (λ (a : Archive). purged a c.args.number) c.args.disk.now c.args.self.now answer.IsMirror tt refl refl (λ fault. absurd (cc fault)) c.requires.sizes
    (λ a keeps. mirror-refuses c.args.self.now a (Purge c.args.number) 0 keeps (ap (λ (n : Config). n.mirror) (sym c.config.ensures) ∙ c.if-config.true)) refl tt

pub returns-in_default-clause-taken : goal.returns-in_default-clause-taken
returns-in_default-clause-taken g c =
    quiet-taken g.D.Disk g.met.D.Disk.only_now c.law_of_stores.ensures.recovers (Purge c.args.number) (λ (a : Archive). purged a c.args.number) c.args.disk.now c.args.self.now (answer.NoText c.args.number) tt refl refl (λ fault. absurd (cc fault)) c.requires.sizes
    (λ a keeps. absent-refuses a (answer.NoText c.args.number) (text_of (messages a.entries) c.args.number) (purged_text a c.args.number) refl
    (writable-of c.args.self.now a keeps (ap (λ (n : Config). n.mirror) (sym c.config.ensures) ∙ c.if-config.false)) (c.in_default.ensures.message a keeps)) refl refl

pub returns-in-Ok-clause-taken : goal.returns-in-Ok-clause-taken
returns-in-Ok-clause-taken g c =
    let may = may-read c.args.self.now c.stored.result.now c.args.number c.in-Some.index c.index-stored-index.result (c.stored.ensures ∙ ap (λ (u : StoreState). u.entries) c.self.view_is) c.in-Some.ensures.known (ap (λ (n : Config). n.mirror) (sym c.config.ensures) ∙ c.if-config.false) in
    let made = λ (a : Archive) (cache : List ℕ) (store : IsStoreWith c.args.self.now cache a (g.D.Disk.content c.args.disk.now)). (let keeps = store_keeps c.args.self.now cache a (g.D.Disk.content c.args.disk.now) store in purge-makes c.args.self.now a c.args.number _ keeps may (c.in-Some.ensures.message a keeps)) in
    let files : FilesFor (Purge c.args.number) c.args.self.now c.drop_text.new.self = (may.entry, (may.is_there, may.kind, may.number_is), subst (λ (id : ObjectId). KeepsFiles c.args.self.now c.drop_text.new.self id) (sym may.blob_is) c.in-Ok.ensures.kept_files) in
    done-taken g.D.Disk g.met.D.Disk.only_now c.law_of_stores.ensures.recovers (Purge c.args.number) (λ (a : Archive). purged a c.args.number) c.args.disk.now c.args.disk.now c.drop_text.new.disk c.args.self.now c.drop_text.new.self _
    (looks-same g.D.Disk g.met.D.Disk.only_now c.args.disk.now) refl (λ a cache store. (made a cache store).0) c.in-Ok.ensures.changes.count c.args.number _ c.in-Ok.ensures.changes (λ a cache store. (made a cache store).1) files tt refl

pub returns-in-Err-clause-taken : goal.returns-in-Err-clause-taken
returns-in-Err-clause-taken g c =
    let why = c.in-Err.refusal in
    let may = may-read c.args.self.now c.stored.result.now c.args.number c.in-Some.index c.index-stored-index.result (c.stored.ensures ∙ ap (λ (u : StoreState). u.entries) c.self.view_is) c.in-Some.ensures.known (ap (λ (n : Config). n.mirror) (sym c.config.ensures) ∙ c.if-config.false) in
    let made = λ (a : Archive) (cache : List ℕ) (store : IsStoreWith c.args.self.now cache a (g.D.Disk.content c.args.disk.now)). (let keeps = store_keeps c.args.self.now cache a (g.D.Disk.content c.args.disk.now) store in purge-makes c.args.self.now a c.args.number _ keeps may (c.in-Some.ensures.message a keeps)) in
    failed-taken g.D.Disk g.met.D.Disk.only_now c.law_of_stores.ensures.recovers (Purge c.args.number) (λ (a : Archive). purged a c.args.number) c.args.disk.now c.args.disk.now c.drop_text.new.disk c.args.self.now c.drop_text.new.self _
    (looks-same g.D.Disk g.met.D.Disk.only_now c.args.disk.now) refl (λ a cache store. (made a cache store).0) c.in-Err.ensures.changes.count why c.answer_of.result c.answer_of.ensures c.requires.sizes c.in-Err.ensures.changes
    (error-then why (λ r. IfUnread r (c.drop_text.new.disk ≡ c.args.disk.now)) tt tt (λ file at. tt)) (error-then why (AnswersPurge c.args.number) tt tt (λ file at. tt))

pub drop_text-requires-clause-may : goal.drop_text-requires-clause-may
drop_text-requires-clause-may g c =
    let may = may-read c.args.self.now c.stored.result.now c.args.number c.in-Some.index c.index-stored-index.result (c.stored.ensures ∙ ap (λ (u : StoreState). u.entries) c.self.view_is) c.in-Some.ensures.known (ap (λ (n : Config). n.mirror) (sym c.config.ensures) ∙ c.if-config.false) in
    (c.args.number, may)

pub returns-in-Ok-clause-gone : goal.returns-in-Ok-clause-gone
returns-in-Ok-clause-gone g c = λ a cache store.
    let may = may-read c.args.self.now c.stored.result.now c.args.number c.in-Some.index c.index-stored-index.result (c.stored.ensures ∙ ap (λ (u : StoreState). u.entries) c.self.view_is) c.in-Some.ensures.known (ap (λ (n : Config). n.mirror) (sym c.config.ensures) ∙ c.if-config.false) in
    let keeps = store_keeps c.args.self.now cache a (g.D.Disk.content c.args.disk.now) store in
    let text = shown-text (messages a.entries) c.args.number (c.in-Some.ensures.message a keeps) in
    (text.0, text.1, c.in-Ok.ensures.lives c.args.number a text.0 keeps text.1 (purge-blob c.args.self.now a c.args.number _ text.0 keeps may text.1))
