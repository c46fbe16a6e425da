use Rattle.std.proofs.Common.{refl, ◌≡◌, ◌∙◌, sym, ap, subst}
use Rattle.arch_base.specs.declared.config.Config.{Config}
use Rattle.git_objects.specs.Objects.{blob_id_of}
use Rattle.mail_reader.specs.Stored.{stored as stored_of}
use Rattle.store_finding.specs.Kept.{StoreState, IsStoreWith}
use Rattle.archive_core.proofs.ByNumber.{inside-message}
use Rattle.archive_core.proofs.EditCompares.{compares-other, compares-read, compares-unread}
use Rattle.archive_core.proofs.Standing.{store_keeps}
use Rattle.archive_core.proofs.TellingDamage.{unread-damage}
use Rattle.archive_core.proofs.archive.DiskArchive.is_same.Goals as goal

pub returns-then-ne-clause-compared : goal.returns-then-ne-clause-compared
returns-then-ne-clause-compared g c = λ a cache own text shown.
    let keeps = store_keeps c.args.self.now cache a (g.D.Disk.content c.args.disk.now) own in
    let same : c.stored-2.result.now ≡ c.args.self.now.entries = c.stored-2.ensures ∙ ap (λ (v : StoreState). v.entries) c.self.view_is in
    compares-other c.args.self.now a c.args.number c.args.index c.stored-2.result.now c.index-stored-index.result c.blob_id-blob.result c.in-Ok.wanted c.as_slice.result.now text (stored_of c.args.bytes.now) c.ne.result keeps c.requires.live same c.in-Ok.ensures (c.blob_id-blob.ensures.value ∙ ap (λ (k : Config). blob_id_of k.form c.as_slice.result.now) (c.config.ensures ∙ ap (λ (v : StoreState). v.root.config) c.self.view_is)) c.as_slice.ensures c.ne.ensures c.if-ne.true shown

pub text-requires : goal.text-requires
text-requires g c = record { there = inside-message c.args.self.now c.self.inside.store c.args.number c.args.index c.self.view_is c.requires.live.message }

pub returns-in-Ok-text-clause-compared : goal.returns-in-Ok-text-clause-compared
returns-in-Ok-text-clause-compared g c = λ a cache own text shown.
    let k = g.D.Disk.content c.args.disk.now in
    let keeps = store_keeps c.args.self.now cache a k own in
    compares-read c.args.self.now a c.args.number c.args.index c.in-Ok.wanted c.as_slice-in-Ok-text.result.now c.new-text.result c.text.new.into c.as_slice-in-Ok-text-2.result.now text (stored_of c.args.bytes.now) c.eq.result keeps c.requires.live c.in-Ok.ensures c.as_slice-in-Ok-text.ensures c.as_slice-in-Ok-text-2.ensures c.new-text.ensures
    (c.in-Ok-text.ensures.archive a cache (subst (λ (v : StoreState). IsStoreWith v cache a k) (sym c.self.view_is) own)) c.eq.ensures shown

pub returns-clause-compared : goal.returns-clause-compared
returns-clause-compared g c = λ a cache own.
    let k = g.D.Disk.content c.args.disk.now in
    compares-unread c.args.self.now a c.args.number c.args.index c.new-text.result c.text.new.into (stored_of c.args.bytes.now) c.in-Err.refusal c.unread.result c.unread.ensures
    (c.in-Err.ensures.archive a cache (subst (λ (v : StoreState). IsStoreWith v cache a k) (sym c.self.view_is) own))

pub returns-clause-damage : goal.returns-clause-damage
returns-clause-damage g c =
    unread-damage c.self.inside.store c.args.self.now c.args.index c.new-text.result c.text.new.into c.in-Err.refusal c.unread.result (g.D.Disk.content c.args.disk.now) c.self.view_is c.unread.ensures c.in-Err.ensures.text c.in-Err.ensures.found

pub unread-requires : goal.unread-requires
unread-requires g c = record { there = inside-message c.args.self.now c.args.self.now c.args.number c.args.index refl c.requires.live.message }

pub returns-then-ne-clause-formed : goal.returns-then-ne-clause-formed
returns-then-ne-clause-formed g c = (c.in-Ok.wanted, c.in-Ok.ensures)

pub returns-in-Ok-text-clause-formed : goal.returns-in-Ok-text-clause-formed
returns-in-Ok-text-clause-formed g c = (c.in-Ok.wanted, c.in-Ok.ensures)
