use Rattle.std.proofs.Common.{refl, sym, subst, List, ℕ, Ok}
use Rattle.epoch_store.specs.Reads.{GivesTextOf}
use Rattle.store_finding.specs.Kept.{StoreState, IsStoreWith}
use Rattle.archive_core.proofs.ByNumber.{inside-message}
use Rattle.archive_core.proofs.Standing.{store_keeps}
use Rattle.archive_core.proofs.TellingDamage.{unread-damage}
use Rattle.archive_core.proofs.Verdicts.{reads-message, refuses-message}
use Rattle.archive_core.proofs.archive.DiskArchive.message_text.Goals as goal

pub text-requires : goal.text-requires
text-requires g c = record { there = inside-message c.args.self.now c.self.inside.store c.args.number c.in-Some.index c.self.view_is c.in-Some.ensures.known }

pub returns-in-Ok-clause-text : goal.returns-in-Ok-clause-text
returns-in-Ok-clause-text g c = λ a cache own.
    let k = g.D.Disk.content c.args.disk.now in
    reads-message c.args.self.now a c.args.number c.in-Some.index c.text.new.into (store_keeps c.args.self.now cache a k own) c.in-Some.ensures.known
    (subst (λ (l : List ℕ). GivesTextOf a c.in-Some.index l c.text.new.into (Ok tt)) c.new-text.ensures
    (c.in-Ok.ensures.archive a cache (subst (λ (v : StoreState). IsStoreWith v cache a k) (sym c.self.view_is) own)))

pub returns-in-Err-clause-text : goal.returns-in-Err-clause-text
returns-in-Err-clause-text g c = λ a cache own.
    refuses-message c.args.self.now a c.args.number c.in-Some.index c.new-text.result c.text.new.into c.in-Err.refusal c.unread.result c.unread.ensures
    (c.in-Err.ensures.archive a cache (subst (λ (v : StoreState). IsStoreWith v cache a (g.D.Disk.content c.args.disk.now)) (sym c.self.view_is) own))

pub returns-in-Err-clause-damage : goal.returns-in-Err-clause-damage
returns-in-Err-clause-damage g c =
    unread-damage c.self.inside.store c.args.self.now c.in-Some.index c.new-text.result c.text.new.into c.in-Err.refusal c.unread.result (g.D.Disk.content c.args.disk.now) c.self.view_is c.unread.ensures c.in-Err.ensures.text c.in-Err.ensures.found

pub unread-requires : goal.unread-requires
unread-requires g c = record { there = inside-message c.args.self.now c.args.self.now c.args.number c.in-Some.index refl c.in-Some.ensures.known }
