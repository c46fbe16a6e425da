use Rattle.std.proofs.Common.{◌≡◌, ◌∙◌, ◌-◌, [], sym, ap, subst, refl, arith, ℕ, List, Some, Ok}
use Rattle.arch_base.specs.Counts.{RoseIf}
use Rattle.arch_base.specs.declared.config.Config.{Config}
use Rattle.root_slots.specs.Spelling.{spelling}
use Rattle.arch_model.specs.Archives.{Archive, live, text_of}
use Rattle.arch_model.specs.Delivery.{removed, removed_text}
use Rattle.arch_model.specs.Shelves.{ReadsOnce}
use Rattle.arch_model.specs.declared.answer.Answer.{Answer}
use Rattle.arch_model.specs.declared.answer.Answer.TheVariants as answer
use Rattle.arch_model.specs.declared.command.Command.TheVariants.{Remove}
use Rattle.epoch_store.specs.Reads.{GivesTextOf}
use Rattle.epoch_store.proofs.Readying.{read_begins}
use Rattle.store_finding.specs.Kept.{StoreState, IsStoreWith}
use Rattle.archive_core.specs.Commands.{AnswersRemoval, IfUnread, OnDone}
use Rattle.archive_core.proofs.ByNumber.{inside-message, text-gives}
use Rattle.archive_core.proofs.Replies.{done-then, refused-then, when-done}
use Rattle.archive_core.proofs.Standing.{store_keeps, still_own, read-first, unread-done}
use Rattle.archive_core.proofs.Taking.{absent-refuses, mirror-refuses, quiet-taken, refused-taken, rooted-read}
use Rattle.archive_core.proofs.TellingDamage.{damage-back, entry-damage, unread-damage}
use Rattle.archive_core.proofs.Unmoved.{if-read, unread-cause, unread-then}
use Rattle.archive_core.proofs.WithoutText.{writable-of}
use Rattle.archive_core.proofs.archive.DiskArchive.remove.Goals as goal

pub returns-then-config : goal.returns-then-config
returns-then-config g c = record {
  taken = quiet-taken g.D.Disk g.met.D.Disk.only_now c.law_of_stores.ensures.recovers (Remove c.args.number) (λ (a : Archive). removed a c.args.number c.args.moment) c.args.disk.now c.args.self.now answer.IsMirror tt refl refl (λ fault. absurd (cc fault)) c.requires.sizes
      (λ a keeps. mirror-refuses c.args.self.now a (Remove c.args.number) c.args.moment keeps (ap (λ (n : Config). n.mirror) (sym c.config.ensures) ∙ c.if-config.true)) refl tt;
}

pub returns-in_default : goal.returns-in_default
returns-in_default g c = record {
  taken = quiet-taken g.D.Disk g.met.D.Disk.only_now c.law_of_stores.ensures.recovers (Remove c.args.number) (λ (a : Archive). removed a c.args.number c.args.moment) c.args.disk.now c.args.self.now (answer.NotLive c.args.number) tt refl refl (λ fault. absurd (cc fault)) c.requires.sizes
      (λ a keeps. absent-refuses a (answer.NotLive c.args.number) (text_of (live a.entries) c.args.number) (removed_text a c.args.number c.args.moment) refl
      (writable-of c.args.self.now a keeps (ap (λ (n : Config). n.mirror) (sym c.config.ensures) ∙ c.if-config.false)) (c.in_default.ensures.live a keeps)) refl refl;
}

pub text-requires : goal.text-requires
text-requires g c = record { there = inside-message c.args.self.now c.self.inside.store c.args.number c.in-Some.index c.self.view_is c.in-Some.ensures.known.message }

pub returns-in-Ok : goal.returns-in-Ok
returns-in-Ok g c = record {
  taken = record {
    crash = λ a cache store room.
        let k = g.D.Disk.content c.args.disk.now in
        let own = subst (λ (v : StoreState). IsStoreWith v cache a k) (sym c.self.view_is) store in
        let keeps = store_keeps c.args.self.now cache a k store in
        let given = text-gives c.args.self.now a keeps c.args.number c.in-Some.index c.in-Some.ensures.known [] c.text.new.into (Ok tt)
        (subst (λ (l : List ℕ). GivesTextOf a c.in-Some.index l c.text.new.into (Ok tt)) c.new-text.ensures (c.in-Ok.ensures.archive a cache own)) in
        let shown : text_of (live a.entries) c.args.number ≡ Some c.as_slice.result.now = given.1 ∙ ap Some (sym given.2 ∙ sym c.as_slice.ensures) in
        let after = still_own c.args.self.now cache a k (g.D.Disk.content c.text.new.disk) c.text.ensures.same store in
        read-first g.D.Disk c.law_of_stores.ensures.recovers c.args.self.now cache cache a (removed a c.args.number c.args.moment).archive k c.args.disk.now c.text.new.disk c.end_message.new.disk store c.text.ensures.crash
        (c.end_message.ensures.crash a cache after room shown);
    done = λ a cache store room.
        let k = g.D.Disk.content c.args.disk.now in
        let own = subst (λ (v : StoreState). IsStoreWith v cache a k) (sym c.self.view_is) store in
        let keeps = store_keeps c.args.self.now cache a k store in
        let given = text-gives c.args.self.now a keeps c.args.number c.in-Some.index c.in-Some.ensures.known [] c.text.new.into (Ok tt)
        (subst (λ (l : List ℕ). GivesTextOf a c.in-Some.index l c.text.new.into (Ok tt)) c.new-text.ensures (c.in-Ok.ensures.archive a cache own)) in
        let shown : text_of (live a.entries) c.args.number ≡ Some c.as_slice.result.now = given.1 ∙ ap Some (sym given.2 ∙ sym c.as_slice.ensures) in
        let after = still_own c.args.self.now cache a k (g.D.Disk.content c.text.new.disk) c.text.ensures.same store in
        c.end_message.ensures.done a cache after room shown;
    settled = c.end_message.ensures.settled;
    goes_on = c.end_message.ensures.goes_on;
    files = when-done c.end_message.result (Unit {0}) tt;
    slot = c.end_message.ensures.slot;
    same = c.end_message.ensures.same;
    untouched = refused-then c.end_message.result _ _ (λ still. rw still (record { same = c.text.ensures.same; crash = c.text.ensures.crash })) c.end_message.ensures.untouched;
    unmoved = if-read c.end_message.result _ c.end_message.ensures.read;
    sizes = c.end_message.ensures.sizes;
    cause = subst (λ (n : ℕ). RoseIf (c.end_message.result ≡ answer.DiskFault) n (g.D.Disk.faults c.end_message.new.disk)) (c.in-Ok.ensures.cause.kept (λ fault. absurd (cc fault))) c.end_message.ensures.cause;
    for_command = c.end_message.ensures.for_command;
    count = subst (λ (n : ℕ). ReadsOnce (g.D.Disk.reads c.args.disk.now) n) (sym c.end_message.ensures.count) (record { later = c.text.ensures.fewest; most = c.text.ensures.count });
    rooted = done-then c.end_message.result _ _ (rooted-read c.end_message.new.self.slot (spelling c.end_message.new.self.root) (g.D.Disk.content c.args.disk.now) (g.D.Disk.content c.text.new.disk) (g.D.Disk.content c.end_message.new.disk) c.text.ensures.same) c.end_message.ensures.rooted;
    crash_root = read_begins g.D.Disk (1 - c.args.self.now.slot) c.args.disk.now c.text.new.disk c.end_message.new.disk (omega arith) c.text.ensures.same c.text.ensures.crash c.end_message.ensures.crash_root;
    damage = damage-back c.args.self.now (g.D.Disk.content c.args.disk.now) (g.D.Disk.content c.text.new.disk) c.end_message.result c.text.ensures.same c.end_message.ensures.damage;
  };
}

pub returns : goal.returns
returns g c =
    let v : StoreState = c.args.self.now in
    let told = unread-then v c.in-Some.index c.in-Err.refusal c.unread.result c.unread.ensures in
    record {
      taken = refused-taken g.D.Disk g.met.D.Disk.only_now c.law_of_stores.ensures.recovers (Remove c.args.number) (λ (a : Archive). removed a c.args.number c.args.moment) c.args.disk.now c.text.new.disk v c.unread.result (told (λ (r : Answer). OnDone r ⊥) tt tt (λ file at. tt)) c.requires.sizes (record { same = c.text.ensures.same; crash = c.text.ensures.crash })
          (λ a cache store own. unread-done v cache cache a c.in-Some.index c.new-text.result c.text.new.into c.in-Err.refusal c.unread.result (removed a c.args.number c.args.moment) (g.D.Disk.content c.text.new.disk) c.unread.ensures
          (c.in-Err.ensures.archive a cache (subst (λ (u : StoreState). IsStoreWith u cache a (g.D.Disk.content c.args.disk.now)) (sym c.self.view_is) store)) own)
          (told (λ (r : Answer). IfUnread r (c.text.new.disk ≡ c.args.disk.now)) tt tt (λ file at. tt)) (unread-cause v c.in-Some.index c.in-Err.refusal c.unread.result _ _ c.unread.ensures c.in-Err.ensures.cause)
          (told (AnswersRemoval c.args.number) tt tt (λ file at. tt)) (record { later = c.text.ensures.fewest; most = c.text.ensures.count })
          (entry-damage v (g.D.Disk.content c.args.disk.now) c.unread.result (unread-damage c.self.inside.store v c.in-Some.index c.new-text.result c.text.new.into c.in-Err.refusal c.unread.result (g.D.Disk.content c.args.disk.now) c.self.view_is c.unread.ensures c.in-Err.ensures.text c.in-Err.ensures.found));
    }

pub unread-requires : goal.unread-requires
unread-requires g c = record { there = inside-message c.args.self.now c.args.self.now c.args.number c.in-Some.index refl c.in-Some.ensures.known.message }
