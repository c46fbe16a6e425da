use Rattle.std.proofs.Common.{◌≡◌, ◌∙◌, sym, ap, subst, inl, inr}
use Rattle.std.proofs.lemmas.Bool.{false≢true}
use Rattle.arch_model.specs.Archives.{Archive}
use Rattle.arch_model.specs.Delivery.{applied}
use Rattle.arch_model.specs.Keeping.{ReadsFor, ending}
use Rattle.arch_model.proofs.Keepers.{cause-earlier}
use Rattle.disk_model.specs.Moments.{LeavesOnly}
use Rattle.store_finding.specs.Kept.{IsStoreWith}
use Rattle.epoch_store.specs.Commands.{RecoversOneOf}
use Rattle.archive_core.specs.Commands.{DoneBy, IfRemoval, IfUnreadFor, OnDone, cache_left, is_delivery}
use Rattle.archive_core.specs.DamageTold.{TellsDamage}
use Rattle.archive_core.specs.Engines.{Owning, HoldsArchive, IfRefused, OnlyReadsOn, TakesOn, is_ready}
use Rattle.archive_core.proofs.Engines.{not_true, commanded-after, refused-comes, refused-takes, refused-for, refused-ready, refused-cause, ready-after}
use Rattle.archive_core.proofs.engine.EngineKeep.command.Goals as goal

pub take-requires-clause-ready : goal.take-requires-clause-ready
take-requires-clause-ready g c = not_true c.fresh.new.self.stale c.in-Ok.ensures.ready

pub returns-in-Ok-clause-done : goal.returns-in-Ok-clause-done
returns-in-Ok-clause-done g c = λ s fits.
    let found = c.in-Ok.ensures.found s fits in
    commanded-after g.D.Disk g.met.D.Disk.counts_now g.met.D.Disk.only_now g.met.D.Disk.reads_fit c.args.self.now c.fresh.new.self c.take.new.self s found.0
    c.args.command.now c.args.moment c.take.result found.1 found.2 found.3 c.in-Ok.ensures.ready (λ ready. (c.in-Ok.ensures.nothing ready).1) c.take.ensures.takes c.take.ensures.stands

pub returns-in-Ok-clause-ready : goal.returns-in-Ok-clause-ready
returns-in-Ok-clause-ready g c = ready-after (is_ready c.args.self.now) (is_ready c.take.new.self) (ending c.take.result) c.take.ensures.ready

pub returns-in-Ok-clause-cause : goal.returns-in-Ok-clause-cause
returns-in-Ok-clause-cause g c =
    cause-earlier (g.D.Disk.faults c.args.self.now.disk) (g.D.Disk.faults c.fresh.new.self.disk) (g.D.Disk.faults c.take.new.self.disk) (ending c.take.result) c.in-Ok.ensures.cause c.take.ensures.cause

pub returns-in-Ok-clause-reads : goal.returns-in-Ok-clause-reads
returns-in-Ok-clause-reads g c = λ ready.
    subst (λ (o : Owning g.row.D.Denot). ReadsFor c.args.command.now (g.D.Disk.reads o.disk) (g.D.Disk.reads c.take.new.self.disk)) (c.in-Ok.ensures.nothing ready).1 c.take.ensures.reads

pub returns-in-Ok-clause-unread : goal.returns-in-Ok-clause-unread
returns-in-Ok-clause-unread g c = λ a store ready unknown.
    let same = (c.in-Ok.ensures.nothing ready).1 in
    let held = subst (λ (o : Owning g.row.D.Denot). HoldsArchive g.D.Disk.content o a) (sym same) store in
    c.take.ensures.unread a held.0 held.1 unknown ∙ ap (λ (o : Owning g.row.D.Denot). g.D.Disk.reads o.disk) same

pub returns-in-Err-clause-done : goal.returns-in-Err-clause-done
returns-in-Err-clause-done g c = λ s fits.
    let found = c.in-Err.ensures.found s fits in (
      found.0,
      found.1,
      refused-comes (is_ready c.args.self.now) s found.0 (λ (a : Archive). applied a c.args.command.now c.args.moment) c.in-Err.refusal c.answer.result c.answer.ensures (λ ready. (c.in-Err.ensures.nothing ready).0) found.2,
      refused-takes g.D.Disk c.args.self.now c.fresh.new.self s found.0 c.args.command.now c.args.moment c.in-Err.refusal c.answer.result c.answer.ensures (λ ready. (c.in-Err.ensures.nothing ready).0) found.2,
    )

pub returns-in-Err-clause-ready : goal.returns-in-Err-clause-ready
returns-in-Err-clause-ready g c = refused-ready (is_ready c.args.self.now) (is_ready c.fresh.new.self) c.in-Err.refusal c.answer.result c.answer.ensures (λ ready. (c.in-Err.ensures.nothing ready).0) c.in-Err.ensures.ready

pub returns-in-Err-clause-cause : goal.returns-in-Err-clause-cause
returns-in-Err-clause-cause g c = refused-cause (g.D.Disk.faults c.args.self.now.disk) (g.D.Disk.faults c.fresh.new.self.disk) c.in-Err.refusal c.answer.result c.answer.ensures c.in-Err.ensures.cause

pub returns-in-Err-clause-reads : goal.returns-in-Err-clause-reads
returns-in-Err-clause-reads g c = λ ready. absurd (false≢true (c.in-Err.ensures.nothing ready).0)

pub returns-in-Err-clause-unread : goal.returns-in-Err-clause-unread
returns-in-Err-clause-unread g c = λ a store ready unknown. absurd (false≢true (c.in-Err.ensures.nothing ready).0)

pub returns-in-Ok-clause-crash : goal.returns-in-Ok-clause-crash
returns-in-Ok-clause-crash g c = λ a cache ready.
    subst (λ (o : Owning g.row.D.Denot). IsStoreWith o.view cache a (g.D.Disk.content o.disk) → LeavesOnly g.D.Disk o.disk c.take.new.self.disk (RecoversOneOf cache a (cache_left c.args.command.now cache) (applied a c.args.command.now c.args.moment).archive)) (c.in-Ok.ensures.nothing ready).1
    (c.take.ensures.crash a cache)

pub returns-in-Ok-clause-store : goal.returns-in-Ok-clause-store
returns-in-Ok-clause-store g c = λ a cache ready.
    subst (λ (o : Owning g.row.D.Denot). IsStoreWith o.view cache a (g.D.Disk.content o.disk) → DoneBy c.take.new.self.view cache (cache_left c.args.command.now cache) a (applied a c.args.command.now c.args.moment) c.take.result (g.D.Disk.content c.take.new.self.disk)) (c.in-Ok.ensures.nothing ready).1
    (c.take.ensures.done a cache)

pub returns-in-Ok-clause-removed : goal.returns-in-Ok-clause-removed
returns-in-Ok-clause-removed g c = λ ready.
    subst (λ (o : Owning g.row.D.Denot). IfRemoval (is_delivery c.args.command.now) ((a : Archive) → HoldsArchive g.D.Disk.content o a → OnDone c.take.result (HoldsArchive g.D.Disk.content c.take.new.self (applied a c.args.command.now c.args.moment).archive))) (c.in-Ok.ensures.nothing ready).1 c.take.ensures.removed

pub returns-in-Ok-clause-untouched : goal.returns-in-Ok-clause-untouched
returns-in-Ok-clause-untouched g c = λ ready.
    subst (λ (o : Owning g.row.D.Denot). IfRefused c.take.result (OnlyReadsOn g.D.Disk o c.take.new.self)) (c.in-Ok.ensures.nothing ready).1 c.take.ensures.untouched

pub returns-in-Ok-clause-unmoved : goal.returns-in-Ok-clause-unmoved
returns-in-Ok-clause-unmoved g c = λ ready. subst (λ (o : Owning g.row.D.Denot). IfUnreadFor c.args.command.now c.take.result (c.take.new.self ≡ o)) (c.in-Ok.ensures.nothing ready).1 c.take.ensures.unmoved

pub returns-in-Ok-clause-damage : goal.returns-in-Ok-clause-damage
returns-in-Ok-clause-damage g c = λ ready. subst (λ (o : Owning g.row.D.Denot). TellsDamage o.view (g.D.Disk.content o.disk) c.take.result) (c.in-Ok.ensures.nothing ready).1 c.take.ensures.damage

pub returns-in-Err-clause-for_command : goal.returns-in-Err-clause-for_command
returns-in-Err-clause-for_command g c = refused-for c.args.command.now c.in-Err.refusal c.answer.result c.answer.ensures

pub returns-in-Err-clause-crash : goal.returns-in-Err-clause-crash
returns-in-Err-clause-crash g c = λ a cache ready own. absurd (false≢true (c.in-Err.ensures.nothing ready).0)

pub returns-in-Err-clause-store : goal.returns-in-Err-clause-store
returns-in-Err-clause-store g c = λ a cache ready own. absurd (false≢true (c.in-Err.ensures.nothing ready).0)

pub returns-in-Err-clause-removed : goal.returns-in-Err-clause-removed
returns-in-Err-clause-removed g c = λ ready. absurd (false≢true (c.in-Err.ensures.nothing ready).0)

pub returns-in-Err-clause-untouched : goal.returns-in-Err-clause-untouched
returns-in-Err-clause-untouched g c = λ ready. absurd (false≢true (c.in-Err.ensures.nothing ready).0)

pub returns-in-Err-clause-unmoved : goal.returns-in-Err-clause-unmoved
returns-in-Err-clause-unmoved g c = λ ready. absurd (false≢true (c.in-Err.ensures.nothing ready).0)

pub returns-in-Err-clause-damage : goal.returns-in-Err-clause-damage
returns-in-Err-clause-damage g c = λ ready. absurd (false≢true (c.in-Err.ensures.nothing ready).0)

pub returns-in-Ok-clause-takes : goal.returns-in-Ok-clause-takes
returns-in-Ok-clause-takes g c = λ ready. subst (λ (o : Owning g.row.D.Denot). TakesOn g.D.Disk o c.take.new.self c.args.command.now c.args.moment c.take.result) (c.in-Ok.ensures.nothing ready).1 c.take.ensures.takes

pub returns-in-Ok-clause-anew : goal.returns-in-Ok-clause-anew
returns-in-Ok-clause-anew g c = λ stale. inl (record { middle = c.fresh.new.self; opened = c.in-Ok.ensures.opened stale; takes = c.take.ensures.takes })

pub returns-in-Err-clause-takes : goal.returns-in-Err-clause-takes
returns-in-Err-clause-takes g c = λ ready. absurd (false≢true (c.in-Err.ensures.nothing ready).0)

pub returns-in-Err-clause-anew : goal.returns-in-Err-clause-anew
returns-in-Err-clause-anew g c = λ stale. inr (record { why = c.in-Err.refusal; answer_is = c.answer.ensures; opened = c.in-Err.ensures.opened stale; kindly = c.in-Err.ensures.refused stale })
