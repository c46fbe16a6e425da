use Rattle.std.specs.Prelude.{◌+◌, ◌-◌, ◌<◌, ◌^◌}
use Rattle.arch_base.specs.declared.ids.Form.{Form}
use Rattle.std.proofs.Common.{◌≡◌, ◌∙◌, ◌||◌, ℕ, List, false, not, is_ok, ap, sym, subst, arith}
use Rattle.std.proofs.lemmas.Bool.{false≢true}
use Rattle.arch_model.specs.Keeping.{text_known}
use Rattle.archive_core.specs.Commands.{cache_left, is_delivery, IfDelivery, TellsText}
use Rattle.archive_core.specs.DamageTold.{TellsDamage}
use Rattle.disk_model.specs.Disk.{WhereTold}
use Rattle.epoch_store.specs.Commands.{StoreHasSizes}
use Rattle.store_finding.specs.Kept.{IsStoreWith}
use Rattle.archive_core.specs.Engines.{Owning, needs_opening, reading-same}
use Rattle.arch_model.specs.Archives.{Archive}
use Rattle.arch_model.specs.Delivery.{applied}
use Rattle.archive_core.proofs.RootBytes.{begins-between}
use Rattle.archive_core.proofs.Engines.{starved-at, starved-takes, taken-by-parts, still-left, left-from, done-from, taken-from, answer-cause-from, refused-from, unmoved-from, removed-from, of-removal, kept-or-none}
use Rattle.archive_core.proofs.Indexes.{form-is}
use Rattle.archive_core.proofs.KeepingUp.{kept-up, followed-ready, needs-stale, on-ok, stays-ready}
use Rattle.archive_core.proofs.Standing.{store_keeps}
use Rattle.archive_core.proofs.engine.Engine.take.Goals as goal

pub returns-then-not-has_next_root-clause-crash : goal.returns-then-not-has_next_root-clause-crash
returns-then-not-has_next_root-clause-crash g c = λ a cache store. still-left g.D.Disk g.met.D.Disk.counts_now g.met.D.Disk.only_now g.met.D.Disk.reads_fit c.args.self.now a (applied a c.args.command.now c.args.moment).archive cache (cache_left c.args.command.now cache) store

pub returns-then-not-has_next_root-clause-done : goal.returns-then-not-has_next_root-clause-done
returns-then-not-has_next_root-clause-done g c = λ a cache store. store

pub returns-then-not-has_next_root-clause-stands : goal.returns-then-not-has_next_root-clause-stands
returns-then-not-has_next_root-clause-stands g c = λ a store. starved-at g.D.Disk g.met.D.Disk.counts_now g.met.D.Disk.only_now g.met.D.Disk.reads_fit c.args.self.now a
    (λ (b : Archive). applied b c.args.command.now c.args.moment) store

pub returns-clause-crash : goal.returns-clause-crash
returns-clause-crash g c =
    let room = c.has_next_root.ensures.0 c.if-not-has_next_root.false in
    left-from g.D.Disk g.met.D.Disk.counts_now g.met.D.Disk.only_now g.met.D.Disk.reads_fit
    (record { disk = c.self.inside.disk; view = c.self.inside.archive; views = c.self.inside.views; stale = c.self.inside.stale }) c.args.self.now c.self.view_is c.command_keeping-answer.new.disk
    (λ (a : Archive). (applied a c.args.command.now c.args.moment).archive) (cache_left c.args.command.now) (λ a cache store. c.command_keeping-answer.ensures.taken.crash a cache store room)

pub returns-clause-done : goal.returns-clause-done
returns-clause-done g c =
    let room = c.has_next_root.ensures.0 c.if-not-has_next_root.false in
    done-from g.D.Disk g.met.D.Disk.counts_now g.met.D.Disk.only_now g.met.D.Disk.reads_fit
    (record { disk = c.self.inside.disk; view = c.self.inside.archive; views = c.self.inside.views; stale = c.self.inside.stale }) c.args.self.now c.self.view_is c.command_keeping-answer.new.self c.command_keeping-answer.new.disk
    (λ (a : Archive). applied a c.args.command.now c.args.moment) (cache_left c.args.command.now) c.command_keeping-answer.result (λ a cache store. c.command_keeping-answer.ensures.taken.done a cache store room)

pub returns-clause-stands : goal.returns-clause-stands
returns-clause-stands g c =
    let room = c.has_next_root.ensures.0 c.if-not-has_next_root.false in
    let reply = c.command_keeping-answer.result in
    let ok = is_ok c.follow-followed.result in
    let wanted = λ (a : Archive). applied a c.args.command.now c.args.moment in
    let stale_is : c.is_left_stale-self-inside.result ≡ (needs_opening reply || not ok) = c.is_left_stale-self-inside.ensures in
    taken-from g.D.Disk g.met.D.Disk.counts_now g.met.D.Disk.only_now g.met.D.Disk.reads_fit
    (record { disk = c.self.inside.disk; view = c.self.inside.archive; views = c.self.inside.views; stale = c.self.inside.stale }) c.args.self.now c.self.view_is c.law_of_recovery.ensures.caches
    (record { disk = c.command_keeping-answer.new.disk; view = c.command_keeping-answer.new.self; views = c.follow-followed.new.views; stale = c.is_left_stale-self-inside.result })
    wanted (cache_left c.args.command.now) reply (kept-or-none c.args.command.now) (λ needs. stale_is ∙ needs-stale (needs_opening reply) ok needs)
    (λ a cache store. c.command_keeping-answer.ensures.taken.crash a cache store room) (begins-between g.D.Disk (1 - c.self.inside.archive.slot) c.self.inside.disk c.command_keeping-answer.new.disk (omega arith) c.command_keeping-answer.ensures.taken.crash_root) (λ a cache store. c.command_keeping-answer.ensures.taken.done a cache store room)
    (λ a cache store old_is.
    kept-up a c.args.command.now c.args.moment c.command_keeping-answer.new.kept.text c.command_keeping-answer.new.gone c.command_keeping-answer.new.self cache (cache_left c.args.command.now cache) (g.D.Disk.content c.command_keeping-answer.new.disk) c.self.inside.views c.follow-followed.new.views (not c.is_left_stale-self-inside.result) ok reply
    (store_keeps c.self.inside.archive cache a (g.D.Disk.content c.self.inside.disk) store).valid old_is (c.command_keeping-answer.ensures.taken.done a cache store room)
    (c.command_keeping-answer.ensures.kept a cache store) (c.command_keeping-answer.ensures.gone a cache store) (λ ready. followed-ready (needs_opening reply) ok (ap not (sym stale_is) ∙ ready)) c.follow-followed.ensures.refused
    (λ went. on-ok c.follow-followed.result _ (c.follow-followed.ensures.rows a.config.form
    (subst (λ (f : Form). IfDelivery (is_delivery c.args.command.now) (TellsText f reply c.command_keeping-answer.new.kept)) (form-is c.self.inside.archive a (store_keeps c.self.inside.archive cache a (g.D.Disk.content c.self.inside.disk) store)) c.command_keeping-answer.ensures.text)) went))
    c.command_keeping-answer.ensures.taken.untouched c.command_keeping-answer.ensures.taken.settled

pub returns-clause-ready : goal.returns-clause-ready
returns-clause-ready g c = stays-ready c.is_left_stale-self-inside.result (is_ok c.follow-followed.result) c.command_keeping-answer.result c.is_left_stale-self-inside.ensures c.follow-followed.ensures.refused

pub follow-followed-requires : goal.follow-followed-requires
follow-followed-requires g c = record { text = (c.self.inside.archive.root.config.form, c.command_keeping-answer.ensures.text) }

pub returns-clause-cause : goal.returns-clause-cause
returns-clause-cause g c = answer-cause-from g.D.Disk g.met.D.Disk.counts_now g.met.D.Disk.only_now g.met.D.Disk.reads_fit
    (record { disk = c.self.inside.disk; view = c.self.inside.archive; views = c.self.inside.views; stale = c.self.inside.stale }) c.args.self.now c.self.view_is
    g.D.Disk.faults c.command_keeping-answer.new.disk c.command_keeping-answer.result c.command_keeping-answer.ensures.taken.cause

pub returns-clause-unread : goal.returns-clause-unread
returns-clause-unread g c =
    subst (λ (o : Owning g.row.D.Denot). (a : Archive) (cache : List ℕ) → IsStoreWith o.view cache a (g.D.Disk.content o.disk) → text_known a c.args.command.now ≡ false → g.D.Disk.reads c.command_keeping-answer.new.disk ≡ g.D.Disk.reads o.disk)
    c.self.view_is c.command_keeping-answer.ensures.unread

pub returns-then-not-has_next_root-clause-untouched : goal.returns-then-not-has_next_root-clause-untouched
returns-then-not-has_next_root-clause-untouched g c = reading-same g.D.Disk g.met.D.Disk.counts_now g.met.D.Disk.only_now c.args.self.now

pub returns-clause-untouched : goal.returns-clause-untouched
returns-clause-untouched g c = refused-from g.D.Disk g.met.D.Disk.counts_now g.met.D.Disk.only_now g.met.D.Disk.reads_fit
    (record { disk = c.self.inside.disk; view = c.self.inside.archive; views = c.self.inside.views; stale = c.self.inside.stale }) c.args.self.now c.self.view_is c.self.inside.archive.root.config.form
    (record { disk = c.command_keeping-answer.new.disk; view = c.command_keeping-answer.new.self; views = c.follow-followed.new.views; stale = c.is_left_stale-self-inside.result })
    (is_ok c.follow-followed.result) c.args.command.now c.command_keeping-answer.new.gone c.command_keeping-answer.new.kept.text c.args.moment c.command_keeping-answer.result c.requires.ready c.is_left_stale-self-inside.ensures c.follow-followed.ensures.refused c.command_keeping-answer.ensures.taken.same
    (λ went. on-ok c.follow-followed.result _ (c.follow-followed.ensures.rows c.self.inside.archive.root.config.form c.command_keeping-answer.ensures.text) went) c.command_keeping-answer.ensures.taken.untouched

pub returns-clause-unmoved : goal.returns-clause-unmoved
returns-clause-unmoved g c = unmoved-from g.D.Disk g.met.D.Disk.counts_now g.met.D.Disk.only_now g.met.D.Disk.reads_fit
    (record { disk = c.self.inside.disk; view = c.self.inside.archive; views = c.self.inside.views; stale = c.self.inside.stale }) c.args.self.now c.self.view_is c.self.inside.archive.root.config.form
    (record { disk = c.command_keeping-answer.new.disk; view = c.command_keeping-answer.new.self; views = c.follow-followed.new.views; stale = c.is_left_stale-self-inside.result })
    (is_ok c.follow-followed.result) c.args.command.now c.command_keeping-answer.new.gone c.command_keeping-answer.new.kept.text c.args.moment c.command_keeping-answer.result c.requires.ready c.is_left_stale-self-inside.ensures c.follow-followed.ensures.refused c.command_keeping-answer.ensures.taken.same
    (λ went. on-ok c.follow-followed.result _ (c.follow-followed.ensures.rows c.self.inside.archive.root.config.form c.command_keeping-answer.ensures.text) went) c.command_keeping-answer.ensures.taken.unmoved

pub returns-then-not-has_next_root-clause-removed : goal.returns-then-not-has_next_root-clause-removed
returns-then-not-has_next_root-clause-removed g c = of-removal (is_delivery c.args.command.now) _ (λ a held. tt)

pub returns-clause-removed : goal.returns-clause-removed
returns-clause-removed g c =
    let room = c.has_next_root.ensures.0 c.if-not-has_next_root.false in
    removed-from g.D.Disk g.met.D.Disk.counts_now g.met.D.Disk.only_now g.met.D.Disk.reads_fit
    (record { disk = c.self.inside.disk; view = c.self.inside.archive; views = c.self.inside.views; stale = c.self.inside.stale }) c.args.self.now c.self.view_is
    (record { disk = c.command_keeping-answer.new.disk; view = c.command_keeping-answer.new.self; views = c.follow-followed.new.views; stale = c.is_left_stale-self-inside.result })
    c.args.command.now c.args.moment c.command_keeping-answer.new.kept.text c.command_keeping-answer.new.gone c.command_keeping-answer.result (λ a cache store. c.command_keeping-answer.ensures.taken.done a cache store room) c.command_keeping-answer.ensures.gone c.follow-followed.ensures.removed c.command_keeping-answer.ensures.taken.settled

pub returns-clause-damage : goal.returns-clause-damage
returns-clause-damage g c = subst (λ (e : Owning g.row.D.Denot). TellsDamage e.view (g.D.Disk.content e.disk) c.command_keeping-answer.result) c.self.view_is c.command_keeping-answer.ensures.taken.damage

pub returns-then-not-has_next_root-clause-takes : goal.returns-then-not-has_next_root-clause-takes
returns-then-not-has_next_root-clause-takes g c = starved-takes g.D.Disk g.met.D.Disk.counts_now g.met.D.Disk.only_now g.met.D.Disk.reads_fit c.args.self.now c.args.command.now c.args.moment
    (subst (λ (o : Owning g.row.D.Denot). o.view.root.sequence + 1 < 2 ^ 64 → ⊥) c.self.view_is (λ room. false≢true (sym c.if-not-has_next_root.true ∙ c.has_next_root.ensures.1 room)))
    (subst (λ (o : Owning g.row.D.Denot). o.stale ≡ false → WhereTold (StoreHasSizes o.view) (g.D.Disk.content o.disk)) c.self.view_is c.self.invariant c.requires.ready)

pub returns-clause-takes : goal.returns-clause-takes
returns-clause-takes g c = taken-by-parts g.D.Disk g.met.D.Disk.counts_now g.met.D.Disk.only_now g.met.D.Disk.reads_fit
    (record { disk = c.self.inside.disk; view = c.self.inside.archive; views = c.self.inside.views; stale = c.self.inside.stale }) c.args.self.now c.self.view_is
    (record { disk = c.command_keeping-answer.new.disk; view = c.command_keeping-answer.new.self; views = c.follow-followed.new.views; stale = c.is_left_stale-self-inside.result })
    c.args.command.now c.args.moment c.command_keeping-answer.result c.command_keeping-answer.ensures.taken
