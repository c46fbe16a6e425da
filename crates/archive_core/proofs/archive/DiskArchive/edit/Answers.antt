use Rattle.std.proofs.Common.{◌≡◌, ◌∙◌, ◌-◌, arith, [], ap, subst, sym, true, false, refl, rules, tests, ℕ, List}
use Rattle.arch_base.specs.Counts.{RoseIf}
use Rattle.arch_base.specs.declared.config.Config.{Config}
use Rattle.arch_base.specs.declared.ids.ObjectId.{ObjectId}
use Rattle.disk_model.specs.Moments.{LeavesOnly}
use Rattle.root_slots.specs.Spelling.{spelling}
use Rattle.arch_model.specs.Archives.{Archive, live, text_of}
use Rattle.arch_model.specs.Delivery.{Done, edited, edited_text}
use Rattle.arch_model.specs.declared.answer.Answer.TheVariants as answer
use Rattle.arch_model.specs.declared.command.Command.TheVariants.{Edit}
use Rattle.epoch_store.proofs.Readying.{read_begins}
use Rattle.store_finding.specs.Kept.{StoreState, IsStoreWith}
use Rattle.epoch_store.specs.Commands.{EditsFiles, RecoversOneOf}
use Rattle.archive_core.specs.Commands.{DoneBy}
use Rattle.archive_core.specs.Walks.{looks-joined}
use Rattle.archive_core.proofs.EditDone.{unformed-unmoved, unformed-answers, unformed-tells, unformed-never, sizes-read, cause-compared, unformed-done, same-done}
use Rattle.archive_core.proofs.KeptTexts.{delivery-edit}
use Rattle.archive_core.proofs.Replies.{done-then, refused-then}
use Rattle.archive_core.proofs.Standing.{store_keeps, still_own, read-first}
use Rattle.archive_core.proofs.Taking.{absent-refuses, mirror-refuses, quiet-taken, refused-taken, rooted-read, steady-cause}
use Rattle.archive_core.proofs.TellingDamage.{damage-back, entry-damage}
use Rattle.archive_core.proofs.Unmoved.{if-read-edit}
use Rattle.archive_core.proofs.WithoutText.{edit-makes, may-read, shown-text, writable-of}
use Rattle.archive_core.proofs.archive.DiskArchive.edit.Goals as goal

pub returns-then-config-clause-taken : goal.returns-then-config-clause-taken
returns-then-config-clause-taken g c =
    quiet-taken g.D.Disk g.met.D.Disk.only_now c.law_of_stores.ensures.recovers (Edit c.args.number c.args.bytes) (λ (a : Archive). edited a c.args.number c.args.bytes.now c.args.moment) c.args.disk.now c.args.self.now answer.IsMirror tt refl refl (λ fault. absurd (cc fault)) c.requires.sizes
    (λ a keeps. mirror-refuses c.args.self.now a (Edit c.args.number c.args.bytes) c.args.moment keeps (ap (λ (n : Config). n.mirror) (sym c.config.ensures) ∙ c.if-config.true)) refl tt

pub returns-in_default-clause-taken : goal.returns-in_default-clause-taken
returns-in_default-clause-taken g c =
    quiet-taken g.D.Disk g.met.D.Disk.only_now c.law_of_stores.ensures.recovers (Edit c.args.number c.args.bytes) (λ (a : Archive). edited a c.args.number c.args.bytes.now c.args.moment) c.args.disk.now c.args.self.now (answer.NotLive c.args.number) tt refl refl (λ fault. absurd (cc fault)) c.requires.sizes
    (λ a keeps. absent-refuses a (answer.NotLive c.args.number) (text_of (live a.entries) c.args.number) (edited_text a c.args.number c.args.bytes.now c.args.moment) refl
    (writable-of c.args.self.now a keeps (ap (λ (n : Config). n.mirror) (sym c.config.ensures) ∙ c.if-config.false)) (c.in_default.ensures.live a keeps)) refl refl

pub returns-in-Err-clause-taken : goal.returns-in-Err-clause-taken
returns-in-Err-clause-taken g c =
    refused-taken g.D.Disk g.met.D.Disk.only_now c.law_of_stores.ensures.recovers (Edit c.args.number c.args.bytes) (λ (a : Archive). edited a c.args.number c.args.bytes.now c.args.moment) c.args.disk.now c.is_same.new.disk c.args.self.now c.in-Err.answer (unformed-never c.in-Err.answer ⊥ c.in-Err.ensures.refused) c.requires.sizes c.is_same.ensures.looks
    (λ a cache store own.
    let v : StoreState = c.args.self.now in
    let k = g.D.Disk.content c.args.disk.now in
    let keeps = store_keeps v cache a k store in
    let writable : v.root.config.mirror ≡ false = ap (λ (n : Config). n.mirror) (sym c.config.ensures) ∙ c.if-config.false in
    let text = shown-text (live a.entries) c.args.number (c.in-Some.ensures.live a keeps) in
    unformed-done v cache a c.args.number c.args.bytes.now c.args.moment text.0 (g.D.Disk.content c.is_same.new.disk) c.in-Err.answer own (writable-of v a keeps writable) text.1 (c.in-Err.ensures.compared a cache store))
    (unformed-unmoved c.in-Err.answer _ c.in-Err.ensures.refused c.in-Err.ensures.unmoved) (cause-compared c.in-Err.answer (g.D.Disk.faults c.args.disk.now) (g.D.Disk.faults c.is_same.new.disk) c.in-Err.ensures.cause)
    (unformed-answers c.args.number c.in-Err.answer c.in-Err.ensures.refused) c.is_same.ensures.fewest (entry-damage c.args.self.now (g.D.Disk.content c.args.disk.now) c.in-Err.answer c.in-Err.ensures.damage)

pub returns-in-Ok-true-clause-taken : goal.returns-in-Ok-true-clause-taken
returns-in-Ok-true-clause-taken g c =
    refused-taken g.D.Disk g.met.D.Disk.only_now c.law_of_stores.ensures.recovers (Edit c.args.number c.args.bytes) (λ (a : Archive). edited a c.args.number c.args.bytes.now c.args.moment) c.args.disk.now c.is_same.new.disk c.args.self.now (answer.Duplicate c.args.number) tt c.requires.sizes c.is_same.ensures.looks
    (λ a cache store own.
    let v : StoreState = c.args.self.now in
    let k = g.D.Disk.content c.args.disk.now in
    let keeps = store_keeps v cache a k store in
    let writable : v.root.config.mirror ≡ false = ap (λ (n : Config). n.mirror) (sym c.config.ensures) ∙ c.if-config.false in
    let text = shown-text (live a.entries) c.args.number (c.in-Some.ensures.live a keeps) in
    let told : c.in-Ok-true.field-0 ≡ true = search (rules, tests) in
    same-done v cache a c.args.number c.args.bytes.now c.args.moment text.0 (g.D.Disk.content c.is_same.new.disk) own (writable-of v a keeps writable) text.1 (sym told ∙ c.in-Ok-true.ensures.compared a cache store text.0 text.1))
    tt (steady-cause _ _ _ (λ fault. absurd (cc fault)) (c.in-Ok-true.ensures.cause.kept (λ fault. absurd (cc fault)))) tt c.is_same.ensures.fewest tt

pub returns-in-Ok-false-clause-taken : goal.returns-in-Ok-false-clause-taken
returns-in-Ok-false-clause-taken g c =
    let edits = c.replace.ensures.edits in
    let reply = c.replace.result in
    let told : c.in-Ok-false.field-0 ≡ false = search (rules, tests) in
    let writable : c.args.self.now.root.config.mirror ≡ false = ap (λ (n : Config). n.mirror) (sym c.config.ensures) ∙ c.if-config.false in
    let made = λ (a : Archive) (cache : List ℕ) (store : IsStoreWith c.args.self.now cache a (g.D.Disk.content c.args.disk.now)). (let keeps = store_keeps c.args.self.now cache a (g.D.Disk.content c.args.disk.now) store in edit-makes c.args.self.now a c.args.number c.args.bytes.now c.args.moment keeps writable (c.in-Some.ensures.live a keeps) (λ text is. sym (c.in-Ok-false.ensures.compared a cache store text is) ∙ told)) in
    let may = may-read c.args.self.now c.stored.result.now c.args.number c.in-Some.index c.index-stored-index.result (c.stored.ensures ∙ ap (λ (u : StoreState). u.entries) c.self.view_is) c.in-Some.ensures.known.message (ap (λ (n : Config). n.mirror) (sym c.config.ensures) ∙ c.if-config.false) in
    record {
      crash = λ a cache store room.
          let is = made a cache store in
          let own = still_own c.args.self.now cache a (g.D.Disk.content c.args.disk.now) (g.D.Disk.content c.is_same.new.disk) c.is_same.ensures.looks.same store in
          read-first g.D.Disk c.law_of_stores.ensures.recovers c.args.self.now cache [] a (edited a c.args.number c.args.bytes.now c.args.moment).archive (g.D.Disk.content c.args.disk.now) c.args.disk.now c.is_same.new.disk c.replace.new.disk store c.is_same.ensures.looks.crash
          (subst (λ (b : Archive). LeavesOnly g.D.Disk c.is_same.new.disk c.replace.new.disk (RecoversOneOf cache a [] b)) (sym (ap (λ (d : Done). d.archive) is.2)) (edits.crash a cache is.0 own room is.1));
      done = λ a cache store room.
          let is = made a cache store in
          let own = still_own c.args.self.now cache a (g.D.Disk.content c.args.disk.now) (g.D.Disk.content c.is_same.new.disk) c.is_same.ensures.looks.same store in
          subst (λ (d : Done). DoneBy c.replace.new.self cache [] a d reply (g.D.Disk.content c.replace.new.disk)) (sym is.2) (edits.done a cache is.0 own room is.1);
      settled = edits.settled;
      goes_on = edits.goes_on;
      files = done-then reply _ _ (λ kept. (may.entry, (may.is_there, may.kind, may.number_is), subst (λ (id : ObjectId). EditsFiles c.args.self.now c.replace.new.self id) (sym may.blob_is) kept)) c.replace.ensures.kept_files;
      slot = edits.slot;
      same = edits.same;
      untouched = refused-then reply _ _ (looks-joined g.D.Disk g.met.D.Disk.only_now c.args.disk.now c.is_same.new.disk c.replace.new.disk c.is_same.ensures.looks) edits.untouched;
      unmoved = if-read-edit reply _ edits.late;
      sizes = edits.sizes;
      cause = subst (λ (n : ℕ). RoseIf (reply ≡ answer.DiskFault) n (g.D.Disk.faults c.replace.new.disk)) (c.in-Ok-false.ensures.cause.kept (λ fault. absurd (cc fault))) edits.cause;
      for_command = delivery-edit c.args.number reply edits.for_command;
      count = (let first = c.is_same.ensures.fewest in let more = c.replace.ensures.fewest in omega arith);
      rooted = done-then reply _ _ (rooted-read c.replace.new.self.slot (spelling c.replace.new.self.root) (g.D.Disk.content c.args.disk.now) (g.D.Disk.content c.is_same.new.disk) (g.D.Disk.content c.replace.new.disk) c.is_same.ensures.looks.same) edits.rooted;
      crash_root = read_begins g.D.Disk (1 - c.args.self.now.slot) c.args.disk.now c.is_same.new.disk c.replace.new.disk (omega arith) c.is_same.ensures.looks.same c.is_same.ensures.looks.crash edits.crash_root;
      damage = damage-back c.args.self.now (g.D.Disk.content c.args.disk.now) (g.D.Disk.content c.is_same.new.disk) reply c.is_same.ensures.looks.same edits.damage;
    }

pub returns-in-Err-clause-gone : goal.returns-in-Err-clause-gone
returns-in-Err-clause-gone g c = unformed-never c.in-Err.answer _ c.in-Err.ensures.refused

pub returns-in-Err-clause-text : goal.returns-in-Err-clause-text
returns-in-Err-clause-text g c = unformed-tells c.args.self.now.root.config.form c.in-Err.answer c.args.kept.now c.in-Err.ensures.refused

pub returns-in-Err-clause-kept : goal.returns-in-Err-clause-kept
returns-in-Err-clause-kept g c = λ a cache store. unformed-never c.in-Err.answer _ c.in-Err.ensures.refused

pub replace-requires-clause-may : goal.replace-requires-clause-may
replace-requires-clause-may g c =
    let may = may-read c.args.self.now c.stored.result.now c.args.number c.in-Some.index c.index-stored-index.result (c.stored.ensures ∙ ap (λ (u : StoreState). u.entries) c.self.view_is) c.in-Some.ensures.known.message (ap (λ (n : Config). n.mirror) (sym c.config.ensures) ∙ c.if-config.false) in
    may

pub replace-requires-clause-sizes : goal.replace-requires-clause-sizes
replace-requires-clause-sizes g c = sizes-read c.args.self.now (g.D.Disk.content c.args.disk.now) (g.D.Disk.content c.is_same.new.disk) c.is_same.ensures.looks.same c.requires.sizes

pub returns-in-Ok-false-clause-kept : goal.returns-in-Ok-false-clause-kept
returns-in-Ok-false-clause-kept g c = λ a cache store.
    let told : c.in-Ok-false.field-0 ≡ false = search (rules, tests) in
    let writable : c.args.self.now.root.config.mirror ≡ false = ap (λ (n : Config). n.mirror) (sym c.config.ensures) ∙ c.if-config.false in
    let made = λ (a : Archive) (cache : List ℕ) (store : IsStoreWith c.args.self.now cache a (g.D.Disk.content c.args.disk.now)). (let keeps = store_keeps c.args.self.now cache a (g.D.Disk.content c.args.disk.now) store in edit-makes c.args.self.now a c.args.number c.args.bytes.now c.args.moment keeps writable (c.in-Some.ensures.live a keeps) (λ text is. sym (c.in-Ok-false.ensures.compared a cache store text is) ∙ told)) in
    let is = made a cache store in
    let own = still_own c.args.self.now cache a (g.D.Disk.content c.args.disk.now) (g.D.Disk.content c.is_same.new.disk) c.is_same.ensures.looks.same store in
    done-then c.replace.result _ _ (λ keeps_text. (is.0, is.1, ap (λ (d : Done). d.archive) is.2 ∙ keeps_text)) (c.replace.ensures.kept a cache is.0 own is.1)

pub replace-requires-clause-formed : goal.replace-requires-clause-formed
replace-requires-clause-formed g c = c.in-Ok-false.ensures.formed
