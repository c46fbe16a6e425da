-- What the calls of a purge and an edit promise, by the calls of the store.
use Rattle.std.specs.Prelude.{◌≡◌, ◌+◌, ◌-◌, ◌<◌, ◌^◌, ℕ, List, [], Some, None, Result, Ok, Err, refl}
use Rattle.std.proofs.Common.{sym, ap, subst, arith}
use Rattle.arch_base.specs.Counts.{RoseIf}
use Rattle.arch_base.specs.declared.ids.ObjectId.{ObjectId}
use Rattle.mail_commits.specs.declared.ids.TextIds.{TextIds}
use Rattle.disk_model.specs.declared.disk.Disk.{Ghosts as Disk}
use Rattle.disk_model.specs.Disk.{Files, Image, WhereTold}
use Rattle.disk_model.specs.Moments.{LeavesOnly}
use Rattle.disk_model.specs.declared.name.FileName.{FileName}
use Rattle.git_objects.specs.Objects.{blob_id_of}
use Rattle.arch_model.specs.Archives.{Archive, live, text_of, with_entry, without_entries}
use Rattle.arch_model.specs.Delivery.{Done, collision, delivered, new_epoch, unless_refused}
use Rattle.arch_model.specs.declared.answer.Answer.{Answer}
use Rattle.arch_model.specs.declared.answer.Answer.TheVariants as answer
use Rattle.arch_judge.specs.Indexes.{IsArchiveIndex}
use Rattle.arch_judge.specs.declared.index.Index.{Index}
use Rattle.arch_judge.specs.declared.judging.Verdict.TheVariants.{Take, Refuse}
use Rattle.epoch_file.specs.declared.refusal.StoreRefusal.{StoreRefusal}
use Rattle.epoch_store.specs.Laws.{StoreRecovers}
use Rattle.epoch_store.specs.Promises.{ChangesStore, Renews, Replaces}
use Rattle.root_slots.proofs.OneRoots.{looks_one}
use Rattle.root_slots.specs.Spelling.{spelling}
use Rattle.epoch_store.proofs.Readying.{read_begins}
use Rattle.store_finding.specs.Kept.{StoreState, IsStoreWith, KeepsArchive}
use Rattle.epoch_store.specs.Commands.{StoreHasSizes, MayPurge, RecoversOneOf}
use Rattle.store_planning.specs.Dropping.{without_blob}
use Rattle.archive_core.specs.Commands.{AnswersDelivery, IfUnreadEdit, JudgesOn, OnDone, OnlyLooks, refusal_answer}
use Rattle.archive_core.specs.DamageTold.{TellsEntry}
use Rattle.archive_core.specs.Engines.{unchanged-is}
use Rattle.archive_core.specs.Kept.{IndexesKept}
use Rattle.archive_core.specs.Rewriting.{EditsAs, IsLate}
use Rattle.archive_core.specs.Walks.{looks-same}
use Rattle.archive_core.proofs.KeptTexts.{error-done, error-then}
use Rattle.archive_core.proofs.Replies.{when-refused, unless-failed}
use Rattle.archive_core.proofs.Standing.{not-started, only-read, read-first, still_own, store_keeps}
use Rattle.archive_core.proofs.Taking.{error-cause, error-unless, failed-done, rooted-read, still-sized, store-looks}
use Rattle.archive_core.proofs.TellingDamage.{entry-damage, store-damage}
use Rattle.archive_core.proofs.WithoutText.{index-without, live-message-is, message-agrees, purge-blob, refused-edit, unless-taken}

-- What holds of each refusal that comes late.
late-then : (reply : Answer) (P : Answer → Type 0) → IsLate reply → ((n : ℕ) → P (answer.Duplicate n)) → ((max : ℕ) → P (answer.Full max)) → ((n : ℕ) → P (answer.Collision n)) → P answer.DiskFault → ((file : FileName) (at : ℕ) → P (answer.Damaged file at)) → P answer.NoMemory → P reply
late-then answer.NoMemory P late same full other fault damage short = short
late-then answer.DiskFault P late same full other fault damage short = fault
late-then (answer.Duplicate n) P late same full other fault damage short = same n
late-then (answer.Full max) P late same full other fault damage short = full max
late-then (answer.Collision n) P late same full other fault damage short = other n
late-then (answer.Damaged file at) P late same full other fault damage short = damage file at
late-then reply P late same full other fault damage short = absurd late

late-never : (reply : Answer) (P : Type 0) → IsLate reply → OnDone reply P
late-never reply P late = late-then reply (λ (r : Answer). OnDone r P) late (λ n. tt) (λ max. tt) (λ n. tt) tt (λ file at. tt) tt

late-read : (reply : Answer) → IsLate reply → IfUnreadEdit reply ⊥
late-read reply late = late-then reply (λ (r : Answer). IfUnreadEdit r ⊥) late (λ n. tt) (λ max. tt) (λ n. tt) tt (λ file at. tt) tt

late-delivery : (reply : Answer) → IsLate reply → AnswersDelivery reply
late-delivery reply late = late-then reply AnswersDelivery late (λ n. tt) (λ max. tt) (λ n. tt) tt (λ file at. tt) tt

-- The index of the entries that stay is that of the archive without the text.
edit-index : (v : StoreState) (a : Archive) (n : ℕ) (blob : ObjectId) (index : Index) (gone : List ℕ) → KeepsArchive v a → MayPurge v n blob → IndexesKept (without_blob v.entries blob) index → text_of (live a.entries) n ≡ Some gone → IsArchiveIndex a.config.form (without_entries a gone).entries index
edit-index v a n blob index gone keeps may indexed shown =
    let is = live-message-is a n gone keeps.valid shown in
    index-without v a index blob gone keeps (message-agrees a n gone keeps.valid is) (purge-blob v a n blob gone keeps may is) indexed

module _ {D : Type 0} (g : Disk D)
    (only_now : (disk : D) (image : Files) → g.left_since disk (g.moment disk) image → Image (g.content disk) image) where
  -- A delivery in place of a text was refused, after the disk was only read.
  pub edits-refused : StoreRecovers → (old mid : D) (v : StoreState) (index : Index) (blob : ObjectId) (number : ℕ) (bytes : List ℕ) (arrived : ℕ) (reply : Answer) → MayPurge v number blob → IndexesKept (without_blob v.entries blob) index → WhereTold (StoreHasSizes v) (g.content old)
      → JudgesOn g.content old v index bytes (Refuse reply) → OnlyLooks g old mid → RoseIf (reply ≡ answer.DiskFault) (g.faults old) (g.faults mid) → TellsEntry v (g.content old) reply → IsLate reply → EditsAs g old mid v v number bytes arrived reply
  edits-refused law old mid v index blob number bytes arrived reply may indexed sizes judges looks cause damage late = record {
    crash = λ a cache gone store room shown. only-read g law v cache [] a (unless_refused a (delivered (without_entries a gone) bytes arrived)).archive (g.content old) old mid store looks.crash;
    done = λ a cache gone store room shown. (
        let own = still_own v cache a (g.content old) (g.content mid) looks.same store in
        let judged = judges a cache (Some gone) store (edit-index v a number blob index gone (store_keeps v cache a (g.content old) store) may indexed shown) in
        refused-edit v cache [] a (without_entries a gone) bytes arrived (g.content mid) reply own judged.0);
    settled = late-never reply _ late;
    goes_on = late-never reply _ late;
    slot = late-never reply _ late;
    same = when-refused reply (v ≡ v) refl;
    untouched = when-refused reply _ (unless-failed reply _ looks);
    late = late-read reply late;
    sizes = unless-failed reply _ (subst (WhereTold (StoreHasSizes v)) (sym (unchanged-is (g.content old) (g.content mid) looks.same)) sizes);
    cause = cause;
    for_command = late-delivery reply late;
    rooted = late-never reply _ late;
    crash_root = (None, looks_one g (1 - v.slot) None old mid looks.crash);
    damage = entry-damage v (g.content old) reply damage;
  }

  -- Memory ran out before the verdict.
  pub edits-none : StoreRecovers → (disk : D) (v : StoreState) (number : ℕ) (bytes : List ℕ) (arrived : ℕ) → WhereTold (StoreHasSizes v) (g.content disk) → EditsAs g disk disk v v number bytes arrived answer.NoMemory
  edits-none law disk v number bytes arrived sizes = record {
    crash = λ a cache gone store room shown. not-started g law v cache [] a (unless_refused a (delivered (without_entries a gone) bytes arrived)).archive (g.content disk) disk store (only_now disk);
    done = λ a cache gone store room shown. store;
    settled = tt;
    goes_on = tt;
    slot = tt;
    same = refl;
    untouched = looks-same g only_now disk;
    late = tt;
    sizes = sizes;
    cause = record { later = omega arith; failed = λ fault. absurd (cc fault); kept = λ never. refl };
    for_command = tt;
    rooted = tt;
    crash_root = (let looks = looks-same g only_now disk in (None, looks_one g (1 - v.slot) None disk disk looks.crash));
    damage = tt;
  }

  -- The verdict was to keep a text.
  module _ (law : StoreRecovers) (old mid new : D) (v after : StoreState) (index : Index) (blob : ObjectId) (number : ℕ) (bytes text : List ℕ) (arrived n : ℕ) (ids : TextIds) (may : MayPurge v number blob) (indexed : IndexesKept (without_blob v.entries blob) index)
      (judges : JudgesOn g.content old v index bytes (Take text ids n)) (looks : OnlyLooks g old mid) (steady : g.faults mid ≡ g.faults old) where
    -- The archive after it, and that no other text has its blob id.
    taken_is : (a : Archive) (cache gone : List ℕ) → IsStoreWith v cache a (g.content old) → text_of (live a.entries) number ≡ Some gone
        → (unless_refused a (delivered (without_entries a gone) bytes arrived) ≡ record { archive = with_entry (without_entries a gone) (new_epoch (without_entries a gone)) text arrived; answer = answer.Ok n ids.blob }) × (blob_id_of a.config.form gone ≡ blob) × (collision a.config.form (without_entries a gone).entries text ≡ None)
    taken_is a cache gone store shown =
        let keeps = store_keeps v cache a (g.content old) store in
        let judged = judges a cache (Some gone) store (edit-index v a number blob index gone keeps may indexed shown) in
        (unless-taken a (with_entry (without_entries a gone) (new_epoch (without_entries a gone)) text arrived) (delivered (without_entries a gone) bytes arrived) n ids.blob (judged.0 arrived), purge-blob v a number blob gone keeps may (live-message-is a number gone keeps.valid shown), judged.1)

    run_after : (r : Result (Unit {0}) StoreRefusal) → ChangesStore g mid new v after Renews (Replaces blob text arrived) r → (a : Archive) (cache gone : List ℕ) → IsStoreWith v cache a (g.content old) → v.root.sequence + 1 < 2 ^ 64 → text_of (live a.entries) number ≡ Some gone
        → LeavesOnly g old new (RecoversOneOf cache a [] (unless_refused a (delivered (without_entries a gone) bytes arrived)).archive)
    run_after r keeps a cache gone store room shown =
        let is = taken_is a cache gone store shown in
        let own = still_own v cache a (g.content old) (g.content mid) looks.same store in
        read-first g law v cache [] a (unless_refused a (delivered (without_entries a gone) bytes arrived)).archive (g.content old) old mid new store looks.crash
        (subst (λ (b : Archive). LeavesOnly g mid new (RecoversOneOf cache a [] b)) (sym (ap (λ (d : Done). d.archive) is.0)) (keeps.crash a (with_entry (without_entries a gone) (new_epoch (without_entries a gone)) text arrived) cache own room (record { number = number; gone = gone; shown = shown; blob_is = is.1; alone = is.2; is = refl })))

    -- The store refused it.
    pub edits-failed : (why : StoreRefusal) (reply : Answer) → reply ≡ refusal_answer why → WhereTold (StoreHasSizes v) (g.content old) → ChangesStore g mid new v after Renews (Replaces blob text arrived) (Err why) → EditsAs g old new v after number bytes arrived reply
    edits-failed why reply reply_is sizes keeps = let looked = store-looks g only_now Renews why looks keeps in subst (λ (r : Answer). EditsAs g old new v after number bytes arrived r) (sym reply_is) (record {
      crash = run_after (Err why) keeps;
      done = λ a cache gone store room shown. (
          let own = still_own v cache a (g.content old) (g.content mid) looks.same store in
          failed-done g old new v after cache [] a (unless_refused a (delivered (without_entries a gone) bytes arrived)) why keeps.same looked (keeps.undamaged a cache own) store);
      settled = error-done why (refusal_answer why) _ refl;
      goes_on = error-done why (refusal_answer why) _ refl;
      slot = error-done why (refusal_answer why) _ refl;
      same = when-refused (refusal_answer why) _ keeps.same;
      untouched = when-refused (refusal_answer why) _ (error-unless why _ _ (λ is. is) looked);
      late = error-then why (λ r. IfUnreadEdit r ⊥) tt tt (λ file at. tt);
      sizes = error-unless why _ _ (still-sized g old new v after keeps.same sizes) looked;
      cause = subst (λ (m : ℕ). RoseIf (refusal_answer why ≡ answer.DiskFault) m (g.faults new)) steady (error-cause why (g.faults mid) (g.faults new) keeps.cause);
      for_command = error-then why AnswersDelivery tt tt (λ file at. tt);
      rooted = error-done why (refusal_answer why) _ refl;
      crash_root = read_begins g (1 - v.slot) old mid new (omega arith) looks.same looks.crash keeps.crash_root;
      damage = store-damage v (g.content old) (g.content mid) why (refusal_answer why) refl looks.same keeps.damage;
    })

    -- It was kept.
    pub edits-done : ChangesStore g mid new v after Renews (Replaces blob text arrived) (Ok tt) → EditsAs g old new v after number bytes arrived (answer.Ok n ids.blob)
    edits-done keeps = record {
      crash = run_after (Ok tt) keeps;
      done = λ a cache gone store room shown. (
          let is = taken_is a cache gone store shown in
          let own = still_own v cache a (g.content old) (g.content mid) looks.same store in
          record {
            answer_is = ap (λ (d : Done). d.answer) is.0;
            store = subst (λ (b : Archive). IsStoreWith after [] b (g.content new)) (sym (ap (λ (d : Done). d.archive) is.0)) (keeps.done a (with_entry (without_entries a gone) (new_epoch (without_entries a gone)) text arrived) cache own room (record { number = number; gone = gone; shown = shown; blob_is = is.1; alone = is.2; is = refl }));
          });
      settled = keeps.settled;
      goes_on = keeps.goes_on;
      slot = keeps.slot;
      same = tt;
      untouched = tt;
      late = tt;
      sizes = keeps.sizes;
      cause = subst (λ (m : ℕ). RoseIf (answer.Ok n ids.blob ≡ answer.DiskFault) m (g.faults new)) steady (record { later = keeps.cause.later; failed = λ fault. absurd (cc fault); kept = λ never. keeps.cause.kept (λ fault. absurd (cc fault)) });
      for_command = tt;
      rooted = rooted-read after.slot (spelling after.root) (g.content old) (g.content mid) (g.content new) looks.same keeps.rooted;
      crash_root = read_begins g (1 - v.slot) old mid new (omega arith) looks.same looks.crash keeps.crash_root;
      damage = tt;
    }
