-- What a command promises that was refused, or that the store failed to do.
use Rattle.std.specs.Prelude.{◌≡◌, ◌+◌, ◌-◌, ◌<◌, ◌^◌, ℕ, Bool, true, false, List, Option, Some, None, Result, Ok, Err, is_some, refl, if◌then◌else◌}
use Rattle.std.proofs.Common.{◌∙◌, sym, ap, subst, arith}
use Rattle.arch_base.specs.Counts.{RoseIf}
use Rattle.disk_model.specs.declared.disk.Disk.{Ghosts as Disk}
use Rattle.disk_model.specs.Disk.{Files, Content, Image, BothTold, Unchanged, WhereTold}
use Rattle.disk_model.specs.Moments.{LeavesOnly}
use Rattle.root_slots.proofs.OneRoots.{looks_one}
use Rattle.root_slots.specs.Slots.{HasNewRoot}
use Rattle.root_slots.specs.Spelling.{spelling}
use Rattle.mail_reader.specs.Stored.{stored}
use Rattle.arch_model.specs.Archives.{Archive, live, messages, text_of}
use Rattle.arch_model.specs.Delivery.{Done, applied, delivered_form, edited_text, is_accepted, purged_text, refused, removed_text}
use Rattle.arch_model.specs.Keeping.{ReadsFor}
use Rattle.arch_model.specs.declared.answer.Answer.{Answer}
use Rattle.arch_model.specs.declared.answer.Answer.TheVariants as answer
use Rattle.arch_model.specs.declared.command.Command.{Command}
use Rattle.arch_model.specs.declared.command.Command.TheVariants.{Deliver, Remove, Purge, Edit}
use Rattle.epoch_file.specs.declared.refusal.StoreRefusal.{StoreRefusal}
use Rattle.epoch_file.specs.declared.refusal.StoreRefusal.TheVariants as refusal
use Rattle.epoch_store.specs.Laws.{StoreRecovers}
use Rattle.arch_base.specs.declared.ids.ObjectId.{ObjectId}
use Rattle.epoch_store.specs.Promises.{Appends, ChangesStore, Renews, StaysBy, WriteKind}
use Rattle.store_finding.specs.Kept.{StoreState, IsStoreWith, KeepsArchive}
use Rattle.epoch_store.specs.Commands.{StoreHasSizes, RecoversOneOf, UnlessFailed}
use Rattle.store_planning.specs.Dropping.{IsUndamagedStore}
use Rattle.epoch_store.proofs.Readying.{read_begins}
use Rattle.archive_core.specs.Commands.{DoneBy, FilesFor, IfUnreadFor, IsForCommand, OnDone, OnlyLooks, TakesCommand, UnlessFault, cache_left, refusal_answer, way_of}
use Rattle.archive_core.specs.DamageTold.{TellsDamage}
use Rattle.archive_core.specs.Engines.{unchanged-is}
use Rattle.archive_core.specs.Walks.{looks-joined, looks-same}
use Rattle.archive_core.proofs.KeptTexts.{error-done}
use Rattle.archive_core.proofs.Replies.{done-then, when-refused, unless-failed}
use Rattle.archive_core.proofs.Standing.{only-read, read-first, store_keeps, still_own}
use Rattle.archive_core.proofs.TellingDamage.{none-damaged, store-damage}
use Rattle.archive_core.proofs.WithoutText.{is_damage, left-done}

-- A mirror refuses each command.
pub mirror-refuses : (v : StoreState) (a : Archive) (m : Command) (moment : ℕ) → KeepsArchive v a → v.root.config.mirror ≡ true → applied a m moment ≡ refused a answer.IsMirror
mirror-refuses v a m moment keeps is = by m (ap (λ c. c.mirror) (sym keeps.names.config) ∙ is) where
  by : (m : Command) → a.config.mirror ≡ true → applied a m moment ≡ refused a answer.IsMirror
  by (Deliver bytes) mirror = ap (λ (t : Bool). if t then refused a answer.IsMirror else delivered_form a moment (stored bytes.now)) mirror
  by (Remove n) mirror = ap (λ (t : Bool). if t then refused a answer.IsMirror else removed_text a n moment (text_of (live a.entries) n)) mirror
  by (Purge n) mirror = ap (λ (t : Bool). if t then refused a answer.IsMirror else purged_text a n (text_of (messages a.entries) n)) mirror
  by (Edit n bytes) mirror = ap (λ (t : Bool). if t then refused a answer.IsMirror else edited_text a n bytes.now moment (text_of (live a.entries) n)) mirror

absurd_some : {X : Type 0} (x : X) → is_some (Some x) ≡ false → ⊥
absurd_some x is = cc

-- A number without a text is refused.
pub absent-refuses : {X : Type 0} (a : Archive) (reply : Answer) (found : Option X) (f : Option X → Done) → f None ≡ refused a reply → a.config.mirror ≡ false → is_some found ≡ false
    → (if a.config.mirror then refused a answer.IsMirror else f found) ≡ refused a reply
absent-refuses a reply None f is writable none = ap (λ (t : Bool). if t then refused a answer.IsMirror else f None) writable ∙ is
absent-refuses a reply (Some x) f is writable none = absurd (absurd_some x none)

reads_none : (m : Command) (n : ℕ) → ReadsFor m n n
reads_none (Deliver bytes) n = record { later = omega arith; most = omega arith }
reads_none (Remove number) n = record { later = omega arith; most = omega arith }
reads_none (Purge number) n = omega arith
reads_none (Edit number bytes) n = omega arith

-- What holds after an error of the store, but for a fault.
pub error-unless : (why : StoreRefusal) (P Q : Type 0) → (P → Q) → UnlessFailed {T = Unit {0}} (Err why) P → UnlessFault (refusal_answer why) Q
error-unless refusal.DiskFault P Q weaken is = tt
error-unless refusal.NoMemory P Q weaken is = weaken is
error-unless (refusal.Damaged file at) P Q weaken is = weaken is

-- The cause of its answer.
pub error-cause : (why : StoreRefusal) (before now : ℕ) → RoseIf (◌≡◌ {A = Result (Unit {0}) StoreRefusal} (Err why) (Err refusal.DiskFault)) before now → RoseIf (refusal_answer why ≡ answer.DiskFault) before now
error-cause refusal.DiskFault before now cause = record { later = cause.later; failed = λ fault. cause.failed refl; kept = λ never. absurd (never refl) }
error-cause refusal.NoMemory before now cause = record { later = cause.later; failed = λ fault. absurd (cc fault); kept = λ never. cause.kept (λ fault. absurd (cc fault)) }
error-cause (refusal.Damaged file at) before now cause = record { later = cause.later; failed = λ fault. absurd (cc fault); kept = λ never. cause.kept (λ fault. absurd (cc fault)) }

-- The root file after a commit, if it reads as before until then.
pub rooted-read : (free : ℕ) (body : List ℕ) (k m o : Option Content) → BothTold Unchanged k m → BothTold (HasNewRoot free body) m o → BothTold (HasNewRoot free body) k o
rooted-read free body k m o same rooted = subst (λ (c : Option Content). BothTold (HasNewRoot free body) c o) (unchanged-is k m same) rooted

-- What never is the cause leaves the count.
pub steady-cause : (P : Type 0) (before now : ℕ) → (P → ⊥) → now ≡ before → RoseIf P before now
steady-cause P before now never is = record { later = omega arith; failed = λ fault. absurd (never fault); kept = λ _. is }

module _ {D : Type 0} (g : Disk D) where
  -- The store did nothing more, or only read, unless the disk failed.
  pub store-looks : ((disk : D) (image : Files) → g.left_since disk (g.moment disk) image → Image (g.content disk) image) → {old mid new : D} {v after : StoreState} {Makes : Archive → Archive → Type 0} (way : WriteKind) (why : StoreRefusal) → OnlyLooks g old mid → ChangesStore g mid new v after way Makes (Err why)
      → UnlessFailed {T = Unit {0}} (Err why) (OnlyLooks g old new)
  store-looks only_now {old = old} {mid} {new} way why looks changes = by why changes.untouched where
    more : (way : WriteKind) → StaysBy way g mid new → OnlyLooks g old new
    more Appends still = subst (λ (d : D). OnlyLooks g old d) (sym still) looks
    more Renews reads = looks-joined g only_now old mid new looks (record { same = reads.same; crash = reads.crash })

    by : (why : StoreRefusal) → UnlessFailed {T = Unit {0}} (Err why) (StaysBy way g mid new) → UnlessFailed {T = Unit {0}} (Err why) (OnlyLooks g old new)
    by refusal.DiskFault still = tt
    by refusal.NoMemory still = more way still
    by (refusal.Damaged file at) still = more way still

  -- It found no damage.
  pub store-sound : {mid new : D} {v after : StoreState} {Makes : Archive → Archive → Type 0} (way : WriteKind) (why : StoreRefusal) → ChangesStore g mid new v after way Makes (Err why) → (cache : List ℕ) (a : Archive) → IsStoreWith v cache a (g.content mid) → IsUndamagedStore why
  store-sound Appends why changes cache a own = changes.undamaged
  store-sound Renews why changes cache a own = changes.undamaged a cache own

  -- The archive after an error of the store.
  pub failed-done : (old new : D) (v after : StoreState) (cache left : List ℕ) (a : Archive) (d : Done) (why : StoreRefusal) → after ≡ v → UnlessFailed {T = Unit {0}} (Err why) (OnlyLooks g old new) → IsUndamagedStore why
      → IsStoreWith v cache a (g.content old) → DoneBy after cache left a d (refusal_answer why) (g.content new)
  failed-done old new v after cache left a d refusal.DiskFault same looks fine store = tt
  failed-done old new v after cache left a d refusal.NoMemory same looks fine store = subst (λ (u : StoreState). IsStoreWith u cache a (g.content new)) (sym same) (still_own v cache a (g.content old) (g.content new) looks.same store)
  failed-done old new v after cache left a d (refusal.Damaged file at) same looks fine store = absurd fine

  -- The files have their sizes.
  pub still-sized : (old new : D) (v after : StoreState) → after ≡ v → WhereTold (StoreHasSizes v) (g.content old) → OnlyLooks g old new → WhereTold (StoreHasSizes after) (g.content new)
  still-sized old new v after same sizes looks = subst (λ (u : StoreState). WhereTold (StoreHasSizes u) (g.content new)) (sym same) (subst (WhereTold (StoreHasSizes v)) (sym (unchanged-is (g.content old) (g.content new) looks.same)) sizes)

module _ {D : Type 0} (g : Disk D)
    (only_now : (disk : D) (image : Files) → g.left_since disk (g.moment disk) image → Image (g.content disk) image) (law : StoreRecovers) (m : Command) (wanted : Archive → Done) where
  -- It was refused, after the disk was only read.
  pub refused-taken : (old new : D) (v : StoreState) (reply : Answer) → OnDone reply ⊥ → WhereTold (StoreHasSizes v) (g.content old) → OnlyLooks g old new
      → ((a : Archive) (cache : List ℕ) → IsStoreWith v cache a (g.content old) → IsStoreWith v cache a (g.content new) → DoneBy v cache (cache_left m cache) a (wanted a) reply (g.content new))
      → IfUnreadFor m reply (new ≡ old) → RoseIf (reply ≡ answer.DiskFault) (g.faults old) (g.faults new) → IsForCommand m reply → ReadsFor m (g.reads old) (g.reads new)
      → TellsDamage v (g.content old) reply → TakesCommand g old new v v m wanted reply
  refused-taken old new v reply never sizes looks done unmoved cause for_command count damage = record {
    crash = λ a cache store room. only-read g law v cache (cache_left m cache) a (wanted a).archive (g.content old) old new store looks.crash;
    done = λ a cache store room. done a cache store (still_own v cache a (g.content old) (g.content new) looks.same store);
    settled = done-then reply ⊥ _ (λ wrong. absurd wrong) never;
    goes_on = done-then reply ⊥ _ (λ wrong. absurd wrong) never;
    files = done-then reply ⊥ _ (λ wrong. absurd wrong) never;
    slot = done-then reply ⊥ _ (λ wrong. absurd wrong) never;
    same = when-refused reply (v ≡ v) refl;
    untouched = when-refused reply _ (unless-failed reply _ looks);
    unmoved = unmoved;
    sizes = unless-failed reply _ (still-sized g old new v v refl sizes looks);
    cause = cause;
    for_command = for_command;
    count = count;
    rooted = done-then reply ⊥ _ (λ wrong. absurd wrong) never;
    crash_root = (None, looks_one g (1 - v.slot) None old new looks.crash);
    damage = damage;
  }

  -- It was refused before anything was read.
  pub quiet-taken : (disk : D) (v : StoreState) (reply : Answer) → OnDone reply ⊥ → is_accepted reply ≡ false → is_damage reply ≡ false → (reply ≡ answer.DiskFault → ⊥) → WhereTold (StoreHasSizes v) (g.content disk) → ((a : Archive) → KeepsArchive v a → wanted a ≡ refused a reply)
      → IfUnreadFor m reply (disk ≡ disk) → IsForCommand m reply → TakesCommand g disk disk v v m wanted reply
  quiet-taken disk v reply never declined fine sound sizes is unmoved for_command =
      refused-taken disk disk v reply never sizes (looks-same g only_now disk)
      (λ a cache store own. left-done v cache (cache_left m cache) a (wanted a) (g.content disk) reply own declined fine (is a (store_keeps v cache a (g.content disk) own)))
      unmoved (record { later = omega arith; failed = λ fault. absurd (sound fault); kept = λ never. refl }) for_command (reads_none m (g.reads disk)) (none-damaged reply _ fine)

  -- The store was asked, after the disk was only read.
  module _ (old mid new : D) (v after : StoreState) (Makes : Archive → Archive → Type 0) (looks : OnlyLooks g old mid) (steady : g.faults mid ≡ g.faults old)
      (makes : (a : Archive) (cache : List ℕ) → IsStoreWith v cache a (g.content old) → Makes a (wanted a).archive) (count : ReadsFor m (g.reads old) (g.reads new)) where
    still : (a : Archive) (cache : List ℕ) → IsStoreWith v cache a (g.content old) → IsStoreWith v cache a (g.content mid)
    still a cache store = still_own v cache a (g.content old) (g.content mid) looks.same store

    run : (r : Result (Unit {0}) StoreRefusal) → ChangesStore g mid new v after (way_of m) Makes r → (a : Archive) (cache : List ℕ) → IsStoreWith v cache a (g.content old) → v.root.sequence + 1 < 2 ^ 64 → LeavesOnly g old new (RecoversOneOf cache a (cache_left m cache) (wanted a).archive)
    run r changes a cache store room = read-first g law v cache (cache_left m cache) a (wanted a).archive (g.content old) old mid new store looks.crash (changes.crash a (wanted a).archive cache (still a cache store) room (makes a cache store))

    -- It failed.
    pub failed-taken : (why : StoreRefusal) (reply : Answer) → reply ≡ refusal_answer why → WhereTold (StoreHasSizes v) (g.content old) → ChangesStore g mid new v after (way_of m) Makes (Err why) → IfUnreadFor m (refusal_answer why) (new ≡ old) → IsForCommand m (refusal_answer why)
        → TakesCommand g old new v after m wanted reply
    failed-taken why reply reply_is sizes changes unmoved for_command =
        let looked = store-looks g only_now (way_of m) why looks changes in
        subst (λ (r : Answer). TakesCommand g old new v after m wanted r) (sym reply_is) (record {
          crash = run (Err why) changes;
          done = λ a cache store room. failed-done g old new v after cache (cache_left m cache) a (wanted a) why changes.same looked (store-sound g (way_of m) why changes cache a (still a cache store)) store;
          settled = error-done why (refusal_answer why) _ refl;
          goes_on = error-done why (refusal_answer why) _ refl;
          files = error-done why (refusal_answer why) _ refl;
          slot = error-done why (refusal_answer why) _ refl;
          same = when-refused (refusal_answer why) _ changes.same;
          untouched = when-refused (refusal_answer why) _ (error-unless why _ _ (λ is. is) looked);
          unmoved = unmoved;
          sizes = error-unless why _ _ (still-sized g old new v after changes.same sizes) looked;
          cause = subst (λ (n : ℕ). RoseIf (refusal_answer why ≡ answer.DiskFault) n (g.faults new)) steady (error-cause why (g.faults mid) (g.faults new) changes.cause);
          for_command = for_command;
          count = count;
          rooted = error-done why (refusal_answer why) _ refl;
          crash_root = read_begins g (1 - v.slot) old mid new (omega arith) looks.same looks.crash changes.crash_root;
          damage = store-damage v (g.content old) (g.content mid) why (refusal_answer why) refl looks.same changes.damage;
        })

    -- It was carried out.
    pub done-taken : (number : ℕ) (id : ObjectId) → ChangesStore g mid new v after (way_of m) Makes (Ok tt) → ((a : Archive) (cache : List ℕ) → IsStoreWith v cache a (g.content old) → (wanted a).answer ≡ answer.Ok number id) → FilesFor m v after → IfUnreadFor m (answer.Ok number id) (new ≡ old) → IsForCommand m (answer.Ok number id)
        → TakesCommand g old new v after m wanted (answer.Ok number id)
    done-taken number id changes answers files unmoved for_command = record {
      crash = run (Ok tt) changes;
      done = λ a cache store room. record { answer_is = answers a cache store; store = changes.done a (wanted a).archive cache (still a cache store) room (makes a cache store) };
      settled = changes.settled;
      goes_on = changes.goes_on;
      files = files;
      slot = changes.slot;
      same = tt;
      untouched = tt;
      unmoved = unmoved;
      sizes = changes.sizes;
      cause = steady-cause _ _ _ (λ fault. absurd (cc fault)) (changes.cause.kept (λ fault. absurd (cc fault)) ∙ steady);
      for_command = for_command;
      count = count;
      rooted = rooted-read after.slot (spelling after.root) (g.content old) (g.content mid) (g.content new) looks.same changes.rooted;
      crash_root = read_begins g (1 - v.slot) old mid new (omega arith) looks.same looks.crash changes.crash_root;
      damage = tt;
    }
