-- An archive that was opened, and then read for its rows.
use Rattle.std.specs.Prelude.{◌≡◌, ◌≤◌, ℕ, List, Option, Some, None, Result, Ok, Err, refl}
use Rattle.std.proofs.Common.{sym, ap, subst, inl, inr}
use Rattle.arch_base.specs.Counts.{RoseIf}
use Rattle.disk_model.specs.declared.disk.Disk.{Ghosts as Disk}
use Rattle.disk_model.specs.Disk.{Files, Content, Image, BothTold, WhereTold, Unchanged}
use Rattle.disk_model.specs.Moments.{LeavesOnly, joined}
use Rattle.disk_model.specs.Synced.{IsSettled}
use Rattle.root_slots.specs.OneRoot.{OneRootStays}
use Rattle.arch_model.specs.Archives.{Archive}
use Rattle.arch_model.specs.declared.opening.OpenRefusal.{OpenRefusal}
use Rattle.arch_model.specs.declared.opening.OpenRefusal.TheVariants as opening
use Rattle.arch_model.specs.Shelves.{ReadingWhy, IsUndamaged}
use Rattle.arch_model.specs.declared.text_refusal.TextRefusal.{TextRefusal}
use Rattle.arch_model.specs.declared.text_refusal.TextRefusal.TheVariants as reading
use Rattle.store_finding.specs.declared.entries.StoredEntry.{StoredEntry}
use Rattle.store_finding.specs.Files.{as_read}
use Rattle.epoch_store.specs.Opens.{RecoversOfWith, ReadsWith, OpensFiles, OpensWell, SyncsFirst, SyncsAtMost, OnSynced}
use Rattle.epoch_store.specs.Promises.{OpensArchive}
use Rattle.epoch_store.specs.Reads.{HasTexts}
use Rattle.store_finding.specs.Recovery.{RecoversWith}
use Rattle.epoch_store.specs.Settling.{IsSettledBy}
use Rattle.store_finding.specs.Kept.{StoreState, IsStoreWith}
use Rattle.epoch_store.specs.Commands.{StoreHasSizes}
use Rattle.archive_core.specs.Commands.{OnlyLooks}
use Rattle.archive_core.specs.Engines.{unchanged-is}
use Rattle.archive_core.specs.Openings.{StillReads, LeavesKindly}
use Rattle.archive_core.specs.Walks.{IsSound, unread_opening}
use Rattle.archive_core.proofs.Standing.{still_own}

module _ {D : Type 0} (g : Disk D)
    (counts_now : (disk : D) (t : ℕ) (image : Files) → t ≤ g.moment disk → Image (g.content disk) image → g.left_since disk t image) where
  -- What a crash leaves of a run, and of reads after it.
  run-read : (old mid new : D) (P : Files → Type 0) → LeavesOnly g old mid P → OnlyLooks g mid new → LeavesOnly g old new P
  run-read old mid new P run looks = joined g old mid new P (Image (g.content mid)) P run looks.crash (λ image has. has) (λ image now. run.each image (counts_now mid (g.moment old) image run.later now))

  first-read : (old mid new : D) → SyncsFirst g old mid → OnlyLooks g mid new → SyncsFirst g old new
  first-read old mid new first looks = record {
    synced = first.synced;
    only = first.only;
    before = first.before;
    after = λ a cache reads. run-read first.synced mid new (λ (image : Files). RecoversWith cache image a) (first.after a cache reads) looks;
    none = λ none. run-read first.synced mid new (Image (g.content first.synced)) (first.none none) looks;
  }

  before-read : (old mid new : D) → SyncsAtMost g old mid → OnlyLooks g mid new → SyncsAtMost g old new
  before-read old mid new (inl only) looks = inl (run-read old mid new (Image (g.content old)) only looks)
  before-read old mid new (inr first) looks = inr (first-read old mid new first looks)

  module _ (old mid new : D) (v : StoreState) (opened : OpensArchive g old mid (Ok v)) (looks : OnlyLooks g mid new) where
    same : g.content new ≡ g.content mid
    same = unchanged-is (g.content mid) (g.content new) looks.same

    -- The rows were read.
    pub opened-read : g.faults new ≡ g.faults mid → OpensArchive g old new (Ok v)
    opened-read steady = record {
      crash = λ may cache all. run-read old mid new (RecoversOfWith cache may) (opened.crash may cache all) looks;
      answer = opened.answer;
      done = λ a cache reads. still_own v cache a (g.content mid) (g.content new) looks.same (opened.done a cache reads);
      well = opened.well;
      first = first-read old mid new opened.first looks;
      before = before-read old mid new opened.before looks;
      settled = subst (WhereTold IsSettled) (sym same) opened.settled;
      kept = subst (λ (k : Option Content). BothTold (IsSettledBy v.root v.slot) (g.content old) k) (sym same) opened.kept;
      sizes = subst (WhereTold (StoreHasSizes v)) (sym same) opened.sizes;
      cause = subst (λ (n : ℕ). RoseIf (◌≡◌ {A = Result StoreState OpenRefusal} (Ok v) (Err opening.DiskFault)) (g.faults old) n) (sym steady) opened.cause;
      crash_root = (let none = opened.crash_root in record { slot = none.slot; in_range = none.in_range; other = none.other; crash = run-read old mid new (OneRootStays none.slot None (g.content old)) none.crash looks });
    }

    -- They weren't, and the archive isn't opened.
    pub unopened-read : (why : OpenRefusal) → ((a : Archive) (cache : List ℕ) → IsStoreWith v cache a (g.content mid) → OpensWell {T = StoreState} (Err why)) → (IsSound v (g.content mid) → OpensWell {T = StoreState} (Err why)) → WhereTold (HasTexts v) (g.content mid)
        → RoseIf (◌≡◌ {A = Result StoreState OpenRefusal} (Err why) (Err opening.DiskFault)) (g.faults mid) (g.faults new) → OpensArchive g old new (Err why)
    unopened-read why well sound texts cause = record {
      crash = λ may cache all. run-read old mid new (RecoversOfWith cache may) (opened.crash may cache all) looks;
      answer = answered (g.content old) (g.content mid) why opened.kept texts sound;
      done = λ a cache reads. tt;
      well = λ a cache reads. well a cache (opened.done a cache reads);
      first = by_why why;
      before = before-read old mid new opened.before looks;
      settled = tt;
      kept = tt;
      sizes = tt;
      cause = subst (λ (n : ℕ). RoseIf (◌≡◌ {A = Result StoreState OpenRefusal} (Err why) (Err opening.DiskFault)) n (g.faults new)) (opened.cause.kept (λ never. absurd (cc never))) cause;
      crash_root = (let none = opened.crash_root in record { slot = none.slot; in_range = none.in_range; other = tt; crash = run-read old mid new (OneRootStays none.slot None (g.content old)) none.crash looks });
    }
      where
        by_why : (w : OpenRefusal) → OnSynced {T = StoreState} (Err w) (SyncsFirst g old new)
        by_why opening.NoArchive = first-read old mid new opened.first looks
        by_why (opening.Damaged file at) = first-read old mid new opened.first looks
        by_why opening.DiskFault = tt
        by_why opening.NoMemory = first-read old mid new opened.first looks

        quiet : (k : Content) (w : OpenRefusal) → OpensWell {T = StoreState} (Err w) → OpensFiles (as_read k) (Err w)
        quiet k opening.NoArchive want = absurd want
        quiet k (opening.Damaged file at) want = absurd want
        quiet k opening.DiskFault want = tt
        quiet k opening.NoMemory want = tt

        answered : (before now : Option Content) (w : OpenRefusal) → BothTold (IsSettledBy v.root v.slot) before now → WhereTold (HasTexts v) now → (IsSound v now → OpensWell {T = StoreState} (Err w)) → WhereTold (λ (k : Content). OpensFiles (as_read k) (Err w)) before
        answered None now w told texts_are is_sound = tt
        answered (Some k) None w told texts_are is_sound = absurd told
        answered (Some k) (Some m) w told texts_are is_sound = quiet k w (is_sound texts_are)

-- The disk that was lent is the one that was only read.
pub looked : {D : Type 0} (g : Disk D) (old new last : D) → last ≡ new → OnlyLooks g old new → OnlyLooks g old last
looked g old new last same looks = subst (λ d. OnlyLooks g old d) (sym same) looks

pub caused : {D : Type 0} (faults : D → ℕ) (P : Type 0) (old new last : D) → last ≡ new → RoseIf P (faults old) (faults new) → RoseIf P (faults old) (faults last)
caused faults P old new last same cause = subst (λ d. RoseIf P (faults old) (faults d)) (sym same) cause

-- Why an archive wasn't opened whose text wasn't read.
pub unread-well : (v : StoreState) (found : Option StoredEntry) (why : TextRefusal) (r : OpenRefusal) → r ≡ unread_opening v found why → IsUndamaged why → OpensWell {T = StoreState} (Err r)
unread-well v found why r is undamaged = subst (λ (w : OpenRefusal). OpensWell {T = StoreState} (Err w)) (sym is) (by found why undamaged) where
  by : (f : Option StoredEntry) (w : TextRefusal) → IsUndamaged w → OpensWell {T = StoreState} (Err (unread_opening v f w))
  by f reading.DiskFault fine = tt
  by f reading.NoMemory fine = tt
  by f (reading.Damaged named other) never = absurd never

pub unread-cause : {T : Type 0} (v : StoreState) (found : Option StoredEntry) (before now : ℕ) (why : TextRefusal) (r : OpenRefusal) → r ≡ unread_opening v found why → before ≤ now → ReadingWhy before now why → RoseIf (◌≡◌ {A = Result T OpenRefusal} (Err r) (Err opening.DiskFault)) before now
unread-cause {T} v found before now why r is later cause = subst (λ (w : OpenRefusal). RoseIf (◌≡◌ {A = Result T OpenRefusal} (Err w) (Err opening.DiskFault)) before now) (sym is) (by found why cause) where
  by : (f : Option StoredEntry) (w : TextRefusal) → ReadingWhy before now w → RoseIf (◌≡◌ {A = Result T OpenRefusal} (Err (unread_opening v f w)) (Err opening.DiskFault)) before now
  by f reading.DiskFault rose = record { later = later; failed = λ fault. rose; kept = λ never. absurd (never refl) }
  by f reading.NoMemory same = record { later = later; failed = λ fault. absurd (cc); kept = λ never. same }
  by None (reading.Damaged named other) why_ = record { later = later; failed = λ fault. absurd (cc); kept = λ never. why_.1 }
  by (Some e) (reading.Damaged named other) why_ = record { later = later; failed = λ fault. absurd (cc); kept = λ never. why_.1 }

-- A refusal has the same cause, whatever would have been given.
pub cause-of : {T U : Type 0} (w : OpenRefusal) (before now : ℕ) → RoseIf (◌≡◌ {A = Result T OpenRefusal} (Err w) (Err opening.DiskFault)) before now → RoseIf (◌≡◌ {A = Result U OpenRefusal} (Err w) (Err opening.DiskFault)) before now
cause-of {T} {U} w before now cause = record {
  later = cause.later;
  failed = λ fault. cause.failed (there fault);
  kept = λ never. cause.kept (λ fault. never (back fault));
} where
  there : ◌≡◌ {A = Result U OpenRefusal} (Err w) (Err opening.DiskFault) → ◌≡◌ {A = Result T OpenRefusal} (Err w) (Err opening.DiskFault)
  there fault = (let same : w ≡ opening.DiskFault = cc in ap (λ (x : OpenRefusal). Err x) same)

  back : ◌≡◌ {A = Result T OpenRefusal} (Err w) (Err opening.DiskFault) → ◌≡◌ {A = Result U OpenRefusal} (Err w) (Err opening.DiskFault)
  back fault = (let same : w ≡ opening.DiskFault = cc in ap (λ (x : OpenRefusal). Err x) same)

-- What a refusal by a read leaves.
pub kindly-read : (v : StoreState) (before now after : Option Content) (w : OpenRefusal) → WhereTold (λ (k : Content). OpensFiles (as_read k) (Ok v)) before → BothTold (IsSettledBy v.root v.slot) before now → WhereTold (HasTexts v) now → (IsSound v now → OpensWell {T = StoreState} (Err w)) → BothTold Unchanged now after → StillReads before after
    → ((a : Archive) (cache : List ℕ) → ReadsWith cache a before → IsStoreWith v cache a after) → WhereTold IsSettled now → LeavesKindly w before after
kindly-read v before now after opening.DiskFault opens told texts sound unchanged still own settled = tt
kindly-read v before now after opening.NoMemory opens told texts sound unchanged still own settled = (still, inr (v, opens, subst (λ (k : Option Content). BothTold (IsSettledBy v.root v.slot) before k) (sym (unchanged-is now after unchanged)) told, own, subst (WhereTold IsSettled) (sym (unchanged-is now after unchanged)) settled))
kindly-read v None None None opening.NoArchive opens told texts sound unchanged still own settled = tt
kindly-read v None None (Some n) opening.NoArchive opens told texts sound unchanged still own settled = absurd unchanged
kindly-read v None (Some m) after opening.NoArchive opens told texts sound unchanged still own settled = absurd told
kindly-read v (Some k) None after opening.NoArchive opens told texts sound unchanged still own settled = absurd told
kindly-read v (Some k) (Some m) after opening.NoArchive opens told texts sound unchanged still own settled = absurd (sound texts)
kindly-read v None None None (opening.Damaged file at) opens told texts sound unchanged still own settled = tt
kindly-read v None None (Some n) (opening.Damaged file at) opens told texts sound unchanged still own settled = absurd unchanged
kindly-read v None (Some m) after (opening.Damaged file at) opens told texts sound unchanged still own settled = absurd told
kindly-read v (Some k) None after (opening.Damaged file at) opens told texts sound unchanged still own settled = absurd told
kindly-read v (Some k) (Some m) after (opening.Damaged file at) opens told texts sound unchanged still own settled = absurd (sound texts)
