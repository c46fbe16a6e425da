-- What a command promises that ended with an error, or that was planned before it was carried out.
use Rattle.std.specs.Prelude.{◌≡◌, ◌+◌, ◌-◌, ◌≤◌, ◌<◌, ◌^◌, ℕ, List, [], Option, Some, None, Result, Ok, Err, refl}
use Rattle.std.proofs.Common.{◌∙◌, sym, ap, subst, inr, arith}
use Rattle.arch_base.specs.Counts.{RoseIf}
use Rattle.disk_model.specs.declared.disk.Disk.{Ghosts as Disk}
use Rattle.disk_model.specs.declared.name.FileName.{FileName}
use Rattle.disk_model.specs.Beside.{Beside, Bounds, RunsBeside, WentBeside}
use Rattle.disk_model.specs.Disk.{Content, Files, Image, BothTold, Unchanged, WhereTold}
use Rattle.disk_model.specs.Moments.{LeavesOnly, joined, started, weaker}
use Rattle.arch_model.specs.Archives.{Archive}
use Rattle.epoch_file.specs.Runs.{OnlyReads}
use Rattle.epoch_file.specs.declared.refusal.StoreRefusal.{StoreRefusal}
use Rattle.epoch_file.specs.declared.refusal.StoreRefusal.TheVariants.{DiskFault, NoMemory, Damaged}
use Rattle.root_slots.specs.declared.root.Root.{Root}
use Rattle.root_slots.specs.OneRoot.{BeginsRootIn}
use Rattle.root_slots.proofs.OneRoots.{looks_one}
use Rattle.root_slots.specs.Spelling.{spelling}
use Rattle.root_change.specs.declared.rewriting.RewriteRefusal.{RewriteRefusal}
use Rattle.root_change.specs.declared.rewriting.RewriteRefusal.TheVariants as rewrite
use Rattle.root_change.specs.Names.{bounds_of}
use Rattle.root_change.specs.Rewriting.{CarriesOut, Plan}
use Rattle.store_finding.specs.declared.entries.StoredEntry.{StoredEntry}
use Rattle.store_planning.specs.DamagedTexts.{DamageBy, IfDamaged, IsDamageIn}
use Rattle.store_planning.specs.Planning.{IsReadyPlan, Planning, PlansArchive, PlansUndamaged}
use Rattle.epoch_store.specs.Promises.{Appends, ChangesStore, ReadsByKind, Renews, StaysBy, UndamagedBy, WriteKind, cache_by}
use Rattle.store_finding.specs.Kept.{IsStoreWith, StoreState}
use Rattle.store_planning.specs.Dropping.{IsUndamagedStore}
use Rattle.epoch_store.specs.Commands.{RecoversOneOf, UnlessFailed}
use Rattle.epoch_store.proofs.CarriedOut.{reads_then, rooted_since, store_back, store_same}
use Rattle.epoch_store.proofs.Carrying.{carried_leaves, carried_on, carried_store, sizes_carried}
use Rattle.store_finding.proofs.FindingTold.{reads_none}
use Rattle.epoch_store.proofs.Kept.{stands_now}
use Rattle.epoch_store.proofs.Readying.{read_begins}
use Rattle.epoch_store.proofs.TextDamage.{content_is, short_told}

-- An error before which nothing was written, by one that was asked for.
pub unless_short : {T : Type 0} {P : Type 0} (why : StoreRefusal) → (◌≡◌ {A = Result T StoreRefusal} (Err why) (Err NoMemory) → P) → IsUndamagedStore why → UnlessFailed {T = Unit {0}} (Err why) P
unless_short DiskFault short sound = tt
unless_short NoMemory short sound = short refl
unless_short (Damaged file at) short sound = absurd sound

-- An error where files were only read.
pub unless_any : {P : Type 0} (why : StoreRefusal) → P → UnlessFailed {T = Unit {0}} (Err why) P
unless_any DiskFault p = tt
unless_any NoMemory p = p
unless_any (Damaged file at) p = p

-- A range is never short where the disk tells its content.
never_short : (v : StoreState) (why : StoreRefusal) (k : Option Content) → WhereTold (λ (c : Content). Unit {0} → ⊥) k → PlansUndamaged {T = Unit {0}} v (Err why) k
never_short v why None whole = λ a cache store. absurd store
never_short v why (Some k) whole = λ a cache store. absurd (whole tt)

-- So then the disk was only read.
short_image : (k : Option Content) (image : Files) → WhereTold (λ (c : Content). Unit {0} → ⊥) k → Image k image
short_image None image whole = tt
short_image (Some k) image whole = absurd (whole tt)

short_unchanged : (bounds : Bounds) (k m : Option Content) → WhereTold (λ (c : Content). Unit {0} → ⊥) k → BothTold (WentBeside bounds) k m → BothTold Unchanged k m
short_unchanged bounds None None whole went = tt
short_unchanged bounds None (Some m) whole went = absurd went
short_unchanged bounds (Some k) m whole went = absurd (whole tt)

pub short_reads : {D : Type 0} {g : Disk D} {old new : D} (bounds : Bounds) → WhereTold (λ (c : Content). Unit {0} → ⊥) (g.content old) → RunsBeside g bounds old new → g.faults old ≤ g.faults new
    → OnlyReads g old new
short_reads {D} {g} {old} {new} bounds whole run later = record {
  same = short_unchanged bounds (g.content old) (g.content new) whole run.told;
  crash = weaker g old new (Beside bounds (g.content old)) (Image (g.content old)) run.moments (λ image crash_beside. short_image (g.content old) image whole);
  later = later;
}

-- What a crash leaves of the archive on the disk while files are read.
read_leaves : {D : Type 0} {g : Disk D} {old mid : D} (only : OnlyReads g old mid) (v : StoreState) (cache : List ℕ) (a b : Archive) → IsStoreWith v cache a (g.content old)
    → LeavesOnly g old mid (RecoversOneOf cache a [] b)
read_leaves {D} {g} {old} {mid} only v cache a b store =
    weaker g old mid (Image (g.content old)) (RecoversOneOf cache a [] b) only.crash (λ image now. stands_now v cache [] a b (g.content old) image store now)

module _ {D : Type 0} {g : Disk D} where
  -- An error, by what a crash leaves until then.
  pub stopped : {old new : D} {before after : StoreState} {way : WriteKind} {Makes : Archive → Archive → Type 0} {result : Result (Unit {0}) StoreRefusal} (why : StoreRefusal) → result ≡ Err why
      → ((a b : Archive) (cache : List ℕ) → IsStoreWith before cache a (g.content old) → before.root.sequence + 1 < 2 ^ 64 → Makes a b → LeavesOnly g old new (RecoversOneOf cache a (cache_by way cache) b))
      → after ≡ before → UnlessFailed {T = Unit {0}} (Err why) (StaysBy way g old new) → UndamagedBy {T = Unit {0}} way before (Err why) (g.content old) → DamageBy why (λ (file : FileName) (at : ℕ). IsDamageIn before file at (g.content old)) → RoseIf (result ≡ Err DiskFault) (g.faults old) (g.faults new) → ReadsByKind way (g.reads old) (g.reads new) → BeginsRootIn g (1 - before.slot) old new
      → ChangesStore g old new before after way Makes result
  stopped {old} {new} {before} {after} {way} {Makes} {result} why is run same still sound told cause count root = subst (λ (r : Result (Unit {0}) StoreRefusal). ChangesStore g old new before after way Makes r) (sym is) (record {
    crash = run;
    done = λ a b cache store room made. tt;
    settled = tt;
    sizes = tt;
    goes_on = tt;
    slot = tt;
    same = same;
    untouched = still;
    undamaged = sound;
    cause = subst (λ (r : Result (Unit {0}) StoreRefusal). RoseIf (r ≡ Err DiskFault) (g.faults old) (g.faults new)) is cause;
    count = count;
    rooted = tt;
    crash_root = root;
    damage = told;
  })

  -- Memory ran out before anything was done.
  pub unstarted : {disk : D} {before after : StoreState} {way : WriteKind} {Makes : Archive → Archive → Type 0} {result : Result (Unit {0}) StoreRefusal} → ((image : Files) → g.left_since disk (g.moment disk) image → Image (g.content disk) image) → after ≡ before → result ≡ Err NoMemory
      → ChangesStore g disk disk before after way Makes result
  unstarted {disk} {before} {after} {way} {Makes} {result} now same is =
      stopped NoMemory is (λ a b cache store room made. started g disk (RecoversOneOf cache a (cache_by way cache) b) (λ image left. stands_now before cache (cache_by way cache) a b (g.content disk) image store (now image left))) same
      (still way) (sound way) tt (record { later = omega arith; failed = λ fault. absurd (cc (sym is ∙ fault)); kept = λ never. refl }) (count way)
      (None, looks_one g (1 - before.slot) None disk disk (started g disk (Image (g.content disk)) now)) where
        still : (way : WriteKind) → StaysBy way g disk disk
        still Appends = refl
        still Renews = reads_none g disk now

        sound : (way : WriteKind) → UndamagedBy {T = Unit {0}} way before (Err NoMemory) (g.content disk)
        sound Appends = tt
        sound Renews = λ a cache store. tt

        count : (way : WriteKind) → ReadsByKind way (g.reads disk) (g.reads disk)
        count Appends = refl
        count Renews = omega arith

  module _ {old mid : D} {before : StoreState} (only : OnlyReads g old mid) where
    -- Planning failed.
    pub unplanned : {Makes : Archive → Archive → Type 0} {result : Result (Unit {0}) StoreRefusal} (why : StoreRefusal) → result ≡ Err why → PlansUndamaged {T = Unit {0}} before (Err why) (g.content old) → DamageBy why (λ (file : FileName) (at : ℕ). IsDamageIn before file at (g.content old)) → RoseIf (result ≡ Err DiskFault) (g.faults old) (g.faults mid) → g.reads old ≤ g.reads mid
        → ChangesStore g old mid before before Renews Makes result
    unplanned why is sound told cause count = stopped why is (λ a b cache store room made. read_leaves only before cache a b store) refl (unless_any why only) sound told cause count (None, looks_one g (1 - before.slot) None old mid only.crash)

    -- What was planned was carried out, or wasn't.
    pub planned : {new : D} {after : StoreState} {Makes : Archive → Archive → Type 0} {result : Result (Unit {0}) StoreRefusal} (plans : Planning) (next : ℕ) → ((a b : Archive) (cache : List ℕ) → IsStoreWith before cache a (g.content old) → Makes a b → PlansArchive before.root cache a b plans next)
        → g.faults mid ≡ g.faults old → g.reads old ≤ g.reads mid → ChangesStore g mid new before after Renews (λ a b. (cache : List ℕ) → IsStoreWith before cache a (g.content mid) → PlansArchive before.root cache a b plans next) result
        → ChangesStore g old new before after Renews Makes result
    planned {new} {after} {Makes} {result} plans next makes steady fewest carried = record {
      crash = λ a b cache store room made.
          joined g old mid new (RecoversOneOf cache a [] b) (RecoversOneOf cache a [] b) (RecoversOneOf cache a [] b) (read_leaves only before cache a b store) (carried.crash a b cache (still cache a store) room (planned_so a b made)) (λ image stands. stands) (λ image stands. stands);
      done = λ a b cache store room made. carried.done a b cache (still cache a store) room (planned_so a b made);
      settled = carried.settled;
      sizes = carried.sizes;
      goes_on = carried.goes_on;
      slot = carried.slot;
      same = carried.same;
      untouched = reads_then g result old mid new only carried.untouched;
      undamaged = λ a cache store. carried.undamaged a cache (still cache a store);
      cause = subst (λ (n : ℕ). RoseIf (result ≡ Err DiskFault) n (g.faults new)) steady carried.cause;
      count = (let more = carried.count in omega (arith, fewest, more));
      rooted = rooted_since result after.slot (spelling after.root) (g.content old) (g.content mid) (g.content new) only.same carried.rooted;
      crash_root = read_begins g (1 - before.slot) old mid new (omega arith) only.same only.crash carried.crash_root;
      damage = subst (λ (k : Option Content). IfDamaged result (λ (file : FileName) (at : ℕ). IsDamageIn before file at k)) (content_is (g.content old) (g.content mid) only.same) carried.damage;
    } where
      still : (cache : List ℕ) (a : Archive) → IsStoreWith before cache a (g.content old) → IsStoreWith before cache a (g.content mid)
      still cache a store = store_same before cache a (g.content old) (g.content mid) only.same store

      planned_so : (a b : Archive) → Makes a b → (cache : List ℕ) → IsStoreWith before cache a (g.content mid) → PlansArchive before.root cache a b plans next
      planned_so a b made cache own = makes a b cache (store_back before cache a (g.content old) (g.content mid) only.same own) made

-- What carrying out promises, by the view of the store and of the planner.
by_views : {D : Type 0} {g : Disk D} {old new : D} {w v : StoreState} {free next : ℕ} {plans all : List Plan} {result : Result Root RewriteRefusal} → w ≡ v → free ≡ 1 - w.slot → plans ≡ all
    → CarriesOut g old new w.root free plans next w.root.config.form result → CarriesOut g old new v.root (1 - v.slot) all next v.root.config.form result
by_views {g = g} {old} {new} {w} {v} {free} {next} {plans} {all} {result} same free_is plans_are carried =
    subst (λ (u : StoreState). CarriesOut g old new u.root (1 - u.slot) all next u.root.config.form result) same
    (subst (λ (l : List Plan). CarriesOut g old new w.root (1 - w.slot) l next w.root.config.form result) plans_are
    (subst (λ (n : ℕ). CarriesOut g old new w.root n plans next w.root.config.form result) free_is carried))

module _ {D : Type 0} {g : Disk D} {old new : D} {w v : StoreState} {free next : ℕ} {plans : List Plan} {p : Planning}
    (same : w ≡ v) (free_is : free ≡ 1 - w.slot) (plans_are : plans ≡ p.plans) (fewest : g.reads old ≤ g.reads new) where
  -- Plans were carried out.
  pub carried_done : {root : Root} {entries : List StoredEntry} → entries ≡ p.entries → IsReadyPlan v.root p.plans next → CarriesOut g old new w.root free plans next w.root.config.form (Ok root)
      → ChangesStore g old new v (record { root = root; slot = free; entries = entries }) Renews (λ a b. (cache : List ℕ) → IsStoreWith v cache a (g.content old) → PlansArchive v.root cache a b p next) (Ok tt)
  carried_done {root} {entries} entries_are ready carries =
      let carried = by_views same free_is plans_are carries in
      let slot : 1 - v.slot ≡ free = sym (free_is ∙ ap (λ (u : StoreState). 1 - u.slot) same) in
      subst (λ (n : ℕ). Changed (record { root = root; slot = n; entries = entries })) slot (subst (λ (es : List StoredEntry). Changed (record { root = root; slot = 1 - v.slot; entries = es })) (sym entries_are) (record {
        crash = λ a b cache store room made. carried_leaves v cache a b p next (g.content old) store (made cache store) g old new carried.crash;
        done = λ a b cache store room made. carried_store v cache a b p next (g.content old) store (made cache store) root (g.content new) carried.root_is carried.done;
        settled = carried.settled;
        sizes = sizes_carried root (1 - v.slot) p.entries (g.content new) carried.sizes;
        goes_on = carried_on v.root root p.plans next ready carried.root_is;
        slot = refl;
        same = tt;
        untouched = tt;
        undamaged = λ a cache store. tt;
        cause = record { later = carried.cause.later; failed = λ fault. absurd (cc fault); kept = λ never. carried.cause.kept (λ wrong. wrong) };
        count = fewest;
        rooted = carried.rooted;
        crash_root = (Some (spelling carried.crash_root.0), carried.crash_root.2);
        damage = tt;
      })) where
        Changed : StoreState → Type 0
        Changed after = ChangesStore g old new v after Renews (λ a b. (cache : List ℕ) → IsStoreWith v cache a (g.content old) → PlansArchive v.root cache a b p next) (Ok tt)

  -- The disk failed.
  pub carried_failed : {refused : RewriteRefusal} → refused ≡ rewrite.DiskFault → CarriesOut g old new w.root free plans next w.root.config.form (Err refused)
      → ChangesStore g old new v v Renews (λ a b. (cache : List ℕ) → IsStoreWith v cache a (g.content old) → PlansArchive v.root cache a b p next) (Err DiskFault)
  carried_failed {refused = rewrite.Short file at} is carries = absurd (cc is)
  carried_failed {refused = rewrite.DiskFault} is carries =
      let carried = by_views same free_is plans_are carries in
      stopped DiskFault refl (λ a b cache store room made. carried_leaves v cache a b p next (g.content old) store (made cache store) g old new carried.crash) refl tt (λ a cache store. tt) tt
      (record { later = carried.cause.later; failed = λ fault. carried.cause.failed tt; kept = λ never. absurd (never refl) }) fewest (Some (spelling carried.crash_root.0), carried.crash_root.2)

  -- A range was short.
  pub carried_short : {refused : RewriteRefusal} {file : FileName} {at : ℕ} → refused ≡ rewrite.Short file at → IsReadyPlan v.root p.plans next → CarriesOut g old new w.root free plans next w.root.config.form (Err refused)
      → ChangesStore g old new v v Renews (λ a b. (cache : List ℕ) → IsStoreWith v cache a (g.content old) → PlansArchive v.root cache a b p next) (Err (Damaged file at))
  carried_short {refused} {file} {at} is ready carries =
      let carried = by_views same free_is plans_are (subst (λ (r : RewriteRefusal). CarriesOut g old new w.root free plans next w.root.config.form (Err r)) is carries) in
      unplanned (short_reads (bounds_of v.root) carried.whole (carried.crash_beside tt) carried.cause.later) (Damaged file at) refl (never_short v (Damaged file at) (g.content old) carried.whole) (inr (short_told v p next file at (g.content old) ready carried.whole carried.short))
      (record { later = carried.cause.later; failed = λ fault. absurd (cc fault); kept = λ never. carried.cause.kept (λ wrong. wrong) }) fewest
