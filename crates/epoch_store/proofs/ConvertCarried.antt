-- A conversion that was planned, and then carried out or not.
use Rattle.std.specs.Prelude.{◌≡◌, ◌≢◌, ◌⊎◌, ◌+◌, ◌-◌, ◌<◌, ◌≤◌, ℕ, zero, suc, List, [], ◌∷◌, length, get_or, Option, Some, None, Result, Ok, Err, OnOk, refl}
use Rattle.std.specs.List.{AllByRecursion, AllZip}
use Rattle.std.proofs.Common.{◌∙◌, sym, ap, subst, inl, inr, arith}
use Rattle.std.proofs.lemmas.Option.{same_Some}
use Rattle.std.proofs.lemmas.Result.{on_ok_weaker}
use Rattle.arch_base.specs.Configs.{with_form}
use Rattle.arch_base.specs.Counts.{RoseIf}
use Rattle.arch_base.specs.declared.ids.Form.{Form}
use Rattle.disk_model.specs.declared.disk.Disk.{Ghosts as Disk}
use Rattle.disk_model.specs.declared.name.FileKind.TheVariants as kind
use Rattle.disk_model.specs.declared.name.FileName.{FileName}
use Rattle.disk_model.specs.Disk.{Content, Files, Image, BothTold, Kept, Unchanged, WhereTold, bytes_of}
use Rattle.disk_model.specs.Moments.{LeavesOnly, joined, weaker}
use Rattle.disk_model.specs.Tells.{told_then}
use Rattle.arch_model.specs.Archives.{Archive}
use Rattle.arch_model.specs.Validity.{IsArchive}
use Rattle.epoch_file.specs.Lying.{tree_end}
use Rattle.epoch_file.specs.Runs.{OnlyReads}
use Rattle.epoch_file.specs.declared.refusal.StoreRefusal.{StoreRefusal}
use Rattle.epoch_file.specs.declared.refusal.StoreRefusal.TheVariants as store
use Rattle.root_slots.specs.declared.root.Place.{Place}
use Rattle.root_slots.specs.declared.root.Root.{Root}
use Rattle.root_slots.specs.RootName.{root_name}
use Rattle.root_slots.specs.Slots.{HasNewRoot, with_root}
use Rattle.root_slots.specs.Spelling.{spelling}
use Rattle.root_slots.specs.Valid.{no_place}
use Rattle.root_slots.proofs.OneRoots.{looks_one}
use Rattle.root_change.specs.declared.plan.Target.{Target}
use Rattle.root_change.specs.declared.plan.Target.TheVariants.{Anew}
use Rattle.root_change.specs.declared.rewriting.RewriteRefusal.{RewriteRefusal}
use Rattle.root_change.specs.declared.rewriting.RewriteRefusal.TheVariants as rewrite
use Rattle.root_change.specs.Names.{bounds_of}
use Rattle.root_change.specs.Rewriting.{CarriesOut, IsPlannedPart, IsRootAfter, Plan, map_by, map_planned, place_by, place_planned, plan_count, rewritten}
use Rattle.store_finding.specs.declared.entries.StoredEntry.{StoredEntry}
use Rattle.store_finding.specs.Damage.{named_length}
use Rattle.store_finding.specs.Extents.{AreNamed, AreNamedAfter, length_planned}
use Rattle.store_finding.specs.Kept.{InEpochs, IsStoreWith, StoreState}
use Rattle.store_finding.specs.Recovery.{parts_of}
use Rattle.store_finding.proofs.FindingTold.{reads_both, reads_none}
use Rattle.store_finding.proofs.FrontParts.{store_keeps, store_owns}
use Rattle.store_planning.specs.DamagedTexts.{DamageBy, IsDamageIn, IsDamagedEntry, IsShortPart}
use Rattle.store_planning.specs.Dropping.{SeesNoDamage}
use Rattle.store_planning.specs.Planning.{PlansUndamaged}
use Rattle.convert_planning.specs.Collisions.{collision_of}
use Rattle.convert_planning.specs.Converting.{Conversion, ConvertedOf, ConvertsParts, PlansConversion, converted}
use Rattle.epoch_store.specs.Commands.{RecoversOneOf}
use Rattle.epoch_store.specs.Converting.{CollidesAs, ConvertsEntries, ConvertsStore, GoesOnConverted, IfTellsDamage, IsOfOpened, UnlessFaulted, refused_by}
use Rattle.epoch_store.specs.declared.convert_refusal.ConvertRefusal.{ConvertRefusal}
use Rattle.epoch_store.specs.declared.convert_refusal.ConvertRefusal.TheVariants as refusal
use Rattle.epoch_store.proofs.CarriedOut.{store_same}
use Rattle.epoch_store.proofs.Changing.{short_reads}
use Rattle.epoch_store.proofs.Carrying.{anew_goes, sizes_carried}
use Rattle.epoch_store.proofs.Kept.{stands_now}
use Rattle.epoch_store.proofs.NextArchive.{IsNext, next_leaves, store_next}
use Rattle.epoch_store.proofs.Readying.{read_begins}
use Rattle.epoch_store.proofs.TextDamage.{content_is}

-- What a store keeps once plans are carried out, whatever the form.
pub named_in : (old : Root) (plans : List Plan) (next : ℕ) (form : Form) (new : Root) (es : List StoredEntry) → IsRootAfter old plans next form new → InEpochs es → AreNamedAfter old plans es → AreNamed new es
named_in old plans next form new es after low are = record { lie = are.lie; ends = by es low are.ends } where
  by : (xs : List StoredEntry) → InEpochs xs → AllByRecursion (λ (e : StoredEntry). tree_end e.seen ≤ length_planned old plans e.epoch) xs → AllByRecursion (λ (e : StoredEntry). tree_end e.seen ≤ named_length new e.epoch) xs
  by [] in_ all = tt
  by (x ∷ xs) in_ all =
      let first : x.epoch ≤ 63 = in_ 0 x refl in
      let place = after.epochs x.epoch (omega (arith, first)) in
      let long : named_length new x.epoch ≡ length_planned old plans x.epoch = ap (λ (p : Place). p.length) place in
      let ends = all.0 in
      (omega (arith, ends, long), by xs (λ i f here. in_ (suc i) f here) all.1)

-- Entries in another form are in the same epochs.
pub converted_low : (form : Form) (es fs : List StoredEntry) → InEpochs es → AllZip (ConvertedOf form) es fs → InEpochs fs
converted_low form [] [] low all = low
converted_low form [] (f ∷ fs) low all = absurd all
converted_low form (e ∷ es) [] low all = absurd all
converted_low form (e ∷ es) (f ∷ fs) low all = at (converted_low form es fs (λ j h there. low (suc j) h there) all.1) where
  at : InEpochs fs → InEpochs (f ∷ fs)
  at rest zero g here = (let same = ap (λ (s : StoredEntry). s.epoch) (same_Some f g here) in let kept = all.0.epoch in let first : e.epoch ≤ 63 = low 0 e refl in omega (arith, same, kept, first))
  at rest (suc i) g here = rest i g here

-- The new root goes on from the old one.
pub goes_converted : (old new : Root) (form : Form) (entries : List StoredEntry) (p : Conversion) → PlansConversion old form entries p → IsRootAfter old p.plans old.next form new → GoesOnConverted form old new
goes_converted old new form entries p plans after =
    let map = plans.anew kind.Map 0 refl in
    record {
      sequence = after.sequence;
      config = after.config;
      next = after.next;
      map =
          ap (λ (q : Place). q.generation) after.map
          ∙ (ap (λ (o : Option Plan). (map_planned (old.sequence + 1) o old.map).generation) map.1
          ∙ (ap (λ (t : Target). (map_by (old.sequence + 1) t old.map (plan_count map.0)).generation) map.2 ∙ sym after.sequence));
      cache = after.cache;
      epochs = λ e below.
          (let one = plans.anew kind.Epoch e below in
          let place : get_or new.epochs e no_place ≡ place_by (old.sequence + 1) Anew (get_or old.epochs e no_place) (plan_count one.0) =
          after.epochs e below
          ∙ (ap (λ (o : Option Plan). place_planned (old.sequence + 1) o (get_or old.epochs e no_place)) one.1 ∙ ap (λ (t : Target). place_by (old.sequence + 1) t (get_or old.epochs e no_place) (plan_count one.0)) one.2) in
          subst (λ (q : Place). (q.generation ≡ new.sequence) ⊎ (q ≡ no_place)) (sym place)
          (subst (λ (n : ℕ). ((place_by (old.sequence + 1) Anew (get_or old.epochs e no_place) (plan_count one.0)).generation ≡ n) ⊎ (place_by (old.sequence + 1) Anew (get_or old.epochs e no_place) (plan_count one.0) ≡ no_place)) (sym after.sequence) (anew_goes (old.sequence + 1) (plan_count one.0))));
    }

-- What is kept.
pub entries_converted : (old new : StoreState) (form : Form) (p : Conversion) → PlansConversion old.root form old.entries p → IsRootAfter old.root p.plans old.root.next form new.root → new.entries ≡ p.entries → ConvertsEntries form old new
entries_converted old new form p plans after is = record {
  entries = subst (AllZip (ConvertedOf form) old.entries) (sym is) plans.kept;
  next = after.next;
  config = after.config;
}

-- Plans of a store's own disk make the converted archive.
abbrev pub MayBe : StoreState → Form → Conversion → List ℕ → Archive → Type 0
MayBe v form p cache a = ConvertsParts v.root cache a form p × IsArchive (converted form a)

module _ (v : StoreState) (form : Form) (p : Conversion) (cache : List ℕ) (a : Archive) (k : Option Content) (own : IsStoreWith v cache a k) (may : MayBe v form p cache a) where
  next_is : IsNext (IsRootAfter v.root p.plans v.root.next form) (rewritten v.root p.plans (parts_of a cache)) [] (converted form a)
  next_is = record {
    valid = may.1;
    parts_are = may.0.parts;
    config = λ root after. after.config ∙ ap (with_form form) (store_keeps v cache a k own).names.config;
    next = λ root after. after.next ∙ (store_keeps v cache a k own).names.next;
    cache_fits = λ root after. omega arith;
  }

-- What carrying out promises, by the view of the store.
module _ {D : Type 0} {g : Disk D} {old new : D} {w v : StoreState} {free : ℕ} {plans : List Plan} {form : Form} {p : Conversion} (same : w ≡ v) (free_is : free ≡ 1 - w.slot) (plans_are : plans ≡ p.plans) (fewest : g.reads old ≤ g.reads new) (planned : PlansConversion v.root form v.entries p) where
  by_view : {result : Result Root RewriteRefusal} → CarriesOut g old new w.root free plans w.root.next form result → CarriesOut g old new v.root (1 - v.slot) p.plans v.root.next form result
  by_view {result} carried =
      subst (λ (u : StoreState). CarriesOut g old new u.root (1 - u.slot) p.plans u.root.next form result) same
      (subst (λ (l : List Plan). CarriesOut g old new w.root (1 - w.slot) l w.root.next form result) plans_are
      (subst (λ (n : ℕ). CarriesOut g old new w.root n plans w.root.next form result) free_is carried))

  -- Plans were carried out.
  pub converts_done : {root : Root} {entries : List StoredEntry} → entries ≡ p.entries → CarriesOut g old new w.root free plans w.root.next form (Ok root) → ConvertsStore g old new v (record { root = root; slot = free; entries = entries }) form (MayBe v form p) (Ok tt)
  converts_done {root} {entries} entries_are carries =
      let carried = by_view carries in
      let slot : 1 - v.slot ≡ free = sym (free_is ∙ ap (λ (u : StoreState). 1 - u.slot) same) in
      subst (λ (n : ℕ). Changed (record { root = root; slot = n; entries = entries })) slot (subst (λ (es : List StoredEntry). Changed (record { root = root; slot = 1 - v.slot; entries = es })) (sym entries_are) (record {
        crash = λ a cache own may. next_leaves _ _ [] (converted form a) (next_is v form p cache a (g.content old) own may) g old new v cache a (g.content old) own (carried.crash (parts_of a cache) (store_owns v cache a (g.content old) own));
        done = λ a cache own may.
            store_next _ _ [] (converted form a) (next_is v form p cache a (g.content old) own may) root carried.root_is (1 - v.slot) p.entries (g.content new) may.0.entries (carried.done (parts_of a cache) (store_owns v cache a (g.content old) own));
        settled = carried.settled;
        sizes = sizes_carried root (1 - v.slot) p.entries (g.content new) carried.sizes;
        goes_on = goes_converted v.root root form v.entries p planned carried.root_is;
        slot = refl;
        same = tt;
        opened = tt;
        untouched = tt;
        undamaged = λ a cache own. tt;
        cause = record { later = carried.cause.later; failed = λ fault. absurd (cc fault); kept = λ never. carried.cause.kept (λ wrong. wrong) };
        count = fewest;
        rooted = carried.rooted;
        crash_root = (Some (spelling carried.crash_root.0), carried.crash_root.2);
        damage = tt;
      })) where
        Changed : StoreState → Type 0
        Changed after = ConvertsStore g old new v after form (MayBe v form p) (Ok tt)

  -- What is kept then.
  pub entries_done : {root : Root} {entries : List StoredEntry} → entries ≡ p.entries → CarriesOut g old new w.root free plans w.root.next form (Ok root) → ConvertsEntries form v (record { root = root; slot = free; entries = entries })
  entries_done {root} {entries} entries_are carries = entries_converted v (record { root = root; slot = free; entries = entries }) form p planned (by_view carries).root_is entries_are

  -- The disk failed.
  pub converts_failed : {refused : RewriteRefusal} → refused ≡ rewrite.DiskFault → CarriesOut g old new w.root free plans w.root.next form (Err refused) → ConvertsStore g old new v v form (MayBe v form p) (Err refusal.DiskFault)
  converts_failed {refused = rewrite.Short file at} is carries = absurd (cc is)
  converts_failed {refused = rewrite.DiskFault} is carries =
      let carried = by_view carries in
      record {
        crash = λ a cache own may. next_leaves _ _ [] (converted form a) (next_is v form p cache a (g.content old) own may) g old new v cache a (g.content old) own (carried.crash (parts_of a cache) (store_owns v cache a (g.content old) own));
        done = λ a cache own may. tt;
        settled = tt;
        sizes = tt;
        goes_on = tt;
        slot = tt;
        same = refl;
        opened = tt;
        untouched = tt;
        undamaged = λ a cache own. tt;
        cause = record { later = carried.cause.later; failed = λ fault. carried.cause.failed tt; kept = λ never. absurd (never refl) };
        count = fewest;
        rooted = tt;
        crash_root = (Some (spelling carried.crash_root.0), carried.crash_root.2);
        damage = tt;
      }

-- An error where files were only read, of an archive that is open.
abbrev pub DamageOf : ConvertRefusal → (FileName → ℕ → Type 0) → Type 0
DamageOf (refusal.Damaged file at) P = P file at
DamageOf (refusal.Open why) P = ⊥
DamageOf _ P = Unit {0}

damage_if : (P : FileName → ℕ → Type 0) (why : ConvertRefusal) → DamageOf why P → IfTellsDamage {T = Unit {0}} (Err why) P
damage_if P refusal.IsMirror told = tt
damage_if P refusal.Already told = tt
damage_if P (refusal.Collision n) told = tt
damage_if P refusal.DiskFault told = tt
damage_if P refusal.NoMemory told = tt
damage_if P (refusal.Damaged file at) told = told
damage_if P (refusal.Open why) told = tt

never_open : (P : FileName → ℕ → Type 0) (why : ConvertRefusal) → DamageOf why P → IsOfOpened {T = Unit {0}} (Err why)
never_open P refusal.IsMirror told = tt
never_open P refusal.Already told = tt
never_open P (refusal.Collision n) told = tt
never_open P refusal.DiskFault told = tt
never_open P refusal.NoMemory told = tt
never_open P (refusal.Damaged file at) told = tt
never_open P (refusal.Open why) told = told

unless_any : (P : Type 0) (why : ConvertRefusal) → P → UnlessFaulted {T = Unit {0}} (Err why) P
unless_any P refusal.IsMirror p = p
unless_any P refusal.Already p = p
unless_any P (refusal.Collision n) p = p
unless_any P refusal.DiskFault p = tt
unless_any P refusal.NoMemory p = p
unless_any P (refusal.Damaged file at) p = p
unless_any P (refusal.Open why) p = p

leaves_old : {D : Type 0} {g : Disk D} {old mid : D} (v : StoreState) → OnlyReads g old mid → (cache : List ℕ) (a b : Archive) → IsStoreWith v cache a (g.content old) → LeavesOnly g old mid (RecoversOneOf cache a [] b)
leaves_old {g = g} {old} {mid} v only cache a b own = weaker g old mid (Image (g.content old)) (RecoversOneOf cache a [] b) only.crash (λ image now. stands_now v cache [] a b (g.content old) image own now)

module _ {D : Type 0} {g : Disk D} {old mid : D} {v after : StoreState} {form : Form} {May : List ℕ → Archive → Type 0} {result : Result (Unit {0}) ConvertRefusal} (only : OnlyReads g old mid) where
  pub converts_stopped : (why : ConvertRefusal) → result ≡ Err why → after ≡ v → ((a : Archive) (cache : List ℕ) → IsStoreWith v cache a (g.content old) → DamageOf why (λ (file : FileName) (at : ℕ). ⊥)) → RoseIf (result ≡ Err refusal.DiskFault) (g.faults old) (g.faults mid) → g.reads old ≤ g.reads mid
      → DamageOf why (λ (file : FileName) (at : ℕ). IsDamageIn v file at (g.content old)) → ConvertsStore g old mid v after form May result
  converts_stopped why is same sound cause count told = subst (λ (r : Result (Unit {0}) ConvertRefusal). ConvertsStore g old mid v after form May r) (sym is) (record {
    crash = λ a cache own may. leaves_old v only cache a (converted form a) own;
    done = λ a cache own may. tt;
    settled = tt;
    sizes = tt;
    goes_on = tt;
    slot = tt;
    same = same;
    opened = never_open (λ (file : FileName) (at : ℕ). IsDamageIn v file at (g.content old)) why told;
    untouched = unless_any (OnlyReads g old mid) why only;
    undamaged = λ a cache own. damage_if (λ (file : FileName) (at : ℕ). ⊥) why (sound a cache own);
    cause = subst (λ (r : Result (Unit {0}) ConvertRefusal). RoseIf (r ≡ Err refusal.DiskFault) (g.faults old) (g.faults mid)) is cause;
    count = count;
    rooted = tt;
    crash_root = (None, looks_one g (1 - v.slot) None old mid only.crash);
    damage = damage_if (λ (file : FileName) (at : ℕ). IsDamageIn v file at (g.content old)) why told;
  })

-- A short range: where the disk tells its content there is none.
short_sound : (k : Option Content) → WhereTold (λ (c : Content). Unit {0} → ⊥) k → (v : StoreState) (cache : List ℕ) (a : Archive) → IsStoreWith v cache a k → ⊥
short_sound None whole v cache a own = own
short_sound (Some k) whole v cache a own = whole tt

short_part : (v : StoreState) (form : Form) (p : Conversion) (file : FileName) (at : ℕ) (k : Option Content) → PlansConversion v.root form v.entries p → WhereTold (λ (c : Content). Unit {0} → ⊥) k → IsPlannedPart v.root p.plans file at → IsShortPart v.root file at k
short_part v form p file at k plans whole planned = record {
  kind = planned.plan.kind;
  number = planned.plan.number;
  part = (plans.may.each planned.index planned.plan planned.there).part;
  file_is = planned.part.file_is;
  at_is = planned.part.at_is;
  shorter = never k whole;
} where
  never : (o : Option Content) → WhereTold (λ (c : Content). Unit {0} → ⊥) o → WhereTold (λ (c : Content). length (bytes_of (c file).seen) < at) o
  never None whole = tt
  never (Some c) whole = absurd (whole tt)

module _ {D : Type 0} {g : Disk D} {old new : D} {w v : StoreState} {free : ℕ} {plans : List Plan} {form : Form} {p : Conversion} (same : w ≡ v) (free_is : free ≡ 1 - w.slot) (plans_are : plans ≡ p.plans) (fewest : g.reads old ≤ g.reads new) (planned : PlansConversion v.root form v.entries p) where
  pub converts_short : {refused : RewriteRefusal} {file : FileName} {at : ℕ} → refused ≡ rewrite.Short file at → CarriesOut g old new w.root free plans w.root.next form (Err refused) → ConvertsStore g old new v v form (MayBe v form p) (Err (refusal.Damaged file at))
  converts_short {refused} {file} {at} is carries =
      let carried = by_view same free_is plans_are fewest planned (subst (λ (r : RewriteRefusal). CarriesOut g old new w.root free plans w.root.next form (Err r)) is carries) in
      converts_stopped (short_reads (bounds_of v.root) carried.whole (carried.crash_beside tt) carried.cause.later) (refusal.Damaged file at) refl refl (λ a cache own. short_sound (g.content old) carried.whole v cache a own)
      (record { later = carried.cause.later; failed = λ fault. absurd (cc fault); kept = λ never. carried.cause.kept (λ wrong. wrong) }) fewest (inr (short_part v form p file at (g.content old) planned carried.whole carried.short))

-- An error by its cause.
abbrev err_of : Result (Unit {0}) ConvertRefusal → ConvertRefusal
err_of (Ok x) = refusal.NoMemory
err_of (Err e) = e

none_of : (P : FileName → ℕ → Type 0) (e : ConvertRefusal) → DamageOf e (λ (file : FileName) (at : ℕ). ⊥) → DamageOf e P
none_of P refusal.IsMirror none = tt
none_of P refusal.Already none = tt
none_of P (refusal.Collision n) none = tt
none_of P refusal.DiskFault none = tt
none_of P refusal.NoMemory none = tt
none_of P (refusal.Damaged file at) none = absurd none
none_of P (refusal.Open why) none = none

-- An error without a fault, where files were only read.
pub converts_unmade : {D : Type 0} {g : Disk D} {old mid : D} {v after : StoreState} {form : Form} {May : List ℕ → Archive → Type 0} {result : Result (Unit {0}) ConvertRefusal} → OnlyReads g old mid → (why : ConvertRefusal) → result ≡ Err why → after ≡ v → why ≢ refusal.DiskFault → DamageOf why (λ (file : FileName) (at : ℕ). ⊥) → g.faults mid ≡ g.faults old → g.reads old ≤ g.reads mid
    → ConvertsStore g old mid v after form May result
converts_unmade {g = g} {old} {mid} {v} only why is same other sound steady count =
    converts_stopped only why is same (λ a cache own. sound) (record { later = omega (arith, steady); failed = λ fault. absurd (other (ap err_of (sym is ∙ fault))); kept = λ never. steady }) count (none_of (λ (file : FileName) (at : ℕ). IsDamageIn v file at (g.content old)) why sound)

-- An error before anything was done.
pub converts_unstarted : {D : Type 0} {g : Disk D} {disk : D} {v after : StoreState} {form : Form} {May : List ℕ → Archive → Type 0} {result : Result (Unit {0}) ConvertRefusal} (why : ConvertRefusal) → result ≡ Err why → after ≡ v → ((image : Files) → g.left_since disk (g.moment disk) image → Image (g.content disk) image) → DamageOf why (λ (file : FileName) (at : ℕ). ⊥) → why ≢ refusal.DiskFault
    → ConvertsStore g disk disk v after form May result
converts_unstarted {g = g} {disk} why is same now sound other = converts_unmade (reads_none g disk now) why is same other sound refl (omega arith)

-- An error of planning.
pub planning_damage : (P : FileName → ℕ → Type 0) (why : StoreRefusal) → DamageBy why P → DamageOf (refused_by why) P
planning_damage P store.DiskFault told = tt
planning_damage P store.NoMemory told = tt
planning_damage P (store.Damaged file at) told = told

planning_sound : (why : StoreRefusal) → SeesNoDamage {T = Unit {0}} (Err why) → DamageOf (refused_by why) (λ (file : FileName) (at : ℕ). ⊥)
planning_sound store.DiskFault sound = tt
planning_sound store.NoMemory sound = tt
planning_sound (store.Damaged file at) sound = sound

entry_damage : (v : StoreState) (k : Option Content) (why : StoreRefusal) → DamageBy why (λ (file : FileName) (at : ℕ). IsDamagedEntry v file at k) → DamageBy why (λ (file : FileName) (at : ℕ). IsDamageIn v file at k)
entry_damage v k store.DiskFault told = tt
entry_damage v k store.NoMemory told = tt
entry_damage v k (store.Damaged file at) told = inl told

-- The disk failed exactly where planning says so.
fault_is : (why : StoreRefusal) → refused_by why ≡ refusal.DiskFault → why ≡ store.DiskFault
fault_is store.DiskFault is = refl
fault_is store.NoMemory is = absurd (cc is)
fault_is (store.Damaged file at) is = absurd (cc is)

planning_cause : {T : Type 0} (why : StoreRefusal) (old new : ℕ) → RoseIf (◌≡◌ {A = Result T StoreRefusal} (Err why) (Err store.DiskFault)) old new → RoseIf (◌≡◌ {A = Result (Unit {0}) ConvertRefusal} (Err (refused_by why)) (Err refusal.DiskFault)) old new
planning_cause {T} why old new cause = record {
  later = cause.later;
  failed = λ fault. cause.failed (ap (λ (e : StoreRefusal). Err e) (fault_is why (ap err_of fault)));
  kept = λ never. cause.kept (λ fault. never (ap (λ (e : StoreRefusal). Err (refused_by e)) (store_err fault)));
} where
  store_err : ◌≡◌ {A = Result T StoreRefusal} (Err why) (Err store.DiskFault) → why ≡ store.DiskFault
  store_err is = cc is

pub unplanned_conversion : {D : Type 0} {g : Disk D} {old mid : D} {v after : StoreState} {form : Form} {May : List ℕ → Archive → Type 0} {result : Result (Unit {0}) ConvertRefusal} {T : Type 0} (why : StoreRefusal) → result ≡ Err (refused_by why) → after ≡ v → OnlyReads g old mid → PlansUndamaged {T = T} v (Err why) (g.content old) → DamageBy why (λ (file : FileName) (at : ℕ). IsDamagedEntry v file at (g.content old)) → RoseIf (◌≡◌ {A = Result T StoreRefusal} (Err why) (Err store.DiskFault)) (g.faults old) (g.faults mid) → g.reads old ≤ g.reads mid
    → ConvertsStore g old mid v after form May result
unplanned_conversion {g = g} {old} {mid} {v} {result = result} why is same only sound told cause count =
    converts_stopped only (refused_by why) is same (λ a cache own. planning_sound why (sound a cache own)) (subst (λ (r : Result (Unit {0}) ConvertRefusal). RoseIf (r ≡ Err refusal.DiskFault) (g.faults old) (g.faults mid)) (sym is) (planning_cause why (g.faults old) (g.faults mid) cause)) count (planning_damage (λ (file : FileName) (at : ℕ). IsDamageIn v file at (g.content old)) why (entry_damage v (g.content old) why told))

-- A disk that was only read, and then what is carried out.
if_weaker : (P : Type 0) (result : Result (Unit {0}) ConvertRefusal) → UnlessFaulted result P → (Q : Type 0) → (P → Q) → UnlessFaulted result Q
if_weaker P (Ok x) p Q less = tt
if_weaker P (Err refusal.IsMirror) p Q less = less p
if_weaker P (Err refusal.Already) p Q less = less p
if_weaker P (Err (refusal.Collision n)) p Q less = less p
if_weaker P (Err refusal.DiskFault) p Q less = tt
if_weaker P (Err refusal.NoMemory) p Q less = less p
if_weaker P (Err (refusal.Damaged file at)) p Q less = less p
if_weaker P (Err (refusal.Open why)) p Q less = less p

rooted_since : (result : Result (Unit {0}) ConvertRefusal) (free : ℕ) (body : List ℕ) (k m o : Option Content) → BothTold Unchanged k m → OnOk result (BothTold (HasNewRoot free body) m o) → OnOk result (BothTold (HasNewRoot free body) k o)
rooted_since result free body k m o same = on_ok_weaker result (told_then Unchanged (HasNewRoot free body) (HasNewRoot free body) k m o
    (λ a b c is told kept rooted. rooted ∙ ap (λ (it : Kept). Some (with_root free body (bytes_of it.seen))) (kept root_name)) same)

pub planned_conversion : {D : Type 0} {g : Disk D} {old mid new : D} {before after : StoreState} {form : Form} {result : Result (Unit {0}) ConvertRefusal} (p : Conversion) → OnlyReads g old mid → ((a : Archive) (cache : List ℕ) → IsStoreWith before cache a (g.content old) → MayBe before form p cache a) → g.faults mid ≡ g.faults old → g.reads old ≤ g.reads mid
    → ConvertsStore g mid new before after form (MayBe before form p) result → ConvertsStore g old new before after form (λ (cache : List ℕ) (a : Archive). Unit {0}) result
planned_conversion {g = g} {old} {mid} {new} {before} {after} {form} {result} p only makes steady fewest carried = record {
  crash = λ a cache own may.
      joined g old mid new (RecoversOneOf cache a [] (converted form a)) (RecoversOneOf cache a [] (converted form a)) (RecoversOneOf cache a [] (converted form a)) (leaves_old before only cache a (converted form a) own) (carried.crash a cache (still cache a own) (makes a cache own)) (λ image stands. stands) (λ image stands. stands);
  done = λ a cache own may. carried.done a cache (still cache a own) (makes a cache own);
  settled = carried.settled;
  sizes = carried.sizes;
  goes_on = carried.goes_on;
  slot = carried.slot;
  same = carried.same;
  opened = carried.opened;
  untouched = if_weaker (OnlyReads g mid new) result carried.untouched (OnlyReads g old new) (λ more. reads_both g old mid new only more);
  undamaged = λ a cache own. carried.undamaged a cache (still cache a own);
  cause = subst (λ (n : ℕ). RoseIf (result ≡ Err refusal.DiskFault) n (g.faults new)) steady carried.cause;
  count = (let more = carried.count in omega (arith, fewest, more));
  rooted = rooted_since result after.slot (spelling after.root) (g.content old) (g.content mid) (g.content new) only.same carried.rooted;
  crash_root = read_begins g (1 - before.slot) old mid new (omega arith) only.same only.crash carried.crash_root;
  damage = subst (λ (k : Option Content). IfTellsDamage result (λ (file : FileName) (at : ℕ). IsDamageIn before file at k)) (content_is (g.content old) (g.content mid) only.same) carried.damage;
} where
  still : (cache : List ℕ) (a : Archive) → IsStoreWith before cache a (g.content old) → IsStoreWith before cache a (g.content mid)
  still cache a own = store_same before cache a (g.content old) (g.content mid) only.same own

-- How the answer agrees with the collision.
pub collides_refused : (T : Type 0) (form : Form) (a : Archive) (why : StoreRefusal) → SeesNoDamage {T = T} (Err why) → CollidesAs {T = Unit {0}} form a (Err (refused_by why))
collides_refused T form a store.DiskFault sound = tt
collides_refused T form a store.NoMemory sound = tt
collides_refused T form a (store.Damaged file at) sound = sound

pub collides_none : (form : Form) (a : Archive) (result : Result (Unit {0}) ConvertRefusal) → collision_of form a ≡ None → ((n : ℕ) → result ≢ Err (refusal.Collision n)) → IfTellsDamage result (λ (file : FileName) (at : ℕ). ⊥) → CollidesAs form a result
collides_none form a (Ok x) none never sound = none
collides_none form a (Err refusal.IsMirror) none never sound = tt
collides_none form a (Err refusal.Already) none never sound = tt
collides_none form a (Err (refusal.Collision n)) none never sound = absurd (never n refl)
collides_none form a (Err refusal.DiskFault) none never sound = tt
collides_none form a (Err refusal.NoMemory) none never sound = tt
collides_none form a (Err (refusal.Damaged file at)) none never sound = sound
collides_none form a (Err (refusal.Open why)) none never sound = tt
