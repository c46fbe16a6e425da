-- A purge and an edit: what is planned, and then carried out.
use Rattle.std.specs.Prelude.{◌≡◌, ◌≢◌, ◌+◌, ◌≤◌, ◌==◌, ◌||◌, nat_lt, not, ℕ, zero, suc, Bool, true, false, if◌then◌else◌, List, [], ◌∷◌, length, Option, Some, None, Result, Ok, Err, OnOk, refl}
use Rattle.std.specs.List.{AllZip}
use Rattle.std.proofs.Common.{◌∙◌, sym, ap, subst, arith}
use Rattle.std.proofs.lemmas.Bool.Decides.{nat_tests}
use Rattle.std.proofs.lemmas.Option.{same_Some}
use Rattle.std.proofs.lemmas.Result.{on_ok_weaker}
use Rattle.arch_base.specs.declared.ids.ObjectId.{ObjectId}
use Rattle.arch_base.specs.Moments.{last_moment}
use Rattle.arch_base.specs.Ids.{id_eq}
use Rattle.disk_model.specs.declared.disk.Disk.{Ghosts as Disk}
use Rattle.disk_model.specs.Disk.{Content, Kept, BothTold, Unchanged, WhereTold, bytes_of}
use Rattle.disk_model.specs.Tells.{told_then}
use Rattle.mail_reader.specs.StorageTexts.{IsStorageText}
use Rattle.arch_model.specs.Archives.{Entry, Archive, IsFree, in_epoch, live, with_entry, without_entries, without_text}
use Rattle.arch_model.specs.Delivery.{collision, last_epoch, new_epoch, takes_more}
use Rattle.arch_model.specs.Epochs.{epoch_bytes}
use Rattle.arch_model.specs.Validity.{IsArchive, IsEntry}
use Rattle.arch_model.proofs.Commands.{apart_ids, agrees-alone}
use Rattle.arch_model.proofs.Purging.{valid_without}
use Rattle.arch_model.proofs.ValidArchives.{all_weaker, archive_grows, not_before}
use Rattle.epoch_file.specs.Runs.{OnlyReads}
use Rattle.root_slots.specs.RootName.{root_name}
use Rattle.root_slots.specs.Slots.{HasNewRoot, with_root}
use Rattle.epoch_file.specs.declared.refusal.StoreRefusal.{StoreRefusal}
use Rattle.epoch_file.specs.declared.refusal.StoreRefusal.TheVariants.{DiskFault, NoMemory, Damaged}
use Rattle.store_finding.specs.declared.entries.StoredEntry.{StoredEntry}
use Rattle.store_planning.specs.Planning.{KeepsPlanned, Planning, PlansArchive, PlansPurge, PlansWithout}
use Rattle.epoch_store.specs.Commands.{DropsEntries, StoreHasSizes, UnlessFailed}
use Rattle.store_finding.specs.Kept.{InEpochs, IsDiskWith, IsStoreWith, KeepsArchive, StoreState, stored_after}
use Rattle.store_planning.specs.Dropping.{KeptOf, without_blob}
use Rattle.store_finding.proofs.FindingTold.{reads_both}
use Rattle.store_planning.proofs.Planned.{last_at_most}
use Rattle.epoch_store.proofs.Purged.{one_content}

-- A disk that reads as before is the same store's, and was it before.
pub store_same : (v : StoreState) (cache : List ℕ) (a : Archive) (k m : Option Content) → BothTold Unchanged k m → IsStoreWith v cache a k → IsStoreWith v cache a m
store_same v cache a None m same store = absurd store
store_same v cache a (Some k) None same store = absurd same
store_same v cache a (Some k) (Some m) same store = subst (IsDiskWith v cache a) (sym (one_content k m same)) store

pub store_back : (v : StoreState) (cache : List ℕ) (a : Archive) (k m : Option Content) → BothTold Unchanged k m → IsStoreWith v cache a m → IsStoreWith v cache a k
store_back v cache a k None same store = absurd store
store_back v cache a None (Some m) same store = absurd same
store_back v cache a (Some k) (Some m) same store = subst (IsDiskWith v cache a) (one_content k m same) store

pub sizes_same : (v : StoreState) (k m : Option Content) → BothTold Unchanged k m → WhereTold (StoreHasSizes v) k → WhereTold (StoreHasSizes v) m
sizes_same v None None same sizes = tt
sizes_same v None (Some m) same sizes = absurd same
sizes_same v (Some k) None same sizes = absurd same
sizes_same v (Some k) (Some m) same sizes = subst (StoreHasSizes v) (sym (one_content k m same)) sizes

-- The root file after a commit, if it reads as before until then.
pub rooted_since : {T : Type 0} (result : Result T StoreRefusal) (free : ℕ) (body : List ℕ) (k m o : Option Content) → BothTold Unchanged k m → OnOk result (BothTold (HasNewRoot free body) m o) → OnOk result (BothTold (HasNewRoot free body) k o)
rooted_since result free body k m o same = on_ok_weaker result (told_then Unchanged (HasNewRoot free body) (HasNewRoot free body) k m o
    (λ a b c is told kept rooted. rooted ∙ ap (λ (it : Kept). Some (with_root free body (bytes_of it.seen))) (kept root_name)) same)

unless_weaker : {T : Type 0} (P Q : Type 0) (result : Result T StoreRefusal) → (P → Q) → UnlessFailed result P → UnlessFailed result Q
unless_weaker P Q (Ok given) less p = tt
unless_weaker P Q (Err DiskFault) less p = tt
unless_weaker P Q (Err NoMemory) less p = less p
unless_weaker P Q (Err (Damaged file at)) less p = less p

-- A disk that was only read, and then what is carried out.
module _ {D : Type 0} (g : Disk D) where
  pub reads_then : {T : Type 0} (result : Result T StoreRefusal) (old mid new : D) → OnlyReads g old mid → UnlessFailed result (OnlyReads g mid new) → UnlessFailed result (OnlyReads g old new)
  reads_then result old mid new first then_ = unless_weaker (OnlyReads g mid new) (OnlyReads g old new) result (λ more. reads_both g old mid new first more) then_

-- The archive without a text is planned.
pub purged_archive : (v : StoreState) (cache : List ℕ) (a : Archive) (text : List ℕ) (p : Planning) → KeepsArchive v a → PlansWithout v.root cache a text p.plans × (p.entries ≡ stored_after a.config.form [] (without_text a.entries text)) → PlansArchive v.root cache a (without_entries a text) p v.root.next
purged_archive v cache a text p keeps plans = record {
  valid = valid_without a text keeps.valid;
  config = refl;
  next_is = sym keeps.names.next;
  entries = plans.1;
  parts = plans.0.parts;
  whole = plans.0.whole;
}

-- The entries that are kept are in epochs.
first_low : (e : StoredEntry) (es : List StoredEntry) → InEpochs (e ∷ es) → e.epoch ≤ 63
first_low e es all = all 0 e refl

rest_low : (e : StoredEntry) (es : List StoredEntry) → InEpochs (e ∷ es) → InEpochs es
rest_low e es all = λ i f here. all (suc i) f here

low_step : (t : Bool) (e : StoredEntry) (ws fs : List StoredEntry) → e.epoch ≤ 63 → ((gs : List StoredEntry) → AllZip KeptOf ws gs → InEpochs gs) → AllZip KeptOf (if t then e ∷ ws else ws) fs → InEpochs fs
low_step false e ws fs low rest all = rest fs all
low_step true e ws [] low rest all = absurd all
low_step true e ws (f ∷ fs) low rest all = at where
  at : InEpochs (f ∷ fs)
  at zero g here = (let same = ap (λ (s : StoredEntry). s.epoch) (same_Some f g here) in let kept = all.0.epoch in omega (arith, same, kept, low))
  at (suc i) g here = rest fs all.1 i g here

pub kept_low : (es fs : List StoredEntry) (blob : ObjectId) → InEpochs es → AllZip KeptOf (without_blob es blob) fs → InEpochs fs
kept_low [] [] blob low all = low
kept_low [] (f ∷ fs) blob low all = absurd all
kept_low (e ∷ es) fs blob low all = low_step (not (id_eq blob e.seen.blob)) e (without_blob es blob) fs (first_low e es low) (λ gs more. kept_low es gs blob (rest_low e es low) more) all

-- What is kept after a purge.
pub purge_drops : (v new : StoreState) (blob : ObjectId) (p : Planning) → PlansPurge v blob p.entries p.plans → KeepsPlanned v p v.root.next new → DropsEntries v new blob
purge_drops v new blob p plans kept = record {
  entries = subst (AllZip KeptOf (without_blob v.entries blob)) (sym kept.entries) plans.kept;
  next = kept.root.next;
  config = kept.root.config;
}

-- The epoch of the next entry is one of the 64.
new_low : (last limit len : ℕ) → last ≤ 63 → (if takes_more limit last len then last else last + 1) ≤ 63
new_low last limit len low = by (last == 63) refl (nat_lt len limit) where
  by : (t : Bool) → (last == 63) ≡ t → (u : Bool) → (if t || u then last else last + 1) ≤ 63
  by true is u = low
  by false is true = low
  by false is false = (let apart : last ≢ 63 = (λ same. (let hit : (last == 63) ≡ true = grind (arith, nat_tests, same) in let wrong : true ≡ false = sym hit ∙ is in cc)) in omega (arith, low, apart))

pub epoch_low : (b : Archive) → IsArchive b → new_epoch b ≤ 63
epoch_low b valid = new_low (last_epoch b.entries) b.config.limit (length (epoch_bytes b.config.form (in_epoch b.entries (last_epoch b.entries)))) (last_at_most b.entries 63 (all_weaker IsEntry (λ (f : Entry). f.epoch ≤ 63) b.entries (λ f entry. entry.epoch) valid.entries))

-- The archive with one more message is valid.
pub edited_valid : (b : Archive) (text : List ℕ) (moment : ℕ) → IsArchive b → b.next ≤ b.config.max → IsStorageText text → IsFree (live b.entries) text → collision b.config.form b.entries text ≡ None → moment ≤ last_moment → IsArchive (with_entry b (new_epoch b) text moment)
edited_valid b text moment valid left storage free alone in_time =
    let high = valid.config.max_high in
    archive_grows b (new_epoch b) text moment valid (omega (arith, left, high)) (record { text = storage; epoch = epoch_low b valid; moment = in_time }) (not_before b) (apart_ids (live b.entries) text free.0 free.1 free.2) (agrees-alone b.config.form b.entries text alone)
