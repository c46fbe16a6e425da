-- Damage that a purge or an edit tells: of an entry whose text isn't in its place, or of a short file.
use Rattle.std.specs.Prelude.{◌≡◌, ◌<◌, ℕ, length, drop, slice_get, Option, Some, None, refl}
use Rattle.std.proofs.Common.{◌∙◌, subst, inl, arith, length-drop, length-take}
use Rattle.arch_base.specs.declared.ids.Form.{Form}
use Rattle.disk_model.specs.declared.name.FileName.{FileName}
use Rattle.disk_model.specs.Disk.{Content, BothTold, Unchanged, WhereTold, bytes_of}
use Rattle.root_change.specs.Rewriting.{IsPlannedPart}
use Rattle.epoch_file.specs.Planning.{LacksText}
use Rattle.epoch_file.specs.declared.refusal.StoreRefusal.{StoreRefusal}
use Rattle.epoch_file.specs.declared.refusal.StoreRefusal.TheVariants.{DiskFault, NoMemory, Damaged}
use Rattle.store_finding.specs.declared.entries.StoredEntry.{StoredEntry}
use Rattle.store_planning.specs.DamagedTexts.{DamageBy, IsDamageIn, IsDamageOf, IsDamagedEntry, IsShortPart}
use Rattle.store_finding.specs.Files.{epoch_file_of}
use Rattle.store_planning.specs.Planning.{IsReadyPlan, Planning}
use Rattle.store_finding.specs.Reading.{HasText}
use Rattle.store_planning.specs.Dropping.{IsUndamagedStore}
use Rattle.store_finding.specs.Kept.{StoreState}
use Rattle.epoch_store.proofs.Purged.{one_content}

-- An error that isn't damage tells of none.
pub none_told : (P : FileName → ℕ → Type 0) (why : StoreRefusal) → IsUndamagedStore why → DamageBy why P
none_told P DiskFault sound = tt
none_told P NoMemory sound = tt
none_told P (Damaged file at) sound = absurd sound

-- An entry whose text isn't in its place, after the disk was only read.
lacks_here : (v : StoreState) (s : StoredEntry) (form : Form) (file : FileName) (k m : Option Content) → form ≡ v.root.config.form → file ≡ epoch_file_of v.root s.epoch → BothTold Unchanged k m → WhereTold (LacksText form file s.seen) m → WhereTold (λ (c : Content). HasText v.root s c → ⊥) k
lacks_here v s form file None m form_is file_is same lack = tt
lacks_here v s form file (Some k) None form_is file_is same lack = absurd same
lacks_here v s form file (Some k) (Some m) form_is file_is same lack = λ has.
    let own = epoch_file_of v.root s.epoch in
    let lacks : LacksText v.root.config.form own s.seen k =
    subst (λ (g : Form). LacksText g own s.seen k) form_is (subst (λ (f : FileName). LacksText form f s.seen k) file_is (subst (LacksText form file s.seen) (one_content k m same) lack)) in
    let bytes = bytes_of (k own).seen in
    let long = has.long in
    lacks (omega (arith, long, length-take s.seen.size (drop s.seen.text_at bytes), length-drop s.seen.text_at bytes)) has.blob

pub entry_damage : (v : StoreState) (i : ℕ) (s : StoredEntry) (form : Form) (file : FileName) (k m : Option Content) (why : StoreRefusal) → slice_get v.entries i ≡ Some s → form ≡ v.root.config.form → file ≡ epoch_file_of v.root s.epoch → BothTold Unchanged k m → DamageBy why (IsDamageOf form file s m) → DamageBy why (λ (f : FileName) (at : ℕ). IsDamagedEntry v f at k)
entry_damage v i s form file k m DiskFault here form_is file_is same damage = tt
entry_damage v i s form file k m NoMemory here form_is file_is same damage = tt
entry_damage v i s form file k m (Damaged f at) here form_is file_is same damage =
    record { index = i; entry = s; there = here; file_is = damage.0 ∙ file_is; at_is = damage.1; lacks = lacks_here v s form file k m form_is file_is same damage.2 }

pub entry_told : (v : StoreState) (k : Option Content) (why : StoreRefusal) → DamageBy why (λ (f : FileName) (at : ℕ). IsDamagedEntry v f at k) → DamageBy why (λ (f : FileName) (at : ℕ). IsDamageIn v f at k)
entry_told v k DiskFault damage = tt
entry_told v k NoMemory damage = tt
entry_told v k (Damaged f at) damage = inl damage

-- The file of a planned part is too short.
pub short_told : (v : StoreState) (p : Planning) (next : ℕ) (file : FileName) (at : ℕ) (k : Option Content) → IsReadyPlan v.root p.plans next → WhereTold (λ (c : Content). Unit {0} → ⊥) k → IsPlannedPart v.root p.plans file at → IsShortPart v.root file at k
short_told v p next file at k ready whole planned = record {
  kind = planned.plan.kind;
  number = planned.plan.number;
  part = (ready.plans_may.each planned.index planned.plan planned.there).part;
  file_is = planned.part.file_is;
  at_is = planned.part.at_is;
  shorter = never k whole;
} where
  never : (o : Option Content) → WhereTold (λ (c : Content). Unit {0} → ⊥) o → WhereTold (λ (c : Content). length (bytes_of (c file).seen) < at) o
  never None whole = tt
  never (Some c) whole = absurd (whole tt)

-- What a disk tells that was only read.
pub content_is : (k m : Option Content) → BothTold Unchanged k m → m ≡ k
content_is None None same = refl
content_is None (Some m) same = absurd same
content_is (Some k) None same = absurd same
content_is (Some k) (Some m) same = λ i. Some (λ (name : FileName). same name i)
