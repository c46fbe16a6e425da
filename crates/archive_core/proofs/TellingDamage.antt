-- The damage that a command tells, by what is read and by what the store tells.
use Rattle.std.specs.Prelude.{◌≡◌, ℕ, false, List, slice_get, Option, Some, None, Err, refl}
use Rattle.std.proofs.Common.{◌∙◌, sym, ap, subst, inl, inr}
use Rattle.disk_model.specs.declared.name.FileName.{FileName}
use Rattle.disk_model.specs.Disk.{Content, BothTold, Unchanged, WhereTold}
use Rattle.arch_base.specs.Ids.{form_of}
use Rattle.git_objects.specs.Objects.{blob_id_of}
use Rattle.arch_model.specs.declared.answer.Answer.{Answer}
use Rattle.arch_model.specs.declared.answer.Answer.TheVariants as answer
use Rattle.arch_model.specs.declared.text_refusal.TextRefusal.{TextRefusal}
use Rattle.arch_model.specs.declared.text_refusal.TextRefusal.TheVariants as reading
use Rattle.arch_base.specs.declared.config.Config.{Config}
use Rattle.arch_judge.specs.Judging.{IsForDelivery, MayTake, RefusesLast}
use Rattle.arch_judge.specs.declared.index.Index.{Index}
use Rattle.arch_judge.specs.declared.judging.Verdict.{Verdict}
use Rattle.arch_judge.specs.declared.judging.Verdict.TheVariants.{Take, Refuse}
use Rattle.epoch_file.specs.declared.refusal.StoreRefusal.{StoreRefusal}
use Rattle.epoch_file.specs.declared.refusal.StoreRefusal.TheVariants as refusal
use Rattle.store_finding.specs.declared.entries.StoredEntry.{StoredEntry}
use Rattle.store_planning.specs.DamagedTexts.{DamageBy, IsDamageIn, IsDamagedEntry}
use Rattle.epoch_store.proofs.OwnForm.{in_own_form}
use Rattle.epoch_store.specs.Reads.{FindsText, GivesText}
use Rattle.store_finding.specs.Reading.{HasText}
use Rattle.store_finding.specs.Kept.{StoreState}
use Rattle.archive_core.specs.Commands.{IsNamed, IsTextAt, damaged_place, refusal_answer, unread_answer}
use Rattle.archive_core.specs.DamageTold.{OnDamage, RefusesVerdict, TellsDamage, TellsEntry}
use Rattle.archive_core.specs.Engines.{unchanged-is}
use Rattle.archive_core.proofs.WithoutText.{is_damage}

-- Damage that is told holds of less.
damage-then : (reply : Answer) (P Q : FileName → ℕ → Type 0) → ((file : FileName) (at : ℕ) → P file at → Q file at) → OnDamage reply P → OnDamage reply Q
damage-then (answer.Damaged file at) P Q weaken is = weaken file at is
damage-then other P Q weaken is = tt

-- An answer that isn't damage.
pub none-damaged : (reply : Answer) (P : FileName → ℕ → Type 0) → is_damage reply ≡ false → OnDamage reply P
none-damaged (answer.Damaged file at) P none = absurd (cc)
none-damaged other P none = tt

pub entry-damage : (v : StoreState) (k : Option Content) (reply : Answer) → TellsEntry v k reply → TellsDamage v k reply
entry-damage v k reply is = damage-then reply (λ (f : FileName) (at : ℕ). IsDamagedEntry v f at k) _ (λ f at entry. inl (inl entry)) is

-- The same after the disk was only read.
pub damage-back : (v : StoreState) (k m : Option Content) (reply : Answer) → BothTold Unchanged k m → TellsDamage v m reply → TellsDamage v k reply
damage-back v k m reply same is = subst (λ (o : Option Content). TellsDamage v o reply) (unchanged-is k m same) is

-- A text that wasn't read.
place-damage : (v : StoreState) (index : ℕ) (old new : List ℕ) (why : TextRefusal) (k : Option Content) → ((s : StoredEntry) → slice_get v.entries index ≡ Some s → GivesText s old new (Err why)) → ((s : StoredEntry) → slice_get v.entries index ≡ Some s → WhereTold (FindsText v.root s old new (Err why)) k) → TellsEntry v k (unread_answer v index why)
place-damage v index old new reading.DiskFault k gives finds = tt
place-damage v index old new reading.NoMemory k gives finds = tt
place-damage v index old new (reading.Damaged named other) k gives finds = at_place (slice_get v.entries index) refl where
  lacks : (s : StoredEntry) → slice_get v.entries index ≡ Some s → (o : Option Content) → WhereTold (FindsText v.root s old new (Err (reading.Damaged named other))) o → WhereTold (λ (c : Content). HasText v.root s c → ⊥) o
  lacks s here None found = tt
  lacks s here (Some c) found = λ has.
      let given = gives s here in
      given.2 (found.2 ∙ (ap (blob_id_of (form_of s.seen.blob)) (found.1 has.long) ∙ (in_own_form v.root.config.form _ s.seen.blob has.blob ∙ sym given.1)))

  at_place : (o : Option StoredEntry) → slice_get v.entries index ≡ o → TellsEntry v k (damaged_place v o)
  at_place None here = tt
  at_place (Some s) here = record { index = index; entry = s; there = here; file_is = refl; at_is = refl; lacks = lacks s here k (finds s here) }

pub unread-damage : (w v : StoreState) (index : ℕ) (old new : List ℕ) (why : TextRefusal) (reply : Answer) (k : Option Content) → w ≡ v → reply ≡ unread_answer v index why → ((s : StoredEntry) → slice_get w.entries index ≡ Some s → GivesText s old new (Err why)) → ((s : StoredEntry) → slice_get w.entries index ≡ Some s → WhereTold (FindsText w.root s old new (Err why)) k)
    → TellsEntry v k reply
unread-damage w v index old new why reply k same reply_is gives finds =
    subst (TellsEntry v k) (sym reply_is) (subst (λ (u : StoreState). TellsEntry u k (unread_answer u index why)) same (place-damage w index old new why k gives finds))

-- A text with another own id.
pub misnamed-damage : (v : StoreState) (index : ℕ) (text : List ℕ) (reply : Answer) (k : Option Content) → IsTextAt v.entries index text → (IsNamed v.entries index text → ⊥) → reply ≡ damaged_place v (slice_get v.entries index) → TellsDamage v k reply
misnamed-damage v index text reply k is_text unnamed reply_is = subst (TellsDamage v k) (sym reply_is) (at_place (slice_get v.entries index) refl) where
  at_place : (o : Option StoredEntry) → slice_get v.entries index ≡ o → TellsDamage v k (damaged_place v o)
  at_place None here = tt
  at_place (Some s) here = inr (record { index = index; entry = s; there = here; file_is = refl; at_is = refl; text = text; is_text = is_text s here; other = λ own. unnamed (s, here, own) })

-- An error of the store.
store_damage : (v : StoreState) (k : Option Content) (why : StoreRefusal) → DamageBy why (λ (f : FileName) (at : ℕ). IsDamageIn v f at k) → TellsDamage v k (refusal_answer why)
store_damage v k refusal.DiskFault is = tt
store_damage v k refusal.NoMemory is = tt
store_damage v k (refusal.Damaged file at) is = inl is

pub store-damage : (v : StoreState) (k m : Option Content) (why : StoreRefusal) (reply : Answer) → reply ≡ refusal_answer why → BothTold Unchanged k m → DamageBy why (λ (f : FileName) (at : ℕ). IsDamageIn v f at m) → TellsDamage v k reply
store-damage v k m why reply reply_is same is = subst (TellsDamage v k) (sym reply_is) (damage-back v k m (refusal_answer why) same (store_damage v m why is))

-- A verdict before a text was read, or after it was compared.
for_delivery : (v : StoreState) (k : Option Content) (reply : Answer) → IsForDelivery reply → TellsEntry v k reply
for_delivery v k (answer.Ok number id) is = tt
for_delivery v k (answer.Duplicate number) is = tt
for_delivery v k answer.NoFields is = tt
for_delivery v k (answer.TooLarge len) is = tt
for_delivery v k (answer.Full max) is = tt
for_delivery v k (answer.Collision number) is = tt
for_delivery v k (answer.NotLive number) is = tt
for_delivery v k (answer.NoText number) is = tt
for_delivery v k answer.IsMirror is = tt
for_delivery v k answer.DiskFault is = tt
for_delivery v k answer.NoMemory is = tt
for_delivery v k (answer.Damaged file at) never = absurd never

pub judged-damage : (v : StoreState) (k : Option Content) (config : Config) (index : Index) (next : ℕ) (verdict : Verdict) → MayTake config index next verdict → RefusesVerdict v k verdict
judged-damage v k config index next (Take text ids number) is = tt
judged-damage v k config index next (Refuse reply) is = for_delivery v k reply is

last_damage : (v : StoreState) (k : Option Content) (reply : Answer) → RefusesLast (Refuse reply) → TellsEntry v k reply
last_damage v k (answer.Ok number id) is = tt
last_damage v k (answer.Duplicate number) is = tt
last_damage v k answer.NoFields is = tt
last_damage v k (answer.TooLarge len) is = tt
last_damage v k (answer.Full max) is = tt
last_damage v k (answer.Collision number) is = tt
last_damage v k (answer.NotLive number) is = tt
last_damage v k (answer.NoText number) is = tt
last_damage v k answer.IsMirror is = tt
last_damage v k answer.DiskFault is = tt
last_damage v k answer.NoMemory is = tt
last_damage v k (answer.Damaged file at) never = absurd never

pub compared-damage : (v : StoreState) (k : Option Content) (verdict : Verdict) → RefusesLast verdict → RefusesVerdict v k verdict
compared-damage v k (Take text ids number) is = tt
compared-damage v k (Refuse reply) is = last_damage v k reply is
