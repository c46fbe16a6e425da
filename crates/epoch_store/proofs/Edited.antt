-- A message in the place of a text: what is planned of the archive, and what the store then keeps.
use Rattle.std.specs.Prelude.{◌≡◌, ◌+◌, ◌≤◌, ℕ, List, Option, Some, None}
use Rattle.std.proofs.Common.{◌∙◌, sym, subst}
use Rattle.arch_base.specs.declared.config.Config.{Config}
use Rattle.arch_base.specs.declared.ids.ObjectId.{ObjectId}
use Rattle.arch_base.specs.Moments.{last_moment}
use Rattle.disk_model.specs.Disk.{Content}
use Rattle.git_objects.specs.Objects.{blob_id_of}
use Rattle.arch_model.specs.Archives.{Archive, live, text_of, with_entry, without_entries}
use Rattle.arch_model.specs.Delivery.{collision, new_epoch}
use Rattle.arch_model.proofs.LiveEntries.{live-one}
use Rattle.store_planning.specs.Planning.{KeepsPlanned, Planning, PlansArchive, PlansEdit, PlansOwn, PlansPurge}
use Rattle.epoch_store.specs.Commands.{EditsEntries, MayEdit}
use Rattle.store_finding.specs.Kept.{InEpochs, IsStoreWith, StoreState}
use Rattle.epoch_store.proofs.CarriedOut.{edited_valid, kept_low, purged_archive}
use Rattle.store_finding.proofs.FrontParts.{store_keeps}
use Rattle.epoch_store.proofs.Kept.{in_epochs_more}

-- The plans write the archive with the message.
pub edited_archive : (v : StoreState) (number : ℕ) (blob : ObjectId) (text : List ℕ) (moment : ℕ) (p q : Planning) (content : Option Content) → MayEdit v number blob text → moment ≤ last_moment → PlansPurge v blob p.entries p.plans → PlansOwn v blob p.entries p.plans content → PlansEdit v p text moment q
    → (n : ℕ) (a : Archive) (cache gone : List ℕ) → IsStoreWith v cache a content → text_of (live a.entries) n ≡ Some gone → blob_id_of a.config.form gone ≡ blob → collision a.config.form (without_entries a gone).entries text ≡ None
    → PlansArchive v.root cache a (with_entry (without_entries a gone) (new_epoch (without_entries a gone)) text moment) q (v.root.next + 1)
edited_archive v number blob text moment p q content may in_time purge own edit n a cache gone store shown is alone =
    let keeps = store_keeps v cache a content store in
    let there = live-one 1 0 a.entries n gone keeps.valid.order shown in
    let made = purged_archive v cache a gone p keeps (own a cache gone store is (n, there.is)) in
    let left : a.next ≤ a.config.max = subst (λ (c : Config). a.next ≤ c.max) keeps.names.config (subst (λ (m : ℕ). m ≤ v.root.config.max) keeps.names.next may.number_left) in
    edit.archive cache a (without_entries a gone) made keeps.names purge.anew (edited_valid (without_entries a gone) text moment made.valid left may.storage (may.id a n gone keeps there.is is) alone in_time)

-- What is kept then.
pub edit_keeps : (v new : StoreState) (blob : ObjectId) (text : List ℕ) (moment : ℕ) (p q : Planning) → PlansPurge v blob p.entries p.plans → PlansEdit v p text moment q → KeepsPlanned v q (v.root.next + 1) new → EditsEntries v new blob text
edit_keeps v new blob text moment p q purge edit kept = record {
  front = p.entries;
  entry = edit.entry;
  entries = kept.entries ∙ edit.entries;
  kept = purge.kept;
  kind = edit.kind_is;
  number = edit.number;
  id = edit.id;
  blob_is = edit.blob;
  content = edit.content;
  next = kept.root.next;
  config = kept.root.config;
}

-- Its entries are in epochs.
pub edit_low : (v : StoreState) (blob : ObjectId) (text : List ℕ) (moment : ℕ) (p q : Planning) → InEpochs v.entries → PlansPurge v blob p.entries p.plans → PlansEdit v p text moment q → InEpochs q.entries
edit_low v blob text moment p q low purge edit = subst InEpochs (sym edit.entries) (in_epochs_more p.entries edit.entry (kept_low v.entries p.entries blob low purge.kept) edit.small)
