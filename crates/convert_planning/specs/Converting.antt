-- What is planned of an archive in another form, and that it writes the archive in that form.
use Rattle.std.specs.Prelude.{◌≡◌, ◌≤◌, ℕ, List, [], length, slice_get, Option, Some}
use Rattle.std.specs.List.{AllZip}
use Rattle.arch_base.specs.Configs.{with_form}
use Rattle.arch_base.specs.declared.ids.Form.{Form}
use Rattle.disk_model.specs.declared.name.FileKind.{FileKind}
use Rattle.disk_model.specs.Disk.{Content}
use Rattle.disk_model.specs.Sizes.{epoch_count}
use Rattle.root_slots.specs.declared.root.Root.{Root}
use Rattle.root_change.specs.declared.plan.Target.TheVariants.{Anew}
use Rattle.root_change.specs.Parts.{texts_of}
use Rattle.root_change.specs.Rewriting.{Plan, IsPartToPlan, IsPlanWhole, MapFits, MayCarryAll, plan_of, rewritten}
use Rattle.arch_model.specs.Archives.{Archive}
use Rattle.epoch_file.specs.Forms.{HasIdsOf}
use Rattle.store_finding.specs.declared.entries.StoredEntry.{StoredEntry}
use Rattle.store_finding.specs.Extents.{AreNamedAfter}
use Rattle.store_finding.specs.Kept.{StoreState, IsStoreWith, stored_after}
use Rattle.store_finding.specs.Recovery.{parts_of}

-- The archive with objects of a form. Its entries, with their numbers, epochs and moments, and the next
-- number stay.
abbrev pub converted : Form → Archive → Archive
converted form a =
    record { config = with_form form a.config; entries = a.entries; next = a.next }

-- What is planned of a conversion: plans of parts, what is kept of the entries, and the new form.
pub record Conversion : Type 0 where
  pub plans : List Plan
  pub entries : List StoredEntry
  pub form : Form

-- There is a plan for each epoch, at its number.
abbrev pub HasPlans : List Plan → Type 0
HasPlans plans = epoch_count ≤ length plans

-- What is kept of an entry in another form: its ids are of that form, and it may be at another offset.
-- All else that is kept of it stays.
pub record ConvertedOf (form : Form) (old new : StoredEntry) : Type 0 where
  pub number : new.number ≡ old.number
  pub epoch : new.epoch ≡ old.epoch
  pub kind : new.seen.kind ≡ old.seen.kind
  pub size : new.seen.size ≡ old.seen.size
  pub ids : HasIdsOf form new.seen
  pub moment : new.seen.moment ≡ old.seen.moment
  pub id : new.seen.id ≡ old.seen.id
  pub content : new.seen.content ≡ old.seen.content

-- What is planned may be carried out, whatever the disk holds: the map and each epoch are written anew,
-- the map with a record for each number below the next one. What is kept of the entries is in the new
-- form, and lies in the new files.
pub record PlansConversion (root : Root) (form : Form) (old : List StoredEntry) (p : Conversion)
    : Type 0 where
  pub may : MayCarryAll root p.plans
  pub map : MapFits root p.plans root.next form
  pub anew : (kind_ : FileKind) (number : ℕ) → IsPartToPlan kind_ number
      → (plan : Plan) × (plan_of p.plans kind_ number ≡ Some plan) × (plan.target ≡ Anew)
  pub kept : AllZip (ConvertedOf form) old p.entries
  pub named : AreNamedAfter root p.plans p.entries

-- What is planned writes the parts of an archive in a form, and this is what is kept of its entries.
pub record ConvertsParts (root : Root) (cache : List ℕ) (a : Archive) (form : Form) (p : Conversion)
    : Type 0 where
  pub entries : p.entries ≡ stored_after form [] a.entries
  pub parts : (kind_ : FileKind) (number : ℕ)
      → rewritten root p.plans (parts_of a cache) kind_ number
      ≡ parts_of (converted form a) [] kind_ number
  pub whole : (i : ℕ) (plan : Plan) → slice_get p.plans i ≡ Some plan
      → IsPlanWhole (texts_of root (parts_of a cache)) plan

-- A store with a root in a slot, and these entries.
abbrev pub kept_store : Root → ℕ → List StoredEntry → StoreState
kept_store root slot entries = record { root = root; slot = slot; entries = entries }

-- So it does on the disk of a store with this root and these entries, whatever archive that holds.
abbrev pub ConvertsOwn : Root → Form → List StoredEntry → Conversion → Option Content → Type 0
ConvertsOwn root form old p content = (slot : ℕ) (a : Archive) (cache : List ℕ)
    → IsStoreWith (kept_store root slot old) cache a content → ConvertsParts root cache a form p
