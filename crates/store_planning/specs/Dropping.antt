-- What stays of the entries that are kept, where they end, and errors that tell no damage.
use Rattle.std.specs.Prelude.{not, ◌≡◌, List, None, Result, Ok, Err}
use Rattle.std.specs.List.{filter}
use Rattle.arch_base.specs.Ids.{id_eq}
use Rattle.arch_base.specs.declared.ids.ObjectId.{ObjectId}
use Rattle.arch_model.specs.Archives.{Archive, in_epoch}
use Rattle.arch_model.specs.Delivery.{last_epoch}
use Rattle.arch_model.specs.Epochs.{last_commit}
use Rattle.epoch_file.specs.declared.refusal.StoreRefusal.{StoreRefusal}
use Rattle.epoch_file.specs.declared.refusal.StoreRefusal.TheVariants.{Damaged}
use Rattle.store_finding.specs.declared.entries.StoredEntry.{StoredEntry}
use Rattle.store_planning.specs.declared.next.End.{End}

-- The epoch of the last entry of an archive, or 0, and its last commit.
pub record IsStoreEnd (a : Archive) (end_ : End) : Type 0 where
  pub epoch : end_.epoch ≡ last_epoch a.entries
  pub parent : end_.parent
      ≡ last_commit a.config.form None (in_epoch a.entries (last_epoch a.entries))

-- An error tells of no damage.
abbrev pub IsUndamagedStore : StoreRefusal → Type 0
IsUndamagedStore (Damaged file offset) = ⊥
IsUndamagedStore _ = Unit {0}

-- A call that doesn't read never returns `Damaged`.
abbrev pub SeesNoDamage : {T : Type 0} → Result T StoreRefusal → Type 0
SeesNoDamage (Ok given) = Unit {0}
SeesNoDamage (Err why) = IsUndamagedStore why

-- The entries that are kept but those with a blob id.
abbrev pub without_blob : List StoredEntry → ObjectId → List StoredEntry
without_blob entries blob = filter (λ (e : StoredEntry). not (id_eq blob e.seen.blob)) entries

-- An entry was kept of the one before: in the same epoch, under its number, with the ids of its text.
-- Its offset and its commit may be others.
pub record KeptOf (old new : StoredEntry) : Type 0 where
  pub number : new.number ≡ old.number
  pub epoch : new.epoch ≡ old.epoch
  pub kind : new.seen.kind ≡ old.seen.kind
  pub size : new.seen.size ≡ old.seen.size
  pub blob : new.seen.blob ≡ old.seen.blob
  pub moment : new.seen.moment ≡ old.seen.moment
  pub id : new.seen.id ≡ old.seen.id
  pub content : new.seen.content ≡ old.seen.content
