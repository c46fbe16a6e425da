-- An archive that comes after another one, by a root that names its parts.
use Rattle.std.specs.Prelude.{◌≡◌, ◌⊎◌, ◌-◌, ◌≤◌, ℕ, List, [], length, Option, Some, None}
use Rattle.std.proofs.Common.{sym, subst, inl, inr}
use Rattle.disk_model.specs.declared.disk.Disk.{Ghosts as Disk}
use Rattle.disk_model.specs.declared.name.FileKind.{FileKind}
use Rattle.disk_model.specs.declared.name.FileKind.TheVariants as kind
use Rattle.disk_model.specs.Disk.{Files, Content}
use Rattle.disk_model.specs.Moments.{LeavesOnly, weaker}
use Rattle.arch_model.specs.Archives.{Archive}
use Rattle.arch_model.specs.Validity.{IsArchive}
use Rattle.root_slots.specs.declared.root.Root.{Root}
use Rattle.root_slots.specs.Valid.{IsRoot, RootFits}
use Rattle.root_change.specs.Names.{place_of}
use Rattle.root_change.specs.Parts.{Parts, PartsFit, IsOwnOfParts, RecoversPartsBy as RecoversParts, texts_of}
use Rattle.root_change.specs.Texts.{IsOn, StandsFor}
use Rattle.store_finding.specs.declared.entries.StoredEntry.{StoredEntry}
use Rattle.store_finding.specs.Recovery.{NamesArchive, parts_of, RecoversWith}
use Rattle.store_finding.specs.Kept.{IsStoreWith, StoreState, stored_after}
use Rattle.epoch_store.specs.Commands.{RecoversOneOf}
use Rattle.store_finding.proofs.FrontParts.{store_keeps, store_cache}

-- Parts are those of an archive and a cache, and each root that comes after another one has its
-- settings, its next number, and room for the cache.
pub record IsNext (After : Root → Type 0) (parts : Parts) (cache : List ℕ) (b : Archive) : Type 0 where
  pub valid : IsArchive b
  pub parts_are : (k : FileKind) (n : ℕ) → parts k n ≡ parts_of b cache k n
  pub config : (root : Root) → After root → root.config ≡ b.config
  pub next : (root : Root) → After root → root.next ≡ b.next
  pub cache_fits : (root : Root) → After root → length cache ≤ root.cache.length

module _ (After : Root → Type 0) (parts : Parts) (cache : List ℕ) (b : Archive) (is : IsNext After parts cache b) where
  same_parts : parts ≡ parts_of b cache
  same_parts = λ i. λ (k : FileKind) (n : ℕ). is.parts_are k n i

  module _ (root : Root) (after : After root) where
    names_next : IsRoot root → RootFits root → PartsFit root parts → NamesArchive root b
    names_next valid fits long = record {
      is_root = valid;
      fits = fits;
      config = is.config root after;
      next = is.next root after;
      epochs = λ e below. sym (subst (λ (ps : Parts). length (ps kind.Epoch e) ≡ (place_of root kind.Epoch e).length) same_parts (long kind.Epoch e));
    }

    recovers_next : (image : Files) → RecoversParts root parts image → RecoversWith cache image b
    recovers_next image by = (root, record { valid = is.valid; names = names_next by.valid by.fits by.long; cache_fits = is.cache_fits root after; stands = subst (λ (ps : Parts). StandsFor root (texts_of root ps) image) same_parts by.stands })

    -- What the store has that keeps its entries.
    pub store_next : (free : ℕ) (entries : List StoredEntry) (k : Option Content) → entries ≡ stored_after b.config.form [] b.entries → IsOwnOfParts root (1 - free) parts k → IsStoreWith (record { root = root; slot = free; entries = entries }) cache b k
    store_next free entries None kept own = absurd own.on
    store_next free entries (Some k) kept own = record {
      keeps = record { valid = is.valid; names = names_next own.valid own.fits own.long; kept = kept };
      cache_fits = is.cache_fits root after;
      on = subst (λ (ps : Parts). IsOn root (1 - free) (texts_of root ps) k) same_parts own.on;
    }

  -- What a crash leaves of a store's own disk, or of the next archive.
  pub next_leaves : {D : Type 0} (g : Disk D) (disk new : D) (v : StoreState) (old : List ℕ) (a : Archive) (k : Option Content) → IsStoreWith v old a k
      → LeavesOnly g disk new (λ image. RecoversParts v.root (parts_of a old) image ⊎ ((made : Root) × After made × RecoversParts made parts image)) → LeavesOnly g disk new (RecoversOneOf old a cache b)
  next_leaves g disk new v old a k store leaves =
      let keeps = store_keeps v old a k store in
      weaker g disk new _ (RecoversOneOf old a cache b) leaves (λ image either. elim either [
        | inl by ↦ inl (v.root, record { valid = keeps.valid; names = keeps.names; cache_fits = store_cache v old a k store; stands = by.stands })
        | inr r ↦ inr (recovers_next r.0 r.1 image r.2)
      ])
