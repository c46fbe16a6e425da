-- What is planned of a conversion, on the disk of a store.
use Rattle.std.specs.Prelude.{◌≡◌, ℕ, List, [], ◌∷◌, suc, length, Option, None, Err, refl}
use Rattle.std.specs.List.{AllZip}
use Rattle.std.proofs.Common.{◌∙◌, sym, ap, subst}
use Rattle.arch_base.specs.declared.ids.Form.{Form}
use Rattle.disk_model.specs.Disk.{Content}
use Rattle.disk_model.specs.declared.name.FileName.{FileName}
use Rattle.arch_model.specs.Archives.{Archive}
use Rattle.arch_model.specs.Validity.{IsArchive}
use Rattle.epoch_file.specs.declared.refusal.StoreRefusal.{StoreRefusal}
use Rattle.epoch_file.specs.declared.refusal.StoreRefusal.TheVariants as store
use Rattle.root_slots.specs.declared.root.Root.{Root}
use Rattle.store_finding.specs.declared.entries.StoredEntry.{StoredEntry}
use Rattle.store_finding.specs.Kept.{IsStoreWith, StoreState, stored_after}
use Rattle.store_finding.proofs.FrontParts.{store_keeps}
use Rattle.store_planning.specs.DamagedTexts.{DamageBy, IsDamagedEntry}
use Rattle.store_planning.specs.Planning.{PlansUndamaged}
use Rattle.convert_planning.specs.Collisions.{NoneCollides, collision_of}
use Rattle.convert_planning.specs.Converting.{Conversion, ConvertedOf, ConvertsOwn, ConvertsParts, converted, kept_store}
use Rattle.convert_planning.proofs.ValidForms.{valid_in}
use Rattle.epoch_store.proofs.ConvertCarried.{MayBe}

-- Entries in another form are as many.
pub same_count : (form : Form) (es fs : List StoredEntry) → AllZip (ConvertedOf form) es fs → length es ≡ length fs
same_count form [] [] all = refl
same_count form [] (f ∷ fs) all = absurd all
same_count form (e ∷ es) [] all = absurd all
same_count form (e ∷ es) (f ∷ fs) all = ap suc (same_count form es fs all.1)

-- The parts of a store are its view.
pub view_of : (root : Root) (slot : ℕ) (es items : List StoredEntry) (v : StoreState) → es ≡ items → kept_store root slot items ≡ v → kept_store root slot es ≡ v
view_of root slot es items v same is = ap (kept_store root slot) same ∙ is

module _ (root : Root) (slot : ℕ) (es : List StoredEntry) (v : StoreState) (is : kept_store root slot es ≡ v) (k : Option Content) where
  -- What planning says of damage.
  pub sound_for : (T : Type 0) (why : StoreRefusal) → ((s : ℕ) → PlansUndamaged {T = T} (kept_store root s es) (Err why) k) → PlansUndamaged {T = T} v (Err why) k
  sound_for T why sound = subst (λ (u : StoreState). PlansUndamaged {T = T} u (Err why) k) is (sound slot)

  pub damage_for : (why : StoreRefusal) → DamageBy why (λ (file : FileName) (at : ℕ). (s : ℕ) → IsDamagedEntry (kept_store root s es) file at k) → DamageBy why (λ (file : FileName) (at : ℕ). IsDamagedEntry v file at k)
  damage_for store.DiskFault told = tt
  damage_for store.NoMemory told = tt
  damage_for (store.Damaged file at) told = subst (λ (u : StoreState). IsDamagedEntry u file at k) is (told slot)

  module _ (form : Form) (p : Conversion) (own : ConvertsOwn root form es p k) where
    -- Its plans write the archive in the form.
    pub parts_for : (a : Archive) (cache : List ℕ) → IsStoreWith v cache a k → ConvertsParts v.root cache a form p
    parts_for a cache store = subst (λ (u : StoreState). ConvertsParts u.root cache a form p) is (own slot a cache (subst (λ (u : StoreState). IsStoreWith u cache a k) (sym is) store))

    -- What is found among what is kept is the collision of the archive.
    pub found_for : (new : List StoredEntry) (found : Option ℕ) → new ≡ p.entries → ((a : Archive) (f : Form) → IsArchive a → es ≡ stored_after a.config.form [] a.entries → new ≡ stored_after f [] a.entries → found ≡ collision_of f a)
        → (a : Archive) (cache : List ℕ) → IsStoreWith v cache a k → collision_of form a ≡ found
    found_for new found new_is all a cache store =
        let keeps = store_keeps v cache a k store in
        let es_are : es ≡ stored_after a.config.form [] a.entries = ap (λ (u : StoreState). u.entries) is ∙ keeps.kept in
        sym (all a form keeps.valid es_are (new_is ∙ (parts_for a cache store).entries))

    -- If there is none, it may be converted.
    pub may_for : NoneCollides → ((a : Archive) (cache : List ℕ) → IsStoreWith v cache a k → collision_of form a ≡ None) → (a : Archive) (cache : List ℕ) → IsStoreWith v cache a k → MayBe v form p cache a
    may_for law none a cache store =
        let valid = (store_keeps v cache a k store).valid in
        (parts_for a cache store, valid_in form a valid ((law form a valid).0 (none a cache store)))
