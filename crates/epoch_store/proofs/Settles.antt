-- A disk is settled: the other slot is made ready, and the files are tidied.
use Rattle.std.specs.Prelude.{◌≡◌, ◌⊎◌, ◌-◌, ℕ, List, length, take, Option, Some, None, IsSome, refl}
use Rattle.std.specs.List.{Contains}
use Rattle.std.proofs.Common.{◌∙◌, sym, ap, subst, inl, inr}
use Rattle.store_finding.specs.Listing.{AreAllNames}
use Rattle.disk_model.specs.declared.disk.Disk.{Ghosts as Disk}
use Rattle.disk_model.specs.declared.name.FileName.{FileName}
use Rattle.disk_model.specs.Disk.{File, Files, Content, Image, BothTold, WhereTold, Unchanged, bytes_of}
use Rattle.disk_model.specs.Images.{same_or_other}
use Rattle.disk_model.specs.Moments.{LeavesOnly, joined}
use Rattle.disk_model.specs.Synced.{settled_image}
use Rattle.disk_model.specs.Tells.{told_then}
use Rattle.root_slots.specs.declared.root.Root.{Root}
use Rattle.root_slots.specs.RootName.{root_name}
use Rattle.root_slots.specs.Each.{IfThere}
use Rattle.root_slots.specs.Slots.{Ready}
use Rattle.root_slots.specs.Spelling.{spelling}
use Rattle.root_change.specs.Names.{named_end}
use Rattle.root_change.specs.Texts.{Texts, counted, StandsFor, as_read}
use Rattle.root_change.specs.Tidying.{Tidied, IsToTidy, ToTidy}
use Rattle.root_change.proofs.Drops.{unnamed_apart}
use Rattle.root_change.proofs.Phases.{current_has, settled_file}
use Rattle.root_change.proofs.Roots.{none_at_most}
use Rattle.epoch_store.specs.Settling.{RootIsSettled, StaysCurrent, IsReadied, KeepsSlots, ReadiesSlot, FoundOn, IsToSettle, ToSettle, IsSwept, IsSettledBy}

-- A file is there or missing.
there_or_not : (file : File) → IsSome file ⊎ (file ≡ None)
there_or_not None = inr refl
there_or_not (Some bytes) = inl refl

-- A file with a property is there.
some_there : (P : List ℕ → Type 0) (file : File) → IfThere P file → IsSome file
some_there P None there = absurd there
some_there P (Some bytes) there = refl

module _ (root : Root) (slot : ℕ) (texts : Texts) (names : List FileName) where
  -- A disk that is to be settled is synced and has its current root.
  pub to_settle_rests : (k : Option Content) → ToSettle root slot texts names k → RootIsSettled slot (spelling root) k
  to_settle_rests None todo = absurd todo
  to_settle_rests (Some k) todo = todo.found.files_are

  -- While the other slot is made ready.
  pub readying_stands : (k : Option Content) (image : Files) → ToSettle root slot texts names k → StaysCurrent slot (spelling root) k image → StandsFor root texts image
  readying_stands None image todo stays = absurd todo
  readying_stands (Some k) image todo stays = record {
    current = current_has slot (spelling root) (image root_name) stays.root;
    fronts = λ name apart. ap (counted root name) (settled_file k name (image name) todo.found.files_are.settled (stays.elsewhere name apart)) ∙ todo.found.stands.fronts name apart;
  }

  -- Once it is ready the files may be tidied.
  to_tidy : (k m : Content) → IsToSettle root slot texts names k → IsReadied slot (spelling root) k m → IsToTidy root (1 - slot) texts names m
  to_tidy k m todo readied = record {
    roots = λ file fits. subst (λ (f : File). IfThere (Ready (1 - slot) (spelling root)) f) (sym (settled_file m root_name file readied.settled fits)) readied.root;
    fronts = λ name apart file fits. ap (counted root name) (settled_file m name file readied.settled fits ∙ readied.elsewhere name apart) ∙ todo.found.stands.fronts name apart;
    all = λ name there. elim (same_or_other root_name name) [
      | inl same ↦ subst (λ (n : FileName). Contains names n) (sym same) (todo.all root_name (some_there _ (k root_name).seen todo.found.files_are.current))
      | inr apart ↦ todo.all name (subst (λ (file : File). IsSome file) (readied.elsewhere name apart) there)
    ];
  }

  pub tidy_ready : (k m : Option Content) → ToSettle root slot texts names k → BothTold (IsReadied slot (spelling root)) k m → ToTidy root (1 - slot) texts names m
  tidy_ready None m todo readied = absurd todo
  tidy_ready (Some k) None todo readied = absurd readied
  tidy_ready (Some k) (Some m) todo readied = to_tidy k m todo readied

  -- A disk that was found is to be settled.
  pub listed_to_settle : (k m : Option Content) → FoundOn root slot texts k → BothTold Unchanged k m → WhereTold (AreAllNames names) k → ToSettle root slot texts names m
  listed_to_settle None m found same all = absurd found
  listed_to_settle (Some k) None found same all = absurd same
  listed_to_settle (Some k) (Some m) found same all =
      let one : m ≡ k = (λ i. λ (name : FileName). same name i) in
      subst (λ (c : Content). ToSettle root slot texts names (Some c)) (sym one) (record { found = found; all = λ name there. (all.all name).0 there })

-- A crash of a disk that was found leaves what it stands for.
pub found_image : (root : Root) (slot : ℕ) (texts : Texts) (k : Option Content) (image : Files) → FoundOn root slot texts k → Image k image → StandsFor root texts image
found_image root slot texts None image found left = absurd found
found_image root slot texts (Some k) image found left =
    let one : image ≡ as_read k = (λ i. λ (name : FileName). settled_image k image found.files_are.settled left name i) in
    subst (StandsFor root texts) (sym one) found.stands

-- What a crash leaves while files are listed and the disk is then swept.
pub settling_leaves : (root : Root) (slot : ℕ) (texts : Texts) (k : Option Content) → FoundOn root slot texts k → {D : Type 0} (g : Disk D) (disk mid new : D) → LeavesOnly g disk mid (Image k) → LeavesOnly g mid new (StandsFor root texts)
    → LeavesOnly g disk new (StandsFor root texts)
settling_leaves root slot texts k found g disk mid new lists sweeps =
    joined g disk mid new (Image k) (StandsFor root texts) (StandsFor root texts) lists sweeps (λ image. found_image root slot texts k image found) (λ image stands. stands)

module _ (root : Root) (slot : ℕ) (names : List FileName) where
  -- The listed files after both.
  swept : (k m n : Content) → ReadiesSlot slot (spelling root) k m → Tidied (Contains names) root m n → IsSwept root slot names k n
  swept k m n readies tidied = record {
    gone = tidied.gone;
    short = tidied.short;
    fronts = λ name apart. tidied.fronts name ∙ ap (λ (file : File). take (named_end root name) (bytes_of file)) (readies.elsewhere name apart);
    none_made = λ name apart none. tidied.none_made name (readies.elsewhere name apart ∙ none);
    slots = subst (λ (file : File). KeepsSlots slot (spelling root) (bytes_of (k root_name).seen) (bytes_of file)) (sym tidied.root_same) readies.slots;
  }

  pub swept_told : (k m n : Option Content) → BothTold (ReadiesSlot slot (spelling root)) k m → BothTold (Tidied (Contains names) root) m n → BothTold (IsSwept root slot names) k n
  swept_told k m n readies tidied = told_then (ReadiesSlot slot (spelling root)) (Tidied (Contains names) root) (IsSwept root slot names) k m n (λ a b c is told one two. swept a b c one two) readies tidied

  -- If all files are listed, these are all.
  settled_by : (k n : Content) → AreAllNames names k → IsSwept root slot names k n → IsSettledBy root slot k n
  settled_by k n all was = record {
    gone = λ name isnt. elim (there_or_not (k name).seen) [
      | inl there ↦ was.gone name ((all.all name).0 there) isnt
      | inr none ↦ was.none_made name (unnamed_apart root name isnt) none
    ];
    short = λ name apart. elim (there_or_not (k name).seen) [
      | inl there ↦ was.short name ((all.all name).0 there) apart
      | inr none ↦ none_at_most (length (bytes_of (n name).seen)) (named_end root name) (ap (λ (file : File). length (bytes_of file)) (was.none_made name apart none))
    ];
    fronts = was.fronts;
    slots = was.slots;
  }

  pub settled_told : (k m n : Option Content) → WhereTold (AreAllNames names) k → BothTold Unchanged k m → BothTold (IsSwept root slot names) m n → BothTold (IsSettledBy root slot) k n
  settled_told None None None all same was = tt
  settled_told None None (Some n) all same was = absurd was
  settled_told None (Some m) n all same was = absurd same
  settled_told (Some k) None n all same was = absurd same
  settled_told (Some k) (Some m) None all same was = absurd was
  settled_told (Some k) (Some m) (Some n) all same was =
      let one : m ≡ k = (λ i. λ (name : FileName). same name i) in
      settled_by k n all (subst (λ (c : Content). IsSwept root slot names c n) one was)
