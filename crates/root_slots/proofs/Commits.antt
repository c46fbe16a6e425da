-- A commit on a disk: what a crash leaves during each write, and what holds after all three.
use Rattle.std.specs.Prelude.{◌≡◌, ◌⊎◌, ℕ, ◌<◌, ◌^◌, Option, Some, None, List, [], ◌∷◌, length, refl}
use Rattle.std.proofs.Common.{◌∙◌, ap, sym, subst, inl, inr, arith}
use Rattle.disk_model.specs.Disk.{File, Files, Content, BothTold, WhereTold, ReadsFit, bytes_of, overlay}
use Rattle.disk_model.specs.Synced.{WritingLeaves, IsWritten}
use Rattle.disk_model.specs.Tells.{told_then, told_weaker}
use Rattle.root_slots.specs.declared.root.Root.{Root}
use Rattle.root_slots.specs.RootName.{root_name}
use Rattle.root_slots.specs.OneRoot.{HasOneRoot, OneRootStays}
use Rattle.root_slots.specs.Each.{IfThere, EachRoot, settled_file}
use Rattle.root_slots.specs.Spelling.{spelling}
use Rattle.root_slots.specs.Sizes.{sequence-spelling}
use Rattle.root_slots.specs.Slots.{HasRootSize, body_offset, sequence_of, HasRoot, Ready, IsOldOrNew, OthersStayInImage, HasNewRoot, IsCommitted, with_root, shut_in, AreBoth, IsInCommit}
use Rattle.root_slots.proofs.Phases.{shut_between, old_or_new}
use Rattle.root_slots.proofs.OneRoots.{both_weaker, in_commit}
use Rattle.root_slots.proofs.Torn.{Comes, comes_writing, comes_written, size_stays}

-- The sequence that a root is spelled with is that of the root.
pub newer_root : (root : Root) (old : List ℕ) → root.sequence < 2 ^ 64 → sequence_of old < root.sequence → sequence_of old < sequence_of (spelling root)
newer_root root old fits later = omega (arith, later, sequence-spelling root fits)

-- A write more.
committed_then : (at : ℕ) (bytes : List ℕ) (k l m : Content) → IsCommitted k l → IsWritten root_name at bytes l m → IsCommitted k m
committed_then at bytes k l m first last = record { elsewhere = λ other apart. last.elsewhere other apart ∙ first.elsewhere other apart; settled = last.settled }

module _ (slot : ℕ) (body : List ℕ) (low : slot < 2) where
  -- What a crash leaves during each of the three writes.
  pub during_shut : (k : Option Content) (image : Files) → ReadsFit k → WhereTold HasRootSize k → WritingLeaves root_name slot 1 k image → Comes (IsInCommit slot body) k image
  during_shut k image fit size = comes_writing (IsInCommit slot body) slot 1 k image fit size (omega arith) (omega arith) (λ a b same. inl same)

  pub during_fill : (k l : Option Content) (image : Files) → ReadsFit k → ReadsFit l → WhereTold HasRootSize k → BothTold (IsWritten root_name slot (0 ∷ [])) k l → WritingLeaves root_name (body_offset slot) 1536 l image → Comes (IsInCommit slot body) k image
  during_fill k l image fit fit1 size shut writing =
      comes_written _ (IsInCommit slot body) slot (0 ∷ []) k l image fit size (λ a b long same. inr (inl (long, same))) shut
      (comes_writing _ (body_offset slot) 1536 l image fit1 (size_stays slot (0 ∷ []) k l (omega arith) shut size) (omega arith) (omega arith) (λ a b same. same) writing)

  -- All other files are as before.
  pub others_kept : (k l m n : Option Content) → BothTold (IsWritten root_name slot (0 ∷ [])) k l → BothTold (IsWritten root_name (body_offset slot) body) l m → BothTold (IsWritten root_name slot (1 ∷ [])) m n → BothTold IsCommitted k n
  others_kept k l m n shut filled raised =
      told_then IsCommitted (IsWritten root_name slot (1 ∷ [])) IsCommitted k m n (λ x y z is told. committed_then slot (1 ∷ []) x y z)
      (told_then IsCommitted (IsWritten root_name (body_offset slot) body) IsCommitted k l m (λ x y z is told. committed_then (body_offset slot) body x y z) (told_weaker (IsWritten root_name slot (0 ∷ [])) IsCommitted k l (λ x y is also first. record { elsewhere = first.elsewhere; settled = first.settled }) shut) filled)
      raised

  module _ (whole : length body ≡ 1536) where
    pub during_raise : (k l m : Option Content) (image : Files) → ReadsFit k → ReadsFit l → ReadsFit m → WhereTold HasRootSize k → BothTold (IsWritten root_name slot (0 ∷ [])) k l → BothTold (IsWritten root_name (body_offset slot) body) l m → WritingLeaves root_name slot 1 m image → Comes (IsInCommit slot body) k image
    during_raise k l m image fit fit1 fit2 size shut filled writing =
        let size1 = size_stays slot (0 ∷ []) k l (omega arith) shut size in
        comes_written _ (IsInCommit slot body) slot (0 ∷ []) k l image fit size (λ a b long same. inr (inr (long, whole, same))) shut
        (comes_written _ _ (body_offset slot) body l m image fit1 size1 (λ a b long same. same) filled
        (comes_writing _ slot 1 m image fit2 (size_stays (body_offset slot) body l m (omega (arith, whole)) filled size1) (omega arith) (omega arith) (λ a b same. same) writing))

    -- The root file after all three, and the rest of the disk.
    pub has_new_root : (k l m n : Option Content) → WhereTold HasRootSize k → BothTold (IsWritten root_name slot (0 ∷ [])) k l → BothTold (IsWritten root_name (body_offset slot) body) l m → BothTold (IsWritten root_name slot (1 ∷ [])) m n → BothTold (HasNewRoot slot body) k n
    has_new_root k l m n size shut filled raised =
        let Filled : Content → Content → Type 0 = λ x z. (z root_name).seen ≡ Some (overlay (body_offset slot) body (shut_in slot (bytes_of (x root_name).seen))) in
        told_then Filled (IsWritten root_name slot (1 ∷ [])) (HasNewRoot slot body) k m n
        (λ x y z is told first last. last.here ∙ ap (λ (f : File). Some (overlay slot (1 ∷ []) (bytes_of f))) first
        ∙ ap (λ (bytes : List ℕ). Some bytes) (shut_between slot body (bytes_of (x root_name).seen) low whole (subst (WhereTold HasRootSize) is size)))
        (told_then (IsWritten root_name slot (0 ∷ [])) (IsWritten root_name (body_offset slot) body) Filled k l m (λ x y z is told first last. last.here ∙ ap (λ (f : File). Some (overlay (body_offset slot) body (bytes_of f))) first.here) shut filled)
        raised

  -- The old root or the new one is current all the time.
  pub to_old_or_new : (old : List ℕ) (k : Option Content) (image : Files) → sequence_of old < sequence_of body → EachRoot (Ready slot old) k → Comes (IsInCommit slot body) k image → IsOldOrNew old body k image
  to_old_or_new old None image newer each comes = tt
  to_old_or_new old (Some k) image newer each comes = record { root = both comes.file (image root_name) (each comes.file comes.fits) comes.by; elsewhere = comes.elsewhere } where
    both : (file after : File) → IfThere (Ready slot old) file → AreBoth (IsInCommit slot body) file after → IfThere (HasRoot old) after ⊎ IfThere (HasRoot body) after
    both None after ready by = absurd ready
    both (Some a) None ready by = absurd by
    both (Some a) (Some b) ready by = old_or_new slot old body low newer a b ready by

  -- At most one new root comes.
  pub to_one_root : (k : Option Content) (image : Files) → Comes (IsInCommit slot body) k image → OneRootStays slot (Some body) k image
  to_one_root None image comes = tt
  to_one_root (Some k) image comes = record { from = comes.file; fits = comes.fits; by = both_weaker (IsInCommit slot body) (HasOneRoot slot (Some body)) (λ a b. in_commit slot body a b low) comes.file (image root_name) comes.by }

  -- What holds after the commit of each root file that is ready for it.
  pub each_new : (P Q : List ℕ → Type 0) (k m : Option Content) → ReadsFit k → ((a : List ℕ) → P a → Q (with_root slot body a)) → EachRoot P k → BothTold (HasNewRoot slot body) k m → BothTold IsCommitted k m → EachRoot Q m
  each_new P Q None m fit step each root committed = absurd each
  each_new P Q (Some k) None fit step each root committed = absurd root
  each_new P Q (Some k) (Some m) fit step each root committed = λ file fits.
      subst (IfThere Q) (sym (settled_file m root_name file committed.settled fits ∙ root)) (of_seen (k root_name).seen (each (k root_name).seen (fit k refl root_name))) where
        of_seen : (seen : File) → IfThere P seen → Q (with_root slot body (bytes_of seen))
        of_seen None holds = absurd holds
        of_seen (Some seen) holds = step seen holds

-- Other files are as a crash before might have left them.
pub to_others : (P : List ℕ → List ℕ → Type 0) (k : Option Content) (image : Files) → Comes P k image → OthersStayInImage k image
to_others P None image comes = tt
to_others P (Some k) image comes = comes.elsewhere
