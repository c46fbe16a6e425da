-- What a crash leaves while a text replaces another one.
use Rattle.std.specs.Prelude.{◌≡◌, ◌≢◌, ◌⊎◌, ℕ, ◌+◌, ◌<◌, ◌≤◌, ◌==◌, Bool, true, false, if◌then◌else◌, Option, Some, None, List, [], ◌∷◌, length, get_or, take, drop, refl}
use Rattle.std.proofs.Common.{◌∙◌, sym, ap, subst, inl, inr, arith, length-take, length-drop}
use Rattle.std.proofs.lemmas.Grind.{same_number_lists}
use Rattle.std.proofs.lemmas.Bool.Decides.{nat_tests}
use Rattle.std.proofs.lemmas.List.{get_or-take, get_or-drop}
use Rattle.disk_model.specs.declared.name.FileName.{FileName}
use Rattle.disk_model.specs.Disk.{File, Files, Content, BothTold, WhereTold, exact, bytes_of, overlay, ReadsFit}
use Rattle.disk_model.specs.Laws.{SameOutside, TornFile, MaySurvive-exact, MaySurvive-Within, overlay-torn, overlay-size, overlay-inside}
use Rattle.disk_model.specs.Synced.{WritingLeaves, IsWriting, IsWritten, writing_inside}
use Rattle.root_slots.specs.Each.{IfThere}
use Rattle.disk_tests.specs.Texts.{StandsForText, IsReadyFile, HasSeventeen, EachFile, StandsForEitherText}

-- The gate is shut, and both texts are there.
pub record IsFilled (old new file : List ℕ) : Type 0 where
  pub ready : IsReadyFile old file
  pub second : take 8 (drop 9 file) ≡ new

-- A part that a write doesn't reach is unchanged.
pub part_stays : (at n : ℕ) (old new : List ℕ) (from count : ℕ) → SameOutside at n old new → (from + count ≤ at) ⊎ (at + n ≤ from) → take count (drop from new) ≡ take count (drop from old)
part_stays at n old new from count same apart =
    same_number_lists (take count (drop from new)) (take count (drop from old)) (let s = same.size in omega (arith, length-take {A = ℕ}, length-drop {A = ℕ}))
    (λ i below.
    let front : i < count = omega (arith, below, length-take {A = ℕ}) in
    let outside : (from + i < at) ⊎ (at + n ≤ from + i) = elim apart [ inl low ↦ inl (omega (arith, low, front)) | inr high ↦ inr (omega (arith, high)) ] in
    get_or-take count (drop from new) i 0 front ∙ (get_or-drop from new i 0 ∙ (same.bytes (from + i) outside ∙ sym (get_or-take count (drop from old) i 0 front ∙ get_or-drop from old i 0))))

-- A file whose gate is shut stands for its first text.
shut_stands : (gate : ℕ) (second first : List ℕ) → gate ≢ 1 → (if gate == 1 then second else first) ≡ first
shut_stands gate second first shut = grind (arith, nat_tests)

-- A file whose gate is open stands for its second text.
open_stands : (gate : ℕ) (second first : List ℕ) → gate ≡ 1 → (if gate == 1 then second else first) ≡ second
open_stands gate second first is = grind (arith, nat_tests)

-- Whatever the gate is, the file stands for one of its texts.
either_stands : (gate : ℕ) (second first : List ℕ) → ((if gate == 1 then second else first) ≡ first) ⊎ ((if gate == 1 then second else first) ≡ second)
either_stands gate second first = chosen (gate == 1) where
  chosen : (b : Bool) → ((if b then second else first) ≡ first) ⊎ ((if b then second else first) ≡ second)
  chosen true = inr refl
  chosen false = inl refl

-- A crash may leave any bytes in the second text.
pub first_torn : (old new : List ℕ) (file image : File) → IfThere (IsReadyFile old) file → TornFile 9 8 file image → IfThere (λ bytes. StandsForText old bytes ⊎ StandsForText new bytes) image
first_torn old new None image ready torn = absurd ready
first_torn old new (Some a) None ready torn = absurd torn
first_torn old new (Some a) (Some b) ready torn =
    let gate : get_or b 0 0 ≡ get_or a 0 0 = torn.bytes 0 (inl (omega arith)) in
    let shut : get_or b 0 0 ≢ 1 = λ is. ready.shut (sym gate ∙ is) in
    inl (shut_stands (get_or b 0 0) (take 8 (drop 9 b)) (take 8 (drop 1 b)) shut ∙ (part_stays 9 8 a b 1 8 torn (inl (omega arith)) ∙ ready.first))

-- A crash may leave any byte in the gate.
pub gate_torn : (old new : List ℕ) (file image : File) → IfThere (IsFilled old new) file → TornFile 0 1 file image → IfThere (λ bytes. StandsForText old bytes ⊎ StandsForText new bytes) image
gate_torn old new None image filled torn = absurd filled
gate_torn old new (Some a) None filled torn = absurd torn
gate_torn old new (Some a) (Some b) filled torn =
    let first = part_stays 0 1 a b 1 8 torn (inr (omega arith)) ∙ filled.ready.first in
    let second = part_stays 0 1 a b 9 8 torn (inr (omega arith)) ∙ filled.second in
    elim (either_stands (get_or b 0 0) (take 8 (drop 9 b)) (take 8 (drop 1 b))) [ inl one ↦ inl (one ∙ first) | inr two ↦ inr (two ∙ second) ]

-- The images during the first write.
pub during_text : (name : FileName) (old new : List ℕ) (k0 : Option Content) (image : Files) → length new ≡ 8 → ReadsFit k0 → WhereTold (HasSeventeen name) k0 → EachFile name (IsReadyFile old) k0 → WritingLeaves name 9 (length new) k0 image → StandsForEitherText name old new image
during_text name old new None image eight fit size each writing = absurd each
during_text name old new (Some k) image eight fit size each writing =
    let origin = writing_inside name 9 8 k image fit (omega (arith, size)) (omega arith) (subst (λ (n : ℕ). IsWriting name 9 n k image) eight writing) in
    first_torn old new origin.file (image name) (each origin.file origin.fits) origin.torn

-- The file after the first write.
pub text_filled : (name : FileName) (old new : List ℕ) (k0 k1 : Option Content) → length new ≡ 8 → ReadsFit k0 → EachFile name (IsReadyFile old) k0 → BothTold (IsWritten name 9 new) k0 k1 → EachFile name (IsFilled old new) k1
text_filled name old new None k1 eight fit each written = absurd each
text_filled name old new (Some k) None eight fit each written = absurd written
text_filled name old new (Some k) (Some m) eight fit each written = λ file fits.
    let is : file ≡ (m name).seen = MaySurvive-exact (m name).seen file (MaySurvive-Within (m name).sure (exact (m name).seen) file (written.settled name) fits) in
    subst (λ (f : File). IfThere (IsFilled old new) f) (sym (is ∙ written.here)) (of_seen (k name).seen (each (k name).seen (fit k refl name))) where
      of_seen : (seen : File) → IfThere (IsReadyFile old) seen → IsFilled old new (overlay 9 new (bytes_of seen))
      of_seen None ready = absurd ready
      of_seen (Some bytes) ready =
          let size = ready.size in
          let torn = overlay-torn 9 new bytes (omega arith) in
          let gate : get_or (overlay 9 new bytes) 0 0 ≡ get_or bytes 0 0 = torn.bytes 0 (inl (omega arith)) in
          record {
            ready = record {
              size = overlay-size 9 new bytes (omega arith) ∙ size;
              shut = λ open_. ready.shut (sym gate ∙ open_);
              first = part_stays 9 (length new) bytes (overlay 9 new bytes) 1 8 torn (inl (omega arith)) ∙ ready.first;
            };
            second = ap (λ (n : ℕ). take n (drop 9 (overlay 9 new bytes))) (sym eight) ∙ overlay-inside 9 new bytes (omega arith);
          }

-- The size after the first write.
pub size_stays : (name : FileName) (new : List ℕ) (k0 k1 : Option Content) → length new ≡ 8 → WhereTold (HasSeventeen name) k0 → BothTold (IsWritten name 9 new) k0 k1 → WhereTold (HasSeventeen name) k1
size_stays name new None None eight size written = tt
size_stays name new None (Some m) eight size written = absurd written
size_stays name new (Some k) None eight size written = absurd written
size_stays name new (Some k) (Some m) eight size written =
    omega (arith, ap (λ (f : File). length (bytes_of f)) written.here, overlay-size 9 new (bytes_of (k name).seen) (omega (arith, eight, size)), size)

-- The images during the second write.
pub during_gate : (name : FileName) (old new : List ℕ) (k1 : Option Content) (image : Files) → ReadsFit k1 → WhereTold (HasSeventeen name) k1 → EachFile name (IsFilled old new) k1 → WritingLeaves name 0 1 k1 image → StandsForEitherText name old new image
during_gate name old new None image fit size each writing = absurd each
during_gate name old new (Some k) image fit size each writing =
    let origin = writing_inside name 0 1 k image fit (omega (arith, size)) (omega arith) writing in
    gate_torn old new origin.file (image name) (each origin.file origin.fits) origin.torn

-- The file after the second write.
pub gate_opened : (name : FileName) (old new : List ℕ) (k1 k2 : Option Content) → ReadsFit k1 → EachFile name (IsFilled old new) k1 → BothTold (IsWritten name 0 (1 ∷ [])) k1 k2 → EachFile name (StandsForText new) k2
gate_opened name old new None k2 fit each written = absurd each
gate_opened name old new (Some k) None fit each written = absurd written
gate_opened name old new (Some k) (Some m) fit each written = λ file fits.
    let is : file ≡ (m name).seen = MaySurvive-exact (m name).seen file (MaySurvive-Within (m name).sure (exact (m name).seen) file (written.settled name) fits) in
    subst (λ (f : File). IfThere (StandsForText new) f) (sym (is ∙ written.here)) (of_seen (k name).seen (each (k name).seen (fit k refl name))) where
      of_seen : (seen : File) → IfThere (IsFilled old new) seen → StandsForText new (overlay 0 (1 ∷ []) (bytes_of seen))
      of_seen None filled = absurd filled
      of_seen (Some bytes) filled =
          let size = filled.ready.size in
          let torn = overlay-torn 0 (1 ∷ []) bytes (omega arith) in
          part_stays 0 1 bytes (overlay 0 (1 ∷ []) bytes) 9 8 torn (inr (omega arith)) ∙ filled.second
