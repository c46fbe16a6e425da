-- A property of each root file that a crash may leave, and how a write and its sync carry it on.
use Rattle.std.specs.Prelude.{◌≡◌, ◌≢◌, ◌⊎◌, ℕ, ◌+◌, ◌<◌, ◌≤◌, Option, Some, None, List, length, take, drop, refl}
use Rattle.std.proofs.Common.{◌∙◌, sym, subst, inl, inr, arith, length-take, length-drop}
use Rattle.std.proofs.lemmas.Grind.{same_number_lists}
use Rattle.std.proofs.lemmas.List.{get_or-take, get_or-drop}
use Rattle.disk_model.specs.declared.name.FileName.{FileName}
use Rattle.disk_model.specs.Disk.{File, Files, Content, BothTold, MaySurvive, exact, bytes_of, overlay, ReadsFit}
use Rattle.disk_model.specs.Laws.{SameOutside, TornFile, MaySurvive-exact, MaySurvive-Within}
use Rattle.disk_model.specs.Synced.{IsSettled, IsWriting, IsWritten, writing_inside}
use Rattle.root_slots.specs.RootName.{root_name}

-- The file is there and has the property.
abbrev pub IfThere : (List ℕ → Type 0) → File → Type 0
IfThere P None = ⊥
IfThere P (Some bytes) = P bytes

-- The disk tells its content, and each root file that a crash may leave has the property.
abbrev pub EachRoot : (List ℕ → Type 0) → Option Content → Type 0
EachRoot P None = ⊥
EachRoot P (Some k) = (file : File) → MaySurvive (k root_name).sure file → IfThere P file

-- A part outside the range of a write stays.
pub part_stays : (at n : ℕ) (old new : List ℕ) (from count : ℕ) → SameOutside at n old new → (from
    + count ≤ at) ⊎ (at + n ≤ from) → take count (drop from new) ≡ take count (drop from old)
part_stays at n old new from count same apart =
    same_number_lists (take count (drop from new)) (take count (drop from old))
    (let s = same.size in omega (arith, length-take {A = ℕ}, length-drop {A = ℕ}))
    (λ i below.
    let front : i < count = omega (arith, below, length-take {A = ℕ}) in
    let outside : (from + i < at) ⊎ (at + n ≤ from + i) =
    elim apart [
      | inl low ↦ inl (omega (arith, low, front))
      | inr high ↦ inr (omega (arith, high))
    ] in
    get_or-take count (drop from new) i 0 front
    ∙ (get_or-drop from new i 0 ∙ (same.bytes (from + i) outside
    ∙ sym (get_or-take count (drop from old) i 0 front ∙ get_or-drop from old i 0))))

-- A torn file has Q if each change of at most the range leads from P to Q.
over_torn : (P Q : List ℕ → Type 0) (at n : ℕ) → ((a b : List ℕ) → P a → SameOutside at n a b → Q b)
    → (file image : File) → IfThere P file → TornFile at n file image → IfThere Q image
over_torn P Q at n step None image holds torn = absurd holds
over_torn P Q at n step (Some a) None holds torn = absurd torn
over_torn P Q at n step (Some a) (Some b) holds torn = step a b holds torn

-- A crash leaves a file of a settled disk as it reads.
pub settled_file : (k : Content) (name : FileName) (file : File) → IsSettled k
    → MaySurvive (k name).sure file → file ≡ (k name).seen
settled_file k name file settled fits = MaySurvive-exact (k name).seen file
    (MaySurvive-Within (k name).sure (exact (k name).seen) file (settled name) fits)

-- What the root file has during a write inside it.
pub each_writing : (P Q : List ℕ → Type 0) (at n : ℕ) (k : Content) (image : Files)
    → ReadsFit (Some k) → at + n ≤ length (bytes_of (k root_name).seen) → 0 < n
    → EachRoot P (Some k) → ((a b : List ℕ) → P a → SameOutside at n a b → Q b)
    → IsWriting root_name at n k image → IfThere Q (image root_name)
each_writing P Q at n k image fit inside some each step writing =
    let origin = writing_inside root_name at n k image fit inside some writing in
    over_torn P Q at n step origin.file (image root_name) (each origin.file origin.fits) origin.torn

-- What the root file has after a write inside it that is synced.
pub each_written : (P Q : List ℕ → Type 0) (at : ℕ) (bytes : List ℕ) (old new : Option Content)
    → ReadsFit old → EachRoot P old → ((a : List ℕ) → P a → Q (overlay at bytes a))
    → BothTold (IsWritten root_name at bytes) old new → EachRoot Q new
each_written P Q at bytes None new fit each step written = absurd each
each_written P Q at bytes (Some k) None fit each step written = absurd written
each_written P Q at bytes (Some k) (Some m) fit each step written = λ file fits.
    let is = settled_file m root_name file written.settled fits in
    subst (λ (f : File). IfThere Q f) (sym (is ∙ written.here)) (of_seen (k root_name).seen
    (each (k root_name).seen (fit k refl root_name))) where
      of_seen : (seen : File) → IfThere P seen → Q (overlay at bytes (bytes_of seen))
      of_seen None holds = absurd holds
      of_seen (Some seen) holds = step seen holds

-- After a change of the root file alone that is on the disk a crash leaves the other files as one
-- before it might have.
pub elsewhere_before : (k m : Content) (image : Files) → ReadsFit (Some k) → IsSettled m
    → ((other : FileName) → other ≢ root_name → (m other).seen ≡ (k other).seen)
    → (other : FileName) → other ≢ root_name → MaySurvive (m other).sure (image other)
    → MaySurvive (k other).sure (image other)
elsewhere_before k m image fit settled same other apart fits =
    let is = settled_file m other (image other) settled fits ∙ same other apart in
    subst (λ (f : File). MaySurvive (k other).sure f) (sym is) (fit k refl other)
