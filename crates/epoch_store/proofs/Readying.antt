-- The other slot is made ready for the next root.
use Rattle.std.specs.Prelude.{◌≡◌, ◌≢◌, ◌⊎◌, ◌+◌, ◌-◌, ◌<◌, ◌≤◌, ℕ, zero, suc, true, false, List, [], ◌∷◌, ◌++◌, length, take, drop, Option, Some, None, refl}
use Rattle.std.proofs.Common.{◌∙◌, sym, ap, subst, inl, inr, arith, length-append}
use Rattle.std.proofs.lemmas.List.{length-take-le, take-append-le, take_at, drop_at, drop-drop}
use Rattle.disk_model.specs.declared.disk.Disk.{Ghosts as Disk}
use Rattle.disk_model.specs.Disk.{File, Files, Kept, Content, Image, BothTold, WhereTold, Unchanged, MaySurvive, Within, exact, bytes_of, overlay, ReadsFit}
use Rattle.disk_model.specs.Laws.{SameOutside, TornFile, overlay-torn, overlay-size, overlay-inside, MaySurvive-exact, MaySurvive-Within}
use Rattle.disk_model.specs.Moments.{LeavesOnly, weaker}
use Rattle.disk_model.specs.Synced.{WritingLeaves, IsWritten, IsSettled, writing_inside}
use Rattle.disk_model.specs.Tells.{told_weaker, told_where}
use Rattle.root_slots.specs.OneRoot.{BeginsRootIn, HasOneBody, HasOneRoot, OneRootStays, RunsOneRoot, WentOneRoot}
use Rattle.root_slots.proofs.OneRoots.{both_same, has_same, joined_one, looks_one, one_settled, one_unchanged, torn_body, torn_shut}
use Rattle.root_slots.proofs.Phases.{body_written}
use Rattle.root_slots.specs.RootName.{root_name}
use Rattle.root_slots.specs.Each.{IfThere, EachRoot, part_stays, each_writing, each_written, settled_file}
use Rattle.root_slots.specs.Slots.{AreBoth, HasRootSize, IsGateOpen, gate, body_offset, body_at, with_root, Current, Ready}
use Rattle.root_change.proofs.Roots.{equal_or_not}
use Rattle.epoch_store.specs.Opens.{IsOnlySynced}
use Rattle.epoch_store.specs.Settling.{IsSettledRoot, RootIsSettled, StaysCurrent, IsReadied, KeepsSlots, ReadiesSlot, SlotsKept}

-- The other slot of the other slot.
back : (slot : ℕ) → slot < 2 → slot ≡ 1 - (1 - slot)
back slot below = omega (arith, below)

-- A slot's body stays if another range is written.
body_kept : (at n slot : ℕ) (a b : List ℕ) → SameOutside at n a b → (body_offset slot + 1536 ≤ at) ⊎ (at + n ≤ body_offset slot) → body_at b slot ≡ body_at a slot
unfolding body_at
body_kept at n slot a b same apart = part_stays at n a b (body_offset slot) 1536 same apart

-- The ranges of the two bodies are apart.
bodies_apart : (slot : ℕ) → slot < 2 → (body_offset slot + 1536 ≤ body_offset (1 - slot)) ⊎ (body_offset (1 - slot) + 1536 ≤ body_offset slot)
bodies_apart zero below = inl (omega arith)
bodies_apart (suc zero) below = inr (omega arith)
bodies_apart (suc (suc n)) below = absurd (omega (arith, below))

-- The current root stays while the body of the other slot, which is shut, is written.
twin_torn : (slot : ℕ) (body a b : List ℕ) → Current slot body a → gate a (1 - slot) ≢ 1 → SameOutside (body_offset (1 - slot)) 1536 a b → Current slot body b
twin_torn slot body a b current shut same =
    let low = current.in_range in
    let gate_is : gate b slot ≡ gate a slot = same.bytes slot (inl (omega (arith, low))) in
    let other_is : gate b (1 - slot) ≡ gate a (1 - slot) = same.bytes (1 - slot) (inl (omega (arith, low))) in
    record {
      in_range = low;
      size = same.size ∙ current.size;
      opened = gate_is ∙ current.opened;
      holds = body_kept (body_offset (1 - slot)) 1536 slot a b same (bodies_apart slot low) ∙ current.holds;
      newest = λ opened. absurd (shut (sym other_is ∙ opened));
    }

-- An open slot that isn't the current one is ready.
open_ready : (slot : ℕ) (body a : List ℕ) → Current slot body a → gate a (1 - slot) ≡ 1 → Ready (1 - slot) body a
open_ready slot body a current opened = record { current = subst (λ (s : ℕ). Current s body a) (back slot current.in_range) current; other = inl opened }

-- A slot that has the body of the current root is ready.
filled_ready : (slot : ℕ) (body a : List ℕ) → length body ≡ 1536 → Current slot body a → gate a (1 - slot) ≢ 1 → Ready (1 - slot) body (overlay (body_offset (1 - slot)) body a)
unfolding body_at
filled_ready slot body a whole current shut =
    let size = current.size in
    let low = current.in_range in
    let b = overlay (body_offset (1 - slot)) body a in
    let same : SameOutside (body_offset (1 - slot)) 1536 a b = subst (λ (n : ℕ). SameOutside (body_offset (1 - slot)) n a b) whole (overlay-torn (body_offset (1 - slot)) body a (omega (arith, size, whole, low))) in
    record {
      current = subst (λ (s : ℕ). Current s body b) (back slot low) (twin_torn slot body a b current shut same);
      other = inr (inl (ap (λ (n : ℕ). take n (drop (body_offset (1 - slot)) b)) (sym whole) ∙ overlay-inside (body_offset (1 - slot)) body a (omega (arith, size, low))));
    }

-- A file that is there, with its gate.
pub record HasShut (slot : ℕ) (body file : List ℕ) : Type 0 where
  pub current : Current slot body file
  pub shut : gate file (1 - slot) ≢ 1

-- A crash leaves the root file of a settled disk as it reads.
each_settled : (P : List ℕ → Type 0) (k : Content) → IsSettled k → IfThere P (k root_name).seen → EachRoot P (Some k)
each_settled P k settled there = λ file fits. subst (IfThere P) (sym (MaySurvive-exact (k root_name).seen file (MaySurvive-Within (k root_name).sure (exact (k root_name).seen) file (settled root_name) fits))) there

-- The root file has its current root, and the other gate is shut.
with_gate : (slot : ℕ) (body : List ℕ) (file : File) → IfThere (Current slot body) file → gate (bytes_of file) (1 - slot) ≢ 1 → IfThere (HasShut slot body) file
with_gate slot body None there shut = absurd there
with_gate slot body (Some file) there shut = record { current = there; shut = shut }

with_open : (slot : ℕ) (body : List ℕ) (file : File) → IfThere (Current slot body) file → gate (bytes_of file) (1 - slot) ≡ 1 → IfThere (Ready (1 - slot) body) file
with_open slot body None there opened = absurd there
with_open slot body (Some file) there opened = open_ready slot body file there opened

module _ (slot : ℕ) (body : List ℕ) where
  -- Before anything is done.
  pub current_now : (k : Option Content) (image : Files) → RootIsSettled slot body k → Image k image → StaysCurrent slot body k image
  current_now None image files_are left = absurd files_are
  current_now (Some k) image files_are left = record { root = each_settled (Current slot body) k files_are.settled files_are.current (image root_name) (left root_name); elsewhere = λ other apart. left other }

  -- If the gate is open, nothing has to be done.
  pub readied_open : (k m : Option Content) → RootIsSettled slot body k → BothTold Unchanged k m → WhereTold (IsGateOpen (1 - slot) true) k → BothTold (IsReadied slot body) k m
  readied_open None m files_are same opened = absurd files_are
  readied_open (Some k) None files_are same opened = absurd same
  readied_open (Some k) (Some m) files_are same opened = record {
    root = subst (λ (kept : Kept). IfThere (Ready (1 - slot) body) kept.seen) (sym (same root_name)) (with_open slot body (k root_name).seen files_are.current opened);
    elsewhere = λ other apart. ap (λ (kept : Kept). kept.seen) (same other);
    settled = λ other. subst (λ (kept : Kept). Within kept.sure (exact kept.seen)) (sym (same other)) (files_are.settled other);
  }

  -- While the slot is filled.
  pub filling : (k m : Option Content) (image : Files) → ReadsFit k → ReadsFit m → RootIsSettled slot body k → BothTold Unchanged k m → WhereTold (IsGateOpen (1 - slot) false) k → WhereTold HasRootSize k → WritingLeaves root_name (body_offset (1 - slot)) 1536 m image → StaysCurrent slot body k image
  filling None m image fit fit2 files_are same shut size writing = absurd files_are
  filling (Some k) None image fit fit2 files_are same shut size writing = absurd same
  filling (Some k) (Some m) image fit fit2 files_are same shut size writing =
      let shut_there : IfThere (HasShut slot body) (m root_name).seen = subst (λ (kept : Kept). IfThere (HasShut slot body) kept.seen) (sym (same root_name)) (with_gate slot body (k root_name).seen files_are.current shut) in
      let settled : IsSettled m = λ other. subst (λ (kept : Kept). Within kept.sure (exact kept.seen)) (sym (same other)) (files_are.settled other) in
      let low = files_are.in_range in
      let long : length (bytes_of (m root_name).seen) ≡ 4096 = ap (λ (kept : Kept). length (bytes_of kept.seen)) (same root_name) ∙ size in
      record {
        root = each_writing (HasShut slot body) (Current slot body) (body_offset (1 - slot)) 1536 m image fit2 (omega (arith, long, low)) (omega arith) (each_settled (HasShut slot body) m settled shut_there) (λ a b has torn. twin_torn slot body a b has.current has.shut torn) writing;
        elsewhere = λ other apart. subst (λ (kept : Kept). MaySurvive kept.sure (image other)) (same other) (writing.elsewhere other apart);
      }

  -- After the slot is filled.
  pub readied_filled : (k m n : Option Content) → length body ≡ 1536 → ReadsFit m → ReadsFit n → RootIsSettled slot body k → BothTold Unchanged k m → WhereTold (IsGateOpen (1 - slot) false) k → BothTold (IsWritten root_name (body_offset (1 - slot)) body) m n → BothTold (IsReadied slot body) k n
  readied_filled None m n whole fit fit2 files_are same shut written = absurd files_are
  readied_filled (Some k) None n whole fit fit2 files_are same shut written = absurd same
  readied_filled (Some k) (Some m) None whole fit fit2 files_are same shut written = absurd written
  readied_filled (Some k) (Some m) (Some n) whole fit fit2 files_are same shut written =
      let shut_there : IfThere (HasShut slot body) (m root_name).seen = subst (λ (kept : Kept). IfThere (HasShut slot body) kept.seen) (sym (same root_name)) (with_gate slot body (k root_name).seen files_are.current shut) in
      let settled : IsSettled m = λ other. subst (λ (kept : Kept). Within kept.sure (exact kept.seen)) (sym (same other)) (files_are.settled other) in
      let ready : EachRoot (Ready (1 - slot) body) (Some n) = each_written (HasShut slot body) (Ready (1 - slot) body) (body_offset (1 - slot)) body (Some m) (Some n) fit (each_settled (HasShut slot body) m settled shut_there) (λ a has. filled_ready slot body a whole has.current has.shut) written in
      record {
        root = ready (n root_name).seen (fit2 n refl root_name);
        elsewhere = λ other apart. written.elsewhere other apart ∙ ap (λ (kept : Kept). kept.seen) (same other);
        settled = written.settled;
      }

-- The slots of a root file that isn't changed, if the other gate is open.
slots_same : (slot : ℕ) (body a : List ℕ) → gate a (1 - slot) ≡ 1 → KeepsSlots slot body a a
slots_same slot body a opened = record { opened = λ is. refl; filled = λ shut. absurd (shut opened) }

-- The slots of a root file whose other body was written.
slots_filled : (slot : ℕ) (body a : List ℕ) → gate a (1 - slot) ≢ 1 → KeepsSlots slot body a (overlay (body_offset (1 - slot)) body a)
slots_filled slot body a shut = record { opened = λ is. absurd (shut is); filled = λ still. refl }

-- Their file keeps its size.
pub slots_size : (slot : ℕ) (body a b : List ℕ) → slot < 2 → length body ≡ 1536 → length a ≡ 4096 → KeepsSlots slot body a b → length b ≡ 4096
slots_size slot body a b low whole size kept = elim (equal_or_not (gate a (1 - slot)) 1) [
  | inl is ↦ ap length (kept.opened is) ∙ size
  | inr isnt ↦ ap length (kept.filled isnt) ∙ (overlay-size (body_offset (1 - slot)) body a (omega (arith, size, whole, low)) ∙ size)
]

-- A range that is written over another one at the same offset leaves nothing of that.
overlay_over : (at : ℕ) (first second old : List ℕ) → length first ≤ length second → at ≤ length old → overlay at second (overlay at first old) ≡ overlay at second old
overlay_over at first second old less inside =
    ap (λ (l : List ℕ). l ++ second ++ drop (at + length second) (overlay at first old)) front
    ∙ ap (λ (l : List ℕ). take at old ++ second ++ l) back where
      size : length (take at old) ≡ at
      size = length-take-le at old inside

      long : length (take at old ++ first) ≡ at + length first
      long = omega (arith, size, length-append (take at old) first)

      front : take at (overlay at first old) ≡ take at old
      front = take-append-le at (take at old ++ first) (drop (at + length first) old) (omega (arith, long)) ∙ take_at (take at old) first at size

      more : ℕ
      more = length second - length first

      count : at + length second ≡ at + length first + more
      count = omega (arith, less)

      back : drop (at + length second) (overlay at first old) ≡ drop (at + length second) old
      back =
          ap (λ (n : ℕ). drop n (overlay at first old)) count
          ∙ (sym (drop-drop more (at + length first) (overlay at first old))
          ∙ (ap (drop more) (drop_at (take at old ++ first) (drop (at + length first) old) (at + length first) long)
          ∙ (drop-drop more (at + length first) old ∙ sym (ap (λ (n : ℕ). drop n old) count))))

-- The next commit writes the other slot whole, so its file is that without the slot made ready.
pub committed_over : (slot : ℕ) (body next a b : List ℕ) → slot < 2 → length body ≡ 1536 → 1536 ≤ length next → length a ≡ 4096 → KeepsSlots slot body a b → with_root (1 - slot) next b ≡ with_root (1 - slot) next a
committed_over slot body next a b low whole long size kept = elim (equal_or_not (gate a (1 - slot)) 1) [
  | inl is ↦ ap (with_root (1 - slot) next) (kept.opened is)
  | inr isnt ↦
      ap (with_root (1 - slot) next) (kept.filled isnt)
      ∙ ap (overlay (1 - slot) (1 ∷ [])) (overlay_over (body_offset (1 - slot)) body next a (omega (arith, whole, long)) (omega (arith, size, low)))
]

-- The same of disks that may tell their content.
pub slots_open : (slot : ℕ) (body : List ℕ) (k m : Option Content) → BothTold Unchanged k m → WhereTold (IsGateOpen (1 - slot) true) k → BothTold (ReadiesSlot slot body) k m
slots_open slot body None None same opened = tt
slots_open slot body None (Some m) same opened = absurd same
slots_open slot body (Some k) None same opened = absurd same
slots_open slot body (Some k) (Some m) same opened = record {
  slots = subst (λ (kept : Kept). KeepsSlots slot body (bytes_of (k root_name).seen) (bytes_of kept.seen)) (sym (same root_name)) (slots_same slot body (bytes_of (k root_name).seen) opened);
  elsewhere = λ other apart. ap (λ (kept : Kept). kept.seen) (same other);
}

pub slots_written : (slot : ℕ) (body : List ℕ) (k m n : Option Content) → BothTold Unchanged k m → WhereTold (IsGateOpen (1 - slot) false) k → BothTold (IsWritten root_name (body_offset (1 - slot)) body) m n → BothTold (ReadiesSlot slot body) k n
slots_written slot body None None None same shut written = tt
slots_written slot body None None (Some n) same shut written = absurd written
slots_written slot body None (Some m) n same shut written = absurd same
slots_written slot body (Some k) None n same shut written = absurd same
slots_written slot body (Some k) (Some m) None same shut written = absurd written
slots_written slot body (Some k) (Some m) (Some n) same shut written =
    let is : bytes_of (n root_name).seen ≡ overlay (body_offset (1 - slot)) body (bytes_of (k root_name).seen) = ap bytes_of written.here ∙ ap (λ (kept : Kept). overlay (body_offset (1 - slot)) body (bytes_of kept.seen)) (same root_name) in
    record {
      slots = subst (λ (bytes : List ℕ). KeepsSlots slot body (bytes_of (k root_name).seen) bytes) (sym is) (slots_filled slot body (bytes_of (k root_name).seen) shut);
      elsewhere = λ other apart. written.elsewhere other apart ∙ ap (λ (kept : Kept). kept.seen) (same other);
    }

-- A root file whose other slot was made ready has no new root.
has_kept : (slot : ℕ) (body a b : List ℕ) → length body ≡ 1536 → Current slot body a → KeepsSlots slot body a b → HasOneBody (1 - slot) None a b
has_kept slot body a b whole current kept = elim (equal_or_not (gate a (1 - slot)) 1) [
  | inl is ↦ subst (HasOneBody (1 - slot) None a) (sym (kept.opened is)) (has_same (1 - slot) None a)
  | inr isnt ↦ subst (HasOneBody (1 - slot) None a) (sym (kept.filled isnt)) filled
] where
  size : length a ≡ 4096
  size = current.size

  low : slot < 2
  low = current.in_range

  torn : SameOutside (body_offset (1 - slot)) 1536 a (overlay (body_offset (1 - slot)) body a)
  torn = subst (λ (n : ℕ). SameOutside (body_offset (1 - slot)) n a (overlay (body_offset (1 - slot)) body a)) whole (overlay-torn (body_offset (1 - slot)) body a (omega (arith, size, whole, low)))

  filled : HasOneBody (1 - slot) None a (overlay (body_offset (1 - slot)) body a)
  filled = record {
    outside = torn_body (1 - slot) a (overlay (body_offset (1 - slot)) body a) torn;
    body = inr (inr (body_written (1 - slot) body a whole (omega (arith, size, low)) ∙ (sym current.holds ∙ ap (body_at a) (back slot low))));
  }

-- The same of disks that may tell their content.
pub kept_one : (slot : ℕ) (body : List ℕ) (k m : Option Content) → length body ≡ 1536 → ReadsFit k → WhereTold (λ (c : Content). IfThere (Current slot body) (c root_name).seen) k → BothTold (SlotsKept slot body) k m → WhereTold IsSettled m → BothTold (WentOneRoot (1 - slot) None) k m
kept_one slot body None None whole fit current kept settled = tt
kept_one slot body None (Some m) whole fit current kept settled = absurd kept
kept_one slot body (Some k) None whole fit current kept settled = absurd kept
kept_one slot body (Some k) (Some m) whole fit current kept settled = one_settled (1 - slot) None k m fit settled (both (k root_name).seen (m root_name).seen current kept) where
  both : (a b : File) → IfThere (Current slot body) a → KeepsSlots slot body (bytes_of a) (bytes_of b) → AreBoth (HasOneBody (1 - slot) None) a b
  both None b there kept = absurd there
  both (Some a) None there kept = let size = slots_size slot body a [] there.in_range whole there.size kept in absurd (omega (arith, size))
  both (Some a) (Some b) there kept = has_kept slot body a b whole there kept

pub filled_went : (slot : ℕ) (body : List ℕ) (k m n : Option Content) → length body ≡ 1536 → ReadsFit k → WhereTold (IsSettledRoot slot body) k → BothTold Unchanged k m → WhereTold (IsGateOpen (1 - slot) false) k → BothTold (IsWritten root_name (body_offset (1 - slot)) body) m n → BothTold (WentOneRoot (1 - slot) None) k n
filled_went slot body k m n whole fit files_are same shut written =
    kept_one slot body k n whole fit (current_told k files_are)
    (told_weaker (ReadiesSlot slot body) (SlotsKept slot body) k n (λ a b is told one. one.slots) (slots_written slot body k m n same shut written))
    (settled_told m n written) where
      current_told : (k : Option Content) → WhereTold (IsSettledRoot slot body) k → WhereTold (λ (c : Content). IfThere (Current slot body) (c root_name).seen) k
      current_told None is = tt
      current_told (Some k) is = is.current

      settled_told : (m n : Option Content) → BothTold (IsWritten root_name (body_offset (1 - slot)) body) m n → WhereTold IsSettled n
      settled_told None None written = tt
      settled_told None (Some n) written = absurd written
      settled_told (Some m) None written = absurd written
      settled_told (Some m) (Some n) written = written.settled

-- A disk whose root file is settled stays so while nothing changes.
pub still_root : (slot : ℕ) (body : List ℕ) (k m : Option Content) → BothTold Unchanged k m → WhereTold (IsSettledRoot slot body) k → WhereTold (IsSettledRoot slot body) m
still_root slot body k m same was = told_where Unchanged (IsSettledRoot slot body) (IsSettledRoot slot body) k m (λ a b is told kept had. record {
  in_range = had.in_range;
  settled = λ other. subst (λ (it : Kept). Within it.sure (exact it.seen)) (sym (kept other)) (had.settled other);
  current = subst (λ (it : Kept). IfThere (Current slot body) it.seen) (sym (kept root_name)) had.current;
}) same was

-- No root comes while the other slot is filled.
filling_one : (slot : ℕ) (body : List ℕ) (k m : Option Content) (image : Files) → slot < 2 → ReadsFit m → WhereTold HasRootSize k → WhereTold (IsSettledRoot slot body) k → BothTold Unchanged k m → WhereTold (IsGateOpen (1 - slot) false) k → WritingLeaves root_name (body_offset (1 - slot)) 1536 m image → OneRootStays (1 - slot) None m image
filling_one slot body None None image low fit size files_are same shut writing = tt
filling_one slot body None (Some m) image low fit size files_are same shut writing = absurd same
filling_one slot body (Some k) None image low fit size files_are same shut writing = tt
filling_one slot body (Some k) (Some m) image low fit size files_are same shut writing =
    let long : length (bytes_of (m root_name).seen) ≡ 4096 = ap (λ (kept : Kept). length (bytes_of kept.seen)) (same root_name) ∙ size in
    let origin = writing_inside root_name (body_offset (1 - slot)) 1536 m image fit (omega (arith, long, low)) (omega arith) writing in
    let is : origin.file ≡ (k root_name).seen = settled_file k root_name origin.file files_are.settled (subst (λ (kept : Kept). MaySurvive kept.sure origin.file) (same root_name) origin.fits) in
    record { from = origin.file; fits = origin.fits; by = both origin.file (image root_name) (λ open_. shut (ap (λ (f : File). gate (bytes_of f) (1 - slot)) (sym is) ∙ open_)) origin.torn } where
      both : (a b : File) → gate (bytes_of a) (1 - slot) ≢ 1 → TornFile (body_offset (1 - slot)) 1536 a b → AreBoth (HasOneRoot (1 - slot) None) a b
      both None None closed torn = tt
      both None (Some b) closed torn = absurd torn
      both (Some a) None closed torn = absurd torn
      both (Some a) (Some b) closed torn = torn_shut (1 - slot) None a b (omega arith) closed torn

module _ {D : Type 0} (g : Disk D) where
  -- While files are read, and in what comes after it.
  pub read_root : (slot : ℕ) (came : Option (List ℕ)) (disk mid new : D) → slot < 2 → BothTold Unchanged (g.content disk) (g.content mid) → LeavesOnly g disk mid (Image (g.content disk)) → RunsOneRoot g slot came mid new → RunsOneRoot g slot came disk new
  read_root slot came disk mid new low same looks run =
      joined_one g slot came disk mid new low (looks_one g slot came disk mid looks) (one_unchanged slot came (g.content disk) (g.content mid) same) run

  pub read_begins : (slot : ℕ) (disk mid new : D) → slot < 2 → BothTold Unchanged (g.content disk) (g.content mid) → LeavesOnly g disk mid (Image (g.content disk)) → BeginsRootIn g slot mid new → BeginsRootIn g slot disk new
  read_begins slot disk mid new low same looks run = (run.0, read_root slot run.0 disk mid new low same looks run.1)

  -- While a disk is synced, and in what comes after it.
  pub synced_root : (slot : ℕ) (came : Option (List ℕ)) (disk mid new : D) → slot < 2 → ReadsFit (g.content disk) → BothTold IsOnlySynced (g.content disk) (g.content mid) → LeavesOnly g disk mid (Image (g.content disk)) → RunsOneRoot g slot came mid new → RunsOneRoot g slot came disk new
  synced_root slot came disk mid new low fit synced looks run =
      joined_one g slot came disk mid new low (looks_one g slot came disk mid looks)
      (told_weaker IsOnlySynced (WentOneRoot slot came) (g.content disk) (g.content mid) (λ a b is told one.
      one_settled slot came a b (λ k same. fit k (is ∙ same)) one.settled (subst (λ (f : File). AreBoth (HasOneBody slot came) (a root_name).seen f) (sym (one.seen root_name)) (both_same slot came (a root_name).seen))) synced) run

  -- While the other slot is filled.
  pub fill_root : (slot : ℕ) (body : List ℕ) → slot < 2 → (disk mid new : D) → ReadsFit (g.content mid) → WhereTold HasRootSize (g.content disk) → WhereTold (IsSettledRoot slot body) (g.content disk) → BothTold Unchanged (g.content disk) (g.content mid) → WhereTold (IsGateOpen (1 - slot) false) (g.content disk)
      → LeavesOnly g disk mid (Image (g.content disk)) → LeavesOnly g mid new (WritingLeaves root_name (body_offset (1 - slot)) 1536 (g.content mid)) → RunsOneRoot g (1 - slot) None disk new
  fill_root slot body low disk mid new fit size files_are same shut looks writes =
      read_root (1 - slot) None disk mid new (omega arith) same looks
      (weaker g mid new (WritingLeaves root_name (body_offset (1 - slot)) 1536 (g.content mid)) (OneRootStays (1 - slot) None (g.content mid)) writes
      (λ image. filling_one slot body (g.content disk) (g.content mid) image low fit size files_are same shut))
