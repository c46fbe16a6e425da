-- A root file of zeros, while the first root is written to it.
use Rattle.std.specs.Prelude.{◌≡◌, ◌⊎◌, ◌-◌, ◌<◌, ℕ, List, [], ◌∷◌, length, get_or, take, drop, replicate, Option, Some, None, refl}
use Rattle.std.specs.Int.{from_be_bytes, w64}
use Rattle.std.proofs.Common.{◌∙◌, sym, ap, subst, inl, inr, arith}
use Rattle.std.proofs.lemmas.List.{drop-replicate, get_or-replicate, length-replicate, take-replicate}
use Rattle.std.proofs.lemmas.Bool.{cases_eq}
use Rattle.disk_model.specs.Disk.{File, Files, Content, BothTold, WhereTold, bytes_of, overlay, ReadsFit}
use Rattle.disk_model.specs.Laws.{SameOutside, overlay-torn, overlay-size}
use Rattle.disk_model.specs.Synced.{WritingLeaves, IsWritten}
use Rattle.disk_model.specs.Tells.{told_then, told_where}
use Rattle.root_slots.specs.RootName.{root_name}
use Rattle.root_slots.specs.Each.{IfThere, EachRoot, each_writing, each_written, elsewhere_before}
use Rattle.root_slots.specs.Slots.{HasRootSize, gate, body_offset, body_at, sequence_of, Current, Ready, IsShut, IsShutFile, IsCommitted, HasNewRoot}
use Rattle.epoch_store.specs.First.{AreZeros, IsFirstRoot, ShutOrFirst}
use Rattle.root_slots.proofs.Phases.{body_stays, body_written, overlay-byte, overlay_same, raised}

-- A root file that is shut and has a body in slot 0, and in slot 1 one of sequence 0.
pub record HasFirst (body file : List ℕ) : Type 0 where
  pub size : length file ≡ 4096
  pub shut : gate file 0 ≡ 0
  pub other : gate file 1 ≡ 0
  pub holds : body_at file 0 ≡ body
  pub oldest : sequence_of (body_at file 1) ≡ 0
  pub rest : file ≡ overlay (body_offset 0) body (replicate 4096 0)

-- A byte of a file of zeros.
zero_at : (n : ℕ) (file : List ℕ) (i : ℕ) → file ≡ replicate n 0 → i < n → get_or file i 0 ≡ 0
zero_at n file i is below = ap (λ (f : List ℕ). get_or f i 0) is ∙ get_or-replicate n i 0 0 below

-- The sequence in the second slot of zeros.
zero_sequence : (n : ℕ) (file : List ℕ) → file ≡ replicate n 0 → n ≡ 4096 → sequence_of (body_at file 1) ≡ 0
unfolding sequence_of body_at
zero_sequence n file is count =
    let body : take 1536 (drop (body_offset 1) file) ≡ replicate 1536 0 =
    ap (λ (f : List ℕ). take 1536 (drop (body_offset 1) f)) is ∙ (ap (take 1536) (drop-replicate (body_offset 1) n 0) ∙ take-replicate 1536 (n - body_offset 1) 0 (omega (arith, count))) in
    ap (λ (b : List ℕ). from_be_bytes w64 (take 8 b)) body ∙ ap (from_be_bytes w64) (take-replicate 8 1536 0 (omega arith))

module _ (n : ℕ) (file : List ℕ) (is : file ≡ replicate n 0) (count : n ≡ 4096) where
  -- The gates of zeros are shut, and stay so while a body is written.
  zeros_torn : (after : List ℕ) → SameOutside (body_offset 0) 1536 file after → IsShut after
  zeros_torn after same =
      let first : gate after 0 ≡ 0 = same.bytes 0 (inl (omega arith)) ∙ zero_at n file 0 is (omega (arith, count)) in
      let second : gate after 1 ≡ 0 = same.bytes 1 (inl (omega arith)) ∙ zero_at n file 1 is (omega (arith, count)) in
      inr (λ one. absurd (omega (arith, first, one)), λ one. absurd (omega (arith, second, one)))

  -- A root that is written to zeros.
  zeros_filled : (body : List ℕ) → length body ≡ 1536 → HasFirst body (overlay (body_offset 0) body file)
  zeros_filled body whole =
      let size : length file ≡ 4096 = ap length is ∙ (length-replicate {A = ℕ} n 0 ∙ count) in
      let torn = overlay-torn (body_offset 0) body file (omega (arith, size, whole)) in
      record {
        size = torn.size ∙ size;
        shut = torn.bytes 0 (inl (omega arith)) ∙ zero_at n file 0 is (omega (arith, count));
        other = torn.bytes 1 (inl (omega arith)) ∙ zero_at n file 1 is (omega (arith, count));
        holds = body_written 0 body file whole (omega (arith, size));
        oldest = ap sequence_of (body_stays (body_offset 0) (length body) 1 file (overlay (body_offset 0) body file) torn (inr (omega (arith, whole)))) ∙ zero_sequence n file is count;
        rest = ap (overlay (body_offset 0) body) (is ∙ ap (λ (m : ℕ). replicate m 0) count);
      }

-- A gate that is opened.
first_raised : (body a b : List ℕ) → HasFirst body a → SameOutside 0 1 a b → gate b 0 ≡ 1 → Current 0 body b
first_raised body a b first same opened =
    let shut = first.other in
    raised 0 body a b (omega arith) first.size first.holds (λ one. absurd (omega (arith, shut, one))) same opened

-- A file whose first gate is open has that byte.
open_byte : (b : List ℕ) → gate b 0 ≡ 1 → overlay 0 (1 ∷ []) b ≡ b
open_byte [] is = absurd (omega (arith, is))
open_byte (x ∷ xs) is = ap (λ (n : ℕ). n ∷ xs) (sym is)

-- Any byte in the gate.
first_torn : (body a b : List ℕ) → HasFirst body a → SameOutside 0 1 a b → IsShut b ⊎ IsFirstRoot body b
first_torn body a b first same =
    let shut : gate b 1 ≡ 0 = same.bytes 1 (inr (omega arith)) ∙ first.other in
    elim (cases_eq (gate b 0) 1) [ inl opened ↦ inr (record { current = first_raised body a b first same opened; rest = sym (open_byte b opened) ∙ (overlay_same 0 (1 ∷ []) a b same ∙ ap (overlay 0 (1 ∷ [])) first.rest) }) | inr closed ↦ inl (inr (closed, λ one. absurd (omega (arith, shut, one)))) ]

-- The other slot is then ready for the next root.
first_ready : (body file : List ℕ) → HasFirst body file → 0 < sequence_of body → Ready 1 body (overlay 0 (1 ∷ []) file)
first_ready body file first newer =
    let size = first.size in
    let same = overlay-torn 0 (1 ∷ []) file (omega (arith, size)) in
    let opened : gate (overlay 0 (1 ∷ []) file) 0 ≡ 1 = overlay-byte 0 1 file (omega (arith, size)) in
    let old = first.oldest in
    record {
      current = first_raised body file (overlay 0 (1 ∷ []) file) first same opened;
      other = inr (inr (subst (λ (n : ℕ). n < sequence_of body) (sym (ap sequence_of (body_stays 0 1 1 file (overlay 0 (1 ∷ []) file) same (inr (omega arith))) ∙ old)) newer));
    }

-- No slot is open, or the root is there.
abbrev pub EitherFirst : List ℕ → List ℕ → Type 0
EitherFirst body file = IsShut file ⊎ IsFirstRoot body file

-- A file that is there has no open slot, or the root.
which : (body : List ℕ) (file : File) → IfThere (EitherFirst body) file → IsShutFile file ⊎ IfThere (IsFirstRoot body) file
which body None there = absurd there
which body (Some file) there = there

shut_there : (file : File) → IfThere IsShut file → IsShutFile file
shut_there None there = absurd there
shut_there (Some file) there = there

module _ (body : List ℕ) (whole : length body ≡ 1536) where
  -- While the body is written.
  pub during_body : (k : Option Content) (image : Files) → ReadsFit k → WhereTold HasRootSize k → EachRoot AreZeros k → WritingLeaves root_name (body_offset 0) 1536 k image → ShutOrFirst body k image
  during_body None image fit size each writing = absurd each
  during_body (Some k) image fit size each writing = record {
    root = inl (shut_there (image root_name) (each_writing AreZeros IsShut (body_offset 0) 1536 k image fit (omega (arith, size)) (omega arith) each (λ a b zeros. zeros_torn 4096 a zeros refl b) writing));
    elsewhere = writing.elsewhere;
  }

  -- After the body is written.
  pub body_filled : (k m : Option Content) → ReadsFit k → EachRoot AreZeros k → BothTold (IsWritten root_name (body_offset 0) body) k m → EachRoot (HasFirst body) m
  body_filled k m fit each written = each_written AreZeros (HasFirst body) (body_offset 0) body k m fit each (λ a zeros. zeros_filled 4096 a zeros refl body whole) written

  -- While the gate is opened.
  pub during_gate : (k m : Option Content) (image : Files) → ReadsFit k → ReadsFit m → WhereTold HasRootSize m → BothTold (IsWritten root_name (body_offset 0) body) k m → EachRoot (HasFirst body) m → WritingLeaves root_name 0 1 m image → ShutOrFirst body k image
  during_gate None None image fit fit2 size written each writing = tt
  during_gate None (Some m) image fit fit2 size written each writing = absurd written
  during_gate (Some k) None image fit fit2 size written each writing = absurd written
  during_gate (Some k) (Some m) image fit fit2 size written each writing = record {
    root = which body (image root_name) (each_writing (HasFirst body) (EitherFirst body) 0 1 m image fit2 (omega (arith, size)) (omega arith) each (λ a b first same. first_torn body a b first same) writing);
    elsewhere = λ other apart. elsewhere_before k m image fit written.settled written.elsewhere other apart (writing.elsewhere other apart);
  }

  -- After the gate is opened.
  pub gate_opened : (m n : Option Content) → ReadsFit m → 0 < sequence_of body → EachRoot (HasFirst body) m → BothTold (IsWritten root_name 0 (1 ∷ [])) m n → EachRoot (Ready 1 body) n
  gate_opened m n fit newer each written = each_written (HasFirst body) (Ready 1 body) 0 (1 ∷ []) m n fit each (λ a first. first_ready body a first newer) written

  -- The root file keeps its size.
  pub size_filled : (k m : Option Content) → WhereTold HasRootSize k → BothTold (IsWritten root_name (body_offset 0) body) k m → WhereTold HasRootSize m
  size_filled k m size written =
      told_where (IsWritten root_name (body_offset 0) body) HasRootSize HasRootSize k m
      (λ a b is told after long. ap (λ (f : File). length (bytes_of f)) after.here ∙ (overlay-size (body_offset 0) body (bytes_of (a root_name).seen) (omega (arith, long, whole)) ∙ long)) written size

-- The other files after both writes.
pub first_committed : (body : List ℕ) (k m n : Option Content) → BothTold (IsWritten root_name (body_offset 0) body) k m → BothTold (IsWritten root_name 0 (1 ∷ [])) m n → BothTold IsCommitted k n
first_committed body k m n one two =
    told_then (IsWritten root_name (body_offset 0) body) (IsWritten root_name 0 (1 ∷ [])) IsCommitted k m n
    (λ a b c is told first last. record { elsewhere = λ other apart. last.elsewhere other apart ∙ first.elsewhere other apart; settled = last.settled }) one two

-- The root file after both writes.
pub first_written : (body : List ℕ) (k m n : Option Content) → BothTold (IsWritten root_name (body_offset 0) body) k m → BothTold (IsWritten root_name 0 (1 ∷ [])) m n → BothTold (HasNewRoot 0 body) k n
first_written body k m n one two =
    told_then (IsWritten root_name (body_offset 0) body) (IsWritten root_name 0 (1 ∷ [])) (HasNewRoot 0 body) k m n
    (λ a b c is told first second. second.here ∙ ap (λ (f : File). Some (overlay 0 (1 ∷ []) (bytes_of f))) first.here) one two
