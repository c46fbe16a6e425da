-- A root file without an open slot, created in three steps.
use Rattle.std.specs.Prelude.{◌≡◌, ◌<◌, ℕ, ◌+◌, Option, Some, None, List, [], ◌∷◌, ◌++◌, length, get_or, drop, replicate}
use Rattle.std.proofs.Common.{◌∙◌, ap, subst, inl, inr, arith}
use Rattle.std.proofs.lemmas.List.{append-nil, drop_all, replicate-append-replicate}
use Rattle.disk_model.specs.Disk.{File, Files, Kept, Content, Survival, Image, BothTold, WhereTold, OneFile, MaySurvive, Within, exact, bytes_of, overlay, write_sure, remove_sure, IsAtMostLength, ReadsFit}
use Rattle.disk_model.specs.Laws.{MaySurvive-Within}
use Rattle.disk_model.specs.Synced.{WritingLeaves, IsWritten}
use Rattle.disk_model.specs.Tells.{told_then}
use Rattle.root_slots.specs.RootName.{root_name}
use Rattle.root_slots.specs.Each.{elsewhere_before}
use Rattle.root_slots.specs.Slots.{IsShutFile, EachShut, LeavesShut, OthersStayInImage, IsBegun, RootBecomes, StillShut}

-- What may be left while the file is removed.
still_shut : (s : Survival) (file : File) → ((f : File) → MaySurvive s f → IsShutFile f) → MaySurvive (remove_sure s) file → IsShutFile file
still_shut s None each fits = tt
still_shut s (Some bytes) each fits = each (Some bytes) (record { there = fits.there; no_shorter = fits.no_shorter; no_longer = fits.no_longer; outside = fits.outside })

-- Before the file is removed.
pub shut_at_start : (k : Option Content) (image : Files) → Image k image → StillShut k image
shut_at_start None image left = tt
shut_at_start (Some k) image left = record { root = λ each. each (image root_name) (left root_name); elsewhere = λ other apart. left other }

-- After it was removed, or a removal failed.
pub shut_removed : (P : Kept → Kept → Type 0) (k m : Option Content) (image : Files) → ((a b : Kept) → P a b → Within b.sure (remove_sure a.sure)) → BothTold (OneFile root_name P) k m → Image m image → StillShut k image
shut_removed P None m image crash told left = tt
shut_removed P (Some k) None image crash told left = absurd told
shut_removed P (Some k) (Some m) image crash told left = record {
  root = λ each. still_shut (k root_name).sure (image root_name) each (MaySurvive-Within (m root_name).sure (remove_sure (k root_name).sure) (image root_name) (crash (k root_name) (m root_name) told.here) (left root_name));
  elsewhere = λ other apart. subst (λ (kept : Kept). MaySurvive kept.sure (image other)) (told.elsewhere other apart) (left other);
}

-- What may be left while zeros are written.
abbrev ZerosShut : File → ℕ → ℕ → Type 0
ZerosShut seen at n = (s : Survival) (file : File) → Within s (exact seen) → MaySurvive (write_sure at n seen s) file → IsShutFile file

pub first_zeros : ZerosShut None 0 2
first_zeros s None small fits = tt
first_zeros s (Some bytes) small fits = let top = small.greatest in let long = fits.no_longer in inl (λ is. absurd (omega arith))

pub other_zeros : ZerosShut (Some (0 ∷ 0 ∷ [])) 2 4094
other_zeros s None small fits = tt
other_zeros s (Some bytes) small fits =
    let low = small.least in
    let zero_at : (i : ℕ) → i < 2 → get_or bytes i 0 ≡ get_or (0 ∷ 0 ∷ []) i 0 = λ (i : ℕ) (below : i < 2).
    let same = small.outside i below tt in
    fits.outside i (omega (arith, low, below)) (inl below, same.0) ∙ same.1 in
    inr (λ opened. (let zero = zero_at 0 (omega arith) in absurd (omega (arith, zero, opened))), λ opened. (let zero = zero_at 1 (omega arith) in absurd (omega (arith, zero, opened))))

-- No slot is open while zeros are written.
pub shut_writing : (seen : File) (at n : ℕ) (k m : Option Content) (image : Files) → ZerosShut seen at n → ReadsFit k → BothTold (RootBecomes seen) k m → WritingLeaves root_name at n m image → StillShut k image
shut_writing seen at n None m image zeros fit became writing = tt
shut_writing seen at n (Some k) None image zeros fit became writing = absurd became
shut_writing seen at n (Some k) (Some m) image zeros fit became writing = record {
  root = λ each.
      zeros (m root_name).sure (image root_name) (subst (λ (f : File). Within (m root_name).sure (exact f)) became.root (became.settled root_name))
      (subst (λ (f : File). MaySurvive (write_sure at n f (m root_name).sure) (image root_name)) became.root writing.here);
  elsewhere = λ other apart. elsewhere_before k m image fit became.settled became.elsewhere other apart (writing.elsewhere other apart);
}

-- After a write.
pub became : (seen : File) (at : ℕ) (bytes : List ℕ) (k m n : Option Content) → BothTold (RootBecomes seen) k m → BothTold (IsWritten root_name at bytes) m n → BothTold (RootBecomes (Some (overlay at bytes (bytes_of seen)))) k n
became seen at bytes k m n =
    told_then (RootBecomes seen) (IsWritten root_name at bytes) (RootBecomes (Some (overlay at bytes (bytes_of seen)))) k m n
    (λ x y z is told first last. record {
      root = last.here ∙ ap (λ (f : File). Some (overlay at bytes (bytes_of f))) first.root;
      elsewhere = λ other apart. last.elsewhere other apart ∙ first.elsewhere other apart;
      settled = last.settled;
    })

-- The two zeros.
pub two_zeros : (k m : Option Content) → BothTold (RootBecomes (Some (0 ∷ 0 ∷ []))) k m → WhereTold (IsAtMostLength root_name 2) m
two_zeros k None became = tt
two_zeros None (Some m) became = absurd became
two_zeros (Some k) (Some m) became = rw became.root (omega arith)

-- Zeros written after two zeros.
zeros_over : (n : ℕ) → overlay 2 (replicate n 0) (0 ∷ 0 ∷ []) ≡ replicate (2 + n) 0
zeros_over n =
    let past : drop (2 + length (replicate n 0)) (0 ∷ 0 ∷ []) ≡ [] = drop_all (2 + length (replicate n 0)) (0 ∷ 0 ∷ []) (omega arith) in
    ap (λ (rest : List ℕ). (0 ∷ 0 ∷ []) ++ replicate n 0 ++ rest) past ∙ (append-nil ((0 ∷ 0 ∷ []) ++ replicate n 0) ∙ replicate-append-replicate 2 n 0)

-- The state at the end.
pub begun : (k m n : Option Content) → BothTold (RootBecomes (Some (0 ∷ 0 ∷ []))) k m → BothTold (IsWritten root_name 2 (replicate 4094 0)) m n → BothTold IsBegun k n
begun k m n first last =
    subst (λ (zeros : List ℕ). BothTold (RootBecomes (Some zeros)) k n) (zeros_over 4094) (became (Some (0 ∷ 0 ∷ [])) 2 (replicate 4094 0) k m n first last)

-- No slot is open if none was, and other files stay.
pub to_shut : (k : Option Content) (image : Files) → EachShut k → StillShut k image → LeavesShut k image
to_shut None image each still = tt
to_shut (Some k) image each still = record { root = still.root each; elsewhere = still.elsewhere }

pub to_others : (k : Option Content) (image : Files) → StillShut k image → OthersStayInImage k image
to_others None image still = tt
to_others (Some k) image still = still.elsewhere
