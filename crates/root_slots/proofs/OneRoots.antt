-- At most one new root: what the writes of a commit leave, and runs one after the other.
use Rattle.std.specs.Prelude.{◌≡◌, ◌≢◌, ◌⊎◌, ℕ, ◌+◌, ◌-◌, ◌<◌, ◌≤◌, Option, Some, None, List, [], ◌∷◌, length, get_or, take, drop, refl}
use Rattle.std.proofs.Common.{◌∙◌, sym, ap, subst, inl, inr, arith, length-take, length-drop}
use Rattle.std.proofs.lemmas.Bool.{cases_lt}
use Rattle.std.proofs.lemmas.Grind.{same_number_lists}
use Rattle.std.proofs.lemmas.List.{get_or-take, get_or-drop}
use Rattle.disk_model.specs.declared.disk.Disk.{Ghosts as Disk}
use Rattle.disk_model.specs.Disk.{File, Files, Kept, Content, Image, BothTold, WhereTold, Unchanged, Synced, MaySurvive, ReadsFit, bytes_of, exact, overlay}
use Rattle.disk_model.specs.Laws.{SameOutside, MaySurvive-exact, MaySurvive-Within, overlay-torn, overlay-size}
use Rattle.disk_model.specs.Moments.{LeavesOnly, joined, weaker}
use Rattle.disk_model.specs.Synced.{IsSettled}
use Rattle.disk_model.specs.Tells.{told_then, told_weaker}
use Rattle.root_slots.specs.Between.{BetweenStays, RunsBetween, WentBetween, crash_between}
use Rattle.root_slots.specs.RootName.{root_name}
use Rattle.root_slots.specs.Each.{settled_file}
use Rattle.root_slots.specs.OneRoot.{StaysOutside, IsBodyOf, HasOneRoot, HasOneBody, ComesFrom, OneRootStays, WentOneRoot, RunsOneRoot, BeginsOneRoot, BeginsNoRoot}
use Rattle.root_slots.specs.Slots.{AreBoth, HasNewRoot, HasRootSize, IsCommitted, IsInCommit, body_at, body_offset, gate, shut_in, with_root}
use Rattle.root_slots.proofs.Phases.{overlay-byte, body_stays, body_written}

-- A part of equal bytes in files of equal lengths.
same_part : (from count : ℕ) (old new : List ℕ) → length new ≡ length old → ((i : ℕ) → from ≤ i → i < from + count → get_or new i 0 ≡ get_or old i 0) → take count (drop from new) ≡ take count (drop from old)
same_part from count old new size same =
    same_number_lists (take count (drop from new)) (take count (drop from old)) (omega (arith, size, length-take {A = ℕ}, length-drop {A = ℕ}))
    (λ i below.
    let front : i < count = omega (arith, below, length-take {A = ℕ}) in
    get_or-take count (drop from new) i 0 front
    ∙ (get_or-drop from new i 0 ∙ (same (from + i) (omega arith) (omega (arith, front))
    ∙ sym (get_or-take count (drop from old) i 0 front ∙ get_or-drop from old i 0))))

-- An offset that isn't that of a gate.
not_at : (i slot : ℕ) → i ≢ slot → (i < slot) ⊎ (slot + 1 ≤ i)
not_at i slot apart = elim (cases_lt i slot) [
  | inl less ↦ inl less
  | inr least ↦ elim (cases_lt slot i) [ inl more ↦ inr (omega (arith, more)) | inr most ↦ absurd (apart (omega (arith, least, most))) ]
]

-- The other slot's body, and the bytes between the gates and the bodies.
pub other_body : (slot : ℕ) (a b : List ℕ) → slot < 2 → StaysOutside slot a b → body_at b (1 - slot) ≡ body_at a (1 - slot)
unfolding body_at
other_body slot a b low out = same_part (body_offset (1 - slot)) 1536 a b out.size (λ i least below.
    out.bytes i (λ is. absurd (omega (arith, least, is, low))) (elim (cases_lt slot 1) [ inl first ↦ inr (omega (arith, first, least)) | inr second ↦ inl (omega (arith, second, low, below)) ]))

pub outside_between : (slot : ℕ) (a b : List ℕ) → slot < 2 → StaysOutside slot a b → crash_between b ≡ crash_between a
unfolding crash_between
outside_between slot a b low out = same_part 2 1022 a b out.size (λ i least below.
    out.bytes i (λ is. absurd (omega (arith, least, is, low))) (inl (omega (arith, below))))

-- Outside of a slot, one change after another.
outside_same : (slot : ℕ) (a : List ℕ) → StaysOutside slot a a
outside_same slot a = record { size = refl; bytes = λ i apart out. refl }

outside_then : (slot : ℕ) (a b c : List ℕ) → StaysOutside slot a b → StaysOutside slot b c → StaysOutside slot a c
outside_then slot a b c first second = record { size = second.size ∙ first.size; bytes = λ i apart out. second.bytes i apart out ∙ first.bytes i apart out }

-- A torn gate, and a torn body.
torn_gate : (slot : ℕ) (a b : List ℕ) → SameOutside slot 1 a b → StaysOutside slot a b
torn_gate slot a b same = record { size = same.size; bytes = λ i apart out. same.bytes i (not_at i slot apart) }

pub torn_body : (slot : ℕ) (a b : List ℕ) → SameOutside (body_offset slot) 1536 a b → StaysOutside slot a b
torn_body slot a b same = record { size = same.size; bytes = λ i apart out. same.bytes i out }

-- A root file is one that has one root, and one more after it.
pub has_same : (slot : ℕ) (came : Option (List ℕ)) (a : List ℕ) → HasOneBody slot came a a
has_same slot came a = record { outside = outside_same slot a; body = inr (inl refl) }

body_then : (slot : ℕ) (came : Option (List ℕ)) (a b body : List ℕ) → slot < 2 → HasOneBody slot came a b → IsBodyOf slot came b body → IsBodyOf slot came a body
body_then slot came a b body low first (inl came_is) = inl came_is
body_then slot came a b body low first (inr (inl here)) = subst (IsBodyOf slot came a) (sym here) first.body
body_then slot came a b body low first (inr (inr there)) = inr (inr (there ∙ other_body slot a b low first.outside))

root_then : (slot : ℕ) (came : Option (List ℕ)) (a b c : List ℕ) → slot < 2 → HasOneBody slot came a b → HasOneRoot slot came b c → HasOneRoot slot came a c
root_then slot came a b c low first second = record { outside = outside_then slot a b c first.outside second.outside; opened = λ open_. body_then slot came a b (body_at c slot) low first (second.opened open_) }

has_then : (slot : ℕ) (came : Option (List ℕ)) (a b c : List ℕ) → slot < 2 → HasOneBody slot came a b → HasOneBody slot came b c → HasOneBody slot came a c
has_then slot came a b c low first second = record { outside = outside_then slot a b c first.outside second.outside; body = body_then slot came a b (body_at c slot) low first second.body }

-- No body came, so any might have.
any_body : (slot : ℕ) (came : Option (List ℕ)) (a body : List ℕ) → IsBodyOf slot None a body → IsBodyOf slot came a body
any_body slot came a body (inl came_is) = absurd (let wrong : None ≡ Some body = came_is in cc)
any_body slot came a body (inr had) = inr had

pub any_came : (slot : ℕ) (came : Option (List ℕ)) (a b : List ℕ) → HasOneBody slot None a b → HasOneBody slot came a b
any_came slot came a b one = record { outside = one.outside; body = any_body slot came a (body_at b slot) one.body }

any_root : (slot : ℕ) (came : Option (List ℕ)) (a b : List ℕ) → HasOneRoot slot None a b → HasOneRoot slot came a b
any_root slot came a b one = record { outside = one.outside; opened = λ open_. any_body slot came a (body_at b slot) (one.opened open_) }

-- A body that is written while its gate is shut.
pub torn_shut : (slot : ℕ) (came : Option (List ℕ)) (a b : List ℕ) → slot < 2 → gate a slot ≢ 1 → SameOutside (body_offset slot) 1536 a b → HasOneRoot slot came a b
torn_shut slot came a b low shut same = record {
  outside = torn_body slot a b same;
  opened = λ open_. absurd (shut (sym (same.bytes slot (inl (omega (arith, low)))) ∙ open_));
}

-- Each write of a commit.
pub in_commit : (slot : ℕ) (body a b : List ℕ) → slot < 2 → IsInCommit slot body a b → HasOneRoot slot (Some body) a b
in_commit slot body a b low (inl first) = record {
  outside = torn_gate slot a b first;
  opened = λ open_. inr (inl (body_stays slot 1 slot a b first (inr (omega arith))));
}
in_commit slot body a b low (inr (inl second)) =
    let size = second.0 in
    let shut = shut_in slot a in
    let zero_is = overlay-byte slot 0 a (omega (arith, size, low)) in
    let is_shut = λ (open_ : gate shut slot ≡ 1). absurd (omega (arith, zero_is, open_)) in
    let one = torn_shut slot (Some body) shut b low is_shut second.1 in
    record {
      outside = outside_then slot a shut b (torn_gate slot a shut (overlay-torn slot (0 ∷ []) a (omega (arith, size, low)))) one.outside;
      opened = λ open_. absurd (is_shut (sym (second.1.bytes slot (inl (omega (arith, low)))) ∙ open_));
    }
in_commit slot body a b low (inr (inr third)) =
    let size = third.0 in
    let whole = third.1 in
    let shut = shut_in slot a in
    let long = overlay-size slot (0 ∷ []) a (omega (arith, size, low)) in
    let filled = overlay (body_offset slot) body shut in
    let torn : SameOutside (body_offset slot) 1536 shut filled = subst (λ (n : ℕ). SameOutside (body_offset slot) n shut filled) whole (overlay-torn (body_offset slot) body shut (omega (arith, long, size, whole, low))) in
    record {
      outside = outside_then slot a shut b (torn_gate slot a shut (overlay-torn slot (0 ∷ []) a (omega (arith, size, low)))) (outside_then slot shut filled b (torn_body slot shut filled torn) (torn_gate slot filled b third.2));
      opened = λ open_. inl (ap Some (sym (body_stays slot 1 slot filled b third.2 (inr (omega arith)) ∙ body_written slot body shut whole (omega (arith, long, size, low)))));
    }

-- After a commit.
has_new : (slot : ℕ) (body a : List ℕ) → slot < 2 → length body ≡ 1536 → length a ≡ 4096 → HasOneBody slot (Some body) a (with_root slot body a)
has_new slot body a low whole size =
    let filled = overlay (body_offset slot) body a in
    let long = overlay-size (body_offset slot) body a (omega (arith, size, whole, low)) in
    let torn : SameOutside (body_offset slot) 1536 a filled = subst (λ (n : ℕ). SameOutside (body_offset slot) n a filled) whole (overlay-torn (body_offset slot) body a (omega (arith, size, whole, low))) in
    let raised = overlay-torn slot (1 ∷ []) filled (omega (arith, long, size, low)) in
    record {
      outside = outside_then slot a filled (with_root slot body a) (torn_body slot a filled torn) (torn_gate slot filled (with_root slot body a) raised);
      body = inl (ap Some (sym (body_stays slot 1 slot filled (with_root slot body a) raised (inr (omega arith)) ∙ body_written slot body a whole (omega (arith, size, low)))));
    }

-- The relations of files.
pub both_same : (slot : ℕ) (came : Option (List ℕ)) (file : File) → AreBoth (HasOneBody slot came) file file
both_same slot came None = tt
both_same slot came (Some a) = has_same slot came a

both_then : (P Q R : List ℕ → List ℕ → Type 0) → ((a b c : List ℕ) → P a b → Q b c → R a c) → (a b c : File) → AreBoth P a b → AreBoth Q b c → AreBoth R a c
both_then P Q R step None None None first second = tt
both_then P Q R step None None (Some c) first second = absurd second
both_then P Q R step None (Some b) c first second = absurd first
both_then P Q R step (Some a) None c first second = absurd first
both_then P Q R step (Some a) (Some b) None first second = absurd second
both_then P Q R step (Some a) (Some b) (Some c) first second = step a b c first second

pub both_weaker : (P Q : List ℕ → List ℕ → Type 0) → ((a b : List ℕ) → P a b → Q a b) → (a b : File) → AreBoth P a b → AreBoth Q a b
both_weaker P Q step None None by = tt
both_weaker P Q step None (Some b) by = absurd by
both_weaker P Q step (Some a) None by = absurd by
both_weaker P Q step (Some a) (Some b) by = step a b by

from_then : (P Q R : List ℕ → List ℕ → Type 0) → ((a b c : List ℕ) → P a b → Q b c → R a c) → (k m : Content) (file : File) → ((f : File) → MaySurvive (m root_name).sure f → ComesFrom P k f) → ComesFrom Q m file → ComesFrom R k file
from_then P Q R step k m file went second =
    let first = went second.from second.fits in
    record { from = first.from; fits = first.fits; by = both_then P Q R step first.from second.from file first.by second.by }

from_weaker : (P Q : List ℕ → List ℕ → Type 0) → ((a b : List ℕ) → P a b → Q a b) → (k : Content) (file : File) → ComesFrom P k file → ComesFrom Q k file
from_weaker P Q step k file comes = record { from = comes.from; fits = comes.fits; by = both_weaker P Q step comes.from file comes.by }

-- Where a slot has such a body, it has such a root.
root_of : (slot : ℕ) (came : Option (List ℕ)) (a b : List ℕ) → HasOneBody slot came a b → HasOneRoot slot came a b
root_of slot came a b one = record { outside = one.outside; opened = λ open_. one.body }

-- A file that a crash before might have left.
pub one_same : (slot : ℕ) (came : Option (List ℕ)) (k : Content) (file : File) → MaySurvive (k root_name).sure file → ComesFrom (HasOneBody slot came) k file
one_same slot came k file fits = record { from = file; fits = fits; by = both_same slot came file }

pub one_image_of : (slot : ℕ) (came : Option (List ℕ)) (k : Content) (file : File) → MaySurvive (k root_name).sure file → ComesFrom (HasOneRoot slot came) k file
one_image_of slot came k file fits = from_weaker (HasOneBody slot came) (HasOneRoot slot came) (root_of slot came) k file (one_same slot came k file fits)

module _ (slot : ℕ) (came : Option (List ℕ)) where
  -- Before anything is done.
  pub one_image : (k : Option Content) (image : Files) → Image k image → OneRootStays slot came k image
  one_image None image left = tt
  one_image (Some k) image left = record { from = image root_name; fits = left root_name; by = both_weaker (HasOneBody slot came) (HasOneRoot slot came) (root_of slot came) (image root_name) (image root_name) (both_same slot came (image root_name)) }

  -- A disk that is unchanged, or synced.
  pub one_unchanged : (k m : Option Content) → BothTold Unchanged k m → BothTold (WentOneRoot slot came) k m
  one_unchanged k m same = told_weaker Unchanged (WentOneRoot slot came) k m (λ a b is told kept file fits.
      record { from = file; fits = subst (λ (it : Kept). MaySurvive it.sure file) (kept root_name) fits; by = both_same slot came file }) same

  pub one_synced : (k m : Option Content) → ReadsFit k → BothTold Synced k m → BothTold (WentOneRoot slot came) k m
  one_synced k m fit synced = told_weaker Synced (WentOneRoot slot came) k m (λ a b is told one file fits.
      let same : file ≡ (a root_name).seen = MaySurvive-exact (a root_name).seen file (MaySurvive-Within (b root_name).sure (exact (a root_name).seen) file (one.crash root_name) fits) in
      record { from = (a root_name).seen; fits = fit a is root_name; by = subst (λ (f : File). AreBoth (HasOneBody slot came) (a root_name).seen f) (sym same) (both_same slot came (a root_name).seen) }) synced

  -- A disk that is settled.
  pub one_settled : (k m : Content) → ReadsFit (Some k) → IsSettled m → AreBoth (HasOneBody slot came) (k root_name).seen (m root_name).seen → WentOneRoot slot came k m
  one_settled k m fit settled by file fits = record {
    from = (k root_name).seen;
    fits = fit k refl root_name;
    by = subst (λ (f : File). AreBoth (HasOneBody slot came) (k root_name).seen f) (sym (settled_file m root_name file settled fits)) by;
  }

  module _ (low : slot < 2) where
    -- After a run that began no other root.
    pub one_then : (k m : Option Content) (image : Files) → BothTold (WentOneRoot slot came) k m → OneRootStays slot came m image → OneRootStays slot came k image
    one_then None m image went stays = tt
    one_then (Some k) None image went stays = absurd went
    one_then (Some k) (Some m) image went stays = from_then (HasOneBody slot came) (HasOneRoot slot came) (HasOneRoot slot came) (λ a b c. root_then slot came a b c low) k m (image root_name) went stays

    pub one_went : (k m o : Option Content) → BothTold (WentOneRoot slot came) k m → BothTold (WentOneRoot slot came) m o → BothTold (WentOneRoot slot came) k o
    one_went k m o first second = told_then (WentOneRoot slot came) (WentOneRoot slot came) (WentOneRoot slot came) k m o
        (λ a b c is told one two file fits. from_then (HasOneBody slot came) (HasOneBody slot came) (HasOneBody slot came) (λ x y z. has_then slot came x y z low) a b file one (two file fits)) first second

-- After a commit.
pub one_committed : (slot : ℕ) (body : List ℕ) (k m : Option Content) → slot < 2 → length body ≡ 1536 → ReadsFit k → WhereTold HasRootSize k → BothTold (HasNewRoot slot body) k m → BothTold IsCommitted k m → BothTold (WentOneRoot slot (Some body)) k m
one_committed slot body None None low whole fit size root committed = tt
one_committed slot body None (Some m) low whole fit size root committed = absurd root
one_committed slot body (Some k) None low whole fit size root committed = absurd root
one_committed slot body (Some k) (Some m) low whole fit size root committed =
    one_settled slot (Some body) k m fit committed.settled (subst (λ (f : File). AreBoth (HasOneBody slot (Some body)) (k root_name).seen f) (sym root) (both (k root_name).seen size)) where
      both : (file : File) → length (bytes_of file) ≡ 4096 → AreBoth (HasOneBody slot (Some body)) file (Some (with_root slot body (bytes_of file)))
      both None size = absurd (omega (arith, size))
      both (Some a) size = has_new slot body a low whole size

-- The bytes between the gates and the bodies stay.
pub one_between : (slot : ℕ) (came : Option (List ℕ)) (k : Option Content) (image : Files) → slot < 2 → OneRootStays slot came k image → BetweenStays k image
one_between slot came None image low stays = tt
one_between slot came (Some k) image low stays = record { from = stays.from; fits = stays.fits; same = both stays.from (image root_name) stays.by } where
  both : (file after : File) → AreBoth (HasOneRoot slot came) file after → crash_between (bytes_of after) ≡ crash_between (bytes_of file)
  both None None by = refl
  both None (Some b) by = absurd by
  both (Some a) None by = absurd by
  both (Some a) (Some b) by = outside_between slot a b low by.outside

pub went_between : (slot : ℕ) (came : Option (List ℕ)) (k m : Option Content) → slot < 2 → BothTold (WentOneRoot slot came) k m → BothTold WentBetween k m
went_between slot came k m low went = told_weaker (WentOneRoot slot came) WentBetween k m (λ a b is told one file fits. (let comes = one file fits in record { from = comes.from; fits = comes.fits; same = both comes.from file comes.by })) went where
  both : (file after : File) → AreBoth (HasOneBody slot came) file after → crash_between (bytes_of after) ≡ crash_between (bytes_of file)
  both None None by = refl
  both None (Some b) by = absurd by
  both (Some a) None by = absurd by
  both (Some a) (Some b) by = outside_between slot a b low by.outside

-- Where no body came, any might have.
one_any : (slot : ℕ) (came : Option (List ℕ)) (k : Option Content) (image : Files) → OneRootStays slot None k image → OneRootStays slot came k image
one_any slot came None image stays = tt
one_any slot came (Some k) image stays = from_weaker (HasOneRoot slot None) (HasOneRoot slot came) (any_root slot came) k (image root_name) stays

pub went_any : (slot : ℕ) (came : Option (List ℕ)) (k m : Option Content) → BothTold (WentOneRoot slot None) k m → BothTold (WentOneRoot slot came) k m
went_any slot came k m went = told_weaker (WentOneRoot slot None) (WentOneRoot slot came) k m (λ a b is told one file fits. from_weaker (HasOneBody slot None) (HasOneBody slot came) (any_came slot came) a file (one file fits)) went

module _ {D : Type 0} (g : Disk D) where
  -- A run that leaves what a crash before might have left.
  pub looks_one : (slot : ℕ) (came : Option (List ℕ)) (old new : D) → LeavesOnly g old new (Image (g.content old)) → RunsOneRoot g slot came old new
  looks_one slot came old new looks = weaker g old new (Image (g.content old)) (OneRootStays slot came (g.content old)) looks (λ image. one_image slot came (g.content old) image)

  -- A run, and one more after it.
  pub joined_one : (slot : ℕ) (came : Option (List ℕ)) (old mid new : D) → slot < 2 → RunsOneRoot g slot came old mid → BothTold (WentOneRoot slot came) (g.content old) (g.content mid) → RunsOneRoot g slot came mid new → RunsOneRoot g slot came old new
  joined_one slot came old mid new low first went second =
      joined g old mid new (OneRootStays slot came (g.content old)) (OneRootStays slot came (g.content mid)) (OneRootStays slot came (g.content old)) first second (λ image stays. stays)
      (λ image. one_then slot came low (g.content old) (g.content mid) image went)

  -- A run in which no root came.
  pub any_one : (slot : ℕ) (came : Option (List ℕ)) (old new : D) → RunsOneRoot g slot None old new → RunsOneRoot g slot came old new
  any_one slot came old new run = weaker g old new (OneRootStays slot None (g.content old)) (OneRootStays slot came (g.content old)) run (λ image. one_any slot came (g.content old) image)

  -- The bytes between the gates and the bodies stay at each moment of a run.
  pub runs_between : (slot : ℕ) (came : Option (List ℕ)) (old new : D) → slot < 2 → RunsOneRoot g slot came old new → RunsBetween g old new
  runs_between slot came old new low run = weaker g old new (OneRootStays slot came (g.content old)) (BetweenStays (g.content old)) run (λ image. one_between slot came (g.content old) image low)

  -- A run that begins no root.
  pub none_begins : (old new : D) → BeginsNoRoot g old new → BeginsOneRoot g old new
  none_begins old new none = record { slot = none.slot; in_range = none.in_range; came = None; crash = none.crash }

  pub looks_none : (old new : D) → LeavesOnly g old new (Image (g.content old)) → BeginsNoRoot g old new
  looks_none old new looks = record { slot = 0; in_range = omega arith; crash = looks_one 0 None old new looks }
