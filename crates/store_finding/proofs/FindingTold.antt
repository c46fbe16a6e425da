-- Calls that only read a disk, one after the other, and what they tell together.
use Rattle.std.specs.Prelude.{Option, Some, None, refl}
use Rattle.std.proofs.Common.{subst, arith}
use Rattle.disk_model.specs.declared.disk.Disk.{Ghosts as Disk}
use Rattle.disk_model.specs.declared.name.FileName.{FileName}
use Rattle.disk_model.specs.Disk.{Files, Content, Image, BothTold, WhereTold, Unchanged}
use Rattle.disk_model.specs.Moments.{started, joined}
use Rattle.store_finding.proofs.NameLists.{unchanged_more, unchanged_image}
use Rattle.epoch_file.specs.Runs.{OnlyReads}
use Rattle.store_finding.specs.Files.{as_read}

-- Unchanged content is unchanged.
pub unchanged_itself : (content : Option Content) → BothTold Unchanged content content
unchanged_itself None = tt
unchanged_itself (Some k) = λ name. refl

module _ {D : Type 0} (g : Disk D) where
  -- No call.
  pub reads_none : (old : D) → ((image : Files) → g.left_since old (g.moment old) image → Image (g.content old) image) → OnlyReads g old old
  reads_none old now = record { same = unchanged_itself (g.content old); crash = started g old (Image (g.content old)) now; later = omega arith }

  -- Two runs.
  pub reads_both : (old mid new : D) → OnlyReads g old mid → OnlyReads g mid new → OnlyReads g old new
  reads_both old mid new p q = record {
    same = unchanged_more (g.content old) (g.content mid) (g.content new) p.same q.same;
    crash = joined g old mid new (Image (g.content old)) (Image (g.content mid)) (Image (g.content old)) p.crash q.crash (λ image left. left) (λ image. unchanged_image (g.content old) (g.content mid) image p.same);
    later = omega (arith, p.later, q.later);
  }

-- What holds of any content, what follows from what is told, and what follows from what is told before
-- and after a call that only reads.
pub where_any : (R : Content → Type 0) (k : Option Content) → ((c : Content) → R c) → WhereTold R k
where_any R None all = tt
where_any R (Some k) all = all k

pub where_so : (P R : Content → Type 0) (k : Option Content) → WhereTold P k → ((c : Content) → P c → R c) → WhereTold R k
where_so P R None told step = tt
where_so P R (Some k) told step = step k told

pub where_both : (P Q R : Content → Type 0) (k m : Option Content) → BothTold Unchanged k m → WhereTold P k → WhereTold Q m → ((c : Content) → P c → Q c → R c) → WhereTold R k
where_both P Q R None m same p q step = tt
where_both P Q R (Some k) None same p q step = absurd same
where_both P Q R (Some k) (Some m) same p q step = step k p (subst Q (λ i. λ (name : FileName). same name i) q)

-- The same of the files as they read.
pub told_any : (R : Files → Type 0) (k : Option Content) → ((files : Files) → R files) → WhereTold (λ k. R (as_read k)) k
told_any R k all = where_any (λ c. R (as_read c)) k (λ c. all (as_read c))

pub told_so : (P R : Files → Type 0) (k : Option Content) → WhereTold (λ k. P (as_read k)) k → ((files : Files) → P files → R files) → WhereTold (λ k. R (as_read k)) k
told_so P R k told step = where_so (λ c. P (as_read c)) (λ c. R (as_read c)) k told (λ c. step (as_read c))

pub told_both : (P Q R : Files → Type 0) (k m : Option Content) → BothTold Unchanged k m → WhereTold (λ k. P (as_read k)) k → WhereTold (λ k. Q (as_read k)) m → ((files : Files) → P files → Q files → R files) → WhereTold (λ k. R (as_read k)) k
told_both P Q R k m same p q step = where_both (λ c. P (as_read c)) (λ c. Q (as_read c)) (λ c. R (as_read c)) k m same p q (λ c. step (as_read c))
