-- Lemmas for proofs: every call of a disk respects the bounds that its offset respects, and so does
-- a run of calls.
use Rattle.std.specs.Prelude.{◌≡◌, ◌≢◌, ℕ, ◌≤◌, Option, Some, None, List, length, take, Result, Ok, Err, OnOk, OnErr, refl}
use Rattle.std.proofs.Common.{◌∙◌, sym, ap, subst, inl, inr, arith, length-take}
use Rattle.std.proofs.lemmas.Grind.{common_steps}
use Rattle.disk_model.specs.declared.disk.Disk.{Ghosts as Disk}
use Rattle.disk_model.specs.declared.name.FileName.{FileName}
use Rattle.disk_model.specs.Disk.{File, Files, Survival, Kept, Content, Image, BothTold, WhereTold, OneFile, Unchanged, Wrote, Tore, CutTo, TornCut, Removed, TornRemoval, Synced, NotSynced, MaySurvive, Within, ReadsFit, IsAtMostLength, Elapses, bytes_of, exact, write_sure, cut_sure}
use Rattle.disk_model.specs.Laws.{FrontOrigin, MaySurvive-Within, MaySurvive-exact, write_front}
use Rattle.disk_model.specs.Cuts.{cut_front}
use Rattle.disk_model.specs.Images.{same_or_other}
use Rattle.disk_model.specs.Moments.{started, goes_on, joined}
use Rattle.disk_model.specs.Tells.{told_weaker, told_then}
use Rattle.disk_model.specs.Beside.{Bounds, RespectsBound, StaysUpTo, Beside, WentBeside, RunsBeside}

-- A shorter prefix of a shared prefix.
take_shorter : (m n : ℕ) (a b : List ℕ) → m ≤ n → take n a ≡ take n b → take m a ≡ take m b
take_shorter m n a b less same =
    let twice : (c : List ℕ) → take m (take n c) ≡ take m c = λ c. grind (arith, common_steps) in
    sym (twice a) ∙ (ap (take m) same ∙ twice b)

-- A file that stays up to a bound stays up to a lesser one.
pub front_shorter : (m n : ℕ) (s : Survival) (file : File) → m ≤ n → FrontOrigin n s file
    → FrontOrigin m s file
front_shorter m n s file less front =
    let size : length (take n (bytes_of file)) ≡ length (take n (bytes_of front.file)) =
    ap length front.same in
    let long = front.long in
    record {
      file = front.file;
      fits = front.fits;
      same = take_shorter m n (bytes_of file) (bytes_of front.file) less front.same;
      long = λ there. omega (
        arith,
        less,
        there,
        size,
        length-take n (bytes_of file),
        length-take n
            (bytes_of front.file),
      );
    }

-- A file that a crash might have left before stays up to any bound.
pub stays : (bound : Option ℕ) (s : Survival) (file : File) → MaySurvive s file → StaysUpTo bound s file
stays None s file fits = fits
stays (Some n) s file fits = record { file = file; fits = fits; same = refl; long = λ there. there }

-- A file stays up to a bound over two calls if it does over each of them.
stays_then : (bound : Option ℕ) (s t : Survival) (file : File) → ((f : File) → MaySurvive t f
    → StaysUpTo bound s f) → StaysUpTo bound t file → StaysUpTo bound s file
stays_then None s t file first second = first file second
stays_then (Some n) s t file first second =
    let front = first second.file second.fits in
    record {
      file = front.file;
      fits = front.fits;
      same = second.same ∙ front.same;
      long = λ there. second.long (front.long there);
    }

-- A file of equal content stays.
stays_same : (bound : Option ℕ) (k m : Kept) (file : File) → m ≡ k → MaySurvive m.sure file
    → StaysUpTo bound k.sure file
stays_same bound k m file same fits =
    stays bound k.sure file (subst (λ (kept : Kept). MaySurvive kept.sure file) same fits)

-- A write at an offset that respects the bound.
stays_write : (bound : Option ℕ) (at n : ℕ) (k : Kept) (s : Survival) (file : File) → MaySurvive k.sure k.seen
    → RespectsBound bound at → at ≤ length (bytes_of k.seen) → Within s (write_sure at n k.seen k.sure)
    → MaySurvive s file → StaysUpTo bound k.sure file
stays_write None at n k s file fit far inside within fits = absurd far
stays_write (Some m) at n k s file fit far inside within fits =
    front_shorter m at k.sure file far (write_front at n k.sure k.seen file fit inside
    (MaySurvive-Within s (write_sure at n k.seen k.sure) file within fits))

-- A file that a crash leaves after a cut starts as one from before.
front_cut : (n : ℕ) (s : Survival) (seen file : File) → MaySurvive s seen → n ≤ length (bytes_of seen)
    → MaySurvive (cut_sure n s) file → FrontOrigin n s file
front_cut n s seen None fit inside left =
    record { file = None; fits = left; same = refl; long = λ there. there }
front_cut n s None (Some bytes) fit inside left =
    let none : n ≡ 0 = omega arith in
    record { file = None; fits = fit; same = rw none refl; long = λ there. omega (arith, inside) }
front_cut n s (Some seen) (Some bytes) fit inside left = cut_front n s seen bytes fit left

-- A file whose bound is 0 may be removed.
stays_removed : (bound : Option ℕ) (k : Kept) (file : File) → MaySurvive k.sure k.seen → RespectsBound bound 0
    → StaysUpTo bound k.sure file
stays_removed None k file fit far = absurd far
stays_removed (Some n) k file fit far =
    let zero_is : n ≡ 0 = omega (arith, far) in
    record {
      file = k.seen;
      fits = fit;
      same = rw zero_is refl;
      long = λ there. omega (arith, zero_is);
    }

-- A cut to a length that respects the bound.
stays_cut : (bound : Option ℕ) (n : ℕ) (k : Kept) (s : Survival) (file : File) → MaySurvive k.sure k.seen
    → RespectsBound bound n → n ≤ length (bytes_of k.seen) → Within s (cut_sure n k.sure) → MaySurvive s file
    → StaysUpTo bound k.sure file
stays_cut None n k s file fit far inside within fits = absurd far
stays_cut (Some m) n k s file fit far inside within fits =
    front_shorter m n k.sure file far (front_cut n k.sure k.seen file fit inside
    (MaySurvive-Within s (cut_sure n k.sure) file within fits))

-- A call that changes one file, which stays up to its bound.
one_beside : (bounds : Bounds) (name : FileName) (k m : Content)
    → ((file : File) → MaySurvive (m name).sure file → StaysUpTo (bounds name) (k name).sure file)
    → ((other : FileName) → other ≢ name → m other ≡ k other) → WentBeside bounds k m
one_beside bounds name k m here elsewhere = record {
  each = λ other.
      elim (same_or_other name other) [
        | inl same ↦ subst (λ (n : FileName). (file : File) → MaySurvive (m n).sure file
            → StaysUpTo (bounds n) (k n).sure file) (sym same) here
        | inr apart ↦ λ file fits.
            stays_same (bounds other) (k other) (m other) file (elsewhere other apart) fits
      ];
}

-- A write, whatever it returns.
pub write_beside : (bounds : Bounds) (name : FileName) (at n : ℕ) (k m : Content)
    → ReadsFit (Some k) → RespectsBound (bounds name) at → at ≤ length (bytes_of (k name).seen)
    → Within (m name).sure (write_sure at n (k name).seen (k name).sure)
    → ((other : FileName) → other ≢ name → m other ≡ k other) → WentBeside bounds k m
write_beside bounds name at n k m fit far inside within elsewhere =
    one_beside bounds name k m (λ file. stays_write (bounds name) at n (k name) (m name).sure file
    (fit k refl name) far inside within) elsewhere

-- A cut, whatever it returns.
pub cut_beside : (bounds : Bounds) (name : FileName) (n : ℕ) (k m : Content) → ReadsFit (Some k)
    → RespectsBound (bounds name) n → n ≤ length (bytes_of (k name).seen)
    → Within (m name).sure (cut_sure n (k name).sure)
    → ((other : FileName) → other ≢ name → m other ≡ k other) → WentBeside bounds k m
cut_beside bounds name n k m fit far inside within elsewhere =
    one_beside bounds name k m (λ file. stays_cut (bounds name) n (k name) (m name).sure file
    (fit k refl name) far inside within) elsewhere

-- A removal, whatever it returns.
pub remove_beside : (bounds : Bounds) (name : FileName) (k m : Content) → ReadsFit (Some k)
    → RespectsBound (bounds name) 0 → ((other : FileName) → other ≢ name → m other ≡ k other)
    → WentBeside bounds k m
remove_beside bounds name k m fit far elsewhere = one_beside bounds name k m (λ file fits.
    stays_removed (bounds name) (k name) file (fit k refl name) far) elsewhere

-- A sync that returns `Ok` leaves what reads give.
pub sync_beside : (bounds : Bounds) (k m : Content) → ReadsFit (Some k) → Synced k m
    → WentBeside bounds k m
sync_beside bounds k m fit synced = record {
  each = λ name file fits.
      let is : file ≡ (k name).seen =
      MaySurvive-exact (k name).seen file
      (MaySurvive-Within (m name).sure (exact (k name).seen) file (synced.crash name) fits) in
      stays (bounds name) (k name).sure file
      (subst (λ (f : File). MaySurvive (k name).sure f) (sym is) (fit k refl name));
}

-- A sync that fails leaves no more than before.
pub unsynced_beside : (bounds : Bounds) (k m : Content) → NotSynced k m → WentBeside bounds k m
unsynced_beside bounds k m torn = record {
  each = λ name file fits. stays (bounds name)
      (k name).sure file (MaySurvive-Within (m name).sure (k name).sure file (torn.crash name) fits);
}

-- A call that changes nothing.
pub unchanged_beside : (bounds : Bounds) (k m : Content) → Unchanged k m → WentBeside bounds k m
unchanged_beside bounds k m same = record {
  each = λ name file fits.
      stays_same (bounds name) (k name) (m name) file (same name) fits;
}

-- Two calls, one after the other.
pub beside_then : (bounds : Bounds) (k m o : Content) → WentBeside bounds k m
    → WentBeside bounds m o → WentBeside bounds k o
beside_then bounds k m o first second = record {
  each = λ name file fits. stays_then (bounds name)
      (k name).sure (m name).sure file (first.each name) (second.each name file fits);
}

-- What is told of a call with a result, if both outcomes tell it.
either_told : {T E : Type 0} (result : Result T E) (P Q R : Content → Content → Type 0)
    (old new : Option Content) → ((k m : Content) → old ≡ Some k → new ≡ Some m → P k m → R k m)
    → ((k m : Content) → old ≡ Some k → new ≡ Some m → Q k m → R k m) → OnOk result (BothTold P old new)
    → OnErr result (BothTold Q old new) → BothTold R old new
either_told (Ok v) P Q R old new done torn ok err = told_weaker P R old new done ok
either_told (Err e) P Q R old new done torn ok err = told_weaker Q R old new torn err

-- A write, if the disk tells its content.
pub write_told : {T E : Type 0} (result : Result T E) (bounds : Bounds) (name : FileName) (at : ℕ)
    (bytes : List ℕ) (old new : Option Content) → ReadsFit old → RespectsBound (bounds name) at
    → WhereTold (IsAtMostLength name at) old
    → OnOk result (BothTold (OneFile name (Wrote at bytes)) old new)
    → OnErr result (BothTold (OneFile name (Tore at (length bytes))) old new)
    → BothTold (WentBeside bounds) old new
write_told result bounds name at bytes old new fit far inside ok err =
    either_told result (OneFile name (Wrote at bytes)) (OneFile name (Tore at (length bytes)))
    (WentBeside bounds) old new
    (λ k m is told one. write_beside bounds name at (length bytes) k m (subst ReadsFit is fit) far
    (subst (WhereTold (IsAtMostLength name at)) is inside) one.here.crash one.elsewhere)
    (λ k m is told one. write_beside bounds name at (length bytes) k m (subst ReadsFit is fit) far
    (subst (WhereTold (IsAtMostLength name at)) is inside) one.here.crash one.elsewhere)
    ok err

-- A cut, if the disk tells its content.
pub cut_told : {T E : Type 0} (result : Result T E) (bounds : Bounds) (name : FileName) (n : ℕ)
    (old new : Option Content) → ReadsFit old → RespectsBound (bounds name) n
    → WhereTold (IsAtMostLength name n) old → OnOk result (BothTold (OneFile name (CutTo n)) old new)
    → OnErr result (BothTold (OneFile name (TornCut n)) old new) → BothTold (WentBeside bounds) old new
cut_told result bounds name n old new fit far inside ok err =
    either_told result (OneFile name (CutTo n)) (OneFile name (TornCut n)) (WentBeside bounds) old new
    (λ k m is told one. cut_beside bounds name n k m (subst ReadsFit is fit) far
    (subst (WhereTold (IsAtMostLength name n)) is inside) one.here.crash one.elsewhere)
    (λ k m is told one. cut_beside bounds name n k m (subst ReadsFit is fit) far
    (subst (WhereTold (IsAtMostLength name n)) is inside) one.here.crash one.elsewhere)
    ok err

-- A removal, if the disk tells its content.
pub remove_told : {T E : Type 0} (result : Result T E) (bounds : Bounds) (name : FileName)
    (old new : Option Content) → ReadsFit old → RespectsBound (bounds name) 0
    → OnOk result (BothTold (OneFile name Removed) old new)
    → OnErr result (BothTold (OneFile name TornRemoval) old new) → BothTold (WentBeside bounds) old new
remove_told result bounds name old new fit far ok err =
    either_told result (OneFile name Removed) (OneFile name TornRemoval) (WentBeside bounds) old new
    (λ k m is told one. remove_beside bounds name k m (subst ReadsFit is fit) far one.elsewhere)
    (λ k m is told one. remove_beside bounds name k m (subst ReadsFit is fit) far one.elsewhere)
    ok err

-- A sync, if the disk tells its content.
pub sync_told : {T E : Type 0} (result : Result T E) (bounds : Bounds) (old new : Option Content)
    → ReadsFit old → OnOk result (BothTold Synced old new) → OnErr result (BothTold NotSynced old new)
    → BothTold (WentBeside bounds) old new
sync_told result bounds old new fit ok err =
    either_told result Synced NotSynced (WentBeside bounds) old new (λ k m is told synced.
    sync_beside bounds k m (subst ReadsFit is fit) synced) (λ k m is told torn.
    unsynced_beside bounds k m torn) ok err

-- A call that changes nothing, if the disk tells its content.
pub unchanged_told : (bounds : Bounds) (old new : Option Content) → BothTold Unchanged old new
    → BothTold (WentBeside bounds) old new
unchanged_told bounds old new told = told_weaker Unchanged (WentBeside bounds) old new
    (λ k m is new_is same. unchanged_beside bounds k m same) told

-- What a crash leaves after a run.
pub beside_now : (bounds : Bounds) (old new : Option Content) (image : Files)
    → BothTold (WentBeside bounds) old new → Image new image → Beside bounds old image
beside_now bounds None None image told left = tt
beside_now bounds None (Some m) image told left = absurd told
beside_now bounds (Some k) None image told left = absurd told
beside_now bounds (Some k) (Some m) image told left =
    record { each = λ name. told.each name (image name) (left name) }

-- What a crash leaves during a second run.
pub beside_later : (bounds : Bounds) (old mid : Option Content) (image : Files)
    → BothTold (WentBeside bounds) old mid → Beside bounds mid image → Beside bounds old image
beside_later bounds None None image told crash_beside = tt
beside_later bounds None (Some m) image told crash_beside = absurd told
beside_later bounds (Some k) None image told crash_beside = absurd told
beside_later bounds (Some k) (Some m) image told crash_beside = record {
  each = λ name. stays_then
      (bounds name) (k name).sure (m name).sure (image name) (told.each name) (crash_beside.each name);
}

-- What a crash leaves before a run.
beside_first : (bounds : Bounds) (old : Option Content) (image : Files) → Image old image
    → Beside bounds old image
beside_first bounds None image left = tt
beside_first bounds (Some k) image left =
    record { each = λ name. stays (bounds name) (k name).sure (image name) (left name) }

-- A run without a call changes nothing.
told_first : (bounds : Bounds) (old : Option Content) → BothTold (WentBeside bounds) old old
told_first bounds None = tt
told_first bounds (Some k) = unchanged_beside bounds k k (λ name. refl)

module _ {D : Type 0} (g : Disk D) where
  -- A run before its first call.
  pub run_started : (bounds : Bounds) (old : D) → ((image : Files) → g.left_since old (g.moment old)
      image → Image (g.content old) image) → RunsBeside g bounds old old
  run_started bounds old now = record {
    moments = started g old (Beside bounds (g.content old)) (λ image since.
        beside_first bounds (g.content old) image (now image since));
    told = told_first bounds (g.content old);
  }

  -- A run and one more call.
  pub run_on : (bounds : Bounds) (old mid new : D) → RunsBeside g bounds old
      mid → Elapses (g.moment mid) (g.moment new) (g.left_since mid) (g.left_since new) (g.content new)
      → BothTold (WentBeside bounds) (g.content mid) (g.content new)
      → RunsBeside g bounds old new
  run_on bounds old mid new run time call =
      let all : BothTold (WentBeside bounds) (g.content old) (g.content new) =
      told_then (WentBeside bounds) (WentBeside bounds) (WentBeside bounds) (g.content old)
      (g.content mid) (g.content new)
      (λ k m o is told first second. beside_then bounds k m o first second) run.told call in
      record {
        moments = goes_on g old mid new (Beside bounds (g.content old)) (g.content new)
            run.moments time (λ image left.
            beside_now bounds (g.content old) (g.content new) image all left);
        told = all;
      }

  -- A run of one call.
  pub run_call : (bounds : Bounds) (old new : D) → ((image : Files) → g.left_since old (g.moment old)
      image → Image (g.content old) image) → Elapses (g.moment old) (g.moment new) (g.left_since old)
      (g.left_since new) (g.content new) → BothTold (WentBeside bounds) (g.content old) (g.content new)
      → RunsBeside g bounds old new
  run_call bounds old new now time call =
      run_on bounds old old new (run_started bounds old now) time call

  -- A run of one call that changes nothing.
  pub run_unchanged : (bounds : Bounds) (old new : D)
      → ((image : Files) → g.left_since old (g.moment old)
      image → Image (g.content old) image) → Elapses (g.moment old) (g.moment new) (g.left_since old)
      (g.left_since new) (g.content new) → BothTold Unchanged (g.content old) (g.content new)
      → RunsBeside g bounds old new
  run_unchanged bounds old new now time same =
      run_call bounds old new now time (unchanged_told bounds (g.content old) (g.content new) same)

  -- Two runs, one after the other.
  pub run_joined : (bounds : Bounds) (old mid new : D) → RunsBeside g bounds
      old mid → RunsBeside g bounds mid new
      → RunsBeside g bounds old new
  run_joined bounds old mid new first second = record {
    moments = joined g old mid new (Beside bounds (g.content old))
        (Beside bounds (g.content mid)) (Beside bounds (g.content old)) first.moments second.moments
        (λ image crash_beside. crash_beside) (λ image crash_beside.
        beside_later bounds (g.content old) (g.content mid) image first.told crash_beside);
    told = told_then (WentBeside bounds) (WentBeside bounds) (WentBeside bounds) (g.content old)
        (g.content mid) (g.content new) (λ k m o is told one two.
        beside_then bounds k m o one two) first.told second.told;
  }
