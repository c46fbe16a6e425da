-- A replacement of the root, phase by phase: what a crash leaves during each, and what holds after
-- it.
use Rattle.std.specs.Prelude.{◌≡◌, ◌≢◌, ℕ, ◌-◌, ◌<◌, ◌≤◌, true, false, List, [], ◌∷◌, length, take, Option, Some, None, refl}
use Rattle.std.proofs.Common.{◌∙◌, sym, ap, subst, inl, inr, arith, take_all}
use Rattle.std.proofs.lemmas.List.{nil_from_length}
use Rattle.disk_model.specs.declared.disk.Disk.{Ghosts as Disk}
use Rattle.disk_model.specs.declared.name.FileName.{FileName}
use Rattle.disk_model.specs.Disk.{File, Files, Survival, Content, Image, BothTold, WhereTold, Synced, MaySurvive, ReadsFit, Elapses, bytes_of, exact, overlay}
use Rattle.disk_model.specs.Laws.{FrontOrigin, MaySurvive-Within, MaySurvive-exact, overlay-size}
use Rattle.disk_model.specs.Synced.{IsSettled}
use Rattle.disk_model.specs.Moments.{LeavesOnly, started, goes_on, joined, weaker}
use Rattle.root_slots.specs.declared.root.Root.{Root}
use Rattle.root_slots.specs.RootName.{root_name}
use Rattle.root_slots.specs.OneRoot.{OneRootStays, RunsOneRoot, WentOneRoot}
use Rattle.root_slots.proofs.OneRoots.{joined_one, looks_one, one_committed, one_image_of, one_same, one_synced, one_went}
use Rattle.root_slots.specs.Each.{IfThere, EachRoot}
use Rattle.root_slots.specs.Slots.{HasRootSize, Current, HasRoot, Ready, OldOrNew, IsOldOrNew, HasNewRoot, IsCommitted, with_root, body_offset, sequence_of}
use Rattle.root_slots.specs.Spelling.{spelling}
use Rattle.disk_model.specs.Tells.{told_then, told_weaker, told_where}
use Rattle.disk_model.specs.Beside.{StaysUpTo, AreBeside, Beside, WentBeside, RunsBeside}
use Rattle.root_change.specs.Names.{names_file, named_end, bounds_of, other_bound, named_none}
use Rattle.root_change.specs.Texts.{Texts, counted, StandsFor, IsOn, OnDisk, Measures, EachFronts, HasLengths, HasSizes, KeepsNamed}
use Rattle.root_change.specs.Leaving.{ready_has}
use Rattle.root_change.specs.Replacing.{IsToReplace, ToReplace, StandsForEither, IsDropped, drops}
use Rattle.root_change.proofs.Drops.{true_or_false, alone_from, unnamed_apart}

-- The current root in a slot is current.
pub current_has : (slot : ℕ) (body : List ℕ) (file : File) → IfThere (Current slot body) file → IfThere (HasRoot body) file
current_has slot body None there = absurd there
current_has slot body (Some bytes) there = (slot, there)

-- All bytes of a file count that are no more than the root says.
pub counted_equal : (root : Root) (name : FileName) (text : List ℕ) (file : File) → length text ≤ named_end root name → bytes_of file ≡ text → counted root name file ≡ text
counted_equal root name text file short is = ap (take (named_end root name)) is ∙ take_all (named_end root name) text short

-- No byte of a file counts that isn't named.
pub counted_none : (root : Root) (name : FileName) (file : File) → names_file root name ≡ false → counted root name file ≡ []
counted_none root name file isnt = ap (λ (n : ℕ). take n (bytes_of file)) (named_none root name isnt)

-- The bytes that count of a file that stays up to their end are as before.
pub front_kept : (root : Root) (name : FileName) (text : List ℕ) (s : Survival) (file : File) → ((f : File) → MaySurvive s f → counted root name f ≡ text) → FrontOrigin (named_end root name) s file → counted root name file ≡ text
front_kept root name text s file each front = front.same ∙ each front.file front.fits

-- While files change after the ends of a root's texts, they stand for the texts.
pub stands_beside : (root : Root) (texts : Texts) (k : Content) (image : Files) → ((file : File) → MaySurvive (k root_name).sure file → IfThere (HasRoot (spelling root)) file) → EachFronts root texts k → AreBeside (bounds_of root) k image → StandsFor root texts image
stands_beside root texts k image roots fronts crash_beside = record {
  current = roots (image root_name) (crash_beside.each root_name);
  fronts = λ name apart.
      front_kept root name (texts name) (k name).sure (image name) (fronts name apart)
      (subst (λ (b : Option ℕ). StaysUpTo b (k name).sure (image name)) (other_bound root name apart) (crash_beside.each name));
}

-- What a crash leaves after a sync.
pub synced_file : (k m : Content) (name : FileName) (file : File) → Synced k m → MaySurvive (m name).sure file → file ≡ (k name).seen
synced_file k m name file synced fits = MaySurvive-exact (k name).seen file (MaySurvive-Within (m name).sure (exact (k name).seen) file (synced.crash name) fits)

-- What a crash leaves of a settled disk.
pub settled_file : (k : Content) (name : FileName) (file : File) → IsSettled k → MaySurvive (k name).sure file → file ≡ (k name).seen
settled_file k name file settled fits = MaySurvive-exact (k name).seen file (MaySurvive-Within (k name).sure (exact (k name).seen) file (settled name) fits)

-- What the replacement makes of the files as reads give them.
record Replaced (slot : ℕ) (body : List ℕ) (old new : Root) (k p : Content) : Type 0 where
  root : HasNewRoot slot body k p
  kept : (name : FileName) → name ≢ root_name → names_file new name ≡ true → (p name).seen ≡ (k name).seen
  gone : (name : FileName) → drops old new name ≡ true → (p name).seen ≡ None
  none_made : (name : FileName) → name ≢ root_name → (k name).seen ≡ None → (p name).seen ≡ None
  settled : IsSettled p

-- What is told of a disk by two clauses.
told_both : (P Q : Content → Content → Type 0) (k m : Option Content) → BothTold P k m → BothTold Q k m → BothTold (λ a b. P a b × Q a b) k m
told_both P Q None None p q = tt
told_both P Q None (Some m) p q = absurd p
told_both P Q (Some k) None p q = absurd p
told_both P Q (Some k) (Some m) p q = (p, q)

replaced_told : (slot : ℕ) (body : List ℕ) (old new : Root) (k m n p : Option Content) → BothTold Synced k m → BothTold (HasNewRoot slot body) m n → BothTold IsCommitted m n → BothTold (IsDropped old new) n p → BothTold (Replaced slot body old new) k p
replaced_told slot body old new k m n p synced written committed dropped =
    let Root : Content → Content → Type 0 = HasNewRoot slot body in
    let Commits : Content → Content → Type 0 = λ a b. Root a b × IsCommitted a b in
    let Since : Content → Content → Type 0 = λ a b. Root a b × ((name : FileName) → name ≢ root_name → (b name).seen ≡ (a name).seen) in
    told_then Since (IsDropped old new) (Replaced slot body old new) k n p (λ a b c it mid one two. record {
      root = two.dropped.kept root_name refl ∙ one.0;
      kept = λ name apart is. two.dropped.kept name is ∙ one.1 name apart;
      gone = λ name there. two.dropped.gone name tt there;
      none_made = λ name apart none. two.dropped.none_made name (one.1 name apart ∙ none);
      settled = two.settled;
    })
    (told_then Synced Commits Since k m n (λ a b c it mid one two. (two.0 ∙ ap (λ (f : File). Some (with_root slot body (bytes_of f))) (one.seen root_name), λ name apart. two.1.elsewhere name apart ∙ one.seen name)) synced (told_both Root IsCommitted m n written committed))
    dropped

-- What each root file has that a crash leaves it still has once files were dropped.
dropped_root : (P : List ℕ → Type 0) (old new : Root) (k m : Option Content) → ReadsFit k → BothTold (IsDropped old new) k m → EachRoot P k → EachRoot P m
dropped_root P old new None m fit dropped roots = absurd roots
dropped_root P old new (Some k) None fit dropped roots = absurd dropped
dropped_root P old new (Some k) (Some m) fit dropped roots = λ file fits. subst (λ (f : File). IfThere P f) (sym (settled_file m root_name file dropped.settled fits ∙ dropped.dropped.kept root_name refl)) (roots (k root_name).seen (fit k refl root_name))

module _ (free : ℕ) (old : Root) (texts : Texts) (new : Root) (next : Texts) where
  -- A file that the new root doesn't name has no next text.
  no_next : Measures new next → (name : FileName) → name ≢ root_name → names_file new name ≡ false → next name ≡ []
  no_next measures name apart isnt =
      let short = measures name apart in
      let none = named_none new name isnt in
      nil_from_length (next name) (omega (arith, short, none))

  -- The next text of each file, as reads give it.
  next_fronts : (k : Content) → IsToReplace free old texts new next k → (name : FileName) → name ≢ root_name → counted new name (k name).seen ≡ next name
  next_fronts k todo name apart = elim (true_or_false (names_file new name)) [
    | inl is ↦ counted_equal new name (next name) (k name).seen (todo.measures name apart) (todo.reads name apart is)
    | inr isnt ↦ counted_none new name (k name).seen isnt ∙ sym (no_next todo.measures name apart isnt)
  ]

  -- Before the commit.
  before : (k : Content) (image : Files) → IsToReplace free old texts new next k → Image (Some k) image → StandsFor old texts image
  before k image todo left = record {
    current = ready_has free (spelling old) (image root_name) (todo.roots (image root_name) (left root_name));
    fronts = λ name apart. todo.fronts name apart (image name) (left name);
  }

  -- During the commit.
  committing : (k m : Content) (image : Files) → ReadsFit (Some k) → IsToReplace free old texts new next k → Synced k m → OldOrNew (spelling old) (spelling new) m image → StandsForEither old texts new next image
  committing k m image fit todo synced crash_between = elim crash_between.root [
    | inl was ↦ inl (record { current = was; fronts = λ name apart. ap (counted old name) (as_before name apart) ∙ (todo.fronts name apart (k name).seen (fit k refl name)) })
    | inr will ↦ inr (record { current = will; fronts = λ name apart. ap (counted new name) (as_before name apart) ∙ (next_fronts k todo name apart) })
  ] where
    as_before : (name : FileName) → name ≢ root_name → image name ≡ (k name).seen
    as_before name apart = synced_file k m name (image name) synced (crash_between.elsewhere name apart)

  -- While files are dropped.
  dropping : (k m n : Content) (image : Files) → IsToReplace free old texts new next k → Synced k m → IsCommitted m n → EachRoot (Current free (spelling new)) (Some n) → AreBeside (bounds_of new) n image → StandsFor new next image
  dropping k m n image todo synced committed roots crash_beside =
      stands_beside new next n image (λ file fits. current_has free (spelling new) file (roots file fits)) fronts crash_beside where
        fronts : EachFronts new next n
        fronts name apart file fits =
            let is : file ≡ (k name).seen = settled_file n name file committed.settled fits ∙ (committed.elsewhere name apart ∙ synced.seen name) in
            ap (counted new name) is ∙ next_fronts k todo name apart

  module _ (k p : Content) (todo : IsToReplace free old texts new next k) (was : Replaced free (spelling new) old new k p) where
    -- In the end no file is there that the new root doesn't name.
    gone : (name : FileName) → names_file new name ≡ false → (p name).seen ≡ None
    gone name isnt = elim (todo.others name isnt) [
      | inl there ↦ was.gone name (alone_from (names_file old name) (names_file new name) there isnt)
      | inr none ↦ was.none_made name (unnamed_apart new name isnt) none
    ]

    -- And each other one reads as its text.
    seen_next : (name : FileName) → name ≢ root_name → bytes_of (p name).seen ≡ next name
    seen_next name apart = elim (true_or_false (names_file new name)) [
      | inl is ↦ ap bytes_of (was.kept name apart is) ∙ todo.reads name apart is
      | inr isnt ↦ ap bytes_of (gone name isnt) ∙ sym (no_next todo.measures name apart isnt)
    ]

    done : ReadsFit (Some p) → EachRoot (Ready (1 - free) (spelling new)) (Some p) → IsOn new (1 - free) next p
    done fit ready = record {
      roots = ready;
      fronts = λ name apart file fits. counted_equal new name (next name) file (todo.measures name apart) (ap bytes_of (settled_file p name file was.settled fits) ∙ seen_next name apart);
      exact = record { current = ready_has (1 - free) (spelling new) (p root_name).seen (ready (p root_name).seen (fit p refl root_name)); ends = seen_next; no_other = gone };
    }

  -- The same, of a disk that may tell its content.
  pub before_told : (k : Option Content) (image : Files) → ToReplace free old texts new next k → Image k image → StandsForEither old texts new next image
  before_told None image todo left = absurd todo
  before_told (Some k) image todo left = inl (before k image todo left)

  later_told : (k : Option Content) → ToReplace free old texts new next k → sequence_of (spelling old) < new.sequence
  later_told None todo = absurd todo
  later_told (Some k) todo = todo.later

  ready_told : (k m : Option Content) → ReadsFit k → ToReplace free old texts new next k → BothTold Synced k m → EachRoot (Ready free (spelling old)) m
  ready_told None m fit todo synced = absurd todo
  ready_told (Some k) None fit todo synced = absurd synced
  ready_told (Some k) (Some m) fit todo synced = λ file fits. subst (λ (f : File). IfThere (Ready free (spelling old)) f) (sym (synced_file k m root_name file synced fits)) (todo.roots (k root_name).seen (fit k refl root_name))

  committing_told : (k m : Option Content) (image : Files) → ReadsFit k → ToReplace free old texts new next k → BothTold Synced k m → IsOldOrNew (spelling old) (spelling new) m image → StandsForEither old texts new next image
  committing_told None m image fit todo synced crash_between = absurd todo
  committing_told (Some k) None image fit todo synced crash_between = absurd synced
  committing_told (Some k) (Some m) image fit todo synced crash_between = committing k m image fit todo synced crash_between

  dropping_told : (k m n : Option Content) (image : Files) → ToReplace free old texts new next k → BothTold Synced k m → BothTold IsCommitted m n → EachRoot (Current free (spelling new)) n → Beside (bounds_of new) n image → StandsForEither old texts new next image
  dropping_told None m n image todo synced committed roots crash_beside = absurd todo
  dropping_told (Some k) None n image todo synced committed roots crash_beside = absurd synced
  dropping_told (Some k) (Some m) None image todo synced committed roots crash_beside = absurd committed
  dropping_told (Some k) (Some m) (Some n) image todo synced committed roots crash_beside = inr (dropping k m n image todo synced committed roots crash_beside)

  done_told : (k p : Option Content) → ReadsFit p → ToReplace free old texts new next k → BothTold (Replaced free (spelling new) old new) k p → EachRoot (Ready (1 - free) (spelling new)) p → OnDisk new (1 - free) next p
  done_told None p fit todo was ready = absurd todo
  done_told (Some k) None fit todo was ready = absurd ready
  done_told (Some k) (Some p) fit todo was ready = done k p todo was fit ready

  -- What a crash leaves at each moment of these phases, and what the disk is then, by the clauses of their calls.
  module _ {D : Type 0} (g : Disk D) (reads_fit : (d : D) → ReadsFit (g.content d)) (disk d1 d2 : D) (todo : ToReplace free old texts new next (g.content disk)) (synced : BothTold Synced (g.content disk) (g.content d1)) where
    -- What a clause of the commit promises, over whichever root it is asked of.
    abbrev pub Promised : (List ℕ → Type 0) → Type 0
    Promised P = (body : List ℕ) → EachRoot (Ready free body) (g.content d1) → sequence_of body < new.sequence → P body

    kept_promise : (P : List ℕ → Type 0) → Promised P → P (spelling old)
    kept_promise P promised = promised (spelling old) (ready_told (g.content disk) (g.content d1) (reads_fit disk) todo synced) (later_told (g.content disk) todo)

    module _ (looks : LeavesOnly g disk d1 (Image (g.content disk))) (commits : Promised (λ body. LeavesOnly g d1 d2 (IsOldOrNew body (spelling new) (g.content d1)))) where
      pub commit_leaves : LeavesOnly g disk d2 (StandsForEither old texts new next)
      commit_leaves =
          joined g disk d1 d2 (Image (g.content disk)) (IsOldOrNew (spelling old) (spelling new) (g.content d1)) (StandsForEither old texts new next) looks
          (kept_promise (λ body. LeavesOnly g d1 d2 (IsOldOrNew body (spelling new) (g.content d1))) commits)
          (λ image. before_told (g.content disk) image todo) (λ image. committing_told (g.content disk) (g.content d1) image (reads_fit disk) todo synced)

      pub drops_leave : (d3 : D) → BothTold IsCommitted (g.content d1) (g.content d2) → Promised (λ body. EachRoot (Current free (spelling new)) (g.content d2)) → RunsBeside g (bounds_of new) d2 d3 → LeavesOnly g disk d3 (StandsForEither old texts new next)
      drops_leave d3 committed roots run =
          joined g disk d2 d3 (StandsForEither old texts new next) (Beside (bounds_of new) (g.content d2)) (StandsForEither old texts new next) commit_leaves run.moments (λ image stands. stands)
          (λ image. dropping_told (g.content disk) (g.content d1) (g.content d2) image todo synced committed (kept_promise (λ body. EachRoot (Current free (spelling new)) (g.content d2)) roots))

    pub done_on : (d3 : D) → Promised (λ body. EachRoot (Ready (1 - free) (spelling new)) (g.content d2)) → BothTold (HasNewRoot free (spelling new)) (g.content d1) (g.content d2) → BothTold IsCommitted (g.content d1) (g.content d2) → BothTold (IsDropped old new) (g.content d2) (g.content d3) → OnDisk new (1 - free) next (g.content d3)
    done_on d3 ready written committed dropped =
        done_told (g.content disk) (g.content d3) (reads_fit d3) todo (replaced_told free (spelling new) old new (g.content disk) (g.content d1) (g.content d2) (g.content d3) synced written committed dropped)
        (dropped_root (Ready (1 - free) (spelling new)) old new (g.content d2) (g.content d3) (reads_fit d2) dropped (kept_promise (λ body. EachRoot (Ready (1 - free) (spelling new)) (g.content d2)) ready))

-- The length of a root file stays.
root_size_stays : (slot : ℕ) (body file : List ℕ) → slot < 2 → length body ≡ 1536 → length file ≡ 4096 → length (with_root slot body file) ≡ 4096
root_size_stays slot body file in_range whole size =
    let filled = overlay-size (body_offset slot) body file (omega (arith, size, whole, in_range)) in
    overlay-size slot (1 ∷ []) (overlay (body_offset slot) body file) (omega (arith, filled, size, in_range)) ∙ (filled ∙ size)

-- In the end the files that the new root names read as before, and the root file is that of the commit.
pub kept_told : (slot : ℕ) (body : List ℕ) (old new : Root) (k m n p : Option Content) → slot < 2 → length body ≡ 1536 → WhereTold HasRootSize k → BothTold Synced k m → BothTold (HasNewRoot slot body) m n → BothTold IsCommitted m n → BothTold (IsDropped old new) n p → BothTold (KeepsNamed new) k p
kept_told slot body old new k m n p in_range whole size synced written committed dropped =
    told_weaker (Replaced slot body old new) (KeepsNamed new) k p (λ a b it is was. record {
      root_file = ap (λ (f : File). length (bytes_of f)) was.root ∙ root_size_stays slot body (bytes_of (a root_name).seen) in_range whole (subst (WhereTold HasRootSize) it size);
      named = was.kept;
    }) (replaced_told slot body old new k m n p synced written committed dropped)

pub rooted_told : (slot : ℕ) (body : List ℕ) (old new : Root) (k m n p : Option Content) → BothTold Synced k m → BothTold (HasNewRoot slot body) m n → BothTold IsCommitted m n → BothTold (IsDropped old new) n p → BothTold (HasNewRoot slot body) k p
rooted_told slot body old new k m n p synced written committed dropped =
    told_weaker (Replaced slot body old new) (HasNewRoot slot body) k p (λ a b it is was. was.root) (replaced_told slot body old new k m n p synced written committed dropped)

-- No root comes while files other than the root file change.
pub beside_one : {D : Type 0} (g : Disk D) (root : Root) (slot : ℕ) (came : Option (List ℕ)) (old new : D) → RunsBeside g (bounds_of root) old new → RunsOneRoot g slot came old new
beside_one g root slot came old new run = weaker g old new (Beside (bounds_of root) (g.content old)) (OneRootStays slot came (g.content old)) run.moments (λ image. stays (g.content old) image) where
  stays : (k : Option Content) (image : Files) → Beside (bounds_of root) k image → OneRootStays slot came k image
  stays None image beside = tt
  stays (Some k) image beside = one_image_of slot came k (image root_name) (beside.each root_name)

pub beside_went : (root : Root) (slot : ℕ) (came : Option (List ℕ)) (k m : Option Content) → BothTold (WentBeside (bounds_of root)) k m → BothTold (WentOneRoot slot came) k m
beside_went root slot came k m went = told_weaker (WentBeside (bounds_of root)) (WentOneRoot slot came) k m (λ a b is told one file fits. one_same slot came a file (one.each root_name file fits)) went

-- What a crash leaves while a disk is synced.
pub sync_leaves : {D : Type 0} (g : Disk D) (disk d1 : D) → ((image : Files) → g.left_since disk (g.moment disk) image → Image (g.content disk) image) → Elapses (g.moment disk) (g.moment d1) (g.left_since disk) (g.left_since d1) (g.content d1) → ((image : Files) → Image (g.content d1) image → Image (g.content disk) image)
    → LeavesOnly g disk d1 (Image (g.content disk))
sync_leaves g disk d1 now time earlier = goes_on g disk disk d1 (Image (g.content disk)) (g.content d1) (started g disk (Image (g.content disk)) now) time earlier

-- At most the new root comes while the root is replaced, call by call.
module _ {D : Type 0} (g : Disk D) (reads_fit : (d : D) → ReadsFit (g.content d)) (slot : ℕ) (body : List ℕ) (low : slot < 2) (disk d1 d2 : D) (looks : LeavesOnly g disk d1 (Image (g.content disk))) (synced : BothTold Synced (g.content disk) (g.content d1)) (commits : RunsOneRoot g slot (Some body) d1 d2) where
  pub commit_root : RunsOneRoot g slot (Some body) disk d2
  commit_root = joined_one g slot (Some body) disk d1 d2 low (looks_one g slot (Some body) disk d1 looks) (one_synced slot (Some body) (g.content disk) (g.content d1) (reads_fit disk) synced) commits

  pub drops_root : (new : Root) (d3 : D) → WhereTold HasRootSize (g.content disk) → length body ≡ 1536 → BothTold (HasNewRoot slot body) (g.content d1) (g.content d2) → BothTold IsCommitted (g.content d1) (g.content d2) → RunsBeside g (bounds_of new) d2 d3 → RunsOneRoot g slot (Some body) disk d3
  drops_root new d3 size whole root committed run =
      joined_one g slot (Some body) disk d2 d3 low commit_root
      (one_went slot (Some body) low (g.content disk) (g.content d1) (g.content d2) (one_synced slot (Some body) (g.content disk) (g.content d1) (reads_fit disk) synced) (one_committed slot body (g.content d1) (g.content d2) low whole (reads_fit d1) size1 root committed))
      (beside_one g new slot (Some body) d2 d3 run) where
        size1 : WhereTold HasRootSize (g.content d1)
        size1 = told_where Synced HasRootSize HasRootSize (g.content disk) (g.content d1) (λ a b is told one was. ap (λ (f : File). length (bytes_of f)) (one.seen root_name) ∙ was) synced size

-- Files that are as long as a root says are so still.
module _ (root : Root) (k m : Content) (same : KeepsNamed root k m) (long : HasLengths root k) where
  kept_long : HasSizes root m
  kept_long = record {
    root_file = same.root_file;
    lengths = λ name apart.
        elim (true_or_false (names_file root name)) [
          | inl is ↦ subst (λ (f : File). named_end root name ≤ length (bytes_of f)) (sym (same.named name apart is)) (long name apart)
          | inr isnt ↦ let none = named_none root name isnt in omega (arith, none)
        ];
  }

pub kept_sizes : (root : Root) (k m : Option Content) → WhereTold (HasLengths root) k → BothTold (KeepsNamed root) k m → WhereTold (HasSizes root) m
kept_sizes root k m long same = told_where (KeepsNamed root) (HasLengths root) (HasSizes root) k m (λ a b is new_is kept_ was. kept_long root a b kept_ was) same long
