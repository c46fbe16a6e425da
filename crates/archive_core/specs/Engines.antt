-- An archive that owns its disk, as a keeper.
use Rattle.std.specs.Prelude.{◌≡◌, ◌⊎◌, ◌≤◌, ℕ, Bool, true, false, not, List, [], Option, Some, None, Result, Ok, Err, refl}
use Rattle.std.specs.List.{Contains}
use Rattle.std.proofs.Common.{◌∙◌, sym, ap, subst, inl, inr}
use native.Mathlib.Omega.{arith}
use Rattle.disk_model.specs.declared.disk.Disk.{Ghosts as Disk}
use Rattle.disk_model.specs.declared.name.FileName.{FileName}
use Rattle.disk_model.specs.Disk.{Files, Content, Image, BothTold, WhereTold, Unchanged}
use Rattle.disk_model.specs.Moments.{LeavesOnly, started, joined}
use Rattle.root_slots.specs.Between.{BetweenStays, between_image}
use Rattle.disk_model.specs.Synced.{IsSettled}
use Rattle.arch_model.specs.Archives.{Archive, live}
use Rattle.arch_model.specs.Delivery.{applied}
use Rattle.arch_model.specs.Keeping.{OnlyRead, Keeper, opening_answer}
use Rattle.arch_model.specs.declared.command.Command.{Command}
use Rattle.arch_model.specs.declared.opening.OpenRefusal.{OpenRefusal}
use Rattle.arch_model.specs.declared.answer.Answer.{Answer}
use Rattle.arch_model.specs.declared.answer.Answer.TheVariants as answer
use Rattle.epoch_store.specs.Opens.{RecoversOfWith, ReadsWith, IsOpenedIn}
use Rattle.epoch_store.specs.Promises.{OpensArchive}
use Rattle.epoch_store.specs.Settling.{IsSettledBy}
use Rattle.store_finding.specs.Files.{as_read}
use Rattle.store_finding.specs.Kept.{StoreState, IsStoreWith}
use Rattle.epoch_store.specs.Commands.{StoreHasSizes}
use Rattle.epoch_store.specs.Leaving.{disk_recovers}
use Rattle.archive_core.specs.Commands.{TakesCommand}
use Rattle.archive_core.specs.Openings.{LeavesKindly}
use Rattle.view_set.specs.Viewed.{Viewed, views_of}

-- A disk, what is kept in memory of its archive, the rows and words of its live messages, and whether
-- it has to be reopened.
pub record Owning (D : Type 0) : Type 0 where
  pub disk : D
  pub view : StoreState
  pub views : Viewed
  pub stale : Bool

-- While it needn't be reopened, the files that the archive names have their sizes.
abbrev pub SizesUnless : Bool → StoreState → Option Content → Type 0
SizesUnless stale view content = stale ≡ false → WhereTold (StoreHasSizes view) content

-- Whether an archive has to be reopened after this answer: the disk failed, or a file is damaged.
abbrev pub needs_opening : Answer → Bool
needs_opening answer.DiskFault = true
needs_opening (answer.Damaged file at) = true
needs_opening other = false

-- The archive that it holds: the disk is the archive's own, with whatever cache, the views are those of
-- the archive's live messages, and all that reads give is on the disk.
abbrev pub HoldsArchive : {D : Type 0} → (D → Option Content) → Owning D → Archive → Type 0
HoldsArchive content e a = (cache : List ℕ) × IsStoreWith e.view cache a (content e.disk)
    × (e.views ≡ views_of a.config.form (live a.entries)) × WhereTold IsSettled (content e.disk)

-- A disk has exactly the files of an archive, with whatever cache, by the current root, and all that
-- reads give is on the disk.
abbrev pub FilesAreOn : Archive → Option Content → Type 0
FilesAreOn a content = (v : StoreState) × (cache : List ℕ) × IsStoreWith v cache a content
    × WhereTold IsSettled content

-- The same, and the cache has these bytes, or there is none.
abbrev pub FilesAreWith : List ℕ → Archive → Option Content → Type 0
FilesAreWith cache a content = (v : StoreState) × (own : List ℕ) × ((own ≡ cache) ⊎ (own ≡ []))
    × IsStoreWith v own a content × WhereTold IsSettled content

-- Its disk has exactly the files of an archive. What is kept in memory doesn't count.
abbrev pub FilesAre : {D : Type 0} → (D → Option Content) → Owning D → Archive → Type 0
FilesAre content e a = FilesAreOn a (content e.disk)

-- The disk is the archive's own, with whatever cache.
abbrev pub Owns : {D : Type 0} → (D → Option Content) → Owning D → Archive → Type 0
Owns content e a = (cache : List ℕ) × IsStoreWith e.view cache a (content e.disk)

-- It is ready if it needn't be reopened.
abbrev pub is_ready : {D : Type 0} → Owning D → Bool
is_ready e = not e.stale

-- Files stand for one of these archives, with a cache of these bytes or with none, or for no archive if
-- that is one of these. A purge drops the cache.
abbrev pub RecoversOrBare : List ℕ → List (Option Archive) → Files → Type 0
RecoversOrBare cache may image = RecoversOfWith cache may image ⊎ RecoversOfWith [] may image

-- Each crash of a disk that tells its content leaves such files.
abbrev pub AllRecoverOrBare : List ℕ → List (Option Archive) → Option Content → Type 0
AllRecoverOrBare cache may None = ⊥
AllRecoverOrBare cache may (Some k) = (image : Files) → Image (Some k) image
    → RecoversOrBare cache may image

-- Each crash since the first disk has left a root file with the bytes between its gates and its bodies
-- of one that a crash of the first might have left.
abbrev pub BetweenSince : {D : Type 0} → Disk D → D → D → Type 0
BetweenSince g old new =
    (image : Files) → g.left_since new (g.moment old) image → BetweenStays (g.content old) image

-- Each crash of a disk since a moment has left files that stand for one of these archives, with a cache
-- of these bytes or with none.
abbrev pub LeftWithCache : {D : Type 0} → (D → ℕ → Files → Type 0) → D → ℕ → List ℕ
    → List (Option Archive) → Type 0
LeftWithCache left_since disk since cache may =
    (image : Files) → left_since disk since image → RecoversOrBare cache may image

-- The second state comes no earlier. Each crash at the first one left files that stand for one of these
-- archives, with one cache or with none; and each crash since then has left such files, with no other
-- cache. If the first needn't be reopened, the bytes between the gates and the bodies of the root file
-- stayed, too.
abbrev pub Leaves : {D : Type 0} → Disk D → Owning D → Owning D → List (Option Archive) → Type 0
Leaves g start e may = (g.moment start.disk ≤ g.moment e.disk)
    × ((cache : List ℕ) × LeftWithCache g.left_since start.disk (g.moment start.disk) cache may)
    × ((cache : List ℕ) → LeftWithCache g.left_since start.disk (g.moment start.disk) cache may
    → LeftWithCache g.left_since e.disk (g.moment start.disk) cache may)
    × (start.stale ≡ false → BetweenSince g start.disk e.disk)

-- The views keep up with a command that was answered so: they are those of the archive after it, unless
-- the engine has to be reopened after `Ok`. Out of memory they are those of the archive before it. After
-- a fault, or damage, nothing is said of them.
abbrev pub ViewsKeepUp : Answer → Bool → Viewed → Archive → Archive → Type 0
ViewsKeepUp (answer.Ok number id) ready views a b =
    ready ≡ true → views ≡ views_of b.config.form (live b.entries)
ViewsKeepUp answer.NoMemory ready views a b = views ≡ views_of a.config.form (live a.entries)
ViewsKeepUp answer.DiskFault ready views a b = Unit {0}
ViewsKeepUp (answer.Damaged file at) ready views a b = Unit {0}
ViewsKeepUp other ready views a b = views ≡ views_of b.config.form (live b.entries)

-- What holds after a refusal by the rules, or where memory ran out.
abbrev pub IfRefused : Answer → Type 0 → Type 0
IfRefused (answer.Ok number id) P = Unit {0}
IfRefused answer.DiskFault P = Unit {0}
IfRefused (answer.Damaged file at) P = Unit {0}
IfRefused other P = P

-- Only reads of the disk lead from one state to the other.
pub record OnlyReadsOn {D : Type 0} (g : Disk D) (old new : Owning D) : Type 0 where
  pub view_is : new.view ≡ old.view
  pub views_are : new.views ≡ old.views
  pub stale_is : new.stale ≡ old.stale
  pub files : BothTold Unchanged (g.content old.disk) (g.content new.disk)
  pub run : LeavesOnly g old.disk new.disk (Image (g.content old.disk))

-- The files of a disk were read, on the way from its first state to the second. At the first they read
-- as those of this archive, with whatever cache. What is kept is what they had, by the current root in its
-- slot; and the disk is settled by that root: no root was committed, all bytes that count are as they
-- were, and no other file is left. The second disk is the archive's own.
pub record FindsOn {D : Type 0} (g : Disk D) (old new : D) (v : StoreState) (a : Archive) : Type 0 where
  pub cache : List ℕ
  pub read : ReadsWith cache a (g.content old)
  pub opened : WhereTold (λ (k : Content). IsOpenedIn (as_read k) v) (g.content old)
  pub kept : BothTold (IsSettledBy v.root v.slot) (g.content old) (g.content new)
  pub own : IsStoreWith v cache a (g.content new)

-- The same of the disk of an engine that was reopened.
abbrev pub FindsArchive : {D : Type 0} → Disk D → Owning D → Owning D → Archive → Type 0
FindsArchive g old new a = FindsOn g old.disk new.disk new.view a

-- A ready engine took a command: all that an archive on a disk promises of one.
abbrev pub TakesOn : {D : Type 0} → Disk D → Owning D → Owning D → Command → ℕ → Answer → Type 0
TakesOn g old new command moment reply = TakesCommand g old.disk new.disk old.view new.view command
    (λ (a : Archive). applied a command moment) reply

-- A disk and its archive, as a keeper.
abbrev pub engine_of : {D : Type 0} → Disk D → Keeper (Owning D)
engine_of g = record {
  holds = HoldsArchive g.content;
  ready = is_ready;
  reads = λ e. g.reads e.disk;
  faults = λ e. g.faults e.disk;
  alike = OnlyReadsOn g;
  files_are = FilesAre g.content;
  leaves = Leaves g;
  finds = FindsArchive g;
  takes = TakesOn g;
}

-- An engine was opened anew, up to a state between, as an archive is opened on a disk, and from there it
-- took a command.
pub record TakesOpened {D : Type 0} (g : Disk D) (old new : Owning D) (command : Command) (moment : ℕ)
    (reply : Answer) : Type 0 where
  pub middle : Owning D
  pub opened : OpensArchive g old.disk middle.disk (Ok middle.view)
  pub takes : TakesOn g middle new command moment reply

-- An engine wasn't opened anew, for the reason that the answer to a command tells.
pub record RefusesAnew {D : Type 0} (g : Disk D) (old new : Owning D) (reply : Answer) : Type 0 where
  pub why : OpenRefusal
  pub answer_is : reply ≡ opening_answer why
  pub opened : OpensArchive g old.disk new.disk (Err why)
  pub kindly : LeavesKindly why (g.content old.disk) (g.content new.disk)

-- What an engine that had to be reopened did with a command.
abbrev pub TakesAnew : {D : Type 0} → Disk D → Owning D → Owning D → Command → ℕ → Answer → Type 0
TakesAnew g old new command moment reply = TakesOpened g old new command moment reply
    ⊎ RefusesAnew g old new reply

-- What an engine keeps once it was reopened, or why it wasn't.
abbrev pub view_fresh : {D : Type 0} → Result Unit OpenRefusal → Owning D
    → Result StoreState OpenRefusal
view_fresh (Ok x) e = Ok e.view
view_fresh (Err why) e = Err why

-- Laws of such a keeper.

-- A disk that changed no file holds the same.
pub unchanged-is : (old new : Option Content) → BothTold Unchanged old new → new ≡ old
unchanged-is None None told = refl
unchanged-is None (Some m) told = absurd told
unchanged-is (Some k) None told = absurd told
unchanged-is (Some k) (Some m) told = λ i. Some (λ (name : FileName). told name i)

-- What a disk tells is unchanged from what it tells.
pub told-same : (k : Option Content) → BothTold Unchanged k k
told-same None = tt
told-same (Some k) = λ name. refl

-- Files of a store's own disk stand for the archive.
pub store-recovers : (v : StoreState) (cache : List ℕ) (a : Archive) (k : Option Content)
    (may : List (Option Archive)) (image : Files) → IsStoreWith v cache a k → Contains may (Some a)
    → Image k image → RecoversOfWith cache may image
store-recovers v cache a None may image store has left = absurd store
store-recovers v cache a (Some k) may image store has left =
    (Some a, has, disk_recovers v cache a k image store left)

module _ {D : Type 0} (g : Disk D)
    (counts_now : (disk : D) (t : ℕ) (image : Files) → t ≤ g.moment disk
    → Image (g.content disk) image
    → g.left_since disk t image)
    (only_now : (disk : D) (image : Files) → g.left_since disk (g.moment disk) image
    → Image (g.content disk) image) where
  -- No read at all leads from a state to itself.
  pub reading-same : (e : Owning D) → OnlyReadsOn g e e
  reading-same e = record {
    view_is = refl;
    views_are = refl;
    stale_is = refl;
    files = told-same (g.content e.disk);
    run = started g e.disk (Image (g.content e.disk)) (λ image left. only_now e.disk image left);
  }

  -- Reads after reads are reads.
  pub reading-joined : (d e f : Owning D) → OnlyReadsOn g d e
      → OnlyReadsOn g e f → OnlyReadsOn g d f
  reading-joined d e f first second =
      let one = unchanged-is (g.content d.disk) (g.content e.disk) first.files in
      let two = unchanged-is (g.content e.disk) (g.content f.disk) second.files in
      record {
        view_is = second.view_is ∙ first.view_is;
        views_are = second.views_are ∙ first.views_are;
        stale_is = second.stale_is ∙ first.stale_is;
        files = subst (λ (k : Option Content). BothTold Unchanged (g.content d.disk) k)
            (sym (two ∙ one))
            (told-same (g.content d.disk));
        run = joined g d.disk e.disk f.disk (Image (g.content d.disk))
            (Image (g.content e.disk)) (Image (g.content d.disk)) first.run second.run
            (λ image left. left)
            (λ image left. subst (λ (k : Option Content). Image k image) one left);
      }

  -- A crash of a disk that is an archive's own leaves the archive.
  pub store-left : (e : Owning D) (a : Archive) (may : List (Option Archive)) → Owns g.content e a
      → Contains may (Some a) → Leaves g e e may
  store-left e a may store has = (
    omega arith,
    (
      store.0,
      λ image left. inl (store-recovers e.view store.0 a (g.content e.disk) may image store.1 has
          (only_now e.disk image left)),
    ),
    λ cache all. all,
    λ ready image left. between_image (g.content e.disk) image (only_now e.disk image left),
  )

  -- The files of one that holds an archive are the archive's.
  pub holds-rest : (e : Owning D) (a : Archive) → HoldsArchive g.content e a
      → FilesAre g.content e a
  holds-rest e a store = (e.view, store.0, store.1, store.3)

  -- What each crash since a state may have left, a crash now may leave.
  pub now-left : (start e : Owning D) (may : List (Option Archive))
      → Leaves g start e may → Leaves g e e may
  now-left start e may left = (
    omega arith,
    (
      left.1.0,
      λ image now. left.2 left.1.0 left.1.1 image
          (counts_now e.disk (g.moment start.disk) image left.0 (only_now e.disk image now)),
    ),
    λ cache all. all,
    λ ready image now. between_image (g.content e.disk) image (only_now e.disk image now),
  )

  -- Reads leave the archive that is held, the files, the readiness and what a crash may leave.
  pub reading-kept : (d e : Owning D) → OnlyReadsOn g d e → OnlyRead (engine_of g) d e
  reading-kept d e read =
      let same = unchanged-is (g.content d.disk) (g.content e.disk) read.files in
      record {
        held = λ a store. (
          store.0,
          subst (λ (v : StoreState). IsStoreWith v store.0 a (g.content e.disk)) (sym read.view_is)
              (subst (λ (k : Option Content). IsStoreWith d.view store.0 a k) (sym same) store.1),
          read.views_are ∙ store.2,
          subst (λ (k : Option Content). WhereTold IsSettled k) (sym same) store.3,
        );
        back = λ a store. (
          store.0,
          subst (λ (k : Option Content). IsStoreWith d.view store.0 a k) same
              (subst (λ (v : StoreState). IsStoreWith v store.0 a (g.content e.disk)) read.view_is store.1),
          sym read.views_are ∙ store.2,
          subst (λ (k : Option Content). WhereTold IsSettled k) same store.3,
        );
        rested = λ a own. subst (λ (k : Option Content). FilesAreOn a k) (sym same) own;
        same = ap not read.stale_is;
        passes = λ start may has left. (
          omega (arith, left.0, read.run.later),
          left.1,
          λ cache all image since. elim (read.run.before (g.moment start.disk) image left.0 since) [
            | inl past
                ↦ left.2 cache all image past
            | inr now
                ↦ left.2 cache all image (counts_now d.disk (g.moment start.disk) image left.0 now)
          ],
          λ ready image since. elim (read.run.before (g.moment start.disk) image left.0 since) [
            | inl past
                ↦ left.3 ready image past
            | inr now
                ↦ left.3 ready image (counts_now d.disk (g.moment start.disk) image left.0 now)
          ],
        );
      }
