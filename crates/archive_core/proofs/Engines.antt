-- What the calls of an archive that owns its disk do, by the calls below it.
use Rattle.std.specs.Prelude.{◌≡◌, ◌⊎◌, ◌||◌, ◌+◌, ◌-◌, ◌≤◌, ◌<◌, ◌^◌, ℕ, zero, suc, Bool, true, false, not, List, [], ◌∷◌, length, get_or, Option, Some, None, Result, Ok, Err, refl}
use Rattle.std.specs.List.{Contains}
use Rattle.std.proofs.Common.{◌∙◌, sym, ap, subst, inl, inr, arith}
use Rattle.std.proofs.lemmas.Bool.{false≢true}
use Rattle.arch_base.specs.Counts.{RoseIf}
use Rattle.arch_base.specs.declared.ids.Form.{Form}
use Rattle.arch_base.specs.declared.ids.ObjectId.{ObjectId}
use Rattle.disk_model.specs.declared.disk.Disk.{Ghosts as Disk}
use Rattle.disk_model.specs.declared.name.FileName.{FileName}
use Rattle.disk_model.specs.Disk.{Files, Content, Image, BothTold, WhereTold, Unchanged, ReadsFit}
use Rattle.disk_model.specs.Moments.{LeavesOnly, started, joined, weaker}
use Rattle.root_slots.specs.Between.{BetweenStays, RunsBetween, between_image}
use Rattle.root_slots.proofs.OneRoots.{looks_one}
use Rattle.disk_model.specs.Synced.{IsSettled}
use Rattle.arch_model.specs.Archives.{Archive, live}
use Rattle.view_set.specs.Viewed.{views_of}
use Rattle.arch_model.specs.Delivery.{Done, applied}
use Rattle.arch_model.specs.Keeping.{Has, CrashesLeaveOnly, MatchesKnown, KeeperMoves, Settles, ReopeningRefused, CommandGives, CommandTaken, Ending, Accepts, Refuses, Starves, Fails, Breaks, ReadyBy, ReadsFor, StaysReady, AnswerCause, OpeningWhy, ending, opening_answer, root_file}
use Rattle.arch_model.specs.Shelves.{ShelfStays, ReadCause, ReadsOnce}
use Rattle.arch_model.specs.Standing.{LastKnown, standing, unsure, with_doubt, one_of, IsFound}
use Rattle.arch_model.specs.declared.answer.Answer.{Answer}
use Rattle.arch_model.specs.declared.answer.Answer.TheVariants as answer
use Rattle.arch_model.specs.declared.command.Command.{Command}
use Rattle.arch_model.specs.declared.command.Command.TheVariants.{Deliver, Remove, Purge, Edit}
use Rattle.arch_model.specs.declared.opening.OpenRefusal.{OpenRefusal}
use Rattle.arch_model.specs.declared.opening.OpenRefusal.TheVariants as refusal
use Rattle.arch_model.specs.declared.text_refusal.TextRefusal.{TextRefusal}
use Rattle.arch_model.specs.declared.text_refusal.TextRefusal.TheVariants as reading
use Rattle.arch_model.proofs.Keepers.{has-own, has-unsure-of, unsure-doubts, moves-stale, moves-on, comes-by, unopened-comes, unopened-finds, finds-first, taken-by, unopened-ready, unopened-cause}
use Rattle.store_finding.specs.Files.{as_read}
use Rattle.epoch_store.specs.Laws.{CachesOne, RecoversSomeOne}
use Rattle.epoch_store.specs.Leaving.{disk_recovers}
use Rattle.epoch_store.specs.Opens.{RecoversOfWith, AllRecoverWith, ReadsWith, IsOpenedIn, IsWant, SyncsAtMost}
use Rattle.epoch_store.specs.Promises.{OpensArchive}
use Rattle.epoch_store.specs.Settling.{IsSettledBy}
use Rattle.epoch_store.specs.Reads.{AnswersQuietly}
use Rattle.store_finding.specs.Recovery.{RecoversWith, RecoversSomeWith}
use Rattle.store_finding.specs.Kept.{StoreState, KeepsArchive, IsStoreWith}
use Rattle.epoch_store.specs.Commands.{RecoversOneOf, StoreHasSizes}
use Rattle.archive_core.specs.Commands.{AnswersDelivery, AnswersEdit, AnswersPurge, AnswersRemoval, DoneBy, OnDone, OnRefusal, UnlessFault, IfUnread, IfUnreadEdit, IfUnreadFor, IfDelivery, IfRemoval, IsForCommand, IsGone, KeepsTextFor, OnlyLooks, cache_left, is_delivery}
use Rattle.archive_core.specs.Engines.{Owning, TakesOn, told-same, needs_opening, RecoversOrBare, AllRecoverOrBare, BetweenSince, HoldsArchive, FilesAre, FindsArchive, LeftWithCache, ViewsKeepUp, IfRefused, is_ready, Leaves, OnlyReadsOn, reading-same, store-left, holds-rest, now-left, unchanged-is, reading-kept, engine_of}
use Rattle.archive_core.specs.Numbers.{GivesBlobKept, TellsOther}
use Rattle.archive_core.specs.Openings.{LeavesKindly, RefusesKindly}
use Rattle.archive_core.specs.Walks.{ViewsAfter}
use Rattle.archive_core.proofs.KeepingUp.{done-views}
use Rattle.archive_core.proofs.RootBytes.{crash_between-over}
use Rattle.archive_core.proofs.Openings.{kindly_rests}
use Rattle.archive_core.proofs.Standing.{store_keeps}

-- What holds holds of a removal.
pub of-removal : (delivers : Bool) (P : Type 0) → P → IfRemoval delivers P
of-removal true P holds = tt
of-removal false P holds = holds

-- One of the archives that may be there is the archive, or the one in doubt.
is_either : (x : Archive) (d : Option Archive) (may : Option Archive) (i : ℕ) → i < length (with_doubt x d) → get_or (with_doubt x d) i may ≡ may → (b : Archive) × (may ≡ Some b) × ((b ≡ x) ⊎ (d ≡ Some b))
is_either x None may zero below is = (x, sym is, inl refl)
is_either x None may (suc i) below is = absurd (omega (arith, below))
is_either x (Some y) may zero below is = (x, sym is, inl refl)
is_either x (Some y) may (suc zero) below is = (y, sym is, inr refl)
is_either x (Some y) may (suc (suc i)) below is = absurd (omega (arith, below))

-- Files that stand for one of them stand for the archive or for the one in doubt.
pub recovers_either : (s : LastKnown) (cache : List ℕ) (image : Files) → RecoversOfWith cache (one_of s) image → (b : Archive) × IsFound s b × RecoversSomeWith cache image (Some b)
recovers_either s cache image recovers =
    let found = is_either s.archive s.in_doubt recovers.0 recovers.1.0 recovers.1.1 recovers.1.2 in
    (found.0, found.2, subst (λ (o : Option Archive). RecoversSomeWith cache image o) found.1 recovers.2)

-- If each image stands for one of these archives, the disk tells its content; otherwise any files
-- could be there, none included.
pub all_recover : (s : LastKnown) (cache : List ℕ) (k : Option Content) → ((image : Files) → Image k image → RecoversOfWith cache (one_of s) image) → AllRecoverWith cache (one_of s) k
all_recover s cache None each = let none : Files = λ name. None in absurd ((recovers_either s cache none (each none tt)).2.1.stands.current)
all_recover s cache (Some k) each = each

-- The same, where an image may have no cache.
bare_either : (s : LastKnown) (cache : List ℕ) (image : Files) → RecoversOrBare cache (one_of s) image → (b : Archive) × (c : List ℕ) × IsFound s b × RecoversSomeWith c image (Some b)
bare_either s cache image (inl one) = let found = recovers_either s cache image one in (found.0, cache, found.1, found.2)
bare_either s cache image (inr bare) = let found = recovers_either s [] image bare in (found.0, [], found.1, found.2)

pub all_or_bare : (s : LastKnown) (cache : List ℕ) (k : Option Content) → ((image : Files) → Image k image → RecoversOrBare cache (one_of s) image) → AllRecoverOrBare cache (one_of s) k
all_or_bare s cache None each = let none : Files = λ name. None in absurd ((bare_either s cache none (each none tt)).3.1.stands.current)
all_or_bare s cache (Some k) each = each

-- So the disk reads as the archive or as the one in doubt.
pub reads_one : (s : LastKnown) (cache : List ℕ) (k : Option Content) → ReadsFit k → AllRecoverWith cache (one_of s) k → (b : Archive) × IsFound s b × ReadsWith cache b k
reads_one s cache None fit all = absurd all
reads_one s cache (Some k) fit all = recovers_either s cache (as_read k) (all (as_read k) (λ name. fit k refl name))

reads_bare : (s : LastKnown) (cache : List ℕ) (k : Option Content) → ReadsFit k → AllRecoverOrBare cache (one_of s) k → (b : Archive) × (c : List ℕ) × IsFound s b × ReadsWith c b k
reads_bare s cache None fit all = absurd all
reads_bare s cache (Some k) fit all = bare_either s cache (as_read k) (all (as_read k) (λ name. fit k refl name))

-- The archive as which the disk reads is among those that its images stand for, with their cache or
-- with none.
pub read_in : RecoversSomeOne → (k : Option Content) (b : Archive) (own cache : List ℕ) (may : List (Option Archive)) → ReadsFit k → ReadsWith own b k → ((image : Files) → Image k image → RecoversOrBare cache may image)
    → (c : List ℕ) × ReadsWith c b k × ((image : Files) → RecoversWith c image b → RecoversOrBare cache may image)
read_in one None b own cache may fit reads each = absurd reads
read_in one (Some k) b own cache may fit reads each = by (each (as_read k) (λ name. fit k refl name)) where
  by : RecoversOrBare cache may (as_read k) → (c : List ℕ) × RecoversWith c (as_read k) b × ((image : Files) → RecoversWith c image b → RecoversOrBare cache may image)
  by (inl there) =
      let same : there.0 ≡ Some b = one (as_read k) there.0 (Some b) cache own there.2 reads in
      (cache, subst (λ (o : Option Archive). RecoversSomeWith cache (as_read k) o) same there.2, λ image stands. inl (Some b, subst (λ (o : Option Archive). Contains may o) same there.1, stands))
  by (inr there) =
      let same : there.0 ≡ Some b = one (as_read k) there.0 (Some b) [] own there.2 reads in
      ([], subst (λ (o : Option Archive). RecoversSomeWith [] (as_read k) o) same there.2, λ image stands. inr (Some b, subst (λ (o : Option Archive). Contains may o) same there.1, stands))

-- What follows where no text is read follows so for each command.
unread-edit : (reply : Answer) (P Q : Type 0) → (IfUnread reply P → IfUnread reply Q) → IfUnreadEdit reply P → IfUnreadEdit reply Q
unread-edit (answer.Duplicate number) P Q more is = tt
unread-edit other P Q more is = more is

unread-for : (command : Command) (reply : Answer) (P Q : Type 0) → (IfUnread reply P → IfUnread reply Q) → IfUnreadFor command reply P → IfUnreadFor command reply Q
unread-for (Deliver bytes) reply P Q more is = more is
unread-for (Remove number) reply P Q more is = more is
unread-for (Purge number) reply P Q more is = more is
unread-for (Edit number bytes) reply P Q more is = unread-edit reply P Q more is

-- A flag.
pub not_true : (b : Bool) → not b ≡ true → b ≡ false
not_true true e = absurd (false≢true e)
not_true false e = refl

pub never_ready : (b : Bool) → (b ≡ true → false ≡ true) → b ≡ false
never_ready true e = absurd (false≢true (e refl))
never_ready false e = refl

-- A store's own disk leaves its archive.
pub stands_for : (v : StoreState) (cache : List ℕ) (a : Archive) (k : Option Content) (image : Files) → IsStoreWith v cache a k → Image k image → RecoversWith cache image a
stands_for v cache a None image store left = absurd store
stands_for v cache a (Some k) image store left = disk_recovers v cache a k image store left

-- Files that stand for one of these archives do so with that cache, or with none.
pub with_cache : (own cache : List ℕ) (may : List (Option Archive)) (b : Archive) (image : Files) → (own ≡ cache) ⊎ (own ≡ []) → Contains may (Some b) → RecoversWith own image b → RecoversOrBare cache may image
with_cache own cache may b image (inl same) has recovers = inl (Some b, has, subst (λ (c : List ℕ). RecoversWith c image b) same recovers)
with_cache own cache may b image (inr none) has recovers = inr (Some b, has, subst (λ (c : List ℕ). RecoversWith c image b) none recovers)

pub left_is : (own left cache : List ℕ) → (own ≡ cache) ⊎ (own ≡ []) → (left ≡ own) ⊎ (left ≡ []) → (left ≡ cache) ⊎ (left ≡ [])
left_is own left cache (inl same) (inl kept) = inl (kept ∙ same)
left_is own left cache (inr none) (inl kept) = inr (kept ∙ none)
left_is own left cache was (inr gone) = inr gone

-- The archive `b` is among the archives of two standings.
pub either_of : (own left cache : List ℕ) (may : List (Option Archive)) (a b : Archive) (image : Files) → (own ≡ cache) ⊎ (own ≡ []) → (left ≡ own) ⊎ (left ≡ []) → Contains may (Some a) → Contains may (Some b) → RecoversOneOf own a left b image → RecoversOrBare cache may image
either_of own left cache may a b image is kept has_a has_b (inl before) = with_cache own cache may a image is has_a before
either_of own left cache may a b image is kept has_a has_b (inr after) = with_cache left cache may b image (left_is own left cache is kept) has_b after

-- Files of a store's own disk stand for archives with its cache alone.
pub cache_is : CachesOne → (v : StoreState) (own : List ℕ) (a : Archive) (k : Option Content) → ReadsFit k → IsStoreWith v own a k → (cache : List ℕ) (may : List (Option Archive)) → ((image : Files) → Image k image → RecoversOrBare cache may image) → (own ≡ cache) ⊎ (own ≡ [])
cache_is caches v own a None fit store cache may each = absurd store
cache_is caches v own a (Some k) fit store cache may each = by (each (as_read k) (λ name. fit k refl name)) where
  stand : RecoversWith own (as_read k) a
  stand = disk_recovers v own a k (as_read k) store (λ name. fit k refl name)

  by : RecoversOrBare cache may (as_read k) → (own ≡ cache) ⊎ (own ≡ [])
  by (inl one) = inl (caches (as_read k) a one.0 own cache stand one.2)
  by (inr bare) = inr (caches (as_read k) a bare.0 own [] stand bare.2)

-- The cache after a command is the one before it, or none.
pub kept-or-none : (command : Command) (cache : List ℕ) → (cache_left command cache ≡ cache) ⊎ (cache_left command cache ≡ [])
kept-or-none (Deliver bytes) cache = inl refl
kept-or-none (Remove number) cache = inl refl
kept-or-none (Purge number) cache = inr refl
kept-or-none (Edit number bytes) cache = inr refl

-- The causes of refusals.
pub opening-why : {T : Type 0} (before now : ℕ) (why : OpenRefusal) (r : Result T OpenRefusal) → r ≡ Err why → RoseIf (r ≡ Err refusal.DiskFault) before now → OpeningWhy before now why
opening-why before now refusal.DiskFault r is rose = rose.failed is
opening-why before now refusal.NoMemory r is rose = rose.kept (λ fault. absurd (cc (sym is ∙ fault)))
opening-why before now refusal.NoArchive r is rose = rose.kept (λ fault. absurd (cc (sym is ∙ fault)))
opening-why before now (refusal.Damaged file at) r is rose = rose.kept (λ fault. absurd (cc (sym is ∙ fault)))

pub read-cause : {T : Type 0} (before now : ℕ) (r : Result T TextRefusal) → RoseIf (r ≡ Err reading.DiskFault) before now → TellsOther r → ReadCause before now r
read-cause before now (Ok x) rose other = rose.kept (λ fault. absurd (cc fault))
read-cause before now (Err reading.DiskFault) rose other = rose.failed refl
read-cause before now (Err (reading.Damaged named found)) rose other = (other, rose.kept (λ fault. absurd (cc fault)))
read-cause before now (Err reading.NoMemory) rose other = rose.kept (λ fault. absurd (cc fault))

pub quiet-other : {T : Type 0} (r : Result T TextRefusal) → AnswersQuietly r → TellsOther r
quiet-other (Ok x) quiet = tt
quiet-other (Err reading.DiskFault) quiet = tt
quiet-other (Err (reading.Damaged named found)) quiet = absurd quiet
quiet-other (Err reading.NoMemory) quiet = tt

pub answer-cause : (before now : ℕ) (reply : Answer) → RoseIf (reply ≡ answer.DiskFault) before now → AnswerCause before now reply
answer-cause before now answer.DiskFault rose = rose.failed refl
answer-cause before now other rose = rose.kept (λ fault. absurd (cc fault))

-- What a command leaves of a ready keeper is what one leaves of any that was reopened first.
pub ready-after : (was : Bool) (now : Bool) (e : Ending) → ReadyBy true now e → ReadyBy was now e
ready-after was now Accepts ready = tt
ready-after was now Refuses ready = ready
ready-after was now Starves ready = λ at_hand. ready refl
ready-after was now Fails ready = ready
ready-after was now Breaks ready = ready

module _ {D : Type 0} (g : Disk D)
    (counts_now : (disk : D) (t : ℕ) (image : Files) → t ≤ g.moment disk → Image (g.content disk) image → g.left_since disk t image)
    (only_now : (disk : D) (image : Files) → g.left_since disk (g.moment disk) image → Image (g.content disk) image)
    (reads_fit : (disk : D) → ReadsFit (g.content disk)) where
  -- It stands so, and it moves so.
  abbrev pub Stands : Owning D → LastKnown → Type 0
  Stands = MatchesKnown (engine_of g)

  abbrev pub Going : Owning D → LastKnown → Owning D → LastKnown → Type 0
  Going = KeeperMoves (engine_of g)

  -- The files of one that holds an archive are the archive's.
  at-rest : (e : Owning D) (a : Archive) → HoldsArchive g.content e a → FilesAre g.content e a
  at-rest = holds-rest g counts_now only_now

  -- What a crash leaves after a run it leaves now.
  left_after : (old new : D) (P : Files → Type 0) → LeavesOnly g old new P → (image : Files) → g.left_since new (g.moment new) image → P image
  left_after old new P run image left = run.each image (counts_now new (g.moment old) image run.later (only_now new image left))

  -- Each crash of an archive that stands so leaves one of the archives that are there.
  fits_all : (e : Owning D) (s : LastKnown) → Stands e s → (cache : List ℕ) × AllRecoverOrBare cache (one_of s) (g.content e.disk)
  fits_all e s fits =
      let left = fits.left (one_of s) (has-own s) in
      (left.1.0, all_or_bare s left.1.0 (g.content e.disk) (λ image now. left.1.1 image (counts_now e.disk (g.moment e.disk) image (omega arith) now)))

  -- The archive as which the disk of one reads.
  found_in : (e : Owning D) (s : LastKnown) → Stands e s → (b : Archive) × (c : List ℕ) × IsFound s b × ReadsWith c b (g.content e.disk)
  found_in e s fits = let all = fits_all e s fits in reads_bare s all.0 (g.content e.disk) (reads_fit e.disk) all.1

  -- What reopening leaves at each moment.
  abbrev pub Reopening : Owning D → D → Type 0
  Reopening e disk = SyncsAtMost g e.disk disk × RunsBetween g e.disk disk

  -- The bytes between gates and bodies that a crash of a state might have left, one of an earlier state might have left.
  crash_between-earlier : (start e : Owning D) → g.moment start.disk ≤ g.moment e.disk → BetweenSince g start.disk e.disk → (image : Files) → BetweenStays (g.content e.disk) image → BetweenStays (g.content start.disk) image
  crash_between-earlier start e later since = crash_between-over (g.content start.disk) (g.content e.disk) (reads_fit e.disk) (λ image now. since image (counts_now e.disk (g.moment start.disk) image later now))

  -- They stay in a run that keeps them.
  crash_between-on : (start e : Owning D) (disk : D) → g.moment start.disk ≤ g.moment e.disk → BetweenSince g start.disk e.disk → RunsBetween g e.disk disk → BetweenSince g start.disk disk
  crash_between-on start e disk later since run image left = elim (run.before (g.moment start.disk) image later left) [
    | inl past
        ↦ since image past
    | inr stays ↦ crash_between-earlier start e later since image stays
  ]

  -- That is what it might have left before, or the archive as which the disk reads.
  reopened : (e : Owning D) (disk : D) (b : Archive) (cache : List ℕ) → ReadsWith cache b (g.content e.disk) → SyncsAtMost g e.disk disk → LeavesOnly g e.disk disk (λ (image : Files). Image (g.content e.disk) image ⊎ RecoversWith cache image b)
  reopened e disk b cache reads (inl only) = weaker g e.disk disk (Image (g.content e.disk)) (λ (image : Files). Image (g.content e.disk) image ⊎ RecoversWith cache image b) only (λ image now. inl now)
  reopened e disk b cache reads (inr first) =
      joined g e.disk first.synced disk (Image (g.content e.disk)) (λ (image : Files). RecoversWith cache image b) (λ (image : Files). Image (g.content e.disk) image ⊎ RecoversWith cache image b) first.before (first.after b cache reads)
      (λ image now. inl now) (λ image stands. inr stands)

  -- It leaves nothing that could not have been left before.
  pub reopening-from : RecoversSomeOne → (e new : Owning D) → Reopening e new.disk → (b : Archive) (own : List ℕ) → ReadsWith own b (g.content e.disk) → (start : Owning D) (may : List (Option Archive)) → Leaves g start e may → Leaves g start new may
  reopening-from one e new run b own reads start may left =
      let first = reopened e new.disk b own reads run.0 in (
        omega (arith, left.0, first.later),
        left.1,
        λ c all.
            let before : (image : Files) → Image (g.content e.disk) image → RecoversOrBare c may image = λ image now. left.2 c all image (counts_now e.disk (g.moment start.disk) image left.0 now) in
            let there = read_in one (g.content e.disk) b own c may (reads_fit e.disk) reads before in
            let ran = reopened e new.disk b there.0 there.1 run.0 in
            λ image since. elim (ran.before (g.moment start.disk) image left.0 since) [
              | inl past
                  ↦ left.2 c all image past
              | inr either ↦
                  elim either [
                    | inl now
                        ↦ before image now
                    | inr stands ↦ there.2 image stands
                  ]
            ],
        λ ready. crash_between-on start e new.disk left.0 (left.3 ready) run.1,
      )

  pub reopening-passes : RecoversSomeOne → (e new : Owning D) → Reopening e new.disk → (s : LastKnown) → Stands e s → CrashesLeaveOnly (Leaves g) e new []
  reopening-passes one e new run s fits = λ start may has left. let found = found_in e s fits in reopening-from one e new run found.0 found.1 found.3 start may left

  -- What was opened is what the files had, and the disk is settled by the root that was found.
  abbrev pub OpenedBy : Owning D → Owning D → Type 0
  OpenedBy e new = WhereTold (λ (k : Content). IsOpenedIn (as_read k) new.view) (g.content e.disk) × BothTold (IsSettledBy new.view.root new.view.slot) (g.content e.disk) (g.content new.disk)

  -- A reopening found the archive or the one in doubt: the one as which the files read.
  abbrev pub Found : Owning D → LastKnown → Owning D → Type 0
  Found e s new = (t : LastKnown) × Going e s new t × Settles s t × FindsArchive g e new t.archive

  pub opened-at : RecoversSomeOne → (e new : Owning D) → Reopening e new.disk → ((a : Archive) (cache : List ℕ) → ReadsWith cache a (g.content e.disk) → IsStoreWith new.view cache a (g.content new.disk) × (new.views ≡ views_of a.config.form (live a.entries))) → WhereTold IsSettled (g.content new.disk) → OpenedBy e new → (s : LastKnown) → Stands e s → Found e s new
  opened-at one e new run opened still by s fits =
      let found = found_in e s fits in
      let both = opened found.0 found.1 found.3 in
      let store : HoldsArchive g.content new found.0 = (found.1, both.0, both.1, still) in (
        standing found.0 None,
        record {
          fits = record { settled = λ ready. (store, refl); exact = λ none. at-rest new found.0 store; left = λ may has. store-left g counts_now only_now new found.0 may (store.0, store.1) has.archive };
          passes = λ start may has left. reopening-passes one e new run s fits start may tt left;
        },
        record { found = found.2; sure = refl },
        record { cache = found.1; read = found.3; opened = by.0; kept = by.1; own = both.0 },
      )

  -- A reopening was refused, and all stands as before, but that after a fault of the disk the archive is
  -- in doubt.
  pub unopened-at : RecoversSomeOne → (e new : Owning D) (why : OpenRefusal) → Reopening e new.disk → ((a : Archive) (cache : List ℕ) → ReadsWith cache a (g.content e.disk) → IsWant why) → LeavesKindly why (g.content e.disk) (g.content new.disk) → is_ready new ≡ false → (s : LastKnown) → Stands e s
      → (t : LastKnown) × Going e s new t × ReopeningRefused s why t × Unit {0}
  unopened-at one e new why run well kindly unready s fits = let found = found_in e s fits in of_why why (well found.0 found.1 found.3) kindly
    where
      stays : (t : LastKnown) → (t.in_doubt ≡ None → FilesAre g.content new t.archive) → ((may : List (Option Archive)) → Has may t → Has may s) → Going e s new t
      stays t rested within = moves-stale (engine_of g) (now-left g counts_now only_now) e s new t fits unready rested within (λ start may has left. reopening-passes one e new run s fits start may tt left)

      of_why : (w : OpenRefusal) → IsWant w → LeavesKindly w (g.content e.disk) (g.content new.disk) → (t : LastKnown) × Going e s new t × ReopeningRefused s w t × Unit {0}
      of_why refusal.NoArchive want left = absurd want
      of_why (refusal.Damaged file at) want left = absurd want
      of_why refusal.DiskFault want left = (unsure s, stays (unsure s) (λ none. absurd (unsure-doubts s none)) (λ may has. has-unsure-of may s has), refl, tt)
      of_why refusal.NoMemory want left = (s, stays s (λ none. kindly_rests s.archive (g.content e.disk) (g.content new.disk) (reads_fit e.disk) left (fits.exact none)) (λ may has. has), refl, tt)

  -- Nothing was reopened, since it was ready.
  pub ready-at : (e : Owning D) (s : LastKnown) → is_ready e ≡ true → Stands e s → (t : LastKnown) × Going e s e t × Settles s t × (is_ready e ≡ false → FindsArchive g e e t.archive)
  ready-at e s ready fits =
      let both = fits.settled ready in (
        standing s.archive None,
        record {
          fits = record { settled = λ at_hand. (both.0, refl); exact = λ none. at-rest e s.archive both.0; left = λ may has. store-left g counts_now only_now e s.archive may (both.0.0, both.0.1) has.archive };
          passes = λ start may has left. left;
        },
        record { found = inl refl; sure = refl },
        λ stale. absurd (false≢true (sym stale ∙ ready)),
      )

  -- A command on the archive that is held.
  module _ (caches : CachesOne) (e new : Owning D) (a : Archive) (cache left_cache : List ℕ) (kept : (left_cache ≡ cache) ⊎ (left_cache ≡ [])) (store : IsStoreWith e.view cache a (g.content e.disk)) (settled : WhereTold IsSettled (g.content e.disk)) (wanted : Archive → Done) (run : LeavesOnly g e.disk new.disk (RecoversOneOf cache a left_cache (wanted a).archive))
      (crash_beside : RunsBetween g e.disk new.disk) where
    -- The cache of what a crash before may have left is the same, or there is none.
    one-cache : (start : Owning D) (may : List (Option Archive)) (c : List ℕ) → Leaves g start e may → LeftWithCache g.left_since start.disk (g.moment start.disk) c may → (cache ≡ c) ⊎ (cache ≡ [])
    one-cache start may c left all = cache_is caches e.view cache a (g.content e.disk) (reads_fit e.disk) store c may (λ image now. left.2 c all image (counts_now e.disk (g.moment start.disk) image left.0 now))

    -- What a crash in it leaves.
    taken-passes : (start : Owning D) (may : List (Option Archive)) → Contains may (Some a) → Contains may (Some (wanted a).archive) → Leaves g start e may → Leaves g start new may
    taken-passes start may has_a has_b left = (
      omega (arith, left.0, run.later),
      left.1,
      λ c all image since. elim (run.before (g.moment start.disk) image left.0 since) [
        | inl past
            ↦ left.2 c all image past
        | inr either ↦ either_of cache left_cache c may a (wanted a).archive image (one-cache start may c left all) kept has_a has_b either
      ],
      λ ready. crash_between-on start e new.disk left.0 (left.3 ready) crash_beside,
    )

    -- After nothing but reads all that they give is still on the disk.
    still-settled : OnlyLooks g e.disk new.disk → WhereTold IsSettled (g.content new.disk)
    still-settled looks = subst (λ (k : Option Content). WhereTold IsSettled k) (sym (unchanged-is (g.content e.disk) (g.content new.disk) looks.same)) settled

    -- It was carried out, or refused.
    taken-done : (now : List ℕ) → IsStoreWith new.view now (wanted a).archive (g.content new.disk) → (is_ready new ≡ true → new.views ≡ views_of (wanted a).archive.config.form (live (wanted a).archive.entries)) → WhereTold IsSettled (g.content new.disk) → Going e (standing a None) new (standing (wanted a).archive None)
    taken-done now own rows still = record {
      fits = record { settled = λ ready. ((now, own, rows ready, still), refl); exact = λ none. (new.view, now, own, still); left = λ may has. store-left g counts_now only_now new (wanted a).archive may (now, own) has.archive };
      passes = λ start may has left. taken-passes start may has.0.archive has.1.0.archive left;
    }

    -- Memory ran out before anything was done.
    taken-none : OnlyLooks g e.disk new.disk → IsStoreWith new.view cache a (g.content new.disk) → new.views ≡ views_of a.config.form (live a.entries) → Going e (standing a None) new (standing a None)
    taken-none looks own rows = record {
      fits = record { settled = λ ready. ((cache, own, rows, still-settled looks), refl); exact = λ none. (new.view, cache, own, still-settled looks); left = λ may has. store-left g counts_now only_now new a may (cache, own) has.archive };
      passes = λ start may has left. (
        omega (arith, left.0, looks.crash.later),
        left.1,
        λ c all image since. elim (looks.crash.before (g.moment start.disk) image left.0 since) [
          | inl past
              ↦ left.2 c all image past
          | inr now ↦ left.2 c all image (counts_now e.disk (g.moment start.disk) image left.0 now)
        ],
        λ ready. crash_between-on start e new.disk left.0 (left.3 ready) crash_beside,
      );
    }

    -- The disk failed.
    taken-failed : is_ready new ≡ false → Going e (standing a None) new (standing a (Some (wanted a).archive))
    taken-failed unready = record {
      fits = record {
        settled = λ ready. absurd (false≢true (sym unready ∙ ready));
        exact = λ none. absurd (cc none);
        left = λ may has. (
          omega arith,
          (cache, λ image left. either_of cache left_cache cache may a (wanted a).archive image (inl refl) kept has.archive has.in_doubt (left_after e.disk new.disk (RecoversOneOf cache a left_cache (wanted a).archive) run image left)),
          λ c all. all,
          λ ready image left. between_image (g.content new.disk) image (only_now new.disk image left),
        );
      };
      passes = λ start may has left. taken-passes start may has.1.0.archive has.1.0.in_doubt left;
    }

    pub taken-at : (reply : Answer) → (needs_opening reply ≡ true → new.stale ≡ true) → DoneBy new.view cache left_cache a (wanted a) reply (g.content new.disk) → ViewsKeepUp reply (is_ready new) new.views a (wanted a).archive
        → OnRefusal reply (UnlessFault reply (OnlyLooks g e.disk new.disk)) → OnDone reply (WhereTold IsSettled (g.content new.disk)) → (t : LastKnown) × Going e (standing a None) new t × CommandGives true (standing a None) wanted reply t
    taken-at answer.NoMemory stale done rows untouched still = (standing a None, taken-none untouched done rows, inr (record { found = inl refl; sure = refl }))
    taken-at answer.DiskFault stale done rows untouched still = (standing a (Some (wanted a).archive), taken-failed (ap not (stale refl)), inr (record { found = a; is_found = inl refl; stands = refl }))
    taken-at (answer.Ok number id) stale done rows untouched still =
        (standing (wanted a).archive None, taken-done left_cache done.store rows still, record { found = a; is_found = inl refl; answer_is = done.answer_is; stands = refl })
    taken-at (answer.Duplicate number) stale done rows untouched still =
        (standing (wanted a).archive None, taken-done cache done.store (λ ready. rows) (still-settled untouched), record { found = a; is_found = inl refl; answer_is = done.answer_is; stands = refl })
    taken-at answer.NoFields stale done rows untouched still =
        (standing (wanted a).archive None, taken-done cache done.store (λ ready. rows) (still-settled untouched), record { found = a; is_found = inl refl; answer_is = done.answer_is; stands = refl })
    taken-at (answer.TooLarge len) stale done rows untouched still =
        (standing (wanted a).archive None, taken-done cache done.store (λ ready. rows) (still-settled untouched), record { found = a; is_found = inl refl; answer_is = done.answer_is; stands = refl })
    taken-at (answer.Full max) stale done rows untouched still =
        (standing (wanted a).archive None, taken-done cache done.store (λ ready. rows) (still-settled untouched), record { found = a; is_found = inl refl; answer_is = done.answer_is; stands = refl })
    taken-at (answer.Collision number) stale done rows untouched still =
        (standing (wanted a).archive None, taken-done cache done.store (λ ready. rows) (still-settled untouched), record { found = a; is_found = inl refl; answer_is = done.answer_is; stands = refl })
    taken-at answer.IsMirror stale done rows untouched still =
        (standing (wanted a).archive None, taken-done cache done.store (λ ready. rows) (still-settled untouched), record { found = a; is_found = inl refl; answer_is = done.answer_is; stands = refl })
    taken-at (answer.NotLive number) stale done rows untouched still =
        (standing (wanted a).archive None, taken-done cache done.store (λ ready. rows) (still-settled untouched), record { found = a; is_found = inl refl; answer_is = done.answer_is; stands = refl })
    taken-at (answer.NoText number) stale done rows untouched still =
        (standing (wanted a).archive None, taken-done cache done.store (λ ready. rows) (still-settled untouched), record { found = a; is_found = inl refl; answer_is = done.answer_is; stands = refl })
    taken-at (answer.Damaged file at) stale never rows untouched still = absurd never

  -- A removal or a purge that was done leaves the archive after it held.
  removed_by : (e new : Owning D) (a : Archive) (command : Command) (arrived : ℕ) (text : List ℕ) (lost : Option ℕ) (left_cache : List ℕ) (reply : Answer) → (held : HoldsArchive g.content e a) → DoneBy new.view held.0 left_cache a (applied a command arrived) reply (g.content new.disk)
      → IfDelivery (is_delivery command) (KeepsTextFor command a (applied a command arrived) arrived text) → OnDone reply (IsGone a command lost) → ViewsAfter a.config.form command lost reply text arrived e.views new.views → OnDone reply (WhereTold IsSettled (g.content new.disk)) → OnDone reply (HoldsArchive g.content new (applied a command arrived).archive)
  removed_by e new a command arrived text lost left_cache (answer.Ok number id) held done kept taken rows still =
      (left_cache, done.store, done-views a command arrived number id text lost e.views new.views (store_keeps e.view held.0 a (g.content e.disk) held.1).valid done.answer_is kept taken held.2 rows, still)
  removed_by e new a command arrived text lost left_cache answer.NoMemory held done kept taken rows still = tt
  removed_by e new a command arrived text lost left_cache (answer.Duplicate number) held done kept taken rows still = tt
  removed_by e new a command arrived text lost left_cache answer.NoFields held done kept taken rows still = tt
  removed_by e new a command arrived text lost left_cache (answer.TooLarge len) held done kept taken rows still = tt
  removed_by e new a command arrived text lost left_cache (answer.Full max) held done kept taken rows still = tt
  removed_by e new a command arrived text lost left_cache (answer.Collision number) held done kept taken rows still = tt
  removed_by e new a command arrived text lost left_cache (answer.NotLive number) held done kept taken rows still = tt
  removed_by e new a command arrived text lost left_cache (answer.NoText number) held done kept taken rows still = tt
  removed_by e new a command arrived text lost left_cache answer.IsMirror held done kept taken rows still = tt
  removed_by e new a command arrived text lost left_cache answer.DiskFault held done kept taken rows still = tt
  removed_by e new a command arrived text lost left_cache (answer.Damaged file at) held done kept taken rows still = tt

  pub removed-at : (e new : Owning D) (command : Command) (arrived : ℕ) (text : List ℕ) (lost : Option ℕ) (reply : Answer) → ((a : Archive) (cache : List ℕ) → IsStoreWith e.view cache a (g.content e.disk) → DoneBy new.view cache (cache_left command cache) a (applied a command arrived) reply (g.content new.disk))
      → ((a : Archive) (cache : List ℕ) → IsStoreWith e.view cache a (g.content e.disk) → OnDone reply (IsGone a command lost))
      → ((form : Form) → IfRemoval (is_delivery command) (ViewsAfter form command lost reply text arrived e.views new.views)) → OnDone reply (WhereTold IsSettled (g.content new.disk)) → IfRemoval (is_delivery command) ((a : Archive) → HoldsArchive g.content e a → OnDone reply (HoldsArchive g.content new (applied a command arrived).archive))
  removed-at e new (Deliver bytes) arrived text lost reply done taken rows still = tt
  removed-at e new (Remove n) arrived text lost reply done taken rows still = λ a held. removed_by e new a (Remove n) arrived text lost held.0 reply held (done a held.0 held.1) tt (taken a held.0 held.1) (rows a.config.form) still
  removed-at e new (Purge n) arrived text lost reply done taken rows still = λ a held. removed_by e new a (Purge n) arrived text lost [] reply held (done a held.0 held.1) tt (taken a held.0 held.1) (rows a.config.form) still
  removed-at e new (Edit n bytes) arrived text lost reply done taken rows still = tt

  -- A refusal leaves all but the disk as it was, and the disk was only read.
  module _ (form : Form) (e new : Owning D) (ok : Bool) (command : Command) (gone : Option ℕ) (text : List ℕ) (arrived : ℕ) where
    only-reads : new.view ≡ e.view → new.views ≡ e.views → new.stale ≡ e.stale → OnlyLooks g e.disk new.disk → OnlyReadsOn g e new
    only-reads view views stale looks = record { view_is = view; views_are = views; stale_is = stale; files = looks.same; run = looks.crash }

    same-owning : new.disk ≡ e.disk → new.view ≡ e.view → new.views ≡ e.views → new.stale ≡ e.stale → new ≡ e
    same-owning disk view views stale = λ i. record { disk = disk i; view = view i; views = views i; stale = stale i }

    pub refused-at : (reply : Answer) → e.stale ≡ false → new.stale ≡ (needs_opening reply || not ok) → OnRefusal reply (ok ≡ true) → OnRefusal reply (new.view ≡ e.view) → (ok ≡ true → ViewsAfter form command gone reply text arrived e.views new.views)
        → OnRefusal reply (UnlessFault reply (OnlyLooks g e.disk new.disk)) → IfRefused reply (OnlyReadsOn g e new)
    refused-at (answer.Ok n id) ready stale followed view rows looks = tt
    refused-at answer.DiskFault ready stale followed view rows looks = tt
    refused-at (answer.Damaged file at) ready stale followed view rows looks = tt
    refused-at other ready stale followed view rows looks = only-reads view (rows followed) (stale ∙ ap not followed ∙ sym ready) looks

    unmoved : (reply : Answer) → e.stale ≡ false → new.stale ≡ (needs_opening reply || not ok) → OnRefusal reply (ok ≡ true) → OnRefusal reply (new.view ≡ e.view) → (ok ≡ true → ViewsAfter form command gone reply text arrived e.views new.views) → IfUnread reply (new.disk ≡ e.disk)
        → IfUnread reply (new ≡ e)
    unmoved (answer.Duplicate n) ready stale followed view rows disk = same-owning disk view (rows followed) (stale ∙ ap not followed ∙ sym ready)
    unmoved answer.NoFields ready stale followed view rows disk = same-owning disk view (rows followed) (stale ∙ ap not followed ∙ sym ready)
    unmoved (answer.TooLarge len) ready stale followed view rows disk = same-owning disk view (rows followed) (stale ∙ ap not followed ∙ sym ready)
    unmoved (answer.NotLive n) ready stale followed view rows disk = same-owning disk view (rows followed) (stale ∙ ap not followed ∙ sym ready)
    unmoved (answer.NoText n) ready stale followed view rows disk = same-owning disk view (rows followed) (stale ∙ ap not followed ∙ sym ready)
    unmoved answer.IsMirror ready stale followed view rows disk = same-owning disk view (rows followed) (stale ∙ ap not followed ∙ sym ready)
    unmoved other ready stale followed view rows disk = tt

    pub unmoved-at : (reply : Answer) → e.stale ≡ false → new.stale ≡ (needs_opening reply || not ok) → OnRefusal reply (ok ≡ true) → OnRefusal reply (new.view ≡ e.view) → (ok ≡ true → ViewsAfter form command gone reply text arrived e.views new.views)
        → IfUnreadFor command reply (new.disk ≡ e.disk) → IfUnreadFor command reply (new ≡ e)
    unmoved-at reply ready stale followed view rows disk = unread-for command reply (new.disk ≡ e.disk) (new ≡ e) (unmoved reply ready stale followed view rows) disk

  -- Memory ran out, and nothing was done on the archive that is held.
  pub starved-at : (e : Owning D) (a : Archive) (wanted : Archive → Done) → HoldsArchive g.content e a → (t : LastKnown) × Going e (standing a None) e t × CommandGives true (standing a None) wanted answer.NoMemory t
  starved-at e a wanted store = (
    standing a None,
    record {
      fits = record { settled = λ ready. (store, refl); exact = λ none. at-rest e a store; left = λ may has. store-left g counts_now only_now e a may (store.0, store.1) has.archive };
      passes = λ start may has left. left;
    },
    inr (record { found = inl refl; sure = refl }),
  )

  -- So it took a command after the last root.
  starved-for : (command : Command) → IsForCommand command answer.NoMemory
  starved-for (Deliver bytes) = tt
  starved-for (Remove number) = tt
  starved-for (Purge number) = tt
  starved-for (Edit number bytes) = tt

  starved-reads : (command : Command) (n : ℕ) → ReadsFor command n n
  starved-reads (Deliver bytes) n = record { later = omega arith; most = omega arith }
  starved-reads (Remove number) n = record { later = omega arith; most = omega arith }
  starved-reads (Purge number) n = omega arith
  starved-reads (Edit number bytes) n = omega arith

  starved-unmoved : (command : Command) (P : Type 0) → IfUnreadFor command answer.NoMemory P
  starved-unmoved (Deliver bytes) P = tt
  starved-unmoved (Remove number) P = tt
  starved-unmoved (Purge number) P = tt
  starved-unmoved (Edit number bytes) P = tt

  pub starved-takes : (e : Owning D) (command : Command) (moment : ℕ) → (e.view.root.sequence + 1 < 2 ^ 64 → ⊥) → WhereTold (StoreHasSizes e.view) (g.content e.disk) → TakesOn g e e command moment answer.NoMemory
  starved-takes e command moment full sizes = record {
    crash = λ a cache store room. absurd (full room);
    done = λ a cache store room. store;
    settled = tt;
    goes_on = tt;
    files = tt;
    slot = tt;
    same = refl;
    untouched = record { same = told-same (g.content e.disk); crash = started g e.disk (Image (g.content e.disk)) (λ image left. only_now e.disk image left) };
    unmoved = starved-unmoved command (e.disk ≡ e.disk);
    sizes = sizes;
    cause = record { later = omega arith; failed = λ fault. absurd (cc fault); kept = λ other. refl };
    for_command = starved-for command;
    count = starved-reads command (g.reads e.disk);
    rooted = tt;
    crash_root = (None, looks_one g (1 - e.view.slot) None e.disk e.disk (started g e.disk (Image (g.content e.disk)) (λ image left. only_now e.disk image left)));
    damage = tt;
  }

  -- A command on what a reopening found.
  pub commanded-after : (old mid new : Owning D) (s t : LastKnown) (command : Command) (moment : ℕ) (reply : Answer) → Going old s mid t → Settles s t → (is_ready old ≡ false → FindsArchive g old mid t.archive) → is_ready mid ≡ true
      → (is_ready old ≡ true → mid ≡ old) → TakesOn g mid new command moment reply
      → ((a : Archive) → HoldsArchive g.content mid a → (u : LastKnown) × Going mid (standing a None) new u × CommandGives true (standing a None) (λ (b : Archive). applied b command moment) reply u) → (u : LastKnown) × Going old s new u × CommandGives (is_ready old) s (λ (b : Archive). applied b command moment) reply u × CommandTaken (engine_of g) old s command moment new reply u
  commanded-after old mid new s t command moment reply opened settles finds ready still takes taken =
      let both = opened.fits.settled ready in
      let same : t ≡ standing t.archive None = ap (λ (d : Option Archive). standing t.archive d) both.1 in
      let done = taken t.archive both.0 in (
        done.0,
        moves-on (engine_of g) old mid new s t done.0 opened settles (subst (λ (x : LastKnown). Going mid x new done.0) (sym same) done.1),
        comes-by (is_ready old) s t (λ (b : Archive). applied b command moment) reply done.0 (ending reply) settles done.2,
        taken-by (engine_of g) (is_ready old) old s command moment new reply done.0 (λ at_hand. subst (λ (o : Owning D). TakesOn g o new command moment reply) (still at_hand) takes) (λ stale.
            finds-first (engine_of g) old s command moment new reply done.0 (ending reply) refl (record {
              middle = mid;
              found = t.archive;
              is_found = settles.found;
              finds = finds stale;
              holds = both.0;
              opened = subst (λ (x : LastKnown). Going old s mid x) same opened;
              takes = takes;
              taken = done.1;
              gives = done.2;
            })),
      )

  -- A call that only reads.
  pub stays-at : (faults : D → ℕ) (e : Owning D) (disk : D) → is_ready e ≡ true → BothTold Unchanged (g.content e.disk) (g.content disk) → LeavesOnly g e.disk disk (Image (g.content e.disk)) → faults e.disk ≤ faults disk
      → ShelfStays (HoldsArchive g.content) is_ready (OnlyReadsOn g) (λ (o : Owning D). faults o.disk) e (record { disk = disk; view = e.view; views = e.views; stale = e.stale })
  stays-at faults e disk ready files run later =
      let read : OnlyReadsOn g e (record { disk = disk; view = e.view; views = e.views; stale = e.stale }) = record { view_is = refl; views_are = refl; stale_is = refl; files = files; run = run } in
      record {
        same = read;
        kept = (reading-kept g counts_now only_now e (record { disk = disk; view = e.view; views = e.views; stale = e.stale }) read).held;
        at_hand = ready;
        later = later;
      }

  -- A call that does nothing.
  pub stays-still : (faults : D → ℕ) (e : Owning D) → is_ready e ≡ true → ShelfStays (HoldsArchive g.content) is_ready (OnlyReadsOn g) (λ (o : Owning D). faults o.disk) e e
  stays-still faults e ready = record { same = reading-same g counts_now only_now e; kept = λ a store. store; at_hand = ready; later = omega arith }

  -- Nothing is done, and a crash leaves the archive that is held.
  pub still-left : (e : Owning D) (a b : Archive) (cache left_cache : List ℕ) → IsStoreWith e.view cache a (g.content e.disk) → LeavesOnly g e.disk e.disk (RecoversOneOf cache a left_cache b)
  still-left e a b cache left_cache store = started g e.disk (RecoversOneOf cache a left_cache b) (λ image left. inl (stands_for e.view cache a (g.content e.disk) image store (only_now e.disk image left)))

  -- Here `inside` is the value by its parts.
  module _ (inside old : Owning D) (is : inside ≡ old) where
    pub still-ready : inside.stale ≡ false → is_ready old ≡ true
    still-ready fresh = subst (λ (o : Owning D). is_ready o ≡ true) is (ap not fresh)

    pub still-stale : inside.stale ≡ true → is_ready old ≡ true → ⊥
    still-stale stale ready = let now : not true ≡ true = sym (ap not stale) ∙ ap (λ (o : Owning D). is_ready o) is ∙ ready in false≢true now

    pub taken-by-parts : (new : Owning D) (command : Command) (moment : ℕ) (reply : Answer) → TakesOn g inside new command moment reply → TakesOn g old new command moment reply
    taken-by-parts new command moment reply takes = subst (λ (o : Owning D). TakesOn g o new command moment reply) is takes

    pub opens-from : (disk : D) (result : Result StoreState OpenRefusal) → OpensArchive g inside.disk disk result → OpensArchive g old.disk disk result
    opens-from disk result opened = subst (λ (o : Owning D). OpensArchive g o.disk disk result) is opened

    pub kindly-from : {T : Type 0} (disk : D) (result : Result T OpenRefusal) → RefusesKindly result (g.content inside.disk) (g.content disk) → RefusesKindly result (g.content old.disk) (g.content disk)
    kindly-from {T} disk result kindly = subst (λ (o : Owning D). RefusesKindly result (g.content o.disk) (g.content disk)) is kindly

    pub held-inside : (a : Archive) → HoldsArchive g.content old a → HoldsArchive g.content inside a
    held-inside a = subst (λ (o : Owning D). HoldsArchive g.content o a) (sym is)

    -- The views are those of the live messages.
    pub views-inside : (a : Archive) → HoldsArchive g.content old a → inside.views ≡ views_of a.config.form (live a.entries)
    views-inside a held = let own = held-inside a held in own.2

    pub kept-inside : (a : Archive) → HoldsArchive g.content old a → KeepsArchive inside.view a
    kept-inside a held = let own = held-inside a held in store_keeps inside.view own.0 a (g.content inside.disk) own.1

    pub left-from : (disk : D) (wanted : Archive → Archive) (left : List ℕ → List ℕ) → ((a : Archive) (cache : List ℕ) → IsStoreWith inside.view cache a (g.content inside.disk) → LeavesOnly g inside.disk disk (RecoversOneOf cache a (left cache) (wanted a)))
        → (a : Archive) (cache : List ℕ) → IsStoreWith old.view cache a (g.content old.disk) → LeavesOnly g old.disk disk (RecoversOneOf cache a (left cache) (wanted a))
    left-from disk wanted left run = subst (λ (o : Owning D). (a : Archive) (cache : List ℕ) → IsStoreWith o.view cache a (g.content o.disk) → LeavesOnly g o.disk disk (RecoversOneOf cache a (left cache) (wanted a))) is run

    pub removed-from : (new : Owning D) (command : Command) (arrived : ℕ) (text : List ℕ) (gone : Option ℕ) (reply : Answer) → ((a : Archive) (cache : List ℕ) → IsStoreWith inside.view cache a (g.content inside.disk) → DoneBy new.view cache (cache_left command cache) a (applied a command arrived) reply (g.content new.disk))
        → ((a : Archive) (cache : List ℕ) → IsStoreWith inside.view cache a (g.content inside.disk) → OnDone reply (IsGone a command gone))
        → ((form : Form) → IfRemoval (is_delivery command) (ViewsAfter form command gone reply text arrived inside.views new.views)) → OnDone reply (WhereTold IsSettled (g.content new.disk)) → IfRemoval (is_delivery command) ((a : Archive) → HoldsArchive g.content old a → OnDone reply (HoldsArchive g.content new (applied a command arrived).archive))
    removed-from new command arrived text gone reply done taken rows still = subst (λ (o : Owning D). IfRemoval (is_delivery command) ((a : Archive) → HoldsArchive g.content o a → OnDone reply (HoldsArchive g.content new (applied a command arrived).archive))) is (removed-at inside new command arrived text gone reply done taken rows still)

    pub done-from : (view : StoreState) (disk : D) (wanted : Archive → Done) (left : List ℕ → List ℕ) (reply : Answer) → ((a : Archive) (cache : List ℕ) → IsStoreWith inside.view cache a (g.content inside.disk) → DoneBy view cache (left cache) a (wanted a) reply (g.content disk))
        → (a : Archive) (cache : List ℕ) → IsStoreWith old.view cache a (g.content old.disk) → DoneBy view cache (left cache) a (wanted a) reply (g.content disk)
    done-from view disk wanted left reply done = subst (λ (o : Owning D). (a : Archive) (cache : List ℕ) → IsStoreWith o.view cache a (g.content o.disk) → DoneBy view cache (left cache) a (wanted a) reply (g.content disk)) is done

    pub cause-from : {T : Type 0} (faults : D → ℕ) (disk : D) (r : Result T TextRefusal) → RoseIf (r ≡ Err reading.DiskFault) (faults inside.disk) (faults disk) → TellsOther r → ReadCause (faults old.disk) (faults disk) r
    cause-from faults disk r rose other = subst (λ (o : Owning D). ReadCause (faults o.disk) (faults disk) r) is (read-cause (faults inside.disk) (faults disk) r rose other)

    pub blob-ids-from : (id : ObjectId) (had has : List ℕ) (r : Result Bool TextRefusal) → GivesBlobKept inside.view (g.content inside.disk) id had has r → GivesBlobKept old.view (g.content old.disk) id had has r
    blob-ids-from id had has r kept = subst (λ (o : Owning D). GivesBlobKept o.view (g.content o.disk) id had has r) is kept

    pub once-from : (reads : D → ℕ) (disk : D) → reads inside.disk ≤ reads disk → reads disk ≤ reads inside.disk + 1 → ReadsOnce (reads old.disk) (reads disk)
    once-from reads disk later most = subst (λ (o : Owning D). ReadsOnce (reads o.disk) (reads disk)) is (record { later = later; most = most })

    pub opening-why-from : {T : Type 0} (faults : D → ℕ) (disk : D) (why : OpenRefusal) (r : Result T OpenRefusal) → r ≡ Err why → RoseIf (r ≡ Err refusal.DiskFault) (faults inside.disk) (faults disk) → OpeningWhy (faults old.disk) (faults disk) why
    opening-why-from faults disk why r err rose = subst (λ (o : Owning D). OpeningWhy (faults o.disk) (faults disk) why) is (opening-why (faults inside.disk) (faults disk) why r err rose)

    pub opened-cause-from : {T : Type 0} (faults : D → ℕ) (disk : D) (x : T) (r : Result T OpenRefusal) → r ≡ Ok x → RoseIf (r ≡ Err refusal.DiskFault) (faults inside.disk) (faults disk) → faults disk ≡ faults old.disk
    opened-cause-from faults disk x r ok rose = subst (λ (o : Owning D). faults disk ≡ faults o.disk) is (rose.kept (λ fault. absurd (cc (sym ok ∙ fault))))

    pub answer-cause-from : (faults : D → ℕ) (disk : D) (reply : Answer) → RoseIf (reply ≡ answer.DiskFault) (faults inside.disk) (faults disk) → AnswerCause (faults old.disk) (faults disk) reply
    answer-cause-from faults disk reply rose = subst (λ (o : Owning D). AnswerCause (faults o.disk) (faults disk) reply) is (answer-cause (faults inside.disk) (faults disk) reply rose)

    pub opened-from : RecoversSomeOne → (new : Owning D) → Reopening inside new.disk → ((a : Archive) (cache : List ℕ) → ReadsWith cache a (g.content inside.disk) → IsStoreWith new.view cache a (g.content new.disk) × (new.views ≡ views_of a.config.form (live a.entries))) → WhereTold IsSettled (g.content new.disk) → OpenedBy inside new → (s : LastKnown) → Stands old s
        → (t : LastKnown) × Going old s new t × Settles s t × (is_ready old ≡ false → FindsArchive g old new t.archive)
    opened-from one new run opened still by s fits =
        let found = subst (λ (o : Owning D). (s : LastKnown) → Stands o s → Found o s new) is (opened-at one inside new run opened still by) s fits in
        (found.0, found.1, found.2, λ stale. found.3)

    pub unopened-from : RecoversSomeOne → (new : Owning D) (why : OpenRefusal) → Reopening inside new.disk → ((a : Archive) (cache : List ℕ) → ReadsWith cache a (g.content inside.disk) → IsWant why) → LeavesKindly why (g.content inside.disk) (g.content new.disk) → is_ready new ≡ false → (s : LastKnown) → Stands old s
        → (t : LastKnown) × Going old s new t × ReopeningRefused s why t × Unit {0}
    unopened-from one new why run well kindly unready = subst (λ (o : Owning D). (s : LastKnown) → Stands o s → (t : LastKnown) × Going o s new t × ReopeningRefused s why t × Unit {0}) is (unopened-at one inside new why run well kindly unready)

    pub passes-from : RecoversSomeOne → (new : Owning D) → Reopening inside new.disk → (s : LastKnown) → Stands old s → CrashesLeaveOnly (Leaves g) old new []
    passes-from one new run = subst (λ (o : Owning D). (s : LastKnown) → Stands o s → CrashesLeaveOnly (Leaves g) o new []) is (reopening-passes one inside new run)

    -- Out of use, it fits what it did, since a crash leaves of its disk alone.
    abbrev pub shelved : Owning D
    shelved = record { disk = inside.disk; view = inside.view; views = inside.views; stale = true }

    pub shelved-fits : (s : LastKnown) → Stands old s → Stands shelved s
    shelved-fits s fits =
        let own : Stands inside s = subst (λ (o : Owning D). Stands o s) (sym is) fits in
        record { settled = λ ready. absurd (false≢true ready); exact = λ none. own.exact none; left = λ may has. let left = own.left may has in (left.0, left.1, left.2, λ ready image now. between_image (g.content inside.disk) image (only_now inside.disk image now)) }

    -- What happens to it then happens to what it was.
    pub shelved-passes : (new : Owning D) (ss : List LastKnown) → CrashesLeaveOnly (Leaves g) shelved new ss → CrashesLeaveOnly (Leaves g) old new ss
    shelved-passes new ss passes = λ start may has left. passes start may has (subst (λ (o : Owning D). Leaves g start o may) (sym is) left)

    pub shelved-moves : (new : Owning D) (s t : LastKnown) → Going shelved s new t → Going old s new t
    shelved-moves new s t moves = record { fits = moves.fits; passes = shelved-passes new (s ∷ t ∷ []) moves.passes }

    -- It was read again, and counted.
    pub reread-from : (new : Owning D) (count : ℕ) → ((s : LastKnown) → Stands shelved s → (t : LastKnown) × Going shelved s new t × Settles s t × (is_ready shelved ≡ false → FindsArchive g shelved new t.archive)) → is_ready new ≡ true → ((a : Archive) → HoldsArchive g.content new a → count ≡ length (live a.entries)) → (s : LastKnown) → Stands old s
        → (t : LastKnown) × Going old s new t × Settles s t × (count ≡ length (live t.archive.entries)) × FindsArchive g old new t.archive
    reread-from new count found ready counted s fits =
        let got = found s (shelved-fits s fits) in
        (got.0, shelved-moves new s got.0 got.1, got.2, counted got.0.archive (got.1.fits.settled ready).0, subst (λ (o : Owning D). FindsArchive g o new got.0.archive) is (got.3 refl))

    -- Reading it again was refused.
    pub unread-from : (new : Owning D) (why : OpenRefusal) → ((s : LastKnown) → Stands shelved s → (t : LastKnown) × Going shelved s new t × ReopeningRefused s why t × Unit {0}) → (s : LastKnown) → Stands old s
        → (t : LastKnown) × Going old s new t × ReopeningRefused s why t × Unit {0} × Unit {0}
    unread-from new why found s fits = let got = found s (shelved-fits s fits) in (got.0, shelved-moves new s got.0 got.1, got.2, tt, tt)

    -- What a crash leaves of it meanwhile.
    pub reread-passes : (new : Owning D) → ((s : LastKnown) → Stands shelved s → CrashesLeaveOnly (Leaves g) shelved new []) → (s : LastKnown) → Stands old s → CrashesLeaveOnly (Leaves g) old new []
    reread-passes new passes s fits = shelved-passes new [] (passes s (shelved-fits s fits))

    pub taken-from : CachesOne → (new : Owning D) (wanted : Archive → Done) (left : List ℕ → List ℕ) (reply : Answer) → ((cache : List ℕ) → (left cache ≡ cache) ⊎ (left cache ≡ [])) → (needs_opening reply ≡ true → new.stale ≡ true) → ((a : Archive) (cache : List ℕ) → IsStoreWith inside.view cache a (g.content inside.disk) → LeavesOnly g inside.disk new.disk (RecoversOneOf cache a (left cache) (wanted a).archive))
        → RunsBetween g inside.disk new.disk
        → ((a : Archive) (cache : List ℕ) → IsStoreWith inside.view cache a (g.content inside.disk) → DoneBy new.view cache (left cache) a (wanted a) reply (g.content new.disk))
        → ((a : Archive) (cache : List ℕ) → IsStoreWith inside.view cache a (g.content inside.disk) → inside.views ≡ views_of a.config.form (live a.entries) → ViewsKeepUp reply (is_ready new) new.views a (wanted a).archive)
        → OnRefusal reply (UnlessFault reply (OnlyLooks g inside.disk new.disk)) → OnDone reply (WhereTold IsSettled (g.content new.disk)) → (a : Archive) → HoldsArchive g.content old a → (t : LastKnown) × Going old (standing a None) new t × CommandGives true (standing a None) wanted reply t
    taken-from caches new wanted left reply kept stale run crash_beside done rows untouched settled =
        subst (λ (o : Owning D). (a : Archive) → HoldsArchive g.content o a → (t : LastKnown) × Going o (standing a None) new t × CommandGives true (standing a None) wanted reply t) is
        (λ a held. taken-at caches inside new a held.0 (left held.0) (kept held.0) held.1 held.3 wanted (run a held.0 held.1) crash_beside reply stale (done a held.0 held.1) (rows a held.0 held.1 held.2) untouched settled)

    pub stays-from : (faults : D → ℕ) (disk : D) → is_ready old ≡ true → BothTold Unchanged (g.content inside.disk) (g.content disk) → LeavesOnly g inside.disk disk (Image (g.content inside.disk)) → faults inside.disk ≤ faults disk
        → ShelfStays (HoldsArchive g.content) is_ready (OnlyReadsOn g) (λ (o : Owning D). faults o.disk) old (record { disk = disk; view = inside.view; views = inside.views; stale = inside.stale })
    stays-from faults disk ready files run later =
        subst (λ (o : Owning D). is_ready o ≡ true → ShelfStays (HoldsArchive g.content) is_ready (OnlyReadsOn g) (λ (p : Owning D). faults p.disk) o (record { disk = disk; view = inside.view; views = inside.views; stale = inside.stale })) is
        (λ at_hand. stays-at faults inside disk at_hand files run later) ready

    pub refused-from : (form : Form) (new : Owning D) (ok : Bool) (command : Command) (gone : Option ℕ) (text : List ℕ) (arrived : ℕ) (reply : Answer) → old.stale ≡ false → new.stale ≡ (needs_opening reply || not ok) → OnRefusal reply (ok ≡ true) → OnRefusal reply (new.view ≡ inside.view)
        → (ok ≡ true → ViewsAfter form command gone reply text arrived inside.views new.views) → OnRefusal reply (UnlessFault reply (OnlyLooks g inside.disk new.disk)) → IfRefused reply (OnlyReadsOn g old new)
    refused-from form new ok command gone text arrived reply ready stale followed view rows looks =
        subst (λ (o : Owning D). o.stale ≡ false → IfRefused reply (OnlyReadsOn g o new)) is (λ at_hand. refused-at form inside new ok command gone text arrived reply at_hand stale followed view rows looks) ready

    pub unmoved-from : (form : Form) (new : Owning D) (ok : Bool) (command : Command) (gone : Option ℕ) (text : List ℕ) (arrived : ℕ) (reply : Answer) → old.stale ≡ false → new.stale ≡ (needs_opening reply || not ok) → OnRefusal reply (ok ≡ true) → OnRefusal reply (new.view ≡ inside.view)
        → (ok ≡ true → ViewsAfter form command gone reply text arrived inside.views new.views) → IfUnreadFor command reply (new.disk ≡ inside.disk) → IfUnreadFor command reply (new ≡ old)
    unmoved-from form new ok command gone text arrived reply ready stale followed view rows disk =
        subst (λ (o : Owning D). o.stale ≡ false → IfUnreadFor command reply (new ≡ o)) is (λ at_hand. unmoved-at form inside new ok command gone text arrived reply at_hand stale followed view rows disk) ready

-- The answer to a command whose archive wasn't reopened, which was stale then.
pub refused-comes : (was : Bool) (s t : LastKnown) (wanted : Archive → Done) (why : OpenRefusal) (reply : Answer) → reply ≡ opening_answer why → (was ≡ true → false ≡ true) → ReopeningRefused s why t → CommandGives was s wanted reply t
refused-comes was s t wanted why reply is stale shut =
    let from : CommandGives was s wanted (opening_answer why) t = subst (λ (b : Bool). CommandGives b s wanted (opening_answer why) t) (sym (never_ready was stale)) (unopened-comes s t wanted why shut) in
    subst (λ (r : Answer). CommandGives was s wanted r t) (sym is) from

pub refused-takes : {D : Type 0} (g : Disk D) (old new : Owning D) (s t : LastKnown) (command : Command) (moment : ℕ) (why : OpenRefusal) (reply : Answer) → reply ≡ opening_answer why → (is_ready old ≡ true → false ≡ true) → ReopeningRefused s why t → CommandTaken (engine_of g) old s command moment new reply t
refused-takes g old new s t command moment why reply is stale shut =
    let from : CommandTaken (engine_of g) old s command moment new (opening_answer why) t = taken-by (engine_of g) (is_ready old) old s command moment new (opening_answer why) t (λ ready. absurd (false≢true (stale ready))) (λ now. unopened-finds (engine_of g) old new s t command moment why shut) in
    subst (λ (r : Answer). CommandTaken (engine_of g) old s command moment new r t) (sym is) from

pub refused-ready : (was now : Bool) (why : OpenRefusal) (reply : Answer) → reply ≡ opening_answer why → (was ≡ true → false ≡ true) → now ≡ false → StaysReady was reply now
refused-ready was now why reply is stale unready =
    let at_false : StaysReady false (opening_answer why) now = subst (λ (b : Bool). StaysReady false (opening_answer why) b) (sym unready) (unopened-ready why) in
    let from : StaysReady was (opening_answer why) now = subst (λ (b : Bool). StaysReady b (opening_answer why) now) (sym (never_ready was stale)) at_false in
    subst (λ (r : Answer). StaysReady was r now) (sym is) from

pub refused-cause : (before now : ℕ) (why : OpenRefusal) (reply : Answer) → reply ≡ opening_answer why → OpeningWhy before now why → AnswerCause before now reply
refused-cause before now why reply is cause = subst (λ (r : Answer). AnswerCause before now r) (sym is) (unopened-cause before now why cause)

-- What holds of each answer where the archive could not be reopened.
reopened-then : (P : Answer → Type 0) → P answer.DiskFault → P answer.NoMemory → ((file : FileName) (at : ℕ) → P (answer.Damaged file at)) → (why : OpenRefusal) → P (opening_answer why)
reopened-then P fault short damage refusal.NoArchive = damage root_file 0
reopened-then P fault short damage (refusal.Damaged file at) = damage file at
reopened-then P fault short damage refusal.DiskFault = fault
reopened-then P fault short damage refusal.NoMemory = short

-- It is one that each command gives.
pub refused-for : (m : Command) (why : OpenRefusal) (reply : Answer) → reply ≡ opening_answer why → IsForCommand m reply
refused-for (Deliver bytes) why reply is = subst AnswersDelivery (sym is) (reopened-then AnswersDelivery tt tt (λ file at. tt) why)
refused-for (Remove number) why reply is = subst (AnswersRemoval number) (sym is) (reopened-then (AnswersRemoval number) tt tt (λ file at. tt) why)
refused-for (Purge number) why reply is = subst (AnswersPurge number) (sym is) (reopened-then (AnswersPurge number) tt tt (λ file at. tt) why)
refused-for (Edit number bytes) why reply is = subst (AnswersEdit number) (sym is) (reopened-then (AnswersEdit number) tt tt (λ file at. tt) why)
