-- What serving the archive on a disk did there.
use Rattle.std.proofs.Common.{◌≡◌, ◌≤◌, ℕ, Bool, true, false, List, [], ◌∷◌, ◌++◌, Option, Some, None, Result, Err, inl, inr, refl, sym, ap, subst, arith, ◌∙◌}
use Rattle.std.specs.List.{Contains}
use Rattle.std.proofs.lemmas.List.Elements.{Contains-append_left, Contains-append_right}
use Rattle.std.proofs.lemmas.Bool.{false≢true}
use Rattle.arch_base.specs.Counts.{Rose, RoseIf}
use Rattle.disk_model.specs.declared.disk.Disk.{Ghosts as Disk}
use Rattle.disk_model.specs.Disk.{Content, Files, Image, ReadsFit, BothTold, WhereTold}
use Rattle.disk_model.specs.declared.name.FileName.{FileName}
use Rattle.disk_model.specs.Synced.{IsSettled, settled_image}
use Rattle.root_slots.specs.Between.{RunsBetween, WentBetween, between_image, between_then}
use Rattle.edge_io.specs.Frames.{Outputs}
use Rattle.edge_io.specs.Scripts.{Arrival}
use Rattle.arch_model.specs.Archives.{Archive, live}
use Rattle.arch_model.specs.Following.{FollowsItself}
use Rattle.arch_model.specs.Keeping.{HasDoubt, Has, HasAll, CrashesLeaveOnly, MatchesKnown, Keeper}
use Rattle.arch_model.specs.Laws.{CommandFollows}
use Rattle.view_set.specs.Viewed.{views_of}
use Rattle.arch_model.specs.Standing.{LastKnown, standing, one_of}
use Rattle.arch_model.specs.declared.opening.OpenRefusal.{OpenRefusal}
use Rattle.arch_model.specs.declared.opening.OpenRefusal.TheVariants as opening
use Rattle.arch_model.proofs.Keepers.{has-own, fits-held, all-split}
use Rattle.archive_core.specs.Engines.{Owning, HoldsArchive, LeftWithCache, Leaves, AllRecoverOrBare, engine_of}
use Rattle.archive_core.proofs.Engines.{all_or_bare, cache_is, read_in, reopening-from}
use Rattle.store_finding.specs.Files.{as_read}
use Rattle.epoch_store.specs.Opens.{ReadsWith, RecoversOfWith, AllRecoverWith, IsOnlySynced, SyncsFirst}
use Rattle.store_finding.specs.Recovery.{RecoversWith}
use Rattle.epoch_store.specs.Laws.{CachesOne, RecoversSomeOne}
use Rattle.store_finding.specs.Kept.{StoreState, IsStoreWith}
use Rattle.line_door.specs.Course.{SessionState, talk}
use Rattle.keep_course.specs.Courses.{afters, archives_of}
use Rattle.keep_course.proofs.Courses.{all-own, kept-left}
use Rattle.edge_io.specs.declared.events.What.{What}
use Rattle.edge_io.specs.declared.events.What.TheVariants as what
use Rattle.node_serve.specs.Doors.{SessionAtWork, Came, doors_at}
use Rattle.node_serve.specs.Ends.{is_stop}
use Rattle.node_serve.specs.Nodes.{Serving, EventStages, stage, CameKept, TurnKeptBy, TurnKept, ActsAlong, ReopenedIf, UpdatesKept, NodeSuits, StepsTo, RunsTo, places_in, world_of}
use Rattle.node_serve.specs.declared.session.Session.{Session}
use Rattle.node_serve.specs.Turns.{Turn, Served, passed_in}
use Rattle.node_serve.specs.Updates.{any_idles, UpdatedUnless}
use Rattle.node_serve.specs.World.{HostState, NodeState, outside_at}
use Rattle.node_serve.specs.declared.updates.Idling.TheVariants.{Nobody}
use Rattle.node_serve.proofs.Running.{acted-has, updated-has, updates-pass}
use Rattle.archive_core.specs.Walks.{store-valid}
use Rattle.archive_cli.specs.Serving.{ServeRun, Shut, Ended, HostGiven, ServesDisk, StoodFor, StoodAlong, EnginesAlong, ActedAlong, ServedOn}
use Rattle.archive_cli.proofs.PlayedEvents.{new-suits}
use Rattle.archive_cli.proofs.ServedNumbers.{served-follows}

-- Files that stand for one of some archives stand for one of more.
widened : (cache : List ℕ) (may more : List (Option Archive)) (k : Option Content) → AllRecoverWith cache may k → AllRecoverWith cache (may ++ more) k
widened cache may more None all = all
widened cache may more (Some k) all = λ image left. let one = all image left in (one.0, Contains-append_left may more one.0 one.1, one.2)

-- Standings whose archives are among some are so among more.
has-later : (more may : List (Option Archive)) (d : Option Archive) → HasDoubt may d → HasDoubt (more ++ may) d
has-later more may None has = tt
has-later more may (Some b) has = Contains-append_right more may (Some b) has

all-later : (more may : List (Option Archive)) (ss : List LastKnown) → HasAll may ss → HasAll (more ++ may) ss
all-later more may [] has = tt
all-later more may (s ∷ ss) has = (record { archive = Contains-append_right more may (Some s.archive) has.0.archive; in_doubt = has-later more may s.in_doubt has.0.in_doubt }, all-later more may ss has.1)

-- Why an archive wasn't opened.
why-is : (a b : OpenRefusal) → Shut a ≡ Shut b → a ≡ b
why-is a b is = cc is

-- An opening that was refused.
abbrev shut_by : OpenRefusal → Result StoreState OpenRefusal
shut_by why = Err why

pub shut-cause : (before now : ℕ) (why : OpenRefusal) → RoseIf (shut_by why ≡ shut_by opening.DiskFault) before now → RoseIf (why ≡ opening.DiskFault) before now
shut-cause before now why rose = record { later = rose.later; failed = λ is. rose.failed (ap shut_by is); kept = λ free. rose.kept (λ same. free (cc same)) }

-- The disk's count of faults rose, if that is why.
pub shut-faults : {D : Type 0} (g : Disk D) (turns : ℕ) (run : ServeRun) (old new : D) (i j : HostGiven) (recorded recorded' : List Outputs → Type 0) → ServesDisk g turns run old new i j recorded recorded' → run ≡ Shut opening.DiskFault → Rose i.out.disk j.out.disk
shut-faults g turns (Shut why) old new i j recorded recorded' shut is = shut.cause.failed (why-is why opening.DiskFault is)
shut-faults g turns (Ended how) old new i j recorded recorded' served is = absurd (cc is)

-- Turns by steps.
module _ {K : Type 0} (g : Keeper K) where
  -- What a crash leaves after updates, it leaves since before them.
  pub before-updates : (stops : Bool) (old : K) (w : NodeState) (reopened : List LastKnown) (new last : K) (v : NodeState) (later : List LastKnown) → UpdatedUnless stops w reopened v → UpdatesKept g stops old w new v → CrashesLeaveOnly g.leaves new last (v.standing ∷ later)
      → CrashesLeaveOnly g.leaves old last (w.standing ∷ later)
  before-updates stops old w reopened new last v later updated kept onward = λ start may has since.
      onward start may (updated-has may stops w reopened v updated has.0, has.1) (updates-pass g stops old w new v kept start may tt since)

  -- A crash in them leaves an archive of one of their standings.
  pub steps-pass : (es : List Arrival) (w : NodeState) (ms : List (EventStages K)) (ts : List Turn) (v : NodeState) (k m : K) → Served es w ts v → StepsTo g es k w ms ts m → CrashesLeaveOnly g.leaves k m (w.standing ∷ passed_in ts)
  steps-pass [] w [] [] v k m run steps = λ start may has since. subst (λ (x : K). g.leaves start x may) (sym steps) since
  steps-pass [] w (x ∷ ms) [] v k m run never = absurd never
  steps-pass [] w ms (t ∷ ts) v k m never steps = absurd never
  steps-pass (e ∷ es) w ms [] v k m never steps = absurd never
  steps-pass (e ∷ es) w [] (t ∷ ts) v k m run never = absurd never
  steps-pass (e ∷ es) w (x ∷ ms) (t ∷ ts) v k m run steps = λ start may has since.
      let parts = all-split may t.passed (t.reopened ++ passed_in ts) has.1 in
      let after = all-split may t.reopened (passed_in ts) parts.1 in
      let between = acted-has may e w t.passed t.between run.0.0 has.0 parts.0 in
      before-updates (is_stop e.0.what) x.acted.node.keep t.between t.reopened x.after.node.keep m t.after (passed_in ts) run.0.1 steps.0.updates
      (steps-pass es t.after ms ts v x.after.node.keep m run.1 steps.1) start may (between, after.1) (steps.0.passes start may (has.0, parts.0) since)

-- The last of some standings.
abbrev last-after : LastKnown → List LastKnown → LastKnown
last-after s [] = s
last-after s (t ∷ ts) = last-after t ts

last-has : (may : List (Option Archive)) (s : LastKnown) (ss : List LastKnown) → HasAll may (s ∷ ss) → Has may (last-after s ss)
last-has may s [] has = has.0
last-has may s (t ∷ ts) has = last-has may t ts has.1

last-afters : (s : LastKnown) (acts : List (SessionState SessionAtWork LastKnown)) (v : SessionState SessionAtWork LastKnown) → last-after s (afters (acts ++ v ∷ [])) ≡ v.after
last-afters s [] v = refl
last-afters s (a ∷ acts) v = last-afters a.after acts v

-- A run of acts, and later ones.
passes-onward : {K : Type 0} (leaves : K → K → List (Option Archive) → Type 0) (k m last : K) (s : LastKnown) (ss later : List LastKnown) → CrashesLeaveOnly leaves k m (s ∷ ss) → CrashesLeaveOnly leaves m last (last-after s ss ∷ later) → CrashesLeaveOnly leaves k last (s ∷ (ss ++ later))
passes-onward leaves k m last s ss later first onward = λ start may has since.
    let parts = all-split may (s ∷ ss) later has in
    onward start may (last-has may s ss parts.0, parts.1) (first start may parts.0 since)

-- What a disk that was only synced reads as, and what a crash leaves of it.
synced-same : (k m : Content) → IsOnlySynced k m → as_read m ≡ as_read k
synced-same k m synced = λ i. λ (name : FileName). synced.seen name i

synced-reads : (cache : List ℕ) (a : Archive) (old new : Option Content) → BothTold IsOnlySynced old new → ReadsWith cache a old → ReadsWith cache a new
synced-reads cache a None new synced reads = absurd reads
synced-reads cache a (Some k) None synced reads = absurd synced
synced-reads cache a (Some k) (Some m) synced reads = subst (λ (files : Files). RecoversWith cache files a) (sym (synced-same k m synced)) reads

synced-read : (told cache : List ℕ) (a : Archive) (old new : Option Content) → BothTold IsOnlySynced old new → ReadsWith told a old → ReadsWith cache a new → ReadsWith cache a old
synced-read told cache a None new synced was reads = absurd was
synced-read told cache a (Some k) None synced was reads = absurd synced
synced-read told cache a (Some k) (Some m) synced was reads = subst (λ (files : Files). RecoversWith cache files a) (synced-same k m synced) reads

synced-stands : (cache : List ℕ) (a : Archive) (old new : Option Content) (image : Files) → BothTold IsOnlySynced old new → ReadsWith cache a old → Image new image → RecoversWith cache image a
synced-stands cache a None new image synced reads now = absurd reads
synced-stands cache a (Some k) None image synced reads now = absurd synced
synced-stands cache a (Some k) (Some m) image synced reads now =
    let is : image ≡ as_read k = (λ i. λ (name : FileName). settled_image m image synced.settled now name i) ∙ synced-same k m synced in
    subst (λ (files : Files). RecoversWith cache files a) (sym is) reads

-- Each image of a disk that stands for some archives does.
all-images : (cache : List ℕ) (may : List (Option Archive)) (k : Option Content) → AllRecoverWith cache may k → (image : Files) → Image k image → RecoversOfWith cache may image
all-images cache may None never image now = absurd never
all-images cache may (Some k) all image now = all image now

module _ {D : Type 0} (g : Disk D)
    (counts_now : (disk : D) (t : ℕ) (image : Files) → t ≤ g.moment disk → Image (g.content disk) image → g.left_since disk t image)
    (only_now : (disk : D) (image : Files) → g.left_since disk (g.moment disk) image → Image (g.content disk) image) (reads_fit : (disk : D) → ReadsFit (g.content disk))
    (holds_left : (k : Owning D) (a : Archive) (may : List (Option Archive)) → HoldsArchive g.content k a → Contains may (Some a) → Leaves g k k may) where
  -- How the disk of an engine stands that fits a standing.
  fits-stand : (k : Owning D) (s : LastKnown) → MatchesKnown (engine_of g) k s → (cache : List ℕ) × AllRecoverOrBare cache (one_of s) (g.content k.disk)
  fits-stand k s fits =
      let now = fits.left (one_of s) (has-own s) in
      (now.1.0, all_or_bare s now.1.0 (g.content k.disk) (λ image is. now.1.1 image (counts_now k.disk (g.moment k.disk) image (omega arith) is)))

  -- It is where the bytes between the gates and the bodies of the root file are followed from.
  abbrev here : Owning D → Owning D
  here k = record k { stale = false }

  from-here : (k : Owning D) (may : List (Option Archive)) → Leaves g k k may → Leaves g (here k) k may
  from-here k may left = (left.0, left.1, left.2, λ ready image now. between_image (g.content k.disk) image (only_now k.disk image now))

  -- A disk stood for a standing that its engine fits, and a crash up to a later one leaves that standing's
  -- or a later one's.
  stood-from : (k m : Owning D) (s : LastKnown) (later : List LastKnown) → MatchesKnown (engine_of g) k s → CrashesLeaveOnly (Leaves g) k m (s ∷ later) → StoodFor g s later k.disk m.disk
  stood-from k m s later fits passes =
      let may = archives_of (s ∷ later) in
      let own = all-own (s ∷ later) in
      let left = passes (here k) may own (from-here k may (fits.left may own.0)) in
      record { stood = fits-stand k s fits; rested = fits.exact; crash = (left.1.0, record { later = left.0; each = left.2 left.1.0 left.1.1 }); crash_between = left.3 refl }

  -- No act goes back.
  moved-later : (k m : Owning D) (s t : LastKnown) → MatchesKnown (engine_of g) k s → CrashesLeaveOnly (Leaves g) k m (s ∷ t ∷ []) → g.moment k.disk ≤ g.moment m.disk
  moved-later k m s t fits passes =
      let may = archives_of (s ∷ t ∷ []) in
      let own = all-own (s ∷ t ∷ []) in
      (passes k may own (fits.left may own.0)).0

  -- The acts of a session, after which a crash leaves what later ones do.
  stood-acts : (moment : ℕ) (old m last : Owning D) (w : SessionState SessionAtWork LastKnown) (ks : List (Owning D)) (ms : List (SessionState SessionAtWork LastKnown)) (later : List LastKnown) → MatchesKnown (engine_of g) old w.after → ActsAlong (engine_of g) moment old w ks ms m
      → CrashesLeaveOnly (Leaves g) m last (last-after w.after (afters ms) ∷ later) → StoodAlong g later last.disk old ks (afters ms)
  stood-acts moment old m last w [] [] later fits kept onward = tt
  stood-acts moment old m last w [] (x ∷ ms) later fits never onward = absurd never
  stood-acts moment old m last w (k ∷ ks) [] later fits never onward = absurd never
  stood-acts moment old m last w (k ∷ ks) (x ∷ ms) later fits kept onward =
      let rest = kept-left (engine_of g) (doors_at moment) k m x ks ms kept.1 in (
        moved-later old k w.after x.after fits kept.0.moves.passes,
        stood-from k last x.after (afters ms ++ later) kept.0.moves.fits (passes-onward (Leaves g) k m last x.after (afters ms) later rest onward),
        stood-acts moment k m last x ks ms later kept.0.moves.fits kept.1 onward,
      )

  -- A turn, after which a crash leaves what later ones do.
  turn-stood : (e : Arrival) (old m last : Owning D) (w : NodeState) (passed : List LastKnown) (v : NodeState) (later : List LastKnown) → MatchesKnown (engine_of g) old w.standing → CrashesLeaveOnly (Leaves g) m last (v.standing ∷ later) → TurnKept (ActsAlong (engine_of g)) e old w passed m v
      → TurnKept (EnginesAlong g later last.disk) e old w passed m v
  turn-stood e old m last w passed v later fits onward kept = by e.0.what kept
    where
      came : (c : ℕ) (start : Option Session) → CameKept (ActsAlong (engine_of g)) start e.0.moment c e.1 old w passed m v → CameKept (EnginesAlong g later last.disk) start e.0.moment c e.1 old w passed m v
      came c None still = still
      came c (Some start) piece =
          let course = piece.course in
          let end : SessionState SessionAtWork LastKnown = talk piece.held v.standing (outside_at c v.out) in
          let onward-from = subst (λ (s : LastKnown). CrashesLeaveOnly (Leaves g) m last (s ∷ later)) (sym (last-afters w.standing course.acts end)) onward in
          record {
            held = piece.held;
            rest_is = piece.rest_is;
            course = record {
              acts = course.acts;
              before = course.before;
              each = course.each;
              last = course.last;
              states = course.states;
              kept = (course.kept, stood-acts e.0.moment old m last (talk (Some (Came start e.1)) w.standing (outside_at c w.out)) course.states (course.acts ++ end ∷ []) later fits course.kept onward-from);
            };
            passed_is = piece.passed_is;
          }

      by : (x : What) → TurnKeptBy (ActsAlong (engine_of g)) x e.0.moment e.1 old w passed m v → TurnKeptBy (EnginesAlong g later last.disk) x e.0.moment e.1 old w passed m v
      by (what.Opened c at) still = still
      by (what.Bytes c len) piece = came c (w.session c) piece
      by (what.Ended c) still = still
      by what.Quiet still = still
      by what.Stop still = still

  -- Updates don't go back.
  reopened-later : (idle : Bool) (k : Owning D) (w : NodeState) (m : Owning D) (v : NodeState) → MatchesKnown (engine_of g) k w.standing → ReopenedIf (engine_of g) idle k w m v → g.moment k.disk ≤ g.moment m.disk
  reopened-later true k w m v fits kept = moved-later k m w.standing v.standing fits kept.moves.passes
  reopened-later false k w m v fits kept = subst (λ (x : Owning D). g.moment k.disk ≤ g.moment x.disk) (sym kept) (omega arith)

  updates-later : (stops : Bool) (k : Owning D) (w : NodeState) (m : Owning D) (v : NodeState) → MatchesKnown (engine_of g) k w.standing → UpdatesKept (engine_of g) stops k w m v → g.moment k.disk ≤ g.moment m.disk
  updates-later true k w m v fits kept = subst (λ (x : Owning D). g.moment k.disk ≤ g.moment x.disk) (sym kept) (omega arith)
  updates-later false k w m v fits kept = reopened-later (any_idles w.session) k w m v fits kept

  -- Turns in order.
  acted-all : (es : List Arrival) (w : NodeState) (ms : List (EventStages (Owning D))) (ts : List Turn) (v : NodeState) (k m : Owning D) → Served es w ts v → MatchesKnown (engine_of g) k w.standing → StepsTo (engine_of g) es k w ms ts m → ActedAlong g m.disk es k w ms ts
  acted-all [] w [] [] v k m run fits steps = tt
  acted-all [] w (x ∷ ms) [] v k m run fits never = absurd never
  acted-all [] w ms (t ∷ ts) v k m never fits steps = absurd never
  acted-all (e ∷ es) w ms [] v k m never fits steps = absurd never
  acted-all (e ∷ es) w [] (t ∷ ts) v k m run fits never = absurd never
  acted-all (e ∷ es) w (x ∷ ms) (t ∷ ts) v k m run fits steps =
      let onward = steps-pass (engine_of g) es t.after ms ts v x.after.node.keep m run.1 steps.1 in
      let onward-acted = before-updates (engine_of g) (is_stop e.0.what) x.acted.node.keep t.between t.reopened x.after.node.keep m t.after (passed_in ts) run.0.1 steps.0.updates onward in (
        record {
          acts = turn-stood e k x.acted.node.keep m w t.passed t.between (passed_in ts) fits onward-acted steps.0.kept;
          updates = steps.0.updates;
          moment = updates-later (is_stop e.0.what) x.acted.node.keep t.between x.after.node.keep t.after steps.0.acted_fits steps.0.updates;
          stood = stood-from x.after.node.keep m t.after.standing (passed_in ts) steps.0.fits onward;
        },
        acted-all es t.after ms ts v x.after.node.keep m run.1 steps.0.fits steps.1,
      )

  -- An archive was opened, and events were served by a node.
  pub served-on : RecoversSomeOne → CachesOne → FollowsItself → CommandFollows → (a : Archive) (cache : List ℕ) (old : D) (e : Owning D) (node new : Serving (Owning D)) (arrivals : List Arrival) (stages : List (EventStages (Owning D))) (o p : HostState) → node.keep ≡ e → IsStoreWith e.view cache a (g.content e.disk) → e.views ≡ views_of a.config.form (live a.entries) → WhereTold IsSettled (g.content e.disk)
      → SyncsFirst g old e.disk
      → RunsBetween g old e.disk → BothTold WentBetween (g.content old) (g.content e.disk)
      → ((c : ℕ) → (places_in node).session c ≡ None) → node.idling ≡ Nobody → ((t : LastKnown) → MatchesKnown (engine_of g) node.keep t → NodeSuits (engine_of g) t node o → RunsTo (engine_of g) arrivals t node o stages new p) → ReadsWith cache a (g.content old)
      → ServedOn g a old e.disk new.keep.disk arrivals (stage node o) stages (stage new p)
  served-on one caches itself commands a cache old e node new arrivals stages o p keep store rows still sync crash_beside went none nobody runs reads =
      let held : HoldsArchive g.content e a = (cache, store, rows, still) in
      let start : MatchesKnown (engine_of g) node.keep (standing a None) =
      subst (λ (k : Owning D). MatchesKnown (engine_of g) k (standing a None)) (sym keep) (fits-held (engine_of g) (λ k b own. (k.view, own.0, own.1, own.3)) holds_left e a held) in
      let run = runs (standing a None) start (new-suits (engine_of g) a node o (store-valid e.view cache a (g.content e.disk) store) none nobody) in
      let first = world_of (standing a None) (places_in node) o in
      let last = world_of run.after (places_in new) p in
      let more = passed_in run.turns in
      let narrow = archives_of (standing a None ∷ more) in
      let halted : Owning D = record e { disk = sync.synced; stale = true } in
      let one-from = sync.after a cache reads in
      let from : (c : List ℕ) → ReadsWith c a (g.content old) → LeftWithCache g.left_since sync.synced (g.moment sync.synced) c narrow =
      λ c is image now. inl (Some a, (0, omega arith, refl), synced-stands c a (g.content old) (g.content sync.synced) image sync.only is (only_now sync.synced image now)) in
      let after : Leaves g halted e narrow = (
        one-from.later,
        (cache, from cache reads),
        λ c all image since.
            let there = read_in one (g.content sync.synced) a cache c narrow (reads_fit sync.synced) (synced-reads cache a (g.content old) (g.content sync.synced) sync.only reads) (λ im now. all im (counts_now sync.synced (g.moment sync.synced) im (omega arith) now)) in
            let run-from = sync.after a there.0 (synced-read cache there.0 a (g.content old) (g.content sync.synced) sync.only reads there.1) in
            there.2 image (run-from.each image since),
        λ never. absurd (false≢true (sym never)),
      ) in
      let kept = run.passes halted narrow (all-own (standing a None ∷ more)) (subst (λ (k : Owning D). Leaves g halted k narrow) (sym keep) after) in
      let now = from-here e narrow (holds_left e a narrow held (0, omega arith, refl)) in
      let since-opened = run.passes (here e) narrow (all-own (standing a None ∷ more)) (subst (λ (k : Owning D). Leaves g (here e) k narrow) (sym keep) now) in
      record {
        runs = run;
        stands = fits-stand new.keep run.after run.fits;
        files_are = λ none_in c is.
            let exact = run.fits.exact none_in in
            let own = cache_is caches exact.0 exact.1 run.after.archive (g.content new.keep.disk) (reads_fit new.keep.disk) exact.2 c narrow (λ image now. kept.2 c (from c is) image (counts_now new.keep.disk (g.moment sync.synced) image kept.0 now)) in
            (exact.0, exact.1, own, exact.2, exact.3);
        synced = sync.synced;
        only = sync.only;
        before = sync.before;
        after = λ c is. record { later = kept.0; each = kept.2 c (from c is) };
        crash = λ may known has-found all.
            let wide = may ++ archives_of more in
            let begun : Owning D = record e { disk = old; stale = false } in
            let at-old : LeftWithCache g.left_since old (g.moment old) known wide = λ image now. inl (all-images known wide (g.content old) (widened known may (archives_of more) (g.content old) all) image (only_now old image now)) in
            let still-old : Leaves g begun begun wide = (omega arith, (known, at-old), λ c covers. covers, λ ready image now. between_image (g.content old) image (only_now old image now)) in
            let since : Leaves g begun e wide = reopening-from g counts_now only_now reads_fit one begun e (inr sync, crash_beside) a cache reads begun wide still-old in
            let has : HasAll wide (standing a None ∷ more) = (record { archive = Contains-append_left may (archives_of more) (Some a) has-found; in_doubt = tt }, all-later may (archives_of more) more (all-own more)) in
            let left = run.passes begun wide has (subst (λ (k : Owning D). Leaves g begun k wide) (sym keep) since) in
            (record { later = left.0; each = left.2 known at-old }, left.3 refl);
        crash_between = record { later = since-opened.0; each = λ image left. between_then (g.content old) (g.content e.disk) image went (since-opened.3 refl image left) };
        stood = stood-from node.keep new.keep (standing a None) more start run.passes;
        acted = acted-all arrivals first stages run.turns last node.keep new.keep run.served start run.steps;
        numbers = served-follows itself commands arrivals first run.turns last run.served (λ b is. absurd (cc is));
      }
