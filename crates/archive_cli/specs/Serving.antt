-- How serving the archive on a disk ends, and what it does there.
use Rattle.std.specs.Prelude.{◌≡◌, ◌≤◌, ℕ, List, [], ◌∷◌, ◌++◌, Bool, true, Option, Some, None, Err}
use Rattle.std.specs.List.{Contains}
use Rattle.arch_base.specs.Counts.{RoseIf}
use Rattle.disk_model.specs.declared.disk.Disk.{Ghosts as Disk}
use Rattle.disk_model.specs.Disk.{Files, Image, BothTold, WhereTold}
use Rattle.disk_model.specs.Moments.{LeavesOnly}
use Rattle.edge_io.specs.declared.host.Host.{Ghosts as Host}
use Rattle.edge_io.specs.Frames.{Outputs}
use Rattle.edge_io.specs.Hosts as hosts
use Rattle.edge_io.specs.Scripts.{Arrival}
use Rattle.line_door.specs.Course.{SessionState}
use Rattle.keep_course.specs.Courses.{afters, archives_of}
use Rattle.root_slots.specs.Between.{BetweenStays}
use Rattle.root_slots.specs.OneRoot.{BeginsNoRoot}
use Rattle.arch_model.specs.Archives.{Archive}
use Rattle.arch_model.specs.Following.{Follows}
use Rattle.arch_model.specs.Standing.{LastKnown, standing, one_of}
use Rattle.arch_model.specs.declared.opening.OpenRefusal.{OpenRefusal}
use Rattle.arch_model.specs.declared.opening.OpenRefusal.TheVariants as opening
use Rattle.store_finding.specs.Files.{as_read}
use Rattle.epoch_store.specs.Opens.{OpensFiles, IsOnlySynced, ReadsWith, AllRecoverWith, SyncsFirst, SyncsAtMost}
use Rattle.archive_core.specs.Engines.{Owning, engine_of, is_ready, RecoversOrBare, AllRecoverOrBare, BetweenSince, FilesAreOn, FilesAreWith}
use Rattle.archive_core.specs.Openings.{LeavesKindly}
use Rattle.answer_lines.specs.Lines.{whole_line, memory_word}
use Rattle.node_serve.specs.Ends.{ServingEnds, is_stop, given_after, before_all}
use Rattle.node_serve.specs.Nodes.{Stage, EventStages, Along, GoesAnyway, GoesReading, GoesCounting, TurnKept, ActsAlong, UpdatesKept, RunsTo, outputs_noted, places_in, world_at}
use Rattle.node_serve.specs.Doors.{SessionAtWork}
use Rattle.node_serve.specs.Turns.{Turn, passed_in}
use Rattle.node_serve.specs.World.{HostState, NodeState, at_host}
use Rattle.node_serve.specs.declared.serving.ServeEnd.{ServeEnd}
use Rattle.node_serve.specs.declared.serving.ServeEnd.TheVariants as end
use Rattle.node_serve.specs.declared.updates.Idling.TheVariants.{Nobody}
use Rattle.archive_cli.specs.DiskCommands.{StandsAs, StaysUnopened}
use Rattle.archive_cli.specs.OpenedFiles.{OnlySettled}
use Rattle.archive_cli.specs.Outcomes.{refusal_line, refusal_status}
use Rattle.archive_cli.specs.declared.status.Status.{Status}
use Rattle.archive_cli.specs.declared.status.Status.TheVariants as exit

-- The status by how serving ended.
abbrev pub end_status : ServeEnd → Status
end_status end.Stopped = exit.Done
end_status (end.Spent n) = exit.Spent
end_status end.HostFault = exit.Edges
end_status end.NoMemory = exit.Memory

-- What is printed then: nothing, or that memory ran out.
abbrev pub end_line : ServeEnd → List ℕ
end_line end.NoMemory = memory_word
end_line other = []

-- How a run of `serve` ended: the archive wasn't opened, and no event was taken; or it was served.
pub data ServeRun : Type 0 where
  Shut : OpenRefusal → ServeRun
  Ended : ServeEnd → ServeRun

-- The status of a run by how it ended.
abbrev pub run_status : ServeRun → Status
run_status (Shut why) = refusal_status why
run_status (Ended how) = end_status how

-- What is printed of it: a line of why the archive was not opened, or what serving ended with.
abbrev pub run_line : ServeRun → List ℕ
run_line (Shut why) = whole_line (refusal_line why)
run_line (Ended how) = end_line how

-- The host of a run: the events that it gave and has left, its count of faults, and the outside of
-- its connections with the disk's count of faults.
pub record HostGiven : Type 0 where
  pub given : hosts.ToldEvents
  pub left : hosts.ToldEvents
  pub faults : ℕ
  pub out : HostState

-- The host of these four parts.
abbrev pub hosted : hosts.ToldEvents → hosts.ToldEvents → ℕ → HostState → HostGiven
hosted given left faults out = record { given = given; left = left; faults = faults; out = out }

-- A run took these events from its host, which gave no others.
pub record TookFrom (arrivals : List Arrival) (i j : HostGiven) : Type 0 where
  pub given_is : j.given ≡ given_after i.given arrivals
  pub left_is : i.left ≡ before_all arrivals j.left
  pub later : i.faults ≤ j.faults

-- All of the host of a run stayed: it wasn't asked, and nothing was sent. Of the disk's count of
-- faults nothing is said.
pub record HostKept (i j : HostGiven) : Type 0 where
  pub given_kept : j.given ≡ i.given
  pub left_kept : j.left ≡ i.left
  pub faults_kept : j.faults ≡ i.faults
  pub taken_kept : j.out.taken ≡ i.out.taken
  pub closings_kept : j.out.closings ≡ i.out.closings
  pub lost_kept : j.out.lost ≡ i.out.lost
  pub closed_at_kept : j.out.closed_at ≡ i.out.closed_at

-- The archive of a standing follows an archive, and the one in doubt there follows the standing's:
-- no number of the one names a second message in the other.
pub record FollowsIn (a : Archive) (s : LastKnown) : Type 0 where
  pub archive : Follows a s.archive
  pub in_doubt : (b : Archive) → s.in_doubt ≡ Some b → Follows s.archive b

-- Each of these standings follows the archive of the one before it.
abbrev pub FollowOn : Archive → List LastKnown → Type 0
FollowOn a [] = Unit {0}
FollowOn a (s ∷ ss) = FollowsIn a s × FollowOn s.archive ss

-- Before the first event no connection has a session, which is noted, and this is outside of the node.
pub record IsFirstStage {K : Type 0} (first : Stage K) (out : HostState) : Type 0 where
  pub unopened : (c : ℕ) → (places_in first.node).session c ≡ None
  pub count : (places_in first.node).count ≡ 0
  pub noted : first.node.idling ≡ Nobody
  pub out_is : first.out ≡ out

-- A disk, by its content and by what each crash since a moment may have left.
module _ {D : Type 0} (g : Disk D) where
  -- A crash since the first state leaves files that stand for one of these archives, with a cache of
  -- these bytes or with none.
  pub record CrashLeaves (old new : D) (cache : List ℕ) (may : List (Option Archive)) : Type 0 where
    pub later : g.moment old ≤ g.moment new
    pub each : (image : Files) → g.left_since new (g.moment old) image
        → RecoversOrBare cache may image

  -- Each crash since a later state has left a root file with the bytes between its gates and its bodies
  -- of one that a crash of the first state might have left.
  pub record StaysBetween (old opened new : D) : Type 0 where
    pub later : g.moment opened ≤ g.moment new
    pub each : (image : Files) → g.left_since new (g.moment opened) image
        → BetweenStays (g.content old) image

  -- The disk `at` stood for the archive of a standing, or for the one in doubt there; if nothing was, it
  -- had exactly the archive's files. A crash since then, up to the disk `last`, leaves one of the two, or
  -- an archive of one of these later standings, or one that was in doubt there. The bytes between the
  -- gates and the bodies of the root file stayed.
  pub record StoodFor (s : LastKnown) (later : List LastKnown) (at last : D) : Type 0 where
    pub stood : (cache : List ℕ) × AllRecoverOrBare cache (one_of s) (g.content at)
    pub rested : s.in_doubt ≡ None → FilesAreOn s.archive (g.content at)
    pub crash : (cache : List ℕ) × CrashLeaves at last cache (archives_of (s ∷ later))
    pub crash_between : BetweenSince g at last

  -- After each of some acts, which left these standings, the disk of the engine stood for the standing of
  -- that moment, and a crash since then, up to the disk `last`, leaves that one or a later one. `later`
  -- stood after these acts. Each of these disks comes no earlier than the one before it.
  abbrev pub StoodAlong : List LastKnown → D → Owning D → List (Owning D) → List LastKnown → Type 0
  StoodAlong later last old [] [] = Unit {0}
  StoodAlong later last old [] (s ∷ ss) = ⊥
  StoodAlong later last old (k ∷ ks) [] = ⊥
  StoodAlong later last old (k ∷ ks) (s ∷ ss) = (g.moment old.disk ≤ g.moment k.disk)
      × StoodFor s (ss ++ later) k.disk last × StoodAlong later last k ks ss

  -- Beside the talks of a session at a moment stands the engine after each act, and its disk so.
  abbrev pub EnginesAlong : List LastKnown → D → ℕ → Owning D → SessionState SessionAtWork LastKnown
      → List (Owning D) → List (SessionState SessionAtWork LastKnown) → Owning D → Type 0
  EnginesAlong later last moment old w ks ms new =
      ActsAlong (engine_of g) moment old w ks ms new × StoodAlong later last old ks (afters ms)

  -- One turn was taken. The disk stood so after each of its acts, and after its updates, before which the
  -- engine was reopened if a session idled. `later` stood after the turn.
  pub record ActedOnce (later : List LastKnown) (last : D) (e : Arrival) (old : Owning D) (w : NodeState)
      (m : EventStages (Owning D)) (t : Turn)
      : Type 0 where
    pub acts : TurnKept (EnginesAlong later last) e old w t.passed m.acted.node.keep t.between
    pub updates : UpdatesKept (engine_of g) (is_stop e.0.what) m.acted.node.keep t.between
        m.after.node.keep t.after
    pub moment : g.moment m.acted.node.keep.disk ≤ g.moment m.after.node.keep.disk
    pub stood : StoodFor t.after.standing later m.after.node.keep.disk last

  -- These turns were taken in order, from one stage to the next.
  abbrev pub ActedAlong : D → List Arrival → Owning D → NodeState → List (EventStages (Owning D))
      → List Turn → Type 0
  ActedAlong last [] old w [] [] = Unit {0}
  ActedAlong last [] old w [] (t ∷ ts) = ⊥
  ActedAlong last [] old w (m ∷ ms) ts = ⊥
  ActedAlong last (e ∷ es) old w [] ts = ⊥
  ActedAlong last (e ∷ es) old w (m ∷ ms) [] = ⊥
  ActedAlong last (e ∷ es) old w (m ∷ ms) (t ∷ ts) = ActedOnce (passed_in ts) last e old w m t
      × ActedAlong last es m.after.node.keep t.after ms ts

  -- This archive was found, and the events were taken to their end, one after another through these
  -- stages, each with its replies over the archive of that moment. In each act of each event a crash leaves
  -- the archive before it or the one after it, or one in doubt there; the count of faults after it is the
  -- disk's own; and a reopening changes nothing where the engine is ready.
  --
  -- Until the disk was synced, a crash leaves what it might have left before; from then on the archive
  -- that was found, or one of a standing after one of the acts, or one in doubt there. So where the disk
  -- stood for one of some archives, a crash leaves one of these, or one of the latter. Before each
  -- event, and after the last one, the disk stood for the archive of that moment, and a crash since
  -- then leaves that one or a later one: so no acknowledged command is lost. Where nothing is in doubt
  -- then, the disk has exactly the archive's files, and all that reads give is on it: so no text stays
  -- that a purge dropped. At the end the cache is that with which the archive was found, or there is
  -- none, and so it is after each crash. No number names a second message. Once the archive was opened
  -- the bytes between the gates and the bodies of the root file stay, too.
  pub record ServedOn (found : Archive) (old opened new : D) (arrivals : List Arrival)
      (first : Stage (Owning D)) (stages : List (EventStages (Owning D))) (last : Stage (Owning D))
      : Type 0 where
    pub runs : RunsTo (engine_of g) arrivals (standing found None) first.node first.out stages
        last.node last.out
    pub stands : (cache : List ℕ) × AllRecoverOrBare cache (one_of runs.after) (g.content new)
    pub files_are : runs.after.in_doubt ≡ None → (cache : List ℕ) → ReadsWith cache found (g.content old)
        → FilesAreWith cache runs.after.archive (g.content new)
    pub synced : D
    pub only : BothTold IsOnlySynced (g.content old) (g.content synced)
    pub before : LeavesOnly g old synced (Image (g.content old))
    pub after : (cache : List ℕ) → ReadsWith cache found (g.content old)
        → CrashLeaves synced new cache (archives_of (standing found None ∷ passed_in runs.turns))
    pub crash : (may : List (Option Archive)) (cache : List ℕ) → Contains may (Some found)
        → AllRecoverWith cache may (g.content old)
        → CrashLeaves old new cache (may ++ archives_of (passed_in runs.turns))
        × BetweenSince g old new
    pub crash_between : StaysBetween old opened new
    pub stood : StoodFor (standing found None) (passed_in runs.turns) first.node.keep.disk new
    pub acted : ActedAlong new arrivals first.node.keep (world_at (standing found None) first) stages
        runs.turns
    pub numbers : FollowOn found (passed_in runs.turns)

  -- The archive wasn't opened. The refusal is that of the files as they read, the disk is left as it
  -- stood, no root was begun, and the host wasn't asked. The disk's count of faults rose exactly if it
  -- failed.
  pub record ShutOut (why : OpenRefusal) (old new : D) (i j : HostGiven)
      (recorded recorded' : List Outputs → Type 0) : Type 0 where
    pub kept : HostKept i j
    pub answer : WhereTold (λ k. OpensFiles (as_read k) (Err why)) (g.content old)
    pub unopened : LeavesKindly why (g.content old) (g.content new)
    pub crash : SyncsAtMost g old new
    pub crash_root : BeginsNoRoot g old new
    pub stands : (s : LastKnown) (cache : List ℕ) → StandsAs cache s (g.content old)
        → (t : LastKnown)
        × StandsAs cache t (g.content new) × StaysUnopened s (g.content old) why t
    pub cause : RoseIf (why ≡ opening.DiskFault) i.out.disk j.out.disk
    pub records : (past : List Outputs) → recorded past → recorded' past

  -- The archive was opened, which synced the disk, and then settled it by the root that was found; no
  -- root was begun by that. Then serving took these events and ended by them, each from one stage to
  -- the next: at a stage stand the engine, which is the disk, what is kept in memory of its archive,
  -- and whether it has to be reopened; and the sessions over it. It is ready at first. Whatever the
  -- disk held, as where a file was found damaged, an event changed nothing of other connections, but of
  -- those whose sessions idle; only a piece, or a reopening for one that idles, used the disk, and a
  -- piece read no more than it asks for; and at each stage the count of faults is the disk's own. The
  -- events were served over the archive as which the files read, whatever its cache.
  --
  -- The host, whose records these are, was asked before each event, when all before it had been
  -- answered, and at the end if it then answered that none is left.
  pub record ServedBy (how : ServeEnd) (turns : ℕ) (old new : D) (i j : HostGiven)
      (recorded recorded' : List Outputs → Type 0) : Type 0 where
    pub arrivals : List Arrival
    pub took : TookFrom arrivals i j
    pub none : Bool
    pub ends : ServingEnds how none arrivals turns j.left i.faults j.faults
    pub opened : D
    pub settles : OnlySettled (g.content old) (g.content opened)
    pub crash : SyncsFirst g old opened
    pub crash_root : BeginsNoRoot g old opened
    pub first : Stage (Owning D)
    pub begins : IsFirstStage first i.out
    pub first_disk : first.node.keep.disk ≡ opened
    pub first_ready : is_ready first.node.keep ≡ true
    pub first_counts : first.out.disk ≡ g.faults first.node.keep.disk
    pub stages : List (EventStages (Owning D))
    pub last : Stage (Owning D)
    pub last_disk : last.node.keep.disk ≡ new
    pub last_out : last.out ≡ j.out
    pub anyway : Along GoesAnyway arrivals first stages last
    pub reads_few : Along (GoesReading (engine_of g)) arrivals first stages last
    pub counts : Along (GoesCounting (engine_of g).faults) arrivals first stages last
    pub records : (past : List Outputs) → recorded past
        → recorded' (past ++ outputs_noted none first stages last)
    pub served : (found : Archive) (cache : List ℕ) → ReadsWith cache found (g.content old)
        → ServedOn found old opened new arrivals first stages last

  -- What a run of `serve` did, by how it ended.
  abbrev pub ServesDisk : ℕ → ServeRun → D → D → HostGiven → HostGiven → (List Outputs → Type 0)
      → (List Outputs → Type 0) → Type 0
  ServesDisk turns (Shut why) old new i j recorded recorded' =
      ShutOut why old new i j recorded recorded'
  ServesDisk turns (Ended how) old new i j recorded recorded' =
      ServedBy how turns old new i j recorded recorded'

-- What a host gave, and the outside, at this disk.
abbrev pub hosted_at : {D H : Type 0} → Disk D → Host H → D → H → HostGiven
hosted_at d h disk host =
    hosted (h.given host) (h.left host) (h.faults host) (at_host h host (d.faults disk))

-- What a run of `serve` did, said of the disk and of the host.
abbrev pub ServesDiskAt : {D H : Type 0} → Disk D → Host H → ℕ → ServeRun → D → H → D → H → Type 0
ServesDiskAt d h turns run old i new j = ServesDisk d turns run old new (hosted_at d h old i)
    (hosted_at d h new j) (h.recorded i) (h.recorded j)
