-- The reopening of the archive before updates, and what a node's updates are then.
use Rattle.std.proofs.Common.{◌≡◌, ◌≤◌, ◌<◌, ◌⊎◌, ℕ, Bool, true, false, List, [], ◌∷◌, Option, None, Ok, refl, sym, ap, subst, ◌∙◌, arith, inl, inr}
use Rattle.std.proofs.lemmas.Bool.{false≢true}
use Rattle.line_door.specs.Acts.{Plain, Memory, Disk, Newer, outside, held_if}
use Rattle.arch_model.specs.Archives.{Archive}
use Rattle.arch_model.specs.Keeping.{CrashesLeaveOnly, MatchesKnown, KeeperMoves, Settles, ReopeningRefused, OpeningWhy, Keeper}
use Rattle.arch_model.specs.Standing.{LastKnown, standing, IsFound}
use Rattle.arch_model.specs.declared.opening.OpenRefusal.{OpenRefusal}
use Rattle.arch_model.specs.declared.opening.OpenRefusal.TheVariants as opening
use Rattle.keep_course.specs.Answering.{newer_of, ReopenedAs}
use Rattle.keep_course.proofs.Commands.{reopening-nothing, reopening-refused}
use Rattle.node_serve.specs.Laws.{UpdatesOnce}
use Rattle.node_serve.specs.Nodes.{OpenSessions, serving, session_of, places_of, world_of, NodeSuits, KeeperReopened, ReopenedIf, UpdatesTo}
use Rattle.node_serve.specs.Suiting.{NotedIs}
use Rattle.node_serve.specs.Updates.{idles_if, any_idles, connection_limit, EachBelow, EachIf, UpdateAt, reopening, ReopenedFor, UpdatedIf, UpdatedThrough, AllTold}
use Rattle.node_serve.specs.World.{HostState, NodeState, with_disk}
use Rattle.node_serve.specs.declared.session.Session.{Session}
use Rattle.node_serve.specs.declared.updates.Idling.{Idling}
use Rattle.node_serve.specs.declared.updates.Idling.TheVariants.{Nobody, Told, Untold}
use Rattle.node_serve.proofs.Updating.{one-idles, none-idles}

-- The archive was reopened.
module _ (s t : LastKnown) (p : OpenSessions) (o : HostState) (disk : ℕ) where
  reopened-found : Settles s t → disk ≡ o.disk → ReopenedFor true (world_of s p o) (world_of (standing t.archive None) p (with_disk disk o))
  reopened-found settles kept = by settles.found
    where
      by : IsFound s t.archive → ReopenedFor true (world_of s p o) (world_of (standing t.archive None) p (with_disk disk o))
      by (inl older) = record {
        way = Plain;
        cause = kept;
        disk_later = omega (arith, kept);
        opened_is = refl;
        world_is = ap (λ (a : Archive). world_of (standing a None) p (with_disk disk o)) older;
      }
      by (inr in_doubt) = record {
        way = Newer;
        cause = kept;
        disk_later = omega (arith, kept);
        opened_is = refl;
        world_is = ap (λ (a : Archive). world_of (standing a None) p (with_disk disk o)) (sym (ap (newer_of s.archive) in_doubt));
      }

  -- It was refused.
  reopened-refused : (why : OpenRefusal) → ReopeningRefused s why t → OpeningWhy o.disk disk why → o.disk ≤ disk → ReopenedFor false (world_of s p o) (world_of t p (with_disk disk o))
  reopened-refused opening.DiskFault same cause later = record {
    way = Disk;
    cause = cause;
    disk_later = later;
    opened_is = refl;
    world_is = ap (λ (x : LastKnown). world_of x p (with_disk disk o)) same;
  }
  reopened-refused opening.NoMemory same cause later = record {
    way = Memory;
    cause = cause;
    disk_later = later;
    opened_is = refl;
    world_is = ap (λ (x : LastKnown). world_of x p (with_disk disk o)) same;
  }
  reopened-refused opening.NoArchive never cause later = absurd never
  reopened-refused (opening.Damaged file at) never cause later = absurd never

-- A refusal says nothing, whatever it is.
abbrev says-none : OpenRefusal → List ℕ
says-none why = []

-- What is known after a reopening that found an archive.
settled-is : (s t : LastKnown) → Settles s t → t ≡ standing t.archive None
settled-is s t settles = ap (λ (d : Option Archive). standing t.archive d) settles.sure

-- A keeper is left alone where no session idles and where it is ready.
pub left-alone : {K : Type 0} (g : Keeper K) (session : ℕ → Option Session) (old new : K) (c : ℕ) → c < connection_limit → idles_if (session c) ≡ true → (g.ready old ≡ true → new ≡ old) → (false ≡ true) ⊎ ((any_idles session ≡ false) ⊎ (g.ready old ≡ true)) → new ≡ old
left-alone g session old new c low on nothing (inl never) = absurd (false≢true never)
left-alone g session old new c low on nothing (inr (inl none)) = absurd (false≢true (sym none ∙ one-idles session c low on))
left-alone g session old new c low on nothing (inr (inr ready)) = nothing ready

-- Updates of a node.
module _ {K : Type 0} (g : Keeper K) (s : LastKnown) (old : K) (p : List (ℕ × Session)) (i : HostState) where
  -- None is given: no session idles.
  never-given : (before after : Idling) → MatchesKnown g old s → any_idles (session_of p) ≡ false → NotedIs after (world_of s (places_of p) i) → (after ≡ Told → g.ready old ≡ true) → UpdatesTo g false s (serving old p before) i (serving old p after) i
  never-given before after fits never noted ready =
      let w = world_of s (places_of p) i in
      record {
        after = s;
        fits = fits;
        reopened = [];
        updated = subst (λ (t : Bool). UpdatedIf t w [] w) (sym never) (refl, refl);
        kept = subst (λ (t : Bool). ReopenedIf g t old w old w) (sym never) refl;
        noted = noted;
        ready = ready;
      }

  -- It is noted that no session idles.
  pub updates-none : (before : Idling) → MatchesKnown g old s → ((c : ℕ) → c < connection_limit → idles_if (session_of p c) ≡ false) → UpdatesTo g false s (serving old p before) i (serving old p Nobody) i
  updates-none before fits none = never-given before Nobody fits (none-idles (session_of p) none) none (λ told. absurd (cc told))

  module _ (new : K) (before : Idling) (idle : any_idles (session_of p) ≡ true) where
    -- The archive was reopened, and each session that idles was given its update.
    pub updates-given : (t : LastKnown) (q : List (ℕ × Session)) (j : HostState) → UpdatesOnce → KeeperMoves g old s new t → Settles s t → (g.ready old ≡ false → g.finds old new t.archive) → g.ready new ≡ true → (g.ready old ≡ true → new ≡ old) → (g.ready old ≡ true → s.in_doubt ≡ None)
        → CrashesLeaveOnly g.leaves old new [] → j.disk ≡ i.disk → j.disk ≡ g.faults new
        → EachBelow UpdateAt connection_limit (world_of (standing t.archive None) (places_of p) (with_disk j.disk i)) (world_of (standing t.archive None) (places_of q) j) → UpdatesTo g false s (serving old p before) i (serving new q Told) j
    updates-given t q j law moves settles finds ready nothing sure leaves kept disk each =
        let w = world_of s (places_of p) i in
        let u = standing t.archive None in
        let v = world_of u (places_of q) j in
        let m = world_of u (places_of p) (with_disk j.disk i) in
        let later : KeeperMoves g old s new u = subst (λ (x : LastKnown). KeeperMoves g old s new x) (settled-is s t settles) moves in
        let through : UpdatedThrough w (u ∷ []) v = record {
          opened = true;
          refreshed = m;
          reopening_is = reopened-found s t (places_of p) i j.disk settles kept;
          each = each;
          reopened_is = refl;
        } in
        let does : ReopenedAs g (reopening s) old (outside None i.disk i.lost) (held_if true tt) new u (outside None j.disk i.lost) = record {
          nothing = λ at_hand. (nothing at_hand, reopening-nothing says-none s tt u (outside None i.disk i.lost) (outside None j.disk i.lost) (sure at_hand) (record { found = settles.found; sure = refl }) kept refl refl);
          found = λ stale at_hand. finds stale;
          ends = inl ready;
        } in
        let opened : KeeperReopened g old w new v = record {
          moves = later;
          does = subst (λ (b : Bool). ReopenedAs g (reopening s) old (outside None i.disk i.lost) (held_if b tt) new u (outside None j.disk i.lost)) (sym ready) does;
          disk = disk;
          leaves = leaves;
          each = subst (λ (b : Bool). EachIf b m v) (sym ready) each;
        } in
        record {
          after = u;
          fits = later.fits;
          reopened = u ∷ [];
          updated = subst (λ (b : Bool). UpdatedIf b w (u ∷ []) v) (sym idle) through;
          kept = subst (λ (b : Bool). ReopenedIf g b old w new v) (sym idle) opened;
          noted = (law.told m v each, refl);
          ready = λ told. ready;
        }

    -- The archive could not be reopened, and no session was given an update.
    pub updates-refused : (t : LastKnown) (why : OpenRefusal) (j : HostState) → KeeperMoves g old s new t → ReopeningRefused s why t → OpeningWhy i.disk j.disk why → i.disk ≤ j.disk → g.ready new ≡ false → (g.ready old ≡ true → ⊥)
        → CrashesLeaveOnly g.leaves old new [] → j ≡ with_disk j.disk i → j.disk ≡ g.faults new → UpdatesTo g false s (serving old p before) i (serving new p Untold) j
    updates-refused t why j moves refused cause later ready stale leaves out disk =
        let w = world_of s (places_of p) i in
        let v = world_of t (places_of p) j in
        let same : v ≡ world_of t (places_of p) (with_disk j.disk i) = ap (λ (x : HostState). world_of t (places_of p) x) out in
        let at : ReopenedFor false w v = subst (λ (x : NodeState). ReopenedFor false w x) (sym same) (reopened-refused s t (places_of p) i j.disk why refused cause later) in
        let acts = reopening-refused says-none s tt t why (outside None i.disk i.lost) (outside None j.disk i.lost) (Ok tt) refused cause later (refl, refl) in
        let through : UpdatedThrough w (t ∷ []) v = record { opened = false; refreshed = v; reopening_is = at; each = refl; reopened_is = refl } in
        let does : ReopenedAs g (reopening s) old (outside None i.disk i.lost) (held_if false tt) new t (outside None j.disk i.lost) = record {
          nothing = λ at_hand. absurd (stale at_hand);
          found = λ was at_hand. absurd (false≢true (sym ready ∙ at_hand));
          ends = inr (ready, acts.1);
        } in
        let opened : KeeperReopened g old w new v = record {
          moves = moves;
          does = subst (λ (b : Bool). ReopenedAs g (reopening s) old (outside None i.disk i.lost) (held_if b tt) new t (outside None j.disk i.lost)) (sym ready) does;
          disk = disk;
          leaves = leaves;
          each = subst (λ (b : Bool). EachIf b (world_of t (places_of p) (with_disk j.disk i)) v) (sym ready) same;
        } in
        record {
          after = t;
          fits = moves.fits;
          reopened = t ∷ [];
          updated = subst (λ (b : Bool). UpdatedIf b w (t ∷ []) v) (sym idle) through;
          kept = subst (λ (b : Bool). ReopenedIf g b old w new v) (sym idle) opened;
          noted = tt;
          ready = λ told. absurd (cc told);
        }

  -- Those that idle were told before, and the keeper is ready: to do nothing is to give the updates.
  told-by : UpdatesOnce → MatchesKnown g old s → NodeSuits g s (serving old p Told) i → i.disk ≡ g.faults old → (t : Bool) → any_idles (session_of p) ≡ t → UpdatesTo g false s (serving old p Told) i (serving old p Told) i
  told-by law fits suits disk true idle =
      let settles : Settles s s = record { found = inl refl; sure = suits.noted.1 } in
      let ready = suits.ready refl in
      let told : AllTold (world_of (standing s.archive None) (places_of p) i) = subst (λ (x : LastKnown). AllTold (world_of x (places_of p) i)) (settled-is s s settles) suits.noted.0 in
      updates-given old Told idle s p i law (record { fits = fits; passes = λ start may has since. since }) settles (λ stale. absurd (false≢true (sym stale ∙ ready))) ready (λ at_hand. refl) (λ at_hand. suits.noted.1) (λ start may has since. since) refl disk (law.nothing (world_of (standing s.archive None) (places_of p) i) told)
  told-by law fits suits disk false never = never-given Told Told fits never suits.noted suits.ready

  -- The same, whether a session idles or not.
  pub updates-told : UpdatesOnce → MatchesKnown g old s → NodeSuits g s (serving old p Told) i → i.disk ≡ g.faults old → UpdatesTo g false s (serving old p Told) i (serving old p Told) i
  updates-told law fits suits disk = told-by law fits suits disk (any_idles (session_of p)) refl
