-- No number names a second message while events are served.
use Rattle.std.proofs.Common.{◌≡◌, ℕ, Bool, true, false, List, [], ◌∷◌, ◌++◌, Option, Some, None, sym, ap, subst}
use Rattle.edge_io.specs.Scripts.{Arrival}
use Rattle.edge_io.specs.declared.events.What.{What}
use Rattle.edge_io.specs.declared.events.What.TheVariants as what
use Rattle.line_door.specs.Acts.{ConnectionState, Acts}
use Rattle.line_door.specs.Course.{SessionState, talk, Requests, Last}
use Rattle.arch_model.specs.Archives.{Archive}
use Rattle.arch_model.specs.Following.{Follows, FollowsItself}
use Rattle.arch_model.specs.Laws.{CommandFollows}
use Rattle.arch_model.specs.Standing.{LastKnown}
use Rattle.keep_course.specs.Courses.{afters}
use Rattle.node_serve.specs.Doors.{SessionAtWork, Came, said, is_asked}
use Rattle.node_serve.specs.Ends.{is_stop}
use Rattle.node_serve.specs.Turns.{Turn, CameTo, ActedBy, Acted, Served, passed_in}
use Rattle.node_serve.specs.Updates.{connection_limit, any_idles, EachIf, UpdatedIf, UpdatedUnless}
use Rattle.node_serve.specs.World.{NodeState}
use Rattle.node_serve.specs.declared.session.Session.{Session}
use Rattle.node_serve.proofs.Later.{DoubtLater, LaterIn, acts-after, making-after, updates-stand, said-later, reopened-later, acts-later}
use Rattle.archive_cli.specs.Serving.{FollowsIn, FollowOn}

-- The archive in doubt, if there is one, follows the other.
abbrev DoubtFollows : LastKnown → Type 0
DoubtFollows s = DoubtLater Follows s

-- What follows an archive, as the promise says it.
follows-in : (a : Archive) (s : LastKnown) → LaterIn Follows a s → FollowsIn a s
follows-in a s later = record { archive = later.archive; in_doubt = later.in_doubt }

-- Updates leave what stands after the reopening before them.
each-stands : (opened : Bool) (w v : NodeState) → EachIf opened w v → v.standing ≡ w.standing
each-stands true w v each = updates-stand connection_limit w v each
each-stands false w v same = ap (λ (x : NodeState). x.standing) same

-- The laws of archives that follow one another.
module _ (itself : FollowsItself) (commands : CommandFollows) where
  -- The acts of a piece, and what comes after them.
  module _ (moment : ℕ) where
    act-follows : (s : LastKnown) (h : SessionAtWork) (i : ConnectionState) (held : Option SessionAtWork) (t : LastKnown) (j : ConnectionState) → Acts (said moment s h) i held t j → DoubtFollows s → FollowsIn s.archive t
    act-follows s h i held t j acts kept =
        follows-in s.archive t (acts-later Follows (said moment s h) s.archive i held t j (λ way. said-later Follows itself moment (λ a command. commands a command moment) s h way kept) acts)

    last-follows : (m v : SessionState SessionAtWork LastKnown) → Last (said moment) is_asked m v → DoubtFollows m.after → FollowsIn m.after.archive v.after
    last-follows m v last kept = act-follows m.after last.before m.outside v.held v.after v.outside last.step.acts kept

    piece-follows : (w : SessionState SessionAtWork LastKnown) (acts : List (SessionState SessionAtWork LastKnown)) (m v : SessionState SessionAtWork LastKnown) (rest : List LastKnown) → Requests (said moment) is_asked w acts m → Last (said moment) is_asked m v → DoubtFollows w.after
        → FollowOn v.after.archive rest → FollowOn w.after.archive (afters (acts ++ v ∷ []) ++ rest)
    piece-follows w [] m v rest each last kept later =
        let last-of : FollowsIn w.after.archive v.after = last-follows w v (subst (λ (t : SessionState SessionAtWork LastKnown). Last (said moment) is_asked t v) each last) kept in
        (last-of, later)
    piece-follows w (x ∷ xs) m v rest each last kept later =
        let one : FollowsIn w.after.archive x.after = act-follows w.after each.0.0 w.outside x.held x.after x.outside each.0.2.acts kept in
        (one, piece-follows x xs m v rest each.1 last one.in_doubt later)

    piece-kept : (w : SessionState SessionAtWork LastKnown) (acts : List (SessionState SessionAtWork LastKnown)) (m v : SessionState SessionAtWork LastKnown) → Requests (said moment) is_asked w acts m → Last (said moment) is_asked m v → DoubtFollows w.after → DoubtFollows v.after
    piece-kept w [] m v each last kept = (last-follows w v (subst (λ (t : SessionState SessionAtWork LastKnown). Last (said moment) is_asked t v) each last) kept).in_doubt
    piece-kept w (x ∷ xs) m v each last kept =
        let one : FollowsIn w.after.archive x.after = act-follows w.after each.0.0 w.outside x.held x.after x.outside each.0.2.acts kept in
        piece-kept x xs m v each.1 last one.in_doubt

  -- An event that changes no archive.
  same-follows : (w v : NodeState) (passed rest : List LastKnown) → v.standing ≡ w.standing → passed ≡ [] → FollowOn v.standing.archive rest → FollowOn w.standing.archive (passed ++ rest)
  same-follows w v passed rest same none later =
      subst (λ (ps : List LastKnown). FollowOn w.standing.archive (ps ++ rest)) (sym none) (subst (λ (s : LastKnown). FollowOn s.archive rest) same later)

  same-kept : (w v : NodeState) → v.standing ≡ w.standing → DoubtFollows w.standing → DoubtFollows v.standing
  same-kept w v same kept = subst DoubtFollows (sym same) kept

  -- The acts of an event, and what comes after them.
  acted-follows : (e : Arrival) (w : NodeState) (passed : List LastKnown) (v : NodeState) (rest : List LastKnown) → Acted e w passed v → DoubtFollows w.standing → FollowOn v.standing.archive rest → FollowOn w.standing.archive (passed ++ rest)
  acted-follows e w passed v rest acted kept later = by e.0.what acted
    where
      fed : (c : ℕ) (start : Option Session) → CameTo start e.0.moment c e.1 w passed v → FollowOn w.standing.archive (passed ++ rest)
      fed c None came = same-follows w v passed rest came.0.standing came.1 later
      fed c (Some start) came =
          subst (λ (ps : List LastKnown). FollowOn w.standing.archive (ps ++ rest)) (sym came.passed_is)
          (piece-follows e.0.moment (talk (Some (Came start e.1)) w.standing _) came.acts came.before (talk came.held v.standing _) rest came.each came.last kept later)

      by : (x : What) → ActedBy x e.0.moment e.1 w passed v → FollowOn w.standing.archive (passed ++ rest)
      by (what.Opened c at) t = same-follows w v passed rest (acts-after _ w.standing _ _ v.standing _ (λ way. making-after _ at _ w.standing way) t.0.acts) t.1 later
      by (what.Bytes c len) t = fed c (w.session c) t
      by (what.Ended c) t = same-follows w v passed rest t.0.standing t.1 later
      by what.Quiet t = same-follows w v passed rest t.0.standing t.1 later
      by what.Stop t = same-follows w v passed rest t.0.standing t.1 later

  acted-kept : (e : Arrival) (w : NodeState) (passed : List LastKnown) (v : NodeState) → Acted e w passed v → DoubtFollows w.standing → DoubtFollows v.standing
  acted-kept e w passed v acted kept = by e.0.what acted
    where
      fed : (c : ℕ) (start : Option Session) → CameTo start e.0.moment c e.1 w passed v → DoubtFollows v.standing
      fed c None came = same-kept w v came.0.standing kept
      fed c (Some start) came = piece-kept e.0.moment (talk (Some (Came start e.1)) w.standing _) came.acts came.before (talk came.held v.standing _) came.each came.last kept

      by : (x : What) → ActedBy x e.0.moment e.1 w passed v → DoubtFollows v.standing
      by (what.Opened c at) t = same-kept w v (acts-after _ w.standing _ _ v.standing _ (λ way. making-after _ at _ w.standing way) t.0.acts) kept
      by (what.Bytes c len) t = fed c (w.session c) t
      by (what.Ended c) t = same-kept w v t.0.standing kept
      by what.Quiet t = same-kept w v t.0.standing kept
      by what.Stop t = same-kept w v t.0.standing kept

  -- The updates after an event, and what comes after them.
  idle-follows : (idle : Bool) (w : NodeState) (reopened : List LastKnown) (v : NodeState) (rest : List LastKnown) → UpdatedIf idle w reopened v → DoubtFollows w.standing → FollowOn v.standing.archive rest → FollowOn w.standing.archive (reopened ++ rest)
  idle-follows true w reopened v rest updated kept later =
      let found = reopened-later Follows itself 0 (λ a command. commands a command 0) updated.opened w updated.refreshed updated.reopening_is kept in
      let same = each-stands updated.opened updated.refreshed v updated.each in
      subst (λ (ps : List LastKnown). FollowOn w.standing.archive (ps ++ rest)) (sym updated.reopened_is)
      (follows-in w.standing.archive updated.refreshed.standing found, subst (λ (s : LastKnown). FollowOn s.archive rest) same later)
  idle-follows false w reopened v rest updated kept later = same-follows w v reopened rest (ap (λ (x : NodeState). x.standing) updated.0) updated.1 later

  updated-follows : (stops : Bool) (w : NodeState) (reopened : List LastKnown) (v : NodeState) (rest : List LastKnown) → UpdatedUnless stops w reopened v → DoubtFollows w.standing → FollowOn v.standing.archive rest → FollowOn w.standing.archive (reopened ++ rest)
  updated-follows true w reopened v rest updated kept later = same-follows w v reopened rest (ap (λ (x : NodeState). x.standing) updated.0) updated.1 later
  updated-follows false w reopened v rest updated kept later = idle-follows (any_idles w.session) w reopened v rest updated kept later

  idle-kept : (idle : Bool) (w : NodeState) (reopened : List LastKnown) (v : NodeState) → UpdatedIf idle w reopened v → DoubtFollows w.standing → DoubtFollows v.standing
  idle-kept true w reopened v updated kept =
      let found = reopened-later Follows itself 0 (λ a command. commands a command 0) updated.opened w updated.refreshed updated.reopening_is kept in
      same-kept updated.refreshed v (each-stands updated.opened updated.refreshed v updated.each) found.in_doubt
  idle-kept false w reopened v updated kept = same-kept w v (ap (λ (x : NodeState). x.standing) updated.0) kept

  updated-kept : (stops : Bool) (w : NodeState) (reopened : List LastKnown) (v : NodeState) → UpdatedUnless stops w reopened v → DoubtFollows w.standing → DoubtFollows v.standing
  updated-kept true w reopened v updated kept = same-kept w v (ap (λ (x : NodeState). x.standing) updated.0) kept
  updated-kept false w reopened v updated kept = idle-kept (any_idles w.session) w reopened v updated kept

  -- All events.
  pub served-follows : (es : List Arrival) (w : NodeState) (ts : List Turn) (v : NodeState) → Served es w ts v → DoubtFollows w.standing → FollowOn w.standing.archive (passed_in ts)
  served-follows [] w [] v run kept = tt
  served-follows [] w (t ∷ ts) v never kept = absurd never
  served-follows (e ∷ es) w [] v never kept = absurd never
  served-follows (e ∷ es) w (t ∷ ts) v run kept =
      let between = acted-kept e w t.passed t.between run.0.0 kept in
      let after = updated-kept (is_stop e.0.what) t.between t.reopened t.after run.0.1 between in
      acted-follows e w t.passed t.between (t.reopened ++ passed_in ts) run.0.0 kept
      (updated-follows (is_stop e.0.what) t.between t.reopened t.after (passed_in ts) run.0.1 between (served-follows es t.after ts v run.1 after))
