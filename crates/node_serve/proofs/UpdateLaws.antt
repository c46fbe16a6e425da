-- An update after an update says nothing.
use Rattle.std.proofs.Common.{◌≡◌, ◌≢◌, ◌⊎◌, ◌<◌, ℕ, zero, suc, Bool, true, false, Option, Some, None, refl, sym, ap, subst, ◌∙◌, arith, inl, inr, if◌then◌else◌}
use Rattle.std.proofs.lemmas.Bool.{false≢true}
use Rattle.line_door.specs.Acts.{ConnectionState, Said, Departure, Plain, Memory, Disk, Newer, Sent}
use Rattle.line_door.specs.Over.{held_over, said_over}
use Rattle.line_door.specs.Plain.{silent}
use Rattle.line_door.proofs.Acting.{stops-closed, acts-silent}
use Rattle.arch_model.specs.Archives.{Archive}
use Rattle.arch_model.specs.Standing.{LastKnown, standing}
use Rattle.imap_framer.specs.Doors.{beside}
use Rattle.imap_session.specs.Door.{ImapClient}
use Rattle.imap_session.specs.Idling as idling
use Rattle.imap_session.specs.Laws.{ImapLaws}
use Rattle.imap_states.specs.Replies.{updated, update_said}
use Rattle.imap_states.specs.States as states
use Rattle.node_serve.specs.Laws.{UpdatesOnce}
use Rattle.node_serve.specs.Updates.{connection_limit, idles, idles_if, EachBelow, IfIdles, said_update, UpdateAct, UpdateBy, UpdateAt, IsTold, AllTold}
use Rattle.node_serve.specs.World.{NodeState, outside_at}
use Rattle.node_serve.specs.declared.session.Session.{Session}
use Rattle.node_serve.specs.declared.session.Session.TheVariants as session
use Rattle.node_serve.proofs.Counting.{this-or, update-cases}
use Rattle.node_serve.proofs.Later.{update-stands}
use Rattle.node_serve.proofs.PlainUpdates.{update-kept}
use Rattle.node_serve.proofs.Updating.{around-same}

-- After an update the door's session is closed, or its client knows what is there.
door-next : (a : Archive) (client : ImapClient) (way : Departure) → ((idling.said_update a client way).next ≡ None) ⊎ ((idling.said_update a client way).next ≡ Some (idling.updated_client a client))
door-next a client way = by (states.idles client.0) way
  where
    by : (t : Bool) (by_way : Departure) → ((if t then beside client.1 (update_said a client.0 by_way) else silent a client).next ≡ None) ⊎ ((if t then beside client.1 (update_said a client.0 by_way) else silent a client).next ≡ Some (if t then (updated a client.0, client.1) else client))
    by true Plain = inr refl
    by true Memory = inl refl
    by true Disk = inr refl
    by true Newer = inr refl
    by false by_way = inr refl

-- So it is among those of all doors.
update-next : (s : LastKnown) (client : ImapClient) (way : Departure) → ((said_update s (session.Imap client) way).next ≡ None) ⊎ ((said_update s (session.Imap client) way).next ≡ Some (session.Imap (idling.updated_client s.archive client)))
update-next s client way = elim (door-next s.archive client way) [ inl shut ↦ inl (ap (held_over session.Imap) shut) | inr kept ↦ inr (ap (held_over session.Imap) kept) ]

-- An act leaves what its words leave, or closes the session.
sent-next : (words : Departure → Said Session LastKnown) (k : Session) (i : ConnectionState) (held : Option Session) (a : LastKnown) (j : ConnectionState) → ((way : Departure) → ((words way).next ≡ None) ⊎ ((words way).next ≡ Some k)) → (way : Departure) → Sent words way i held a j → (held ≡ None) ⊎ (held ≡ Some k)
sent-next words k i held a j next way (inl whole) = elim (next way) [ inl shut ↦ inl (whole.held_is ∙ shut) | inr kept ↦ inr (whole.held_is ∙ kept) ]
sent-next words k i held a j next way (inr (inl lost)) = inl lost.held_is
sent-next words k i held a j next way (inr (inr short)) = inl (stops-closed words way i held a j short)

-- A session that is open is one.
some-is : (h k : Session) (o : Option Session) → o ≡ Some h → o ≡ Some k → h ≡ k
some-is h k o e f = cc

-- None is open where there is none.
none-some : (k : Session) (o : Option Session) → o ≡ None → o ≡ Some k → ⊥
none-some k o e f = cc

-- A session that is closed, or that would be told nothing, has nothing more to be told.
told-by : (s : LastKnown) (k : Session) (held : Option Session) → said_update s k Plain ≡ silent s k → (held ≡ None) ⊎ (held ≡ Some k) → IsTold s held
told-by s k held silence (inl none) start is idle = absurd (none-some start held none is)
told-by s k held silence (inr some) start is idle = subst (λ (x : Session). said_update s x Plain ≡ silent s x) (some-is k start held some is) silence

-- The same where nothing changed.
told-same : (s t : LastKnown) (o p : Option Session) → t ≡ s → p ≡ o → IsTold s o → IsTold t p
told-same s t o p same still told = subst (λ (x : LastKnown). IsTold x p) (sym same) (subst (λ (x : Option Session). IsTold s x) (sym still) told)

module _ (laws : ImapLaws) where
  -- A session that was just updated has nothing more to be told.
  once : (s : LastKnown) (client : ImapClient) → said_update s (session.Imap (idling.updated_client s.archive client)) Plain ≡ silent s (session.Imap (idling.updated_client s.archive client))
  once s client = ap (λ (x : Said ImapClient Archive). said_over (λ (a : Archive). standing a s.in_doubt) session.Imap x) (laws.told.once s.archive client)

  -- So it is after the act of an update.
  act-told : (start : Session) (c : ℕ) (w v : NodeState) → idles start ≡ true → UpdateAct start c w v → IsTold w.standing (v.session c)
  act-told (session.Imap client) c w v idle act =
      told-by w.standing (session.Imap (idling.updated_client w.standing.archive client)) (v.session c) (once w.standing client)
      (sent-next (said_update w.standing (session.Imap client)) (session.Imap (idling.updated_client w.standing.archive client)) (outside_at c w.out) (v.session c) v.standing (outside_at c v.out) (λ way. update-next w.standing client way) act.0.acts.way act.0.acts.sent)
  act-told start c w v idle act = absurd (false≢true idle)

  -- So it is after an update, of a session that idles or not.
  update-told : (c : ℕ) (w v : NodeState) → UpdateAt c w v → IsTold v.standing (v.session c)
  update-told c w v update = by (update-cases c w v update)
    where
      by : ((v ≡ w) × (idles_if (w.session c) ≡ false)) ⊎ ((start : Session) × (w.session c ≡ Some start) × (idles start ≡ true) × UpdateAct start c w v) → IsTold v.standing (v.session c)
      by (inl still) = λ start is idle. absurd (false≢true (sym (ap (λ (x : NodeState). idles_if (x.session c)) still.0 ∙ still.1) ∙ ap idles_if is ∙ idle))
      by (inr told) = told-same w.standing v.standing (v.session c) (v.session c) (update-stands c w v (w.session c) update) refl (act-told told.0 c w v told.2 told.3)

  -- After updates none of the connections below the number has more to be told.
  each-told : (n : ℕ) (w v : NodeState) → EachBelow UpdateAt n w v → (c : ℕ) → c < n → IsTold v.standing (v.session c)
  each-told zero w v each c less = absurd (omega (arith, less))
  each-told (suc n) w v each c less = by (λ low. each-told n w each.0 each.1 c low) (this-or n c)
    where
      by : (c < n → IsTold each.0.standing (each.0.session c)) → (c ≡ n) ⊎ (c ≢ n) → IsTold v.standing (v.session c)
      by below (inl same) = subst (λ (d : ℕ). IsTold v.standing (v.session d)) (sym same) (update-told n each.0 v each.2)
      by below (inr apart) = told-same each.0.standing v.standing (each.0.session c) (v.session c) (update-stands n each.0 v (each.0.session n) each.2) (update-kept n each.0 v each.2 c apart) (below (omega (arith, less, apart)))

  -- So it is with all connections.
  all-told : (w v : NodeState) → EachBelow UpdateAt connection_limit w v → AllTold v
  all-told w v each = each-told connection_limit w v each

-- To do nothing is the act of an update, where there is nothing to be told.
act-nothing : (start : Session) (c : ℕ) (w : NodeState) → w.session c ≡ Some start → said_update w.standing start Plain ≡ silent w.standing start → UpdateAct start c w w
act-nothing start c w held silence = (
  record {
    acts = acts-silent (said_update w.standing start) (silent w.standing start) (outside_at c w.out) (outside_at c w.out) (w.session c) w.standing silence refl refl refl refl held refl;
    around = around-same c start w held;
  },
  refl,
)

-- So it is an update.
update-nothing : (c : ℕ) (w : NodeState) → IsTold w.standing (w.session c) → UpdateAt c w w
update-nothing c w told = by (w.session c) refl
  where
    by_idling : (start : Session) → w.session c ≡ Some start → (b : Bool) → idles start ≡ b → IfIdles b (UpdateAct start c w w) w w
    by_idling start held true e = act-nothing start c w held (told start held e)
    by_idling start held false e = refl

    by : (held : Option Session) → w.session c ≡ held → UpdateBy held c w w
    by None e = refl
    by (Some start) e = by_idling start e (idles start) refl

-- The same for all connections below a number.
each-nothing : (n : ℕ) (w : NodeState) → ((c : ℕ) → c < n → IsTold w.standing (w.session c)) → EachBelow UpdateAt n w w
each-nothing zero w told = refl
each-nothing (suc c) w told = (w, each-nothing c w (λ d less. told d (omega (arith, less))), update-nothing c w (told c (omega arith)))

-- The same for all connections.
all-nothing : (w : NodeState) → AllTold w → EachBelow UpdateAt connection_limit w w
all-nothing w told = each-nothing connection_limit w told

-- So updates are told once.
pub updates-once : ImapLaws → UpdatesOnce
updates-once laws = record { told = all-told laws; nothing = all-nothing }
