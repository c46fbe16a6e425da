-- The events of a script that serving took.
use Rattle.std.proofs.Common.{◌≡◌, ◌≤◌, ◌<◌, ◌⊎◌, inl, inr, ℕ, Bool, true, false, not, ◌&&◌, List, [], ◌∷◌, ◌++◌, length, Option, Some, None, refl, sym, ap, subst, ◌∙◌, arith, length-append, nat_lt, if◌then◌else◌}
use Rattle.std.proofs.lemmas.Bool.Decides.{nat_tests}
use Rattle.std.proofs.lemmas.List.{append-nil}
use Rattle.std.proofs.Math.Seq.{take-nil}
use Rattle.arch_base.specs.declared.config.Config.{Config}
use Rattle.arch_model.specs.Archives.{Archive, empty_archive}
use Rattle.arch_model.specs.Keeping.{Keeper}
use Rattle.arch_model.specs.Standing.{standing}
use Rattle.arch_model.specs.Validity.{IsArchive}
use Rattle.edge_io.specs.Events.{line_of, after_line, spelled}
use Rattle.edge_io.specs.Frames.{Outputs, FirstFrames, frames_of}
use Rattle.edge_io.specs.Hosts.{before_left}
use Rattle.edge_io.specs.MemHosts.{unclosed}
use Rattle.edge_io.specs.Scripts.{Arrival, IsScript, spelled_all}
use Rattle.node_serve.specs.Ends.{ServingEnds, NoStop, is_stop, before_all}
use Rattle.node_serve.specs.Nodes.{OpenSessions, Serving, NodeSuits, outputs_asked, places_in, world_of}
use Rattle.node_serve.specs.Laws.{PlainLaws}
use Rattle.node_serve.specs.Plain.{PlainServed, plain_turns, last_world}
use Rattle.node_serve.specs.Suiting.{SessionSuitsIf, NotedIs}
use Rattle.node_serve.specs.Updates.{idles_if}
use Rattle.node_serve.proofs.PlainTurns.{none-counted}
use Rattle.node_serve.specs.Turns.{Turn, Served}
use Rattle.node_serve.specs.World.{HostState, NodeState}
use Rattle.node_serve.specs.declared.serving.ServeEnd.{ServeEnd}
use Rattle.node_serve.specs.declared.session.Session.{Session}
use Rattle.node_serve.specs.declared.updates.Idling.{Idling}
use Rattle.node_serve.specs.declared.updates.Idling.TheVariants.{Nobody, Told}
use Rattle.node_serve.specs.declared.serving.ServeEnd.TheVariants as end
use Rattle.archive_cli.specs.Laws.{PlainIsTranscript}
use Rattle.archive_cli.specs.Program.{PlaysPart, input_limit}
use Rattle.archive_cli.specs.Turns.{kept_after, to_stop, has_none, IsFreshWorld, Plays, outputs_played, Transcript, TranscriptFront, fresh_world}

-- Events before some that are left, where those are told.
pub before-told : (es left : List Arrival) → before_all es (Some left) ≡ Some (es ++ left)
before-told [] left = refl
before-told (e ∷ es) left = ap (before_left e) (before-told es left)

some-is : {X : Type 0} (x y : X) → Some x ≡ Some y → x ≡ y
some-is {X} x y e = ap (λ (o : Option X). value o) e
  where
    value : Option X → X
    value None = x
    value (Some z) = z

-- Without a stop all events are taken.
pub all-taken : (es : List Arrival) → NoStop es → (to_stop es ≡ es) × (has_none es ≡ true)
all-taken [] none = (refl, refl)
all-taken (e ∷ es) none =
    let rest = all-taken es none.1 in
    (ap (λ (b : Bool). e ∷ kept_after b (to_stop es)) none.0 ∙ ap (λ (xs : List Arrival). e ∷ xs) rest.0, ap (λ (b : Bool). not b && has_none es) none.0 ∙ rest.1)

-- At a stop those up to it are.
pub stop-taken : (before : List Arrival) (last : Arrival) (left : List Arrival) → NoStop before → is_stop last.0.what ≡ true → (to_stop ((before ++ last ∷ []) ++ left) ≡ before ++ last ∷ []) × (has_none ((before ++ last ∷ []) ++ left) ≡ false)
stop-taken [] last left none stops = (ap (λ (b : Bool). last ∷ kept_after b (to_stop left)) stops, ap (λ (b : Bool). not b && has_none left) stops)
stop-taken (e ∷ es) last left none stops =
    let rest = stop-taken es last left none.1 stops in
    (ap (λ (b : Bool). e ∷ kept_after b (to_stop ((es ++ last ∷ []) ++ left))) none.0 ∙ ap (λ (xs : List Arrival). e ∷ xs) rest.0, ap (λ (b : Bool). not b && has_none ((es ++ last ∷ []) ++ left)) none.0 ∙ rest.1)

-- A script that was played until a stop or its end: which events were taken.
pub taken-to : (script es left : List Arrival) (none : Bool) (turns faults faults' : ℕ) → Some script ≡ before_all es (Some left) → ServingEnds end.Stopped none es turns (Some left) faults faults' → (to_stop script ≡ es) × (has_none script ≡ none)
taken-to script es left false turns faults faults' is stops =
    let all : script ≡ es ++ left = some-is script (es ++ left) (is ∙ before-told es left) in
    let taken = stop-taken stops.0.before stops.0.last left stops.0.none stops.0.stops in
    subst (λ (xs : List Arrival). (to_stop xs ≡ es) × (has_none xs ≡ false)) (sym all)
    (subst (λ (xs : List Arrival). (to_stop (xs ++ left) ≡ xs) × (has_none (xs ++ left) ≡ false)) (sym stops.0.are) taken)
taken-to script es left true turns faults faults' is ends =
    let all : script ≡ es = some-is script (es ++ left) (is ∙ before-told es left) ∙ ap (λ (xs : List Arrival). es ++ xs) ends.1 ∙ append-nil es in
    subst (λ (xs : List Arrival). (to_stop xs ≡ es) × (has_none xs ≡ true)) (sym all) (all-taken es ends.0)

-- A script has no more events than bytes.
pub few-events : (es : List Arrival) → length es ≤ length (spelled_all es)
few-events [] = omega arith
few-events (e ∷ es) =
    omega (arith, few-events es, length-append (line_of e.0) (10 ∷ after_line e.0.what e.1), length-append (spelled e.0 e.1) (spelled_all es))

-- Those that were taken are no more than the script has.
pub few-taken : (script es left : List Arrival) → Some script ≡ before_all es (Some left) → length es ≤ length script
few-taken script es left is =
    let all : length script ≡ length (es ++ left) = ap length (some-is script (es ++ left) (is ∙ before-told es left)) in
    omega (arith, all, length-append es left)

-- Where no event was taken, the host was not asked.
pub none-asked : (first after : NodeState) (turns : List Turn) → Served [] first turns after → outputs_asked false first turns after ≡ []
none-asked first after [] served = refl
none-asked first after (t ∷ ts) served = absurd served

-- The world of a new node over an archive that stands, at a new host.
pub fresh-of : (a : Archive) (p : OpenSessions) (o : HostState) → ((c : ℕ) → p.session c ≡ None) → p.count ≡ 0 → ((c : ℕ) → o.taken c ≡ Some []) → ((c : ℕ) → o.closings c ≡ unclosed c) → o.disk ≡ 0 → o.lost ≡ 0 → IsFreshWorld a (world_of (standing a None) p o)
fresh-of a p o none count untaken open_all disk lost = record {
  start = record { stands = refl; none = none; count = count };
  taken = λ c low. untaken c;
  closings = λ c low. open_all c ∙ (let below : nat_lt c 65536 ≡ true = grind (arith, nat_tests, low) in ap (λ (b : Bool). if b then Some 0 else None) below);
  disk = disk;
  lost = lost;
}

-- A new node over a valid archive suits its clients, of which it has none.
pub new-suits : {K : Type 0} (g : Keeper K) (a : Archive) (node : Serving K) (o : HostState) → IsArchive a → ((c : ℕ) → (places_in node).session c ≡ None) → node.idling ≡ Nobody → NodeSuits g (standing a None) node o
new-suits {K} g a node o valid none nobody = record {
  clients = record { valid = valid; clients = λ c. subst (λ (x : Option Session). SessionSuitsIf a x) (sym (none c)) tt; in_doubt = λ b is. absurd (cc is) };
  noted = subst (λ (x : Idling). NotedIs x (world_of (standing a None) (places_in node) o)) (sym nobody) (λ c less. ap idles_if (none c));
  ready = λ told. absurd (apart (sym nobody ∙ told));
}
  where
    apart : Nobody ≡ Told → ⊥
    apart is = absurd (cc is)

-- The events of a script that were served from a fresh world until a stop or the script's end.
module _ (config : Config) (script es left : List Arrival) (none : Bool) (turns faults faults' : ℕ) (first after : NodeState) (taken : List Turn) (is : Some script ≡ before_all es (Some left)) (fresh : IsFreshWorld (empty_archive config) first) (served : Served es first taken after) (ends : ServingEnds end.Stopped none es turns (Some left) faults faults') where
  abbrev pub plays-of : Plays config script
  plays-of = record { first = first; fresh = fresh; turns = taken; after = after; served = subst (λ (xs : List Arrival). Served xs first taken after) (sym (taken-to script es left none turns faults faults' is ends).0) served }

  pub outputs-of : outputs_played plays-of ≡ outputs_asked none first taken after
  outputs-of = ap (λ (b : Bool). outputs_asked b first taken after) (taken-to script es left none turns faults faults' is ends).1

  -- Their frames are the script's transcript, if nothing failed.
  pub transcript-of : (frames : List ℕ) → after.out.disk ≡ 0 → after.out.lost ≡ 0 → frames ≡ frames_of (outputs_asked none first taken after) → Transcript config script frames
  transcript-of frames disk lost printed = record { plays = plays-of; disk = disk; lost = lost; printed_is = printed ∙ ap frames_of (sym outputs-of) }

  -- The frames of the first of them are its front.
  pub front-of : (frames : List ℕ) → FirstFrames (outputs_asked none first taken after) frames → TranscriptFront config script frames
  front-of frames part = record { plays = plays-of; first = subst (λ (past : List Outputs). FirstFrames past frames) (sym outputs-of) part }

-- The first of no frames are none.
pub no-frames : (frames : List ℕ) → FirstFrames [] frames → frames ≡ []
no-frames frames part = part.frames_are ∙ ap frames_of (take-nil part.count)

-- However serving a script ended, at a host that doesn't fail, nothing is printed, or the front of its
-- transcript.
pub part-of : (how : ServeEnd) (config : Config) (text : List ℕ) (script es left : List Arrival) (none : Bool) (turns : ℕ) (first after : NodeState) (taken : List Turn) (frames : List ℕ)
    → length text ≤ input_limit → IsScript script text → input_limit < turns → Some script ≡ before_all es (Some left) → IsFreshWorld (empty_archive config) first → Served es first taken after → ServingEnds how none es turns (Some left) 0 0 → FirstFrames (outputs_asked none first taken after) frames → (frames ≡ []) ⊎ PlaysPart config text frames
part-of end.Stopped config text script es left none turns first after taken frames short is_script many is fresh served ends part =
    inr (record { short = short; arrivals = script; script = is_script; front = front-of config script es left none turns 0 0 first after taken is fresh served ends frames part })
part-of (end.Spent n) config text script es left false turns first after taken frames short is_script many is fresh served ends part =
    let bytes : length text ≡ length (spelled_all script) = ap length is_script.spells in
    absurd (omega (arith, short, many, bytes, few-events script, few-taken script es left is, ends.1))
part-of (end.Spent n) config text script es left true turns first after taken frames short is_script many is fresh served ends part = absurd ends
part-of end.HostFault config text script es left false turns first after taken frames short is_script many is fresh served ends part = absurd (omega (arith, ends.1))
part-of end.HostFault config text script es left true turns first after taken frames short is_script many is fresh served ends part = absurd ends
part-of end.NoMemory config text script es left false turns first after taken frames short is_script many is fresh served ends part =
    let none_taken : Served [] first taken after = subst (λ (xs : List Arrival). Served xs first taken after) ends.0 served in
    let none_asked : outputs_asked false first taken after ≡ [] = none-asked first after taken none_taken in
    inl (no-frames frames (subst (λ (past : List Outputs). FirstFrames past frames) none_asked part))
part-of end.NoMemory config text script es left true turns first after taken frames short is_script many is fresh served ends part = absurd ends

-- The events by the rules, from the start of a script, are its transcript.
pub plain-played : PlainLaws → PlainIsTranscript
plain-played laws config arrivals =
    let w : NodeState = fresh_world (empty_archive config) in
    let es : List Arrival = to_stop arrivals in
    let v : NodeState = last_world w (plain_turns es w) in
    let made : PlainServed es w (plain_turns es w) v = laws.made es w (none-counted w (λ (c : ℕ). refl)) in
    let unfailed : (v.out.disk ≡ 0) × (v.out.lost ≡ 0) = laws.unfailed es w (plain_turns es w) v made in
    record {
      plays = record { first = w; fresh = record { start = record { stands = refl; none = λ c. refl; count = refl }; taken = λ c low. refl; closings = λ c low. refl; disk = refl; lost = refl }; turns = plain_turns es w; after = v; served = laws.served es w (plain_turns es w) v made };
      disk = unfailed.0;
      lost = unfailed.1;
      printed_is = refl;
    }
