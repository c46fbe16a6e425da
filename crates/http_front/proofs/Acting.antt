-- The acts of the code are acts of a session.
use Rattle.std.proofs.Common.{◌≡◌, ◌<◌, ℕ, Bool, true, false, not, ◌&&◌, List, [], ◌∷◌, ◌++◌, length, drop, Option, Some, None, Result, Ok, Err, is_ok, refl, sym, ap, subst, ◌∙◌, arith, if◌then◌else◌}
use Rattle.std.proofs.lemmas.List.{append-nil}
use Rattle.edge_io.specs.Phrases.{Says}
use Rattle.edge_io.specs.declared.sink.SinkFault.{SinkFault}
use Rattle.line_door.specs.Acts.{ConnectionState, Departure, Plain, Memory, Acts, held_if}
use Rattle.line_door.specs.Making.{closes}
use Rattle.line_door.specs.Plain.{silent}
use Rattle.line_door.proofs.Acting.{acts-by_says, acts-closing, acts-silent, acts-words}
use Rattle.arch_model.specs.Archives.{Archive}
use Rattle.http_heads.specs.declared.reply.Status.TheVariants.{HeadTooLarge, Unavailable}
use Rattle.http_front.specs.Fronts.{HeadFront, Whole, Long, Partial, front, is_whole, head_limit}
use Rattle.http_front.specs.Replies.{word}
use Rattle.http_front.specs.Door.{PageSays as SaysAct, replies, said_head, unkept, said_at, said, has_request}
use Rattle.http_front.specs.Sessions.{IsPageAct, SaysThen}
use Rattle.http_front.specs.declared.session.Act.TheVariants.{Went, Closed}
use Rattle.http_front.specs.Reading.{asked_in}

-- The answer to a head is the answer to the bytes that start with it.
acts-head : (moment : ℕ) (a : Archive) (bytes head rest : List ℕ) (i : ConnectionState) (held : Option (List ℕ)) (j : ConnectionState) → front head_limit bytes ≡ Whole head rest → Acts (said_head moment a (asked_in head) rest) i held a j → Acts (said moment a bytes) i held a j
acts-head moment a bytes head rest i held j is acts =
    acts-words (said moment a bytes) (said_head moment a (asked_in head) rest) i held a j (λ way. ap (λ (f : HeadFront). said_at moment a bytes f way) is) acts

-- A head that took `n` bytes of a piece was answered, and the session continues or not.
pub turn-went : (moment : ℕ) (a : Archive) (old piece head : List ℕ) (n : ℕ) (i : ConnectionState) (new : List ℕ) (j : ConnectionState) (goes : Bool) → front head_limit (old ++ piece) ≡ Whole head (drop n piece) → new ≡ []
    → Acts (said_head moment a (asked_in head) (drop n piece)) i (held_if goes (drop n piece)) a j → IsPageAct moment a old piece i (if goes then Went n else Closed) new j
turn-went moment a old piece head n i new j true is none acts =
    subst (λ (left : List ℕ). (has_request (old ++ piece) ≡ true) × Acts (said moment a (old ++ piece)) i (Some (left ++ drop n piece)) a j) (sym none) (ap is_whole is, acts-head moment a (old ++ piece) head (drop n piece) i (Some (drop n piece)) j is acts)
turn-went moment a old piece head n i new j false is none acts = acts-head moment a (old ++ piece) head (drop n piece) i None j is acts

-- A head that is too long.
pub turn-long : (moment : ℕ) (a : Archive) (old piece : List ℕ) (i : ConnectionState) (new : List ℕ) (j : ConnectionState) (sent : Result Unit SinkFault) → front head_limit (old ++ piece) ≡ Long → j.disk ≡ i.disk → Says (word HeadTooLarge moment true true) i.out i.lost j.out j.lost sent
    → IsPageAct moment a old piece i Closed new j
turn-long moment a old piece i new j sent is kept words =
    acts-closing (said moment a (old ++ piece)) Plain (closes a (word HeadTooLarge moment true true)) i j a sent (ap (λ (f : HeadFront). said_at moment a (old ++ piece) f Plain) is) refl kept (omega (arith, kept)) words refl

-- The beginning of a head is kept.
pub keeps : (moment : ℕ) (a : Archive) (bytes : List ℕ) (i : ConnectionState) → front head_limit bytes ≡ Partial → (has_request bytes ≡ false) × (i.disk ≡ i.disk) × Acts (said moment a bytes) i (Some bytes) a i
keeps moment a bytes i part = (
  ap is_whole part,
  refl,
  acts-silent (said moment a bytes) (silent a bytes) i i (Some bytes) a (ap (λ (f : HeadFront). said_at moment a bytes f Plain) part) refl refl refl refl refl refl,
)

-- An empty piece leaves what was held.
pub keeps-nothing : (moment : ℕ) (a : Archive) (old piece : List ℕ) (i : ConnectionState) → piece ≡ [] → front head_limit (old ++ piece) ≡ Partial → (has_request (old ++ piece) ≡ false) × (i.disk ≡ i.disk) × Acts (said moment a (old ++ piece)) i (Some old) a i
keeps-nothing moment a old piece i none part =
    let same : old ++ piece ≡ old = ap (λ (p : List ℕ). old ++ p) none ∙ append-nil old in
    subst (λ (kept : List ℕ). (has_request (old ++ piece) ≡ false) × (i.disk ≡ i.disk) × Acts (said moment a (old ++ piece)) i (Some kept) a i) same (keeps moment a (old ++ piece) i part)

unkept-closes : (moment : ℕ) (a : Archive) (bytes old piece : List ℕ) → 0 < length piece → unkept moment a bytes (old ++ piece) ≡ closes a (word Unavailable moment true true)
unkept-closes moment a bytes (byte ∷ old) piece some = refl
unkept-closes moment a bytes [] (byte ∷ piece) some = refl
unkept-closes moment a bytes [] [] some = absurd (omega (arith, some))

-- Out of memory for a piece that isn't empty closes the session.
pub closes-keeping : (moment : ℕ) (a : Archive) (old piece : List ℕ) (i j : ConnectionState) (sent : Result Unit SinkFault) → 0 < length piece → front head_limit (old ++ piece) ≡ Partial → j.disk ≡ i.disk → Says (word Unavailable moment true true) i.out i.lost j.out j.lost sent
    → Acts (said moment a (old ++ piece)) i None a j
closes-keeping moment a old piece i j sent some part same words =
    acts-closing (said moment a (old ++ piece)) Memory (closes a (word Unavailable moment true true)) i j a sent
    (ap (λ (f : HeadFront). said_at moment a (old ++ piece) f Memory) part ∙ unkept-closes moment a (old ++ piece) old piece some) refl same (omega (arith, same)) words refl

-- A reply that closes the session does so whether it is sent or not.
pub closed-always : (sent : Bool) → false ≡ (sent && not true)
closed-always true = refl
closed-always false = refl

-- A reply was said, and the session continues unless the reply closes it.
pub acts-replied : (words : Departure → SaysAct) (way : Departure) (a : Archive) (rest : List ℕ) (ends streamed : Bool) (text : List ℕ) (i j : ConnectionState) (goes : Bool) → words way ≡ replies a rest ends streamed text → way ≡ Plain → j.disk ≡ i.disk → SaysThen text ends i.out i.lost j.out j.lost goes
    → Acts words i (held_if goes rest) a j
acts-replied words way a rest ends streamed text i j goes is plain kept said =
    acts-by_says words Plain (replies a rest ends streamed text) i j (held_if goes rest) a said.sent (ap words (sym plain) ∙ is) kept (omega (arith, kept)) said.says (ap (λ (b : Bool). held_if b rest) said.next ∙ held-as said.sent ends) refl
  where
    held-as : (sent : Result Unit SinkFault) (ends : Bool) → held_if (is_ok sent && not ends) rest ≡ (if is_ok sent then (if ends then None else Some rest) else None)
    held-as (Ok done) true = refl
    held-as (Ok done) false = refl
    held-as (Err fault) true = refl
    held-as (Err fault) false = refl
