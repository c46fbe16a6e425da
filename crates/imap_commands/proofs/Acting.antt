-- What is said to a whole command makes an act.
use Rattle.std.proofs.Common.{◌≡◌, ℕ, Bool, true, false, List, Option, Some, None, Result, is_ok, refl, ap, subst, ◌∙◌, arith}
use Rattle.arch_model.specs.Archives.{Archive}
use Rattle.edge_io.specs.Phrases.{Says}
use Rattle.edge_io.specs.declared.sink.SinkFault.{SinkFault}
use Rattle.known_uids.specs.Told.{Known}
use Rattle.line_door.specs.Acts.{ConnectionState, Said, Departure, Memory, Acts, held_if}
use Rattle.line_door.specs.Making.{says, closes}
use Rattle.line_door.specs.Over.{held_over}
use Rattle.line_door.proofs.Acting.{acts-by_held, acts-closing}
use Rattle.line_door.proofs.Lifting.{acts-over}
use Rattle.imap_messages.specs.Fetching.{FetchAsked, fetch_said}
use Rattle.imap_messages.specs.Seeking.{SearchAsked, search_said}
use Rattle.imap_states.specs.Notices.{bye_memory_line, no_memory_line}
use Rattle.imap_states.specs.Replies.{ImapReply}
use Rattle.imap_states.specs.declared.state.ImapPlace.{ImapPlace}
use Rattle.imap_states.specs.declared.state.ImapPlace.TheVariants as place
use Rattle.imap_states.specs.declared.state.ImapState.{ImapState}
use Rattle.imap_commands.specs.Laws.{readable_tag, memory_reply}
use Rattle.imap_commands.specs.Replies.{in_state, fetch_at, search_at, command_said}
use Rattle.imap_commands.proofs.Tags.{memory_told}

held-in : (s : ImapState) (k : Known) (b : Bool) → held_over (λ (x : Known). s) (held_if b k) ≡ held_if b s
held-in s k true = refl
held-in s k false = refl

-- An act over the told list is one of the session, whose state stays.
acts-in_state : (a : Archive) (s : ImapState) (k : Known) (words : Departure → Said Known Archive) (other : Departure → ImapReply) (i j : ConnectionState) (b : Bool) → ((way : Departure) → other way ≡ in_state s (words way)) → Acts words i (held_if b k) a j
    → Acts other i (held_if b s) a j
acts-in_state a s k words other i j b same acts =
    subst (λ (h : Option ImapState). Acts other i h a j) (held-in s k b) (acts-over (λ (x : Archive). x) (λ (x : Known). s) words other i (held_if b k) a j same acts)

pub acts-fetched : (a : Archive) (s : ImapState) (f : FetchAsked) (k : Known) (i j : ConnectionState) (b : Bool) → s.place ≡ place.Selected k → Acts (fetch_said a k f) i (held_if b k) a j → Acts (fetch_at a s f s.place) i (held_if b s) a j
acts-fetched a s f k i j b is acts = acts-in_state a s k (fetch_said a k f) (fetch_at a s f s.place) i j b (λ way. ap (λ (p : ImapPlace). fetch_at a s f p way) is) acts

pub acts-sought : (a : Archive) (s : ImapState) (q : SearchAsked) (k : Known) (i j : ConnectionState) (b : Bool) → s.place ≡ place.Selected k → Acts (search_said a k q) i (held_if b k) a j → Acts (search_at a s q s.place) i (held_if b s) a j
acts-sought a s q k i j b is acts = acts-in_state a s k (search_said a k q) (search_at a s q s.place) i j b (λ way. ap (λ (p : ImapPlace). search_at a s q p way) is) acts

-- Memory ran out before a command was read.
module _ (a : Archive) (s : ImapState) (i j : ConnectionState) (sent : Result Unit SinkFault) (kept : j.disk ≡ i.disk) where
  pub acts-starved : (octets tag : List ℕ) → readable_tag octets ≡ Some tag → Says (no_memory_line tag) i.out i.lost j.out j.lost sent → Acts (command_said a s octets) i (held_if (is_ok sent) s) a j
  acts-starved octets tag is said =
      acts-by_held (command_said a s octets) Memory (says a s (no_memory_line tag)) i j s a sent (memory_told a s octets ∙ ap (memory_reply a s) is) refl kept (omega (arith, kept)) said refl

  pub acts-bye : (octets : List ℕ) → readable_tag octets ≡ None → Says bye_memory_line i.out i.lost j.out j.lost sent → Acts (command_said a s octets) i None a j
  acts-bye octets is said =
      acts-closing (command_said a s octets) Memory (closes a bye_memory_line) i j a sent (memory_told a s octets ∙ ap (memory_reply a s) is) refl kept (omega (arith, kept)) said refl
