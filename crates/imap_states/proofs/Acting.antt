-- What is said of a command makes an act.
use Rattle.std.proofs.Common.{◌≡◌, ◌++◌, ℕ, Bool, true, false, List, [], Option, Some, None, Result, Ok, Err, is_ok, refl, sym, ap, subst, ◌∙◌, arith, if◌then◌else◌}
use Rattle.arch_model.specs.Archives.{Archive}
use Rattle.edge_io.specs.Phrases.{Says}
use Rattle.edge_io.specs.declared.sink.SinkFault.{SinkFault}
use Rattle.line_door.specs.Acts.{ConnectionState, Departure, Plain, Memory, Acts, held_if}
use Rattle.line_door.specs.Making.{says, closes}
use Rattle.line_door.proofs.Acting.{acts-by_held, acts-closing, acts-words}
use Rattle.imap_states.specs.Notices.{bye_memory_line, no_memory_line, too_long_line, done_line}
use Rattle.imap_states.specs.Replies.{ImapReply, at_place, completed, tagged_ways, untagged_ways, told_first, excess_said}
use Rattle.imap_states.specs.States.{state_of, idles, place_lines, place_now}
use Rattle.imap_states.specs.declared.state.ImapPlace.{ImapPlace}
use Rattle.imap_states.specs.declared.state.ImapState.{ImapState}

module _ (a : Archive) (s : ImapState) (tag : List ℕ) (reply : ImapReply) (i j : ConnectionState) (sent : Result Unit SinkFault) where
  -- A reply by the rules, after which the session continues in a state.
  pub acts-said : (after : ImapState) (words : List ℕ) → reply ≡ says a after words → j.disk ≡ i.disk → Says words i.out i.lost j.out j.lost sent
      → Acts (tagged_ways a s tag reply) i (held_if (is_ok sent) after) a j
  acts-said after words is kept said =
      acts-by_held (tagged_ways a s tag reply) Plain (says a after words) i j after a sent is refl kept (omega (arith, kept)) said refl

  -- A reply by the rules that closes the session.
  pub acts-ended : (words : List ℕ) → reply ≡ closes a words → j.disk ≡ i.disk → Says words i.out i.lost j.out j.lost sent
      → Acts (tagged_ways a s tag reply) i None a j
  acts-ended words is kept said =
      acts-closing (tagged_ways a s tag reply) Plain (closes a words) i j a sent is refl kept (omega (arith, kept)) said refl

  -- Memory ran out after a tag.
  pub acts-starved : j.disk ≡ i.disk → Says (no_memory_line tag) i.out i.lost j.out j.lost sent → Acts (tagged_ways a s tag reply) i (held_if (is_ok sent) s) a j
  acts-starved kept said =
      acts-by_held (tagged_ways a s tag reply) Memory (says a s (no_memory_line tag)) i j s a sent refl refl kept (omega (arith, kept)) said refl

  -- The reply in another form.
  pub acts-as : (other : ImapReply) (held : Option ImapState) → reply ≡ other → Acts (tagged_ways a s tag other) i held a j → Acts (tagged_ways a s tag reply) i held a j
  acts-as other held is acts = subst (λ (r : ImapReply). Acts (tagged_ways a s tag r) i held a j) (sym is) acts

-- A reply where no tag was read.
module _ (a : Archive) (reply : ImapReply) (i j : ConnectionState) (sent : Result Unit SinkFault) where
  pub acts-untagged : (after : ImapState) (words : List ℕ) → reply ≡ says a after words → j.disk ≡ i.disk → Says words i.out i.lost j.out j.lost sent
      → Acts (untagged_ways a reply) i (held_if (is_ok sent) after) a j
  acts-untagged after words is kept said =
      acts-by_held (untagged_ways a reply) Plain (says a after words) i j after a sent is refl kept (omega (arith, kept)) said refl

  -- Memory ran out, and the session is closed.
  pub acts-bye : j.disk ≡ i.disk → Says bye_memory_line i.out i.lost j.out j.lost sent → Acts (untagged_ways a reply) i None a j
  acts-bye kept said =
      acts-closing (untagged_ways a reply) Memory (closes a bye_memory_line) i j a sent refl refl kept (omega (arith, kept)) said refl

-- A reply by a test.
pub when : {X : Type 0} (t : Bool) (x y : X) → t ≡ true → (if t then x else y) ≡ x
when {X} t x y e = ap (λ b. if b then x else y) e

pub when_not : {X : Type 0} (t : Bool) (x y : X) → t ≡ false → (if t then x else y) ≡ y
when_not {X} t x y e = ap (λ b. if b then x else y) e

module _ (a : Archive) (s : ImapState) (tag : List ℕ) (reply : ImapReply) (i j : ConnectionState) (sent : Result Unit SinkFault) (kept : j.disk ≡ i.disk) (p : ImapPlace) where
  -- Memory ran out after a tag, and the place is as before.
  pub acts-starved_at : p ≡ s.place → Says (no_memory_line tag) i.out i.lost j.out j.lost sent → Acts (tagged_ways a s tag reply) i (held_if (is_ok sent) (at_place s p)) a j
  acts-starved_at same said =
      subst (λ (q : ImapPlace). Acts (tagged_ways a s tag reply) i (held_if (is_ok sent) (at_place s q)) a j) (sym same) (acts-starved a s tag reply i j sent kept said)

  -- A command was carried out, and its client was told of changes.
  pub acts-completed : (own name lines : List ℕ) → lines ≡ place_lines a s.place → p ≡ place_now a s.place → reply ≡ completed a s own tag name → Says (own ++ (lines ++ done_line tag name)) i.out i.lost j.out j.lost sent
      → Acts (tagged_ways a s tag reply) i (held_if (is_ok sent) (at_place s p)) a j
  acts-completed own name lines told now is said =
      acts-said a s tag reply i j sent (at_place s p) (own ++ (lines ++ done_line tag name))
      (is ∙ ap (λ (q : ImapPlace). says a (at_place s q) (own ++ (place_lines a s.place ++ done_line tag name))) (sym now) ∙ ap (λ (w : List ℕ). says a (at_place s p) (own ++ (w ++ done_line tag name))) (sym told))
      kept said

module _ (a : Archive) (s : ImapState) (reply : ImapReply) (i j : ConnectionState) (sent : Result Unit SinkFault) (kept : j.disk ≡ i.disk) where
  -- A client was told of changes, and then of something else.
  pub acts-told : (p : ImapPlace) (idle : Option (List ℕ)) (lines last : List ℕ) → lines ≡ place_lines a s.place → p ≡ place_now a s.place → reply ≡ says a (state_of (place_now a s.place) idle) (place_lines a s.place ++ last)
      → Says (lines ++ last) i.out i.lost j.out j.lost sent → Acts (untagged_ways a reply) i (held_if (is_ok sent) (state_of p idle)) a j
  acts-told p idle lines last told now is said =
      acts-untagged a reply i j sent (state_of p idle) (lines ++ last)
      (is ∙ ap (λ (q : ImapPlace). says a (state_of q idle) (place_lines a s.place ++ last)) (sym now) ∙ ap (λ (w : List ℕ). says a (state_of p idle) (w ++ last)) (sym told))
      kept said

-- A command that is too long.
module _ (a : Archive) (s : ImapState) (i j : ConnectionState) (sent : Result Unit SinkFault) (kept : j.disk ≡ i.disk) where
  pub excess-plain : idles s ≡ false → Says too_long_line i.out i.lost j.out j.lost sent → Acts (excess_said a s) i None a j
  excess-plain awake said =
      let words : told_first a s ++ too_long_line ≡ too_long_line = ap (λ (t : Bool). (if t then place_lines a s.place else []) ++ too_long_line) awake in
      acts-closing (excess_said a s) Plain (closes a too_long_line) i j a sent (ap (closes a) words) refl kept (omega (arith, kept)) said refl

  pub excess-told : (lines : List ℕ) → idles s ≡ true → lines ≡ place_lines a s.place → Says (lines ++ too_long_line) i.out i.lost j.out j.lost sent → Acts (excess_said a s) i None a j
  excess-told lines idle told said =
      let words : told_first a s ++ too_long_line ≡ lines ++ too_long_line = ap (λ (t : Bool). (if t then place_lines a s.place else []) ++ too_long_line) idle ∙ ap (λ (w : List ℕ). w ++ too_long_line) (sym told) in
      acts-closing (excess_said a s) Plain (closes a (lines ++ too_long_line)) i j a sent (ap (closes a) words) refl kept (omega (arith, kept)) said refl

  pub excess-memory : idles s ≡ true → Says bye_memory_line i.out i.lost j.out j.lost sent → Acts (excess_said a s) i None a j
  excess-memory idle said =
      acts-closing (excess_said a s) Memory (closes a bye_memory_line) i j a sent (ap (λ (t : Bool). closes a (if t then bye_memory_line else too_long_line)) idle) refl kept (omega (arith, kept)) said refl
