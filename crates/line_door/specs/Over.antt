-- A door's sessions as some of a greater door's, as those of one connection among many.
use Rattle.std.specs.Prelude.{List, [], ◌∷◌, Option, Some, None}
use Rattle.line_door.specs.Acts.{Said}
use Rattle.line_door.specs.Course.{SessionState, talk}

-- The session in the greater door, if it is open.
abbrev pub held_over : {H J : Type 0} → (H → J) → Option H → Option J
held_over into None = None
held_over into (Some h) = Some (into h)

-- The same words, over the greater door's sessions and state.
abbrev pub said_over : {H A J B : Type 0} → (A → B) → (H → J) → Said H A → Said J B
said_over state into s = record {
  next = held_over into s.next;
  words = s.words;
  streamed = s.streamed;
  after = state s.after;
}

-- The same talk, over the greater door's sessions and state.
abbrev pub talk_over : {H A J B : Type 0} → (A → B) → (H → J) → SessionState H A → SessionState J B
talk_over state into w = talk (held_over into w.held) (state w.after) w.outside

-- The same for talks in order.
abbrev pub talks_over : {H A J B : Type 0} → (A → B) → (H → J) → List (SessionState H A)
    → List (SessionState J B)
talks_over state into [] = []
talks_over state into (w ∷ ws) = talk_over state into w ∷ talks_over state into ws
