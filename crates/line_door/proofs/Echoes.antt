-- The small door keeps the laws under which a piece may be cut anywhere.
use Rattle.std.proofs.Common.{◌≡◌, ◌<◌, ◌⊎◌, ℕ, List, ◌++◌, length, Some, None, Bool, true, false, inl, inr, refl, sym, ap, subst, ◌∙◌, append_assoc}
use Rattle.line_door.specs.Acts.{Departure, Plain, Memory, Disk, Newer}
use Rattle.line_door.specs.Lines.{LineFront, Whole, Long, Partial, front, is_whole, content}
use Rattle.line_door.specs.Plain.{silent}
use Rattle.line_door.specs.Cuts.{said_with, CutDoor}
use Rattle.line_door.specs.Echo.{is_quit, echo_plain, echo_line, echo_rest, echo_at, echo_said, echo_request, echo_more, shared_said, shared_request, EchoLifts}
use Rattle.line_door.proofs.Lifting.{fed-over}
use Rattle.line_door.proofs.Fronts.{front-goes_on, front-stays_long, front-shorter, is_whole-stays, not_whole}

plain-after : (q : List ℕ) (t : Bool) (a : ℕ) (line rest : List ℕ) → echo_plain t a line (rest ++ q) ≡ said_with (echo_more q) (echo_plain t a line rest)
plain-after q true a line rest = refl
plain-after q false a line rest = refl

line-after : (q : List ℕ) (a : ℕ) (line rest : List ℕ) (way : Departure) → echo_line a line (rest ++ q) way ≡ said_with (echo_more q) (echo_line a line rest way)
line-after q a line rest Plain = plain-after q (is_quit line) a line rest
line-after q a line rest Memory = refl
line-after q a line rest Disk = plain-after q (is_quit line) a line rest
line-after q a line rest Newer = plain-after q (is_quit line) a line rest

stays-at : (q : List ℕ) (a : ℕ) (h : List ℕ) (way : Departure) (f : LineFront) → front 512 h ≡ f → is_whole f ≡ true → echo_said a (h ++ q) way ≡ said_with (echo_more q) (echo_at a h f way)
stays-at q a h way (Whole line rest) e is = ap (λ (f : LineFront). echo_at a (h ++ q) f way) (front-goes_on 512 h q line rest e) ∙ line-after q a (content line) rest way
stays-at q a h way Long e is = ap (λ (f : LineFront). echo_at a (h ++ q) f way) (front-stays_long 512 h q e)
stays-at q a h way Partial e is = absurd (cc)

kept-at : (a : ℕ) (h : List ℕ) (way : Departure) → ((echo_rest a h way).next ≡ None) ⊎ (echo_rest a h way ≡ silent a h)
kept-at a h Plain = inr refl
kept-at a h Memory = inl refl
kept-at a h Disk = inr refl
kept-at a h Newer = inr refl

plain-rest : (t : Bool) (a : ℕ) (line rest k : List ℕ) → (echo_plain t a line rest).next ≡ Some k → k ≡ rest
plain-rest true a line rest k e = absurd (cc)
plain-rest false a line rest k e = cc

shorter-at : (a : ℕ) (h k : List ℕ) (f : LineFront) → front 512 h ≡ f → is_whole f ≡ true → (echo_at a h f Plain).next ≡ Some k → length k < length h
shorter-at a h k (Whole line rest) e is next = subst (λ (x : List ℕ). length x < length h) (sym (plain-rest (is_quit (content line)) a (content line) rest k next)) (front-shorter 512 h line rest e)
shorter-at a h k Long e is next = absurd (cc)
shorter-at a h k Partial e is next = absurd (cc)

pub echo_door : CutDoor echo_said echo_request echo_more length
echo_door = record {
  request_stays = λ q h e. is_whole-stays 512 h q e;
  said_stays = λ q a h way e. stays-at q a h way (front 512 h) refl e;
  rest_plain = λ a h e. ap (λ (f : LineFront). echo_at a h f Plain) (not_whole (front 512 h) e);
  rest_kept = λ a h way e.
      subst (λ (f : LineFront). ((echo_at a h f way).next ≡ None) ⊎ (echo_at a h f way ≡ silent a h)) (sym (not_whole (front 512 h) e)) (kept-at a h way);
  more_joined = λ p q h. append_assoc h p q;
  shorter = λ a h k e next. shorter-at a h k (front 512 h) refl e next;
}

-- Each course of the small door is one of the door on one connection of many.
pub echo_lifts : EchoLifts
echo_lifts connection other w v fed =
    fed-over (λ (count : ℕ). (count, other)) (λ (bytes : List ℕ). (connection, bytes)) echo_said echo_request shared_said shared_request (λ a h way. refl) (λ h. refl) w v fed
