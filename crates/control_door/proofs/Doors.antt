-- The laws of the control door.
use Rattle.std.proofs.Common.{◌≡◌, ◌<◌, ◌⊎◌, ◌∙◌, inl, inr, ℕ, suc, Bool, true, false, List, [], ◌∷◌, ◌++◌, Some, None, refl, sym, ap, subst, append_assoc, arith}
use Rattle.line_door.specs.Acts.{Said, Departure, Plain, Memory, Disk, Newer}
use Rattle.line_door.specs.Course.{talk}
use Rattle.line_door.specs.Plain.{silent, then_say, if_request, plain_from, plain}
use Rattle.line_door.specs.Cuts.{CutDoor, said_with}
use Rattle.line_door.proofs.Acting.{acts-words}
use Rattle.line_door.proofs.Cutting.{calls, door_laws}
use Rattle.arch_model.specs.Archives.{Archive}
use Rattle.arch_model.specs.Standing.{LastKnown, standing}
use Rattle.control_door.specs.Requests.{Request, Delivers, Shows, Removes, Purges, Edits, Threads, Lists, Reindexes, Quits, Mistakes, Exceeds, Ahead, Asked, Unfinished, ahead, is_asked}
use Rattle.control_door.specs.Door.{Waiting, waiting, said, said_at, said_to, said_opening, answered, refused_memory, refused_disk, unkept, has_request, with_piece, left}
use Rattle.control_door.specs.Laws.{ControlLaws, OpeningIsSilent, OpeningJoins, TwoCalls, SaysTheSame, bytes_of}
use Rattle.control_door.proofs.Aheads.{Goes, Same, Over, Open, ahead-goes, ahead-shorter, unfinished}

goes_request : (q : List ℕ) (a b : Ahead) → Goes q a b → is_asked a ≡ true → is_asked b ≡ true
goes_request q a b (Same request rest) h = refl
goes_request q a b Over h = refl
goes_request q a b (Open next) h = absurd (cc h)

answered_after : (moment : ℕ) (s : LastKnown) (q rest : List ℕ) (request : Request) → answered moment s request (rest ++ q) ≡ said_with (with_piece q) (answered moment s request rest)
answered_after moment s q rest (Delivers message) = refl
answered_after moment s q rest (Shows number) = refl
answered_after moment s q rest (Removes number) = refl
answered_after moment s q rest (Purges number) = refl
answered_after moment s q rest (Edits number message) = refl
answered_after moment s q rest (Threads number) = refl
answered_after moment s q rest Lists = refl
answered_after moment s q rest Reindexes = refl
answered_after moment s q rest Quits = refl
answered_after moment s q rest Mistakes = refl
answered_after moment s q rest Exceeds = refl

memory_after : (moment : ℕ) (s : LastKnown) (q rest : List ℕ) (request : Request) → refused_memory moment s request (rest ++ q) ≡ said_with (with_piece q) (refused_memory moment s request rest)
memory_after moment s q rest (Delivers message) = refl
memory_after moment s q rest (Shows number) = refl
memory_after moment s q rest (Removes number) = refl
memory_after moment s q rest (Purges number) = refl
memory_after moment s q rest (Edits number message) = refl
memory_after moment s q rest (Threads number) = refl
memory_after moment s q rest Lists = refl
memory_after moment s q rest Reindexes = refl
memory_after moment s q rest Quits = refl
memory_after moment s q rest Mistakes = refl
memory_after moment s q rest Exceeds = refl

disk_after : (moment : ℕ) (s : LastKnown) (q rest : List ℕ) (request : Request) → refused_disk moment s request (rest ++ q) ≡ said_with (with_piece q) (refused_disk moment s request rest)
disk_after moment s q rest (Delivers message) = refl
disk_after moment s q rest (Shows number) = refl
disk_after moment s q rest (Removes number) = refl
disk_after moment s q rest (Purges number) = refl
disk_after moment s q rest (Edits number message) = refl
disk_after moment s q rest (Threads number) = refl
disk_after moment s q rest Lists = refl
disk_after moment s q rest Reindexes = refl
disk_after moment s q rest Quits = refl
disk_after moment s q rest Mistakes = refl
disk_after moment s q rest Exceeds = refl

request_after : (moment : ℕ) (s : LastKnown) (q rest : List ℕ) (request : Request) (way : Departure) → said_to moment s request (rest ++ q) way ≡ said_with (with_piece q) (said_to moment s request rest way)
request_after moment s q rest request Plain = answered_after moment s q rest request
request_after moment s q rest request Memory = memory_after moment s q rest request
request_after moment s q rest request Disk = disk_after moment s q rest request
request_after moment s q rest request Newer = answered_after moment s q rest request

-- A reopening leaves the bytes.
opening_after : (s : LastKnown) (bytes q : List ℕ) (way : Departure) → said_opening s (bytes ++ q) way ≡ said_with (with_piece q) (said_opening s bytes way)
opening_after s bytes q Plain = refl
opening_after s bytes q Memory = refl
opening_after s bytes q Disk = refl
opening_after s bytes q Newer = refl

over_after : (moment : ℕ) (s : LastKnown) (q : List ℕ) (way : Departure) → said_to moment s Exceeds [] way ≡ said_with (with_piece q) (said_to moment s Exceeds [] way)
over_after moment s q Plain = refl
over_after moment s q Memory = refl
over_after moment s q Disk = refl
over_after moment s q Newer = refl

goes_said : (moment : ℕ) (s : LastKnown) (bytes q : List ℕ) (opened : Bool) (way : Departure) (x y : Ahead) → Goes q x y → is_asked x ≡ true
    → said_at moment s (waiting (bytes ++ q) opened) y way ≡ said_with (with_piece q) (said_at moment s (waiting bytes opened) x way)
goes_said moment s bytes q true way x y (Same request rest) h = request_after moment s q rest request way
goes_said moment s bytes q false way x y (Same request rest) h = opening_after s bytes q way
goes_said moment s bytes q true way x y Over h = over_after moment s q way
goes_said moment s bytes q false way x y Over h = opening_after s bytes q way
goes_said moment s bytes q opened way x y (Open next) h = absurd (cc h)

unkept-either : (s : LastKnown) (w : Waiting) (bytes : List ℕ) → ((unkept s w bytes).next ≡ None) ⊎ (unkept s w bytes ≡ silent s w)
unkept-either s w [] = inr refl
unkept-either s w (byte ∷ bytes) = inl refl

kept : (moment : ℕ) (s : LastKnown) (w : Waiting) (way : Departure) (x : Ahead) → x ≡ Unfinished → ((said_at moment s w x way).next ≡ None) ⊎ (said_at moment s w x way ≡ silent s w)
kept moment s w Plain x h = rw h (inr refl)
kept moment s w Memory x h = rw h (unkept-either s w w.bytes)
kept moment s w Disk x h = rw h (inr refl)
kept moment s w Newer x h = rw h (inr refl)

-- The session that an answer leaves open has the bytes after the request, which doesn't close the
-- door.
left_open : (moment : ℕ) (s : LastKnown) (request : Request) (rest : List ℕ) (k : Waiting) → (answered moment s request rest).next ≡ Some k → (waiting rest false ≡ k) × (request ≡ Exceeds → ⊥)
left_open moment s (Delivers message) rest k h = (cc, λ e. cc)
left_open moment s (Shows number) rest k h = (cc, λ e. cc)
left_open moment s (Removes number) rest k h = (cc, λ e. cc)
left_open moment s (Purges number) rest k h = (cc, λ e. cc)
left_open moment s (Edits number message) rest k h = (cc, λ e. cc)
left_open moment s (Threads number) rest k h = (cc, λ e. cc)
left_open moment s Lists rest k h = (cc, λ e. cc)
left_open moment s Reindexes rest k h = (cc, λ e. cc)
left_open moment s Quits rest k h = absurd (cc h)
left_open moment s Mistakes rest k h = (cc, λ e. cc)
left_open moment s Exceeds rest k h = absurd (cc h)

shorter_at : (moment : ℕ) (s : LastKnown) (bytes : List ℕ) (opened : Bool) (k : Waiting) (x : Ahead) → ahead bytes ≡ x → is_asked x ≡ true → (said_at moment s (waiting bytes opened) x Plain).next ≡ Some k → left k < left (waiting bytes opened)
shorter_at moment s bytes true k (Asked request rest) is h next =
    let after = left_open moment s request rest k next in
    let size : left (waiting rest false) ≡ left k = ap left after.0 in
    elim (ahead-shorter bytes request rest is) [ inl over ↦ absurd (after.1 over) | inr less ↦ omega (arith, size, less) ]
shorter_at moment s bytes false k (Asked request rest) is h next =
    let same : waiting bytes true ≡ k = cc in
    let size : left (waiting bytes true) ≡ left k = ap left same in
    omega (arith, size)
shorter_at moment s bytes opened k Unfinished is h next = absurd (cc h)

pub control_cuts : (moment : ℕ) → CutDoor (said moment) has_request with_piece left
control_cuts moment = record {
  request_stays = λ q h asked. goes_request q (ahead h.bytes) (ahead (h.bytes ++ q)) (ahead-goes h.bytes q) asked;
  said_stays = λ q s h way asked. goes_said moment s h.bytes q h.opened way (ahead h.bytes) (ahead (h.bytes ++ q)) (ahead-goes h.bytes q) asked;
  rest_plain = λ s h part. rw (unfinished (ahead h.bytes) part) refl;
  rest_kept = λ s h way part. kept moment s h way (ahead h.bytes) (unfinished (ahead h.bytes) part);
  more_joined = λ p q h. ap (λ (bytes : List ℕ). waiting bytes h.opened) (append_assoc h.bytes p q);
  shorter = λ s h k asked next. shorter_at moment s h.bytes h.opened k (ahead h.bytes) refl asked next;
}

-- At a request, reopening changes nothing if nothing is in doubt.
opening_first : (moment : ℕ) (a : Archive) (bytes : List ℕ) (n : ℕ) (request : Request) (rest : List ℕ) → ahead bytes ≡ Asked request rest
    → plain_from (said moment) has_request (suc n) (standing a None) (waiting bytes false) ≡ plain_from (said moment) has_request n (standing a None) (waiting bytes true)
opening_first moment a bytes n request rest is =
    ap (λ (b : Bool). if_request b (said moment) (plain_from (said moment) has_request n) (standing a None) (waiting bytes false)) (ap is_asked is)
    ∙ ap (λ (x : Ahead). then_say (said_at moment (standing a None) (waiting bytes false) x Plain) (plain_from (said moment) has_request n)) is

-- Without a whole request, nothing is said.
silent_first : (moment : ℕ) (s : LastKnown) (w : Waiting) (n : ℕ) → ahead w.bytes ≡ Unfinished → plain_from (said moment) has_request (suc n) s w ≡ silent s w
silent_first moment s w n is = ap (λ (b : Bool). if_request b (said moment) (plain_from (said moment) has_request n) s w) (ap is_asked is)

-- Sessions that still have to reopen and those that don't say the same, up to a limit of requests.
opening_at : (moment : ℕ) (a : Archive) (bytes : List ℕ) (n : ℕ) (x : Ahead) → ahead bytes ≡ x
    → SaysTheSame (plain_from (said moment) has_request (suc (suc n)) (standing a None) (waiting bytes false)) (plain_from (said moment) has_request (suc n) (standing a None) (waiting bytes true))
opening_at moment a bytes n (Asked request rest) is =
    let same = opening_first moment a bytes (suc n) request rest is in
    record { bytes = ap (λ (s : Said Waiting LastKnown). bytes_of s.next) same; words = ap (λ (s : Said Waiting LastKnown). s.words) same; after = ap (λ (s : Said Waiting LastKnown). s.after) same }
opening_at moment a bytes n Unfinished is =
    let one = silent_first moment (standing a None) (waiting bytes false) (suc n) is in
    let other = silent_first moment (standing a None) (waiting bytes true) n is in
    record {
      bytes = ap (λ (s : Said Waiting LastKnown). bytes_of s.next) one ∙ sym (ap (λ (s : Said Waiting LastKnown). bytes_of s.next) other);
      words = ap (λ (s : Said Waiting LastKnown). s.words) one ∙ sym (ap (λ (s : Said Waiting LastKnown). s.words) other);
      after = ap (λ (s : Said Waiting LastKnown). s.after) one ∙ sym (ap (λ (s : Said Waiting LastKnown). s.after) other);
    }

opening_silent : OpeningIsSilent
unfolding plain
opening_silent moment a bytes =
    let size : suc (left (waiting bytes true)) ≡ left (waiting bytes false) = omega arith in
    subst
    (λ (n : ℕ). SaysTheSame (plain_from (said moment) has_request (suc n) (standing a None) (waiting bytes false)) (plain_from (said moment) has_request (suc (left (waiting bytes true))) (standing a None) (waiting bytes true)))
    size
    (opening_at moment a bytes (left (waiting bytes true)) (ahead bytes) refl)

-- At a request, a session that still has to reopen says what reopening says.
opening_says : (moment : ℕ) (s : LastKnown) (bytes : List ℕ) (x : Ahead) (way : Departure) → is_asked x ≡ true → said_opening s bytes way ≡ said_at moment s (waiting bytes false) x way
opening_says moment s bytes (Asked request rest) way h = refl
opening_says moment s bytes Unfinished way h = absurd (cc h)

opening_joins : OpeningJoins
opening_joins moment bytes s t i j v asked opens fed = (
  talk (Some (waiting bytes true)) t j ∷ fed.0,
  fed.1,
  (
    (
      waiting bytes false,
      asked,
      record {
        held = refl;
        acts = acts-words (said moment s (waiting bytes false)) (said_opening s bytes) i (Some (waiting bytes true)) t j (λ way. sym (opening_says moment s bytes (ahead bytes) way asked)) opens;
      },
    ),
    fed.2,
  ),
  fed.3,
)

-- Two calls with pieces of one connection.
two_calls : TwoCalls
two_calls moment later bytes p q s o v k u t i j z first kept asked opens second =
    let begins = calls (said moment) has_request with_piece left (control_cuts moment) (waiting bytes true) p q s o v k first kept in
    record { acts = begins.0; rest = begins.1; first = begins.2; left = begins.3; second = opening_joins later (k.bytes ++ q) u t i j z asked opens second }

-- The laws of the control door.
pub control_laws : ControlLaws
control_laws = record { door = λ moment. door_laws (said moment) has_request with_piece left (control_cuts moment); opening = opening_silent; joins = opening_joins; calls = two_calls }
