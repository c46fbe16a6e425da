-- How more bytes change the front of a session.
use Rattle.std.proofs.Common.{◌≡◌, ◌<◌, ◌≤◌, ℕ, Bool, true, false, nat_le, List, [], ◌++◌, length, take, drop, refl, sym, ◌∙◌, ap, arith, inl, inr, ◌⊎◌, length-append, length-drop}
use Rattle.std.proofs.lemmas.List.{take-append-le, drop-append-le}
use Rattle.std.proofs.lemmas.Bool.Decides.{nat_tests}
use Rattle.line_door.specs.Lines as line
use Rattle.line_door.proofs.Fronts.{front-goes_on, front-stays_long, front-shorter}
use Rattle.control_door.specs.declared.order.Order.{Order}
use Rattle.control_door.specs.declared.order.Order.TheVariants.{Deliver, TooMuch, Show, Remove, Purge, Edit, Thread, Epochs, Reindex, Quit, Bad}
use Rattle.control_door.specs.Orders.{order_of}
use Rattle.control_door.specs.declared.front.Aim.{Aim}
use Rattle.control_door.specs.declared.front.Aim.TheVariants.{New, InPlaceOf}
use Rattle.control_door.specs.Sessions.{order_with, request_with}
use Rattle.control_door.specs.Requests.{Request, Shows, Removes, Purges, Threads, Lists, Reindexes, Quits, Mistakes, Exceeds, Ahead, Asked, Unfinished, asked_by, asked_at, ahead, is_asked, line_limit}

-- A message that is whole.
pub asked_by-whole : (aim : Aim) (size : ℕ) (rest : List ℕ) → size ≤ length rest → asked_by (order_with aim size) rest ≡ Asked (request_with aim (take size rest)) (drop size rest)
asked_by-whole New size rest h = let t : nat_le size (length rest) ≡ true = grind (arith, nat_tests) in rw t refl
asked_by-whole (InPlaceOf number) size rest h = let t : nat_le size (length rest) ≡ true = grind (arith, nat_tests) in rw t refl

-- A message that isn't.
pub asked_by-part : (aim : Aim) (size : ℕ) (rest : List ℕ) → length rest < size → asked_by (order_with aim size) rest ≡ Unfinished
asked_by-part New size rest h = let t : nat_le size (length rest) ≡ false = grind (arith, nat_tests) in rw t refl
asked_by-part (InPlaceOf number) size rest h = let t : nat_le size (length rest) ≡ false = grind (arith, nat_tests) in rw t refl

-- A request at the front stays there, and more bytes follow it.
pub data Goes (q : List ℕ) : Ahead → Ahead → Type 0 where
  Same : (request : Request) (rest : List ℕ) → Goes q (Asked request rest) (Asked request (rest ++ q))
  Over : Goes q (Asked Exceeds []) (Asked Exceeds [])
  Open : (next : Ahead) → Goes q Unfinished next

message_open : (q : List ℕ) (aim : Aim) (size : ℕ) (rest : List ℕ) → length rest < size → Goes q (asked_by (order_with aim size) rest) (asked_by (order_with aim size) (rest ++ q))
message_open q aim size rest short = rw (asked_by-part aim size rest short) (Open (asked_by (order_with aim size) (rest ++ q)))

message_goes : (q : List ℕ) (aim : Aim) (size : ℕ) (rest : List ℕ) (t : Bool) → nat_le size (length rest) ≡ t → Goes q (asked_by (order_with aim size) rest) (asked_by (order_with aim size) (rest ++ q))
message_goes q aim size rest true h =
    let fits : size ≤ length rest = grind (arith, nat_tests) in
    let more : size ≤ length (rest ++ q) = omega (arith, length-append rest q) in
    rw (asked_by-whole aim size rest fits, asked_by-whole aim size (rest ++ q) more, take-append-le size rest q fits, drop-append-le size rest q fits) (Same (request_with aim (take size rest)) (drop size rest))
message_goes q aim size rest false h = message_open q aim size rest (grind (arith, nat_tests))

asked_by-goes : (q : List ℕ) (order : Order) (rest : List ℕ) → Goes q (asked_by order rest) (asked_by order (rest ++ q))
asked_by-goes q (Deliver size) rest = message_goes q New size rest (nat_le size (length rest)) refl
asked_by-goes q TooMuch rest = Same Exceeds rest
asked_by-goes q (Show number) rest = Same (Shows number) rest
asked_by-goes q (Remove number) rest = Same (Removes number) rest
asked_by-goes q (Purge number) rest = Same (Purges number) rest
asked_by-goes q (Edit number size) rest = message_goes q (InPlaceOf number) size rest (nat_le size (length rest)) refl
asked_by-goes q (Thread number) rest = Same (Threads number) rest
asked_by-goes q Epochs rest = Same Lists rest
asked_by-goes q Reindex rest = Same Reindexes rest
asked_by-goes q Quit rest = Same Quits rest
asked_by-goes q Bad rest = Same Mistakes rest

asked_at-goes : (bytes q : List ℕ) (f : line.LineFront) → line.front line_limit bytes ≡ f → Goes q (asked_at f) (ahead (bytes ++ q))
asked_at-goes bytes q (line.Whole text rest) h = rw (front-goes_on line_limit bytes q text rest h) (asked_by-goes q (order_of (line.content text)) rest)
asked_at-goes bytes q line.Long h = rw (front-stays_long line_limit bytes q h) Over
asked_at-goes bytes q line.Partial h = Open (ahead (bytes ++ q))

-- More bytes follow those of a session.
pub ahead-goes : (bytes q : List ℕ) → Goes q (ahead bytes) (ahead (bytes ++ q))
ahead-goes bytes q = asked_at-goes bytes q (line.front line_limit bytes) refl

-- The rest after a request is shorter than the bytes.
shorter_by : (aim : Aim) (size n : ℕ) (rest : List ℕ) (request : Request) (after : List ℕ) (t : Bool) → nat_le size (length rest) ≡ t → length rest < n → asked_by (order_with aim size) rest ≡ Asked request after → length after < n
shorter_by aim size n rest request after true h short is =
    let fits : size ≤ length rest = grind (arith, nat_tests) in
    let same : Asked (request_with aim (take size rest)) (drop size rest) ≡ Asked request after = sym (asked_by-whole aim size rest fits) ∙ is in
    let back : drop size rest ≡ after = cc in
    omega (arith, length-drop size rest, ap length back)
shorter_by aim size n rest request after false h short is =
    let part : length rest < size = grind (arith, nat_tests) in
    let none : Unfinished ≡ Asked request after = sym (asked_by-part aim size rest part) ∙ is in
    absurd (cc)

asked_by-shorter : (n : ℕ) (order : Order) (rest : List ℕ) (request : Request) (after : List ℕ) → length rest < n → asked_by order rest ≡ Asked request after → length after < n
asked_by-shorter n (Deliver size) rest request after short is = shorter_by New size n rest request after (nat_le size (length rest)) refl short is
asked_by-shorter n TooMuch rest request after short is = let e : rest ≡ after = cc in omega (arith, ap length e)
asked_by-shorter n (Show number) rest request after short is = let e : rest ≡ after = cc in omega (arith, ap length e)
asked_by-shorter n (Remove number) rest request after short is = let e : rest ≡ after = cc in omega (arith, ap length e)
asked_by-shorter n (Purge number) rest request after short is = let e : rest ≡ after = cc in omega (arith, ap length e)
asked_by-shorter n (Edit number size) rest request after short is = shorter_by (InPlaceOf number) size n rest request after (nat_le size (length rest)) refl short is
asked_by-shorter n (Thread number) rest request after short is = let e : rest ≡ after = cc in omega (arith, ap length e)
asked_by-shorter n Epochs rest request after short is = let e : rest ≡ after = cc in omega (arith, ap length e)
asked_by-shorter n Reindex rest request after short is = let e : rest ≡ after = cc in omega (arith, ap length e)
asked_by-shorter n Quit rest request after short is = let e : rest ≡ after = cc in omega (arith, ap length e)
asked_by-shorter n Bad rest request after short is = let e : rest ≡ after = cc in omega (arith, ap length e)

asked_at-shorter : (bytes : List ℕ) (f : line.LineFront) (request : Request) (after : List ℕ) → line.front line_limit bytes ≡ f → asked_at f ≡ Asked request after → (request ≡ Exceeds) ⊎ (length after < length bytes)
asked_at-shorter bytes (line.Whole text rest) request after h is = inr (asked_by-shorter (length bytes) (order_of (line.content text)) rest request after (front-shorter line_limit bytes text rest h) is)
asked_at-shorter bytes line.Long request after h is = inl (cc)
asked_at-shorter bytes line.Partial request after h is = absurd (cc is)

pub ahead-shorter : (bytes : List ℕ) (request : Request) (after : List ℕ) → ahead bytes ≡ Asked request after → (request ≡ Exceeds) ⊎ (length after < length bytes)
ahead-shorter bytes request after is = asked_at-shorter bytes (line.front line_limit bytes) request after refl is

-- A front that is no whole request is the beginning of one.
pub unfinished : (a : Ahead) → is_asked a ≡ false → a ≡ Unfinished
unfinished (Asked request rest) h = absurd (cc h)
unfinished Unfinished h = refl
