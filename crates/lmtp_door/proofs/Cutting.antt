-- The door's bytes may be cut anywhere.
use Rattle.std.proofs.Common.{◌≡◌, ◌<◌, ◌≤◌, ◌+◌, ◌*◌, inr, ℕ, zero, suc, Bool, true, false, List, ◌++◌, length, nat_lt, Some, refl, ap, append_assoc, arith, if◌then◌else◌}
use Rattle.line_door.specs.Acts.{Departure, Plain, Memory, Disk, Newer}
use Rattle.line_door.specs.Cuts.{CutDoor, said_with}
use Rattle.lmtp_data.specs.Readings.{data_limit}
use Rattle.arch_model.specs.Standing.{LastKnown}
use Rattle.lmtp_door.specs.Commands.{command_of}
use Rattle.lmtp_door.specs.Door.{Guest, guest, LmtpFront, Commanded, Overlong, DataEnds, GivesTo, NotYet, front_of, is_whole, as_said, next_after, said_order, given_to, said_opening, said_giving, said_to_one, said_at, said, has_request, with_piece, size_of, recipients}
use Rattle.lmtp_door.specs.Notices.{is_bye}
use Rattle.lmtp_door.specs.Phases.{LmtpPhase, Ungreeted, Greeted, Mailing, Receiving, Giving, LmtpReply, replied, starved, mail_reply, rcpt_reply, rcpt_in, data_reply, reset_phase, recipient_limit}
use Rattle.lmtp_door.specs.declared.order.LmtpOrder.{LmtpOrder}
use Rattle.lmtp_door.specs.declared.order.LmtpOrder.TheVariants as order
use Rattle.lmtp_door.proofs.Fronts.{StaysFront, SameCommand, SameLong, SameEnd, SameGift, Begun, front-stays, FrontFits, front-fits, not-whole, stays-whole}

-- A reply says the same when more bytes follow.
reply-by : (s : LastKnown) (q rest : List ℕ) (opened : Bool) (r : LmtpReply) (t : Bool) → is_bye r.notice ≡ t → as_said s (rest ++ q) opened r ≡ said_with (with_piece q) (as_said s rest opened r)
reply-by s q rest opened r true is = rw is refl
reply-by s q rest opened r false is = rw is refl

reply-more : (s : LastKnown) (q rest : List ℕ) (opened : Bool) (r : LmtpReply) → as_said s (rest ++ q) opened r ≡ said_with (with_piece q) (as_said s rest opened r)
reply-more s q rest opened r = reply-by s q rest opened r (is_bye r.notice) refl

order-more : (s : LastKnown) (phase : LmtpPhase) (opened : Bool) (asked : LmtpOrder) (q rest : List ℕ) (way : Departure) → said_order s phase opened asked (rest ++ q) way ≡ said_with (with_piece q) (said_order s phase opened asked rest way)
order-more s phase opened asked q rest Plain = reply-more s q rest opened (replied phase asked)
order-more s phase opened asked q rest Memory = reply-more s q rest opened (starved phase asked)
order-more s phase opened asked q rest Disk = reply-more s q rest opened (replied phase asked)
order-more s phase opened asked q rest Newer = reply-more s q rest opened (replied phase asked)

opening-more : (s : LastKnown) (q : List ℕ) (ready next : Guest) (way : Departure) → said_opening s (with_piece q ready) (with_piece q next) way ≡ said_with (with_piece q) (said_opening s ready next way)
opening-more s q ready next Plain = refl
opening-more s q ready next Memory = refl
opening-more s q ready next Disk = refl
opening-more s q ready next Newer = refl

giving-more : (moment : ℕ) (s : LastKnown) (text q : List ℕ) (next : Guest) (way : Departure) → said_giving moment s text (with_piece q next) way ≡ said_with (with_piece q) (said_giving moment s text next way)
giving-more moment s text q next Plain = refl
giving-more moment s text q next Memory = refl
giving-more moment s text q next Disk = refl
giving-more moment s text q next Newer = refl

given-more : (q : List ℕ) (n : ℕ) (text : List ℕ) (count : ℕ) (rest : List ℕ) → given_to n text count (rest ++ q) ≡ with_piece q (given_to n text count rest)
given-more q zero text count rest = refl
given-more q (suc n) text count rest = refl

to-one-more : (too opened : Bool) (moment : ℕ) (s : LastKnown) (q : List ℕ) (n : ℕ) (text : List ℕ) (count : ℕ) (rest : List ℕ) (way : Departure)
    → said_to_one too opened moment s n text count (rest ++ q) way ≡ said_with (with_piece q) (said_to_one too opened moment s n text count rest way)
to-one-more true opened moment s q n text count rest way = rw (given-more q n text count rest) refl
to-one-more false true moment s q n text count rest way = rw (given-more q n text count rest) (giving-more moment s text q (given_to n text count rest) way)
to-one-more false false moment s q n text count rest way = rw (given-more q n text count rest) (opening-more s q (guest (Giving n text count) rest true) (given_to n text count rest) way)

at-more : (moment : ℕ) (s : LastKnown) (q : List ℕ) (g : Guest) (way : Departure) (x y : LmtpFront) → StaysFront q x y → is_whole x ≡ true → said_at moment s (with_piece q g) y way ≡ said_with (with_piece q) (said_at moment s g x way)
at-more moment s q g way x y (SameCommand line rest) h = order-more s g.phase g.opened (command_of s.archive.config.name line) q rest way
at-more moment s q g way x y (SameLong rest) h = refl
at-more moment s q g way x y (SameEnd n text count rest) h = refl
at-more moment s q g way x y (SameGift n text count rest) h = to-one-more (nat_lt data_limit count) g.opened moment s q n text count rest way
at-more moment s q g way x y (Begun next) h = absurd (cc h)

-- A command accepts one recipient at most.
mail-few : (phase : LmtpPhase) → recipients (mail_reply phase).phase ≤ recipients phase + 1
mail-few Ungreeted = omega arith
mail-few Greeted = omega arith
mail-few (Mailing n) = omega arith
mail-few (Receiving n r) = omega arith
mail-few (Giving n text count) = omega arith

rcpt-few : (n : ℕ) (room ours : Bool) → recipients (rcpt_in n room ours).phase ≤ n + 1
rcpt-few n false ours = omega arith
rcpt-few n true true = omega arith
rcpt-few n true false = omega arith

rcpt-in-few : (ours : Bool) (phase : LmtpPhase) → recipients (rcpt_reply ours phase).phase ≤ recipients phase + 1
rcpt-in-few ours Ungreeted = omega arith
rcpt-in-few ours Greeted = omega arith
rcpt-in-few ours (Mailing n) = rcpt-few n (nat_lt n recipient_limit) ours
rcpt-in-few ours (Receiving n r) = omega arith
rcpt-in-few ours (Giving n text count) = omega arith

data-few : (phase : LmtpPhase) → recipients (data_reply phase).phase ≤ recipients phase + 1
data-few Ungreeted = omega arith
data-few Greeted = omega arith
data-few (Mailing zero) = omega arith
data-few (Mailing (suc n)) = omega arith
data-few (Receiving n r) = omega arith
data-few (Giving n text count) = omega arith

reset-few : (phase : LmtpPhase) → recipients (reset_phase phase) ≤ recipients phase + 1
reset-few Ungreeted = omega arith
reset-few Greeted = omega arith
reset-few (Mailing n) = omega arith
reset-few (Receiving n r) = omega arith
reset-few (Giving n text count) = omega arith

pub replied-few : (phase : LmtpPhase) (asked : LmtpOrder) → recipients (replied phase asked).phase ≤ recipients phase + 1
replied-few phase order.Hello = omega arith
replied-few phase order.Mail = mail-few phase
replied-few phase (order.Recipient ours) = rcpt-in-few ours phase
replied-few phase order.Data = data-few phase
replied-few phase order.Reset = reset-few phase
replied-few phase order.Noop = omega arith
replied-few phase order.Verify = omega arith
replied-few phase order.Quit = omega arith
replied-few phase order.Mistaken = omega arith
replied-few phase order.Unknown = omega arith

-- A request makes the session smaller.
next-is : (t : Bool) (phase : LmtpPhase) (rest : List ℕ) (opened : Bool) (k : Guest) → next_after t phase rest opened ≡ Some k → guest phase rest opened ≡ k
next-is true phase rest opened k is = absurd (cc is)
next-is false phase rest opened k is = cc

some-is : (a k : Guest) → Some a ≡ Some k → a ≡ k
some-is a k is = cc

given-less : (n : ℕ) (text : List ℕ) (count : ℕ) (rest : List ℕ) → size_of (given_to n text count rest) ≡ 4 * length rest + 2 * n + 1
given-less zero text count rest = omega arith
given-less (suc n) text count rest = omega arith

one-less : (too opened : Bool) (moment : ℕ) (s : LastKnown) (n : ℕ) (text : List ℕ) (count : ℕ) (rest : List ℕ) (k : Guest) → (said_to_one too opened moment s n text count rest Plain).next ≡ Some k
    → size_of k < 4 * length rest + 2 * suc n + (if opened then 0 else 1)
one-less true true moment s n text count rest k next = let e = ap size_of (some-is (given_to n text count rest) k next) in omega (arith, e, given-less n text count rest)
one-less true false moment s n text count rest k next = let e = ap size_of (some-is (given_to n text count rest) k next) in omega (arith, e, given-less n text count rest)
one-less false true moment s n text count rest k next = let e = ap size_of (some-is (given_to n text count rest) k next) in omega (arith, e, given-less n text count rest)
one-less false false moment s n text count rest k next = let e = ap size_of (some-is (guest (Giving n text count) rest true) k next) in omega (arith, e)

at-less : (moment : ℕ) (s : LastKnown) (g k : Guest) (x : LmtpFront) → FrontFits g.phase g.bytes x → is_whole x ≡ true → (said_at moment s g x Plain).next ≡ Some k → size_of k < size_of g
at-less moment s g k (Commanded line rest) fits h next =
    let r : LmtpReply = replied g.phase (command_of s.archive.config.name line) in
    let e = ap size_of (next-is (is_bye r.notice) r.phase rest g.opened k next) in
    omega (arith, e, fits, replied-few g.phase (command_of s.archive.config.name line))
at-less moment s g k (Overlong rest) fits h next =
    let e = ap size_of (some-is (guest g.phase rest g.opened) k next) in
    omega (arith, e, fits)
at-less moment s g k (DataEnds n text count rest) fits h next =
    let e = ap size_of (some-is (guest (Giving n text count) rest g.opened) k next) in
    omega (arith, e, fits.0, fits.1)
at-less moment s g k (GivesTo n text count rest) fits h next =
    let l = one-less (nat_lt data_limit count) g.opened moment s n text count rest k next in
    omega (arith, l, ap length fits.0, fits.1)
at-less moment s g k NotYet fits h next = absurd (cc h)

pub lmtp-cuts : (moment : ℕ) → CutDoor (said moment) has_request with_piece size_of
lmtp-cuts moment = record {
  request_stays = λ q h asked. stays-whole q (front_of h) (front_of (with_piece q h)) (front-stays q h.phase h.bytes) asked;
  said_stays = λ q s h way asked. at-more moment s q h way (front_of h) (front_of (with_piece q h)) (front-stays q h.phase h.bytes) asked;
  rest_plain = λ s h part. ap (λ (x : LmtpFront). said_at moment s h x Plain) (not-whole (front_of h) part);
  rest_kept = λ s h way part. inr (ap (λ (x : LmtpFront). said_at moment s h x way) (not-whole (front_of h) part));
  more_joined = λ p q h. ap (λ (bytes : List ℕ). guest h.phase bytes h.opened) (append_assoc h.bytes p q);
  shorter = λ s h k asked next. at-less moment s h k (front_of h) (front-fits h.phase h.bytes) asked next;
}
