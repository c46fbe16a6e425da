-- The laws of one item or one group of a list, and of the split of an address.
use Rattle.std.proofs.Common.{◌≡◌, ◌<◌, ℕ, suc, ◌+◌, Bool, true, false, cond, ◌==◌, ◌&&◌, nat_lt, nat_le, List, [], ◌∷◌, ◌++◌, None, length, refl, sym, ◌∙◌, ap, append_assoc, append-nil, arith}
use Rattle.std.proofs.Math.Numerals.{one-add}
use Rattle.std.proofs.lemmas.Bool.Decides.{nat_tests}
use Rattle.std.proofs.lemmas.List.{take_all}
use Rattle.std.specs.List.{position_or_len, before_first}
use Rattle.mail_address.specs.declared.place.Place.{Place}
use Rattle.mail_address.specs.declared.place.Place.TheVariants.{Outside, Quoted, Comment}
use Rattle.mail_address.specs.declared.place.Sought.TheVariants.{OpenBracket, CloseBracket, CommentEnd}
use Rattle.mail_address.specs.declared.items.Ending.{Ending}
use Rattle.mail_address.specs.declared.items.Ending.TheVariants.{Semicolon}
use Rattle.mail_address.specs.declared.address.AddressKind.TheVariants.{GroupStart}
use Rattle.mail_address.specs.declared.address.Address.{Address}
use Rattle.mail_address.specs.Places.{marked, bytes_of, is_sought, is_comment_start}
use Rattle.mail_address.specs.Splits.{split_last, is_this, part_after}
use Rattle.mail_address.specs.Words.{name_text, address_text}
use Rattle.mail_address.specs.Items.{cut, onto_item, items_of, len_before, has_bracket, last_comment, name_bytes, address_bytes, up_to_bracket}
use Rattle.mail_address.specs.Addresses.{told, mailbox_in, mailbox_with, without_route}
use Rattle.mail_address.specs.Grammar.{QuotedPart, Literal, Escaped, CommentInside, Empty, TextThen, EscapedThen, CommentThen, is_comment_byte, MayStandInComment, inside_bytes, ValuePiece, Byte, QuotedString, CommentText, spelled_pieces, ArePieces, is_outer_byte}
use Rattle.mail_address.specs.Laws.{is_plain}
use Rattle.mail_address.specs.Mailboxes.{name_said, address_said}
use Rattle.mail_address.specs.Single.{last_inside, bare_said, is_bare_byte, BareReads, is_inner_byte, ItemReads, OpenItemReads, is_grouped_byte, GroupReads, AddressIsSplit, AloneIsMailbox, NothingIsNoMailbox}
use Rattle.mail_address.proofs.Cutting.{put_before}
use Rattle.mail_address.proofs.Seeking.{part_after-split_with}
use Rattle.mail_address.proofs.Plain.{mailbox_with-at, split_last-no}
use Rattle.mail_address.proofs.Marks.{moves, quoted_marks, inside_marks, piece_marks, all_marks, marks_whole, outer_stays}
use Rattle.mail_address.specs.Places.{next_place}
use Rattle.mail_address.proofs.Mailboxes.{Quiet, quiet_pieces, weaker, is_item_byte, is_address_byte, address_stays, cut_outer, cut_inner, seek_outer, seek_inner, bytes_back, name_is, address_is, line, inner_quiet, cut_front, cut_line, name_line, address_line, up_to_line, end, told_colon, lacks}

-- Marks of which none passes.
abbrev NoneOf : (ℕ × Place → Bool) → List (ℕ × Place) → Type 0
NoneOf p [] = Unit {0}
NoneOf p (m ∷ ms) = (p m ≡ false) × NoneOf p ms

none_append : (p : ℕ × Place → Bool) (ms ns : List (ℕ × Place)) → NoneOf p ms → NoneOf p ns → NoneOf p (ms ++ ns)
none_append p [] ns q r = r
none_append p (m ∷ ms) ns q r = (q.0, none_append p ms ns q.1 r)

-- No mark in a quoted string or a comment begins an outermost comment.
quoted_starts : (parts : List QuotedPart) → NoneOf is_comment_start (quoted_marks parts)
quoted_starts [] = tt
quoted_starts (Literal b ∷ parts) = (refl, quoted_starts parts)
quoted_starts (Escaped b ∷ parts) = (refl, (refl, quoted_starts parts))

inside_starts : (d : ℕ) (inside : CommentInside) → NoneOf is_comment_start (inside_marks d inside)
inside_starts d Empty = tt
inside_starts d (TextThen b more) = (refl, inside_starts d more)
inside_starts d (EscapedThen b more) = (refl, (refl, inside_starts d more))
inside_starts d (CommentThen inner more) =
    (refl, none_append is_comment_start (inside_marks (suc d) inner) ((41, Comment (suc d)) ∷ inside_marks d more) (inside_starts (suc d) inner) (refl, inside_starts d more))

-- No mark inside a comment ends the outermost one.
and_false : (t : Bool) → (t && false) ≡ false
and_false true = refl
and_false false = refl

no_end : (n b : ℕ) → is_comment_byte b ≡ true → is_sought CommentEnd (b, Comment n) ≡ false
no_end n b h = let close : (b == 41) ≡ false = grind (arith, nat_tests) in rw close (and_false (nat_le n 1))

deeper_end : (n : ℕ) → is_sought CommentEnd (41, Comment (suc (suc n))) ≡ false
deeper_end n = let deep : nat_le (suc (suc n)) 1 ≡ false = grind (arith, nat_tests) in rw deep refl

inside_ends : (n : ℕ) (inside : CommentInside) → MayStandInComment inside → NoneOf (is_sought CommentEnd) (inside_marks (suc n) inside)
inside_ends n Empty q = tt
inside_ends n (TextThen b more) q = (no_end (suc n) b q.0, inside_ends n more q.1)
inside_ends n (EscapedThen b more) q = (and_false (nat_le (suc n) 1), (refl, inside_ends n more q))
inside_ends n (CommentThen inner more) q =
    (and_false (nat_le (suc n) 1), none_append (is_sought CommentEnd) (inside_marks (suc (suc n)) inner) ((41, Comment (suc (suc n))) ∷ inside_marks (suc n) more) (inside_ends (suc n) inner q.0) (deeper_end n, inside_ends n more q.1))

ends_first : (ms ns : List (ℕ × Place)) → NoneOf (is_sought CommentEnd) ms → before_first (is_sought CommentEnd) (ms ++ (41, Comment 1) ∷ ns) ≡ ms
ends_first [] ns q = refl
ends_first (m ∷ ms) ns q = rw (q.0, one-add) (ap (λ (ks : List (ℕ × Place)). m ∷ ks) (ends_first ms ns q.1))

inside_back : (d : ℕ) (inside : CommentInside) (ms : List (ℕ × Place)) → bytes_of (inside_marks d inside ++ ms) ≡ inside_bytes inside ++ bytes_of ms
inside_back d Empty ms = refl
inside_back d (TextThen b more) ms = ap (λ (xs : List ℕ). b ∷ xs) (inside_back d more ms)
inside_back d (EscapedThen b more) ms = ap (λ (xs : List ℕ). 92 ∷ b ∷ xs) (inside_back d more ms)
inside_back d (CommentThen inner more) ms =
    ap (λ (ks : List (ℕ × Place)). 40 ∷ bytes_of ks) (append_assoc (inside_marks (suc d) inner) ((41, Comment (suc d)) ∷ inside_marks d more) ms)
    ∙ ap (λ (xs : List ℕ). 40 ∷ xs) (inside_back (suc d) inner ((41, Comment (suc d)) ∷ (inside_marks d more ++ ms)))
    ∙ ap (λ (xs : List ℕ). 40 ∷ (inside_bytes inner ++ 41 ∷ xs)) (inside_back d more ms)
    ∙ ap (λ (xs : List ℕ). 40 ∷ xs) (sym (append_assoc (inside_bytes inner) (41 ∷ inside_bytes more) (bytes_of ms)))

inside_is : (inside : CommentInside) (ms : List (ℕ × Place)) → MayStandInComment inside
    → bytes_of (before_first (is_sought CommentEnd) (inside_marks 1 inside ++ (41, Comment 1) ∷ ms)) ≡ inside_bytes inside
inside_is inside ms q =
    ap bytes_of (ends_first (inside_marks 1 inside) ms (inside_ends 0 inside q) ∙ sym (append-nil (inside_marks 1 inside)))
    ∙ inside_back 1 inside [] ∙ append-nil (inside_bytes inside)

-- The marks after the start of the last comment.
starts_skipped : (ms ns others : List (ℕ × Place)) → NoneOf is_comment_start ms
    → part_after others (split_last is_comment_start (ms ++ ns)) ≡ part_after others (split_last is_comment_start ns)
starts_skipped [] ns others q = refl
starts_skipped (m ∷ ms) ns others q =
    part_after-split_with (is_comment_start m) m (ms ++ ns) others (split_last is_comment_start (ms ++ ns))
    ∙ ap (λ (t : Bool). part_after (cond t (ms ++ ns) others) (split_last is_comment_start (ms ++ ns))) q.0
    ∙ starts_skipped ms ns others q.1

last_is : (pieces : List ValuePiece) (others : List (ℕ × Place)) (found : List ℕ) → ArePieces is_outer_byte pieces
    → bytes_of (before_first (is_sought CommentEnd) others) ≡ found
    → bytes_of (before_first (is_sought CommentEnd) (part_after others (split_last is_comment_start (all_marks pieces)))) ≡ last_inside pieces found
last_is [] others found q e = e
last_is (Byte b ∷ pieces) others found q e =
    ap (λ (ms : List (ℕ × Place)). bytes_of (before_first (is_sought CommentEnd) ms)) (starts_skipped ((b, Outside) ∷ []) (all_marks pieces) others (no_start b q.0, tt))
    ∙ last_is pieces others found q.1 e
  where
    no_start : (b : ℕ) → is_outer_byte b ≡ true → (b == 40) ≡ false
    no_start b h = grind (arith, nat_tests)
last_is (QuotedString parts ∷ pieces) others found q e =
    ap (λ (ms : List (ℕ × Place)). bytes_of (before_first (is_sought CommentEnd) ms))
    (starts_skipped (piece_marks (QuotedString parts)) (all_marks pieces) others (refl, none_append is_comment_start (quoted_marks parts) ((34, Quoted) ∷ []) (quoted_starts parts) (refl, tt)))
    ∙ last_is pieces others found q.1 e
last_is (CommentText inside ∷ pieces) others found q e =
    let within = inside_marks 1 inside ++ (41, Comment 1) ∷ [] in
    let rest = all_marks pieces in
    let after : part_after others (split_last is_comment_start ((40, Outside) ∷ (within ++ rest))) ≡ part_after (within ++ rest) (split_last is_comment_start rest) =
    part_after-split_with true (40, Outside) (within ++ rest) others (split_last is_comment_start (within ++ rest))
    ∙ starts_skipped within rest (within ++ rest) (none_append is_comment_start (inside_marks 1 inside) ((41, Comment 1) ∷ []) (inside_starts 1 inside) (refl, tt)) in
    let first : bytes_of (before_first (is_sought CommentEnd) (within ++ rest)) ≡ inside_bytes inside =
    ap (λ (ms : List (ℕ × Place)). bytes_of (before_first (is_sought CommentEnd) ms)) (append_assoc (inside_marks 1 inside) ((41, Comment 1) ∷ []) rest)
    ∙ inside_is inside rest q.0 in
    ap (λ (ms : List (ℕ × Place)). bytes_of (before_first (is_sought CommentEnd) ms)) after
    ∙ last_is pieces (within ++ rest) (inside_bytes inside) q.1 first

-- An item without `<`.
outer_marks : (pieces : List ValuePiece) → ArePieces is_outer_byte pieces → marked (spelled_pieces pieces) ≡ all_marks pieces
outer_marks pieces q = marks_whole next_place moves is_outer_byte outer_stays pieces q

nat_lt-same : (n : ℕ) → nat_lt n n ≡ false
nat_lt-same n = grind (arith, nat_tests)

has_none : (g : Bool) (pieces : List ValuePiece) → ArePieces is_outer_byte pieces → Quiet (is_item_byte g) (all_marks pieces) → has_bracket (spelled_pieces pieces) ≡ false
has_none g pieces q r =
    let found : position_or_len (is_sought OpenBracket) (marked (spelled_pieces pieces)) ≡ length (bytes_of (all_marks pieces)) + 0 =
    ap (position_or_len (is_sought OpenBracket)) (outer_marks pieces q ∙ sym (append-nil (all_marks pieces))) ∙ seek_outer g (all_marks pieces) [] r in
    let same : length (bytes_of (all_marks pieces)) ≡ length (spelled_pieces pieces) = ap length (bytes_back is_outer_byte outer_stays pieces q) in
    let len : len_before OpenBracket Outside (spelled_pieces pieces) ≡ length (spelled_pieces pieces) = omega arith in
    rw len (nat_lt-same (length (spelled_pieces pieces)))

bare_is : (g : Bool) (pieces : List ValuePiece) → ArePieces is_outer_byte pieces → Quiet (is_item_byte g) (all_marks pieces) → mailbox_in (spelled_pieces pieces) ≡ bare_said pieces
bare_is g pieces q r =
    let has = has_none g pieces q r in
    let last : last_comment (spelled_pieces pieces) ≡ last_inside pieces [] =
    ap (λ (ms : List (ℕ × Place)). bytes_of (before_first (is_sought CommentEnd) (part_after [] (split_last is_comment_start ms)))) (outer_marks pieces q)
    ∙ last_is pieces [] [] q refl in
    let name : name_bytes (spelled_pieces pieces) ≡ last_inside pieces [] = rw has last in
    let address : address_bytes (spelled_pieces pieces) ≡ spelled_pieces pieces = rw has refl in
    let said : address_text (address_bytes (spelled_pieces pieces)) ≡ address_said pieces = ap address_text address ∙ address_is pieces q in
    λ i. mailbox_with (name_text (name i)) (without_route (said i))

cut_whole : (g : Bool) (pieces : List ValuePiece) → ArePieces is_outer_byte pieces → Quiet (is_item_byte g) (all_marks pieces)
    → cut g false (marked (spelled_pieces pieces)) ≡ (spelled_pieces pieces, Semicolon) ∷ []
cut_whole g pieces q r =
    ap (cut g false) (outer_marks pieces q ∙ sym (append-nil (all_marks pieces))) ∙ cut_outer g (all_marks pieces) [] r
    ∙ ap (λ (xs : List ℕ). (xs, Semicolon) ∷ []) (append-nil (bytes_of (all_marks pieces)) ∙ bytes_back is_outer_byte outer_stays pieces q)

tells_one : (item : List ℕ) → told false ((item, Semicolon) ∷ []) ≡ mailbox_in item
tells_one item = append-nil (mailbox_in item ++ []) ∙ append-nil (mailbox_in item)

tells_grouped : (item : List ℕ) → told true ((item, Semicolon) ∷ []) ≡ mailbox_in item ++ end ∷ []
tells_grouped item = append-nil (mailbox_in item ++ end ∷ [])

bare_outer : (b : ℕ) → is_bare_byte b ≡ true → is_outer_byte b ≡ true
bare_outer b h = grind (arith, nat_tests)

bare_item : (b : ℕ) → is_bare_byte b ≡ true → is_item_byte false b ≡ true
bare_item b h = grind (arith, nat_tests)

pub bare_reads : BareReads
bare_reads pieces q =
    let outer = weaker is_bare_byte is_outer_byte bare_outer pieces q in
    let quiet = quiet_pieces (is_item_byte false) refl refl pieces (weaker is_bare_byte (is_item_byte false) bare_item pieces q) in
    ap (told false) (cut_whole false pieces outer quiet) ∙ tells_one (spelled_pieces pieces) ∙ bare_is false pieces outer quiet

-- An item with `<`.
inner_address : (b : ℕ) → is_inner_byte b ≡ true → is_address_byte b ≡ true
inner_address b h = grind (arith, nat_tests)

inner_outer : (b : ℕ) → is_inner_byte b ≡ true → is_outer_byte b ≡ true
inner_outer b h = grind (arith, nat_tests)

plain_outer : (b : ℕ) → is_plain b ≡ true → is_outer_byte b ≡ true
plain_outer b h = grind (arith, nat_tests)

plain_bare : (b : ℕ) → is_plain b ≡ true → is_bare_byte b ≡ true
plain_bare b h = grind (arith, nat_tests)

item_is : (name inside : List ValuePiece) (more : List ℕ) → ArePieces is_plain name → ArePieces is_inner_byte inside → up_to_bracket more ≡ spelled_pieces inside
    → mailbox_in (spelled_pieces name ++ 60 ∷ more) ≡ mailbox_with (name_said name) (without_route (address_said inside))
item_is name inside more q r e =
    let item = spelled_pieces name ++ 60 ∷ more in
    let named : name_text (name_bytes item) ≡ name_said name = ap name_text (name_line name more q) ∙ name_is name q in
    let said : address_text (address_bytes item) ≡ address_said inside =
    ap address_text (address_line name more q ∙ e) ∙ address_is inside (weaker is_inner_byte is_outer_byte inner_outer inside r) in
    λ i. mailbox_with (named i) (without_route (said i))

pub item_reads : ItemReads
item_reads name inside rest q r s =
    let inner = weaker is_inner_byte is_address_byte inner_address inside r in
    let outer = weaker is_plain is_outer_byte plain_outer rest s in
    let quiet = quiet_pieces (is_item_byte false) refl refl rest (weaker is_bare_byte (is_item_byte false) bare_item rest (weaker is_plain is_bare_byte plain_bare rest s)) in
    let more = spelled_pieces inside ++ 62 ∷ spelled_pieces rest in
    let joined : line name inside [] ++ spelled_pieces rest ≡ spelled_pieces name ++ 60 ∷ more = simp append_assoc in
    ap (told false) (cut_line false name inside (spelled_pieces rest) q inner ∙ ap (put_before (line name inside [])) (cut_whole false rest outer quiet))
    ∙ tells_one (line name inside [] ++ spelled_pieces rest)
    ∙ ap mailbox_in joined
    ∙ item_is name inside more q r (up_to_line inside (spelled_pieces rest) inner)

up_to_end : (inner : List ValuePiece) → ArePieces is_address_byte inner → up_to_bracket (spelled_pieces inner) ≡ spelled_pieces inner
up_to_end inner r =
    let found : position_or_len (is_sought CloseBracket) (marked (spelled_pieces inner)) ≡ length (bytes_of (all_marks inner)) + 0
    = ap (position_or_len (is_sought CloseBracket)) (marks_whole next_place moves is_address_byte address_stays inner r ∙ sym (append-nil (all_marks inner))) ∙ seek_inner (all_marks inner) [] (inner_quiet inner r) in
    let same : length (bytes_of (all_marks inner)) ≡ length (spelled_pieces inner) = ap length (bytes_back is_address_byte address_stays inner r) in
    let len : len_before CloseBracket Outside (spelled_pieces inner) ≡ length (spelled_pieces inner) = omega arith in
    rw len (take_all (length (spelled_pieces inner)) (spelled_pieces inner) (omega arith))

cut_open : (inner : List ValuePiece) → ArePieces is_address_byte inner → cut false true (marked (spelled_pieces inner)) ≡ (spelled_pieces inner, Semicolon) ∷ []
cut_open inner r =
    ap (cut false true) (marks_whole next_place moves is_address_byte address_stays inner r ∙ sym (append-nil (all_marks inner)))
    ∙ cut_inner false (all_marks inner) [] (inner_quiet inner r)
    ∙ ap (λ (xs : List ℕ). (xs, Semicolon) ∷ []) (append-nil (bytes_of (all_marks inner)) ∙ bytes_back is_address_byte address_stays inner r)

pub open_item_reads : OpenItemReads
open_item_reads name inside q r =
    let inner = weaker is_inner_byte is_address_byte inner_address inside r in
    ap (told false) (cut_front false name (60 ∷ spelled_pieces inside) q ∙ ap (λ (items : List (List ℕ × Ending)). put_before (spelled_pieces name) (onto_item 60 items)) (cut_open inside inner))
    ∙ tells_one (spelled_pieces name ++ 60 ∷ spelled_pieces inside)
    ∙ item_is name inside (spelled_pieces inside) q r (up_to_end inside inner)

-- A group that is open at the end.
grouped_outer : (b : ℕ) → is_grouped_byte b ≡ true → is_outer_byte b ≡ true
grouped_outer b h = grind (arith, nat_tests)

grouped_item : (b : ℕ) → is_grouped_byte b ≡ true → is_item_byte true b ≡ true
grouped_item b h = grind (arith, nat_tests)

pub group_reads : GroupReads
group_reads name pieces q r =
    let outer = weaker is_grouped_byte is_outer_byte grouped_outer pieces r in
    let quiet = quiet_pieces (is_item_byte true) refl refl pieces (weaker is_grouped_byte (is_item_byte true) grouped_item pieces r) in
    let inside : told true (items_of true (spelled_pieces pieces)) ≡ bare_said pieces ++ end ∷ [] =
    ap (told true) (cut_whole true pieces outer quiet) ∙ tells_grouped (spelled_pieces pieces) ∙ ap (λ (addresses : List Address). addresses ++ end ∷ []) (bare_is true pieces outer quiet) in
    ap (told false) (cut_front false name (58 ∷ spelled_pieces pieces) q)
    ∙ told_colon (spelled_pieces name) (spelled_pieces pieces)
    ∙ (λ i. record { kind = GroupStart; name = name_is name q i; mailbox = []; host = [] } ∷ inside i)

-- The parts of a mailbox.
pub address_is_split : AddressIsSplit
address_is_split name local_part host free = mailbox_with-at name local_part host (lacks 64 host free)

some : (n m : ℕ) → 0 < n + m → (n == 0 && m == 0) ≡ false
some n m h = grind (arith, nat_tests)

pub alone_is_mailbox : AloneIsMailbox
alone_is_mailbox name address free h =
    let none : split_last (is_this 64) address ≡ None = split_last-no 64 address (lacks 64 address free) in
    let there = some (length name) (length address) h in
    rw (there, none) refl

pub nothing_is_no_mailbox : NothingIsNoMailbox
nothing_is_no_mailbox = refl
