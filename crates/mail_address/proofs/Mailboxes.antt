-- Lists of mailboxes and groups are read back.
use Rattle.std.proofs.Common.{◌≡◌, ◌⊎◌, inl, inr, ℕ, suc, ◌+◌, ◌<◌, Bool, true, false, cond, ◌==◌, ◌&&◌, ◌||◌, not, List, [], ◌∷◌, ◌++◌, map, Option, Some, length, drop, refl, sym, ◌∙◌, ap, append_assoc, append-nil, zero-add, arith}
use Rattle.std.proofs.lemmas.Bool.{false_from_ne_true, eqb-true}
use Rattle.std.proofs.lemmas.Bool.Decides.{nat_tests}
use Rattle.std.proofs.lemmas.List.{take_at, drop_at, drop-drop, length-append}
use Rattle.std.specs.List.{AllPass, flat_map, filter, position_or_len}
use Rattle.mail_address.specs.declared.place.Place.{Place}
use Rattle.mail_address.specs.declared.place.Place.TheVariants.{Outside, Quoted, Comment, CommentPair}
use Rattle.mail_address.specs.declared.place.Sought.TheVariants.{OpenBracket, CloseBracket}
use Rattle.mail_address.specs.declared.items.Ending.{Ending}
use Rattle.mail_address.specs.declared.address.AddressKind.TheVariants.{GroupStart, GroupEnd}
use Rattle.mail_address.specs.declared.address.Address.{Address}
use Rattle.mail_address.specs.Places.{next_place, next_name_place, marked, bytes_of, is_outside, is_sought}
use Rattle.mail_address.specs.Splits.{split_last, is_this, part_after}
use Rattle.mail_address.specs.Words.{stays_in_name, stays_in_address, joined_words, name_text, address_text}
use Rattle.mail_address.specs.Items.{cut, onto_item, items_of, ends_item, len_before, has_bracket, after_bracket, up_to_bracket, name_bytes, address_bytes}
use Rattle.mail_address.specs.Addresses.{told, mailbox_in, mailbox_with, without_route, group_start}
use Rattle.mail_address.specs.Grammar.{QuotedPart, Literal, Escaped, CommentInside, Empty, TextThen, EscapedThen, CommentThen, is_quoted_byte, MayStandQuoted, quoted_bytes, ValuePiece, Byte, QuotedString, CommentText, piece_bytes, spelled_pieces, IsPiece, ArePieces, is_outer_byte}
use Rattle.mail_address.specs.Laws.{is_plain}
use Rattle.mail_address.specs.Texts.{is_name_byte}
use Rattle.mail_address.specs.Mailboxes.{quoted_said, said_in_name, said_in_address, name_said, address_said, WrittenMailbox, is_route_byte, IsRoute, HasNo, AreColonsFree, IsWrittenMailbox, written, written_list, Member, One, Group, AllWritten, IsMember, AreMembers, member_bytes, member_list, mailbox_said, member_said, MembersReadBack}
use Rattle.mail_address.proofs.Cutting.{put_before}
use Rattle.mail_address.proofs.Seeking.{bytes_of-marked_by}
use Rattle.mail_address.proofs.Spacing.{without_space-space}
use Rattle.mail_address.proofs.Plain.{HasNo as Lacks, all_head, all_tail, put_before-nil, onto_item-put_before, put_before-line, nat_lt-true, mailbox_with-at, cond_same, has_no-append, split_last-no, split_last-this}
use Rattle.mail_address.proofs.Marks.{moves, moves_in_name, quoted_marks, inside_marks, piece_marks, all_marks, marks_all, marks_whole, outer_stays}

-- Marks that are in a quoted string or a comment, or whose bytes pass a test.
abbrev pub Quiet : (ℕ → Bool) → List (ℕ × Place) → Type 0
Quiet p [] = Unit {0}
Quiet p (mark ∷ ms) = ((is_outside mark.1 && not (p mark.0)) ≡ false) × Quiet p ms

quiet_append : (p : ℕ → Bool) (ms ns : List (ℕ × Place)) → Quiet p ms → Quiet p ns → Quiet p (ms ++ ns)
quiet_append p [] ns q r = r
quiet_append p (m ∷ ms) ns q r = (q.0, quiet_append p ms ns q.1 r)

quiet_quoted : (p : ℕ → Bool) (parts : List QuotedPart) → Quiet p (quoted_marks parts)
quiet_quoted p [] = tt
quiet_quoted p (Literal b ∷ parts) = (refl, quiet_quoted p parts)
quiet_quoted p (Escaped b ∷ parts) = (refl, (refl, quiet_quoted p parts))

quiet_inside : (p : ℕ → Bool) (d : ℕ) (inside : CommentInside) → Quiet p (inside_marks d inside)
quiet_inside p d Empty = tt
quiet_inside p d (TextThen b more) = (refl, quiet_inside p d more)
quiet_inside p d (EscapedThen b more) = (refl, (refl, quiet_inside p d more))
quiet_inside p d (CommentThen inner more) =
    (refl, quiet_append p (inside_marks (suc d) inner) ((41, Comment (suc d)) ∷ inside_marks d more) (quiet_inside p (suc d) inner) (refl, quiet_inside p d more))

passing : (t : Bool) → t ≡ true → not t ≡ false
passing true e = refl
passing false e = cc

pub quiet_pieces : (p : ℕ → Bool) → p 34 ≡ true → p 40 ≡ true → (pieces : List ValuePiece) → ArePieces p pieces → Quiet p (all_marks pieces)
quiet_pieces p quote paren [] q = tt
quiet_pieces p quote paren (Byte b ∷ pieces) q = (passing (p b) q.0, quiet_pieces p quote paren pieces q.1)
quiet_pieces p quote paren (QuotedString parts ∷ pieces) q = (
  passing (p 34) quote,
  quiet_append p (quoted_marks parts ++ (34, Quoted) ∷ []) (all_marks pieces)
      (quiet_append p (quoted_marks parts) ((34, Quoted) ∷ []) (quiet_quoted p parts) (refl, tt)) (quiet_pieces p quote paren pieces q.1),
)
quiet_pieces p quote paren (CommentText inside ∷ pieces) q = (
  passing (p 40) paren,
  quiet_append p (inside_marks 1 inside ++ (41, Comment 1) ∷ []) (all_marks pieces)
      (quiet_append p (inside_marks 1 inside) ((41, Comment 1) ∷ []) (quiet_inside p 1 inside) (refl, tt)) (quiet_pieces p quote paren pieces q.1),
)

-- Pieces that pass one test pass a weaker one.
pub weaker : (p r : ℕ → Bool) → ((b : ℕ) → p b ≡ true → r b ≡ true) → (pieces : List ValuePiece) → ArePieces p pieces → ArePieces r pieces
weaker p r h [] q = tt
weaker p r h (Byte b ∷ pieces) q = (h b q.0, weaker p r h pieces q.1)
weaker p r h (QuotedString parts ∷ pieces) q = (q.0, weaker p r h pieces q.1)
weaker p r h (CommentText inside ∷ pieces) q = (q.0, weaker p r h pieces q.1)

-- Bytes that end no item, whether or not a group is open, and open no bracket; and those that close
-- none.
abbrev pub is_item_byte : Bool → ℕ → Bool
is_item_byte g b = not (b == 44) && not (b == 58 && not g) && not (b == 59) && not (b == 60)

abbrev pub is_bracket_byte : ℕ → Bool
is_bracket_byte b = not (b == 62)

plain_item : (g : Bool) (b : ℕ) → is_plain b ≡ true → is_item_byte g b ≡ true
plain_item true b h = grind (arith, nat_tests)
plain_item false b h = grind (arith, nat_tests)

pub plain_stays : (b : ℕ) → is_plain b ≡ true → next_place Outside b ≡ Outside
plain_stays b h =
    let quote : (b == 34) ≡ false = grind (arith, nat_tests) in
    let paren : (b == 40) ≡ false = grind (arith, nat_tests) in
    rw (quote, paren) refl

-- A byte of an address as it is written: one of a route, of what says the mailbox, or a space.
abbrev pub is_address_byte : ℕ → Bool
is_address_byte b = not (b == 34) && not (b == 40) && not (b == 62)

pub plain_address : (b : ℕ) → is_plain b ≡ true → is_address_byte b ≡ true
plain_address b h = grind (arith, nat_tests)

route_address : (b : ℕ) → is_route_byte b ≡ true → is_address_byte b ≡ true
route_address b h = grind (arith, nat_tests)

pub address_stays : (b : ℕ) → is_address_byte b ≡ true → next_place Outside b ≡ Outside
address_stays b h =
    let quote : (b == 34) ≡ false = grind (arith, nat_tests) in
    let paren : (b == 40) ≡ false = grind (arith, nat_tests) in
    rw (quote, paren) refl

address_bracket : (b : ℕ) → is_address_byte b ≡ true → is_bracket_byte b ≡ true
address_bracket b h = grind (arith, nat_tests)

address_outer : (b : ℕ) → is_address_byte b ≡ true → is_outer_byte b ≡ true
address_outer b h = grind (arith, nat_tests)

-- The bytes of a name without a backslash outside.
plain_name : (b : ℕ) → is_plain b ≡ true → is_name_byte b ≡ true
plain_name b h = grind (arith, nat_tests)

pub name_stays : (b : ℕ) → is_name_byte b ≡ true → next_name_place Outside b ≡ Outside
name_stays b h =
    let quote : (b == 34) ≡ false = grind (arith, nat_tests) in
    let paren : (b == 40) ≡ false = grind (arith, nat_tests) in
    let backslash : (b == 92) ≡ false = grind (arith, nat_tests) in
    rw (backslash, quote, paren) refl

-- Quiet marks belong to the item that follows them.
ends_quiet : (g : Bool) (place : Place) (b : ℕ) → (is_outside place && not (is_item_byte g b)) ≡ false → ends_item g false (b, place) ≡ false
ends_quiet g place b h = by (is_outside place) g h
  where
    by : (o g : Bool) → (o && not (is_item_byte g b)) ≡ false → (true && o && (b == 44 || b == 59 || (b == 58 && not g))) ≡ false
    by true true h = grind (arith, nat_tests)
    by true false h = grind (arith, nat_tests)
    by false g h = refl

opens_quiet : (g : Bool) (place : Place) (b : ℕ) → (is_outside place && not (is_item_byte g b)) ≡ false → (is_outside place && b == 60) ≡ false
opens_quiet g place b h = by (is_outside place) g h
  where
    by : (o g : Bool) → (o && not (is_item_byte g b)) ≡ false → (o && b == 60) ≡ false
    by true true h = grind (arith, nat_tests)
    by true false h = grind (arith, nat_tests)
    by false g h = refl

closes_quiet : (place : Place) (b : ℕ) → (is_outside place && not (is_bracket_byte b)) ≡ false → (is_outside place && b == 62) ≡ false
closes_quiet place b h = by (is_outside place) h
  where
    by : (o : Bool) → (o && not (is_bracket_byte b)) ≡ false → (o && b == 62) ≡ false
    by true h = grind (arith, nat_tests)
    by false h = refl

pub cut_outer : (g : Bool) (ms ns : List (ℕ × Place)) → Quiet (is_item_byte g) ms → cut g false (ms ++ ns) ≡ put_before (bytes_of ms) (cut g false ns)
cut_outer g [] ns q = put_before-nil (cut g false ns)
cut_outer g (m ∷ ms) ns q =
    let ends : ends_item g false m ≡ false = ends_quiet g m.1 m.0 q.0 in
    let opens : (is_outside m.1 && m.0 == 60) ≡ false = opens_quiet g m.1 m.0 q.0 in
    rw (ends, opens, cut_outer g ms ns q.1) (onto_item-put_before m.0 (bytes_of ms) (cut g false ns))

pub cut_inner : (g : Bool) (ms ns : List (ℕ × Place)) → Quiet is_bracket_byte ms → cut g true (ms ++ ns) ≡ put_before (bytes_of ms) (cut g true ns)
cut_inner g [] ns q = put_before-nil (cut g true ns)
cut_inner g (m ∷ ms) ns q =
    let closes : (is_outside m.1 && m.0 == 62) ≡ false = closes_quiet m.1 m.0 q.0 in
    rw (closes, cut_inner g ms ns q.1) (onto_item-put_before m.0 (bytes_of ms) (cut g true ns))

-- The byte that is searched for is not among them.
pub seek_outer : (g : Bool) (ms ns : List (ℕ × Place)) → Quiet (is_item_byte g) ms
    → position_or_len (is_sought OpenBracket) (ms ++ ns) ≡ length (bytes_of ms) + position_or_len (is_sought OpenBracket) ns
seek_outer g [] ns q = sym (zero-add (position_or_len (is_sought OpenBracket) ns))
seek_outer g (m ∷ ms) ns q =
    let opens : (is_outside m.1 && m.0 == 60) ≡ false = opens_quiet g m.1 m.0 q.0 in
    rw (opens, seek_outer g ms ns q.1) (omega arith)

pub seek_inner : (ms ns : List (ℕ × Place)) → Quiet is_bracket_byte ms
    → position_or_len (is_sought CloseBracket) (ms ++ ns) ≡ length (bytes_of ms) + position_or_len (is_sought CloseBracket) ns
seek_inner [] ns q = sym (zero-add (position_or_len (is_sought CloseBracket) ns))
seek_inner (m ∷ ms) ns q =
    let closes : (is_outside m.1 && m.0 == 62) ≡ false = closes_quiet m.1 m.0 q.0 in
    rw (closes, seek_inner ms ns q.1) (omega arith)

pub bytes_back : (p : ℕ → Bool) → ((b : ℕ) → p b ≡ true → next_place Outside b ≡ Outside) → (pieces : List ValuePiece) → ArePieces p pieces
    → bytes_of (all_marks pieces) ≡ spelled_pieces pieces
bytes_back p stays pieces q =
    ap bytes_of (sym (marks_whole next_place moves p stays pieces q)) ∙ bytes_of-marked_by next_place Outside (spelled_pieces pieces)

spelled_two : (ps qs : List ValuePiece) → spelled_pieces (ps ++ qs) ≡ spelled_pieces ps ++ spelled_pieces qs
spelled_two [] qs = refl
spelled_two (p ∷ ps) qs = ap (λ (xs : List ℕ). piece_bytes p ++ xs) (spelled_two ps qs) ∙ sym (append_assoc (piece_bytes p) (spelled_pieces ps) (spelled_pieces qs))

said_two : (said : ValuePiece → List ℕ) (ps qs : List ValuePiece) → flat_map said (ps ++ qs) ≡ flat_map said ps ++ flat_map said qs
said_two said [] qs = refl
said_two said (p ∷ ps) qs = ap (λ (xs : List ℕ). said p ++ xs) (said_two said ps qs) ∙ sym (append_assoc (said p) (flat_map said ps) (flat_map said qs))

are_two : (p : ℕ → Bool) (ps qs : List ValuePiece) → ArePieces p ps → ArePieces p qs → ArePieces p (ps ++ qs)
are_two p [] qs q r = r
are_two p (x ∷ ps) qs q r = (q.0, are_two p ps qs q.1 r)

-- What the marks of pieces say in a name.
abbrev pub keep_name : ℕ × Place → Bool
keep_name mark = stays_in_name mark.1 mark.0

abbrev keep_address : ℕ × Place → Bool
keep_address mark = stays_in_address mark.1 mark.0

drop_inside : (keep : ℕ × Place → Bool) → ((d b : ℕ) → keep (b, Comment d) ≡ false) → ((d b : ℕ) → keep (b, CommentPair d) ≡ false)
    → (d : ℕ) (inside : CommentInside) (ms : List (ℕ × Place)) → filter keep (inside_marks d inside ++ ms) ≡ filter keep ms
drop_inside keep byte pair d Empty ms = refl
drop_inside keep byte pair d (TextThen b more) ms = rw (byte d b) (drop_inside keep byte pair d more ms)
drop_inside keep byte pair d (EscapedThen b more) ms = rw (byte d 92, pair d b) (drop_inside keep byte pair d more ms)
drop_inside keep byte pair d (CommentThen inner more) ms =
    let first : filter keep ((40, Comment d) ∷ ((inside_marks (suc d) inner ++ (41, Comment (suc d)) ∷ inside_marks d more) ++ ms)) ≡ filter keep ((inside_marks (suc d) inner ++ (41, Comment (suc d)) ∷ inside_marks d more) ++ ms) = rw (byte d 40) refl in
    let last : filter keep ((41, Comment (suc d)) ∷ (inside_marks d more ++ ms)) ≡ filter keep (inside_marks d more ++ ms) = rw (byte (suc d) 41) refl in
    first ∙ ap (filter keep) (append_assoc (inside_marks (suc d) inner) ((41, Comment (suc d)) ∷ inside_marks d more) ms)
    ∙ drop_inside keep byte pair (suc d) inner ((41, Comment (suc d)) ∷ (inside_marks d more ++ ms)) ∙ last ∙ drop_inside keep byte pair d more ms

name_quoted : (parts : List QuotedPart) → MayStandQuoted parts → (ms : List (ℕ × Place)) → bytes_of (filter keep_name (quoted_marks parts ++ ms)) ≡ quoted_said parts ++ bytes_of (filter keep_name ms)
name_quoted [] q ms = refl
name_quoted (Literal b ∷ parts) q ms =
    let quote : (b == 34) ≡ false = no_quote b q.0 in
    let backslash : (b == 92) ≡ false = no_backslash b q.0 in
    rw (quote, backslash) (ap (λ (xs : List ℕ). b ∷ xs) (name_quoted parts q.1 ms))
  where
    no_quote : (b : ℕ) → is_quoted_byte b ≡ true → (b == 34) ≡ false
    no_quote b h = grind (arith, nat_tests)

    no_backslash : (b : ℕ) → is_quoted_byte b ≡ true → (b == 92) ≡ false
    no_backslash b h = grind (arith, nat_tests)
name_quoted (Escaped b ∷ parts) q ms = ap (λ (xs : List ℕ). b ∷ xs) (name_quoted parts q ms)

pub name_piece : (piece : ValuePiece) → IsPiece is_name_byte piece → (ms : List (ℕ × Place))
    → bytes_of (filter keep_name (piece_marks piece ++ ms)) ≡ said_in_name piece ++ bytes_of (filter keep_name ms)
name_piece (Byte b) q ms = rw (no_quote b q, no_paren b q, no_backslash b q) refl
  where
    no_quote : (b : ℕ) → is_name_byte b ≡ true → (b == 34) ≡ false
    no_quote b h = grind (arith, nat_tests)

    no_paren : (b : ℕ) → is_name_byte b ≡ true → (b == 40) ≡ false
    no_paren b h = grind (arith, nat_tests)

    no_backslash : (b : ℕ) → is_name_byte b ≡ true → (b == 92) ≡ false
    no_backslash b h = grind (arith, nat_tests)
name_piece (QuotedString parts) q ms =
    ap (λ ns. bytes_of (filter keep_name ns)) (append_assoc (quoted_marks parts) ((34, Quoted) ∷ []) ms) ∙ name_quoted parts q ((34, Quoted) ∷ ms)
name_piece (CommentText inside) q ms =
    ap (λ ns. bytes_of (filter keep_name ns)) (append_assoc (inside_marks 1 inside) ((41, Comment 1) ∷ []) ms)
    ∙ ap bytes_of (drop_inside keep_name (λ d b. refl) (λ d b. refl) 1 inside ((41, Comment 1) ∷ ms))

name_pieces : (pieces : List ValuePiece) → ArePieces is_name_byte pieces → bytes_of (filter keep_name (all_marks pieces)) ≡ flat_map said_in_name pieces
name_pieces [] q = refl
name_pieces (piece ∷ pieces) q = name_piece piece q.0 (all_marks pieces) ∙ ap (λ (xs : List ℕ). said_in_name piece ++ xs) (name_pieces pieces q.1)

pub name_is : (pieces : List ValuePiece) → ArePieces is_plain pieces → name_text (spelled_pieces pieces) ≡ name_said pieces
name_is pieces q =
    let named = weaker is_plain is_name_byte plain_name pieces q in
    ap joined_words (ap (λ ms. bytes_of (filter keep_name ms)) (marks_whole next_name_place moves_in_name is_name_byte name_stays pieces named) ∙ name_pieces pieces named)

-- What the marks of pieces say in an address.
address_quoted : (parts : List QuotedPart) (ms : List (ℕ × Place)) → bytes_of (filter keep_address (quoted_marks parts ++ ms)) ≡ quoted_bytes parts ++ bytes_of (filter keep_address ms)
address_quoted [] ms = refl
address_quoted (Literal b ∷ parts) ms = ap (λ (xs : List ℕ). b ∷ xs) (address_quoted parts ms)
address_quoted (Escaped b ∷ parts) ms = ap (λ (xs : List ℕ). 92 ∷ b ∷ xs) (address_quoted parts ms)

address_piece : (piece : ValuePiece) → IsPiece is_outer_byte piece → (ms : List (ℕ × Place))
    → bytes_of (filter keep_address (piece_marks piece ++ ms)) ≡ said_in_address piece ++ bytes_of (filter keep_address ms)
address_piece (Byte b) q ms = rw (no_paren b q) (by (b == 32))
  where
    no_paren : (b : ℕ) → is_outer_byte b ≡ true → (b == 40) ≡ false
    no_paren b h = grind (arith, nat_tests)

    by : (t : Bool) → bytes_of (cond (true && not t) ((b, Outside) ∷ filter keep_address ms) (filter keep_address ms)) ≡ cond t [] (b ∷ []) ++ bytes_of (filter keep_address ms)
    by true = refl
    by false = refl
address_piece (QuotedString parts) q ms =
    ap (λ ns. 34 ∷ bytes_of (filter keep_address ns)) (append_assoc (quoted_marks parts) ((34, Quoted) ∷ []) ms)
    ∙ ap (λ (xs : List ℕ). 34 ∷ xs) (address_quoted parts ((34, Quoted) ∷ ms))
    ∙ ap (λ (xs : List ℕ). 34 ∷ xs) (sym (append_assoc (quoted_bytes parts) (34 ∷ []) (bytes_of (filter keep_address ms))))
address_piece (CommentText inside) q ms =
    ap (λ ns. bytes_of (filter keep_address ns)) (append_assoc (inside_marks 1 inside) ((41, Comment 1) ∷ []) ms)
    ∙ ap bytes_of (drop_inside keep_address (λ d b. refl) (λ d b. refl) 1 inside ((41, Comment 1) ∷ ms))

address_pieces : (pieces : List ValuePiece) → ArePieces is_outer_byte pieces → bytes_of (filter keep_address (all_marks pieces)) ≡ address_said pieces
address_pieces [] q = refl
address_pieces (piece ∷ pieces) q = address_piece piece q.0 (all_marks pieces) ∙ ap (λ (xs : List ℕ). said_in_address piece ++ xs) (address_pieces pieces q.1)

pub address_is : (pieces : List ValuePiece) → ArePieces is_outer_byte pieces → address_text (spelled_pieces pieces) ≡ address_said pieces
address_is pieces q =
    ap (λ ms. bytes_of (filter keep_address ms)) (marks_whole next_place moves is_outer_byte outer_stays pieces q) ∙ address_pieces pieces q

-- A mailbox as it is in a list: pieces of a name, pieces between brackets, and what follows.
abbrev pub line : List ValuePiece → List ValuePiece → List ℕ → List ℕ
line front inner ys = spelled_pieces front ++ 60 ∷ (spelled_pieces inner ++ 62 ∷ ys)

marks_front : (front : List ValuePiece) (ys : List ℕ) → ArePieces is_plain front → marked (spelled_pieces front ++ ys) ≡ all_marks front ++ marked ys
marks_front front ys q = marks_all next_place moves is_plain plain_stays front q ys

pub marks_address : (inner : List ValuePiece) (ys : List ℕ) → ArePieces is_address_byte inner → marked (spelled_pieces inner ++ ys) ≡ all_marks inner ++ marked ys
marks_address inner ys q = marks_all next_place moves is_address_byte address_stays inner q ys

front_quiet : (g : Bool) (front : List ValuePiece) → ArePieces is_plain front → Quiet (is_item_byte g) (all_marks front)
front_quiet g front q = quiet_pieces (is_item_byte g) refl refl front (weaker is_plain (is_item_byte g) (plain_item g) front q)

pub inner_quiet : (inner : List ValuePiece) → ArePieces is_address_byte inner → Quiet is_bracket_byte (all_marks inner)
inner_quiet inner q = quiet_pieces is_bracket_byte refl refl inner (weaker is_address_byte is_bracket_byte address_bracket inner q)

pub cut_front : (g : Bool) (front : List ValuePiece) (ys : List ℕ) → ArePieces is_plain front
    → cut g false (marked (spelled_pieces front ++ ys)) ≡ put_before (spelled_pieces front) (cut g false (marked ys))
cut_front g front ys q =
    ap (cut g false) (marks_front front ys q) ∙ cut_outer g (all_marks front) (marked ys) (front_quiet g front q)
    ∙ ap (λ (xs : List ℕ). put_before xs (cut g false (marked ys))) (bytes_back is_plain plain_stays front q)

pub cut_line : (g : Bool) (front inner : List ValuePiece) (ys : List ℕ) → ArePieces is_plain front → ArePieces is_address_byte inner
    → cut g false (marked (line front inner ys)) ≡ put_before (line front inner []) (cut g false (marked ys))
cut_line g front inner ys q r =
    let within : cut g true (marked (spelled_pieces inner ++ 62 ∷ ys)) ≡ put_before (spelled_pieces inner) (onto_item 62 (cut g false (marked ys)))
    = ap (cut g true) (marks_address inner (62 ∷ ys) r) ∙ cut_inner g (all_marks inner) (marked (62 ∷ ys)) (inner_quiet inner r)
    ∙ ap (λ (xs : List ℕ). put_before xs (onto_item 62 (cut g false (marked ys)))) (bytes_back is_address_byte address_stays inner r) in
    cut_front g front (60 ∷ (spelled_pieces inner ++ 62 ∷ ys)) q
    ∙ ap (λ (items : List (List ℕ × Ending)). put_before (spelled_pieces front) (onto_item 60 items)) within
    ∙ put_before-line (spelled_pieces front) (spelled_pieces inner) (cut g false (marked ys))

-- The parts of a mailbox, whatever follows the bracket.
len_line : (front : List ValuePiece) (more : List ℕ) → ArePieces is_plain front → len_before OpenBracket Outside (spelled_pieces front ++ 60 ∷ more) ≡ length (spelled_pieces front)
len_line front more q =
    let found : position_or_len (is_sought OpenBracket) (marked (spelled_pieces front ++ 60 ∷ more)) ≡ length (bytes_of (all_marks front)) + 0
    = ap (position_or_len (is_sought OpenBracket)) (marks_front front (60 ∷ more) q) ∙ seek_outer false (all_marks front) (marked (60 ∷ more)) (front_quiet false front q) in
    let same : length (bytes_of (all_marks front)) ≡ length (spelled_pieces front) = ap length (bytes_back is_plain plain_stays front q) in
    omega arith

has_line : (front : List ValuePiece) (more : List ℕ) → ArePieces is_plain front → has_bracket (spelled_pieces front ++ 60 ∷ more) ≡ true
has_line front more q =
    let len : len_before OpenBracket Outside (spelled_pieces front ++ 60 ∷ more) ≡ length (spelled_pieces front) = len_line front more q in
    let all : length (spelled_pieces front ++ 60 ∷ more) ≡ length (spelled_pieces front) + length (60 ∷ more) = length-append (spelled_pieces front) (60 ∷ more) in
    nat_lt-true (len_before OpenBracket Outside (spelled_pieces front ++ 60 ∷ more)) (length (spelled_pieces front ++ 60 ∷ more)) (omega arith)

pub name_line : (front : List ValuePiece) (more : List ℕ) → ArePieces is_plain front → name_bytes (spelled_pieces front ++ 60 ∷ more) ≡ spelled_pieces front
name_line front more q =
    let has = has_line front more q in
    let len = len_line front more q in
    rw (has, len) (take_at (spelled_pieces front) (60 ∷ more) (length (spelled_pieces front)) refl)

after_line : (front : List ValuePiece) (more : List ℕ) → ArePieces is_plain front → after_bracket (spelled_pieces front ++ 60 ∷ more) ≡ more
after_line front more q =
    let len = len_line front more q in
    let at : drop (length (spelled_pieces front)) (spelled_pieces front ++ (60 ∷ more)) ≡ 60 ∷ more = drop_at (spelled_pieces front) (60 ∷ more) (length (spelled_pieces front)) refl in
    rw len (sym (drop-drop 1 (length (spelled_pieces front)) (spelled_pieces front ++ (60 ∷ more))) ∙ ap (drop 1) at)

pub address_line : (front : List ValuePiece) (more : List ℕ) → ArePieces is_plain front → address_bytes (spelled_pieces front ++ 60 ∷ more) ≡ up_to_bracket more
address_line front more q =
    let has = has_line front more q in
    rw has (ap up_to_bracket (after_line front more q))

pub up_to_line : (inner : List ValuePiece) (ys : List ℕ) → ArePieces is_address_byte inner → up_to_bracket (spelled_pieces inner ++ 62 ∷ ys) ≡ spelled_pieces inner
up_to_line inner ys r =
    let found : position_or_len (is_sought CloseBracket) (marked (spelled_pieces inner ++ 62 ∷ ys)) ≡ length (bytes_of (all_marks inner)) + 0
    = ap (position_or_len (is_sought CloseBracket)) (marks_address inner (62 ∷ ys) r) ∙ seek_inner (all_marks inner) (marked (62 ∷ ys)) (inner_quiet inner r) in
    let same : length (bytes_of (all_marks inner)) ≡ length (spelled_pieces inner) = ap length (bytes_back is_address_byte address_stays inner r) in
    let len : len_before CloseBracket Outside (spelled_pieces inner ++ 62 ∷ ys) ≡ length (spelled_pieces inner) = omega arith in
    rw len (take_at (spelled_pieces inner) (62 ∷ ys) (length (spelled_pieces inner)) refl)

-- The address between the brackets, with its route.
abbrev addressed : WrittenMailbox → List ValuePiece
addressed m = map Byte m.route ++ (m.local_part ++ Byte 64 ∷ m.host)

spelled_bytes : (xs : List ℕ) → spelled_pieces (map Byte xs) ≡ xs
spelled_bytes [] = refl
spelled_bytes (x ∷ xs) = ap (λ (ys : List ℕ). x ∷ ys) (spelled_bytes xs)

said_bytes : (xs : List ℕ) → Lacks 32 xs → address_said (map Byte xs) ≡ xs
said_bytes [] lacks = refl
said_bytes (x ∷ xs) lacks = rw lacks.0 (ap (λ (ys : List ℕ). x ∷ ys) (said_bytes xs lacks.1))

pub lacks : (c : ℕ) (xs : List ℕ) → HasNo c xs → Lacks c xs
lacks c [] h = tt
lacks c (x ∷ xs) h = (false_from_ne_true (x == c) (λ e. h 0 (eqb-true x c e)), lacks c xs (λ k. h (suc k)))

lacks_space : (xs : List ℕ) → AllPass is_route_byte xs → Lacks 32 xs
lacks_space [] all = tt
lacks_space (x ∷ xs) all = (no_space x (all_head is_route_byte x xs all), lacks_space xs (all_tail is_route_byte x xs all))
  where
    no_space : (b : ℕ) → is_route_byte b ≡ true → (b == 32) ≡ false
    no_space b h = grind (arith, nat_tests)

route_lacks : (route : List ℕ) → (route ≡ []) ⊎ IsRoute route → Lacks 32 route
route_lacks route (inl none) = rw none tt
route_lacks route (inr r) = rw r.is (refl, has_no-append 32 r.domains (58 ∷ []) (lacks_space r.domains r.bytes) (refl, tt))

route_are : (route : List ℕ) → (route ≡ []) ⊎ IsRoute route → ArePieces is_address_byte (map Byte route)
route_are route (inl none) = rw none tt
route_are route (inr r) =
    let middle : ArePieces is_address_byte (map Byte (r.domains ++ 58 ∷ [])) = by r.domains r.bytes in
    rw r.is (refl, middle)
  where
    by : (xs : List ℕ) → AllPass is_route_byte xs → ArePieces is_address_byte (map Byte (xs ++ 58 ∷ []))
    by [] all = (refl, tt)
    by (x ∷ xs) all = (route_address x (all_head is_route_byte x xs all), by xs (all_tail is_route_byte x xs all))

-- What is left without the route.
route_goes : (route tail : List ℕ) → (route ≡ []) ⊎ IsRoute route → Lacks 58 tail → without_route (route ++ tail) ≡ tail
route_goes route tail (inl none) free = rw none (whole tail free)
  where
    whole : (xs : List ℕ) → Lacks 58 xs → without_route xs ≡ xs
    whole [] free = refl
    whole (b ∷ bs) free =
        ap (λ (parts : Option (List ℕ × List ℕ)). cond (b == 64) (part_after (b ∷ bs) parts) (b ∷ bs)) (split_last-no 58 (b ∷ bs) free) ∙ cond_same (b == 64) (b ∷ bs)
route_goes route tail (inr r) free =
    let is : route ++ tail ≡ 64 ∷ (r.domains ++ 58 ∷ tail) = ap (λ (xs : List ℕ). xs ++ tail) r.is ∙ ap (λ (xs : List ℕ). 64 ∷ xs) (append_assoc r.domains (58 ∷ []) tail) in
    let parts : split_last (is_this 58) (64 ∷ (r.domains ++ 58 ∷ tail)) ≡ Some (64 ∷ r.domains, tail) = split_last-this 58 (64 ∷ r.domains) tail refl free in
    ap without_route is ∙ ap (part_after (64 ∷ (r.domains ++ 58 ∷ tail))) parts

inner_are : (m : WrittenMailbox) → IsWrittenMailbox m → ArePieces is_address_byte (addressed m)
inner_are m w =
    are_two is_address_byte (map Byte m.route) (m.local_part ++ Byte 64 ∷ m.host) (route_are m.route w.route)
    (are_two is_address_byte m.local_part (Byte 64 ∷ m.host) (weaker is_plain is_address_byte plain_address m.local_part w.local_part) (refl, weaker is_plain is_address_byte plain_address m.host w.host))

-- An address that begins with another byte than `@` has no route.
abbrev BeginsElse : List ℕ → Type 0
BeginsElse [] = ⊥
BeginsElse (b ∷ bs) = (b == 64) ≡ false

route_none : (xs tail : List ℕ) → BeginsElse xs → without_route (xs ++ tail) ≡ xs ++ tail
route_none [] tail h = absurd h
route_none (b ∷ bs) tail h = rw h refl

begins_else : (pieces : List ValuePiece) → ArePieces is_plain pieces → 0 < length (address_said pieces) → BeginsElse (address_said pieces)
begins_else [] q some = absurd (omega arith)
begins_else (Byte b ∷ pieces) q some = by (b == 32) b q.0 (address_said pieces) (begins_else pieces q.1) some
  where
    no_at : (b : ℕ) → is_plain b ≡ true → (b == 64) ≡ false
    no_at b h = grind (arith, nat_tests)

    by : (t : Bool) (b : ℕ) → is_plain b ≡ true → (xs : List ℕ) → (0 < length xs → BeginsElse xs)
        → 0 < length (cond t [] (b ∷ []) ++ xs) → BeginsElse (cond t [] (b ∷ []) ++ xs)
    by true b plain xs later some = later some
    by false b plain xs later some = no_at b plain
begins_else (QuotedString parts ∷ pieces) q some = refl
begins_else (CommentText inside ∷ pieces) q some = begins_else pieces q.1 some

address_of : (m : WrittenMailbox) → IsWrittenMailbox m → without_route (address_text (spelled_pieces (addressed m))) ≡ address_said m.local_part ++ 64 ∷ address_said m.host
address_of m w =
    let tail = address_said m.local_part ++ 64 ∷ address_said m.host in
    let said : address_said (addressed m) ≡ m.route ++ tail =
    said_two said_in_address (map Byte m.route) (m.local_part ++ Byte 64 ∷ m.host)
    ∙ (λ i. said_bytes m.route (route_lacks m.route w.route) i ++ said_two said_in_address m.local_part (Byte 64 ∷ m.host) i) in
    ap without_route (address_is (addressed m) (weaker is_address_byte is_outer_byte address_outer (addressed m) (inner_are m w)) ∙ said) ∙ goes m w.local_part w.route w.colons
  where
    goes : (m : WrittenMailbox) → ArePieces is_plain m.local_part → (m.route ≡ []) ⊎ IsRoute m.route → AreColonsFree m
        → without_route (m.route ++ (address_said m.local_part ++ 64 ∷ address_said m.host)) ≡ address_said m.local_part ++ 64 ∷ address_said m.host
    goes m plain route (inl none) =
        ap (λ (xs : List ℕ). without_route (xs ++ (address_said m.local_part ++ 64 ∷ address_said m.host))) none.0
        ∙ route_none (address_said m.local_part) (64 ∷ address_said m.host) (begins_else m.local_part plain none.1)
    goes m plain route (inr free) =
        route_goes m.route (address_said m.local_part ++ 64 ∷ address_said m.host) route
        (has_no-append 58 (address_said m.local_part) (64 ∷ address_said m.host) (lacks 58 (address_said m.local_part) free.0) (refl, lacks 58 (address_said m.host) free.1))

-- Pieces before a name that say nothing in it.
record IsLead (lead : List ValuePiece) : Type 0 where
  plain : ArePieces is_plain lead
  silent : (pieces : List ValuePiece) → name_said (lead ++ pieces) ≡ name_said pieces

no_lead : IsLead []
no_lead = record { plain = tt; silent = λ pieces. refl }

space_lead : IsLead (Byte 32 ∷ [])
space_lead = record { plain = (refl, tt); silent = λ pieces. without_space-space (flat_map said_in_name pieces) }

mailbox_line : (lead : List ValuePiece) (m : WrittenMailbox) → IsLead lead → IsWrittenMailbox m → mailbox_in (line (lead ++ m.name) (addressed m) []) ≡ mailbox_said m ∷ []
mailbox_line lead m l w =
    let front = lead ++ m.name in
    let q : ArePieces is_plain front = are_two is_plain lead m.name l.plain w.name in
    let r = inner_are m w in
    let more = spelled_pieces (addressed m) ++ 62 ∷ [] in
    let item = line front (addressed m) [] in
    let name : name_text (name_bytes item) ≡ name_said m.name = ap name_text (name_line front more q) ∙ name_is front q ∙ l.silent m.name in
    let address : without_route (address_text (address_bytes item)) ≡ address_said m.local_part ++ 64 ∷ address_said m.host =
    ap (λ (xs : List ℕ). without_route (address_text xs)) (address_line front more q ∙ up_to_line (addressed m) [] r) ∙ address_of m w in
    ap (λ (xs : List ℕ). mailbox_with xs (without_route (address_text (address_bytes item)))) name ∙ ap (mailbox_with (name_said m.name)) address
    ∙ mailbox_with-at (name_said m.name) (address_said m.local_part) (address_said m.host) (lacks 64 (address_said m.host) w.no_host_at)

line_is : (lead : List ValuePiece) (m : WrittenMailbox) (ys : List ℕ) → spelled_pieces lead ++ (written m ++ ys) ≡ line (lead ++ m.name) (addressed m) ys
line_is lead m ys =
    let L = spelled_pieces m.local_part in
    let H = spelled_pieces m.host in
    let inner : spelled_pieces (addressed m) ≡ m.route ++ (L ++ 64 ∷ H) =
    spelled_two (map Byte m.route) (m.local_part ++ Byte 64 ∷ m.host) ∙ (λ i. spelled_bytes m.route i ++ spelled_two m.local_part (Byte 64 ∷ m.host) i) in
    let all : spelled_pieces lead ++ (written m ++ ys) ≡ (spelled_pieces lead ++ spelled_pieces m.name) ++ 60 ∷ ((m.route ++ (L ++ 64 ∷ H)) ++ 62 ∷ ys) = simp append_assoc in
    all ∙ (λ i. sym (spelled_two lead m.name) i ++ 60 ∷ (sym inner i ++ 62 ∷ ys))

-- What items are read as, by what ends them.
told_last : (item : List ℕ) (address : Address) → mailbox_in item ≡ address ∷ [] → told false (put_before item (cut false false (marked []))) ≡ address ∷ []
told_last item address tells = rw (append-nil item, tells) refl

told_comma : (g : Bool) (item rest : List ℕ) (address : Address) → mailbox_in item ≡ address ∷ []
    → told g (put_before item (cut g false (marked (44 ∷ rest)))) ≡ address ∷ told g (items_of g rest)
told_comma g item rest address tells = rw (append-nil item, tells) refl

abbrev pub end : Address
end = record { kind = GroupEnd; name = []; mailbox = []; host = [] }

told_semicolon : (item rest : List ℕ) (address : Address) → mailbox_in item ≡ address ∷ []
    → told true (put_before item (cut true false (marked (59 ∷ rest)))) ≡ address ∷ end ∷ told false (items_of false rest)
told_semicolon item rest address tells = rw (append-nil item, tells) refl

pub told_colon : (name rest : List ℕ) → told false (put_before name (cut false false (marked (58 ∷ rest)))) ≡ group_start name ∷ told true (items_of true rest)
told_colon name rest = rw (append-nil name) refl

told_empty_group : (rest : List ℕ) → told true (items_of true (59 ∷ rest)) ≡ end ∷ told false (items_of false rest)
told_empty_group rest = refl

-- The mailboxes of a group, and its end.
in_group : (lead : List ValuePiece) → IsLead lead → (m : WrittenMailbox) (ms : List WrittenMailbox) → IsWrittenMailbox m → AllWritten ms → (rest : List ℕ)
    → told true (items_of true (spelled_pieces lead ++ (written_list (m ∷ ms) ++ 59 ∷ rest))) ≡ mailbox_said m ∷ (map mailbox_said ms ++ end ∷ told false (items_of false rest))
in_group lead l m [] w all rest =
    let q : ArePieces is_plain (lead ++ m.name) = are_two is_plain lead m.name l.plain w.name in
    ap (λ (xs : List ℕ). told true (items_of true xs)) (line_is lead m (59 ∷ rest))
    ∙ ap (told true) (cut_line true (lead ++ m.name) (addressed m) (59 ∷ rest) q (inner_are m w))
    ∙ told_semicolon (line (lead ++ m.name) (addressed m) []) rest (mailbox_said m) (mailbox_line lead m l w)
in_group lead l m (n ∷ ms) w all rest =
    let q : ArePieces is_plain (lead ++ m.name) = are_two is_plain lead m.name l.plain w.name in
    let after = 32 ∷ (written_list (n ∷ ms) ++ 59 ∷ rest) in
    ap (λ (xs : List ℕ). told true (items_of true (spelled_pieces lead ++ xs))) (append_assoc (written m) (44 ∷ 32 ∷ written_list (n ∷ ms)) (59 ∷ rest))
    ∙ ap (λ (xs : List ℕ). told true (items_of true xs)) (line_is lead m (44 ∷ after))
    ∙ ap (told true) (cut_line true (lead ++ m.name) (addressed m) (44 ∷ after) q (inner_are m w))
    ∙ told_comma true (line (lead ++ m.name) (addressed m) []) after (mailbox_said m) (mailbox_line lead m l w)
    ∙ ap (λ (addresses : List Address). mailbox_said m ∷ addresses) (in_group (Byte 32 ∷ []) space_lead n ms all.0 all.1 rest)

whole_group : (ms : List WrittenMailbox) → AllWritten ms → (rest : List ℕ)
    → told true (items_of true (written_list ms ++ 59 ∷ rest)) ≡ map mailbox_said ms ++ end ∷ told false (items_of false rest)
whole_group [] all rest = told_empty_group rest
whole_group (m ∷ ms) all rest = in_group [] no_lead m ms all.0 all.1 rest

-- A group, and what follows it.
group : (lead : List ValuePiece) → IsLead lead → (name : List ValuePiece) (ms : List WrittenMailbox) → ArePieces is_plain name → AllWritten ms → (rest : List ℕ)
    → told false (items_of false (spelled_pieces lead ++ (member_bytes (Group name ms) ++ rest))) ≡ member_said (Group name ms) ++ told false (items_of false rest)
group lead l name ms q all rest =
    let inside = written_list ms ++ 59 ∷ rest in
    let front : ArePieces is_plain (lead ++ name) = are_two is_plain lead name l.plain q in
    let is : spelled_pieces lead ++ (member_bytes (Group name ms) ++ rest) ≡ (spelled_pieces lead ++ spelled_pieces name) ++ 58 ∷ inside = simp append_assoc in
    let said : name_text (spelled_pieces (lead ++ name)) ≡ name_said name = name_is (lead ++ name) front ∙ l.silent name in
    let done : map mailbox_said ms ++ end ∷ told false (items_of false rest) ≡ (map mailbox_said ms ++ end ∷ []) ++ told false (items_of false rest) = sym (append_assoc (map mailbox_said ms) (end ∷ []) (told false (items_of false rest))) in
    ap (λ (xs : List ℕ). told false (items_of false xs)) (is ∙ ap (λ (xs : List ℕ). xs ++ 58 ∷ inside) (sym (spelled_two lead name)))
    ∙ ap (told false) (cut_front false (lead ++ name) (58 ∷ inside) front)
    ∙ told_colon (spelled_pieces (lead ++ name)) inside
    ∙ (λ i. record { kind = GroupStart; name = said i; mailbox = []; host = [] } ∷ (whole_group ms all rest ∙ done) i)

-- Members, one after another.
members_back : (lead : List ValuePiece) → IsLead lead → (member : Member) (members : List Member) → IsMember member → AreMembers members
    → told false (items_of false (spelled_pieces lead ++ member_list (member ∷ members))) ≡ member_said member ++ flat_map member_said members
members_back lead l (One m) [] w all =
    let q : ArePieces is_plain (lead ++ m.name) = are_two is_plain lead m.name l.plain w.name in
    ap (λ (xs : List ℕ). told false (items_of false (spelled_pieces lead ++ xs))) (sym (append-nil (written m)))
    ∙ ap (λ (xs : List ℕ). told false (items_of false xs)) (line_is lead m [])
    ∙ ap (told false) (cut_line false (lead ++ m.name) (addressed m) [] q (inner_are m w))
    ∙ told_last (line (lead ++ m.name) (addressed m) []) (mailbox_said m) (mailbox_line lead m l w)
members_back lead l (One m) (next ∷ members) w all =
    let q : ArePieces is_plain (lead ++ m.name) = are_two is_plain lead m.name l.plain w.name in
    let after = 32 ∷ member_list (next ∷ members) in
    ap (λ (xs : List ℕ). told false (items_of false xs)) (line_is lead m (44 ∷ after))
    ∙ ap (told false) (cut_line false (lead ++ m.name) (addressed m) (44 ∷ after) q (inner_are m w))
    ∙ told_comma false (line (lead ++ m.name) (addressed m) []) after (mailbox_said m) (mailbox_line lead m l w)
    ∙ ap (λ (addresses : List Address). mailbox_said m ∷ addresses) (members_back (Byte 32 ∷ []) space_lead next members all.0 all.1)
members_back lead l (Group name ms) [] w all =
    ap (λ (xs : List ℕ). told false (items_of false (spelled_pieces lead ++ xs))) (sym (append-nil (member_bytes (Group name ms))))
    ∙ group lead l name ms w.0 w.1 []
members_back lead l (Group name ms) (next ∷ members) w all =
    let after = 32 ∷ member_list (next ∷ members) in
    group lead l name ms w.0 w.1 (44 ∷ after)
    ∙ ap (λ (addresses : List Address). member_said (Group name ms) ++ addresses) (members_back (Byte 32 ∷ []) space_lead next members all.0 all.1)

pub members_read_back : MembersReadBack
members_read_back [] all = refl
members_read_back (member ∷ members) all = members_back [] no_lead member members all.0 all.1
