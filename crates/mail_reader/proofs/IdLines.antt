-- The line of a Message-ID field with a given id.
use Rattle.std.proofs.Common.{◌≡◌, ℕ, ◌+◌, ◌≤◌, true, false, eqb, List, [], ◌∷◌, ◌++◌, Some, length, take, map, get_or, refl, sym, ap, ◌∙◌, append_assoc, arith, length-append, codes, add-zero, subst}
use Rattle.std.specs.List.{All, prefix_len, list_all}
use Rattle.std.specs.Prelude.{option_and_then}
use Rattle.std.proofs.lemmas.Bool.{eqb-true, and_parts, le-leb, eq-eqb, false_from_ne_true, both_ways}
use Rattle.std.proofs.lemmas.Bool.Decides.{nat_tests}
use Rattle.std.proofs.lemmas.List.{get_or_at, take_at}
use Rattle.std.proofs.lemmas.List.Folds.{prefix_len-append}
use Rattle.std.proofs.lemmas.List.Sums.{list_all-from_AllPass}
use Rattle.mail_reader.specs.Lines.{is_field_line, lines_of, header_lines, front}
use Rattle.mail_reader.specs.Fields.{FieldText, parts_of, field_of, fields_of, is_named, without_feed, first_named}
use Rattle.mail_reader.specs.Stored.{content_of, is_dropped}
use Rattle.mail_reader.specs.Ids.{is_id_byte, id_len, closes_id, ids_of, first_of, own_id}
use Rattle.mail_reader.specs.Laws.{IsIdByte, IsMessageId, id_line, OwnIdInFront, IdLineIsKept}
use Rattle.mail_reader.proofs.Trims.{NoByte, NoFeed, without_end-push_other}
use Rattle.mail_reader.proofs.LineEnds.{lines_of-at}
use Rattle.mail_reader.proofs.CleanLines.{no_feed_at}

NoByte-append : (c : ℕ) (xs ys : List ℕ) → NoByte c xs → NoByte c ys → NoByte c (xs ++ ys)
NoByte-append c [] ys h k = k
NoByte-append c (x ∷ xs) ys h k = (h.0, NoByte-append c xs ys h.1 k)

-- The bytes of an id pass the test, and bytes that pass are those of an id.
id_byte_passes : (b : ℕ) → IsIdByte b → is_id_byte b ≡ true
id_byte_passes b h = grind (arith, nat_tests)

pub passed_id_byte : (b : ℕ) → is_id_byte b ≡ true → IsIdByte b
passed_id_byte b h =
    let low : 33 ≤ b = grind (arith, nat_tests) in
    let high : b ≤ 126 = grind (arith, nat_tests) in
    (low, high, (λ e. both_ways (is_id_byte b) (ap is_id_byte e) h), (λ e. both_ways (is_id_byte b) (ap is_id_byte e) h))

pub id_bytes : (inside : List ℕ) → All IsIdByte inside → list_all is_id_byte inside ≡ true
id_bytes inside h = list_all-from_AllPass is_id_byte inside (λ k d l. id_byte_passes (get_or inside k d) (h k d l))

-- A prefix of bytes that pass ends at the first byte that doesn't.
passes : (xs : List ℕ) → list_all is_id_byte xs ≡ true → prefix_len is_id_byte xs ≡ length xs
passes [] h = refl
passes (x ∷ xs) h =
    let both = and_parts (is_id_byte x) (list_all is_id_byte xs) h in
    rw both.0 (omega (arith, passes xs both.1))

-- No byte of an id is one that ids can't have.
pub free_of : (c : ℕ) → is_id_byte c ≡ false → (xs : List ℕ) → list_all is_id_byte xs ≡ true → NoByte c xs
free_of c other [] h = tt
free_of c other (x ∷ xs) h =
    let both = and_parts (is_id_byte x) (list_all is_id_byte xs) h in
    (false_from_ne_true (eqb x c) (λ e. both_ways (is_id_byte x) (ap is_id_byte (eqb-true x c e) ∙ other) both.0), free_of c other xs both.1)

-- The number of bytes of an id before its closing bracket.
pub id_len-at : (xs more : List ℕ) → All IsIdByte xs → id_len (xs ++ 62 ∷ more) ≡ length xs
id_len-at xs more h =
    let all : prefix_len is_id_byte xs ≡ length xs = passes xs (id_bytes xs h) in
    prefix_len-append is_id_byte xs (62 ∷ more) ∙ rw (all, eq-eqb (length xs) (length xs) refl) (add-zero (length xs))

-- An id is the first id of a value that starts with it.
first-id : (id more : List ℕ) → IsMessageId id → first_of (ids_of (id ++ more)) ≡ Some id
first-id id more h =
    let inside = h.inside in
    let len : id_len (inside ++ 62 ∷ more) ≡ length inside = id_len-at inside more h.bytes in
    let closed : closes_id (inside ++ 62 ∷ more) ≡ true =
    rw (len, le-leb 1 (length inside) h.some, le-leb (length inside) 248 h.short, get_or_at inside 62 more 0 (length inside) refl) refl in
    let is : id ++ more ≡ 60 ∷ (inside ++ 62 ∷ more) = ap (λ t. t ++ more) h.is ∙ ap (λ t. 60 ∷ t) (append_assoc inside (62 ∷ []) more) in
    let piece : take (id_len (inside ++ 62 ∷ more) + 1) (inside ++ 62 ∷ more) ≡ inside ++ 62 ∷ [] =
    ap (λ n. take (n + 1) (inside ++ 62 ∷ more)) len ∙ ap (take (length inside + 1)) (sym (append_assoc inside (62 ∷ []) more)) ∙ take_at (inside ++ 62 ∷ []) more (length inside + 1) (length-append inside (62 ∷ [])) in
    ap (λ t. first_of (ids_of t)) is ∙ rw closed (ap (λ t. Some (60 ∷ t)) piece ∙ ap Some (sym h.is))

-- A line feed at the end of two pieces is dropped from the last.
without_feed-append : (xs : List ℕ) (y : ℕ) (ys : List ℕ) → without_feed (xs ++ y ∷ ys) ≡ xs ++ without_feed (y ∷ ys)
without_feed-append [] y ys = refl
without_feed-append (x ∷ []) y ys = refl
without_feed-append (x ∷ w ∷ xs) y ys = ap (λ t. x ∷ t) (without_feed-append (w ∷ xs) y ys)

-- The content of the line with an id.
id_content : (id : List ℕ) → IsMessageId id → NoFeed (codes "Message-ID: " ++ id)
id_content id h =
    NoByte-append 10 (codes "Message-ID: ") id (refl, (refl, (refl, (refl, (refl, (refl, (refl, (refl, (refl, (refl, (refl, (refl, tt))))))))))))
    (let free = free_of 10 refl h.inside (id_bytes h.inside h.bytes) in
    let P : List ℕ → Type 0 = λ t. NoFeed t in
    subst P (sym h.is) (refl, NoByte-append 10 h.inside (62 ∷ []) free (refl, tt)))

id_field_line : (id : List ℕ) → is_field_line (id_line id) ≡ true
unfolding is_field_line
id_field_line id = refl

id_lines : (id text : List ℕ) → IsMessageId id → lines_of (id_line id ++ text) ≡ id_line id ∷ lines_of text
id_lines id text h = ap (λ t. lines_of (codes "Message-ID: " ++ t)) (append_assoc id (10 ∷ []) text) ∙ lines_of-at (codes "Message-ID: " ++ id) text (id_content id h)

-- The first id of a field that starts with such a line.
id_value : (id more : List ℕ) → IsMessageId id → first_of (ids_of (field_of (id_line id ++ more)).value) ≡ Some id
unfolding field_of
id_value id more h =
    ap (λ t. first_of (ids_of (without_feed (32 ∷ t)))) (append_assoc id (10 ∷ []) more)
    ∙ ap (λ t. first_of (ids_of t)) (without_feed-append (32 ∷ id) 10 more) ∙ first-id id (without_feed (10 ∷ more)) h

id_first : (id more : List ℕ) (rest : List FieldText) → IsMessageId id
    → option_and_then (λ (field : FieldText). first_of (ids_of field.value)) (first_named (codes "Message-ID") (field_of (id_line id ++ more) ∷ rest)) ≡ Some id
unfolding field_of
id_first id more rest h = id_value id more h

-- The fields of a text with such a line at the front.
id_fields : (id text : List ℕ) → IsMessageId id
    → fields_of (id_line id ++ text) ≡ field_of (id_line id ++ (parts_of (front (lines_of text))).0) ∷ map field_of (parts_of (front (lines_of text))).1
unfolding fields_of
id_fields id text h =
    ap (λ ls. map field_of (parts_of (header_lines ls)).1) (id_lines id text h) ∙ rw (id_field_line id, id_field_line id) refl

pub id_in_front : OwnIdInFront
unfolding own_id
id_in_front text id h =
    ap (λ fs. option_and_then (λ (field : FieldText). first_of (ids_of field.value)) (first_named (codes "Message-ID") fs)) (id_fields id text h)
    ∙ id_first id (parts_of (front (lines_of text))).0 (map field_of (parts_of (front (lines_of text))).1) h

pub id_kept : IdLineIsKept
unfolding is_dropped is_named
id_kept id h = record {
  content = codes "Message-ID: " ++ id;
  is = refl;
  no_feed = λ k e. no_feed_at (codes "Message-ID: " ++ id) k (id_content id h) e;
  no_return = ap (λ t. content_of (codes "Message-ID: " ++ t)) h.is ∙ without_end-push_other 13 (codes "Message-ID: " ++ (60 ∷ h.inside)) 62 refl ∙ ap (λ t. codes "Message-ID: " ++ t) (sym h.is);
  field = id_field_line id;
  stays = refl;
}
