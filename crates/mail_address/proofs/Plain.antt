-- A list of plain mailboxes is read back as it was.
use Rattle.std.proofs.Common.{◌≡◌, ℕ, suc, ◌+◌, ◌<◌, Bool, true, false, cond, ◌==◌, nat_lt, ◌&&◌, not, List, [], ◌∷◌, ◌++◌, map, Option, None, Some, length, drop, refl, sym, ◌∙◌, ap, append_assoc, append-nil, zero-add, arith}
use Rattle.std.proofs.lemmas.Bool.{and_parts}
use Rattle.std.proofs.lemmas.Bool.Decides.{nat_tests}
use Rattle.std.proofs.lemmas.List.{take_at, drop_at, drop-drop, length-append}
use Rattle.std.specs.List.{All, AllPass}
use Rattle.mail_address.specs.declared.place.Place.TheVariants.{Outside}
use Rattle.mail_address.specs.declared.place.Sought.{Sought}
use Rattle.mail_address.specs.declared.place.Sought.TheVariants.{OpenBracket, CloseBracket}
use Rattle.mail_address.specs.declared.items.Ending.{Ending}
use Rattle.mail_address.specs.declared.address.AddressKind.TheVariants.{Mailbox}
use Rattle.mail_address.specs.declared.address.Address.{Address}
use Rattle.mail_address.specs.Places.{marked, is_sought}
use Rattle.mail_address.specs.Splits.{split_last, is_this, part_after}
use Rattle.mail_address.specs.Words.{spoken_from, address_from, spaced, begins_word, without_space, joined_words, name_text, address_text}
use Rattle.mail_address.specs.Items.{cut, onto_item, items_of, len_before, has_bracket, name_bytes, address_bytes, up_to_bracket, after_bracket}
use Rattle.mail_address.specs.Addresses.{told, mailbox_in, mailbox_with, without_route}
use Rattle.mail_address.specs.Laws.{is_plain, is_plain_letter, PlainMailbox, IsPlainMailbox, spelled, spelled_list, address_with, PlainReadBack}
use Rattle.mail_address.proofs.Cutting.{put_before}
use Rattle.mail_address.proofs.Spacing.{without_space-space}

-- A byte that changes no place, and ends nothing.
record IsQuiet (b : ℕ) : Type 0 where
  quote : (b == 34) ≡ false
  paren : (b == 40) ≡ false
  comma : (b == 44) ≡ false
  colon : (b == 58) ≡ false
  semicolon : (b == 59) ≡ false
  less : (b == 60) ≡ false
  greater : (b == 62) ≡ false
  backslash : (b == 92) ≡ false

abbrev AllQuiet : List ℕ → Type 0
AllQuiet [] = Unit {0}
AllQuiet (b ∷ bs) = IsQuiet b × AllQuiet bs

-- None of the bytes is this one.
abbrev pub HasNo : ℕ → List ℕ → Type 0
HasNo c [] = Unit {0}
HasNo c (b ∷ bs) = ((b == c) ≡ false) × HasNo c bs

quiet-plain : (b : ℕ) → is_plain b ≡ true → IsQuiet b
quiet-plain b plain = record {
  quote = grind (arith, nat_tests);
  paren = grind (arith, nat_tests);
  comma = grind (arith, nat_tests);
  colon = grind (arith, nat_tests);
  semicolon = grind (arith, nat_tests);
  less = grind (arith, nat_tests);
  greater = grind (arith, nat_tests);
  backslash = grind (arith, nat_tests);
}

quiet-letter : (b : ℕ) → is_plain_letter b ≡ true → IsQuiet b
quiet-letter b plain = quiet-plain b (and_parts (is_plain b) (not (b == 32)) plain).0

no_space-letter : (b : ℕ) → is_plain_letter b ≡ true → (b == 32) ≡ false
no_space-letter b plain = grind (arith, nat_tests)

no_at-letter : (b : ℕ) → is_plain_letter b ≡ true → (b == 64) ≡ false
no_at-letter b plain = grind (arith, nat_tests)

quiet-space : IsQuiet 32
quiet-space = record { quote = refl; paren = refl; comma = refl; colon = refl; semicolon = refl; less = refl; greater = refl; backslash = refl }

quiet-at : IsQuiet 64
quiet-at = record { quote = refl; paren = refl; comma = refl; colon = refl; semicolon = refl; less = refl; greater = refl; backslash = refl }

-- The properties of all bytes, from those of each byte.
pub all_tail : (p : ℕ → Bool) (b : ℕ) (bs : List ℕ) → AllPass p (b ∷ bs) → AllPass p bs
all_tail p b bs all = λ k d h. let later : suc k < length (b ∷ bs) = omega arith in all (suc k) d later

pub all_head : (p : ℕ → Bool) (b : ℕ) (bs : List ℕ) → AllPass p (b ∷ bs) → p b ≡ true
all_head p b bs all = let here : 0 < length (b ∷ bs) = omega arith in all 0 b here

all_quiet-plain : (bs : List ℕ) → AllPass is_plain bs → AllQuiet bs
all_quiet-plain [] all = tt
all_quiet-plain (b ∷ bs) all = (quiet-plain b (all_head is_plain b bs all), all_quiet-plain bs (all_tail is_plain b bs all))

all_quiet-letter : (bs : List ℕ) → AllPass is_plain_letter bs → AllQuiet bs
all_quiet-letter [] all = tt
all_quiet-letter (b ∷ bs) all = (quiet-letter b (all_head is_plain_letter b bs all), all_quiet-letter bs (all_tail is_plain_letter b bs all))

no_space : (bs : List ℕ) → AllPass is_plain_letter bs → HasNo 32 bs
no_space [] all = tt
no_space (b ∷ bs) all = (no_space-letter b (all_head is_plain_letter b bs all), no_space bs (all_tail is_plain_letter b bs all))

no_at : (bs : List ℕ) → AllPass is_plain_letter bs → HasNo 64 bs
no_at [] all = tt
no_at (b ∷ bs) all = (no_at-letter b (all_head is_plain_letter b bs all), no_at bs (all_tail is_plain_letter b bs all))

no_colon : (bs : List ℕ) → AllQuiet bs → HasNo 58 bs
no_colon [] all = tt
no_colon (b ∷ bs) all = (all.0.colon, no_colon bs all.1)

all_quiet-append : (xs ys : List ℕ) → AllQuiet xs → AllQuiet ys → AllQuiet (xs ++ ys)
all_quiet-append [] ys q r = r
all_quiet-append (x ∷ xs) ys q r = (q.0, all_quiet-append xs ys q.1 r)

pub has_no-append : (c : ℕ) (xs ys : List ℕ) → HasNo c xs → HasNo c ys → HasNo c (xs ++ ys)
has_no-append c [] ys q r = r
has_no-append c (x ∷ xs) ys q r = (q.0, has_no-append c xs ys q.1 r)

-- Quiet bytes belong to the item that follows them.
pub put_before-nil : (items : List (List ℕ × Ending)) → items ≡ put_before [] items
put_before-nil [] = refl
put_before-nil (item ∷ items) = refl

pub onto_item-put_before : (b : ℕ) (xs : List ℕ) (items : List (List ℕ × Ending)) → onto_item b (put_before xs items) ≡ put_before (b ∷ xs) items
onto_item-put_before b xs [] = refl
onto_item-put_before b xs (item ∷ items) = refl

cut-quiet : (g br : Bool) (xs ys : List ℕ) → AllQuiet xs → cut g br (marked (xs ++ ys)) ≡ put_before xs (cut g br (marked ys))
cut-quiet g br [] ys q = put_before-nil (cut g br (marked ys))
cut-quiet g true (b ∷ bs) ys q =
    let ih : cut g true (marked (bs ++ ys)) ≡ put_before bs (cut g true (marked ys)) = cut-quiet g true bs ys q.1 in
    rw (q.0.greater, q.0.quote, q.0.paren, ih) (onto_item-put_before b bs (cut g true (marked ys)))
cut-quiet g false (b ∷ bs) ys q =
    let ih : cut g false (marked (bs ++ ys)) ≡ put_before bs (cut g false (marked ys)) = cut-quiet g false bs ys q.1 in
    rw (q.0.comma, q.0.semicolon, q.0.colon, q.0.less, q.0.quote, q.0.paren, ih) (onto_item-put_before b bs (cut g false (marked ys)))

-- A mailbox as a list has it: a name, a space, an address between brackets, and the rest.
abbrev line : List ℕ → List ℕ → List ℕ → List ℕ
line name address ys = (name ++ 32 ∷ []) ++ (60 ∷ (address ++ (62 ∷ ys)))

pub put_before-line : (front address : List ℕ) (items : List (List ℕ × Ending))
    → put_before front (onto_item 60 (put_before address (onto_item 62 items))) ≡ put_before (front ++ (60 ∷ (address ++ (62 ∷ [])))) items
put_before-line front address [] = refl
put_before-line front address (item ∷ items) =
    let all : front ++ (60 ∷ (address ++ (62 ∷ item.0))) ≡ (front ++ (60 ∷ (address ++ (62 ∷ [])))) ++ item.0
    = simp append_assoc in
    ap (λ (ys : List ℕ). (ys, item.1) ∷ items) all

cut-line : (g : Bool) (name address ys : List ℕ) → AllQuiet (name ++ 32 ∷ []) → AllQuiet address
    → cut g false (marked (line name address ys)) ≡ put_before (line name address []) (cut g false (marked ys))
cut-line g name address ys q r =
    let front = name ++ 32 ∷ [] in
    let inner : cut g true (marked (address ++ (62 ∷ ys))) ≡ put_before address (onto_item 62 (cut g false (marked ys)))
    = cut-quiet g true address (62 ∷ ys) r in
    let outer : cut g false (marked (front ++ (60 ∷ (address ++ (62 ∷ ys))))) ≡ put_before front (onto_item 60 (cut g true (marked (address ++ (62 ∷ ys)))))
    = cut-quiet g false front (60 ∷ (address ++ (62 ∷ ys))) q in
    outer ∙ ap (λ (items : List (List ℕ × Ending)). put_before front (onto_item 60 items)) inner ∙ put_before-line front address (cut g false (marked ys))

-- No quiet byte is the one searched for.
len_before-quiet : (sought : Sought) (xs ys : List ℕ) → ((b : ℕ) → IsQuiet b → is_sought sought (b, Outside) ≡ false) → AllQuiet xs
    → len_before sought Outside (xs ++ ys) ≡ length xs + len_before sought Outside ys
len_before-quiet sought [] ys none q = sym (zero-add (len_before sought Outside ys))
len_before-quiet sought (b ∷ bs) ys none q =
    let ih : len_before sought Outside (bs ++ ys) ≡ length bs + len_before sought Outside ys = len_before-quiet sought bs ys none q.1 in
    rw (none b q.0, q.0.quote, q.0.paren, ih) (omega arith)

pub nat_lt-true : (n m : ℕ) → n < m → nat_lt n m ≡ true
nat_lt-true n m h = grind (arith, nat_tests)

-- The parts of such an item.
len_before-line : (name address : List ℕ) → AllQuiet (name ++ 32 ∷ []) → len_before OpenBracket Outside (line name address []) ≡ length (name ++ 32 ∷ [])
len_before-line name address q =
    let len : len_before OpenBracket Outside (line name address []) ≡ length (name ++ 32 ∷ []) + 0
    = len_before-quiet OpenBracket (name ++ 32 ∷ []) (60 ∷ (address ++ (62 ∷ []))) (λ b quiet. quiet.less) q in
    omega arith

has_bracket-line : (name address : List ℕ) → AllQuiet (name ++ 32 ∷ []) → has_bracket (line name address []) ≡ true
has_bracket-line name address q =
    let front = name ++ 32 ∷ [] in
    let after = 60 ∷ (address ++ (62 ∷ [])) in
    let len : len_before OpenBracket Outside (line name address []) ≡ length front = len_before-line name address q in
    let all : length (front ++ after) ≡ length front + length after = length-append front after in
    nat_lt-true (len_before OpenBracket Outside (line name address [])) (length (front ++ after)) (omega arith)

name_bytes-line : (name address : List ℕ) → AllQuiet (name ++ 32 ∷ []) → name_bytes (line name address []) ≡ name ++ 32 ∷ []
name_bytes-line name address q =
    let has = has_bracket-line name address q in
    let len = len_before-line name address q in
    rw (has, len) (take_at (name ++ 32 ∷ []) (60 ∷ (address ++ (62 ∷ []))) (length (name ++ 32 ∷ [])) refl)

up_to_bracket-line : (address : List ℕ) → AllQuiet address → up_to_bracket (address ++ (62 ∷ [])) ≡ address
up_to_bracket-line address q =
    let len : len_before CloseBracket Outside (address ++ (62 ∷ [])) ≡ length address + 0
    = len_before-quiet CloseBracket address (62 ∷ []) (λ b quiet. quiet.greater) q in
    rw len (take_at address (62 ∷ []) (length address + 0) (omega arith))

after_bracket-line : (name address : List ℕ) → AllQuiet (name ++ 32 ∷ []) → after_bracket (line name address []) ≡ address ++ (62 ∷ [])
after_bracket-line name address q =
    let front = name ++ 32 ∷ [] in
    let after = address ++ (62 ∷ []) in
    let len = len_before-line name address q in
    let at : drop (length front) (front ++ (60 ∷ after)) ≡ 60 ∷ after = drop_at front (60 ∷ after) (length front) refl in
    rw len (sym (drop-drop 1 (length front) (front ++ (60 ∷ after))) ∙ ap (drop 1) at)

address_bytes-line : (name address : List ℕ) → AllQuiet (name ++ 32 ∷ []) → AllQuiet address → address_bytes (line name address []) ≡ address
address_bytes-line name address q r =
    let has = has_bracket-line name address q in
    rw has (ap up_to_bracket (after_bracket-line name address q) ∙ up_to_bracket-line address r)

-- The texts of quiet bytes.
spoken_from-quiet : (xs : List ℕ) → AllQuiet xs → spoken_from Outside xs ≡ xs
spoken_from-quiet [] q = refl
spoken_from-quiet (b ∷ bs) q = rw (q.0.quote, q.0.paren, q.0.backslash) (ap (λ (ys : List ℕ). b ∷ ys) (spoken_from-quiet bs q.1))

address_from-quiet : (xs : List ℕ) → AllQuiet xs → HasNo 32 xs → address_from Outside xs ≡ xs
address_from-quiet [] q lacks = refl
address_from-quiet (b ∷ bs) q lacks = rw (q.0.quote, q.0.paren, lacks.0) (ap (λ (ys : List ℕ). b ∷ ys) (address_from-quiet bs q.1 lacks.1))

begins_word-push : (bs : List ℕ) → begins_word (bs ++ 32 ∷ []) ≡ begins_word bs
begins_word-push [] = refl
begins_word-push (b ∷ bs) = refl

pub spaced-push : (bs : List ℕ) → spaced (bs ++ 32 ∷ []) ≡ spaced bs
spaced-push [] = refl
spaced-push (b ∷ bs) = rw (begins_word-push bs, spaced-push bs) refl

-- The address of such a mailbox.
pub split_last-no : (c : ℕ) (xs : List ℕ) → HasNo c xs → split_last (is_this c) xs ≡ None
split_last-no c [] lacks = refl
split_last-no c (x ∷ xs) lacks = rw (lacks.0, split_last-no c xs lacks.1) refl

pub split_last-this : (c : ℕ) (xs ys : List ℕ) → (c == c) ≡ true → HasNo c ys → split_last (is_this c) (xs ++ (c ∷ ys)) ≡ Some (xs, ys)
split_last-this c [] ys is lacks = rw (is, split_last-no c ys lacks) refl
split_last-this c (x ∷ xs) ys is lacks = rw (split_last-this c xs ys is lacks) refl

pub cond_same : (t : Bool) (xs : List ℕ) → cond t xs xs ≡ xs
cond_same true xs = refl
cond_same false xs = refl

without_route-quiet : (xs : List ℕ) → AllQuiet xs → without_route xs ≡ xs
without_route-quiet [] q = refl
without_route-quiet (b ∷ bs) q =
    let none : split_last (is_this 58) (b ∷ bs) ≡ None = split_last-no 58 (b ∷ bs) (no_colon (b ∷ bs) q) in
    ap (λ (parts : Option (List ℕ × List ℕ)). cond (b == 64) (part_after (b ∷ bs) parts) (b ∷ bs)) none ∙ cond_same (b == 64) (b ∷ bs)

-- An address with an `@` isn't empty.
some_length : (local_part host : List ℕ) → (length (local_part ++ (64 ∷ host)) == 0) ≡ false
some_length local_part host =
    let all : length (local_part ++ (64 ∷ host)) ≡ length local_part + length (64 ∷ host) = length-append local_part (64 ∷ host) in
    let above : 0 < length (local_part ++ (64 ∷ host)) = omega arith in
    grind (arith, nat_tests)

and_false : (t : Bool) → (t && false) ≡ false
and_false true = refl
and_false false = refl

pub mailbox_with-at : (name local_part host : List ℕ) → HasNo 64 host
    → mailbox_with name (local_part ++ (64 ∷ host)) ≡ record { kind = Mailbox; name = name; mailbox = local_part; host = host } ∷ []
mailbox_with-at name local_part host lacks =
    let some = some_length local_part host in
    let parts : split_last (is_this 64) (local_part ++ (64 ∷ host)) ≡ Some (local_part, host) = split_last-this 64 local_part host refl lacks in
    rw (some, and_false (length name == 0), parts) refl

mailbox_in-line : (name local_part host : List ℕ) → AllQuiet (name ++ 32 ∷ []) → AllQuiet (local_part ++ (64 ∷ host)) → HasNo 32 (local_part ++ (64 ∷ host)) → HasNo 64 host
    → mailbox_in (line name (local_part ++ (64 ∷ host)) []) ≡ record { kind = Mailbox; name = joined_words name; mailbox = local_part; host = host } ∷ []
mailbox_in-line name local_part host q r lacks at =
    let address = local_part ++ (64 ∷ host) in
    let words : name_text (name_bytes (line name address [])) ≡ joined_words name
    = ap name_text (name_bytes-line name address q) ∙ ap joined_words (spoken_from-quiet (name ++ 32 ∷ []) q) ∙ ap without_space (spaced-push name) in
    let text : without_route (address_text (address_bytes (line name address []))) ≡ address
    = ap (λ (xs : List ℕ). without_route (address_text xs)) (address_bytes-line name address q r)
    ∙ ap without_route (address_from-quiet address r lacks)
    ∙ without_route-quiet address r in
    ap (λ (xs : List ℕ). mailbox_with xs (without_route (address_text (address_bytes (line name address []))))) words
    ∙ ap (mailbox_with (joined_words name)) text
    ∙ mailbox_with-at (joined_words name) local_part host at

-- The properties of a plain mailbox, with bytes before its name that don't change it.
front_quiet : (lead : List ℕ) (m : PlainMailbox) → AllQuiet lead → IsPlainMailbox m → AllQuiet ((lead ++ m.name) ++ 32 ∷ [])
front_quiet lead m q plain =
    all_quiet-append (lead ++ m.name) (32 ∷ []) (all_quiet-append lead m.name q (all_quiet-plain m.name plain.name)) (quiet-space, tt)

address_quiet : (m : PlainMailbox) → IsPlainMailbox m → AllQuiet (m.local_part ++ (64 ∷ m.host))
address_quiet m plain = all_quiet-append m.local_part (64 ∷ m.host) (all_quiet-letter m.local_part plain.local_part) (quiet-at, all_quiet-letter m.host plain.host)

address_solid : (m : PlainMailbox) → IsPlainMailbox m → HasNo 32 (m.local_part ++ (64 ∷ m.host))
address_solid m plain = has_no-append 32 m.local_part (64 ∷ m.host) (no_space m.local_part plain.local_part) (refl, no_space m.host plain.host)

mailbox_in-plain : (lead : List ℕ) (m : PlainMailbox) → AllQuiet lead → joined_words (lead ++ m.name) ≡ joined_words m.name → IsPlainMailbox m
    → mailbox_in (line (lead ++ m.name) (m.local_part ++ (64 ∷ m.host)) []) ≡ address_with m ∷ []
mailbox_in-plain lead m q words plain =
    mailbox_in-line (lead ++ m.name) m.local_part m.host (front_quiet lead m q plain) (address_quiet m plain) (address_solid m plain) (no_at m.host plain.host)
    ∙ ap (λ (name : List ℕ). record { kind = Mailbox; name = name; mailbox = m.local_part; host = m.host } ∷ []) (words ∙ plain.words)

spelled-line : (lead : List ℕ) (m : PlainMailbox) (ys : List ℕ) → lead ++ (spelled m ++ ys) ≡ line (lead ++ m.name) (m.local_part ++ (64 ∷ m.host)) ys
spelled-line lead m ys = simp append_assoc

-- The addresses of the last item, and of an item with others after its comma.
told-last : (item : List ℕ) (address : Address) → mailbox_in item ≡ address ∷ [] → told false (put_before item (cut false false (marked []))) ≡ address ∷ []
told-last item address tells = rw (append-nil item, tells) refl

told-more : (item rest : List ℕ) (address : Address) → mailbox_in item ≡ address ∷ []
    → told false (put_before item (cut false false (marked (44 ∷ rest)))) ≡ address ∷ told false (items_of false rest)
told-more item rest address tells = rw (append-nil item, tells) refl

-- Each mailbox is plain.
abbrev AllPlain : List PlainMailbox → Type 0
AllPlain [] = Unit {0}
AllPlain (m ∷ ms) = IsPlainMailbox m × AllPlain ms

all_plain : (ms : List PlainMailbox) → All IsPlainMailbox ms → AllPlain ms
all_plain [] all = tt
all_plain (m ∷ ms) all =
    let here : 0 < length (m ∷ ms) = omega arith in
    let tail : All IsPlainMailbox ms = λ k d h. let later : suc k < length (m ∷ ms) = omega arith in all (suc k) d later in
    (all 0 m here, all_plain ms tail)

-- A list of plain mailboxes, after bytes that don't change a name.
told-plain : (lead : List ℕ) → AllQuiet lead → ((name : List ℕ) → joined_words (lead ++ name) ≡ joined_words name)
    → (m : PlainMailbox) (ms : List PlainMailbox) → IsPlainMailbox m → AllPlain ms
    → told false (items_of false (lead ++ spelled_list (m ∷ ms))) ≡ address_with m ∷ map address_with ms
told-plain lead q words m [] plain all =
    let address = m.local_part ++ (64 ∷ m.host) in
    let is : lead ++ spelled m ≡ line (lead ++ m.name) address [] = ap (λ (ys : List ℕ). lead ++ ys) (sym (append-nil (spelled m))) ∙ spelled-line lead m [] in
    ap (λ (ys : List ℕ). told false (items_of false ys)) is
    ∙ ap (told false) (cut-line false (lead ++ m.name) address [] (front_quiet lead m q plain) (address_quiet m plain))
    ∙ told-last (line (lead ++ m.name) address []) (address_with m) (mailbox_in-plain lead m q (words m.name) plain)
told-plain lead q words m (n ∷ ms) plain all =
    let address = m.local_part ++ (64 ∷ m.host) in
    let rest = 32 ∷ spelled_list (n ∷ ms) in
    let later : told false (items_of false rest) ≡ address_with n ∷ map address_with ms
    = told-plain (32 ∷ []) (quiet-space, tt) (λ (name : List ℕ). without_space-space name) n ms all.0 all.1 in
    ap (λ (ys : List ℕ). told false (items_of false ys)) (spelled-line lead m (44 ∷ rest))
    ∙ ap (told false) (cut-line false (lead ++ m.name) address (44 ∷ rest) (front_quiet lead m q plain) (address_quiet m plain))
    ∙ told-more (line (lead ++ m.name) address []) rest (address_with m) (mailbox_in-plain lead m q (words m.name) plain)
    ∙ ap (λ (addresses : List Address). address_with m ∷ addresses) later

pub plain_read_back : PlainReadBack
plain_read_back [] all = refl
plain_read_back (m ∷ ms) all =
    let each : AllPlain (m ∷ ms) = all_plain (m ∷ ms) all in
    told-plain [] tt (λ (name : List ℕ). refl) m ms each.0 each.1
