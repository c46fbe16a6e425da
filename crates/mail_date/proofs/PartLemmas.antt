-- A text spells a date exactly if it consists of the parts of one.
use Rattle.std.proofs.Common.{◌≡◌, ℕ, zero, suc, ◌+◌, ◌-◌, ◌*◌, ◌≤◌, ◌==◌, ◌&&◌, ◌||◌, Bool, true, false, not, cond, List, [], ◌∷◌, ◌++◌, length, take, drop, get_or, Option, Some, None, refl, sym, ap, ◌∙◌, subst, inl, inr, arith, append_assoc, eqb-true, ℤ}
use Rattle.std.specs.Char.{is_ascii_digit, to_ascii_lowercase}
use Rattle.std.specs.List.{onto_first, prefix_len, list_all}
use Rattle.std.proofs.lemmas.Bool.{and_parts}
use Rattle.std.proofs.lemmas.Bool.Decides.{nat_tests}
use Rattle.std.proofs.lemmas.Option.{none-some}
use Rattle.std.proofs.lemmas.List.{take-append-drop, append-nil}
use Rattle.std.proofs.lemmas.List.Folds.{length-prefix_len, list_all-append}
use Rattle.mail_date.specs.declared.moment.CivilDate.{CivilDate}
use Rattle.mail_date.specs.declared.pieces.Clock.{Clock}
use Rattle.mail_date.specs.Words.{is_white, is_word_byte, without_white, begins_word, words_of, is_day_name, begins_with_day, without_day}
use Rattle.mail_date.specs.Pieces.{number_of, day_of, month_of, year_of, clock_of, zone_of}
use Rattle.mail_date.specs.Dates.{joined}
use Rattle.mail_date.specs.Reading.{is_comment, date_of_words, date_of}
use Rattle.mail_date.specs.Parts.{IsWhite, IsGap, IsDateWord, IsDateOpening, IsCommentEnding, IsEnding, DateParts}
use Rattle.mail_date.proofs.WordLemmas.{words_of-none, words_of-first, begins_word-without_white}

one-more : (n : ℕ) → 1 + n ≡ suc n
one-more n = omega arith

-- The bytes at the front pass the test.
front_passes : (p : ℕ → Bool) (xs : List ℕ) → list_all p (take (prefix_len p xs) xs) ≡ true
front_passes p [] = refl
front_passes p (x ∷ xs) = go (p x) refl (front_passes p xs)
  where
    go : (b : Bool) → p x ≡ b → list_all p (take (prefix_len p xs) xs) ≡ true → list_all p (take (cond b (1 + prefix_len p xs) 0) (x ∷ xs)) ≡ true
    go true e ih = rw (one-more (prefix_len p xs), e) ih
    go false e ih = refl

-- The rest doesn't start with a byte of a word.
after_word : (xs : List ℕ) → begins_word (drop (prefix_len is_word_byte xs) xs) ≡ false
after_word [] = refl
after_word (x ∷ xs) = go (is_word_byte x) refl (after_word xs)
  where
    go : (b : Bool) → is_word_byte x ≡ b → begins_word (drop (prefix_len is_word_byte xs) xs) ≡ false → begins_word (drop (cond b (1 + prefix_len is_word_byte xs) 0) (x ∷ xs)) ≡ false
    go true e ih = rw (one-more (prefix_len is_word_byte xs)) ih
    go false e ih = e

-- A text with a first word: white space, the word, and the rest with the other words.
record Split (text word : List ℕ) (words : List (List ℕ)) : Type 0 where
  lead : List ℕ
  rest : List ℕ
  whole : text ≡ lead ++ (word ++ rest)
  white : IsWhite lead
  is_word : IsDateWord word
  after : begins_word rest ≡ false
  next : words_of rest ≡ words

first_of_list : (a b : List ℕ) (xs ys : List (List ℕ)) → a ∷ xs ≡ b ∷ ys → a ≡ b
first_of_list a b xs ys e = cc

rest_of_list : (a b : List ℕ) (xs ys : List (List ℕ)) → a ∷ xs ≡ b ∷ ys → xs ≡ ys
rest_of_list a b xs ys e = cc

split_word : (text word : List ℕ) (words : List (List ℕ)) → words_of text ≡ word ∷ words → Split text word words
split_word text word words e = go (prefix_len is_word_byte (without_white text)) refl
  where
    go : (n : ℕ) → prefix_len is_word_byte (without_white text) ≡ n → Split text word words
    go zero none = absurd (let empty = words_of-none text none in cc)
    go (suc n) some =
        let body = without_white text in
        let len = prefix_len is_word_byte body in
        let found : take len body ∷ words_of (drop len body) ≡ word ∷ words = sym (words_of-first text (omega arith)) ∙ e in
        let word_is : take len body ≡ word = first_of_list _ _ _ _ found in
        let words_are : words_of (drop len body) ≡ words = rest_of_list _ _ _ _ found in
        let cut : take len body ++ drop len body ≡ body = take-append-drop len body in
        let front : take (prefix_len is_white text) text ++ body ≡ text = take-append-drop (prefix_len is_white text) text in
        let long : length (take len body) ≡ len = length-prefix_len is_word_byte body in
        let is_word : IsDateWord (take len body) = record { some = omega arith; bytes = front_passes is_word_byte body } in
        record {
          lead = take (prefix_len is_white text) text;
          rest = drop len body;
          whole = rw (← word_is, cut, front) refl;
          white = front_passes is_white text;
          is_word = subst IsDateWord word_is is_word;
          after = after_word body;
          next = words_are;
        }

-- The first byte of a word is a byte of a word.
begins_word-word : (word rest : List ℕ) → IsDateWord word → begins_word (word ++ rest) ≡ true
begins_word-word [] rest h = absurd (let some : 1 ≤ 0 = h.some in omega arith)
begins_word-word (b ∷ bs) rest h = (and_parts _ _ h.bytes).0

-- Between two words there is white space.
gap_between : (text lead word rest : List ℕ) → text ≡ lead ++ (word ++ rest) → begins_word text ≡ false → IsWhite lead → IsDateWord word → IsGap lead
gap_between text [] word rest e after white is_word = absurd (let bytes = begins_word-word word rest is_word in let same : begins_word text ≡ true = rw e bytes in cc)
gap_between text (b ∷ bs) word rest e after white is_word = record { some = grind (arith); white = white }

-- A text without words is white space.
white_without_words : (text : List ℕ) → words_of text ≡ [] → IsWhite text
white_without_words text e = go (prefix_len is_word_byte (without_white text)) refl
  where
    go : (n : ℕ) → prefix_len is_word_byte (without_white text) ≡ n → IsWhite text
    go (suc n) some = absurd (let first = words_of-first text (omega arith) in cc)
    go zero none =
        let nothing : without_white text ≡ [] = empty_body (without_white text) none (λ h. begins_word-without_white text h) in
        let front : take (prefix_len is_white text) text ++ without_white text ≡ text = take-append-drop (prefix_len is_white text) text in
        let all : take (prefix_len is_white text) text ≡ text = sym (append-nil _) ∙ (ap (λ (rest : List ℕ). take (prefix_len is_white text) text ++ rest) (sym nothing) ∙ front) in
        subst IsWhite all (front_passes is_white text)
      where
        empty_body : (body : List ℕ) → prefix_len is_word_byte body ≡ 0 → (begins_word body ≡ false → body ≡ []) → body ≡ []
        empty_body [] h k = refl
        empty_body (b ∷ bs) h k = k (last (is_word_byte b) h)
          where
            last : (v : Bool) → cond v (1 + prefix_len is_word_byte bs) 0 ≡ 0 → v ≡ false
            last true h = absurd (omega arith)
            last false h = refl

-- If the words left are none or a comment, the text ends after the zone.
ending_of : (text : List ℕ) (words : List (List ℕ)) → words_of text ≡ words → begins_word text ≡ false → is_comment words ≡ true → IsEnding text
ending_of text [] e after comment = inl (white_without_words text e)
ending_of text (word ∷ words) e after comment = inr (go word (split_word text word words e) comment)
  where
    go : (word : List ℕ) → Split text word words → (get_or word 0 0 == 40) ≡ true → IsCommentEnding text
    go [] s paren = absurd (let some : 1 ≤ 0 = s.is_word.some in omega arith)
    go (b ∷ bs) s paren =
        let open_ : b ≡ 40 = grind (arith, nat_tests) in
        record {
          gap = s.lead;
          comment = bs ++ s.rest;
          whole = s.whole ∙ ap (λ (c : ℕ). s.lead ++ (c ∷ (bs ++ s.rest))) open_;
          is_gap = gap_between text s.lead (b ∷ bs) s.rest s.whole after s.white s.is_word;
        }

words_of-gap : (gap rest : List ℕ) → IsWhite gap → words_of (gap ++ rest) ≡ words_of rest
words_of-gap [] rest h = refl
words_of-gap (b ∷ bs) rest h =
    let parts = and_parts (is_white b) (list_all is_white bs) h in
    rw parts.0 (words_of-gap bs rest parts.1)

not_white : (b : ℕ) → is_word_byte b ≡ true → is_white b ≡ false
not_white b h = go (is_white b) h
  where
    go : (w : Bool) → not w ≡ true → w ≡ false
    go true k = cc
    go false k = refl

words_of-word : (word rest : List ℕ) → IsDateWord word → begins_word rest ≡ false → words_of (word ++ rest) ≡ word ∷ words_of rest
words_of-word [] rest h after = absurd (let some : 1 ≤ 0 = h.some in omega arith)
words_of-word (b ∷ []) rest h after =
    let parts = and_parts _ _ h.bytes in
    rw (not_white b parts.0, after) refl
words_of-word (b ∷ c ∷ cs) rest h after =
    let parts = and_parts _ _ h.bytes in
    let next = and_parts _ _ parts.1 in
    let later : words_of ((c ∷ cs) ++ rest) ≡ (c ∷ cs) ∷ words_of rest = words_of-word (c ∷ cs) rest record { some = grind (arith); bytes = parts.1 } after in
    step (is_white b) (not_white b parts.0) (is_word_byte c) next.0 (words_of ((c ∷ cs) ++ rest)) later
  where
    step : (w : Bool) → w ≡ false → (k : Bool) → k ≡ true → (words : List (List ℕ)) → words ≡ (c ∷ cs) ∷ words_of rest → cond w words (cond k (onto_first b words) ((b ∷ []) ∷ words)) ≡ (b ∷ c ∷ cs) ∷ words_of rest
    step w e k f words g = rw (e, f, g) refl

not_word_byte : (b : ℕ) → is_white b ≡ true → is_word_byte b ≡ false
not_word_byte b h = rw h refl

after_gap : (gap rest : List ℕ) → IsGap gap → begins_word (gap ++ rest) ≡ false
after_gap [] rest h = absurd (let some : 1 ≤ 0 = h.some in omega arith)
after_gap (b ∷ bs) rest h = not_word_byte b (and_parts _ _ h.white).0

after_white : (text : List ℕ) → IsWhite text → begins_word text ≡ false
after_white [] h = refl
after_white (b ∷ bs) h = not_word_byte b (and_parts _ _ h).0

after_ending : (text : List ℕ) → IsEnding text → begins_word text ≡ false
after_ending text (inl white) = after_white text white
after_ending text (inr h) = rw h.whole (after_gap h.gap (40 ∷ h.comment) h.is_gap)

onto_comment : (words : List (List ℕ)) → is_comment (onto_first 40 words) ≡ true
onto_comment [] = refl
onto_comment (word ∷ words) = refl

comment_word : (comment : List ℕ) → is_comment (words_of (40 ∷ comment)) ≡ true
comment_word comment = go (begins_word comment)
  where
    go : (b : Bool) → is_comment (cond b (onto_first 40 (words_of comment)) ((40 ∷ []) ∷ words_of comment)) ≡ true
    go true = onto_comment (words_of comment)
    go false = refl

ending_comment : (text : List ℕ) → IsEnding text → is_comment (words_of text) ≡ true
ending_comment text (inl white) =
    let none : words_of (text ++ []) ≡ [] = words_of-gap text [] white in
    let same : text ++ [] ≡ text = append-nil text in
    ap is_comment (ap words_of (sym same) ∙ none)
ending_comment text (inr h) =
    ap is_comment (ap words_of h.whole ∙ words_of-gap h.gap (40 ∷ h.comment) h.is_gap.white) ∙ comment_word h.comment

-- White space before any text is dropped.
without_white-gap : (gap rest : List ℕ) → IsWhite gap → without_white (gap ++ rest) ≡ without_white rest
without_white-gap [] rest h = refl
without_white-gap (b ∷ bs) rest h =
    let parts = and_parts (is_white b) (list_all is_white bs) h in
    rw (parts.0, one-more (prefix_len is_white (bs ++ rest))) (without_white-gap bs rest parts.1)

without_white-word : (text : List ℕ) → begins_word text ≡ true → without_white text ≡ text
without_white-word [] h = refl
without_white-word (b ∷ bs) h = rw (not_white b h) refl

lower_letter : (a b c : ℕ) → is_day_name (a ∷ b ∷ c ∷ []) ≡ true → 97 ≤ to_ascii_lowercase a
lower_letter a b c h = any_letter (to_ascii_lowercase a) _ _ _ _ _ _ _ h
  where
    any_letter : (n : ℕ) (m t w u f s v : Bool) → ((n == 109 && m) || ((n == 116 && t) || ((n == 119 && w) || ((n == 116 && u) || ((n == 102 && f) || ((n == 115 && s) || ((n == 115 && v) || false))))))) ≡ true → 97 ≤ n
    any_letter n m t w u f s v e = grind (arith, nat_tests)

letter_of_lower : (a : ℕ) → 97 ≤ to_ascii_lowercase a → 65 ≤ a
letter_of_lower a h = grind (arith, nat_tests)

day_letter : (a b c : ℕ) → is_day_name (a ∷ b ∷ c ∷ []) ≡ true → 65 ≤ a
day_letter a b c h = letter_of_lower a (lower_letter a b c h)

letter_in_word : (a : ℕ) → 65 ≤ a → is_word_byte a ≡ true
letter_in_word a h = grind (arith, nat_tests)

no_letter : (a : ℕ) → is_ascii_digit a ≡ true → 65 ≤ a → ⊥
no_letter a h k = grind (arith, nat_tests)

-- No day's name starts with a digit.
digit-no_day : (a : ℕ) (rest : List ℕ) → is_ascii_digit a ≡ true → begins_with_day (a ∷ rest) ≡ false
digit-no_day a [] h = refl
digit-no_day a (b ∷ []) h = refl
digit-no_day a (b ∷ c ∷ []) h = refl
digit-no_day a (b ∷ c ∷ d ∷ rest) h = go (is_day_name (a ∷ b ∷ c ∷ [])) refl (d == 44)
  where
    go : (n : Bool) → is_day_name (a ∷ b ∷ c ∷ []) ≡ n → (k : Bool) → (k && n) ≡ false
    go true e k = absurd (no_letter a h (day_letter a b c e))
    go false e true = refl
    go false e false = refl

-- Two bytes that spell a number are digits.
digits_of : (high low n : ℕ) → number_of high low ≡ Some n → (is_ascii_digit high ≡ true) × (is_ascii_digit low ≡ true)
digits_of high low n e = go (is_ascii_digit high) (is_ascii_digit low) e
  where
    go : (h l : Bool) → cond (h && l) (Some ((high - 48) * 10 + (low - 48))) None ≡ Some n → (h ≡ true) × (l ≡ true)
    go true true f = (refl, refl)
    go true false f = absurd (none-some _ f)
    go false l f = absurd (none-some _ f)

day_word-no_day : (day rest : List ℕ) (n : ℕ) → day_of day ≡ Some n → begins_with_day (day ++ rest) ≡ false
day_word-no_day [] rest n e = absurd (none-some _ e)
day_word-no_day (low ∷ []) rest n e = digit-no_day low rest (digits_of 48 low n e).1
day_word-no_day (high ∷ low ∷ []) rest n e = digit-no_day high (low ∷ rest) (digits_of high low n e).0
day_word-no_day (a ∷ b ∷ c ∷ cs) rest n e = absurd (none-some _ e)

-- The opening is skipped.
opened : (opening day rest : List ℕ) (n : ℕ) → IsDateOpening opening → IsDateWord day → day_of day ≡ Some n → words_of (without_day (opening ++ (day ++ rest))) ≡ words_of (day ++ rest)
opened opening day rest n (inl white) word e =
    let body : without_white (opening ++ (day ++ rest)) ≡ day ++ rest = without_white-gap opening (day ++ rest) white ∙ without_white-word (day ++ rest) (begins_word-word day rest word) in
    rw (body, day_word-no_day day rest n e) refl
opened opening day rest n (inr h) word e =
    let text = day ++ rest in
    let letter : is_word_byte h.first ≡ true = letter_in_word h.first (day_letter h.first h.second h.third h.named) in
    let cut : (h.before ++ (h.first ∷ h.second ∷ h.third ∷ 44 ∷ h.after)) ++ text ≡ h.before ++ (h.first ∷ h.second ∷ h.third ∷ 44 ∷ (h.after ++ text)) = append_assoc h.before (h.first ∷ h.second ∷ h.third ∷ 44 ∷ h.after) text in
    let body : without_white (opening ++ text) ≡ h.first ∷ h.second ∷ h.third ∷ 44 ∷ (h.after ++ text) = rw (h.whole, cut) (without_white-gap h.before (h.first ∷ h.second ∷ h.third ∷ 44 ∷ (h.after ++ text)) h.white_before ∙ without_white-word (h.first ∷ h.second ∷ h.third ∷ 44 ∷ (h.after ++ text)) letter) in
    rw (body, h.named) (words_of-gap h.after text h.white_after)

-- The pieces of a date are there.
joined_day : (day month year : Option ℕ) (clock : Option Clock) (offset : Option ℤ) (date : CivilDate) → joined day month year clock offset ≡ Some date → (n : ℕ) × (day ≡ Some n)
joined_day None month year clock offset date e = absurd (none-some _ e)
joined_day (Some n) month year clock offset date e = (n, refl)

-- A text that consists of the parts of a date spells it.
pub parts_spell : (text : List ℕ) (date : CivilDate) → DateParts text date → date_of text ≡ Some date
parts_spell text date p =
    let (n, day_is) = joined_day _ _ _ _ _ date p.value in
    let following_day = p.after_day ++ (p.month ++ (p.after_month ++ (p.year ++ (p.after_year ++ (p.clock ++ (p.after_clock ++ (p.zone ++ p.ending))))))) in
    let zone_word : words_of (p.zone ++ p.ending) ≡ p.zone ∷ words_of p.ending = words_of-word p.zone p.ending p.is_zone (after_ending p.ending p.ends) in
    let clock_word : words_of (p.clock ++ (p.after_clock ++ (p.zone ++ p.ending))) ≡ p.clock ∷ p.zone ∷ words_of p.ending = words_of-word p.clock _ p.is_clock (after_gap p.after_clock _ p.gap_after_clock) ∙ ap (λ (ws : List (List ℕ)). p.clock ∷ ws) (words_of-gap p.after_clock _ p.gap_after_clock.white ∙ zone_word) in
    let year_word : words_of (p.year ++ (p.after_year ++ (p.clock ++ (p.after_clock ++ (p.zone ++ p.ending))))) ≡ p.year ∷ p.clock ∷ p.zone ∷ words_of p.ending = words_of-word p.year _ p.is_year (after_gap p.after_year _ p.gap_after_year) ∙ ap (λ (ws : List (List ℕ)). p.year ∷ ws) (words_of-gap p.after_year _ p.gap_after_year.white ∙ clock_word) in
    let month_word : words_of (p.month ++ (p.after_month ++ (p.year ++ (p.after_year ++ (p.clock ++ (p.after_clock ++ (p.zone ++ p.ending))))))) ≡ p.month ∷ p.year ∷ p.clock ∷ p.zone ∷ words_of p.ending = words_of-word p.month _ p.is_month (after_gap p.after_month _ p.gap_after_month) ∙ ap (λ (ws : List (List ℕ)). p.month ∷ ws) (words_of-gap p.after_month _ p.gap_after_month.white ∙ year_word) in
    let day_word : words_of (p.day ++ following_day) ≡ p.day ∷ p.month ∷ p.year ∷ p.clock ∷ p.zone ∷ words_of p.ending = words_of-word p.day _ p.is_day (after_gap p.after_day _ p.gap_after_day) ∙ ap (λ (ws : List (List ℕ)). p.day ∷ ws) (words_of-gap p.after_day _ p.gap_after_day.white ∙ month_word) in
    let all : words_of (without_day text) ≡ p.day ∷ p.month ∷ p.year ∷ p.clock ∷ p.zone ∷ words_of p.ending = ap (λ (t : List ℕ). words_of (without_day t)) p.whole ∙ (opened p.opening p.day following_day n p.opens p.is_day day_is ∙ day_word) in
    rw (all, ending_comment p.ending p.ends) p.value

-- The words of a date.
record FiveWords (words : List (List ℕ)) (date : CivilDate) : Type 0 where
  day : List ℕ
  month : List ℕ
  year : List ℕ
  clock : List ℕ
  zone : List ℕ
  others : List (List ℕ)
  whole : words ≡ day ∷ month ∷ year ∷ clock ∷ zone ∷ others
  comment : is_comment others ≡ true
  value : joined (day_of day) (month_of month) (year_of year) (clock_of clock) (zone_of zone) ≡ Some date

five_words : (words : List (List ℕ)) (date : CivilDate) → date_of_words words ≡ Some date → FiveWords words date
five_words [] date e = absurd (none-some _ e)
five_words (day ∷ []) date e = absurd (none-some _ e)
five_words (day ∷ month ∷ []) date e = absurd (none-some _ e)
five_words (day ∷ month ∷ year ∷ []) date e = absurd (none-some _ e)
five_words (day ∷ month ∷ year ∷ clock ∷ []) date e = absurd (none-some _ e)
five_words (day ∷ month ∷ year ∷ clock ∷ zone ∷ others) date e = go (is_comment others) refl e
  where
    go : (b : Bool) → is_comment others ≡ b → cond b (joined (day_of day) (month_of month) (year_of year) (clock_of clock) (zone_of zone)) None ≡ Some date → FiveWords (day ∷ month ∷ year ∷ clock ∷ zone ∷ others) date
    go false h f = absurd (none-some _ f)
    go true h f = record { day = day; month = month; year = year; clock = clock; zone = zone; others = others; whole = refl; comment = h; value = f }

-- The text before the words.
record Opened (text body : List ℕ) : Type 0 where
  opening : List ℕ
  whole : text ≡ opening ++ body
  opens : (white : List ℕ) → IsWhite white → IsDateOpening (opening ++ white)

white_joined : (a b : List ℕ) → IsWhite a → IsWhite b → IsWhite (a ++ b)
white_joined a b h k = rw (list_all-append is_white a b, h, k) refl

opened_by : (text body lead : List ℕ) (b : Bool) → begins_with_day body ≡ b → text ≡ lead ++ body → IsWhite lead → Opened text (cond b (drop 4 body) body)
opened_by text body lead false f whole white = record { opening = lead; whole = whole; opens = λ more h. inl (white_joined lead more white h) }
opened_by text [] lead true f whole white = cc
opened_by text (a ∷ []) lead true f whole white = cc
opened_by text (a ∷ b ∷ []) lead true f whole white = cc
opened_by text (a ∷ b ∷ c ∷ []) lead true f whole white = cc
opened_by text (a ∷ b ∷ c ∷ d ∷ rest) lead true f whole white =
    let tests = and_parts (d == 44) (is_day_name (a ∷ b ∷ c ∷ [])) f in
    let comma : d ≡ 44 = eqb-true d 44 tests.0 in
    record {
      opening = lead ++ (a ∷ b ∷ c ∷ d ∷ []);
      whole = whole ∙ sym (append_assoc lead (a ∷ b ∷ c ∷ d ∷ []) rest);
      opens = λ more h. inr record {
        before = lead;
        after = more;
        first = a;
        second = b;
        third = c;
        whole = append_assoc lead (a ∷ b ∷ c ∷ d ∷ []) more ∙ ap (λ (p : ℕ). lead ++ (a ∷ b ∷ c ∷ p ∷ more)) comma;
        named = tests.1;
        white_before = white;
        white_after = h;
      };
    }

opened_text : (text : List ℕ) → Opened text (without_day text)
opened_text text =
    opened_by text (without_white text) (take (prefix_len is_white text) text) (begins_with_day (without_white text)) refl (sym (take-append-drop (prefix_len is_white text) text)) (front_passes is_white text)

-- A text that spells a date consists of the parts of one.
pub spelled_parts : (text : List ℕ) (date : CivilDate) → date_of text ≡ Some date → DateParts text date
spelled_parts text date e =
    let w = five_words (words_of (without_day text)) date e in
    let o = opened_text text in
    let s1 = split_word (without_day text) w.day _ w.whole in
    let s2 = split_word s1.rest w.month _ s1.next in
    let s3 = split_word s2.rest w.year _ s2.next in
    let s4 = split_word s3.rest w.clock _ s3.next in
    let s5 = split_word s4.rest w.zone _ s4.next in
    let e3 = s4.whole ∙ ap (λ (t : List ℕ). s4.lead ++ (w.clock ++ t)) s5.whole in
    let e2 = s3.whole ∙ ap (λ (t : List ℕ). s3.lead ++ (w.year ++ t)) e3 in
    let e1 = s2.whole ∙ ap (λ (t : List ℕ). s2.lead ++ (w.month ++ t)) e2 in
    let e0 = s1.whole ∙ ap (λ (t : List ℕ). s1.lead ++ (w.day ++ t)) e1 in
    let joined_lead = append_assoc o.opening s1.lead (w.day ++ (s2.lead ++ (w.month ++ (s3.lead ++ (w.year ++ (s4.lead ++ (w.clock ++ (s5.lead ++ (w.zone ++ s5.rest))))))))) in
    record {
      opening = o.opening ++ s1.lead;
      day = w.day;
      after_day = s2.lead;
      month = w.month;
      after_month = s3.lead;
      year = w.year;
      after_year = s4.lead;
      clock = w.clock;
      after_clock = s5.lead;
      zone = w.zone;
      ending = s5.rest;
      whole = o.whole ∙ (ap (λ (t : List ℕ). o.opening ++ t) e0 ∙ sym joined_lead);
      opens = o.opens s1.lead s1.white;
      is_day = s1.is_word;
      gap_after_day = gap_between s1.rest s2.lead w.month s2.rest s2.whole s1.after s2.white s2.is_word;
      is_month = s2.is_word;
      gap_after_month = gap_between s2.rest s3.lead w.year s3.rest s3.whole s2.after s3.white s3.is_word;
      is_year = s3.is_word;
      gap_after_year = gap_between s3.rest s4.lead w.clock s4.rest s4.whole s3.after s4.white s4.is_word;
      is_clock = s4.is_word;
      gap_after_clock = gap_between s4.rest s5.lead w.zone s5.rest s5.whole s4.after s5.white s5.is_word;
      is_zone = s5.is_word;
      ends = ending_of s5.rest w.others s5.next s5.after w.comment;
      value = w.value;
    }
