-- The words that are asked, by the tables and by the words of rows.
use Rattle.std.proofs.Common.{◌≡◌, ◌<◌, ◌+◌, ℕ, Bool, true, false, ◌&&◌, ◌||◌, List, [], ◌∷◌, ◌++◌, length, get_or, take, Option, Some, None, refl, sym, ap, subst, ◌∙◌}
use Rattle.std.specs.Cmp.{both_ways}
use Rattle.std.proofs.lemmas.List.{take_more}
use Rattle.std.proofs.lemmas.List.Folds.{list_any-append}
use Rattle.std.proofs.lemmas.Slice.Eq.{bytes_eq-Decides}
use Rattle.std.specs.Str.{bytes_eq}
use Rattle.std.specs.Option.{option_map_or}
use Rattle.std.specs.Ordering.{nat_cmp}
use Rattle.std.specs.BTreeMap.{is_at}
use Rattle.std.specs.List.{list_all, list_any}
use Rattle.query_lang.specs.declared.matching.Field.{Field}
use Rattle.query_lang.specs.declared.matching.Field.TheVariants.{Any, Subject, From, Body}
use Rattle.query_lang.specs.Matching.{has_word, has_in, in_ranges}
use Rattle.word_index.specs.declared.asking.Asked.{Asked}
use Rattle.word_index.specs.declared.rows.KeptRow.{KeptRow}
use Rattle.word_index.specs.declared.tables.Tables.{Tables}
use Rattle.word_index.specs.Vocabulary.{word_at, spelled, IsNumberOf, AreHeld}
use Rattle.word_index.specs.Kept.{kept_at, keeps_at, has_number, in_subject, in_from, in_body, has_at, has_known, shown, IsHeld}
use Rattle.word_index.specs.Tables.{IsWordIndex}
use Rattle.word_index.specs.Asked.{has_asked, listed_in, listed_known, is_listed, matches_asked}
use Rattle.word_index.specs.Postings.{posted, IsListOf}
use Rattle.word_index.proofs.ListLemmas.{all-same, at-same, at-itself, rising-none, IsListOf-same}

any_of : (p q r : KeptRow → Bool) (o : Option KeptRow) → (option_map_or p o false || option_map_or q o false || option_map_or r o false) ≡ option_map_or (λ (row : KeptRow). p row || q row || r row) o false
any_of p q r None = refl
any_of p q r (Some row) = refl

or_three : (a b c x y z : Bool) → a ≡ x → b ≡ y → c ≡ z → (a || b || c) ≡ (x || y || z)
or_three a b c x y z e f g = cc

nowhere : (o : Option KeptRow) → option_map_or (λ (row : KeptRow). false) o false ≡ false
nowhere None = refl
nowhere (Some row) = refl

listed-there : (t : Tables) → IsWordIndex t → (field : Field) (word n : ℕ) → listed_in field t word n ≡ keeps_at (has_at field word) t.rows.entries n
listed-there t index Any word n =
    let rows = t.rows.entries in
    or_three (listed_in Subject t word n) (listed_in From t word n) (listed_in Body t word n) (keeps_at (in_subject word) rows n) (keeps_at (in_from word) rows n)
    (keeps_at (in_body word) rows n) (index.by_subject word n) (index.by_from word n) (index.by_body word n)
    ∙ any_of (in_subject word) (in_from word) (in_body word) (kept_at rows n)
listed-there t index Subject word n = index.by_subject word n
listed-there t index From word n = index.by_from word n
listed-there t index Body word n = index.by_body word n

-- A number is listed under a word exactly if its row has it.
pub listed-is : (t : Tables) → IsWordIndex t → (field : Field) (word : Option ℕ) (n : ℕ) → listed_known field t word n ≡ keeps_at (has_known field word) t.rows.entries n
listed-is t index field None n = sym (nowhere (kept_at t.rows.entries n))
listed-is t index field (Some word) n = listed-there t index field word n

-- A row that is there has all words that are asked exactly if its number is listed under each.
pub matches-at : (t : Tables) → IsWordIndex t → (asked : List Asked) (days : List ℕ) (n : ℕ) (row : KeptRow) → kept_at t.rows.entries n ≡ Some row
    → (list_all (λ (a : Asked). is_listed t a n) asked && in_ranges days row.day) ≡ keeps_at (matches_asked asked days) t.rows.entries n
matches-at t index asked days n row some =
    ap (λ (b : Bool). b && in_ranges days row.day)
    (all-same (λ (a : Asked). is_listed t a n) (has_asked row)
    (λ a. listed-is t index a.field a.word n
    ∙ ap (λ (o : Option KeptRow). option_map_or (has_known a.field a.word) o false) some)
    asked)
    ∙ sym (ap (λ (o : Option KeptRow). option_map_or (matches_asked asked days) o false) some)

-- Whether a number, if there is one, is one of a list.
abbrev pub has_maybe : List ℕ → Option ℕ → Bool
has_maybe numbers None = false
has_maybe numbers (Some n) = has_number numbers n

one_more : (number : Option ℕ) (k : ℕ) (numbers : List ℕ) → has_maybe (k ∷ numbers) number ≡ (has_maybe (k ∷ []) number || has_maybe numbers number)
one_more None k numbers = refl
one_more (Some n) k numbers = first (is_at (nat_cmp k) n) (has_number numbers n)
  where
    first : (a b : Bool) → (a || b) ≡ ((a || false) || b)
    first true b = refl
    first false b = refl

one_word : (words : List (List ℕ)) (word : List ℕ) (number : Option ℕ) (k : ℕ) → IsNumberOf words word number → k < length words → bytes_eq (word_at words k) word ≡ has_maybe (k ∷ []) number
one_word words word number k is within = both_ways (bytes_eq (word_at words k) word) (has_maybe (k ∷ []) number) there back
  where
    there : bytes_eq (word_at words k) word ≡ true → has_maybe (k ∷ []) number ≡ true
    there h =
        let named : number ≡ Some k = is.found k within ((bytes_eq-Decides (word_at words k) word).0 h) in
        ap (has_maybe (k ∷ [])) named ∙ ap (λ (b : Bool). b || false) (at-itself k)

    back : has_maybe (k ∷ []) number ≡ true → bytes_eq (word_at words k) word ≡ true
    back h = go number refl h
      where
        go : (o : Option ℕ) → number ≡ o → has_maybe (k ∷ []) o ≡ true → bytes_eq (word_at words k) word ≡ true
        go None named k' = absurd (cc)
        go (Some n) named h' =
            let same : k ≡ n = at-same k n (first (is_at (nat_cmp k) n) h') in
            (bytes_eq-Decides (word_at words k) word).1 (ap (word_at words) same ∙ (is.held n named).1)
          where
            first : (a : Bool) → (a || false) ≡ true → a ≡ true
            first true e = refl
            first false e = absurd (cc)

-- Words have a word exactly if their numbers have its number.
pub has_word-is : (words : List (List ℕ)) (word : List ℕ) (number : Option ℕ) (numbers : List ℕ) → IsNumberOf words word number → AreHeld words numbers → has_word (spelled words numbers) word ≡ has_maybe numbers number
has_word-is words word None [] is held = refl
has_word-is words word (Some n) [] is held = refl
has_word-is words word number (k ∷ numbers) is held =
    ap (λ (b : Bool). b || has_word (spelled words numbers) word) (one_word words word number k is held.0)
    ∙ ap (λ (b : Bool). has_maybe (k ∷ []) number || b) (has_word-is words word number numbers is held.1)
    ∙ sym (one_more number k numbers)

-- A row has a word where it is asked exactly if it has the word's number there.
pub has_in-is : (words : List (List ℕ)) (word : List ℕ) (number : Option ℕ) (row : KeptRow) (field : Field) → IsNumberOf words word number → IsHeld words row → has_in field (shown words row).words word ≡ has_known field number row
has_in-is words word number row field is held =
    go field (has_word-is words word number row.subject.items is held.subject) (has_word-is words word number row.from.items is held.from) (has_word-is words word number row.body.items is held.body)
    ∙ ends number field
  where
    there : Field → Option ℕ → Bool
    there Any o = has_maybe row.subject.items o || has_maybe row.from.items o || has_maybe row.body.items o
    there Subject o = has_maybe row.subject.items o
    there From o = has_maybe row.from.items o
    there Body o = has_maybe row.body.items o

    go : (f : Field) → has_word (spelled words row.subject.items) word ≡ has_maybe row.subject.items number → has_word (spelled words row.from.items) word ≡ has_maybe row.from.items number
        → has_word (spelled words row.body.items) word ≡ has_maybe row.body.items number → has_in f (shown words row).words word ≡ there f number
    go Any a b c =
        or_three (has_word (spelled words row.subject.items) word) (has_word (spelled words row.from.items) word) (has_word (spelled words row.body.items) word)
        (has_maybe row.subject.items number) (has_maybe row.from.items number) (has_maybe row.body.items number) a b c
    go Subject a b c = a
    go From a b c = b
    go Body a b c = c

    ends : (o : Option ℕ) (f : Field) → there f o ≡ has_known f o row
    ends None Any = refl
    ends None Subject = refl
    ends None From = refl
    ends None Body = refl
    ends (Some n) Any = refl
    ends (Some n) Subject = refl
    ends (Some n) From = refl
    ends (Some n) Body = refl

and_step : (a b c : Bool) → ((a && b) && c) ≡ (a && (b && c))
and_step true b c = refl
and_step false b c = refl

all-last : (p : Asked → Bool) (all : List Asked) (asked : Asked) → list_all p (all ++ asked ∷ []) ≡ (list_all p all && p asked)
all-last p [] asked = and_all (p asked)
  where
    and_all : (x : Bool) → (x && true) ≡ x
    and_all true = refl
    and_all false = refl
all-last p (x ∷ xs) asked = ap (λ (b : Bool). p x && b) (all-last p xs asked) ∙ sym (and_step (p x) (list_all p xs) (p asked))

all-texts : (p : List ℕ → Bool) (texts : List (List ℕ)) (text : List ℕ) → list_all p (texts ++ text ∷ []) ≡ (list_all p texts && p text)
all-texts p [] text = and_all (p text)
  where
    and_all : (x : Bool) → (x && true) ≡ x
    and_all true = refl
    and_all false = refl
all-texts p (x ∷ xs) text = ap (λ (b : Bool). p x && b) (all-texts p xs text) ∙ sym (and_step (p x) (list_all p xs) (p text))

-- One more word that is asked.
pub asked-step : (words : List (List ℕ)) (row : KeptRow) (field : Field) (number : Option ℕ) (text : List ℕ) (all start : List Asked) (texts : List (List ℕ)) (i : ℕ) → i < length texts → text ≡ get_or texts i text
    → IsNumberOf words text number → IsHeld words row → list_all (has_asked row) all ≡ (list_all (has_asked row) start && list_all (has_in field (shown words row).words) (take i texts))
    → list_all (has_asked row) (all ++ (record { field = field; word = number }) ∷ []) ≡ (list_all (has_asked row) start && list_all (has_in field (shown words row).words) (take (i + 1) texts))
asked-step words row field number text all start texts i h at is held before =
    let one : Asked = record { field = field; word = number } in
    let p : List ℕ → Bool = has_in field (shown words row).words in
    all-last (has_asked row) all one ∙ ap (λ (b : Bool). b && has_asked row one) before
    ∙ and_step (list_all (has_asked row) start) (list_all p (take i texts)) (has_asked row one)
    ∙ ap (λ (b : Bool). list_all (has_asked row) start && (list_all p (take i texts) && b)) (sym (has_in-is words text number row field is held))
    ∙ ap (λ (b : Bool). list_all (has_asked row) start && b) (sym (all-texts p (take i texts) text))
    ∙ ap (λ (ts : List (List ℕ)). list_all (has_asked row) start && list_all p ts) (sym (take_more texts i text h ∙ ap (λ (t : List ℕ). take i texts ++ t ∷ []) (sym at)))

-- The numbers of three lists are those of a word in any field.
pub anywhere-list : (t : Tables) (word : ℕ) (subject from body all list : List ℕ) → all ≡ (subject ++ from) ++ body → IsListOf subject (posted t.subject word) → IsListOf from (posted t.from word) → IsListOf body (posted t.body word)
    → IsListOf list (λ n. list_any (is_at (nat_cmp n)) all) → IsListOf list (listed_in Any t word)
anywhere-list t word subject from body all list is in_s in_f in_b listed =
    IsListOf-same list (λ n. list_any (is_at (nat_cmp n)) all) (listed_in Any t word)
    (λ n.
    ap (list_any (is_at (nat_cmp n))) is ∙ list_any-append (is_at (nat_cmp n)) (subject ++ from) body
    ∙ ap (λ (b : Bool). b || list_any (is_at (nat_cmp n)) body) (list_any-append (is_at (nat_cmp n)) subject from)
    ∙ or_from_left (list_any (is_at (nat_cmp n)) subject) (list_any (is_at (nat_cmp n)) from) (list_any (is_at (nat_cmp n)) body)
    ∙ or_three (list_any (is_at (nat_cmp n)) subject) (list_any (is_at (nat_cmp n)) from) (list_any (is_at (nat_cmp n)) body) (posted t.subject word n) (posted t.from word n) (posted t.body word n)
    (in_s.has n) (in_f.has n) (in_b.has n))
    listed
  where
    or_from_left : (a b c : Bool) → ((a || b) || c) ≡ (a || b || c)
    or_from_left true b c = refl
    or_from_left false b c = refl

-- A word without a number is listed nowhere.
pub nowhere-list : (t : Tables) (field : Field) (word : Option ℕ) (list : List ℕ) → word ≡ None → list ≡ [] → IsListOf list (listed_known field t word)
nowhere-list t field word list none nil =
    IsListOf-same list (λ n. false) (listed_known field t word) (λ n. sym (ap (λ (o : Option ℕ). listed_known field t o n) none))
    (subst (λ (l : List ℕ). IsListOf l (λ n. false)) (sym nil) (record { rising = rising-none; has = λ n. refl }))
