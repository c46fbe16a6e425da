-- The marks of words, and how words are found by them.
use Rattle.std.proofs.Common.{◌≡◌, ◌+◌, ◌<◌, ℕ, length, take, get_or, Bool, true, false, cond, List, [], ◌∷◌, ◌++◌, Option, Some, None, is_some, Result, Ok, Err, OnOk, OnErr, if◌then◌else◌, refl, sym, ap, subst, ◌∙◌, inl, inr, arith}
use Rattle.std.proofs.lemmas.Bool.{cases_lt, false_from_ne_true}
use Rattle.std.proofs.lemmas.List.{take_more}
use Rattle.std.proofs.lemmas.Map.Text.{is_eq-slice_cmp}
use Rattle.std.proofs.lemmas.Slice.Eq.{bytes_eq-Decides}
use Rattle.std.specs.Str.{bytes_eq}
use Rattle.std.specs.Ordering.{nat_cmp, is_eq, eq_by_cmp}
use Rattle.std.specs.declared.cmp.Ordering.{Ordering}
use Rattle.std.specs.Cmp.Lexicographic.{slice_cmp}
use Rattle.std.specs.Map.{IsKeyTest, AreApart, KeepsOthers}
use Rattle.std.specs.BTreeMap.{BTreeMap, get_by, is_at, UpdatesBy}
use Rattle.std.specs.Global.{Vec}
use Rattle.word_index.specs.Marks.{mark_on, mark_from, mark_of}
use Rattle.word_index.specs.Vocabulary.{word_at, given, looks, first_with, other_at, number_by, number_in, IsNumberOf, IsNumbering}
use Rattle.word_index.proofs.ListLemmas.{at-same, at-itself}
use Rattle.word_index.proofs.WordLemmas.{one_more, before, there}

-- One byte more.
pub mark-more : (mark : ℕ) (word : List ℕ) (byte : ℕ) → mark_from mark (word ++ byte ∷ []) ≡ mark_on (mark_from mark word) byte
mark-more mark [] byte = refl
mark-more mark (b ∷ bs) byte = mark-more (mark_on mark b) bs byte

-- The mark of the bytes up to the next one.
pub mark-next : (word : List ℕ) (i mark : ℕ) → i < length word → mark ≡ mark_of (take i word) → mark_on mark (get_or word i 0) ≡ mark_of (take (i + 1) word)
mark-next word i mark h is =
    let byte = get_or word i 0 in
    ap (λ (m : ℕ). mark_on m byte) is ∙ sym (mark-more 0 (take i word) byte) ∙ ap mark_of (sym (take_more word i 0 h))

-- Bytes that are alike are those of one list, and others are not.
alike : (a b : List ℕ) → a ≡ b → bytes_eq a b ≡ true
alike a b is = (bytes_eq-Decides a b).1 is

unlike : (a b : List ℕ) → (a ≡ b → ⊥) → bytes_eq a b ≡ false
unlike a b other = false_from_ne_true (bytes_eq a b) (λ yes. other ((bytes_eq-Decides a b).0 yes))

none-some : (i : ℕ) → None ≡ Some i → ⊥
none-some i h = absurd (cc)

some-same : (a b : ℕ) → Some a ≡ Some b → a ≡ b
some-same a b h = cc

-- The tables give the number of each word, and none to what is no word.
by-number : (words : List (List ℕ)) (others : BTreeMap (Vec ℕ) (Option ℕ)) (word : List ℕ) (o : Option ℕ) → ((i : ℕ) → o ≡ Some i → i < length words) → ((i : ℕ) → other_at others word ≡ Some i → (i < length words) × (word_at words i ≡ word))
    → (i : ℕ) → number_by words others word o ≡ Some i → (i < length words) × (word_at words i ≡ word)
by-number words others word None within held i named = absurd (none-some i named)
by-number words others word (Some j) within held i named = go (bytes_eq (word_at words j) word) refl
  where
    go : (b : Bool) → bytes_eq (word_at words j) word ≡ b → (i < length words) × (word_at words i ≡ word)
    go true same =
        let at : j ≡ i = some-same j i (sym (ap (λ (t : Bool). if t then Some j else other_at others word) same) ∙ named) in
        subst (λ (k : ℕ). (k < length words) × (word_at words k ≡ word)) at (within j refl, (bytes_eq-Decides (word_at words j) word).0 same)
    go false other = held i (sym (ap (λ (t : Bool). if t then Some j else other_at others word) other) ∙ named)

pub numbers-each : (words : List (List ℕ)) (first : BTreeMap ℕ (Option ℕ)) (others : BTreeMap (Vec ℕ) (Option ℕ)) → IsNumbering words first others → (word : List ℕ) → IsNumberOf words word (number_in words first others word)
numbers-each words first others is word =
    record {
      found = λ i h same. subst (λ (w : List ℕ). number_in words first others w ≡ Some i) same (is.found i h);
      held = by-number words others word (first_with first (mark_of word)) (λ i named. (is.firsts (mark_of word) i named).0) (is.others word);
    }

-- A word more after the others changes nothing of them.
held-more : (words : List (List ℕ)) (word w : List ℕ) (i : ℕ) → (i < length words) × (word_at words i ≡ w) → (i < length (words ++ word ∷ [])) × (word_at (words ++ word ∷ []) i ≡ w)
held-more words word w i was = (omega (arith, one_more words word, was.0), before words word i was.0 ∙ was.1)

marked-more : (words : List (List ℕ)) (word : List ℕ) (mark i : ℕ) → (i < length words) × (mark_of (word_at words i) ≡ mark) → (i < length (words ++ word ∷ [])) × (mark_of (word_at (words ++ word ∷ []) i) ≡ mark)
marked-more words word mark i was = (omega (arith, one_more words word, was.0), ap mark_of (before words word i was.0) ∙ was.1)

by-more : (words : List (List ℕ)) (word w : List ℕ) (old new : BTreeMap (Vec ℕ) (Option ℕ)) (o : Option ℕ) → other_at new w ≡ other_at old w → ((i : ℕ) → o ≡ Some i → i < length words) → number_by (words ++ word ∷ []) new w o ≡ number_by words old w o
by-more words word w old new None same within = refl
by-more words word w old new (Some j) same within =
    ap (λ (b : List ℕ). if bytes_eq b w then Some j else other_at new w) (before words word j (within j refl))
    ∙ ap (λ (other : Option ℕ). if bytes_eq (word_at words j) w then Some j else other) same

-- The number of the new word, if it is the first one with its mark, and if it is not.
by-itself : (words : List (List ℕ)) (word : List ℕ) (others : BTreeMap (Vec ℕ) (Option ℕ)) (n : ℕ) (o : Option ℕ) → n ≡ length words → o ≡ Some n → number_by (words ++ word ∷ []) others word o ≡ Some n
by-itself words word others n o at is =
    ap (number_by (words ++ word ∷ []) others word) is
    ∙ ap (λ (t : Bool). if t then Some n else other_at others word) (alike (word_at (words ++ word ∷ []) n) word (there words word n at))

by-others : (words : List (List ℕ)) (word : List ℕ) (others : BTreeMap (Vec ℕ) (Option ℕ)) (n j : ℕ) → j < length words → (word_at words j ≡ word → ⊥) → other_at others word ≡ Some n → number_by (words ++ word ∷ []) others word (Some j) ≡ Some n
by-others words word others n j h other is =
    ap (λ (t : Bool). if t then Some j else other_at others word) (unlike (word_at (words ++ word ∷ []) j) word (λ same. other (sym (before words word j h) ∙ same))) ∙ is

-- Each number is one of the old words or the new one's.
each-more : (words : List (List ℕ)) (word : List ℕ) (f : List ℕ → Option ℕ) (n : ℕ) → n ≡ length words → ((i : ℕ) → i < length words → f (word_at words i) ≡ Some i) → f word ≡ Some n → (i : ℕ) → i < length (words ++ word ∷ []) → f (word_at (words ++ word ∷ []) i) ≡ Some i
each-more words word f n at olds last i h =
    elim (cases_lt i (length words)) [
      | inl less ↦ ap f (before words word i less) ∙ olds i less
      | inr past ↦ at-last (let is : i ≡ length words = omega (arith, one_more words word, past, h) in is)
    ]
  where
    at-last : i ≡ length words → f (word_at (words ++ word ∷ []) i) ≡ Some i
    at-last is = ap f (there words word i is) ∙ last ∙ ap Some (at ∙ sym is)

-- The tables after a new word that is the first one with its mark.
module _ (words : List (List ℕ)) (word : List ℕ) (old new : BTreeMap ℕ (Option ℕ)) (others : BTreeMap (Vec ℕ) (Option ℕ)) (n : ℕ) (is : IsNumbering words old others) (at : n ≡ length words) (free : first_with old (mark_of word) ≡ None)
    (updates : (m : ℕ) → first_with new m ≡ cond (is_at (nat_cmp (mark_of word)) m) (Some n) (first_with old m)) where
  other-mark : (i : ℕ) → i < length words → is_at (nat_cmp (mark_of word)) (mark_of (word_at words i)) ≡ false
  other-mark i h =
      false_from_ne_true (is_at (nat_cmp (mark_of word)) (mark_of (word_at words i)))
      (λ yes.
      let same : mark_of word ≡ mark_of (word_at words i) = at-same (mark_of word) (mark_of (word_at words i)) yes in
      none-some i (sym (ap (number_by words others (word_at words i)) (ap (first_with old) (sym same) ∙ free)) ∙ is.found i h))

  first-kept : (i : ℕ) → i < length words → number_in (words ++ word ∷ []) new others (word_at words i) ≡ Some i
  first-kept i h =
      let w = word_at words i in
      ap (number_by (words ++ word ∷ []) others w) (updates (mark_of w) ∙ ap (λ (t : Bool). cond t (Some n) (first_with old (mark_of w))) (other-mark i h))
      ∙ by-more words word w others others (first_with old (mark_of w)) refl (λ j named. (is.firsts (mark_of w) j named).0)
      ∙ is.found i h

  first-held : (mark i : ℕ) (t : Bool) → is_at (nat_cmp (mark_of word)) mark ≡ t → cond t (Some n) (first_with old mark) ≡ Some i → (i < length (words ++ word ∷ [])) × (mark_of (word_at (words ++ word ∷ []) i) ≡ mark)
  first-held mark i true is_it named =
      let here : n ≡ i = some-same n i named in
      let place : i ≡ length words = sym here ∙ at in
      (omega (arith, one_more words word, place), ap mark_of (there words word i place) ∙ at-same (mark_of word) mark is_it)
  first-held mark i false not_it named = marked-more words word mark i (is.firsts mark i named)

  pub first-more : IsNumbering (words ++ word ∷ []) new others
  first-more =
      record {
        found = each-more words word (number_in (words ++ word ∷ []) new others) n at first-kept
            (by-itself words word others n (first_with new (mark_of word)) at (updates (mark_of word) ∙ ap (λ (t : Bool). cond t (Some n) (first_with old (mark_of word))) (at-itself (mark_of word))));
        firsts = λ mark i named. first-held mark i (is_at (nat_cmp (mark_of word)) mark) refl (sym (updates mark) ∙ named);
        others = λ w i named. held-more words word w i (is.others w i named);
      }

-- The tables after a new word whose mark an earlier word has.
module _ (words : List (List ℕ)) (word : List ℕ) (first : BTreeMap ℕ (Option ℕ)) (old new : BTreeMap (Vec ℕ) (Option ℕ)) (n j : ℕ) (is : IsNumbering words first old) (none : IsNumberOf words word None) (at : n ≡ length words)
    (taken : first_with first (mark_of word) ≡ Some j) (updates : (w : List ℕ) → other_at new w ≡ cond (bytes_eq word w) (Some n) (other_at old w)) where
  is-new : (i : ℕ) → i < length words → word_at words i ≡ word → ⊥
  is-new i h same = none-some i (none.found i h same)

  other-kept : (i : ℕ) → i < length words → number_in (words ++ word ∷ []) first new (word_at words i) ≡ Some i
  other-kept i h =
      let w = word_at words i in
      by-more words word w old new (first_with first (mark_of w))
      (updates w ∙ ap (λ (t : Bool). cond t (Some n) (other_at old w)) (unlike word w (λ same. is-new i h (sym same))))
      (λ k named. (is.firsts (mark_of w) k named).0)
      ∙ is.found i h

  other-held : (w : List ℕ) (i : ℕ) (t : Bool) → bytes_eq word w ≡ t → cond t (Some n) (other_at old w) ≡ Some i → (i < length (words ++ word ∷ [])) × (word_at (words ++ word ∷ []) i ≡ w)
  other-held w i true is_it named =
      let here : n ≡ i = some-same n i named in
      let place : i ≡ length words = sym here ∙ at in
      (omega (arith, one_more words word, place), there words word i place ∙ (bytes_eq-Decides word w).0 is_it)
  other-held w i false not_it named = held-more words word w i (is.others w i named)

  pub other-more : IsNumbering (words ++ word ∷ []) first new
  other-more =
      let within : j < length words = (is.firsts (mark_of word) j taken).0 in
      record {
        found = each-more words word (number_in (words ++ word ∷ []) first new) n at other-kept
            (ap (number_by (words ++ word ∷ []) new word) taken
            ∙ by-others words word new n j within (is-new j within) (updates word ∙ ap (λ (t : Bool). cond t (Some n) (other_at old word)) (alike word word refl)));
        firsts = λ mark i named. marked-more words word mark i (is.firsts mark i named);
        others = λ w i named. other-held w i (bytes_eq word w) refl (sym (updates w) ∙ named);
      }

-- Tables that give the same are of the same words.
pub numbering-same : (words : List (List ℕ)) (first firsts : BTreeMap ℕ (Option ℕ)) (other others : BTreeMap (Vec ℕ) (Option ℕ)) → IsNumbering words first other → ((m : ℕ) → first_with firsts m ≡ first_with first m)
    → ((w : List ℕ) → other_at others w ≡ other_at other w) → IsNumbering words firsts others
numbering-same words first firsts other others is one two =
    record {
      found = λ i h.
          let w = word_at words i in
          ap (number_by words others w) (one (mark_of w)) ∙ by-same w (first_with first (mark_of w)) ∙ is.found i h;
      firsts = λ mark i named. is.firsts mark i (sym (one mark) ∙ named);
      others = λ w i named. is.others w i (sym (two w) ∙ named);
    }
  where
    by-same : (w : List ℕ) (o : Option ℕ) → number_by words others w o ≡ number_by words other w o
    by-same w None = refl
    by-same w (Some j) = ap (λ (o : Option ℕ). if bytes_eq (word_at words j) w then Some j else o) (two w)

-- A table by bytes.
abbrev pub key_cmp : Vec ℕ → Vec ℕ → Ordering
key_cmp a b = slice_cmp nat_cmp a.items b.items

found_in : (w : List ℕ) (key : Vec ℕ) → is_at (looks w) key ≡ true → w ≡ key.items
found_in w key h = (bytes_eq-Decides w key.items).0 (sym (is_eq-slice_cmp w key.items) ∙ h)

is_key_test : (w : List ℕ) → IsKeyTest (eq_by_cmp key_cmp) (is_at (looks w))
is_key_test w x y h = ap (λ (b : List ℕ). is_eq (slice_cmp nat_cmp b y.items)) (found_in w x h)

are_apart : (text w : List ℕ) → bytes_eq text w ≡ false → AreApart (is_at (looks text)) (is_at (looks w))
are_apart text w other x h =
    false_from_ne_true (is_at (looks w) x)
    (λ found.
    let yes : bytes_eq text w ≡ true = alike text w (found_in text x h ∙ sym (found_in w x found)) in
    let wrong : true ≡ false = sym yes ∙ other in cc)

module _ {X : Type 0} where
  kept : (old new : BTreeMap (Vec ℕ) X) (text : List ℕ) (v : Option X) → UpdatesBy key_cmp (looks text) old new v → (w : List ℕ) → bytes_eq text w ≡ false → get_by (looks w) new ≡ get_by (looks w) old
  unfolding KeepsOthers
  kept old new text v updates w other = updates.3 (is_at (looks w)) (is_key_test w) (are_apart text w other)

  -- What a table has at bytes after a change at some.
  pub updated : (old new : BTreeMap (Vec ℕ) X) (text : List ℕ) (v : Option X) → UpdatesBy key_cmp (looks text) old new v → (w : List ℕ) → get_by (looks w) new ≡ cond (bytes_eq text w) v (get_by (looks w) old)
  updated old new text v updates w = go (bytes_eq text w) refl
    where
      go : (b : Bool) → bytes_eq text w ≡ b → get_by (looks w) new ≡ cond b v (get_by (looks w) old)
      go true same = subst (λ (x : List ℕ). get_by (looks x) new ≡ v) ((bytes_eq-Decides text w).0 same) updates.1
      go false other = kept old new text v updates w other

pub has-none : {X : Type 0} (o : Option X) (t : Bool) → t ≡ is_some o → t ≡ false → o ≡ None
has-none None t is no_key = refl
has-none (Some x) t is no_key = absurd (let wrong : true ≡ false = sym is ∙ no_key in cc)

-- A key that had nothing gets nothing, or a number.
pub held-none : (old new : BTreeMap (Vec ℕ) (Option ℕ)) (key : Vec ℕ) (text : List ℕ) → key.items ≡ text → get_by (looks text) old ≡ None → UpdatesBy key_cmp (looks key.items) old new (Some None) → (w : List ℕ) → other_at new w ≡ other_at old w
held-none old new key text is free updates w =
    ap given (updated old new key.items (Some None) updates w)
    ∙ go (bytes_eq key.items w) refl
  where
    go : (b : Bool) → bytes_eq key.items w ≡ b → given (cond b (Some None) (get_by (looks w) old)) ≡ given (get_by (looks w) old)
    go true same = sym (ap given (ap (λ (x : List ℕ). get_by (looks x) old) (sym ((bytes_eq-Decides key.items w).0 same) ∙ is) ∙ free))
    go false other = refl

pub set-some : (old new : BTreeMap (Vec ℕ) (Option ℕ)) (text : List ℕ) (n : ℕ) → UpdatesBy key_cmp (looks text) old new (Some (Some n)) → (w : List ℕ) → other_at new w ≡ cond (bytes_eq text w) (Some n) (other_at old w)
set-some old new text n updates w = ap given (updated old new text (Some (Some n)) updates w) ∙ go (bytes_eq text w)
  where
    go : (b : Bool) → given (cond b (Some (Some n)) (get_by (looks w) old)) ≡ cond b (Some n) (given (get_by (looks w) old))
    go true = refl
    go false = refl

-- The tables after a call that adds a word or fails.
pub added-first : {T E : Type 0} (r : Result T E) (words later : List (List ℕ)) (word : List ℕ) (mark : ℕ) (old new : BTreeMap ℕ (Option ℕ)) (others : BTreeMap (Vec ℕ) (Option ℕ)) → IsNumbering words old others → mark ≡ mark_of word → first_with old mark ≡ None
    → OnOk r (later ≡ words ++ word ∷ []) → OnErr r (later ≡ words) → OnOk r ((m : ℕ) → first_with new m ≡ cond (is_at (nat_cmp mark) m) (Some (length words)) (first_with old m))
    → OnErr r ((m : ℕ) → first_with new m ≡ first_with old m) → IsNumbering later new others
added-first (Ok x) words later word mark old new others is marked free added err set same =
    subst (λ (ws : List (List ℕ)). IsNumbering ws new others) (sym added)
    (first-more words word old new others (length words) is refl (ap (first_with old) (sym marked) ∙ free)
    (λ m. set m ∙ ap (λ (k : ℕ). cond (is_at (nat_cmp k) m) (Some (length words)) (first_with old m)) marked))
added-first (Err e) words later word mark old new others is marked free added err set same =
    subst (λ (ws : List (List ℕ)). IsNumbering ws new others) (sym err) (numbering-same words old new others others is same (λ w. refl))

pub added-other : {T E : Type 0} (r : Result T E) (words later : List (List ℕ)) (word : List ℕ) (mark j : ℕ) (first : BTreeMap ℕ (Option ℕ)) (old new : BTreeMap (Vec ℕ) (Option ℕ)) → IsNumbering words first old → IsNumberOf words word None → mark ≡ mark_of word
    → first_with first mark ≡ Some j → OnOk r (later ≡ words ++ word ∷ []) → OnErr r (later ≡ words) → OnOk r ((w : List ℕ) → other_at new w ≡ cond (bytes_eq word w) (Some (length words)) (other_at old w))
    → OnErr r ((w : List ℕ) → other_at new w ≡ other_at old w) → IsNumbering later first new
added-other (Ok x) words later word mark j first old new is none marked taken added err set same =
    subst (λ (ws : List (List ℕ)). IsNumbering ws first new) (sym added)
    (other-more words word first old new (length words) j is none refl (ap (first_with first) (sym marked) ∙ taken) set)
added-other (Err e) words later word mark j first old new is none marked taken added err set same =
    subst (λ (ws : List (List ℕ)). IsNumbering ws first new) (sym err) (numbering-same words first first old new is (λ m. refl) same)

-- What a look-up finds in each of its ways.
pub known-by : (words : List (List ℕ)) (first : BTreeMap ℕ (Option ℕ)) (others : BTreeMap (Vec ℕ) (Option ℕ)) (word : List ℕ) (mark : ℕ) (r o : Option ℕ) → IsNumbering words first others → mark ≡ mark_of word → r ≡ first_with first mark → number_by words others word r ≡ o → IsNumberOf words word o
known-by words first others word mark r o is marked looked by =
    subst (IsNumberOf words word) (ap (number_by words others word) (ap (first_with first) (sym marked) ∙ sym looked) ∙ by) (numbers-each words first others is word)

pub by-first : (words : List (List ℕ)) (others : BTreeMap (Vec ℕ) (Option ℕ)) (word : List ℕ) (r : Option ℕ) (i : ℕ) (t : Bool) → r ≡ Some i → bytes_eq (word_at words i) word ≡ t → number_by words others word r ≡ (if t then Some i else other_at others word)
by-first words others word r i t is test = ap (number_by words others word) is ∙ ap (λ (b : Bool). if b then Some i else other_at others word) test
