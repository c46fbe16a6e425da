-- What a line announces that stands in two slices.
use Rattle.std.proofs.Common.{◌≡◌, ◌≤◌, ◌<◌, ◌+◌, ◌-◌, ◌*◌, ◌&&◌, ℕ, zero, suc, min, List, [], ◌∷◌, ◌++◌, length, take, drop, get_or, eqb, ltb, Option, Some, None, Bool, true, false, refl, sym, ap, subst, ◌∙◌, arith, length-append, drop-cons}
use Rattle.std.specs.Prelude.{if◌then◌else◌}
use Rattle.std.proofs.lemmas.Bool.{eqb-false, eq-eqb, ne_eqb, lt-ltb, ltb-true, ltb-false}
use Rattle.std.proofs.Math.Seq.{get_or-append_right, take-append-add}
use Rattle.std.specs.List.{list_all}
use Rattle.std.proofs.lemmas.List.Folds.{list_all-append}
use Rattle.arch_base.specs.Decimals.{read_on}
use Rattle.arch_base.proofs.Digits.{le-read_on}
use Rattle.line_door.specs.Lines.{content}
use Rattle.imap_framer.specs.Framing.{later_brace, after_brace, before_last, is_digit, value_of}
use Rattle.imap_framer.specs.Scanning.{capped}

-- The last brace.

-- A text with more octets after it, if there is one.
abbrev pub with_more : List ℕ → Option (List ℕ) → Option (List ℕ)
with_more more None = None
with_more more (Some text) = Some (text ++ more)

pub after_brace-append_some : (xs ys text : List ℕ) → after_brace ys ≡ Some text → after_brace (xs ++ ys) ≡ Some text
after_brace-append_some [] ys text e = e
after_brace-append_some (x ∷ xs) ys text e = ap (later_brace x (xs ++ ys)) (after_brace-append_some xs ys text e)

later-more : (x : ℕ) (xs ys : List ℕ) (o : Option (List ℕ)) → later_brace x (xs ++ ys) (with_more ys o) ≡ with_more ys (later_brace x xs o)
later-more x xs ys (Some text) = refl
later-more x xs ys None = by (eqb x 123)
  where
    by : (t : Bool) → (if t then Some (xs ++ ys) else None) ≡ with_more ys (if t then Some xs else None)
    by true = refl
    by false = refl

pub after_brace-append_none : (xs ys : List ℕ) → after_brace ys ≡ None → after_brace (xs ++ ys) ≡ with_more ys (after_brace xs)
after_brace-append_none [] ys e = e
after_brace-append_none (x ∷ xs) ys e = ap (later_brace x (xs ++ ys)) (after_brace-append_none xs ys e) ∙ later-more x xs ys (after_brace xs)

pub after_brace-none : (xs : List ℕ) → ((k : ℕ) → k < length xs → get_or xs k 0 ≡ 123 → ⊥) → after_brace xs ≡ None
after_brace-none [] none = refl
after_brace-none (x ∷ xs) none =
    ap (later_brace x xs) (after_brace-none xs (λ k l e. none (suc k) (omega arith) e))
    ∙ ap (λ (t : Bool). if t then Some xs else None) (ne_eqb x 123 (none 0 (omega arith)))

pub after_brace-at : (xs : List ℕ) (n : ℕ) → n < length xs → get_or xs n 0 ≡ 123 → ((k : ℕ) → n < k → k < length xs → get_or xs k 0 ≡ 123 → ⊥) → after_brace xs ≡ Some (drop (suc n) xs)
after_brace-at [] n l is later = absurd (omega arith)
after_brace-at (x ∷ xs) zero l is later =
    ap (later_brace x xs) (after_brace-none xs (λ k l e. later (suc k) (omega arith) (omega arith) e))
    ∙ ap (λ (t : Bool). if t then Some xs else None) (eq-eqb x 123 is)
after_brace-at (x ∷ xs) (suc n) l is later =
    ap (later_brace x xs) (after_brace-at xs n (omega arith) is (λ k m l e. later (suc k) (omega arith) (omega arith) e))

-- The last octet.

-- The first `n` octets, if `octet` comes after them.
abbrev cut_at : ℕ → ℕ → List ℕ → Option (List ℕ)
cut_at octet n text = if eqb (get_or text n 0) octet then Some (take n text) else None

-- A text with more octets before it, if there is one.
abbrev pub after : List ℕ → Option (List ℕ) → Option (List ℕ)
after more None = None
after more (Some text) = Some (more ++ text)

pub before_last-append : (octet : ℕ) (xs : List ℕ) (y : ℕ) (ys : List ℕ) → before_last octet (xs ++ y ∷ ys) ≡ after xs (before_last octet (y ∷ ys))
before_last-append octet xs y ys =
    ap (λ (n : ℕ). cut_at octet n (xs ++ y ∷ ys)) (omega (arith, length-append xs (y ∷ ys)))
    ∙ ap (λ (b : ℕ). if eqb b octet then Some (take (length xs + length ys) (xs ++ y ∷ ys)) else None) here
    ∙ ap (λ (text : List ℕ). if eqb (get_or (y ∷ ys) (length ys) 0) octet then Some text else None) (take-append-add xs (y ∷ ys) (length ys))
    ∙ by (eqb (get_or (y ∷ ys) (length ys) 0) octet)
    ∙ ap (λ (n : ℕ). after xs (cut_at octet n (y ∷ ys))) (omega arith)
  where
    here : get_or (xs ++ y ∷ ys) (length xs + length ys) 0 ≡ get_or (y ∷ ys) (length ys) 0
    here = get_or-append_right xs (y ∷ ys) (length xs + length ys) 0 (omega arith) ∙ ap (λ (n : ℕ). get_or (y ∷ ys) n 0) (omega arith)

    by : (t : Bool) → (if t then Some (xs ++ take (length ys) (y ∷ ys)) else None) ≡ after xs (if t then Some (take (length ys) (y ∷ ys)) else None)
    by true = refl
    by false = refl

-- The same where the second list isn't empty.
pub before_last-join : (octet : ℕ) (xs ys : List ℕ) → 0 < length ys → before_last octet (xs ++ ys) ≡ after xs (before_last octet ys)
before_last-join octet xs [] some = absurd (omega arith)
before_last-join octet xs (y ∷ ys) some = before_last-append octet xs y ys

-- A line, or the text before its last octet.
abbrev cut_or : List ℕ → Option (List ℕ) → List ℕ
cut_or line None = line
cut_or line (Some text) = text

-- The content of a line by the text before a carriage return.
pub content_by : (line : List ℕ) (o : Option (List ℕ)) → before_last 13 line ≡ o → content line ≡ cut_or line o
content_by line o e = by (eqb (get_or line (length line - 1) 0) 13) ∙ ap (cut_or line) e
  where
    by : (t : Bool) → (if t then take (length line - 1) line else line) ≡ cut_or line (if t then Some (take (length line - 1) line) else None)
    by true = refl
    by false = refl

-- Values.

pub read_on-append : (n : ℕ) (xs ys : List ℕ) → read_on n (xs ++ ys) ≡ read_on (read_on n xs) ys
read_on-append n [] ys = refl
read_on-append n (x ∷ xs) ys = read_on-append (10 * n + (x - 48)) xs ys

-- A value that is cut down to a cap reads on as the whole one would.
pub read_on-capped : (n cap : ℕ) (ds : List ℕ) → min (read_on (min n cap) ds) cap ≡ min (read_on n ds) cap
read_on-capped n cap ds = by (ltb cap n) refl
  where
    by : (t : Bool) → ltb cap n ≡ t → min (read_on (min n cap) ds) cap ≡ min (read_on n ds) cap
    by true e =
        let l : cap < n = ltb-true cap n e in
        let is : read_on (min n cap) ds ≡ read_on cap ds = ap (λ (m : ℕ). read_on m ds) (omega arith) in
        omega (arith, le-read_on cap ds, le-read_on n ds)
    by false e =
        let l : n ≤ cap = ltb-false cap n e in
        ap (λ (m : ℕ). min (read_on m ds) cap) (omega arith)

-- One more digit.
pub capped-step : (v i cap all : ℕ) (ds : List ℕ) → i < length ds → min (read_on v (drop i ds)) cap ≡ all →
    min (read_on (min (10 * v + (get_or ds i 0 - 48)) cap) (drop (suc i) ds)) cap ≡ all
capped-step v i cap all ds l e =
    read_on-capped (10 * v + (get_or ds i 0 - 48)) cap (drop (suc i) ds)
    ∙ sym (ap (λ (xs : List ℕ). min (read_on v xs) cap) (drop-cons ds i 0 l))
    ∙ e

-- The value of two texts.
pub capped-two : (cap : ℕ) (xs ys : List ℕ) → min (read_on (min (read_on 0 xs) cap) ys) cap ≡ min (read_on 0 (xs ++ ys)) cap
capped-two cap xs ys = read_on-capped (read_on 0 xs) cap ys ∙ sym (ap (λ (n : ℕ). min n cap) (read_on-append 0 xs ys))

-- The value of two texts of digits, not both empty, read up to a cap.
pub value-in : (cap value : ℕ) (xs ys : List ℕ) → false ≡ eqb (length (xs ++ ys)) 0 → true ≡ list_all is_digit xs → true ≡ list_all is_digit ys → value ≡ min (read_on (min (read_on 0 xs) cap) ys) cap
    → Some value ≡ capped cap (value_of (Some (xs ++ ys)))
value-in cap value xs ys some front back is =
    let nonzero : length (xs ++ ys) ≡ 0 → ⊥ = eqb-false (length (xs ++ ys)) 0 (sym some) in
    let long : 0 < length (xs ++ ys) = omega (arith, nonzero) in
    let digits : list_all is_digit (xs ++ ys) ≡ true = list_all-append is_digit xs ys ∙ (λ i. (sym front) i && (sym back) i) in
    ap Some (is ∙ capped-two cap xs ys)
    ∙ sym (ap (capped cap) (ap (λ (t : Bool). if t && list_all is_digit (xs ++ ys) then Some (read_on 0 (xs ++ ys)) else None) (lt-ltb 0 (length (xs ++ ys)) long)
    ∙ ap (λ (t : Bool). if t then Some (read_on 0 (xs ++ ys)) else None) digits))
