-- A line announces exactly the number that is spelled at its end.
use Rattle.std.proofs.Common.{◌≡◌, ◌≤◌, ◌<◌, ◌+◌, ◌-◌, ◌⊎◌, ◌&&◌, ℕ, zero, suc, List, [], ◌∷◌, ◌++◌, length, take, drop, get_or, eqb, ltb, leb, Option, Some, None, Bool, true, false, inl, inr, refl, sym, ap, subst, ◌∙◌, arith, length-append, append_assoc, eqb-true, eq-eqb, ne_eqb, lt-ltb, ltb-true, leb-true}
use Rattle.std.specs.Prelude.{if◌then◌else◌}
use Rattle.std.specs.List.{list_all}
use Rattle.std.proofs.lemmas.List.{append-nil}
use Rattle.std.proofs.Math.Seq.{split_at, drop-length}
use Rattle.arch_base.specs.Decimals.{read_on}
use Rattle.line_door.specs.Lines.{content}
use Rattle.line_door.proofs.Fronts.{line_law}
use Rattle.imap_framer.specs.Framing.{later_brace, after_brace, before_last, is_digit, value_of, number_after, announced}
use Rattle.imap_framer.specs.FrontLaws.{IsAnnouncement}
use Rattle.imap_framer.proofs.Numbers.{after_brace-append_some, before_last-append, content_by}

-- What is announced is spelled.

-- The text after a brace, in the line.
abbrev Braced : List ℕ → List ℕ → Type 0
Braced xs text = (before : List ℕ) × (xs ≡ before ++ 123 ∷ text)

brace-here : (x : ℕ) (xs text : List ℕ) (t : Bool) → eqb x 123 ≡ t → (if t then Some xs else None) ≡ Some text → Braced (x ∷ xs) text
brace-here x xs text true t e =
    let is : xs ≡ text = cc in
    let brace : x ≡ 123 = eqb-true x 123 t in
    ([], λ i. brace i ∷ is i)
brace-here x xs text false t e = absurd (cc)

brace-at : (x : ℕ) (xs text : List ℕ) (o : Option (List ℕ)) → (o ≡ Some text → Braced xs text) → later_brace x xs o ≡ Some text → Braced (x ∷ xs) text
brace-at x xs text None more e = brace-here x xs text (eqb x 123) refl e
brace-at x xs text (Some found) more e = let inner = more e in (x ∷ inner.0, ap (λ (ys : List ℕ). x ∷ ys) inner.1)

brace-joined : (xs text : List ℕ) → after_brace xs ≡ Some text → Braced xs text
brace-joined [] text e = absurd (cc)
brace-joined (x ∷ xs) text e = brace-at x xs text (after_brace xs) (brace-joined xs text) e

-- The text before an octet at the end, which isn't 0.
last-joined : (octet : ℕ) (text before : List ℕ) → 0 < octet → before_last octet text ≡ Some before → text ≡ before ++ octet ∷ []
last-joined octet text before some e = by (eqb (get_or text (length text - 1) 0) octet) refl e
  where
    whole : (xs : List ℕ) → get_or xs (length xs - 1) 0 ≡ octet → xs ≡ take (length xs - 1) xs ++ octet ∷ []
    whole [] is = absurd (omega (arith, is))
    whole (x ∷ xs) is =
        let count : suc (length (x ∷ xs) - 1) ≡ length (x ∷ xs) = omega arith in
        let past : drop (suc (length (x ∷ xs) - 1)) (x ∷ xs) ≡ [] = ap (λ (k : ℕ). drop k (x ∷ xs)) count ∙ drop-length (x ∷ xs) in
        split_at (x ∷ xs) (length (x ∷ xs) - 1) 0 (omega arith)
        ∙ ap (λ (b : ℕ). take (length (x ∷ xs) - 1) (x ∷ xs) ++ b ∷ drop (suc (length (x ∷ xs) - 1)) (x ∷ xs)) is
        ∙ ap (λ (ys : List ℕ). take (length (x ∷ xs) - 1) (x ∷ xs) ++ octet ∷ ys) past

    by : (t : Bool) → eqb (get_or text (length text - 1) 0) octet ≡ t → (if t then Some (take (length text - 1) text) else None) ≡ Some before → text ≡ before ++ octet ∷ []
    by true t e =
        let is : take (length text - 1) text ≡ before = cc in
        whole text (eqb-true (get_or text (length text - 1) 0) octet t) ∙ ap (λ (xs : List ℕ). xs ++ octet ∷ []) is
    by false t e = absurd (cc)

-- What is dropped at the end of a line.
abbrev Returned : List ℕ → Type 0
Returned ending = (ending ≡ []) ⊎ (ending ≡ 13 ∷ [])

content-joined : (line : List ℕ) → (ending : List ℕ) × Returned ending × (line ≡ content line ++ ending)
content-joined line = by (before_last 13 line) refl
  where
    by : (o : Option (List ℕ)) → before_last 13 line ≡ o → (ending : List ℕ) × Returned ending × (line ≡ content line ++ ending)
    by None e = ([], inl refl, sym (append-nil line) ∙ ap (λ (xs : List ℕ). xs ++ []) (sym (content_by line None e)))
    by (Some text) e = (13 ∷ [], inr refl, last-joined 13 line text (omega arith) e ∙ ap (λ (xs : List ℕ). xs ++ 13 ∷ []) (sym (content_by line (Some text) e)))

both : (a b : Bool) → (a && b) ≡ true → (a ≡ true) × (b ≡ true)
both true b e = (refl, e)
both false b e = absurd (cc)

-- The digits of a number.
record HasDigits (n : ℕ) (digits : List ℕ) : Type 0 where
  some : 0 < length digits
  are : list_all is_digit digits ≡ true
  value : n ≡ read_on 0 digits

value-is : (n : ℕ) (digits : List ℕ) → value_of (Some digits) ≡ Some n → HasDigits n digits
value-is n digits e = by (ltb 0 (length digits) && list_all is_digit digits) refl e
  where
    by : (t : Bool) → (ltb 0 (length digits) && list_all is_digit digits) ≡ t → (if t then Some (read_on 0 digits) else None) ≡ Some n → HasDigits n digits
    by true t e =
        let parts = both (ltb 0 (length digits)) (list_all is_digit digits) t in
        record { some = ltb-true 0 (length digits) parts.0; are = parts.1; value = cc }
    by false t e = absurd (cc)

value-from : (digits : List ℕ) → 0 < length digits → list_all is_digit digits ≡ true → value_of (Some digits) ≡ Some (read_on 0 digits)
value-from digits some are =
    ap (λ (t : Bool). if t && list_all is_digit digits then Some (read_on 0 digits) else None) (lt-ltb 0 (length digits) some)
    ∙ ap (λ (t : Bool). if t then Some (read_on 0 digits) else None) are

pub announces-is : (line : List ℕ) (n : ℕ) → announced line ≡ Some n → IsAnnouncement line n
announces-is line n e = by (after_brace (content line)) refl e
  where
    ended : (text : List ℕ) (o : Option (List ℕ)) → after_brace (content line) ≡ Some text → before_last 125 text ≡ o → value_of o ≡ Some n → IsAnnouncement line n
    ended text None is last e = absurd (cc)
    ended text (Some digits) is last e =
        let has = value-is n digits e in
        let head = brace-joined (content line) text is in
        let end = content-joined line in
        let tail : text ≡ digits ++ 125 ∷ [] = last-joined 125 text digits (omega arith) last in
        record {
          before = head.0;
          digits = digits;
          ending = end.0;
          some = has.some;
          are_digits = has.are;
          value = has.value;
          ends = end.1;
          spelled =
              end.2
              ∙ ap (λ (xs : List ℕ). xs ++ end.0) (head.1 ∙ ap (λ (xs : List ℕ). head.0 ++ 123 ∷ xs) tail)
              ∙ append_assoc head.0 (123 ∷ (digits ++ 125 ∷ [])) end.0
              ∙ ap (λ (xs : List ℕ). head.0 ++ 123 ∷ xs) (append_assoc digits (125 ∷ []) end.0);
        }

    by : (o : Option (List ℕ)) → after_brace (content line) ≡ o → number_after o ≡ Some n → IsAnnouncement line n
    by None is e = absurd (cc)
    by (Some text) is e = ended text (before_last 125 text) is refl e

-- What is spelled is announced.

digit-no_brace : (d : ℕ) → is_digit d ≡ true → eqb d 123 ≡ false
digit-no_brace d e =
    let l : d ≤ 57 = leb-true d 57 (both (leb 48 d) (leb d 57) e).1 in
    ne_eqb d 123 (λ is. omega (arith, l, is))

digits-no_brace : (digits : List ℕ) → list_all is_digit digits ≡ true → after_brace (digits ++ 125 ∷ []) ≡ None
digits-no_brace [] e = refl
digits-no_brace (d ∷ ds) e =
    let parts = both (is_digit d) (list_all is_digit ds) e in
    ap (later_brace d (ds ++ 125 ∷ [])) (digits-no_brace ds parts.1)
    ∙ ap (λ (t : Bool). if t then Some (ds ++ 125 ∷ []) else None) (digit-no_brace d parts.0)

-- The line before a carriage return.
abbrev body : List ℕ → List ℕ → List ℕ
body before digits = before ++ 123 ∷ (digits ++ 125 ∷ [])

body-number : (before digits : List ℕ) → 0 < length digits → list_all is_digit digits ≡ true → number_after (after_brace (body before digits)) ≡ Some (read_on 0 digits)
body-number before digits some are =
    ap number_after (after_brace-append_some before (123 ∷ (digits ++ 125 ∷ [])) (digits ++ 125 ∷ []) (ap (later_brace 123 (digits ++ 125 ∷ [])) (digits-no_brace digits are)))
    ∙ ap value_of (before_last-append 125 digits 125 [] ∙ ap Some (append-nil digits))
    ∙ value-from digits some are

-- The end of the body, apart.
body-end : (before digits : List ℕ) → body before digits ≡ (before ++ 123 ∷ digits) ++ 125 ∷ []
body-end before digits = sym (append_assoc before (123 ∷ digits) (125 ∷ []))

body-content : (before digits ending : List ℕ) → Returned ending → content (before ++ 123 ∷ (digits ++ 125 ∷ ending)) ≡ body before digits
body-content before digits ending (inl e) =
    ap (λ (xs : List ℕ). content (before ++ 123 ∷ (digits ++ 125 ∷ xs))) e
    ∙ ap content (body-end before digits)
    ∙ line_law.content_kept (before ++ 123 ∷ digits) 125 (λ is. omega (arith, is))
    ∙ sym (body-end before digits)
body-content before digits ending (inr e) =
    ap (λ (xs : List ℕ). content (before ++ 123 ∷ (digits ++ 125 ∷ xs))) e
    ∙ ap content (sym (append_assoc before (123 ∷ (digits ++ 125 ∷ [])) (13 ∷ []) ∙ ap (λ (xs : List ℕ). before ++ 123 ∷ xs) (append_assoc digits (125 ∷ []) (13 ∷ []))))
    ∙ line_law.content_cut (body before digits)

pub announces-from : (line : List ℕ) (n : ℕ) → IsAnnouncement line n → announced line ≡ Some n
announces-from line n is =
    ap announced is.spelled
    ∙ ap (λ (xs : List ℕ). number_after (after_brace xs)) (body-content is.before is.digits is.ending is.ends)
    ∙ body-number is.before is.digits is.some is.are_digits
    ∙ ap Some (sym is.value)
