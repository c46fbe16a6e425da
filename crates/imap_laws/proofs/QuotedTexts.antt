-- Texts in quotes: what is spelled is read, and what is read is spelled.
use Rattle.std.proofs.Common.{◌≡◌, ℕ, Bool, true, false, not, ◌&&◌, ◌||◌, ◌==◌, nat_lt, List, [], ◌∷◌, ◌++◌, Option, Some, None, if◌then◌else◌, refl, sym, ap, subst, ◌∙◌, append_assoc, eqb-true, arith}
use Rattle.std.specs.List.{list_all}
use Rattle.std.proofs.lemmas.Bool.Decides.{nat_tests}
use Rattle.imap_words.specs.Reading.{◌>>=◌}
use Rattle.imap_words.specs.Strings.{put_first, quoted_by, quoted_from, quoted_at}
use Rattle.imap_words.specs.declared.strings.Quoting.TheVariants as quoting
use Rattle.imap_laws.specs.Spelling.{is_quoted_octet, escaped, SpellsQuoted, BeginsQuoted}

-- An octet of a text, as it is spelled, before a text that is read.
read-step : (q s w : Bool) (b : ℕ) (e tail text rest : List ℕ) → not w ≡ true
    → quoted_from false (e ++ tail) ≡ Some (text, rest)
    → (q || s ≡ true → quoted_from true (b ∷ (e ++ tail)) ≡ put_first b (quoted_from false (e ++ tail)))
    → (q ≡ false → s ≡ false → w ≡ false → quoted_from false (b ∷ (e ++ tail)) ≡ put_first b (quoted_from false (e ++ tail)))
    → quoted_from false ((if q || s then 92 ∷ b ∷ e else b ∷ e) ++ tail) ≡ Some (b ∷ text, rest)
read-step true s w b e tail text rest ok ih special plain = special refl ∙ ap (put_first b) ih
read-step false true w b e tail text rest ok ih special plain = special refl ∙ ap (put_first b) ih
read-step false false true b e tail text rest ok ih special plain = cc
read-step false false false b e tail text rest ok ih special plain = plain refl refl refl ∙ ap (put_first b) ih

-- A special octet after a backslash.
read-special : (b : ℕ) (xs : List ℕ) → (b == 34) || (b == 92) ≡ true
    → quoted_from true (b ∷ xs) ≡ put_first b (quoted_from false xs)
read-special b xs is = rw is refl

-- Any other octet of a text.
read-plain : (b : ℕ) (xs : List ℕ) → (b == 34) ≡ false → (b == 92) ≡ false
    → (b == 0 || b == 10 || b == 13 || nat_lt 127 b) ≡ false
    → quoted_from false (b ∷ xs) ≡ put_first b (quoted_from false xs)
read-plain b xs q s w = rw q (rw s (rw w refl))

-- Both of two tests are passed.
and-left : (x y : Bool) → x && y ≡ true → x ≡ true
and-left true y h = refl
and-left false y h = h

and-right : (x y : Bool) → x && y ≡ true → y ≡ true
and-right true y h = h
and-right false y h = cc

-- What is spelled is read.
pub read_inside : (text rest : List ℕ) → list_all is_quoted_octet text ≡ true
    → quoted_from false (escaped text ++ 34 ∷ rest) ≡ Some (text, rest)
read_inside [] rest ok = refl
read_inside (b ∷ bs) rest ok =
    read-step (b == 34) (b == 92) (b == 0 || b == 10 || b == 13 || nat_lt 127 b) b (escaped bs) (34 ∷ rest) bs rest
    (and-left (is_quoted_octet b) (list_all is_quoted_octet bs) ok)
    (read_inside bs rest (and-right (is_quoted_octet b) (list_all is_quoted_octet bs) ok))
    (read-special b (escaped bs ++ 34 ∷ rest)) (read-plain b (escaped bs ++ 34 ∷ rest))

-- What a text in quotes is from some octets on, after a backslash or not: these octets spell it.
abbrev pub Spelled : Bool → List ℕ → List ℕ → List ℕ → Type 0
Spelled false octets text rest = (octets ≡ escaped text ++ 34 ∷ rest) × (list_all is_quoted_octet text ≡ true)
Spelled true octets text rest = (92 ∷ octets ≡ escaped text ++ 34 ∷ rest) × (list_all is_quoted_octet text ≡ true)

-- A text that is read with an octet at its front is that octet and a text that is read.
put-some : (b : ℕ) (read : Option (List ℕ × List ℕ)) (text rest : List ℕ) → put_first b read ≡ Some (text, rest)
    → (more : List ℕ) × (read ≡ Some (more, rest)) × (text ≡ b ∷ more)
put-some b None text rest h = cc
put-some b (Some p) text rest h =
    let e : (b ∷ p.0, p.1) ≡ (text, rest) = cc in
    (p.0, ap (λ (r : List ℕ × List ℕ). Some (p.0, r.1)) e, sym (ap (λ (r : List ℕ × List ℕ). r.0) e))

-- The octets that spell a text with an octet at its front.
plain-spelled : (b : ℕ) (bs text rest more : List ℕ) → (b == 34) ≡ false → (b == 92) ≡ false
    → (b == 0 || b == 10 || b == 13 || nat_lt 127 b) ≡ false
    → text ≡ b ∷ more → Spelled false bs more rest → Spelled false (b ∷ bs) text rest
plain-spelled b bs text rest more q s w is h =
    let e : escaped (b ∷ more) ++ 34 ∷ rest ≡ b ∷ (escaped more ++ 34 ∷ rest) = rw q (rw s refl) in
    let ok : list_all is_quoted_octet (b ∷ more) ≡ true = rw w h.1 in
    (ap (λ l. b ∷ l) h.0 ∙ (sym e ∙ ap (λ t. escaped t ++ 34 ∷ rest) (sym is)), ap (list_all is_quoted_octet) is ∙ ok)

-- The same of a quote or a backslash.
special-spelled : (b : ℕ) (bs text rest more : List ℕ) → (b == 34) || (b == 92) ≡ true
    → (b == 0 || b == 10 || b == 13 || nat_lt 127 b) ≡ false
    → text ≡ b ∷ more → Spelled false bs more rest → Spelled true (b ∷ bs) text rest
special-spelled b bs text rest more t w is h =
    let e : escaped (b ∷ more) ++ 34 ∷ rest ≡ 92 ∷ b ∷ (escaped more ++ 34 ∷ rest) = rw t refl in
    let ok : list_all is_quoted_octet (b ∷ more) ≡ true = rw w h.1 in
    (ap (λ l. 92 ∷ b ∷ l) h.0 ∙ (sym e ∙ ap (λ t. escaped t ++ 34 ∷ rest) (sym is)), ap (list_all is_quoted_octet) is ∙ ok)

-- A quote or a backslash may stand in a text.
special-octet : (b : ℕ) → (b == 34) || (b == 92) ≡ true → (b == 0 || b == 10 || b == 13 || nat_lt 127 b) ≡ false
special-octet b h = grind (arith, nat_tests)

-- What is read after a backslash.
special-step : (t : Bool) (b : ℕ) (bs text rest : List ℕ) → (b == 34) || (b == 92) ≡ t
    → ((more : List ℕ) → quoted_from false bs ≡ Some (more, rest) → Spelled false bs more rest)
    → quoted_by (if t then quoting.Text else quoting.Wrong) b bs (λ behind. quoted_from behind bs) ≡ Some (text, rest)
    → Spelled true (b ∷ bs) text rest
special-step true b bs text rest t ih h =
    let p = put-some b (quoted_from false bs) text rest h in
    special-spelled b bs text rest p.0 t (special-octet b t) p.2 (ih p.0 p.1)
special-step false b bs text rest t ih h = cc

-- What is read otherwise.
plain-step : (q s w : Bool) (b : ℕ) (bs text rest : List ℕ) → (b == 34) ≡ q → (b == 92) ≡ s
    → (b == 0 || b == 10 || b == 13 || nat_lt 127 b) ≡ w
    → ((more : List ℕ) → quoted_from false bs ≡ Some (more, rest) → Spelled false bs more rest)
    → ((more : List ℕ) → quoted_from true bs ≡ Some (more, rest) → Spelled true bs more rest)
    → quoted_by (if q then quoting.End else if s then quoting.Escape else if w then quoting.Wrong else quoting.Text)
    b bs (λ behind. quoted_from behind bs) ≡ Some (text, rest)
    → Spelled false (b ∷ bs) text rest
plain-step true s w b bs text rest q s' w' plain special h =
    let e : ([], bs) ≡ (text, rest) = cc in
    let t : [] ≡ text = ap (λ (r : List ℕ × List ℕ). r.0) e in
    let r : bs ≡ rest = ap (λ (r : List ℕ × List ℕ). r.1) e in
    let n : b ≡ 34 = eqb-true b 34 q in
    (ap (λ k. k ∷ bs) n ∙ (ap (λ l. 34 ∷ l) r ∙ ap (λ l. escaped l ++ 34 ∷ rest) t), ap (list_all is_quoted_octet) (sym t))
plain-step false true w b bs text rest q s w' plain special h =
    let p = special text h in
    (ap (λ k. k ∷ bs) (eqb-true b 92 s) ∙ p.0, p.1)
plain-step false false true b bs text rest q s w plain special h = cc
plain-step false false false b bs text rest q s w plain special h =
    let p = put-some b (quoted_from false bs) text rest h in
    plain-spelled b bs text rest p.0 q s w p.2 (plain p.0 p.1)

-- What is read is spelled.
pub spelled_inside : (behind : Bool) (octets text rest : List ℕ) → quoted_from behind octets ≡ Some (text, rest)
    → Spelled behind octets text rest
spelled_inside behind [] text rest h = cc
spelled_inside true (b ∷ bs) text rest h =
    special-step (b == 34 || b == 92) b bs text rest refl (λ more. spelled_inside false bs more rest) h
spelled_inside false (b ∷ bs) text rest h =
    plain-step (b == 34) (b == 92) (b == 0 || b == 10 || b == 13 || nat_lt 127 b) b bs text rest refl refl refl
    (λ more. spelled_inside false bs more rest) (λ more. spelled_inside true bs more rest) h

-- The law of texts in quotes, from left to right.
pub quoted_read : (text spelling rest : List ℕ) → SpellsQuoted text spelling
    → quoted_at (spelling ++ rest) ≡ Some (text, rest)
unfolding quoted_at
quoted_read text spelling rest s =
    let e : spelling ++ rest ≡ 34 ∷ (escaped text ++ 34 ∷ rest)
    = ap (λ l. l ++ rest) s.spelled ∙ ap (λ l. 34 ∷ l) (append_assoc (escaped text) (34 ∷ []) rest) in
    ap quoted_at e ∙ read_inside text rest s.octets

-- And from right to left.
begins-by : (octets text rest : List ℕ) → Spelled false octets text rest → BeginsQuoted (34 ∷ octets) text rest
begins-by octets text rest s = record {
  spelling = 34 ∷ (escaped text ++ 34 ∷ []);
  is = record { octets = s.1; spelled = refl };
  first = ap (λ l. 34 ∷ l) (s.0 ∙ sym (append_assoc (escaped text) (34 ∷ []) rest));
}

after-quote : (t : Bool) (b : ℕ) (bs text rest : List ℕ) → (b == 34) ≡ t
    → (if t then Some bs else None) >>= (λ inside. quoted_from false inside) ≡ Some (text, rest)
    → BeginsQuoted (b ∷ bs) text rest
after-quote true b bs text rest t h =
    subst (λ k. BeginsQuoted (k ∷ bs) text rest) (sym (eqb-true b 34 t)) (begins-by bs text rest (spelled_inside false bs text rest h))
after-quote false b bs text rest t h = cc

pub quoted_spelled : (octets text rest : List ℕ) → quoted_at octets ≡ Some (text, rest) → BeginsQuoted octets text rest
unfolding quoted_at
quoted_spelled [] text rest h = cc
quoted_spelled (b ∷ bs) text rest h = after-quote (b == 34) b bs text rest refl h
