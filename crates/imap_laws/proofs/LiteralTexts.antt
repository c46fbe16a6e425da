-- Literals: what is spelled is read, and what is read is spelled.
use Rattle.std.proofs.Common.{◌≡◌, ◌≤◌, ℕ, Bool, true, false, ◌&&◌, ◌==◌, nat_le, List, [], ◌∷◌, ◌++◌, length, take, drop, Option, Some, None, if◌then◌else◌, inl, inr, refl, sym, ap, subst, ◌∙◌, append_assoc, arith, eqb-true}
use Rattle.std.specs.List.{list_all}
use Rattle.std.proofs.Math.Seq.{take-append_seam, drop-append_seam}
use Rattle.std.proofs.lemmas.Bool.{leb-true}
use Rattle.std.proofs.lemmas.Bool.Decides.{nat_tests}
use Rattle.std.proofs.lemmas.List.{take-append-drop, length-append, length-take-le}
use Rattle.imap_words.specs.Kinds.{is_digit, is_octet}
use Rattle.imap_words.specs.Numbers.{number_of, number_at}
use Rattle.imap_words.specs.Reading.{run_at, byte_at, line_end_at}
use Rattle.imap_words.specs.Strings.{octets_at, literal_at}
use Rattle.imap_laws.proofs.BareTexts.{bare_read, bare_spelled}
use Rattle.imap_laws.proofs.Binding.{bind_some, byte_some}
use Rattle.imap_laws.specs.Spelling.{SpellsBare, SpellsLineEnd, SpellsLiteral, BeginsLiteral}

-- Digits are read as their number.
pub number_read : (digits rest : List ℕ) (n : ℕ) → SpellsBare is_digit (digits ++ rest) digits rest → number_of digits ≡ Some n
    → number_at (digits ++ rest) ≡ Some (n, rest)
unfolding number_at
number_read digits rest n s counted = rw (bare_read is_digit (digits ++ rest) digits rest s) (rw counted refl)

-- What is read as a number is digits of it.
pub number_spelled : (octets rest : List ℕ) (n : ℕ) → number_at octets ≡ Some (n, rest)
    → (digits : List ℕ) × SpellsBare is_digit octets digits rest × (number_of digits ≡ Some n)
unfolding number_at
number_spelled octets rest n h =
    let w = bind_some (run_at is_digit octets) _ (n, rest) h in
    let v = bind_some (number_of w.0.0) _ (n, rest) w.2 in
    let e : (v.0, w.0.1) ≡ (n, rest) = cc in
    let r : w.0.1 ≡ rest = ap (λ (p : ℕ × List ℕ). p.1) e in
    let m : v.0 ≡ n = ap (λ (p : ℕ × List ℕ). p.0) e in (
      w.0.0,
      subst (λ l. SpellsBare is_digit octets w.0.0 l) r (bare_spelled is_digit octets w.0.0 w.0.1 w.1),
      v.1 ∙ ap (λ k. Some k) m,
    )

-- A line end is read.
pub line_read : (ending rest : List ℕ) → SpellsLineEnd ending → line_end_at (ending ++ rest) ≡ Some rest
line_read ending rest (inl e) = ap (λ l. line_end_at (l ++ rest)) e
line_read ending rest (inr e) = ap (λ l. line_end_at (l ++ rest)) e

-- What is read as a line end is one.
line-by : (t : Bool) (c : ℕ) (cs rest : List ℕ) → (c == 13) ≡ t
    → (if t then byte_at 10 cs else byte_at 10 (c ∷ cs)) ≡ Some rest
    → (ending : List ℕ) × SpellsLineEnd ending × (c ∷ cs ≡ ending ++ rest)
line-by true c cs rest t h =
    (13 ∷ 10 ∷ [], inr refl, ap (λ k. k ∷ cs) (eqb-true c 13 t) ∙ ap (λ l. 13 ∷ l) (byte_some 10 cs rest h))
line-by false c cs rest t h = (10 ∷ [], inl refl, byte_some 10 (c ∷ cs) rest h)

pub line_spelled : (octets rest : List ℕ) → line_end_at octets ≡ Some rest
    → (ending : List ℕ) × SpellsLineEnd ending × (octets ≡ ending ++ rest)
line_spelled [] rest h = cc
line_spelled (c ∷ cs) rest h = line-by (c == 13) c cs rest refl h

-- A text and what follows it, if two tests are passed.
abbrev both_by : Bool → Bool → List ℕ → List ℕ → Option (List ℕ × List ℕ)
both_by f a x y = if f && a then Some (x, y) else None

both-read : (f a : Bool) (x y text rest : List ℕ) → f ≡ true → a ≡ true → x ≡ text → y ≡ rest
    → both_by f a x y ≡ Some (text, rest)
both-read f a x y text rest f' a' x' y' = rw f' (rw a' (rw x' (rw y' refl)))

-- So many octets are read.
octets-read : (text rest : List ℕ) → list_all is_octet text ≡ true → octets_at (length text) (text ++ rest) ≡ Some (text, rest)
octets-read text rest ok =
    let t : take (length text) (text ++ rest) ≡ text = take-append_seam text rest in
    let d : drop (length text) (text ++ rest) ≡ rest = drop-append_seam text rest in
    let l : length text ≤ length (text ++ rest) = omega (arith, length-append text rest) in
    let fits : nat_le (length text) (length (text ++ rest)) ≡ true = grind (arith, nat_tests) in
    both-read (nat_le (length text) (length (text ++ rest))) (list_all is_octet (take (length text) (text ++ rest)))
    (take (length text) (text ++ rest)) (drop (length text) (text ++ rest)) text rest
    fits (ap (list_all is_octet) t ∙ ok) t d

both-spelled : (f a : Bool) (x y text rest : List ℕ) → both_by f a x y ≡ Some (text, rest)
    → (f ≡ true) × (a ≡ true) × (x ≡ text) × (y ≡ rest)
both-spelled false a x y text rest h = cc
both-spelled true false x y text rest h = cc
both-spelled true true x y text rest h =
    let e : (x, y) ≡ (text, rest) = cc in
    (refl, refl, ap (λ (p : List ℕ × List ℕ). p.0) e, ap (λ (p : List ℕ × List ℕ). p.1) e)

-- What is read as so many octets is that many of them.
octets-spelled : (n : ℕ) (octets text rest : List ℕ) → octets_at n octets ≡ Some (text, rest)
    → (n ≡ length text) × (list_all is_octet text ≡ true) × (octets ≡ text ++ rest)
octets-spelled n octets text rest h =
    let b = both-spelled (nat_le n (length octets)) (list_all is_octet (take n octets)) (take n octets) (drop n octets) text rest h in
    let fits : n ≤ length octets = leb-true n (length octets) b.0 in
    let l : length (take n octets) ≡ n = length-take-le n octets fits in (
      sym l ∙ ap length b.2,
      ap (list_all is_octet) (sym b.2) ∙ b.1,
      sym (take-append-drop n octets) ∙ (ap (λ k. k ++ drop n octets) b.2 ∙ ap (λ k. text ++ k) b.3),
    )

-- The law of literals, from left to right.
pub literal_read : (text spelling rest : List ℕ) → SpellsLiteral text spelling → literal_at (spelling ++ rest) ≡ Some (text, rest)
unfolding literal_at
literal_read text spelling rest s =
    let e : spelling ++ rest ≡ 123 ∷ (s.digits ++ (125 ∷ (s.ending ++ (text ++ rest))))
    = ap (λ l. l ++ rest) s.spelled ∙ ap (λ l. 123 ∷ l) (append_assoc s.digits (125 ∷ (s.ending ++ text)) rest
    ∙ ap (λ l. s.digits ++ (125 ∷ l)) (append_assoc s.ending text rest)) in
    let n : number_at (s.digits ++ (125 ∷ (s.ending ++ (text ++ rest)))) ≡ Some (length text, 125 ∷ (s.ending ++ (text ++ rest)))
    = number_read s.digits (125 ∷ (s.ending ++ (text ++ rest))) (length text)
    (record { of_kind = s.are_digits; some = s.some; first = refl; stops = refl }) s.counted in
    let l : line_end_at (s.ending ++ (text ++ rest)) ≡ Some (text ++ rest) = line_read s.ending (text ++ rest) s.ends in
    ap literal_at e ∙ rw n (rw l (octets-read text rest s.octets))

-- And from right to left.
pub literal_spelled : (octets text rest : List ℕ) → literal_at octets ≡ Some (text, rest) → BeginsLiteral octets text rest
unfolding literal_at
literal_spelled octets text rest h =
    let i = bind_some (byte_at 123 octets) _ (text, rest) h in
    let n = bind_some (number_at i.0) _ (text, rest) i.2 in
    let c = bind_some (byte_at 125 n.0.1) _ (text, rest) n.2 in
    let l = bind_some (line_end_at c.0) _ (text, rest) c.2 in
    let d = number_spelled i.0 n.0.1 n.0.0 n.1 in
    let g = line_spelled c.0 l.0 l.1 in
    let o = octets-spelled n.0.0 l.0 text rest l.2 in
    let closed : n.0.1 ≡ 125 ∷ (g.0 ++ (text ++ rest))
    = byte_some 125 n.0.1 c.0 c.1 ∙ ap (λ k. 125 ∷ k) (g.2 ∙ ap (λ k. g.0 ++ k) o.2) in
    let e : octets ≡ 123 ∷ (d.0 ++ (125 ∷ (g.0 ++ (text ++ rest))))
    = byte_some 123 octets i.0 i.1 ∙ ap (λ k. 123 ∷ k) (d.1.first ∙ ap (λ k. d.0 ++ k) closed) in
    record {
      spelling = 123 ∷ (d.0 ++ 125 ∷ (g.0 ++ text));
      is = record {
        digits = d.0;
        ending = g.0;
        are_digits = d.1.of_kind;
        some = d.1.some;
        counted = d.2 ∙ ap (λ k. Some k) o.0;
        ends = g.1;
        octets = o.1;
        spelled = refl;
      };
      first = e ∙ sym (ap (λ k. 123 ∷ k) (append_assoc d.0 (125 ∷ (g.0 ++ text)) rest
          ∙ ap (λ k. d.0 ++ (125 ∷ k)) (append_assoc g.0 text rest)));
    }
