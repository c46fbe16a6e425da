-- What is still to be written of a structure, while parts are open.
use Rattle.std.proofs.Common.{◌≡◌, ℕ, ◌+◌, ◌<◌, ◌≤◌, Bool, true, false, cond, nat_le, nat_lt, List, [], ◌∷◌, ◌++◌, refl, sym, ap, ◌∙◌, arith, append_assoc, length, drop, get_or}
use Rattle.std.proofs.lemmas.Bool.Decides.{nat_tests}
use Rattle.std.proofs.lemmas.List.{drop_more, drop_all}
use Rattle.std.specs.List.{flat_map}
use Rattle.mime_parts.specs.declared.part.Part.{Part}
use Rattle.imap_structure.specs.Forests.{Forest, Bare, Tree, ForestSplit, split, split_after, split_at, planted, forest_of}
use Rattle.imap_structure.specs.Structures.{opening_of, closing_of, structure}
use Rattle.imap_structure.specs.Opened.{ended_at, open_at}

-- What is still to be written, by the parts that are open (the last opened first) and the trees to come.
abbrev pub going : List ℕ → List Part → Forest → List ℕ
going text [] f = structure text f
going text (q ∷ qs) f = structure text (split_at q.depth f).deeper ++ (closing_of text q ++ going text qs (split_at q.depth f).others)

-- Pieces in another order of joining.
four : (a b c d e f : List ℕ) → (a ++ (b ++ (c ++ d))) ++ (e ++ f) ≡ a ++ (b ++ (c ++ (d ++ (e ++ f))))
four a b c d e f =
    append_assoc a (b ++ (c ++ d)) (e ++ f) ∙ ap (λ t. a ++ t) (append_assoc b (c ++ d) (e ++ f) ∙ ap (λ t. b ++ t) (append_assoc c d (e ++ f)))

three : (a b c d : List ℕ) → a ++ ((b ++ c) ++ d) ≡ ((a ++ b) ++ c) ++ d
three a b c d = sym (append_assoc a (b ++ c) d) ∙ ap (λ t. t ++ d) (sym (append_assoc a b c))

true-false : true ≡ false → ⊥
true-false e = let z = e in cc

false-true : false ≡ true → ⊥
false-true e = let z = e in cc

-- A part before trees, where a part is open: it ends there, or the part is below it.
going_step : (ends deeper : Bool) → (ends ≡ true → deeper ≡ false) → (ends ≡ false → deeper ≡ true) → (text : List ℕ) (p q : Part) (qs ended opened : List Part) (f : Forest)
    → going text qs (planted p (split_at p.depth f)) ≡ (flat_map (closing_of text) ended ++ opening_of text p) ++ going text (p ∷ opened) f
    → structure text (cond deeper (split_after p (split_at p.depth f).deeper (split_at q.depth (split_at p.depth f).others)) (split Bare (planted p (split_at p.depth f)))).deeper
    ++ (closing_of text q ++ going text qs (cond deeper (split_after p (split_at p.depth f).deeper (split_at q.depth (split_at p.depth f).others)) (split Bare (planted p (split_at p.depth f)))).others)
    ≡ (flat_map (closing_of text) (cond ends (q ∷ ended) []) ++ opening_of text p) ++ going text (p ∷ cond ends opened (q ∷ qs)) f
going_step true true over under text p q qs ended opened f h = absurd (true-false (over refl))
going_step false false over under text p q qs ended opened f h = absurd (false-true (under refl))
going_step true false over under text p q qs ended opened f h =
    ap (λ t. closing_of text q ++ t) h ∙ three (closing_of text q) (flat_map (closing_of text) ended) (opening_of text p) (going text (p ∷ opened) f)
going_step false true over under text p q qs ended opened f h =
    let at = split_at p.depth f in
    let on = split_at q.depth at.others in
    four (opening_of text p) (structure text at.deeper) (closing_of text p) (structure text on.deeper) (closing_of text q) (going text qs on.others)

-- A part before trees.
pub going-part : (text : List ℕ) (opened : List Part) (p : Part) (f : Forest)
    → going text opened (planted p (split_at p.depth f)) ≡ (flat_map (closing_of text) (ended_at p.depth opened) ++ opening_of text p) ++ going text (p ∷ open_at p.depth opened) f
going-part text [] p f = refl
going-part text (q ∷ qs) p f =
    going_step (nat_le p.depth q.depth) (nat_lt q.depth p.depth) (λ e. grind (arith, nat_tests, e)) (λ e. grind (arith, nat_tests, e)) text p q qs
    (ended_at p.depth qs) (open_at p.depth qs) f (going-part text qs p f)

-- No more trees.
pub going-end : (text : List ℕ) (opened : List Part) → going text opened Bare ≡ flat_map (closing_of text) (ended_at 0 opened)
going-end text [] = refl
going-end text (q ∷ qs) = let all : nat_le 0 q.depth ≡ true = grind (arith, nat_tests) in rw all (ap (λ t. closing_of text q ++ t) (going-end text qs))

-- One part more is opened: with what is still to be written all stays the same.
pub part-told : (text told told' all : List ℕ) (opened opened' : List Part) (p : Part) (f : Forest)
    → told' ≡ told ++ (flat_map (closing_of text) (ended_at p.depth opened) ++ opening_of text p) → opened' ≡ p ∷ open_at p.depth opened
    → told ++ going text opened (planted p (split_at p.depth f)) ≡ all → told' ++ going text opened' f ≡ all
part-told text told told' all opened opened' p f e g h =
    let front = flat_map (closing_of text) (ended_at p.depth opened) ++ opening_of text p in
    let next : told' ++ going text opened' f ≡ (told ++ front) ++ going text (p ∷ open_at p.depth opened) f = rw (e, g) refl in
    next ∙ append_assoc told front (going text (p ∷ open_at p.depth opened) f) ∙ ap (λ t. told ++ t) (sym (going-part text opened p f)) ∙ h

-- All is written.
pub end-told : (text told told' all : List ℕ) (opened : List Part) → told' ≡ told ++ flat_map (closing_of text) (ended_at 0 opened)
    → told ++ going text opened Bare ≡ all → told' ≡ all
end-told text told told' all opened e h = e ∙ ap (λ t. told ++ t) (sym (going-end text opened)) ∙ h

-- The trees of parts from an index on.
pub trees-from : (parts : List Part) (i : ℕ) (p d : Part) → i < length parts → p ≡ get_or parts i d
    → forest_of (drop i parts) ≡ planted p (split_at p.depth (forest_of (drop (i + 1) parts)))
trees-from parts i p d within is =
    ap forest_of (drop_more parts i d within) ∙ ap (λ (q : Part). planted q (split_at q.depth (forest_of (drop (i + 1) parts)))) (sym is)

pub trees-end : (parts : List Part) (i : ℕ) → length parts ≤ i → forest_of (drop i parts) ≡ Bare
trees-end parts i past = ap forest_of (drop_all i parts past)
