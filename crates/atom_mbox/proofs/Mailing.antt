-- Mailbox files, piece by piece and line by line.
use Rattle.std.proofs.Common.{◌≡◌, ℕ, ◌+◌, ◌-◌, ◌^◌, ◌<◌, min, List, [], ◌∷◌, ◌++◌, map, length, take, drop, sum_by, refl, sym, ap, ◌∙◌, arith, length-append, append_assoc, append-nil}
use Rattle.std.specs.List.{flat_map}
use Rattle.std.proofs.lemmas.List.{nil_from_length}
use Rattle.std.proofs.lemmas.List.Sums.{sum_by-cons}
use Rattle.mail_reader.specs.Lines.{lines_of}
use Rattle.mail_forms.specs.Mailboxes.{mbox_of, quoted}
use Rattle.mail_forms.specs.declared.row.Row.{Row}
use Rattle.atom_mbox.specs.MailboxFiles.{mailbox_of, piece_len, told_len}

-- The length of a mailbox file is the sum of those of its pieces.
pieces-sum : (texts : List (List ℕ)) → length (flat_map mbox_of texts) ≡ sum_by piece_len texts
pieces-sum [] = refl
pieces-sum (text ∷ texts) =
    length-append (mbox_of text) (flat_map mbox_of texts) ∙ ap (λ n. length (mbox_of text) + n) (pieces-sum texts) ∙ sym (sum_by-cons piece_len text texts)

by_map : {X : Type 0} (f : X → ℕ) (xs : List X) → sum_by f xs ≡ sum_by (λ n. n) (map f xs)
by_map f [] = refl
by_map f (x ∷ xs) = sum_by-cons f x xs ∙ ap (λ n. f x + n) (by_map f xs) ∙ sym (sum_by-cons (λ n. n) (f x) (map f xs))

least : (n m total len : ℕ) → n ≡ min total (m - 1) → total ≡ len → len < m → n ≡ len
least n m total len e same small = grind (arith, e, same, small)

-- The sum of the lengths that rows tell is that of the mailbox file of their texts.
pub told-sum : (rows : List Row) (texts : List (List ℕ)) (n : ℕ) → n ≡ min (sum_by told_len rows) (2 ^ 64 - 1) → map told_len rows ≡ map piece_len texts
    → length (mailbox_of texts) < 2 ^ 64 → n ≡ length (mailbox_of texts)
unfolding mailbox_of
told-sum rows texts n e told fits =
    least n (2 ^ 64) (sum_by told_len rows) (length (flat_map mbox_of texts)) e (by_map told_len rows ∙ ap (sum_by (λ n. n)) told ∙ sym (by_map piece_len texts) ∙ sym (pieces-sum texts)) fits

-- One line more is appended: what is there with the lines that are left stays the same.
pub lines-more : (old new all : List ℕ) (n : ℕ) (rest line after : List ℕ) → line ≡ take n rest → after ≡ drop n rest → lines_of rest ≡ take n rest ∷ lines_of (drop n rest)
    → new ≡ old ++ quoted line → old ++ flat_map quoted (lines_of rest) ≡ all → new ++ flat_map quoted (lines_of after) ≡ all
lines-more old new all n rest line after l a e pushed so_far =
    let next : flat_map quoted (lines_of rest) ≡ quoted line ++ flat_map quoted (lines_of after) = ap (flat_map quoted) e ∙ rw (l, a) refl in
    rw pushed (append_assoc old (quoted line) (flat_map quoted (lines_of after)) ∙ ap (λ t. old ++ t) (sym next) ∙ so_far)

-- All is there when no line is left.
pub lines-end : (new all rest : List ℕ) → length rest ≡ 0 → new ++ flat_map quoted (lines_of rest) ≡ all → new ≡ all
lines-end new all rest none so_far =
    sym (append-nil new) ∙ ap (λ t. new ++ flat_map quoted (lines_of t)) (sym (nil_from_length rest none)) ∙ so_far
