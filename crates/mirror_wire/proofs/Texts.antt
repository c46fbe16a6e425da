-- The text of a list as pieces, one before the other.
use Rattle.std.proofs.Common.{◌≡◌, ◌+◌, ◌≤◌, ℕ, zero, suc, List, [], ◌∷◌, ◌++◌, map, length, take, codes, refl, sym, ap, ◌∙◌, append_assoc, append-nil, length-append, arith}
use Rattle.std.specs.List.{concat}
use Rattle.std.proofs.lemmas.List.{length-map}
use Rattle.arch_base.specs.declared.ids.Form.{Form}
use Rattle.git_objects.specs.Commits.{number_part, text_part}
use Rattle.arch_model.specs.declared.line.EntryLine.{EntryLine}
use Rattle.mirror_wire.specs.declared.list.MirrorList.{MirrorList}
use Rattle.mirror_wire.specs.Lists.{first_words, entry_part, entry_line, list_lines, list_text}
use Rattle.mirror_wire.specs.Parts.{head_part, entries_part}

-- The lines of entries, and the last one.
abbrev pub tail_lines : List EntryLine → List (List ℕ)
tail_lines lines = map entry_line lines ++ text_part 10 (codes "end") [] ∷ []

-- A line and what follows it.
line-before : (l : EntryLine) (rest : List ℕ) → entry_line l ++ rest ≡ entry_part l rest
line-before l rest = simp append_assoc

-- The first lines of entries and what follows them.
entries-before : (k : ℕ) (ls : List EntryLine) (rest : List ℕ) → k ≤ length ls → concat (take k (tail_lines ls)) ++ rest ≡ entries_part (take k ls) rest
entries-before zero ls rest few = refl
entries-before (suc k) [] rest few = absurd (omega (arith, few))
entries-before (suc k) (l ∷ ls) rest few =
    append_assoc (entry_line l) (concat (take k (tail_lines ls))) rest
    ∙ ap (λ (t : List ℕ). entry_line l ++ t) (entries-before k ls rest (omega (arith, few)))
    ∙ line-before l (entries_part (take k ls) rest)

-- All of them, `end`, and what follows.
entries-whole : (ls : List EntryLine) (rest : List ℕ) → concat (tail_lines ls) ++ rest ≡ entries_part ls (codes "end\n" ++ rest)
entries-whole [] rest = refl
entries-whole (l ∷ ls) rest =
    append_assoc (entry_line l) (concat (tail_lines ls)) rest
    ∙ ap (λ (t : List ℕ). entry_line l ++ t) (entries-whole ls rest)
    ∙ line-before l (entries_part ls (codes "end\n" ++ rest))

-- The first line, and what follows.
words-before : (words rest : List ℕ) → text_part 10 words [] ++ rest ≡ text_part 10 words rest
words-before words rest = append_assoc words (10 ∷ []) rest

-- The first three lines, some more, and what follows.
head-before : (form : Form) (list : MirrorList) (lines : List (List ℕ)) (rest : List ℕ)
    → concat (text_part 10 (first_words form) [] ∷ text_part 10 list.name [] ∷ number_part 10 list.next [] ∷ lines) ++ rest ≡ head_part form list.name list.next (concat lines ++ rest)
head-before form list lines rest = simp append_assoc

-- The first line, before what follows.
pub one-before : (form : Form) (list : MirrorList) (rest : List ℕ) → concat (take 1 (list_lines form list)) ++ rest ≡ text_part 10 (first_words form) rest
one-before form list rest = simp append_assoc

-- The first two.
pub two-before : (form : Form) (list : MirrorList) (rest : List ℕ) → concat (take 2 (list_lines form list)) ++ rest ≡ text_part 10 (first_words form) (text_part 10 list.name rest)
two-before form list rest = simp append_assoc

-- The first three, and some of the entries.
some-lines : (form : Form) (list : MirrorList) (k : ℕ) (rest : List ℕ) → k ≤ length list.lines
    → concat (take (suc (suc (suc k))) (list_lines form list)) ++ rest ≡ head_part form list.name list.next (entries_part (take k list.lines) rest)
some-lines form list k rest few = head-before form list (take k (tail_lines list.lines)) rest ∙ ap (head_part form list.name list.next) (entries-before k list.lines rest few)

pub some-before : (form : Form) (list : MirrorList) (n k : ℕ) (rest : List ℕ) → n ≡ k + 3 → k ≤ length list.lines
    → concat (take n (list_lines form list)) ++ rest ≡ head_part form list.name list.next (entries_part (take k list.lines) rest)
some-before form list n k rest is few =
    let same : n ≡ suc (suc (suc k)) = omega (arith, is) in
    ap (λ (m : ℕ). concat (take m (list_lines form list)) ++ rest) same ∙ some-lines form list k rest few

-- All of them.
pub all-before : (form : Form) (list : MirrorList) (rest : List ℕ) → list_text form list ++ rest ≡ head_part form list.name list.next (entries_part list.lines (codes "end\n" ++ rest))
all-before form list rest = head-before form list (tail_lines list.lines) rest ∙ ap (head_part form list.name list.next) (entries-whole list.lines rest)

-- The text alone.
pub text-is : (form : Form) (list : MirrorList) → list_text form list ≡ head_part form list.name list.next (entries_part list.lines (codes "end\n"))
text-is form list = sym (append-nil (list_text form list)) ∙ all-before form list []

-- How many lines there are.
pub lines-count : (form : Form) (list : MirrorList) → length (list_lines form list) ≡ length list.lines + 4
lines-count form list =
    let rest : length (tail_lines list.lines) ≡ length (map entry_line list.lines) + 1 = length-append (map entry_line list.lines) (text_part 10 (codes "end") [] ∷ []) in
    let same : length (map entry_line list.lines) ≡ length list.lines = length-map list.lines entry_line in
    omega (arith, rest, same)
