-- Ranges and parts before those that are still to be read.
use Rattle.std.proofs.Common.{◌≡◌, ◌++◌, ℕ, Bool, true, List, [], ◌∷◌, Option, Some, None, refl, sym, ap, ◌∙◌, append_assoc}
use Rattle.std.proofs.lemmas.List.{append-nil}
use Rattle.std.specs.Borrow.{Bor}
use Rattle.imap_words.specs.Numbers.{nz_number_of}
use Rattle.imap_words.specs.Reading.{◌>>=◌}
use Rattle.imap_words.specs.Words.{words_at, Splits}
use Rattle.imap_words.proofs.WordCuts.{words_some}
use Rattle.imap_syntax.specs.Items.{section_name_of, fields_of, not_of, word_by, part_before, parts_by, parts_of}
use Rattle.imap_syntax.specs.Sets.{range_of, ranges_of, range_of_words}
use Rattle.imap_syntax.specs.declared.sets.SetRange.{SetRange}
use Rattle.imap_syntax.specs.declared.sections.SectionName.{SectionName}
use Rattle.imap_syntax.specs.declared.sections.SectionName.TheVariants as name
use Rattle.imap_syntax.specs.declared.sections.SectionWord.{SectionWord}

-- A text's first word comes first among its words, whatever follows it.
pub split_words : (b : ℕ) (text first : List ℕ) (others : Option (Bor (List ℕ))) → Splits b text first others
    → (more : List (List ℕ)) × (words_at b text ≡ first ∷ more)
split_words b text first None s = ([], s)
split_words b text first (Some rest) s = (words_at b rest.now, s.0)

-- The words of a text that has others after its first one.
pub split_rest : (b : ℕ) (text first : List ℕ) (others : Option (Bor (List ℕ))) (rest : Bor (List ℕ))
    → Splits b text first others → others ≡ Some rest → words_at b text ≡ first ∷ words_at b rest.now
split_rest b text first others rest s is = (rw is at s).0

-- Ranges before those that are read.
abbrev pub with_ranges : List SetRange → Option (List SetRange) → Option (List SetRange)
with_ranges done None = None
with_ranges done (Some more) = Some (done ++ more)

with-range : (done : List SetRange) (range : SetRange) (read : Option (List SetRange))
    → with_ranges done (read >>= (λ more. Some (range ∷ more))) ≡ with_ranges (done ++ range ∷ []) read
with-range done range None = refl
with-range done range (Some more) = ap (λ (l : List SetRange). Some l) (sym (append_assoc done (range ∷ []) more))

-- A word that is no range makes the whole no set.
pub ranges_bad : (rest first : List ℕ) (others : Option (Bor (List ℕ))) (done : List SetRange) (all : Option (List SetRange))
    → Splits 44 rest first others → range_of first ≡ None
    → with_ranges done (ranges_of (words_at 44 rest)) ≡ all → all ≡ None
ranges_bad rest first others done all s r h =
    let p = split_words 44 rest first others s in
    let e : with_ranges done (ranges_of (first ∷ p.0)) ≡ None = rw r refl in
    sym h ∙ (ap (λ w. with_ranges done (ranges_of w)) p.1 ∙ e)

-- The last range.
pub ranges_last : (rest first : List ℕ) (range : SetRange) (done : List SetRange) (all : Option (List SetRange))
    → words_at 44 rest ≡ first ∷ [] → range_of first ≡ Some range
    → with_ranges done (ranges_of (words_at 44 rest)) ≡ all → all ≡ Some (done ++ range ∷ [])
ranges_last rest first range done all s r h =
    let e : with_ranges done (ranges_of (first ∷ [])) ≡ Some (done ++ range ∷ []) = rw r refl in
    sym h ∙ (ap (λ w. with_ranges done (ranges_of w)) s ∙ e)

-- A range before others.
pub ranges_more : (rest first others : List ℕ) (range : SetRange) (done : List SetRange) (all : Option (List SetRange))
    → words_at 44 rest ≡ first ∷ words_at 44 others → range_of first ≡ Some range
    → with_ranges done (ranges_of (words_at 44 rest)) ≡ all
    → with_ranges (done ++ range ∷ []) (ranges_of (words_at 44 others)) ≡ all
ranges_more rest first others range done all s r h =
    let e : with_ranges done (ranges_of (first ∷ words_at 44 others))
    ≡ with_ranges (done ++ range ∷ []) (ranges_of (words_at 44 others))
    = rw r (with-range done range (ranges_of (words_at 44 others))) in
    sym e ∙ (ap (λ w. with_ranges done (ranges_of w)) (sym s) ∙ h)

-- Three words are no range.
pub range_three : (first text second rest : List ℕ) → words_at 58 text ≡ second ∷ words_at 58 rest
    → range_of_words (first ∷ words_at 58 text) ≡ None
range_three first text second rest s =
    let q = words_some 58 rest in
    ap (λ w. range_of_words (first ∷ w)) s ∙ ap (λ w. range_of_words (first ∷ second ∷ w)) q.2

-- Numbers before those of the word that is read.
abbrev pub with_parts : List ℕ → Option SectionWord → Option SectionWord
with_parts done None = None
with_parts done (Some word) = Some (record { part = done ++ word.part; name = word.name })

with-part : (done : List ℕ) (n : ℕ) (read : Option SectionWord)
    → with_parts done (part_before n read) ≡ with_parts (done ++ n ∷ []) read
with-part done n None = refl
with-part done n (Some word) =
    ap (λ (l : List ℕ). Some (record { part = l; name = word.name })) (sym (append_assoc done (n ∷ []) word.part))

-- A keyword comes next, and names a text.
pub parts_named : (numbered : Bool) (rest first : List ℕ) (others : Option (Bor (List ℕ))) (found : SectionName)
    (done : List ℕ) (all : Option SectionWord)
    → Splits 46 rest first others → nz_number_of first ≡ None → section_name_of numbered (words_at 46 rest) ≡ Some found
    → with_parts done (parts_of numbered (words_at 46 rest)) ≡ all → all ≡ Some (record { part = done; name = found })
parts_named numbered rest first others found done all s r is h =
    let p = split_words 46 rest first others s in
    let is' : section_name_of numbered (first ∷ p.0) ≡ Some found = ap (λ w. section_name_of numbered w) (sym p.1) ∙ is in
    let e : with_parts done (parts_by (nz_number_of first) (word_by [] (section_name_of numbered (first ∷ p.0))) (parts_of true p.0))
    ≡ Some (record { part = done; name = found })
    = rw r (rw is' (ap (λ (l : List ℕ). Some (record { part = l; name = found })) (append-nil done))) in
    sym h ∙ (ap (λ w. with_parts done (parts_of numbered w)) p.1 ∙ e)

-- A keyword comes next, and names nothing.
pub parts_bad : (numbered : Bool) (rest first : List ℕ) (others : Option (Bor (List ℕ)))
    (done : List ℕ) (all : Option SectionWord)
    → Splits 46 rest first others → nz_number_of first ≡ None → section_name_of numbered (words_at 46 rest) ≡ None
    → with_parts done (parts_of numbered (words_at 46 rest)) ≡ all → all ≡ None
parts_bad numbered rest first others done all s r is h =
    let p = split_words 46 rest first others s in
    let is' : section_name_of numbered (first ∷ p.0) ≡ None = ap (λ w. section_name_of numbered w) (sym p.1) ∙ is in
    let e : with_parts done (parts_by (nz_number_of first) (word_by [] (section_name_of numbered (first ∷ p.0))) (parts_of true p.0))
    ≡ None
    = rw r (rw is' refl) in
    sym h ∙ (ap (λ w. with_parts done (parts_of numbered w)) p.1 ∙ e)

-- The last word is a number.
pub parts_whole : (numbered : Bool) (rest first : List ℕ) (n : ℕ) (done : List ℕ) (all : Option SectionWord)
    → words_at 46 rest ≡ first ∷ [] → nz_number_of first ≡ Some n
    → with_parts done (parts_of numbered (words_at 46 rest)) ≡ all
    → all ≡ Some (record { part = done ++ n ∷ []; name = name.Whole })
parts_whole numbered rest first n done all s r h =
    let e : with_parts done (parts_by (nz_number_of first) (word_by [] (section_name_of numbered (first ∷ []))) (parts_of true []))
    ≡ Some (record { part = done ++ n ∷ []; name = name.Whole })
    = rw r refl in
    sym h ∙ (ap (λ w. with_parts done (parts_of numbered w)) s ∙ e)

-- A number before other words.
pub parts_more : (numbered : Bool) (rest first others : List ℕ) (n : ℕ) (done : List ℕ) (all : Option SectionWord)
    → words_at 46 rest ≡ first ∷ words_at 46 others → nz_number_of first ≡ Some n
    → with_parts done (parts_of numbered (words_at 46 rest)) ≡ all
    → with_parts (done ++ n ∷ []) (parts_of true (words_at 46 others)) ≡ all
parts_more numbered rest first others n done all s r h =
    let e : with_parts done (parts_by (nz_number_of first)
    (word_by [] (section_name_of numbered (first ∷ words_at 46 others))) (parts_of true (words_at 46 others)))
    ≡ with_parts (done ++ n ∷ []) (parts_of true (words_at 46 others))
    = rw r (with-part done n (parts_of true (words_at 46 others))) in
    sym e ∙ (ap (λ w. with_parts done (parts_of numbered w)) (sym s) ∙ h)

-- Two words or more, whatever the others are.
pub name_more : (numbered : Bool) (text word rest : List ℕ) → words_at 46 text ≡ word ∷ words_at 46 rest
    → section_name_of numbered (words_at 46 text) ≡ fields_of word (words_at 46 rest)
name_more numbered text word rest s =
    let q = words_some 46 rest in
    ap (λ w. section_name_of numbered w) s
    ∙ (ap (λ w. section_name_of numbered (word ∷ w)) q.2 ∙ ap (λ w. fields_of word w) (sym q.2))

-- Three words or more.
pub fields_more : (word text other rest : List ℕ) → words_at 46 text ≡ other ∷ words_at 46 rest
    → fields_of word (words_at 46 text) ≡ not_of word other (words_at 46 rest)
fields_more word text other rest s =
    let q = words_some 46 rest in
    ap (λ w. fields_of word w) s
    ∙ (ap (λ w. fields_of word (other ∷ w)) q.2 ∙ ap (λ w. not_of word other w) (sym q.2))

-- Four words name nothing.
pub not_more : (word other text third rest : List ℕ) → words_at 46 text ≡ third ∷ words_at 46 rest
    → not_of word other (words_at 46 text) ≡ None
not_more word other text third rest s =
    let q = words_some 46 rest in
    ap (λ w. not_of word other w) s ∙ ap (λ w. not_of word other (third ∷ w)) q.2
