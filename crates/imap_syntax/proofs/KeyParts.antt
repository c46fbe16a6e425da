-- The parts of search keys: what is spelled is read, and what is read is spelled.
use Rattle.std.proofs.Common.{◌≡◌, ◌<◌, inl, inr, ℕ, Bool, true, false, ◌&&◌, ◌==◌, List, [], ◌∷◌, ◌++◌, length, take, drop, slice_index, Option, Some, None, if◌then◌else◌, refl, sym, ap, subst, ◌∙◌, arith}
use Rattle.std.specs.List.{list_all, prefix_len}
use Rattle.std.proofs.lemmas.Bool.Decides.{nat_tests}
use Rattle.std.proofs.lemmas.List.{take-append-drop}
use Rattle.imap_words.specs.Kinds.{is_digit, is_atom_byte, is_astring_byte, is_set_byte, is_word_byte}
use Rattle.imap_words.specs.Numbers.{number_of, number_at}
use Rattle.imap_words.specs.Reading.{◌>>=◌, with_rest, byte_at, run_at, word_of, behind_word}
use Rattle.imap_words.specs.Strings.{quoted_at, literal_at, string_at, astring_at, argument_at, atom_argument_at}
use Rattle.imap_syntax.specs.Dates.{date_at, date_argument_at}
use Rattle.imap_syntax.specs.Keys.{key_name_of, key_name_at}
use Rattle.imap_syntax.specs.Sets.{set_of, set_at, set_argument_at}
use Rattle.imap_syntax.specs.declared.keys.Date.{Date}
use Rattle.imap_syntax.specs.declared.key_names.KeyName.{KeyName}
use Rattle.imap_syntax.specs.declared.sets.SetRange.{SetRange}
use Rattle.imap_laws.proofs.BareTexts.{cut_by, bare_read, bare_spelled, is_run}
use Rattle.imap_laws.proofs.Binding.{bind_some, byte_some}
use Rattle.imap_laws.proofs.LiteralTexts.{literal_read, literal_spelled, number_read, number_spelled}
use Rattle.imap_laws.proofs.QuotedTexts.{quoted_read, quoted_spelled}
use Rattle.imap_laws.specs.Spelling.{StopsKind, SpellsBare}
use Rattle.imap_syntax.specs.SpellingKeys.{BeginsAstring, BeginsArgument, BeginsAtom, BeginsNumber, BeginsDate, BeginsSet, BeginsSetArgument, BeginsName}

-- The first octet of a text that has one.
pub first_same : (word rest : List ℕ) → 0 < length word → slice_index (word ++ rest) 0 ≡ slice_index word 0
first_same [] rest some = absurd (omega (arith, some))
first_same (b ∷ bs) rest some = refl

and-left : (x y : Bool) → x && y ≡ true → x ≡ true
and-left true y h = refl
and-left false y h = h

first-of : (kind : ℕ → Bool) (word : List ℕ) → list_all kind word ≡ true → 0 < length word → kind (slice_index word 0) ≡ true
first-of kind [] all some = absurd (omega (arith, some))
first-of kind (b ∷ bs) all some = and-left (kind b) (list_all kind bs) all

-- The first octet of a bare text is of its kind.
pub bare_first : (kind : ℕ → Bool) (octets text rest : List ℕ) → SpellsBare kind octets text rest
    → kind (slice_index octets 0) ≡ true
bare_first kind octets text rest s =
    ap (λ l. kind (slice_index l 0)) s.first
    ∙ (ap kind (first_same text rest s.some) ∙ first-of kind text s.of_kind s.some)

no-quote : (b : ℕ) → is_astring_byte b ≡ true → (b == 34) ≡ false
no-quote b h = grind (arith, nat_tests)

no-brace : (b : ℕ) → is_astring_byte b ≡ true → (b == 123) ≡ false
no-brace b h = grind (arith, nat_tests)

-- A text is read.
pub astring_read : (octets text rest : List ℕ) → BeginsAstring octets text rest → astring_at octets ≡ Some (text, rest)
unfolding string_at
astring_read octets text rest (inl s) =
    let f : is_astring_byte (slice_index octets 0) ≡ true = bare_first is_astring_byte octets text rest s in
    rw (no-quote (slice_index octets 0) f) (rw (no-brace (slice_index octets 0) f) (bare_read is_astring_byte octets text rest s))
astring_read octets text rest (inr (inl s)) =
    let e : octets ≡ s.spelling ++ rest = s.first in
    let f : slice_index octets 0 ≡ 34 = ap (λ l. slice_index l 0) (s.first ∙ ap (λ l. l ++ rest) s.is.spelled) in
    rw f (ap quoted_at s.first ∙ quoted_read text s.spelling rest s.is)
astring_read octets text rest (inr (inr s)) =
    let f : slice_index octets 0 ≡ 123 = ap (λ l. slice_index l 0) (s.first ∙ ap (λ l. l ++ rest) s.is.spelled) in
    rw f (ap literal_at s.first ∙ literal_read text s.spelling rest s.is)

astring-by : (q l : Bool) (octets text rest : List ℕ)
    → (if q then quoted_at octets else if l then literal_at octets else run_at is_astring_byte octets) ≡ Some (text, rest)
    → BeginsAstring octets text rest
astring-by true l octets text rest h = inr (inl (quoted_spelled octets text rest h))
astring-by false true octets text rest h = inr (inr (literal_spelled octets text rest h))
astring-by false false octets text rest h = inl (bare_spelled is_astring_byte octets text rest h)

-- What is read as a text is one.
pub astring_spelled : (octets text rest : List ℕ) → astring_at octets ≡ Some (text, rest) → BeginsAstring octets text rest
unfolding string_at
astring_spelled octets text rest h =
    astring-by (slice_index octets 0 == 34) (slice_index octets 0 == 123) octets text rest h

-- The same of a text after a space.
pub argument_read : (octets text rest : List ℕ) → BeginsArgument octets text rest → argument_at octets ≡ Some (text, rest)
unfolding argument_at
argument_read octets text rest s = ap argument_at s.space ∙ astring_read s.behind text rest s.is

pub argument_spelled : (octets text rest : List ℕ) → argument_at octets ≡ Some (text, rest) → BeginsArgument octets text rest
unfolding argument_at
argument_spelled octets text rest h =
    let i = bind_some (byte_at 32 octets) astring_at (text, rest) h in
    record { behind = i.0; space = byte_some 32 octets i.0 i.1; is = astring_spelled i.0 text rest i.2 }

-- Of an atom.
pub atom_read : (octets word rest : List ℕ) → BeginsAtom octets word rest → atom_argument_at octets ≡ Some (word, rest)
unfolding atom_argument_at
atom_read octets word rest s = ap atom_argument_at s.space ∙ bare_read is_atom_byte s.behind word rest s.is

pub atom_spelled : (octets word rest : List ℕ) → atom_argument_at octets ≡ Some (word, rest) → BeginsAtom octets word rest
unfolding atom_argument_at
atom_spelled octets word rest h =
    let i = bind_some (byte_at 32 octets) (run_at is_atom_byte) (word, rest) h in
    record { behind = i.0; space = byte_some 32 octets i.0 i.1; is = bare_spelled is_atom_byte i.0 word rest i.2 }

-- Of a number.
number-same : (octets digits rest : List ℕ) (n : ℕ) → SpellsBare is_digit octets digits rest → number_of digits ≡ Some n
    → number_at octets ≡ Some (n, rest)
number-same octets digits rest n s counted =
    ap number_at s.first ∙ number_read digits rest n (subst (λ l. SpellsBare is_digit l digits rest) s.first s) counted

pub size_read : (octets : List ℕ) (n : ℕ) (rest : List ℕ) → BeginsNumber octets n rest
    → byte_at 32 octets >>= number_at ≡ Some (n, rest)
size_read octets n rest s =
    ap (λ l. byte_at 32 l >>= number_at) s.space ∙ number-same s.behind s.digits rest n s.is s.counted

pub size_spelled : (octets : List ℕ) (n : ℕ) (rest : List ℕ) → byte_at 32 octets >>= number_at ≡ Some (n, rest)
    → BeginsNumber octets n rest
size_spelled octets n rest h =
    let i = bind_some (byte_at 32 octets) number_at (n, rest) h in
    let d = number_spelled i.0 rest n i.2 in
    record { behind = i.0; digits = d.0; space = byte_some 32 octets i.0 i.1; is = d.1; counted = d.2 }

-- Of a date.
pub day_read : (octets : List ℕ) (date : Date) (rest : List ℕ) → BeginsDate octets date rest
    → date_argument_at octets ≡ Some (date, rest)
unfolding date_argument_at
day_read octets date rest s = ap date_argument_at s.space ∙ s.is

pub day_spelled : (octets : List ℕ) (date : Date) (rest : List ℕ) → date_argument_at octets ≡ Some (date, rest)
    → BeginsDate octets date rest
unfolding date_argument_at
day_spelled octets date rest h =
    let i = bind_some (byte_at 32 octets) date_at (date, rest) h in
    record { behind = i.0; space = byte_some 32 octets i.0 i.1; is = i.2 }

-- Of a set.
pub set_read : (octets : List ℕ) (set : List SetRange) (rest : List ℕ) → BeginsSet octets set rest
    → set_at octets ≡ Some (set, rest)
unfolding set_at
set_read octets set rest s = rw (bare_read is_set_byte octets s.word rest s.is) (rw s.ranges refl)

pub set_spelled : (octets : List ℕ) (set : List SetRange) (rest : List ℕ) → set_at octets ≡ Some (set, rest)
    → BeginsSet octets set rest
unfolding set_at
set_spelled octets set rest h =
    let w = bind_some (run_at is_set_byte octets) _ (set, rest) h in
    let r = bind_some (set_of w.0.0) _ (set, rest) w.2 in
    let e : (r.0, w.0.1) ≡ (set, rest) = cc in
    let t : w.0.1 ≡ rest = ap (λ (p : List SetRange × List ℕ). p.1) e in
    let m : r.0 ≡ set = ap (λ (p : List SetRange × List ℕ). p.0) e in
    record {
      word = w.0.0;
      is = subst (λ l. SpellsBare is_set_byte octets w.0.0 l) t (bare_spelled is_set_byte octets w.0.0 w.0.1 w.1);
      ranges = r.1 ∙ ap (λ (k : List SetRange). Some k) m;
    }

pub uid_read : (octets : List ℕ) (set : List SetRange) (rest : List ℕ) → BeginsSetArgument octets set rest
    → set_argument_at octets ≡ Some (set, rest)
unfolding set_argument_at
uid_read octets set rest s = ap set_argument_at s.space ∙ set_read s.behind set rest s.is

pub uid_spelled : (octets : List ℕ) (set : List SetRange) (rest : List ℕ) → set_argument_at octets ≡ Some (set, rest)
    → BeginsSetArgument octets set rest
unfolding set_argument_at
uid_spelled octets set rest h =
    let i = bind_some (byte_at 32 octets) set_at (set, rest) h in
    record { behind = i.0; space = byte_some 32 octets i.0 i.1; is = set_spelled i.0 set rest i.2 }

-- A keyword.
cut-same : (none : Bool) (n : ℕ) (octets text rest : List ℕ) → cut_by none n octets ≡ Some (text, rest)
    → (take n octets ≡ text) × (drop n octets ≡ rest)
cut-same true n octets text rest h = cc
cut-same false n octets text rest h =
    let e : (take n octets, drop n octets) ≡ (text, rest) = cc in
    (ap (λ (p : List ℕ × List ℕ). p.0) e, ap (λ (p : List ℕ × List ℕ). p.1) e)

pub name_read : (octets : List ℕ) (found : KeyName) (rest : List ℕ) → BeginsName octets found rest
    → key_name_at octets ≡ Some (found, rest)
unfolding key_name_at
name_read octets found rest s =
    let c = cut-same (prefix_len is_word_byte octets == 0) (prefix_len is_word_byte octets) octets s.word rest
    (bare_read is_word_byte octets s.word rest s.is) in
    let w : word_of octets ≡ s.word = c.0 in
    let b : behind_word octets ≡ rest = c.1 in
    ap (λ k. with_rest (behind_word octets) (key_name_of k)) w ∙ (rw s.names (ap (λ k. Some (found, k)) b))

rest-some : (behind rest : List ℕ) (o : Option KeyName) (found : KeyName) → with_rest behind o ≡ Some (found, rest)
    → (o ≡ Some found) × (behind ≡ rest)
rest-some behind rest None found h = cc
rest-some behind rest (Some k) found h =
    let e : (k, behind) ≡ (found, rest) = cc in
    (ap (λ (p : KeyName × List ℕ). Some p.0) e, ap (λ (p : KeyName × List ℕ). p.1) e)

word-some : (word : List ℕ) (found : KeyName) → key_name_of word ≡ Some found → 0 < length word
unfolding key_name_of
word-some [] found h = absurd (cc h)
word-some (b ∷ bs) found h = omega arith

pub name_spelled : (octets : List ℕ) (found : KeyName) (rest : List ℕ) → is_digit (slice_index octets 0) ≡ false
    → key_name_at octets ≡ Some (found, rest) → BeginsName octets found rest
unfolding key_name_at
name_spelled octets found rest d h =
    let p = rest-some (behind_word octets) rest (key_name_of (word_of octets)) found h in
    let r = is_run is_word_byte octets in
    let some : 0 < length (word_of octets) = word-some (word_of octets) found p.0 in
    let whole : octets ≡ word_of octets ++ behind_word octets = sym (take-append-drop (prefix_len is_word_byte octets) octets) in
    let f : slice_index octets 0 ≡ slice_index (word_of octets) 0
    = ap (λ l. slice_index l 0) whole ∙ first_same (word_of octets) (behind_word octets) some in
    record {
      word = word_of octets;
      is = record {
        of_kind = r.of_kind;
        some = some;
        first = whole ∙ ap (λ l. word_of octets ++ l) p.1;
        stops = subst (λ l. StopsKind is_word_byte l) p.1 r.stops;
      };
      starts = ap is_digit (sym f) ∙ d;
      names = p.0;
    }
