-- What a filter of entries by their text leaves.
use Rattle.std.proofs.Common.{inl, inr, ◌≡◌, ◌≢◌, ◌==◌, ℕ, Bool, true, false, not, List, [], ◌∷◌, Some, None, if◌then◌else◌, refl, ap, ◌∙◌, sym}
use Rattle.std.specs.Str.{bytes_eq}
use Rattle.std.proofs.lemmas.Slice.Eq.{bytes_eq-Decides}
use Rattle.arch_model.specs.Archives.{Entry, text_of, without_text}
use Rattle.archive_laws.specs.Purges.{IsAmong, AreSome}

-- Texts that the test tells apart differ, and those that differ are told apart.
apart : (text own : List ℕ) → bytes_eq text own ≡ false → own ≢ text
apart text own is same = let yes : bytes_eq text own ≡ true = (bytes_eq-Decides text own).1 (sym same) in absurd (let wrong : false ≡ true = sym is ∙ yes in cc)

-- The entries that are left of one more, by its test.
abbrev left : List ℕ → Bool → Entry → List Entry → List Entry
left text test e es = if not test then e ∷ without_text es text else without_text es text

gone_step : (text : List ℕ) (test : Bool) (e : Entry) (es : List Entry) (f : Entry) → bytes_eq text e.text ≡ test
    → (IsAmong (without_text es text) f → f.text ≢ text) → IsAmong (left text test e es) f → f.text ≢ text
gone_step text true e es f is rest among = rest among
gone_step text false e es f is rest (inl same) = λ own. apart text e.text is (ap (λ (g : Entry). g.text) same ∙ own)
gone_step text false e es f is rest (inr among) = rest among

-- No entry that is left has the text.
pub none_left : (text : List ℕ) (es : List Entry) (f : Entry) → IsAmong (without_text es text) f → f.text ≢ text
none_left text [] f among = absurd among
none_left text (e ∷ es) f among = gone_step text (bytes_eq text e.text) e es f refl (none_left text es f) among

kept_step : (text : List ℕ) (test : Bool) (e : Entry) (es : List Entry) (f : Entry) → bytes_eq text e.text ≡ test → f.text ≢ text
    → (IsAmong es f → IsAmong (without_text es text) f) → IsAmong (e ∷ es) f → IsAmong (left text test e es) f
kept_step text true e es f is other rest (inl same) = absurd (other (sym (ap (λ (g : Entry). g.text) same) ∙ sym ((bytes_eq-Decides text e.text).0 is)))
kept_step text true e es f is other rest (inr among) = rest among
kept_step text false e es f is other rest (inl same) = inl same
kept_step text false e es f is other rest (inr among) = inr (rest among)

-- Each entry with another text is left.
pub others_left : (text : List ℕ) (es : List Entry) (f : Entry) → IsAmong es f → f.text ≢ text → IsAmong (without_text es text) f
others_left text [] f among other = absurd among
others_left text (e ∷ es) f among other = kept_step text (bytes_eq text e.text) e es f refl other (λ more. others_left text es f more other) among

-- One more in front of both, or of the second ones alone.
some_later : (fs : List Entry) (e : Entry) (es : List Entry) → AreSome fs es → AreSome fs (e ∷ es)
some_later [] e es are = tt
some_later (f ∷ fs) e es are = inr are

some_step : (text : List ℕ) (test : Bool) (e : Entry) (es : List Entry) → AreSome (without_text es text) es → AreSome (left text test e es) (e ∷ es)
some_step text true e es rest = some_later (without_text es text) e es rest
some_step text false e es rest = inl (refl, rest)

-- What is left stands in the order of before.
pub left_in_order : (text : List ℕ) (es : List Entry) → AreSome (without_text es text) es
left_in_order text [] = tt
left_in_order text (e ∷ es) = some_step text (bytes_eq text e.text) e es (left_in_order text es)

has_step : (t : Bool) (n : ℕ) (text : List ℕ) (e : Entry) (es : List Entry) → (text_of es n ≡ Some text → (f : Entry) × IsAmong es f × (f.text ≡ text))
    → (if t then Some e.text else text_of es n) ≡ Some text → (f : Entry) × IsAmong (e ∷ es) f × (f.text ≡ text)
has_step true n text e es rest is = (e, inl refl, cc)
has_step false n text e es rest is = let found = rest is in (found.0, inr found.1, found.2)

-- A text under a number is that of an entry.
pub has_entry_of : (n : ℕ) (text : List ℕ) (es : List Entry) → text_of es n ≡ Some text → (f : Entry) × IsAmong es f × (f.text ≡ text)
has_entry_of n text [] is = absurd (let wrong : None ≡ Some text = is in cc)
has_entry_of n text (e ∷ es) is = has_step (e.number == n) n text e es (has_entry_of n text es) is

shown_step : (text other : List ℕ) (test t : Bool) (n : ℕ) (e : Entry) (es : List Entry) → bytes_eq text e.text ≡ test → (e.number == n) ≡ t → other ≢ text
    → (text_of es n ≡ Some other → text_of (without_text es text) n ≡ Some other)
    → (if t then Some e.text else text_of es n) ≡ Some other → text_of (left text test e es) n ≡ Some other
shown_step text other true true n e es is at apart_is rest shows = absurd (apart_is (let own : e.text ≡ other = cc in sym own ∙ sym ((bytes_eq-Decides text e.text).0 is)))
shown_step text other true false n e es is at apart_is rest shows = rest shows
shown_step text other false true n e es is at apart_is rest shows = ap (λ (b : Bool). if b then Some e.text else text_of (without_text es text) n) at ∙ shows
shown_step text other false false n e es is at apart_is rest shows = ap (λ (b : Bool). if b then Some e.text else text_of (without_text es text) n) at ∙ rest shows

-- Another text under a number stays under it.
pub stays_shown : (text other : List ℕ) (n : ℕ) (es : List Entry) → other ≢ text → text_of es n ≡ Some other → text_of (without_text es text) n ≡ Some other
stays_shown text other n [] apart_is shows = shows
stays_shown text other n (e ∷ es) apart_is shows = shown_step text other (bytes_eq text e.text) (e.number == n) n e es refl refl apart_is (stays_shown text other n es apart_is) shows

old_step : (text other : List ℕ) (test t : Bool) (n : ℕ) (e : Entry) (es : List Entry) → (e.number == n) ≡ t
    → (text_of (without_text es text) n ≡ Some other → (first : List ℕ) × (text_of es n ≡ Some first))
    → text_of (left text test e es) n ≡ Some other → (first : List ℕ) × ((if t then Some e.text else text_of es n) ≡ Some first)
old_step text other test true n e es at rest shows = (e.text, refl)
old_step text other true false n e es at rest shows = rest shows
old_step text other false false n e es at rest shows = rest (sym (ap (λ (b : Bool). if b then Some e.text else text_of (without_text es text) n) at) ∙ shows)

-- A number that is left with a text had one.
pub had_text : (text other : List ℕ) (n : ℕ) (es : List Entry) → text_of (without_text es text) n ≡ Some other → (first : List ℕ) × (text_of es n ≡ Some first)
had_text text other n [] shows = (other, shows)
had_text text other n (e ∷ es) shows = old_step text other (bytes_eq text e.text) (e.number == n) n e es refl (had_text text other n es) shows
