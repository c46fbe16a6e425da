-- Clean texts and names at the front of bytes.
use Rattle.std.proofs.Common.{◌≡◌, ◌≢◌, ℕ, Bool, true, false, List, [], ◌∷◌, ◌++◌, refl, sym, ap, subst, ◌∙◌, arith}
use Rattle.std.proofs.lemmas.List.{append_assoc, append_cancel_right}
use Rattle.std.proofs.lemmas.Bool.{and_parts}
use Rattle.std.specs.List.{list_all}
use Rattle.git_objects.specs.CleanText.{IsCleanText, is_clean_byte}
use Rattle.git_objects.specs.Fronts.{Lacks, Begins, NoByte}
use Rattle.git_objects.specs.Commits.{text_part, name_part}
use Rattle.git_objects.proofs.Cleaning.{IsCleanText-parts}
use Rattle.git_objects.proofs.Splitting.{NoByte-append, NoByte-at, parted-once}

-- If each byte passes a test, no byte fails it.
NoByte-passed : (p : ℕ → Bool) (c : ℕ) (text : List ℕ) → p c ≡ false → list_all p text ≡ true → NoByte c text
NoByte-passed p c [] fails all = tt
NoByte-passed p c (b ∷ text) fails all =
    let parts = and_parts (p b) (list_all p text) all in
    (λ e. let same : p b ≡ p c = ap p e in cc (same, parts.0, fails), NoByte-passed p c text fails parts.1)

-- Clean text doesn't contain a byte that it can't hold.
pub NoByte-clean : (c : ℕ) (text : List ℕ) → is_clean_byte c ≡ false → IsCleanText text → NoByte c text
NoByte-clean c [] fails h = tt
NoByte-clean c (b ∷ text) fails h = NoByte-passed is_clean_byte c (b ∷ text) fails (IsCleanText-parts (b ∷ text) (omega arith) h).0

-- Bytes without the byte that ends a text don't start with one.
pub text-none : (end : ℕ) (bytes : List ℕ) → NoByte end bytes → Lacks IsCleanText (text_part end) bytes
text-none end bytes h = λ text rest valid is. NoByte-at end text rest (subst (NoByte end) is h)

-- Bytes don't start with a text if the bytes before its end aren't clean.
pub text-unclean : (end : ℕ) (bytes text rest : List ℕ) → is_clean_byte end ≡ false → NoByte end text → bytes ≡ text ++ end ∷ rest
    → (IsCleanText text → ⊥) → Lacks IsCleanText (text_part end) bytes
text-unclean end bytes text rest fails h e unclean = λ other more valid is.
    unclean (subst IsCleanText (sym (parted-once end text other rest more h (NoByte-clean end other fails valid) (sym e ∙ is)).0) valid)

-- Otherwise those bytes are the text.
pub text-found : (end : ℕ) (bytes text rest : List ℕ) → is_clean_byte end ≡ false → NoByte end text → bytes ≡ text ++ end ∷ rest
    → IsCleanText text → Begins IsCleanText (text_part end) bytes text rest
text-found end bytes text rest fails h e clean = record {
  valid_one = clean;
  spelled = e;
  only = λ other more valid is. parted-once end text other rest more h (NoByte-clean end other fails valid) (sym e ∙ is);
}

-- A name and its space are split from what follows at the bracket.
name-apart : (name rest : List ℕ) → name_part name rest ≡ (name ++ 32 ∷ []) ++ 60 ∷ rest
name-apart name rest = sym (append_assoc name (32 ∷ []) (60 ∷ rest))

-- A name and its space contain no bracket.
NoByte-name : (name : List ℕ) → IsCleanText name → NoByte 60 (name ++ 32 ∷ [])
NoByte-name name h = NoByte-append 60 name (32 ∷ []) (NoByte-clean 60 name refl h) (λ e. omega (arith, e), tt)

-- Bytes without a bracket don't start with a name.
pub name-none : (bytes : List ℕ) → NoByte 60 bytes → Lacks IsCleanText name_part bytes
name-none bytes h = λ name rest valid is. NoByte-at 60 (name ++ 32 ∷ []) rest (subst (NoByte 60) (is ∙ name-apart name rest) h)

-- The bytes before the bracket are a name and a space.
name-before : (bytes front rest name more : List ℕ) → NoByte 60 front → bytes ≡ front ++ 60 ∷ rest → IsCleanText name → bytes ≡ name_part name more
    → (front ≡ name ++ 32 ∷ []) × (rest ≡ more)
name-before bytes front rest name more h e valid is =
    parted-once 60 front (name ++ 32 ∷ []) rest more h (NoByte-name name valid) (sym e ∙ is ∙ name-apart name more)

-- Bytes without a space before the bracket don't start with a name.
pub name-joined : (bytes front rest : List ℕ) → NoByte 60 front → bytes ≡ front ++ 60 ∷ rest → ((name : List ℕ) → front ≢ name ++ 32 ∷ [])
    → Lacks IsCleanText name_part bytes
name-joined bytes front rest h e none = λ name more valid is. none name (name-before bytes front rest name more h e valid is).0

-- Bytes don't start with a name if it isn't clean.
pub name-unclean : (bytes front rest name : List ℕ) → NoByte 60 front → bytes ≡ front ++ 60 ∷ rest → front ≡ name ++ 32 ∷ []
    → (IsCleanText name → ⊥) → Lacks IsCleanText name_part bytes
name-unclean bytes front rest name h e f unclean = λ other more valid is.
    let same = append_cancel_right name other (32 ∷ []) (sym f ∙ (name-before bytes front rest other more h e valid is).0) in
    unclean (subst IsCleanText (sym same) valid)

-- Otherwise those bytes are the name.
pub name-found : (bytes front rest name : List ℕ) → NoByte 60 front → bytes ≡ front ++ 60 ∷ rest → front ≡ name ++ 32 ∷ []
    → IsCleanText name → Begins IsCleanText name_part bytes name rest
name-found bytes front rest name h e f clean = record {
  valid_one = clean;
  spelled = e ∙ ap (λ l. l ++ 60 ∷ rest) f ∙ sym (name-apart name rest);
  only = λ other more valid is.
      let parts = name-before bytes front rest other more h e valid is in
      (append_cancel_right name other (32 ∷ []) (sym f ∙ parts.0), parts.1);
}
