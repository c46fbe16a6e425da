-- A query after one more term.
use Rattle.std.specs.Prelude.{◌==◌, if◌then◌else◌, OnOk, IfErr}
use Rattle.std.proofs.Common.{◌≡◌, ℕ, Bool, true, false, not, cond, ◌&&◌, List, [], ◌∷◌, ◌++◌, drop, Option, Some, None, option_map, Result, Ok, Err, refl, sym, ap, subst, ◌∙◌, append_assoc, arith}
use Rattle.std.proofs.lemmas.Bool.Decides.{nat_tests}
use Rattle.std.proofs.lemmas.List.{append-nil}
use Rattle.std.specs.List.{filter, filter_map, flat_map, cons_option}
use Rattle.text_words.specs.Words.{words_of}
use Rattle.query_lang.specs.Terms.{starts, after, is_plain, plain_words, prefixed_words}
use Rattle.query_lang.specs.Dates.{range_of}
use Rattle.query_lang.specs.Queries.{days_of, range_before, GivesQuery}
use Rattle.query_lang.specs.Asking.{with_terms, AddsTerm, AsksDays}
use Rattle.query_lang.specs.declared.query.Query.{Query}
use Rattle.query_lang.specs.declared.query.QueryRefusal.{QueryRefusal}
use Rattle.query_lang.specs.declared.query.QueryRefusal.TheVariants.{BadRange, NoMemory}

-- A term starts with one letter.
starts-only : (x y : ℕ) → (x == y) ≡ false → (term : List ℕ) → starts x term ≡ true → starts y term ≡ false
starts-only x y apart [] h = refl
starts-only x y apart (a ∷ []) h = refl
starts-only x y apart (a ∷ b ∷ rest) h = grind (arith, nat_tests)

-- A term that has a rest starts with the letter.
starts-from : (letter : ℕ) (term text : List ℕ) → after letter term ≡ Some text → starts letter term ≡ true
starts-from letter term text h = go (starts letter term) h
  where
    go : (b : Bool) → (if b then Some (drop 2 term) else None) ≡ Some text → b ≡ true
    go true k = refl
    go false k = absurd (cc)

starts-none : (letter : ℕ) (term : List ℕ) → after letter term ≡ None → starts letter term ≡ false
starts-none letter term h = go (starts letter term) h
  where
    go : (b : Bool) → (if b then Some (drop 2 term) else None) ≡ None → b ≡ false
    go true k = absurd (cc)
    go false k = refl

-- A query of these words, whose days go on with those that were found.
abbrev with_days : List (List ℕ) → List (List ℕ) → List (List ℕ) → List (List ℕ) → List ℕ → List ℕ → Query
with_days any subject from body days more = record { any = any; subject = subject; from = from; body = body; days = days ++ more }

abbrev built : List (List ℕ) → List (List ℕ) → List (List ℕ) → List (List ℕ) → List ℕ → Option (List ℕ) → Option Query
built any subject from body days found = option_map (with_days any subject from body days) found

-- The query after a term and further terms, by what the term starts with.
abbrev rest_if : Bool → List ℕ → Option (List ℕ)
rest_if b term = if b then Some (drop 2 term) else None

abbrev seen : Query → List ℕ → List (List ℕ) → Bool → Bool → Bool → Bool → Option Query
seen q term ts s f b d =
    built (q.any ++ flat_map words_of (cond (not s && not f && not b && not d) (term ∷ filter is_plain ts) (filter is_plain ts)))
    (q.subject ++ flat_map words_of (cons_option (rest_if s term) (filter_map (after 115) ts)))
    (q.from ++ flat_map words_of (cons_option (rest_if f term) (filter_map (after 102) ts)))
    (q.body ++ flat_map words_of (cons_option (rest_if b term) (filter_map (after 98) ts)))
    q.days
    (days_of (cons_option (rest_if d term) (filter_map (after 100) ts)))

seen-is : (q : Query) (term : List ℕ) (ts : List (List ℕ)) (s f b d : Bool) → starts 115 term ≡ s → starts 102 term ≡ f → starts 98 term ≡ b → starts 100 term ≡ d → with_terms q (term ∷ ts) ≡ seen q term ts s f b d
seen-is q term ts s f b d is_s is_f is_b is_d =
    ap (λ (x : Bool). seen q term ts x (starts 102 term) (starts 98 term) (starts 100 term)) is_s
    ∙ (ap (λ (x : Bool). seen q term ts s x (starts 98 term) (starts 100 term)) is_f
    ∙ (ap (λ (x : Bool). seen q term ts s f x (starts 100 term)) is_b
    ∙ ap (λ (x : Bool). seen q term ts s f b x) is_d))

-- The rest of a term is what stands after its prefix.
rest-is : (letter : ℕ) (term text : List ℕ) → after letter term ≡ Some text → drop 2 term ≡ text
rest-is letter term text h = go (starts letter term) h
  where
    go : (b : Bool) → (if b then Some (drop 2 term) else None) ≡ Some text → drop 2 term ≡ text
    go true k = cc
    go false k = absurd (cc)

step_any : (q : Query) (term : List ℕ) (ts : List (List ℕ)) → after 115 term ≡ None → after 102 term ≡ None → after 98 term ≡ None → after 100 term ≡ None → with_terms q (term ∷ ts) ≡ with_terms (record q { any = q.any ++ words_of term }) ts
step_any q term ts s f b d =
    seen-is q term ts false false false false (starts-none 115 term s) (starts-none 102 term f) (starts-none 98 term b) (starts-none 100 term d)
    ∙ ap (λ (l : List (List ℕ)). built l (q.subject ++ prefixed_words 115 ts) (q.from ++ prefixed_words 102 ts) (q.body ++ prefixed_words 98 ts) q.days (days_of (filter_map (after 100) ts)))
    (sym (append_assoc q.any (words_of term) (plain_words ts)))

-- The query after a term `d:`, by the range that its text spells.
abbrev ranged : Query → List (List ℕ) → Option (ℕ × ℕ) → Option Query
ranged q ts found = built (q.any ++ plain_words ts) (q.subject ++ prefixed_words 115 ts) (q.from ++ prefixed_words 102 ts) (q.body ++ prefixed_words 98 ts) q.days (range_before found (days_of (filter_map (after 100) ts)))

step_range : (q : Query) (term text : List ℕ) (ts : List (List ℕ)) → after 100 term ≡ Some text → with_terms q (term ∷ ts) ≡ ranged q ts (range_of text)
step_range q term text ts is =
    let d = starts-from 100 term text is in
    seen-is q term ts false false false true (starts-only 100 115 refl term d) (starts-only 100 102 refl term d) (starts-only 100 98 refl term d) d
    ∙ ap (λ (t : List ℕ). ranged q ts (range_of t)) (rest-is 100 term text is)

days_step : (any subject from body : List (List ℕ)) (days : List ℕ) (range : ℕ × ℕ) (found : Option (List ℕ)) → built any subject from body days (range_before (Some range) found) ≡ built any subject from body (days ++ range.0 ∷ range.1 ∷ []) found
days_step any subject from body days range None = refl
days_step any subject from body days range (Some more) =
    ap (λ (l : List ℕ). let q : Query = record { any = any; subject = subject; from = from; body = body; days = l } in Some q) (sym (append_assoc days (range.0 ∷ range.1 ∷ []) more))

step_days : (q : Query) (term text : List ℕ) (range : ℕ × ℕ) (ts : List (List ℕ)) → after 100 term ≡ Some text → range_of text ≡ Some range → with_terms q (term ∷ ts) ≡ with_terms (record q { days = q.days ++ range.0 ∷ range.1 ∷ [] }) ts
step_days q term text range ts is found =
    step_range q term text ts is ∙ ap (ranged q ts) found
    ∙ days_step (q.any ++ plain_words ts) (q.subject ++ prefixed_words 115 ts) (q.from ++ prefixed_words 102 ts) (q.body ++ prefixed_words 98 ts) q.days range (days_of (filter_map (after 100) ts))

step_bad : (q : Query) (term text : List ℕ) (ts : List (List ℕ)) → after 100 term ≡ Some text → range_of text ≡ None → with_terms q (term ∷ ts) ≡ None
step_bad q term text ts is bad = step_range q term text ts is ∙ ap (ranged q ts) bad

-- What a call that ran out of memory leaves is free.
abbrev free : (T : Type 0) (old : Query) (term : List ℕ) (e : QueryRefusal) (new : Query) → e ≡ NoMemory → AddsTerm {T = T} old term (Err e) new
free T old term e new is = subst (λ (x : QueryRefusal). AddsTerm {T = T} old term (Err x) new) (sym is) tt

pub asks_any : {T : Type 0} (old : Query) (term : List ℕ) (r : Result T QueryRefusal) (list : List (List ℕ)) → None ≡ after 115 term → None ≡ after 102 term → None ≡ after 98 term → None ≡ after 100 term → OnOk r (list ≡ old.any ++ words_of term) → IfErr r (λ e. e ≡ NoMemory)
    → AddsTerm old term r (record old { any = list })
asks_any old term (Ok x) list s f b d ok err = λ ts. step_any old term ts (sym s) (sym f) (sym b) (sym d) ∙ ap (λ (l : List (List ℕ)). with_terms (record old { any = l }) ts) (sym ok)
asks_any {T = T} old term (Err e) list s f b d ok err = free T old term e (record old { any = list }) err

-- The days of a term's range were appended, or the term is a bad range.
pub asks_days : {T : Type 0} (old : Query) (term text : List ℕ) (r : Result T QueryRefusal) (list : List ℕ) → Some text ≡ after 100 term → AsksDays old.days text r list → AddsTerm old term r (record old { days = list })
asks_days old term text (Ok x) list is asked = λ ts. step_days old term text asked.0 ts (sym is) asked.1 ∙ ap (λ (l : List ℕ). with_terms (record old { days = l }) ts) (sym asked.2)
asks_days old term text (Err BadRange) list is bad = λ ts. step_bad old term text ts (sym is) bad
asks_days old term text (Err NoMemory) list is asked = tt

-- A query without further terms.
pub with_terms-none : (q : Query) → with_terms q [] ≡ Some q
with_terms-none q = rw (append-nil q.any, append-nil q.subject, append-nil q.from, append-nil q.body, append-nil q.days) refl

-- A term that is refused makes the whole text no query.
pub refused_by : (T : Type 0) (old new : Query) (term : List ℕ) (ts : List (List ℕ)) (e : QueryRefusal) (wanted : Option Query) → with_terms old (term ∷ ts) ≡ wanted → AddsTerm {T = T} old term (Err e) new → GivesQuery (Err e) wanted
refused_by T old new term ts BadRange wanted is asked = sym is ∙ asked ts
refused_by T old new term ts NoMemory wanted is asked = tt
