-- The first candidate that isn't skipped decides.
use Rattle.std.proofs.Common.{◌⊎◌, inl, inr, ◌≡◌, ◌+◌, ◌^◌, ◌<◌, ℕ, zero, suc, List, length, Option, Some, None, refl, sym, ◌∙◌, ap, subst, arith}
use Rattle.mail_reader.specs.Ids.{own_id}
use Rattle.mail_reader.specs.Content.{content_id_of}
use Rattle.arch_model.specs.Archives.{Entry, Archive, owner, live}
use Rattle.arch_model.specs.Candidates.{met, made_id, with_made, made_choice, choice_from, choice_of, decided}
use Rattle.arch_model.specs.Laws.{candidate, kept_with, meeting, Decides, IsChosenAt, FirstDecides}
use Rattle.arch_model.specs.declared.choice.Meeting.{Meeting}
use Rattle.arch_model.specs.declared.choice.Meeting.TheVariants.{Free, Same, Other}
use Rattle.arch_model.specs.declared.choice.Choice.{Choice}
use Rattle.arch_model.specs.declared.choice.Choice.TheVariants.{Take, Repeat}
use Rattle.arch_model.proofs.Candidates.{free-last, met-other, below_or_at}
use Rattle.arch_model.proofs.MadeIds.{made-once}

module _ (entries : List Entry) (name text : List ℕ) (small : length entries < 2 ^ 63) where
  abbrev pub made_meets : ℕ → Meeting
  made_meets i = met (owner entries (made_id name text i)) (content_id_of text)

  abbrev MadeDecides : Choice → Type 0
  MadeDecides choice = (k : ℕ) × ((j : ℕ) → j < k → made_meets j ≡ Other) × Decides (made_meets k) (with_made name text k) choice

  pub last_one : (i : ℕ) → i ≡ length entries → ((j : ℕ) → j < i → made_meets j ≡ Other) → made_meets i ≡ Free
  last_one i at passed =
      let none : owner entries (made_id name text (length entries)) ≡ None =
      free-last entries (made_id name text) (λ j k b d e. made-once name text j k (omega (arith, b, small)) (omega (arith, d, small)) e)
      (λ j l. met-other (owner entries (made_id name text j)) (content_id_of text) (passed j (omega (arith, l, at)))) in
      ap (λ (n : ℕ). made_meets n) at ∙ ap (λ (o : Option Entry). met o (content_id_of text)) none

  made_step : (i left : ℕ) (m : Meeting) → made_meets i ≡ m → ((j : ℕ) → j < i → made_meets j ≡ Other) → (made_meets i ≡ Other → MadeDecides (made_choice entries name text (i + 1) left)) → MadeDecides (decided m (with_made name text i) (made_choice entries name text (i + 1) left))
  made_step i left Free is passed rest = (i, passed, subst (λ (m : Meeting). Decides m (with_made name text i) (Take (with_made name text i))) (sym is) refl)
  made_step i left (Same n) is passed rest = (i, passed, subst (λ (m : Meeting). Decides m (with_made name text i) (Repeat n)) (sym is) refl)
  made_step i left Other is passed rest = rest is

  made_first : (i left : ℕ) → i + left ≡ length entries → ((j : ℕ) → j < i → made_meets j ≡ Other) → MadeDecides (made_choice entries name text i left)
  made_first i zero at passed = (i, passed, subst (λ (m : Meeting). Decides m (with_made name text i) (Take (with_made name text i))) (sym (last_one i (omega (arith, at)) passed)) refl)
  made_first i (suc left) at passed =
      made_step i left (made_meets i) refl passed (λ other. made_first (i + 1) left (omega (arith, at)) (λ j l. below_or_at j i (λ k. made_meets k ≡ Other) passed other (omega (arith, l))))

  abbrev meets_with : Option (List ℕ) → ℕ → Meeting
  meets_with own k = met (owner entries (candidate name text own k)) (content_id_of text)

  abbrev FirstWith : Option (List ℕ) → Choice → Type 0
  FirstWith own choice = (k : ℕ) × ((j : ℕ) → j < k → meets_with own j ≡ Other) × Decides (meets_with own k) (kept_with name text own k) choice

  own_before : (id : List ℕ) (k j : ℕ) → meets_with (Some id) 0 ≡ Other → ((i : ℕ) → i < k → made_meets i ≡ Other) → j < suc k → meets_with (Some id) j ≡ Other
  own_before id k zero own made l = own
  own_before id k (suc j) own made l = made j (omega (arith, l))

  own_step : (id : List ℕ) (m : Meeting) (passed : Choice) → meets_with (Some id) 0 ≡ m → MadeDecides passed → FirstWith (Some id) (decided m text passed)
  own_step id Free passed is made = (0, λ j l. absurd (omega (arith, l)), subst (λ (m : Meeting). Decides m text (Take text)) (sym is) refl)
  own_step id (Same n) passed is made = (0, λ j l. absurd (omega (arith, l)), subst (λ (m : Meeting). Decides m text (Repeat n)) (sym is) refl)
  own_step id Other passed is made = (suc made.0, λ j l. own_before id made.0 j is made.1 l, made.2)

  first_with : (own : Option (List ℕ)) → FirstWith own (choice_from entries name text own)
  first_with None = made_first 0 (length entries) (omega arith) (λ j l. absurd (omega (arith, l)))
  first_with (Some id) = own_step id (met (owner entries id) (content_id_of text)) (made_choice entries name text 0 (length entries)) refl (made_first 0 (length entries) (omega arith) (λ j l. absurd (omega (arith, l))))

same_decision : (m : Meeting) (text : List ℕ) (c d : Choice) → Decides m text c → Decides m text d → c ≡ d
same_decision Free text c d h k = h ∙ sym k
same_decision (Same n) text c d h k = h ∙ sym k
same_decision Other text c d h k = absurd h

three : (j k : ℕ) → (j < k) ⊎ ((j ≡ k) ⊎ (k < j))
three zero zero = inr (inl refl)
three zero (suc k) = inl (omega arith)
three (suc j) zero = inr (inr (omega arith))
three (suc j) (suc k) = elim (three j k) [ inl l ↦ inl (omega (arith, l)) | inr r ↦ elim r [ inl e ↦ inr (inl (ap suc e)) | inr l ↦ inr (inr (omega (arith, l))) ] ]

module _ (a : Archive) (text : List ℕ) where
  abbrev kept_at : ℕ → List ℕ
  kept_at k = kept_with a.config.name text (own_id text) k

  undecided : (k : ℕ) (c : Choice) → meeting a text k ≡ Other → Decides (meeting a text k) (kept_at k) c → ⊥
  undecided k c other h = subst (λ (m : Meeting). Decides m (kept_at k) c) other h

  only : (j k : ℕ) (c d : Choice) → IsChosenAt a text j c → IsChosenAt a text k d → c ≡ d
  only j k c d h g = elim (three j k) [
    | inl l ↦ absurd (undecided j c (g.0 j l) h.1)
    | inr r ↦ elim r [
      | inl e ↦ same_decision (meeting a text k) (kept_at k) c d (subst (λ (i : ℕ). Decides (meeting a text i) (kept_at i) c) e h.1) g.1
      | inr l ↦ absurd (undecided k d (h.0 k l) g.1)
    ]
  ]

pub first-decides : FirstDecides
first-decides a text small =
    let f = first_with (live a.entries) a.config.name text small (own_id text) in
    let first : (k : ℕ) × IsChosenAt a text k (choice_of a text) = (f.0, (f.1, f.2)) in
    (first, λ k choice is. only a text k first.0 choice (choice_of a text) is first.1)
