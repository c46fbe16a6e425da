-- Sequence numbers that are appended, and parts of lists.
use Rattle.std.proofs.Common.{◌≡◌, ◌≤◌, ◌++◌, ℕ, List, [], ◌∷◌, length, take, drop, Result, Ok, Err, is_ok, OnOk, sym, ap, subst, ◌∙◌, arith, append-nil, append_assoc, if◌then◌else◌}
use Rattle.std.specs.List.{All}
use Rattle.std.proofs.lemmas.List.{take_all, drop_all, take-append-drop}
use Rattle.std.proofs.lemmas.List.Elements.{All-push}
use Rattle.known_uids.specs.Gone.{IsSequence}

pub pushed-ok : {E : Type 0} (r : Result Unit E) (old new : List ℕ) (k : ℕ) (ks : List ℕ) → new ≡ (if is_ok r then old ++ k ∷ [] else old) → ks ≡ k ∷ [] → OnOk r (new ≡ old ++ ks)
pushed-ok (Ok done) old new k ks pushed is = pushed ∙ ap (λ js. old ++ js) (sym is)
pushed-ok (Err why) old new k ks pushed is = tt

pub pushed-all : {E : Type 0} (r : Result Unit E) (old new : List ℕ) (k count : ℕ) → new ≡ (if is_ok r then old ++ k ∷ [] else old) → 1 ≤ k → k ≤ count → All (IsSequence count) old → All (IsSequence count) new
pushed-all (Ok done) old new k count pushed least most all = subst (All (IsSequence count)) (sym pushed) (All-push (IsSequence count) old k all (record { least = least; most = most }))
pushed-all (Err why) old new k count pushed least most all = subst (All (IsSequence count)) (sym pushed) all

pub joined-ok : {E : Type 0} (r : Result Unit E) (old mid new back front all : List ℕ) → mid ≡ old ++ back → all ≡ back ++ front → OnOk r (new ≡ mid ++ front) → OnOk r (new ≡ old ++ all)
joined-ok (Ok done) old mid new back front all first is second = second ∙ ap (λ ks. ks ++ front) first ∙ append_assoc old back front ∙ ap (λ ks. old ++ ks) (sym is)
joined-ok (Err why) old mid new back front all first is second = tt

-- A list in two parts.
pub in-parts : (n : ℕ) (uids front back : List ℕ) → front ≡ take n uids → back ≡ drop n uids → uids ≡ front ++ back
in-parts n uids front back front_is back_is = sym (ap (λ ks. ks ++ back) front_is ∙ ap (λ ks. take n uids ++ ks) back_is ∙ take-append-drop n uids)

-- A list that is written as a whole.
pub all-written : (len : ℕ) (new old : List ℕ) → length new ≡ length old → len ≡ length old → take len (new ++ drop (length new) old) ≡ new
all-written len new old same is =
    ap (λ ks. take len (new ++ ks)) (drop_all (length new) old (omega (arith, same))) ∙ ap (take len) (append-nil new) ∙ take_all len new (omega (arith, same, is))
