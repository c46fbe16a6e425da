-- An entry that was put into an ordered map, and taken out again.
use Rattle.std.proofs.Common.{◌≡◌, ◌==◌, arith, ℕ, Bool, true, false, cond, Option, Some, None, refl, sym, ◌∙◌, ap, subst, if◌then◌else◌}
use Rattle.std.specs.BTreeMap.{BTreeMap, is_at, UpdatesBy}
use Rattle.std.specs.declared.cmp.Ordering.{Ordering}
use Rattle.std.proofs.lemmas.Bool.Decides.{nat_tests}
use Rattle.arch_base.specs.Ids.{id_cmp, id_eq}
use Rattle.arch_base.specs.declared.ids.ObjectId.{ObjectId}
use Rattle.arch_base.specs.contracts.ids.ObjectIdOrd.TheImpl as order
use Rattle.arch_base.proofs.IdOrder.{derived, is_at-ids, id_eq-Decides, id_eq-flip, id_eq-refl}
use Rattle.arch_judge.specs.Indexes.{first_found, number_in}

-- A new value that was inserted and removed again leaves what was there.
pub back_again : {K X : Type 0} (t : Bool) (q id : K) (x : X) (found : K → Option X) (mid new : Option X) → (t ≡ true → q ≡ id) → found id ≡ None → mid ≡ (if t then Some x else found q) → new ≡ (if t then None else mid) → new ≡ found q
back_again true q id x found mid new same none put lost = lost ∙ sym none ∙ ap found (sym (same refl))
back_again false q id x found mid new same none put lost = lost ∙ put

chosen : {X : Type 0} (t u : Bool) (a b : X) → t ≡ u → cond t a b ≡ (if u then a else b)
chosen true true a b same = refl
chosen true false a b same = absurd (cc)
chosen false true a b same = absurd (cc)
chosen false false a b same = refl

-- A change of the map by its order is one of the number of one id.
pub changed : (old new : BTreeMap ObjectId ℕ) (id : ObjectId) (w : Option ℕ) → UpdatesBy order.ghosts.cmp (order.ghosts.cmp id) old new w → (q : ObjectId) → number_in new q ≡ (if id_eq q id then w else number_in old q)
changed old new id w updates q =
    let by_order : UpdatesBy id_cmp (id_cmp id) old new w = subst (λ (cmp : ObjectId → ObjectId → Ordering). UpdatesBy cmp (cmp id) old new w) derived updates in
    by_order.0 q ∙ chosen (is_at (id_cmp id) q) (id_eq q id) w (number_in old q) (is_at-ids id q ∙ id_eq-flip id q)

-- Inserting and removing a new blob id leaves a map with the same content.
pub taken_back : (blob : ObjectId) (n : ℕ) (old mid new : BTreeMap ObjectId ℕ) → number_in old blob ≡ None → UpdatesBy order.ghosts.cmp (order.ghosts.cmp blob) old mid (Some n) → UpdatesBy order.ghosts.cmp (order.ghosts.cmp blob) mid new None
    → (q : ObjectId) → number_in new q ≡ number_in old q
taken_back blob n old mid new none put lost q =
    back_again (id_eq q blob) q blob n (number_in old) (number_in mid q) (number_in new q) (id_eq-Decides q blob).0 none (changed old mid blob (Some n) put q) (changed mid new blob None lost q)

-- A value of a blob id that wasn't there.
pub fresh_put : (t : Bool) (n : ℕ) (found : Option ℕ) → (t ≡ true → found ≡ None) → (if t then Some n else found) ≡ first_found found (if t then Some n else None)
fresh_put true n found none = sym (ap (λ (f : Option ℕ). first_found f (Some n)) (none refl))
fresh_put false n None none = refl
fresh_put false n (Some m) none = refl

-- One of a blob id that was there.
pub kept_put : (t : Bool) (n : ℕ) (found : Option ℕ) → (t ≡ true → found ≡ None → ⊥) → found ≡ first_found found (if t then Some n else None)
kept_put true n None there = absurd (there refl refl)
kept_put false n None there = refl
kept_put t n (Some m) there = refl

-- A blob id that was put in last and is taken out again.
old_none : (found mid : Option ℕ) (n : ℕ) → mid ≡ Some n → mid ≡ first_found found (Some n) → (found ≡ Some n → ⊥) → found ≡ None
old_none None mid n is put other = refl
old_none (Some m) mid n is put other = absurd (other (sym put ∙ is))

undone_step : (t : Bool) (n : ℕ) (found mid new : Option ℕ) → mid ≡ first_found found (if t then Some n else None) → new ≡ (if t then None else mid) → (t ≡ true → found ≡ None) → new ≡ found
undone_step true n found mid new put lost none = lost ∙ sym (none refl)
undone_step false n None mid new put lost none = lost ∙ put
undone_step false n (Some m) mid new put lost none = lost ∙ put

stayed_step : (t : Bool) (n : ℕ) (found mid : Option ℕ) → mid ≡ first_found found (if t then Some n else None) → (t ≡ true → found ≡ None → ⊥) → mid ≡ found
stayed_step true n None mid put there = absurd (there refl refl)
stayed_step false n None mid put there = put
stayed_step t n (Some m) mid put there = put

module _ (old mid new : BTreeMap ObjectId ℕ) (blob : ObjectId) (n : ℕ) (puts : (q : ObjectId) → number_in mid q ≡ first_found (number_in old q) (if id_eq q blob then Some n else None)) (unseen : number_in old blob ≡ Some n → ⊥) where
  put_here : number_in mid blob ≡ first_found (number_in old blob) (Some n)
  put_here = puts blob ∙ ap (λ (t : Bool). first_found (number_in old blob) (if t then Some n else None)) (id_eq-refl blob blob refl)

  taken_out : number_in mid blob ≡ Some n → ((q : ObjectId) → number_in new q ≡ (if id_eq q blob then None else number_in mid q)) → (q : ObjectId) → number_in new q ≡ number_in old q
  taken_out its lost q = undone_step (id_eq q blob) n (number_in old q) (number_in mid q) (number_in new q) (puts q) (lost q)
      (λ yes. subst (λ (b : ObjectId). number_in old b ≡ None) (sym ((id_eq-Decides q blob).0 yes)) (old_none (number_in old blob) (number_in mid blob) n its put_here unseen))

  left_there : (number_in mid blob ≡ Some n → ⊥) → ((q : ObjectId) → number_in new q ≡ number_in mid q) → (q : ObjectId) → number_in new q ≡ number_in old q
  left_there other same q = same q
      ∙ stayed_step (id_eq q blob) n (number_in old q) (number_in mid q) (puts q)
      (λ yes none. other (put_here ∙ ap (λ (f : Option ℕ). first_found f (Some n)) (subst (λ (b : ObjectId). number_in old b ≡ None) ((id_eq-Decides q blob).0 yes) none)))

  of_option : (found : Option ℕ) → number_in mid blob ≡ found → ((number_in mid blob ≡ Some n → (q : ObjectId) → number_in new q ≡ (if id_eq q blob then None else number_in mid q))) → ((number_in mid blob ≡ Some n → ⊥) → (q : ObjectId) → number_in new q ≡ number_in mid q) → (q : ObjectId) → number_in new q ≡ number_in old q
  of_option None is its other = left_there (λ yes. (let wrong : None ≡ Some n = sym is ∙ yes in cc)) (other (λ yes. (let wrong : None ≡ Some n = sym is ∙ yes in cc)))
  of_option (Some m) is its other = by (m == n) refl where
    by : (t : Bool) → (m == n) ≡ t → (q : ObjectId) → number_in new q ≡ number_in old q
    by true test = let same : m ≡ n = grind (arith, nat_tests, test) in let here : number_in mid blob ≡ Some n = is ∙ ap Some same in taken_out here (its here)
    by false test = let apart : number_in mid blob ≡ Some n → ⊥ = (λ yes. (let both : Some m ≡ Some n = sym is ∙ yes in let same : m ≡ n = cc in let hit : (m == n) ≡ true = grind (arith, nat_tests, same) in let wrong : true ≡ false = sym hit ∙ test in cc)) in left_there apart (other apart)

  -- The blob ids are as they were before.
  all_back : ((number_in mid blob ≡ Some n → (q : ObjectId) → number_in new q ≡ (if id_eq q blob then None else number_in mid q))) → ((number_in mid blob ≡ Some n → ⊥) → (q : ObjectId) → number_in new q ≡ number_in mid q) → (q : ObjectId) → number_in new q ≡ number_in old q
  all_back its other = of_option (number_in mid blob) refl its other

-- The same through a map with the same content.
pub blobs_back : (old put mid new : BTreeMap ObjectId ℕ) (blob : ObjectId) (n : ℕ) → ((q : ObjectId) → number_in put q ≡ first_found (number_in old q) (if id_eq q blob then Some n else None)) → ((q : ObjectId) → number_in mid q ≡ number_in put q) → (number_in old blob ≡ Some n → ⊥)
    → (number_in mid blob ≡ Some n → (q : ObjectId) → number_in new q ≡ (if id_eq q blob then None else number_in mid q)) → ((number_in mid blob ≡ Some n → ⊥) → (q : ObjectId) → number_in new q ≡ number_in mid q) → (q : ObjectId) → number_in new q ≡ number_in old q
blobs_back old put mid new blob n puts same unseen its other = all_back old mid new blob n (λ q. same q ∙ puts q) unseen its other
