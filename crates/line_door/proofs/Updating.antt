-- The law of cutting for a door that gives updates.
use Rattle.std.proofs.Common.{◌≡◌, ◌<◌, ℕ, zero, suc, List, ◌++◌, Option, Some, None, Bool, true, false, refl, sym, ap, subst, ◌∙◌, arith}
use Rattle.line_door.specs.Acts.{Said, Departure, Plain}
use Rattle.line_door.specs.Plain.{silent, said_after, then_say, plain_from, plain}
use Rattle.line_door.specs.Cuts.{CutDoor}
use Rattle.line_door.specs.Making.{says}
use Rattle.line_door.specs.Updates.{update, plain_updated, UpdateDoor, UpdatedCutLaw}
use Rattle.line_door.proofs.Cutting.{then-none, then-some, said_after-then, at-request, at-rest, enough, cut}

module _ {H A : Type 0} where
  -- What is said after two acts in order.
  then-then : (s : Said H A) (f g : A → H → Said H A) (o : Option H) → s.next ≡ o → then_say (then_say s f) g ≡ then_say s (λ b k. then_say (f b k) g)
  then-then s f g None e = ap (λ (t : Said H A). then_say t g) (then-none s f e) ∙ then-none s g e ∙ sym (then-none s (λ b k. then_say (f b k) g) e)
  then-then s f g (Some k) e =
      ap (λ (t : Said H A). then_say t g) (then-some s f k e)
      ∙ said_after-then s.words (f s.after k) g (f s.after k).next refl
      ∙ sym (then-some s (λ b k. then_say (f b k) g) k e)

  -- Only the session that is left matters.
  then-same : (s : Said H A) (f g : A → H → Said H A) (o : Option H) → s.next ≡ o → ((k : H) → s.next ≡ Some k → f s.after k ≡ g s.after k) → then_say s f ≡ then_say s g
  then-same s f g None e same = then-none s f e ∙ sym (then-none s g e)
  then-same s f g (Some k) e same = then-some s f k e ∙ ap (said_after s.words) (same k e) ∙ sym (then-some s g k e)

module _ {H A : Type 0} (said : A → H → Departure → Said H A) (is_request : H → Bool) (more : List ℕ → H → H) (size : H → ℕ) (door : CutDoor said is_request more size) where
  -- What is left after all whole requests is a rest.
  left-by : (n : ℕ) (a : A) (h k : H) (b : Bool) (o : Option H) → is_request h ≡ b → (said a h Plain).next ≡ o → (plain_from said is_request (suc n) a h).next ≡ Some k
      → ((j : H) → size j < size h → (plain_from said is_request n (said a h Plain).after j).next ≡ Some k → is_request k ≡ false) → is_request k ≡ false
  left-by n a h k false o e is left later =
      let silent_is = at-rest said is_request more size (suc n) a h e in
      let same : Some h ≡ Some k = ap (λ (t : Said H A). t.next) (sym silent_is) ∙ left in
      let here : h ≡ k = cc same in
      subst (λ (x : H). is_request x ≡ false) here e
  left-by n a h k true None e is left later =
      let closed = at-request said is_request more size n a h e ∙ then-none (said a h Plain) (plain_from said is_request n) is in
      let none : None ≡ Some k = sym is ∙ ap (λ (t : Said H A). t.next) (sym closed) ∙ left in
      absurd (cc none)
  left-by n a h k true (Some j) e is left later =
      let went = at-request said is_request more size n a h e ∙ then-some (said a h Plain) (plain_from said is_request n) j is in
      later j (door.shorter a h j e is) (ap (λ (t : Said H A). t.next) (sym went) ∙ left)

  left-rest : (n : ℕ) (a : A) (h k : H) → size h < n → (plain_from said is_request n a h).next ≡ Some k → is_request k ≡ false
  left-rest zero a h k l left = absurd (omega arith)
  left-rest (suc n) a h k l left = left-by n a h k (is_request h) (said a h Plain).next refl refl left (λ j shorter then_left. left-rest n (said a h Plain).after j k (omega arith) then_left)

  plain-left : (a : A) (h k : H) → (plain said is_request size a h).next ≡ Some k → is_request k ≡ false
  unfolding plain
  plain-left a h k left = left-rest (suc (size h)) a h k (omega arith) left

  module _ (updated : A → H → H) (tells : A → H → List ℕ) (idle : UpdateDoor said is_request more size updated tells) where
    -- A request after an update says what the update told less.
    asked-same : (n m : ℕ) (b : A) (words : List ℕ) (s t : Said H A) (o : Option H) → t.next ≡ o → s ≡ said_after words t → ((j : H) → t.next ≡ Some j → plain_from said is_request n t.after j ≡ plain_from said is_request m t.after j)
        → then_say s (plain_from said is_request n) ≡ said_after words (then_say t (plain_from said is_request m))
    asked-same n m b words s t o e is same =
        ap (λ (x : Said H A). then_say x (plain_from said is_request n)) is
        ∙ said_after-then words t (plain_from said is_request n) o e
        ∙ ap (said_after words) (then-same t (plain_from said is_request n) (plain_from said is_request m) o e same)

    asked : (q : List ℕ) (b : A) (k : H) → is_request k ≡ false → is_request (more q k) ≡ true
        → plain_from said is_request (suc (size (more q k))) b (more q k) ≡ said_after (tells b k) (plain_from said is_request (suc (size (more q (updated b k)))) b (more q (updated b k)))
    asked q b k rest request =
        let request_then : is_request (more q (updated b k)) ≡ true = idle.asks q b k rest ∙ request in
        let answer = idle.answers q b k rest request in
        at-request said is_request more size (size (more q k)) b (more q k) request
        ∙ asked-same (size (more q k)) (size (more q (updated b k))) b (tells b k) (said b (more q k) Plain) (said b (more q (updated b k)) Plain) (said b (more q (updated b k)) Plain).next refl (sym answer)
        (λ j next.
        enough said is_request more size door (size (more q k)) (size (more q (updated b k))) (said b (more q (updated b k)) Plain).after j
        (door.shorter b (more q k) j request (ap (λ (t : Said H A). t.next) (sym answer) ∙ next))
        (door.shorter b (more q (updated b k)) j request_then next))
        ∙ ap (said_after (tells b k)) (sym (at-request said is_request more size (size (more q (updated b k))) b (more q (updated b k)) request_then))

    says-same : (b : A) (one two : H) (first second both : List ℕ) → one ≡ two → first ++ second ≡ both → says b two both ≡ said_after first (says b one second)
    says-same b one two first second both e f = λ i. says b (sym e i) (sym f i)

    -- A rest is updated twice, or first and then answered.
    twice : (q : List ℕ) (b : A) (k : H) → is_request k ≡ false → (t : Bool) → is_request (more q k) ≡ t
        → then_say (plain_from said is_request (suc (size (more q k))) b (more q k)) (update said is_request more size updated tells)
        ≡ said_after (tells b k) (then_say (plain_from said is_request (suc (size (more q (updated b k)))) b (more q (updated b k))) (update said is_request more size updated tells))
    twice q b k rest true e =
        ap (λ (t : Said H A). then_say t (update said is_request more size updated tells)) (asked q b k rest e)
        ∙ said_after-then (tells b k) (plain_from said is_request (suc (size (more q (updated b k)))) b (more q (updated b k))) (update said is_request more size updated tells) (plain_from said is_request (suc (size (more q (updated b k)))) b (more q (updated b k))).next refl
    twice q b k rest false e =
        ap (λ (t : Said H A). then_say t (update said is_request more size updated tells)) (at-rest said is_request more size (suc (size (more q k))) b (more q k) e)
        ∙ says-same b (updated b (more q (updated b k))) (updated b (more q k)) (tells b k) (tells b (more q (updated b k))) (tells b (more q k)) (idle.again q b k rest e) (idle.told q b k rest e)
        ∙ ap (λ (t : Said H A). said_after (tells b k) (then_say t (update said is_request more size updated tells)))
        (sym (at-rest said is_request more size (suc (size (more q (updated b k)))) b (more q (updated b k)) (idle.asks q b k rest ∙ e)))

    then-updated : (q : List ℕ) (b : A) (k : H) → is_request k ≡ false
        → plain_updated said is_request more size updated tells b (more q k) ≡ then_say (update said is_request more size updated tells b k) (λ c j. plain_updated said is_request more size updated tells c (more q j))
    unfolding plain
    then-updated q b k rest = twice q b k rest (is_request (more q k)) refl

    -- Feeding `p` and then `q`, with the update of the session after each, is feeding both at once and one update.
    pub updated-cut : UpdatedCutLaw said is_request more size updated tells
    updated-cut a h p q =
        ap (λ (s : Said H A). then_say s (update said is_request more size updated tells)) (cut said is_request more size door a h p q)
        ∙ then-then (plain said is_request size a (more p h)) (λ b k. plain said is_request size b (more q k)) (update said is_request more size updated tells) (plain said is_request size a (more p h)).next refl
        ∙ then-same (plain said is_request size a (more p h)) (λ b k. plain_updated said is_request more size updated tells b (more q k))
        (λ b k. then_say (update said is_request more size updated tells b k) (λ c j. plain_updated said is_request more size updated tells c (more q j))) (plain said is_request size a (more p h)).next refl
        (λ k next. then-updated q (plain said is_request size a (more p h)).after k (plain-left a (more p h) k next))
        ∙ sym (then-then (plain said is_request size a (more p h)) (update said is_request more size updated tells) (λ c j. plain_updated said is_request more size updated tells c (more q j)) (plain said is_request size a (more p h)).next refl)
