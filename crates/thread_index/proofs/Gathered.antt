-- The loops of adding a row: touched labels, the target, the rows that are moved, the new label.
use Rattle.std.proofs.Common.{◌≡◌, ◌⊎◌, ◌+◌, ◌≤◌, ◌<◌, ℕ, Bool, List, [], ◌∷◌, ◌++◌, length, take, get_or, Some, if◌then◌else◌, refl, sym, ◌∙◌, ap, subst, inl, inr, arith, bytes_eq}
use Rattle.std.proofs.lemmas.Bool.{cases_eq, cases_Bool, eq-eqb, ne_eqb}
use Rattle.std.proofs.lemmas.Slice.Eq.{bytes_eq-Decides}
use Rattle.thread_model.specs.Members.{Among, Once}
use Rattle.thread_model.specs.Threads.{KeyedRow}
use Rattle.thread_model.specs.Labelling.{IsTouched, Sets, label_at, label_in}
use Rattle.thread_model.proofs.Members.{among-left, among-right, among-append, among-push, among-pushed, cases_among, take-cases, take-old, take-new, take-among}
use Rattle.thread_model.proofs.Numbers.{once-append}
use Rattle.thread_index.specs.Lists.{PutsKey}
use Rattle.thread_index.specs.Adding.{NotesLabel, IsLonger, MovesList, Gathers, GiveLabel, HeldBy}
use Rattle.thread_index.proofs.MapLists.{key-here, key-other}

pub touched-more : (rows : List KeyedRow) (labels : List (ℕ × ℕ)) (done later : List (List ℕ)) (key : List ℕ) (old new : List ℕ)
    → ((k : List ℕ) → Among later k → Among done k ⊎ (k ≡ key)) → ((k : List ℕ) → Among done k → Among later k) → Among later key
    → IsTouched rows (label_in labels) done old → NotesLabel rows labels key old new → IsTouched rows (label_in labels) later new
touched-more rows labels done later key old new cases kept here is notes = record {
  hit = λ s in_s k in_k in_later. elim (cases k in_later) [
    | inl a ↦ notes.kept (label_in labels s.0) (is.hit s in_s k in_k a)
    | inr e ↦ notes.hit s in_s (subst (Among s.1) e in_k)
  ];
  only = λ l in_l. elim (notes.only l in_l) [
    | inl a ↦ let x = is.only l a in (x.0, x.1, x.2, x.3, x.4, kept x.1 x.5)
    | inr x ↦ (x.0, key, x.1, x.2, x.3, here)
  ];
}

-- The same at so many keys of a list.
pub touched-take : (rows : List KeyedRow) (labels : List (ℕ × ℕ)) (keys : List (List ℕ)) (i : ℕ) (d : List ℕ) (old new : List ℕ) → i < length keys
    → IsTouched rows (label_in labels) (take i keys) old → NotesLabel rows labels (get_or keys i d) old new → IsTouched rows (label_in labels) (take (i + 1) keys) new
touched-take rows labels keys i d old new in' is notes =
    touched-more rows labels (take i keys) (take (i + 1) keys) (get_or keys i d) old new (λ k. take-cases keys i d k in') (λ k. take-old keys i d k in') (take-new keys i d in') is notes

-- The target of so many labels.
pub record IsTargetOf (members : ℕ → List ℕ) (touched done : List ℕ) (target : ℕ) : Type 0 where
  pub one : Among touched target
  pub most : (l : ℕ) → Among done l → length (members l) ≤ length (members target)

pub target-take : (members : ℕ → List ℕ) (touched : List ℕ) (i d target target' : ℕ) → i < length touched → IsTargetOf members touched (take i touched) target → IsLonger members target (get_or touched i d) target' → IsTargetOf members touched (take (i + 1) touched) target'
target-take members touched i d target target' in' is longer = record {
  one = elim longer.one [
    | inl e ↦ subst (Among touched) (sym e) is.one
    | inr e ↦ subst (Among touched) (sym e) (take-among touched (i + 1) (get_or touched i d) (take-new touched i d in'))
  ];
  most = λ l in_l. elim (take-cases touched i d l in' in_l) [
    | inl a ↦ let one : length (members l) ≤ length (members target) = is.most l a in let two = longer.first in omega arith
    | inr e ↦ subst (λ m. length (members m) ≤ length (members target')) (sym e) longer.second
  ];
}

-- One label more, which may have been there already.
module _ (old mid new : ℕ → List ℕ) (done later : List ℕ) (label target : ℕ) (moved moved' : List ℕ) (cases : (l : ℕ) → Among later l → Among done l ⊎ (l ≡ label)) (kept : (l : ℕ) → Among done l → Among later l) (here : Among later label) (is : Gathers old mid done target moved) (moves : MovesList mid new label target moved moved') where
  -- The label is the target: nothing changed.
  same-target : label ≡ target → Gathers old new later target moved'
  same-target own = let m = moves.stays own in record {
    emptied = λ l in_l other. elim (cases l in_l) [ inl a ↦ m.1 l ∙ is.emptied l a other | inr e ↦ absurd (other (e ∙ own)) ];
    stay = λ l f. m.1 l ∙ is.stay l (λ a. f (kept l a));
    from = λ n in_n. let x = is.from n (subst (λ ns. Among ns n) m.0 in_n) in (x.0, kept x.0 x.1, x.2, x.3);
    all = λ l n in_l other in_n. elim (cases l in_l) [ inl a ↦ subst (λ ns. Among ns n) (sym m.0) (is.all l n a other in_n) | inr e ↦ absurd (other (e ∙ own)) ];
    once = λ o a. subst Once (sym m.0) (is.once o a);
  }

  gone-here : (label ≡ target → ⊥) → new label ≡ []
  gone-here other = (moves.goes other).1 label ∙ ap (λ (t : Bool). if t then [] else mid label) (eq-eqb label label refl)

  gone-other : (label ≡ target → ⊥) → (l : ℕ) → (l ≡ label → ⊥) → new l ≡ mid l
  gone-other other l apart = (moves.goes other).1 l ∙ ap (λ (t : Bool). if t then [] else mid l) (ne_eqb label l (λ e. apart (sym e)))

  -- What a label still has is what it had.
  mid-old : (l n : ℕ) → (l ≡ target → ⊥) → Among (mid l) n → Among (old l) n
  mid-old l n other in_n = elim (cases_among done l) [
    | inl a ↦ absurd (subst (λ ns. Among ns n) (is.emptied l a other) in_n)
    | inr f ↦ subst (λ ns. Among ns n) (is.stay l (λ a. absurd (f a))) in_n
  ]

  moved-old : (n : ℕ) → (label ≡ target → ⊥) → Among moved' n → Among moved n ⊎ Among (mid label) n
  moved-old n other in_n = among-append moved (mid label) n (subst (λ ns. Among ns n) (moves.goes other).0 in_n)

  old-moved : (n : ℕ) → (label ≡ target → ⊥) → Among moved n → Among moved' n
  old-moved n other in_n = subst (λ ns. Among ns n) (sym (moves.goes other).0) (among-left moved (mid label) n in_n)

  mid-once : (label ≡ target → ⊥) → ((l : ℕ) → Once (old l)) → Once (mid label)
  mid-once other o = elim (cases_among done label) [
    | inl a ↦ subst Once (sym (is.emptied label a other)) tt
    | inr f ↦ subst Once (sym (is.stay label (λ a. absurd (f a)))) (o label)
  ]

  gather-all : (label ≡ target → ⊥) → (l n : ℕ) → Among later l → (l ≡ target → ⊥) → Among (old l) n → Among moved' n
  gather-all other l n in_l apart in_n = elim (cases_among done l) [
    | inl a ↦ old-moved n other (is.all l n a apart in_n)
    | inr f ↦ elim (cases l in_l) [
      | inl a ↦ absurd (f a)
      | inr e ↦ subst (λ ns. Among ns n) (sym (moves.goes other).0)
          (among-right moved (mid label) n (subst (λ m. Among (mid m) n) e (subst (λ ns. Among ns n) (sym (is.stay l (λ a. absurd (f a)))) in_n)))
    ]
  ]

  gather-emptied : (label ≡ target → ⊥) → (l : ℕ) → Among later l → (l ≡ target → ⊥) → new l ≡ []
  gather-emptied other l in_l apart = elim (cases_eq l label) [
    | inl e ↦ ap new e ∙ gone-here other
    | inr f ↦ elim (cases l in_l) [
      | inl a ↦ gone-other other l f ∙ is.emptied l a apart
      | inr e ↦ absurd (f e)
    ]
  ]

  gather-stay : (label ≡ target → ⊥) → (l : ℕ) → (Among later l → l ≡ target) → new l ≡ old l
  gather-stay other l f = elim (cases_eq l label) [
    | inl e ↦ absurd (other (sym e ∙ f (subst (Among later) (sym e) here)))
    | inr g ↦ gone-other other l g ∙ is.stay l (λ a. f (kept l a))
  ]

  gather-from : (label ≡ target → ⊥) → (n : ℕ) → Among moved' n → (l : ℕ) × Among later l × (l ≡ target → ⊥) × Among (old l) n
  gather-from other n in_n = elim (moved-old n other in_n) [
    | inl a ↦ let x = is.from n a in (x.0, kept x.0 x.1, x.2, x.3)
    | inr b ↦ (label, here, other, mid-old label n other b)
  ]

  gather-once : (label ≡ target → ⊥) → ((l : ℕ) → Once (old l)) → ((l m n : ℕ) → Among (old l) n → Among (old m) n → l ≡ m) → Once moved'
  gather-once other o apart = subst Once (sym (moves.goes other).0) (once-append moved (mid label) (is.once o apart) (mid-once other o) (λ n in_moved in_mid.
      let x = is.from n in_moved in
      let e : x.0 ≡ label = apart x.0 label n x.3 (mid-old label n other in_mid) in
      subst (λ ns. Among ns n) (is.emptied label (subst (Among done) e x.1) other) in_mid))

  pub gathers-more : Gathers old new later target moved'
  gathers-more = elim (cases_eq label target) [
    | inl own ↦ same-target own
    | inr other ↦ record {
      emptied = gather-emptied other;
      stay = gather-stay other;
      from = gather-from other;
      all = gather-all other;
      once = gather-once other;
    }
  ]

pub gathers-take : (old mid new : ℕ → List ℕ) (touched : List ℕ) (i d target : ℕ) (moved moved' : List ℕ) → i < length touched → Gathers old mid (take i touched) target moved → MovesList mid new (get_or touched i d) target moved moved' → Gathers old new (take (i + 1) touched) target moved'
gathers-take old mid new touched i d target moved moved' in' is moves =
    gathers-more old mid new (take i touched) (take (i + 1) touched) (get_or touched i d) target moved moved' (λ l. take-cases touched i d l in') (λ l. take-old touched i d l in') (take-new touched i d in') is moves

pub gives-take : (old mid new : List (ℕ × ℕ)) (ns : List ℕ) (i d label : ℕ) → i < length ns → GiveLabel old mid (take i ns) label → Sets mid new (get_or ns i d) label → GiveLabel old new (take (i + 1) ns) label
gives-take old mid new ns i d label in' is sets = record {
  given = λ n in_n. elim (cases_eq (get_or ns i d) n) [
    | inl e ↦ sets n ∙ ap (λ (t : Bool). if t then Some label else label_at mid n) (eq-eqb (get_or ns i d) n e)
    | inr f ↦ elim (take-cases ns i d n in' in_n) [
      | inl a ↦ sets n ∙ ap (λ (t : Bool). if t then Some label else label_at mid n) (ne_eqb (get_or ns i d) n f) ∙ is.given n a
      | inr e ↦ absurd (f (sym e))
    ]
  ];
  kept = λ n f.
      sets n
      ∙ ap (λ (t : Bool). if t then Some label else label_at mid n) (ne_eqb (get_or ns i d) n (λ e. f (subst (Among (take (i + 1) ns)) e (take-new ns i d in'))))
      ∙ is.kept n (λ a. f (take-old ns i d n in' a));
}

pub held-one : (old new : List ℕ → List ℕ) (key : List ℕ) (n : ℕ) → PutsKey old new key (old key ++ n ∷ []) → HeldBy old new (key ∷ []) n
held-one old new key n puts = record {
  kept = λ k m h. elim (cases_Bool (bytes_eq k key)) [
    | inl t ↦
        let e : k ≡ key = (bytes_eq-Decides k key).0 t in
        subst (λ ns. Among ns m) (sym (ap new e ∙ key-here old new key (old key ++ n ∷ []) puts)) (among-left (old key) (n ∷ []) m (subst (λ q. Among (old q) m) e h))
    | inr f ↦ subst (λ ns. Among ns m) (sym (key-other old new key (old key ++ n ∷ []) puts k f)) h
  ];
  new' = λ k in_k. elim in_k [
    | inl e ↦ subst (λ ns. Among ns n) (sym (ap new e ∙ key-here old new key (old key ++ n ∷ []) puts)) (among-pushed (old key) n)
    | inr none ↦ absurd none
  ];
  cases = λ k m h. elim (cases_Bool (bytes_eq k key)) [
    | inl t ↦
        let e : k ≡ key = (bytes_eq-Decides k key).0 t in
        elim (among-push (old key) n m (subst (λ ns. Among ns m) (ap new e ∙ key-here old new key (old key ++ n ∷ []) puts) h)) [
          | inl a ↦ inl (subst (λ q. Among (old q) m) (sym e) a)
          | inr is ↦ inr (is, inl e)
        ]
    | inr f ↦ inl (subst (λ ns. Among ns m) (key-other old new key (old key ++ n ∷ []) puts k f) h)
  ];
}

pub held-take : (old mid new : List ℕ → List ℕ) (keys : List (List ℕ)) (i : ℕ) (d : List ℕ) (n : ℕ) → i < length keys → HeldBy old mid (take i keys) n → HeldBy mid new (get_or keys i d ∷ []) n → HeldBy old new (take (i + 1) keys) n
held-take old mid new keys i d n in' is one = record {
  kept = λ k m h. one.kept k m (is.kept k m h);
  new' = λ k in_k. elim (take-cases keys i d k in' in_k) [
    | inl a ↦ one.kept k n (is.new' k a)
    | inr e ↦ one.new' k (inl e)
  ];
  cases = λ k m h. elim (one.cases k m h) [
    | inl a ↦ elim (is.cases k m a) [
      | inl b ↦ inl b
      | inr b ↦ inr (b.0, take-old keys i d k in' b.1)
    ]
    | inr b ↦ inr (b.0, elim b.1 [ inl e ↦ subst (Among (take (i + 1) keys)) (sym e) (take-new keys i d in') | inr none ↦ absurd none ])
  ];
}
