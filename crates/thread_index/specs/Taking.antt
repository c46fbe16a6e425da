-- Private: the steps of taking a row.
use Rattle.std.specs.Prelude.{◌≡◌, ◌⊎◌, ◌==◌, ◌+◌, ℕ, Bool, true, not, List, ◌++◌, length, take, Some}
use Rattle.std.specs.List.{filter}
use Rattle.std.specs.Ordering.{nat_cmp}
use Rattle.std.specs.Cmp.Lexicographic.{slice_cmp}
use Rattle.std.specs.BTreeSet.{BTreeSet, contains_by}
use Rattle.std.specs.Global.{Vec}
use Rattle.thread_model.specs.Members.{Among, Once}
use Rattle.thread_model.specs.Threads.{KeyedRow, Linked}
use Rattle.thread_model.specs.Labelling.{label_at, label_in}
use Rattle.thread_index.specs.Tables.{AreHolders}

-- Numbers without one.
abbrev pub all_but : ℕ → List ℕ → List ℕ
all_but n ns = filter (λ (m : ℕ). not (m == n)) ns

-- The others of some numbers than one, each once.
pub record AreOthers (ns : List ℕ) (n : ℕ) (others : List ℕ) : Type 0 where
  pub to : (m : ℕ) → Among others m → Among ns m × (m ≡ n → ⊥)
  pub from : (m : ℕ) → Among ns m → (m ≡ n → ⊥) → Among others m
  pub once : Once others

-- A number was put into a set, if it isn't a certain one.
pub record PutsOther (old new : List ℕ) (m n : ℕ) : Type 0 where
  pub to : (x : ℕ) → Among new x → Among old x ⊎ ((x ≡ m) × (x ≡ n → ⊥))
  pub kept : (x : ℕ) → Among old x → Among new x
  pub here : (m ≡ n → ⊥) → Among new m
  pub once : Once old → Once new

-- A number left the lists of some keys.
pub record LetGo (old new : List ℕ → List ℕ) (keys : List (List ℕ)) (n : ℕ) : Type 0 where
  pub less : (k : List ℕ) (m : ℕ) → Among (new k) m → Among (old k) m
  pub kept : (k : List ℕ) (m : ℕ) → Among (old k) m → (m ≡ n → ⊥) → Among (new k) m
  pub gone : (k : List ℕ) → Among keys k → Among (new k) n → ⊥

-- All pending numbers of a kind were moved to the end of a part.
pub record MovesPending (Kind : ℕ → Type 0) (pending pending' part part' : List ℕ) : Type 0 where
  pub xs : List ℕ
  pub is : part' ≡ part ++ xs
  pub from : (x : ℕ) → Among xs x → Kind x × Among pending x
  pub less : (x : ℕ) → Among pending' x → Among pending x
  pub split : (x : ℕ) → Among pending x → Among pending' x ⊎ Among xs x
  pub apart : (x : ℕ) → Among pending' x → Among xs x → ⊥
  pub gone : (x : ℕ) → Kind x → Among pending' x → ⊥
  pub size : length part' + length pending' ≡ length part + length pending
  pub once : Once pending'
  pub once_xs : Once xs

-- The numbers that have one of some keys.
abbrev pub HoldsOne : (List ℕ → List ℕ) → List (List ℕ) → ℕ → Type 0
HoldsOne holders keys x = (k : List ℕ) × Among keys k × Among (holders k) x

-- The numbers that share a key with the row of a number.
abbrev pub SharesKey : List KeyedRow → (List ℕ → List ℕ) → ℕ → ℕ → Type 0
SharesKey rows holders n x =
    (r : KeyedRow) × (k : List ℕ) × Among rows r × (r.0 ≡ n) × Among r.1 k × Among (holders k) x

-- A key is in a set.
abbrev pub has_seen : BTreeSet (Vec ℕ) → List ℕ → Bool
has_seen seen key = contains_by (λ (k : Vec ℕ). slice_cmp nat_cmp key k.items) seen

-- No pending number has a key that was seen.
pub record AreSeen (seen : BTreeSet (Vec ℕ)) (holders : List ℕ → List ℕ)
    (pending : List ℕ) : Type 0 where
  pub shut : (k : List ℕ) → has_seen seen k ≡ true
      → (x : ℕ) → Among (holders k) x → Among pending x → ⊥

-- A part of a thread that begins with one number. Its first numbers share no key with pending ones.
pub record IsThreadPart (rows : List KeyedRow) (holders : List ℕ → List ℕ) (pending pending' : List ℕ)
    (seed : ℕ) (part : List ℕ) (i : ℕ) : Type 0 where
  pub seeded : Among part seed
  pub from : (x : ℕ) → Among part x → (x ≡ seed) ⊎ Among pending x
  pub less : (x : ℕ) → Among pending' x → Among pending x
  pub split : (x : ℕ) → Among pending x → Among pending' x ⊎ Among part x
  pub apart : (x : ℕ) → Among pending' x → Among part x → ⊥
  pub closed : (n x : ℕ) → Among (take i part) n → SharesKey rows holders n x
      → Among pending' x → ⊥
  pub joined : (r s : KeyedRow) → Among rows r → Among part r.0 → Among rows s → s.0 ≡ seed
      → (r ≡ s) ⊎ Linked rows r s
  pub size : length part + length pending' ≡ 1 + length pending
  pub once : Once part
  pub once_pending : Once pending'

-- An index of the rows whose numbers aren't pending, which share no key with those that are.
pub record IsPartial (rows : List KeyedRow) (pending : List ℕ) (labels : List (ℕ × ℕ))
    (members : ℕ → List ℕ) (holders : List ℕ → List ℕ) : Type 0 where
  pub sound : (r s : KeyedRow) → Among rows r → (Among pending r.0 → ⊥)
      → Among rows s → (Among pending s.0 → ⊥)
      → (k : List ℕ) → Among r.1 k → Among s.1 k → label_in labels r.0 ≡ label_in labels s.0
  pub tight : (r s : KeyedRow) → Among rows r → (Among pending r.0 → ⊥)
      → Among rows s → (Among pending s.0 → ⊥)
      → label_in labels r.0 ≡ label_in labels s.0 → (r ≡ s) ⊎ Linked rows r s
  pub apart : (r s : KeyedRow) → Among rows r → (Among pending r.0 → ⊥)
      → Among rows s → Among pending s.0
      → (k : List ℕ) → Among r.1 k → Among s.1 k → ⊥
  pub labelled : (r : KeyedRow) → Among rows r → (Among pending r.0 → ⊥)
      → label_at labels r.0 ≡ Some (label_in labels r.0)
  pub in_list : (r : KeyedRow) → Among rows r → (Among pending r.0 → ⊥)
      → Among (members (label_in labels r.0)) r.0
  pub of_list : (l n : ℕ) → Among (members l) n → (r : KeyedRow) × Among rows r × (r.0 ≡ n)
      × (Among pending n → ⊥) × (label_in labels n ≡ l)
  pub once : (l : ℕ) → Once (members l)
  pub named : (r : KeyedRow) → Among rows r → (Among pending r.0 → ⊥)
      → (s : KeyedRow) × Among rows s × (Among pending s.0 → ⊥)
      × (s.0 ≡ label_in labels r.0) × (label_in labels s.0 ≡ label_in labels r.0)
  pub opened : (n : ℕ) → Among pending n → (r : KeyedRow) × Among rows r × (r.0 ≡ n)
  pub once_pending : Once pending
  pub has : AreHolders rows holders
