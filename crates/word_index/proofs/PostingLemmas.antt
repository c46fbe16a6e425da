-- The numbers of words after a change.
use Rattle.std.proofs.Common.{◌≡◌, ℕ, zero, suc, ◌+◌, ◌<◌, ◌≤◌, Bool, false, ◌&&◌, ◌||◌, List, [], ◌∷◌, length, get_or, take, Result, Ok, Err, OnErr, refl, sym, ap, subst, ◌∙◌, arith}
use Rattle.std.specs.Ordering.{nat_cmp}
use Rattle.std.specs.BTreeMap.{is_at}
use Rattle.word_index.specs.Kept.{has_number}
use Rattle.word_index.specs.Postings.{Postings, posted, IsListOf, WordGains, SamePosted, PutsAll, MayPut}
use Rattle.word_index.proofs.Bools.{or_none, and_none, or_more}
use Rattle.word_index.proofs.ListLemmas.{has_number-more, has_number-take, rising-none}

-- A word without a set has no numbers.
none_beyond : (sets : Postings) (word n : ℕ) → length sets ≤ word → posted sets word n ≡ false
none_beyond [] word n beyond = refl
none_beyond (s ∷ sets) zero n beyond = absurd (omega (arith, beyond))
none_beyond (s ∷ sets) (suc word) n beyond = none_beyond sets word n (omega (arith, beyond))

pub listed_none : (sets : Postings) (word : ℕ) (list : List ℕ) → length sets ≤ word → list ≡ [] → IsListOf list (posted sets word)
listed_none sets word list beyond nil =
    let is : IsListOf [] (posted sets word) = record { rising = rising-none; has = λ n. sym (none_beyond sets word n beyond) } in
    subst (λ (l : List ℕ). IsListOf l (posted sets word)) (sym nil) is

pub puts_all-more : (old mid new : Postings) (words : List ℕ) (i n : ℕ) → i < length words → PutsAll old mid (take i words) n → WordGains mid new (get_or words i 0) n → PutsAll old new (take (i + 1) words) n
puts_all-more old mid new words i n h all one w m =
    let at = is_at (nat_cmp n) m in
    let word = get_or words i 0 in
    one w m ∙ ap (λ (b : Bool). b || (is_at (nat_cmp word) w && at)) (all w m)
    ∙ or_more (posted old w m) (has_number (take i words) w) (is_at (nat_cmp word) w) at
    ∙ ap (λ (b : Bool). posted old w m || (b && at)) (sym (has_number-more words i w h))

-- What holds in any case holds of an error.
pub on_err : {T E P : Type 0} (r : Result T E) → P → OnErr r P
on_err (Ok x) p = tt
on_err (Err e) p = p

-- A call that ran out of memory in between.
pub may_put : (old mid new : Postings) (words : List ℕ) (i n : ℕ) → PutsAll old mid (take i words) n → SamePosted mid new → MayPut old new words n
may_put old mid new words i n all same =
    record {
      others = λ w m none.
          same w m ∙ all w m ∙ ap (λ (b : Bool). posted old w m || (b && is_at (nat_cmp n) m)) (has_number-take words i w none) ∙ or_none (posted old w m);
      rest = λ w m other.
          same w m ∙ all w m ∙ ap (λ (b : Bool). posted old w m || (has_number (take i words) w && b)) other
          ∙ ap (λ (b : Bool). posted old w m || b) (and_none (has_number (take i words) w))
          ∙ or_none (posted old w m);
    }
