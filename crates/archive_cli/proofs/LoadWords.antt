-- The words of `load`: a count and a seed.
use Rattle.std.proofs.Common.{◌≡◌, ◌≢◌, ◌<◌, ℕ, List, [], ◌∷◌, codes, decimal}
use Rattle.archive_cli.specs.Words.{IsLoad, IsOneUpTo, AsksFor}
use Rattle.archive_cli.specs.declared.words.Job.{Job}
use Rattle.archive_cli.proofs.Grammar.{load_only, head-word, tail-words}

-- Words whose first spells no count ask for no job.
pub count-unread : (word other : List ℕ) → ((n : ℕ) → IsOneUpTo 20000 n → word ≢ decimal n) → (job : Job) → AsksFor (codes "load" ∷ word ∷ other ∷ []) job → ⊥
count-unread word other none job asked =
    let l = load_only (word ∷ other ∷ []) job asked in
    let both : word ∷ other ∷ [] ≡ decimal l.0 ∷ decimal l.1 ∷ [] = tail-words (codes "load") (codes "load") (word ∷ other ∷ []) (decimal l.0 ∷ decimal l.1 ∷ []) l.2.is in
    none l.0 l.2.range (head-word word (decimal l.0) (other ∷ []) (decimal l.1 ∷ []) both)

-- Nor do words whose second spells no seed.
pub seed-unread : (word other : List ℕ) → ((n : ℕ) → n < 18446744073709551616 → other ≢ decimal n) → (job : Job) → AsksFor (codes "load" ∷ word ∷ other ∷ []) job → ⊥
seed-unread word other none job asked =
    let l = load_only (word ∷ other ∷ []) job asked in
    let both : word ∷ other ∷ [] ≡ decimal l.0 ∷ decimal l.1 ∷ [] = tail-words (codes "load") (codes "load") (word ∷ other ∷ []) (decimal l.0 ∷ decimal l.1 ∷ []) l.2.is in
    none l.1 l.2.seed_range (head-word other (decimal l.1) [] [] (tail-words word (decimal l.0) (other ∷ []) (decimal l.1 ∷ []) both))

-- A count and a seed.
pub load-read : (word other : List ℕ) (count seed : ℕ) → IsOneUpTo 20000 count → word ≡ decimal count → seed < 18446744073709551616 → other ≡ decimal seed → IsLoad (codes "load" ∷ word ∷ other ∷ []) count seed
load-read word other count seed range is small also = record { is = both word other count seed is also; range = range; seed_range = small }
  where
    both : (w o : List ℕ) (n s : ℕ) → w ≡ decimal n → o ≡ decimal s → codes "load" ∷ w ∷ o ∷ [] ≡ codes "load" ∷ decimal n ∷ decimal s ∷ []
    both w o n s e f = cc
