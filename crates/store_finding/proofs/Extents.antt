-- Where the entries lie that are joined.
use Rattle.std.specs.Prelude.{◌≡◌, ◌<◌, ◌≤◌, ℕ, List, [], ◌∷◌, ◌++◌}
use Rattle.std.specs.List.{AllByRecursion}
use Rattle.std.proofs.Common.{sym, subst, arith}
use Rattle.arch_model.proofs.ValidArchives.{all_weaker}
use Rattle.root_slots.specs.declared.root.Root.{Root}
use Rattle.epoch_file.specs.declared.entry.Seen.{Seen}
use Rattle.epoch_file.specs.Lying.{LieIn, tree_end}
use Rattle.store_finding.specs.declared.entries.StoredEntry.{StoredEntry}
use Rattle.store_finding.specs.Extents.{AreIn, AreNamed, ComesAfter, LieFrom}

-- What holds of all holds of all with one more.
pub all_more : {A : Type 0} (P : A → Type 0) (xs : List A) (x : A) → AllByRecursion P xs → P x → AllByRecursion P (xs ++ x ∷ [])
all_more P [] x all one = (one, tt)
all_more P (y ∷ ys) x all one = (all.0, all_more P ys x all.1 one)

-- One more entry after all others.
pub lie_more : (epoch from : ℕ) (es : List StoredEntry) (e : StoredEntry) → LieFrom epoch from es → ComesAfter epoch from e → AllByRecursion (λ (f : StoredEntry). ComesAfter f.epoch (tree_end f.seen) e) es → e.seen.at ≤ e.seen.text_at → LieFrom epoch from (es ++ e ∷ [])
lie_more epoch from [] e lie first after text = (first, text, tt)
lie_more epoch from (f ∷ es) e lie first after text = (lie.0, lie.1, lie_more f.epoch (tree_end f.seen) es e lie.2 after.0 after.1 text)

-- Entries of an epoch that are joined to those before it lie after them.
pub record AreJoinedTo (epoch from : ℕ) (lengths : ℕ → ℕ) (entries : List StoredEntry) : Type 0 where
  pub are : AreIn lengths entries
  pub last : AllByRecursion (λ (e : StoredEntry). (e.epoch ≤ epoch) × (e.epoch ≡ epoch → tree_end e.seen ≤ from)) entries

pub joined_none : (epoch : ℕ) (lengths : ℕ → ℕ) (es : List StoredEntry) → AllByRecursion (λ (e : StoredEntry). e.epoch < epoch) es → AreIn lengths es → AreJoinedTo epoch 0 lengths es
joined_none epoch lengths es below are = record {
  are = are;
  last = all_weaker (λ (e : StoredEntry). e.epoch < epoch) (λ (e : StoredEntry). (e.epoch ≤ epoch) × (e.epoch ≡ epoch → tree_end e.seen ≤ 0)) es (λ e less. (omega (arith, less), λ same. absurd (omega (arith, less, same)))) below;
}

pub joined_more : (most epoch from : ℕ) (lengths : ℕ → ℕ) (es : List StoredEntry) (number : ℕ) (s : Seen) (ss : List Seen) → most ≡ lengths epoch → LieIn from most (s ∷ ss) → AreJoinedTo epoch from lengths es → AreJoinedTo epoch (tree_end s) lengths (es ++ record { number = number; epoch = epoch; seen = s } ∷ [])
joined_more most epoch from lengths es number s ss most_is lie old =
    let e : StoredEntry = record { number = number; epoch = epoch; seen = s } in
    let at = lie.0.at in
    let text = lie.0.text in
    let ends = lie.0.ends in
    record {
      are = record {
        lie = lie_more 0 0 es e old.are.lie (omega arith, λ same. omega arith)
            (all_weaker (λ (f : StoredEntry). (f.epoch ≤ epoch) × (f.epoch ≡ epoch → tree_end f.seen ≤ from)) (λ (f : StoredEntry). ComesAfter f.epoch (tree_end f.seen) e) es (λ f so. (so.0, λ same. (let less = so.1 same in omega (arith, less, at)))) old.last) text;
        ends = all_more (λ (f : StoredEntry). tree_end f.seen ≤ lengths f.epoch) es e old.are.ends (omega (arith, ends, most_is));
      };
      last = all_more (λ (f : StoredEntry). (f.epoch ≤ epoch) × (f.epoch ≡ epoch → tree_end f.seen ≤ tree_end s)) es e
          (all_weaker (λ (f : StoredEntry). (f.epoch ≤ epoch) × (f.epoch ≡ epoch → tree_end f.seen ≤ from)) (λ (f : StoredEntry). (f.epoch ≤ epoch) × (f.epoch ≡ epoch → tree_end f.seen ≤ tree_end s)) es (λ f so. (so.0, λ same. (let less = so.1 same in omega (arith, less, at, text)))) old.last)
          (omega arith, λ same. omega arith);
    }

-- Without an entry all is named.
pub named_none : (root : Root) (es : List StoredEntry) → es ≡ [] → AreNamed root es
named_none root es none = subst (AreNamed root) (sym none) (record { lie = tt; ends = tt })
