-- Where rows stand: the spots rise, and are just those of the rows.
use Rattle.std.proofs.Common.{◌≡◌, ℕ, List, [], ◌∷◌, refl, sym, ap, subst, inl, inr}
use Rattle.std.specs.Prelude.{◌⊎◌}
use Rattle.std.specs.declared.cmp.Ordering.{Ordering}
use Rattle.std.specs.declared.cmp.Ordering.TheVariants.{Less, Equal, Greater}
use Rattle.std.specs.Ordering.{match_ordering}
use Rattle.std.specs.BTreeSet.{insert_key}
use Rattle.ranked_set.proofs.SortedKeys.{sorted-insert, sorted_nil}
use Rattle.mail_forms.specs.declared.row.Row.{Row}
use Rattle.thread_model.specs.Members.{Among}
use Rattle.overview_index.specs.Laws.{AreSpots}
use Rattle.overview_index.specs.Listings.{spot_of, spot_cmp, spots}
use Rattle.overview_index.specs.declared.spot.Spot.{Spot}
use Rattle.overview_index.proofs.Orders.{spots_total, exact_spots}

-- The spots after one more are that one and those before.
among-inserted : (xs : List Spot) (k x : Spot) → Among (insert_key spot_cmp xs k) x → (x ≡ k) ⊎ Among xs x
among-inserted [] k x h = elim h [ inl e ↦ inl e | inr none ↦ absurd none ]
among-inserted (y ∷ ys) k x h = step (spot_cmp k y) h (λ later. among-inserted ys k x later)
  where
    step : (r : Ordering) → Among (match_ordering r (k ∷ y ∷ ys) (y ∷ ys) (y ∷ insert_key spot_cmp ys k)) x → (Among (insert_key spot_cmp ys k) x → (x ≡ k) ⊎ Among ys x) → (x ≡ k) ⊎ Among (y ∷ ys) x
    step Less (inl e) ih = inl e
    step Less (inr m) ih = inr m
    step Equal m ih = inr m
    step Greater (inl e) ih = inr (inl e)
    step Greater (inr m) ih = elim (ih m) [ inl e ↦ inl e | inr n ↦ inr (inr n) ]

among-new : (xs : List Spot) (k : Spot) → Among (insert_key spot_cmp xs k) k
among-new [] k = inl refl
among-new (y ∷ ys) k = step (spot_cmp k y) refl (among-new ys k)
  where
    step : (r : Ordering) → spot_cmp k y ≡ r → Among (insert_key spot_cmp ys k) k → Among (match_ordering r (k ∷ y ∷ ys) (y ∷ ys) (y ∷ insert_key spot_cmp ys k)) k
    step Less e ih = inl refl
    step Equal e ih = inl (exact_spots k y e)
    step Greater e ih = inr ih

among-kept : (xs : List Spot) (k x : Spot) → Among xs x → Among (insert_key spot_cmp xs k) x
among-kept [] k x h = absurd h
among-kept (y ∷ ys) k x h = step (spot_cmp k y) h (λ later. among-kept ys k x later)
  where
    step : (r : Ordering) → Among (y ∷ ys) x → (Among ys x → Among (insert_key spot_cmp ys k) x) → Among (match_ordering r (k ∷ y ∷ ys) (y ∷ ys) (y ∷ insert_key spot_cmp ys k)) x
    step Less m ih = inr m
    step Equal m ih = m
    step Greater (inl e) ih = inl e
    step Greater (inr m) ih = inr (ih m)

pub are-spots : (rows : List (ℕ × Row)) → AreSpots rows (spots rows)
are-spots [] = record { rise = sorted_nil spot_cmp; from = λ spot h. absurd h; all = λ e h. absurd h }
are-spots (e ∷ rows) =
    let ih = are-spots rows in
    record {
      rise = sorted-insert spots_total (spot_of e.1) (spots rows) ih.rise;
      from = λ spot h. from_step ih spot (among-inserted (spots rows) (spot_of e.1) spot h);
      all = λ f h. all_step ih f h;
    }
  where
    from_step : AreSpots rows (spots rows) → (spot : Spot) → (spot ≡ spot_of e.1) ⊎ Among (spots rows) spot → (f : ℕ × Row) × Among (e ∷ rows) f × (spot ≡ spot_of f.1)
    from_step ih spot (inl same) = (e, inl refl, same)
    from_step ih spot (inr m) = (let found = ih.from spot m in (found.0, inr found.1, found.2))

    all_step : AreSpots rows (spots rows) → (f : ℕ × Row) → Among (e ∷ rows) f → Among (insert_key spot_cmp (spots rows) (spot_of e.1)) (spot_of f.1)
    all_step ih f (inl same) = subst (λ (s : Spot). Among (insert_key spot_cmp (spots rows) (spot_of e.1)) s) (ap (λ (g : ℕ × Row). spot_of g.1) (sym same)) (among-new (spots rows) (spot_of e.1))
    all_step ih f (inr m) = among-kept (spots rows) (spot_of e.1) (spot_of f.1) (ih.all f m)
