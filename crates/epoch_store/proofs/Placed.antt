-- Where the next entry is written after what is planned.
use Rattle.std.specs.Prelude.{◌≡◌, ◌⊎◌, ◌+◌, ◌<◌, ◌≤◌, ℕ, [], length, None}
use Rattle.std.proofs.Common.{◌∙◌, sym, ap, subst, inl, inr, arith}
use Rattle.arch_base.specs.declared.config.Config.{Config}
use Rattle.arch_model.specs.Archives.{Archive, in_epoch}
use Rattle.arch_model.specs.Delivery.{last_epoch}
use Rattle.arch_model.specs.Epochs.{last_commit}
use Rattle.arch_model.specs.Validity.{IsArchive}
use Rattle.root_slots.specs.declared.root.Root.{Root}
use Rattle.store_planning.specs.declared.next.End.{End}
use Rattle.store_planning.specs.Planning.{IsPlaceAfter, Planning, length_after}
use Rattle.store_finding.specs.Recovery.{bytes_in}
use Rattle.store_planning.specs.Dropping.{IsStoreEnd}
use Rattle.store_finding.specs.Kept.{stored_after}
use Rattle.epoch_store.proofs.Ends.{epoch_after, epoch_here, none_after}

module _ (root : Root) (p : Planning) (end_ : End) (ends : (b : Archive) → IsArchive b → p.entries ≡ stored_after b.config.form [] b.entries → IsStoreEnd b end_) where
  -- In the last epoch.
  pub place_here : (count : ℕ) → count ≡ length_after root p.plans end_.epoch → end_.epoch ≤ 63 → (end_.epoch ≡ 63) ⊎ (count < root.config.limit) → IsPlaceAfter root p (record { epoch = end_.epoch; generation = 0; length = count; parent = end_.parent })
  place_here count count_is small takes = λ b valid config kept long.
      let is = ends b valid kept in
      let long_is : count ≡ length (bytes_in b end_.epoch) = count_is ∙ long end_.epoch (omega (arith, small)) in (
        is.epoch ∙ sym (epoch_here b (by b config is long_is takes)),
        long_is,
        is.parent ∙ ap (λ (e : ℕ). last_commit b.config.form None (in_epoch b.entries e)) (sym is.epoch),
      ) where
        by : (b : Archive) → root.config ≡ b.config → IsStoreEnd b end_ → count ≡ length (bytes_in b end_.epoch) → (end_.epoch ≡ 63) ⊎ (count < root.config.limit) → (last_epoch b.entries ≡ 63) ⊎ (length (bytes_in b (last_epoch b.entries)) < b.config.limit)
        by b config is long_is (inl is63) = inl (sym is.epoch ∙ is63)
        by b config is long_is (inr less) = inr (subst (λ (e : ℕ). length (bytes_in b e) < b.config.limit) is.epoch (subst (λ (n : ℕ). n < b.config.limit) long_is (subst (λ (c : Config). count < c.limit) config less)))

  -- In a new one.
  pub place_next : (before count : ℕ) → before ≡ length_after root p.plans end_.epoch → count ≡ length_after root p.plans (end_.epoch + 1) → end_.epoch < 63 → root.config.limit ≤ before → IsPlaceAfter root p (record { epoch = end_.epoch + 1; generation = 0; length = count; parent = None })
  place_next before count before_is count_is low full = λ b valid config kept long.
      let is = ends b valid kept in
      let low_is = is.epoch in
      let top : last_epoch b.entries < 63 = omega (arith, low, low_is) in
      let before_long : before ≡ length (bytes_in b (last_epoch b.entries)) = before_is ∙ (long end_.epoch (omega (arith, low)) ∙ ap (λ (e : ℕ). length (bytes_in b e)) is.epoch) in (
        ap (λ (e : ℕ). e + 1) is.epoch ∙ sym (epoch_after b top (subst (λ (n : ℕ). b.config.limit ≤ n) before_long (subst (λ (c : Config). c.limit ≤ before) config full))),
        count_is ∙ long (end_.epoch + 1) (omega (arith, low)),
        sym (ap (last_commit b.config.form None) (ap (λ (e : ℕ). in_epoch b.entries (e + 1)) is.epoch ∙ none_after b)),
      )
