-- What a crash at any moment of a run of calls leaves, composed call by call.
use Rattle.std.specs.Prelude.{◌⊎◌, ℕ, ◌≤◌, Option}
use Rattle.std.proofs.Common.{inl, inr, arith}
use Rattle.disk_model.specs.declared.disk.Disk.{Ghosts as Disk}
use Rattle.disk_model.specs.Disk.{Files, Content, Image, Elapses}

-- A crash at any moment since the first state leaves files that have a property.
pub record LeavesOnly {D : Type 0} (g : Disk D)
    (old new : D) (P : Files → Type 0) : Type 0 where
  pub later : g.moment old ≤ g.moment new
  pub each : (image : Files) → g.left_since new (g.moment old) image → P image
  -- For a run that began earlier: an image is one of those before this run, or has the property.
  pub before : (t : ℕ) (image : Files) → t ≤ g.moment old → g.left_since new t image
      → g.left_since old t image ⊎ P image

module _ {D : Type 0} (g : Disk D) where
  -- The run before its first call.
  pub started : (old : D) (P : Files → Type 0) → ((image : Files)
      → g.left_since old (g.moment old) image → P image) → LeavesOnly g old old P
  started old P now =
      record { later = omega arith; each = now; before = λ t image le since. inl since }

  -- A run and one more call, after which a crash leaves files that have P.
  pub goes_on : (old mid new : D) (P : Files → Type 0) (content : Option Content)
      → LeavesOnly g old mid P
      → Elapses (g.moment mid) (g.moment new) (g.left_since mid) (g.left_since new) content
      → ((image : Files) → Image content image → P image) → LeavesOnly g old new P
  goes_on old mid new P content run call now = record {
    later = omega (arith, run.later, call.later);
    each = λ image since. elim (call.nothing_else (g.moment old) image run.later since) [
      | inl past
          ↦ run.each image past
      | inr left ↦ now image left
    ];
    before = λ t image le since.
        let earlier : t ≤ g.moment mid = omega (arith, run.later, le) in
        elim (call.nothing_else t image earlier since) [
          | inl past
              ↦ run.before t image le past
          | inr left ↦ inr (now image left)
        ];
  }

  -- A run and a second one after it.
  pub joined : (old mid new : D) (P Q R : Files → Type 0) → LeavesOnly g old mid P
      → LeavesOnly g mid new Q
      → ((image : Files) → P image → R image) → ((image : Files) → Q image → R image)
      → LeavesOnly g old new R
  joined old mid new P Q R first second left right = record {
    later = omega (arith, first.later, second.later);
    each = λ image since. elim (second.before (g.moment old) image first.later since) [
      | inl past
          ↦ left image (first.each image past)
      | inr has ↦ right image has
    ];
    before = λ t image le since.
        let earlier : t ≤ g.moment mid = omega (arith, first.later, le) in
        elim (second.before t image earlier since) [
          | inl past ↦ elim (first.before t image le past) [
            | inl still ↦ inl still
            | inr has
                ↦ inr (left image has)
          ]
          | inr has ↦ inr (right image has)
        ];
  }

  -- A weaker property holds of a run too.
  pub weaker : (old new : D) (P R : Files → Type 0) → LeavesOnly g old new P
      → ((image : Files) → P image → R image) → LeavesOnly g old new R
  weaker old new P R run less = record {
    later = run.later;
    each = λ image since. less image (run.each image since);
    before = λ t image le since. elim (run.before t image le since) [
      | inl still
          ↦ inl still
      | inr has ↦ inr (less image has)
    ];
  }
