-- The lengths of files while bytes are appended beside what a root names.
use Rattle.std.specs.Prelude.{◌≢◌, ℕ, ◌+◌, ◌≤◌, Bool, true, false, if◌then◌else◌, List, length, Option, Some, None}
use Rattle.std.proofs.Common.{◌∙◌, sym, ap, subst, inl, inr, arith}
use Rattle.disk_model.specs.declared.name.FileName.{FileName}
use Rattle.disk_model.specs.Disk.{File, Kept, Content, BothTold, WhereTold, OneFile, Wrote, IsAtMostLength, bytes_of, overlay}
use Rattle.disk_model.specs.Images.{same_or_other}
use Rattle.disk_model.specs.Laws.{overlay_length}
use Rattle.root_slots.specs.declared.root.Root.{Root}
use Rattle.root_slots.specs.RootName.{root_name}
use Rattle.disk_model.specs.Tells.{told_where}
use Rattle.disk_model.specs.Beside.{RespectsBound}
use Rattle.root_change.specs.Names.{place_of, names_file, named_end, bounds_of, other_bound}
use Rattle.root_change.specs.Texts.{HasSizes}

-- The end of a file's bytes is within the file.
pub end_inside : (root : Root) (name : FileName) (k : Option Content) → name ≢ root_name → WhereTold (HasSizes root) k → WhereTold (IsAtMostLength name (named_end root name)) k
end_inside root name None other sizes = tt
end_inside root name (Some k) other sizes = sizes.lengths name other

-- The end respects the bound of the root.
pub end_respects : (root : Root) (name : FileName) → name ≢ root_name → RespectsBound (bounds_of root name) (named_end root name)
end_respects root name other = subst (λ (b : Option ℕ). RespectsBound b (named_end root name)) (sym (other_bound root name other)) (let least : named_end root name ≤ named_end root name = omega arith in least)

-- No more bytes count of a file than its part has.
pub end_at_most : (root : Root) (name : FileName) → named_end root name ≤ (place_of root name.kind name.number).length
end_at_most root name = by (names_file root name) where
  by : (b : Bool) → (if b then (place_of root name.kind name.number).length else 0) ≤ (place_of root name.kind name.number).length
  by true = omega arith
  by false = omega arith

-- A write from an offset within a file leaves it at least as long as the write's end.
pub overlay_least : (at : ℕ) (bytes old : List ℕ) → at ≤ length old → at + length bytes ≤ length (overlay at bytes old)
overlay_least at bytes old inside = omega (arith, inside, overlay_length at bytes old)

-- The files are as long as the root says after bytes were appended to one.
still_long : (root : Root) (name : FileName) (bytes : List ℕ) (k m : Content) → name ≢ root_name → OneFile name (Wrote (named_end root name) bytes) k m → HasSizes root k → HasSizes root m
still_long root name bytes k m other wrote sizes = record {
  root_file = ap (λ (kept : Kept). length (bytes_of kept.seen)) (wrote.elsewhere root_name (λ same. other (sym same))) ∙ sizes.root_file;
  lengths = λ it apart. elim (same_or_other name it) [
    | inl same ↦ subst (λ (n : FileName). named_end root n ≤ length (bytes_of (m n).seen)) (sym same) here
    | inr else_ ↦ subst (λ (kept : Kept). named_end root it ≤ length (bytes_of kept.seen)) (sym (wrote.elsewhere it else_)) (sizes.lengths it apart)
  ];
} where
  here : named_end root name ≤ length (bytes_of (m name).seen)
  here =
      let was = sizes.lengths name other in
      let size = ap (λ (f : File). length (bytes_of f)) wrote.here.seen ∙ overlay_length (named_end root name) bytes (bytes_of (k name).seen) in
      omega (arith, was, size)

pub sizes_stay : (root : Root) (name : FileName) (bytes : List ℕ) (k m : Option Content) → name ≢ root_name → WhereTold (HasSizes root) k → BothTold (OneFile name (Wrote (named_end root name) bytes)) k m → WhereTold (HasSizes root) m
sizes_stay root name bytes k m other sizes wrote = told_where (OneFile name (Wrote (named_end root name) bytes)) (HasSizes root) (HasSizes root) k m (λ a b is new_is one was. still_long root name bytes a b other one was) wrote sizes
