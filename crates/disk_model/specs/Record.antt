-- The files of a disk in memory, and its record of changes.
use Rattle.std.specs.Prelude.{◌≡◌, ℕ, ◌+◌, ◌≤◌, cond, Some, None, List, [], ◌∷◌, ◌++◌, length, take, Vec, refl}
use Rattle.std.specs.Option.{option_map}
use Rattle.std.specs.BTreeMap.{BTreeMap, get, is_at}
use Rattle.std.specs.declared.alloc.Global.{Global}
use Rattle.std.proofs.Common.{sym, subst, inl, inr, arith, length-append}
use Rattle.std.proofs.lemmas.Bool.{cases_lt}
use Rattle.std.proofs.lemmas.List.{take_all, take-append-le}
use Rattle.disk_model.specs.declared.name.FileName.{FileName}
use Rattle.disk_model.specs.declared.change.Change.{Change}
use Rattle.disk_model.specs.declared.change.Change.TheVariants.{Write, Cut, Remove, Sync}
use Rattle.disk_model.specs.Disk.{File, Files, Image, Kept, Content, Elapses, exact, bytes_of, overlay, write_sure, cut_sure, remove_sure, cut_file}
use Rattle.disk_model.specs.Name.{name_cmp}

-- The file of a name in a map of files.
abbrev pub file_at : BTreeMap FileName (Vec ℕ Global) → Files
file_at files name = option_map (λ v. v.items) (get name_cmp files name)

-- One file is replaced, and the others stay.
abbrev pub SetsFile : BTreeMap FileName (Vec ℕ Global) → BTreeMap FileName (Vec ℕ Global) → FileName
    → File → Type 0
SetsFile old new name file = (other : FileName)
    → file_at new other ≡ cond (is_at (name_cmp name) other) file (file_at old other)

-- No file changes.
abbrev pub SameFiles : BTreeMap FileName (Vec ℕ Global) → BTreeMap FileName (Vec ℕ Global) → Type 0
SameFiles old new = (other : FileName) → file_at new other ≡ file_at old other

-- A file as it reads, and what a crash may leave of it, after a change.
abbrev pub step : FileName → Kept → Change → Kept
step name k (Write other offset bytes) = cond (is_at (name_cmp other) name)
    (record {
      seen = Some (overlay offset bytes.items (bytes_of k.seen));
      sure = write_sure offset (length bytes.items) k.seen k.sure;
    }) k
step name k (Cut other n) = cond (is_at (name_cmp other) name)
    (record { seen = cut_file n k.seen; sure = cut_sure n k.sure }) k
step name k (Remove other) =
    cond (is_at (name_cmp other) name) (record { seen = None; sure = remove_sure k.sure }) k
step name k Sync = record { seen = k.seen; sure = exact k.seen }

-- The same after all changes.
abbrev pub replay : FileName → Kept → List Change → Kept
replay name k [] = k
replay name k (change ∷ changes) = replay name (step name k change) changes

-- A file that is on the disk as it reads.
abbrev pub at_rest : File → Kept
at_rest file = record { seen = file; sure = exact file }

-- What a disk holds that began with these files and made these changes.
unfoldable pub content_of : Files → List Change → Content
content_of base changes name = replay name (at_rest (base name)) changes

-- A crash at some moment from t on may have left these files; a moment is a number of changes.
pub record LeftSince (base : Files) (changes : List Change) (t : ℕ) (image : Files) : Type 0 where
  pub at : ℕ
  pub from : t ≤ at
  pub to : at ≤ length changes
  pub left : Image (Some (content_of base (take at changes))) image

-- One more change at the end of the record is one more step.
pub replay_push : (name : FileName) (k : Kept) (changes : List Change) (change : Change)
    → replay name k (changes ++ change ∷ []) ≡ step name (replay name k changes) change
replay_push name k [] change = refl
replay_push name k (first ∷ changes) change = replay_push name (step name k first) changes change

-- The same for all files.
pub content_of-push : (base : Files) (changes : List Change) (change : Change) (name : FileName)
    → content_of base (changes ++ change ∷ []) name ≡ step name (content_of base changes name) change
unfolding content_of
content_of-push base changes change name = replay_push name (at_rest (base name)) changes change

-- Without changes each file is on the disk as it reads.
pub content_of-none : (base : Files) (name : FileName)
    → content_of base [] name ≡ at_rest (base name)
unfolding content_of
content_of-none base name = refl

-- What a crash may leave now is one of the images since each earlier moment.
pub record_counts_now : (base : Files) (changes : List Change) (t : ℕ) (image : Files)
    → t ≤ length changes → Image (Some (content_of base changes)) image
    → LeftSince base changes t image
record_counts_now base changes t image le now = record {
  at = length changes;
  from = le;
  to = omega arith;
  left = let P : List Change → Type 0 = λ cs. Image (Some (content_of base cs)) image in
      subst P (sym (take_all (length changes) changes (omega arith))) now;
}

-- An image since this moment is one that a crash may leave now.
pub record_only_now : (base : Files) (changes : List Change) (image : Files)
    → LeftSince base changes (length changes) image → Image (Some (content_of base changes)) image
record_only_now base changes image since =
    let from = since.from in
    let P : List Change → Type 0 = λ cs. Image (Some (content_of base cs)) image in
    subst P (take_all since.at changes from) since.left

-- One change advances time by one.
pub elapses_push : (base : Files) (changes : List Change) (change : Change)
    → Elapses (length changes) (length (changes ++ change ∷ [])) (LeftSince base changes)
    (LeftSince base (changes ++ change ∷ [])) (Some (content_of base (changes ++ change ∷ [])))
elapses_push base changes change =
    let more = changes ++ change ∷ [] in
    let size : length more ≡ length changes + 1 =
    omega (arith, length-append {A = Change} changes (change ∷ [])) in
    record {
      later = omega arith;
      nothing_else = λ t image le since.
          let P : List Change → Type 0 = λ cs. Image (Some (content_of base cs)) image in
          let to = since.to in
          elim (cases_lt (length changes) since.at) [
            | inl past ↦ inr (subst P (take_all since.at more (omega (arith, size, past, to)))
                since.left)
            | inr within ↦ inl (record {
              at = since.at;
              from = since.from;
              to = within;
              left =
                  subst P (take-append-le since.at changes (change ∷ []) within) since.left;
            })
          ];
      keeps = λ t image le past.
          let P : List Change → Type 0 = λ cs. Image (Some (content_of base cs)) image in
          let to = past.to in
          record {
            at = past.at;
            from = past.from;
            to = omega (arith, size, to);
            left = subst P (sym (take-append-le past.at changes (change ∷ []) to)) past.left;
          };
    }
