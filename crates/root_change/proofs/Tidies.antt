-- Files that are brought to what a root names, one after the other.
use Rattle.std.specs.Prelude.{◌≡◌, ◌≢◌, ◌⊎◌, ◌+◌, ◌<◌, ◌≤◌, ℕ, min, true, false, List, length, take, slice_get, Option, Some, None, IsSome, refl}
use Rattle.std.specs.List.{Contains}
use Rattle.std.proofs.Common.{◌∙◌, sym, ap, subst, inl, inr, arith, take_all, length-take}
use Rattle.std.proofs.lemmas.Bool.{cases_lt}
use Rattle.std.proofs.lemmas.Grind.{common_steps}
use Rattle.std.proofs.lemmas.Option.{same_Some, slice_get-get_or}
use Rattle.disk_model.specs.declared.name.FileKind.{FileKind}
use Rattle.disk_model.specs.declared.name.FileKind.TheVariants as kind
use Rattle.disk_model.specs.declared.name.FileName.{FileName}
use Rattle.disk_model.specs.Disk.{File, Files, Kept, Content, BothTold, WhereTold, OneFile, Unchanged, CutTo, Removed, Synced, ReadsFit, IsLength, IsAtMostLength, bytes_of, cut_file}
use Rattle.disk_model.specs.Tells.{told_weaker, told_then, told_where}
use Rattle.disk_model.specs.Beside.{Beside}
use Rattle.disk_model.specs.Images.{same_or_other}
use Rattle.root_slots.specs.declared.root.Root.{Root}
use Rattle.root_slots.specs.RootName.{root_name}
use Rattle.root_slots.specs.Each.{IfThere}
use Rattle.root_slots.specs.Slots.{Ready}
use Rattle.root_slots.specs.Spelling.{spelling}
use Rattle.root_change.specs.Names.{names_file, is_root_name, root_by, named_end, bounds_of, named_none}
use Rattle.root_change.specs.Leaving.{ready_has}
use Rattle.root_change.specs.Texts.{Texts, counted, StandsFor, IsOn, OnDisk}
use Rattle.root_change.specs.Replacing.{IsOne}
use Rattle.root_change.specs.Tidying.{Trimmed, Tidied, IsToTidy, ToTidy}
use Rattle.root_change.proofs.Drops.{not_both, named, named_root, unnamed_apart}
use Rattle.root_change.proofs.Phases.{stands_beside, synced_file}
use Rattle.root_change.proofs.Roots.{none_at_most, same_at_most, at_most_then}

-- The name of the root file, and any other one.
pub is_root_file : (root : Root) (name : FileName) → is_root_name name ≡ true → name ≡ root_name
is_root_file root name is = by name.kind name.number name.generation is where
  by : (k : FileKind) (n g : ℕ) → root_by k n g ≡ true → named k n g ≡ root_name
  by kind.Root n g test = named_root root n g test
  by kind.Map n g test = absurd (not_both false test refl)
  by kind.Epoch n g test = absurd (not_both false test refl)
  by kind.Cache n g test = absurd (not_both false test refl)

pub isnt_root_file : (name : FileName) → is_root_name name ≡ false → name ≢ root_name
isnt_root_file name isnt same = not_both true refl (sym (ap is_root_name same) ∙ isnt)

-- Files of which the first n are listed.
abbrev pub IsAmong : List FileName → ℕ → FileName → Type 0
IsAmong names n name = (i : ℕ) × (i < n) × (slice_get names i ≡ Some name)

-- A file that was cut.
cut_twice : (n : ℕ) (file : File) → take n (bytes_of (cut_file n file)) ≡ take n (bytes_of file)
cut_twice n None = refl
cut_twice n (Some bytes) = grind (arith, common_steps)

cut_size : (n : ℕ) (file : File) → length (bytes_of (cut_file n file)) ≡ min n (length (bytes_of file))
cut_size n None = omega arith
cut_size n (Some bytes) = omega (arith, length-take {A = ℕ} n bytes)

-- A file that is short enough stays, and a longer one is cut.
stays_short : (name : FileName) (n : ℕ) (k m : Content) → length (bytes_of (k name).seen) ≤ n → Unchanged k m → OneFile name (Trimmed n) k m
stays_short name n k m short same = record {
  here = record {
    front = ap (λ (kept : Kept). take n (bytes_of kept.seen)) (same name);
    short = subst (λ (kept : Kept). length (bytes_of kept.seen) ≤ n) (sym (same name)) short;
    no_longer = same_at_most (length (bytes_of (m name).seen)) (length (bytes_of (k name).seen)) (ap (λ (kept : Kept). length (bytes_of kept.seen)) (same name));
    none_made = λ none. ap (λ (kept : Kept). kept.seen) (same name) ∙ none;
  };
  elsewhere = λ other apart. same other;
}

cut_short : (name : FileName) (n : ℕ) (k m : Content) → OneFile name (CutTo n) k m → OneFile name (Trimmed n) k m
cut_short name n k m cut = record {
  here = record {
    front = ap (λ (file : File). take n (bytes_of file)) cut.here.seen ∙ cut_twice n (k name).seen;
    short = (let size = ap (λ (file : File). length (bytes_of file)) cut.here.seen ∙ cut_size n (k name).seen in omega (arith, size));
    no_longer = (let size = ap (λ (file : File). length (bytes_of file)) cut.here.seen ∙ cut_size n (k name).seen in omega (arith, size));
    none_made = λ none. cut.here.seen ∙ ap (cut_file n) none;
  };
  elsewhere = cut.elsewhere;
}

after_same : (name : FileName) (n : ℕ) (k l m : Content) → Unchanged k l → OneFile name (Trimmed n) l m → OneFile name (Trimmed n) k m
after_same name n k l m same one = record {
  here = subst (λ (kept : Kept). Trimmed n kept (m name)) (same name) one.here;
  elsewhere = λ other apart. one.elsewhere other apart ∙ same other;
}

-- The same, of a disk that may tell its content.
pub short_told : (name : FileName) (size n : ℕ) (k m : Option Content) → size ≤ n → WhereTold (IsLength name size) k → BothTold Unchanged k m → BothTold (OneFile name (Trimmed n)) k m
short_told name size n None None less is same = tt
short_told name size n None (Some m) less is same = absurd same
short_told name size n (Some k) None less is same = absurd same
short_told name size n (Some k) (Some m) less is same = stays_short name n k m (omega (arith, less, is)) same

pub trimmed_told : (name : FileName) (n : ℕ) (k l m : Option Content) → BothTold Unchanged k l → BothTold (OneFile name (CutTo n)) l m → BothTold (OneFile name (Trimmed n)) k m
trimmed_told name n k l m same cut = told_then Unchanged (OneFile name (CutTo n)) (OneFile name (Trimmed n)) k l m (λ a b d is told one two. after_same name n a b d one (cut_short name n b d two)) same cut

-- A file that is longer may be cut.
pub inside_told : (name : FileName) (size n : ℕ) (k m : Option Content) → n ≤ size → WhereTold (IsLength name size) k → BothTold Unchanged k m → WhereTold (IsAtMostLength name n) m
inside_told name size n k m less is same = told_where Unchanged (IsLength name size) (IsAtMostLength name n) k m (λ a b old_is new_is kept long. subst (λ (it : Kept). n ≤ length (bytes_of it.seen)) (sym (kept name)) (omega (arith, less, long))) same is

module _ (root : Root) where
  -- Files that are tidied one after the other.
  tidied_then : (P Q R : FileName → Type 0) → ((name : FileName) → R name → P name ⊎ Q name) → (k m o : Content) → Tidied P root k m → Tidied Q root m o → Tidied R root k o
  tidied_then P Q R step k m o first second = record {
    gone = λ name which isnt.
        elim (step name which) [
          | inl early ↦ second.none_made name (first.gone name early isnt)
          | inr late ↦ second.gone name late isnt
        ];
    short = λ name which apart.
        elim (step name which) [
          | inl early ↦ at_most_then (length (bytes_of (o name).seen)) (length (bytes_of (m name).seen)) (named_end root name) (second.no_longer name) (first.short name early apart)
          | inr late ↦ second.short name late apart
        ];
    fronts = λ name. second.fronts name ∙ first.fronts name;
    no_longer = λ name. at_most_then (length (bytes_of (o name).seen)) (length (bytes_of (m name).seen)) (length (bytes_of (k name).seen)) (second.no_longer name) (first.no_longer name);
    none_made = λ name none. second.none_made name (first.none_made name none);
    root_same = second.root_same ∙ first.root_same;
  }

  -- Files that read as before, where nothing is to be tidied.
  tidied_none : (which : FileName → Type 0) (k m : Content) → ((name : FileName) → (m name).seen ≡ (k name).seen) → ((name : FileName) → which name → names_file root name ≡ false → ⊥) → ((name : FileName) → which name → name ≢ root_name → ⊥) → Tidied which root k m
  tidied_none which k m same named no_file = record {
    gone = λ name is isnt. absurd (named name is isnt);
    short = λ name is apart. absurd (no_file name is apart);
    fronts = λ name. ap (λ (file : File). take (named_end root name) (bytes_of file)) (same name);
    no_longer = λ name. same_at_most (length (bytes_of (m name).seen)) (length (bytes_of (k name).seen)) (ap (λ (file : File). length (bytes_of file)) (same name));
    none_made = λ name none. same name ∙ none;
    root_same = same root_name;
  }

  -- A file keeps its bytes that count.
  record Stays (k m : Content) (name : FileName) : Type 0 where
    front : take (named_end root name) (bytes_of (m name).seen) ≡ take (named_end root name) (bytes_of (k name).seen)
    no_longer : length (bytes_of (m name).seen) ≤ length (bytes_of (k name).seen)
    none_made : (k name).seen ≡ None → (m name).seen ≡ None

  -- One file was trimmed to them, and is gone if the root doesn't name it.
  tidied_one : (name : FileName) (k m : Content) → name ≢ root_name → (names_file root name ≡ false → (m name).seen ≡ None) → OneFile name (Trimmed (named_end root name)) k m → Tidied (IsOne name) root k m
  tidied_one name k m is_file gone one = record {
    gone = λ other same isnt. subst (λ (n : FileName). (m n).seen ≡ None) (sym same) (gone (subst (λ (n : FileName). names_file root n ≡ false) same isnt));
    short = λ other same apart. subst (λ (n : FileName). length (bytes_of (m n).seen) ≤ named_end root n) (sym same) one.here.short;
    fronts = λ other. (each other).front;
    no_longer = λ other. (each other).no_longer;
    none_made = λ other. (each other).none_made;
    root_same = ap (λ (kept : Kept). kept.seen) (one.elsewhere root_name (λ same. is_file (sym same)));
  } where
    each : (other : FileName) → Stays k m other
    each other = elim (same_or_other name other) [
      | inl same ↦ subst (Stays k m) (sym same) (record { front = one.here.front; no_longer = one.here.no_longer; none_made = one.here.none_made })
      | inr apart ↦
          let same : (m other).seen ≡ (k other).seen = ap (λ (kept : Kept). kept.seen) (one.elsewhere other apart) in
          record {
            front = ap (λ (file : File). take (named_end root other) (bytes_of file)) same;
            no_longer = same_at_most (length (bytes_of (m other).seen)) (length (bytes_of (k other).seen)) (ap (λ (file : File). length (bytes_of file)) same);
            none_made = λ none. same ∙ none;
          }
    ]

  -- A file that isn't named was removed.
  removed_one : (name : FileName) (k m : Content) → names_file root name ≡ false → OneFile name Removed k m → Tidied (IsOne name) root k m
  removed_one name k m isnt removed = tidied_one name k m (unnamed_apart root name isnt) (λ unnamed. removed.here.seen) (record {
    here = record {
      front = ap (λ (n : ℕ). take n (bytes_of (m name).seen)) none ∙ sym (ap (λ (n : ℕ). take n (bytes_of (k name).seen)) none);
      short = omega (arith, empty);
      no_longer = omega (arith, empty);
      none_made = λ missing. removed.here.seen;
    };
    elsewhere = removed.elsewhere;
  }) where
    none : named_end root name ≡ 0
    none = named_none root name isnt

    empty : length (bytes_of (m name).seen) ≡ 0
    empty = ap (λ (file : File). length (bytes_of file)) removed.here.seen

  -- The same, of a disk that may tell its content.
  pub removed_tidied : (name : FileName) (k m : Option Content) → names_file root name ≡ false → BothTold (OneFile name Removed) k m → BothTold (Tidied (IsOne name) root) k m
  removed_tidied name k m isnt told = told_weaker (OneFile name Removed) (Tidied (IsOne name) root) k m (λ a b is new_is one. removed_one name a b isnt one) told

  pub trimmed_tidied : (name : FileName) (k m : Option Content) → names_file root name ≡ true → name ≢ root_name → BothTold (OneFile name (Trimmed (named_end root name))) k m → BothTold (Tidied (IsOne name) root) k m
  trimmed_tidied name k m is is_file told = told_weaker (OneFile name (Trimmed (named_end root name))) (Tidied (IsOne name) root) k m (λ a b old_is new_is one. tidied_one name a b is_file (λ isnt. absurd (not_both (names_file root name) is isnt)) one) told

  -- The root file was left alone.
  pub root_tidied : (name : FileName) (k : Option Content) → name ≡ root_name → BothTold (Tidied (IsOne name) root) k k
  root_tidied name None is = tt
  root_tidied name (Some k) is = tidied_none (IsOne name) k k (λ other. refl)
      (λ other same isnt. not_both true refl (sym (ap (names_file root) (same ∙ is)) ∙ isnt))
      (λ other same apart. apart (same ∙ is))

  -- The first of a list of files.
  pub none_tidied : (names : List FileName) (k : Option Content) → BothTold (Tidied (IsAmong names 0) root) k k
  none_tidied names None = tt
  none_tidied names (Some k) = tidied_none (IsAmong names 0) k k (λ name. refl) (λ name among isnt. none among) (λ name among apart. none among) where
    none : {name : FileName} → IsAmong names 0 name → ⊥
    none among = let below = among.1 in absurd (omega (arith, below))

  pub more_tidied : (names : List FileName) (i : ℕ) (name : FileName) (k m o : Option Content) → slice_get names i ≡ Some name → BothTold (Tidied (IsAmong names i) root) k m → BothTold (Tidied (IsOne name) root) m o → BothTold (Tidied (IsAmong names (i + 1)) root) k o
  more_tidied names i name k m o is first second =
      told_then (Tidied (IsAmong names i) root) (Tidied (IsOne name) root) (Tidied (IsAmong names (i + 1)) root) k m o (λ a b d old_is told one two. tidied_then (IsAmong names i) (IsOne name) (IsAmong names (i + 1)) step a b d one two) first second where
        step : (other : FileName) → IsAmong names (i + 1) other → IsAmong names i other ⊎ IsOne name other
        step other among = elim (cases_lt among.0 i) [
          | inl early ↦ inl (among.0, early, among.2)
          | inr late ↦
              let below = among.1 in
              let index : among.0 ≡ i = omega (arith, below, late) in
              inr (same_Some other name (sym among.2 ∙ (ap (slice_get names) index ∙ is)))
        ]

  pub all_tidied : (names : List FileName) (k m : Option Content) → BothTold (Tidied (IsAmong names (length names)) root) k m → BothTold (Tidied (Contains names) root) k m
  all_tidied names k m told = told_weaker (Tidied (IsAmong names (length names)) root) (Tidied (Contains names) root) k m
      (λ a b is new_is tidied. tidied_then (IsAmong names (length names)) (λ name. ⊥) (Contains names) (λ name has. inl (has.0, has.1, slice_get-get_or names has.0 name has.1 ∙ ap (λ (n : FileName). Some n) has.2)) a b b tidied
      (tidied_none (λ name. ⊥) b b (λ name. refl) (λ name none isnt. none) (λ name none apart. none))) told

  -- While files are tidied, they stand for the texts.
  pub tidying_stands : (free : ℕ) (texts : Texts) (names : List FileName) (k : Option Content) (image : Files) → ToTidy root free texts names k → Beside (bounds_of root) k image → StandsFor root texts image
  tidying_stands free texts names None image todo crash_beside = absurd todo
  tidying_stands free texts names (Some k) image todo crash_beside = stands_beside root texts k image (λ file fits. ready_has free (spelling root) file (todo.roots file fits)) todo.fronts crash_beside

  -- A file is there or missing.
  there_or_not : (file : File) → IsSome file ⊎ (file ≡ None)
  there_or_not None = inr refl
  there_or_not (Some bytes) = inl refl

  module _ (free : ℕ) (texts : Texts) (names : List FileName) (k m o : Content) (todo : IsToTidy root free texts names k) (tidied : Tidied (Contains names) root k m) (synced : Synced m o) (fit : ReadsFit (Some k)) where
    -- No file has more bytes than count.
    all_short : (name : FileName) → name ≢ root_name → length (bytes_of (m name).seen) ≤ named_end root name
    all_short name apart = elim (there_or_not (k name).seen) [
      | inl there ↦ tidied.short name (todo.all name there) apart
      | inr none ↦ none_at_most (length (bytes_of (m name).seen)) (named_end root name) (ap (λ (file : File). length (bytes_of file)) (tidied.none_made name none))
    ]

    -- Each has just its text.
    ends : (name : FileName) → name ≢ root_name → bytes_of (m name).seen ≡ texts name
    ends name apart =
        sym (take_all (named_end root name) (bytes_of (m name).seen) (all_short name apart))
        ∙ (tidied.fronts name ∙ todo.fronts name apart (k name).seen (fit k refl name))

    -- There is no other one.
    gone : (name : FileName) → names_file root name ≡ false → (m name).seen ≡ None
    gone name isnt = elim (there_or_not (k name).seen) [
      | inl there ↦ tidied.gone name (todo.all name there) isnt
      | inr none ↦ tidied.none_made name none
    ]

    -- What a crash leaves of the root file.
    root_left : (file : File) → file ≡ (m root_name).seen → IfThere (Ready free (spelling root)) file
    root_left file is = subst (λ (f : File). IfThere (Ready free (spelling root)) f) (sym (is ∙ tidied.root_same)) (todo.roots (k root_name).seen (fit k refl root_name))

    tidy_now : IsOn root free texts o
    tidy_now = record {
      roots = λ file fits. root_left file (synced_file m o root_name file synced fits);
      fronts = λ name apart file fits. ap (counted root name) (synced_file m o name file synced fits) ∙ (tidied.fronts name ∙ todo.fronts name apart (k name).seen (fit k refl name));
      exact = record {
        current = ready_has free (spelling root) (o root_name).seen (root_left (o root_name).seen (synced.seen root_name));
        ends = λ name apart. ap bytes_of (synced.seen name) ∙ ends name apart;
        no_other = λ name isnt. synced.seen name ∙ gone name isnt;
      };
    }

  -- In the end, of a disk that may tell its content.
  pub tidy_told : (free : ℕ) (texts : Texts) (names : List FileName) (k m o : Option Content) → ReadsFit k → ToTidy root free texts names k → BothTold (Tidied (Contains names) root) k m → BothTold Synced m o → OnDisk root free texts o
  tidy_told free texts names None m o fit todo tidied synced = absurd todo
  tidy_told free texts names (Some k) None o fit todo tidied synced = absurd tidied
  tidy_told free texts names (Some k) (Some m) None fit todo tidied synced = absurd synced
  tidy_told free texts names (Some k) (Some m) (Some o) fit todo tidied synced = tidy_now free texts names k m o todo tidied synced fit

  -- A sync after it leaves the files tidied.
  pub synced_told : (which : FileName → Type 0) (k m o : Option Content) → BothTold (Tidied which root) k m → BothTold Synced m o → BothTold (Tidied which root) k o
  synced_told which k m o tidied synced = told_then (Tidied which root) Synced (Tidied which root) k m o (λ a b d is told one two. tidied_then which (λ name. ⊥) which (λ name it. inl it) a b d one (tidied_none (λ name. ⊥) b d two.seen (λ name none isnt. none) (λ name none apart. none))) tidied synced
