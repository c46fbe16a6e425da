-- The calls of the map, in terms of the files that the map holds.
use Rattle.std.specs.Prelude.{◌≡◌, ◌↔◌, ℕ, Bool, true, false, cond, Option, Some, None, IsSome, List, [], take, Vec, Result, Ok, Err, IfOk, MatchResult, MatchOption, refl}
use Rattle.std.specs.Option.{option_map, IsSomeAnd}
use Rattle.std.specs.BTreeMap.{BTreeMap, get, get_by, keys, is_at, UpdatesBy, WritesThrough, IsOrdered, IsClone}
use Rattle.std.specs.List.{Contains}
use Rattle.std.specs.List.Sorted.{IsStrictlySortedBy}
use Rattle.std.specs.Map.{lookup}
use Rattle.std.specs.declared.alloc.Global.{Global}
use Rattle.std.proofs.lemmas.Map.Entries.{lookup_clone}
use Rattle.std.specs.declared.cmp.Ordering.{Ordering}
use Rattle.std.proofs.Common.{◌∙◌, sym, ap, subst, arith}
use Rattle.std.proofs.lemmas.Grind.{common_steps}
use Rattle.std.proofs.lemmas.Map.Views.{btree_map_contains_key_iff}
use Rattle.disk_model.specs.contracts.name.FileNameOrd.TheImpl as order
use Rattle.disk_model.specs.declared.name.FileKind.{FileKind}
use Rattle.disk_model.specs.declared.name.FileKind.TheVariants.{Root, Map, Epoch, Cache}
use Rattle.disk_model.specs.declared.name.FileName.{FileName}
use Rattle.disk_model.specs.Disk.{File, bytes_of, overlay, cut_file}
use Rattle.disk_model.specs.Name.{name_cmp}
use Rattle.disk_model.specs.Record.{file_at, SetsFile, SameFiles}
use Rattle.disk_model.specs.Images.{same_name, names_total, exact_names}

-- The derived order of names is the one of the definitions, kind by kind.
derived_kinds : (k l : FileKind) (m n g h : ℕ) → order.ghosts.cmp (record { kind = k; number = m; generation = g }) (record { kind = l; number = n; generation = h }) ≡ name_cmp (record { kind = k; number = m; generation = g }) (record { kind = l; number = n; generation = h })
derived_kinds Root Root m n g h = refl
derived_kinds Root Map m n g h = refl
derived_kinds Root Epoch m n g h = refl
derived_kinds Root Cache m n g h = refl
derived_kinds Map Root m n g h = refl
derived_kinds Map Map m n g h = refl
derived_kinds Map Epoch m n g h = refl
derived_kinds Map Cache m n g h = refl
derived_kinds Epoch Root m n g h = refl
derived_kinds Epoch Map m n g h = refl
derived_kinds Epoch Epoch m n g h = refl
derived_kinds Epoch Cache m n g h = refl
derived_kinds Cache Root m n g h = refl
derived_kinds Cache Map m n g h = refl
derived_kinds Cache Epoch m n g h = refl
derived_kinds Cache Cache m n g h = refl

-- The derived order of names is the one of the definitions.
pub derived : order.ghosts.cmp ≡ name_cmp
derived = λ i a b. derived_kinds a.kind b.kind a.number b.number a.generation b.generation i

-- The bytes of a vector.
abbrev pub items_of : Vec ℕ Global → List ℕ
items_of v = v.items

-- A choice of values is a choice of their bytes.
items_chosen : (b : Bool) (v w : Option (Vec ℕ Global)) → option_map items_of (cond b v w) ≡ cond b (option_map items_of v) (option_map items_of w)
items_chosen true v w = refl
items_chosen false v w = refl

-- A change of the map is a change of one file.
pub sets_file : (old new : BTreeMap FileName (Vec ℕ Global)) (name : FileName) (w : Option (Vec ℕ Global)) (file : File) → UpdatesBy order.ghosts.cmp (order.ghosts.cmp name) old new w → option_map items_of w ≡ file → SetsFile old new name file
sets_file old new name w file updates same other =
    let P = λ (R : FileName → FileName → Ordering). UpdatesBy R (R name) old new w in
    let by_names : UpdatesBy name_cmp (name_cmp name) old new w = subst P derived updates in
    let found = ap (option_map items_of) (by_names.0 other) ∙ items_chosen (is_at (name_cmp name) other) w (get name_cmp old other) in
    found ∙ ap (λ (f : File). cond (is_at (name_cmp name) other) f (file_at old other)) same

-- The file of a name that is found.
pub here_found : (old : BTreeMap FileName (Vec ℕ Global)) (name : FileName) (v : Vec ℕ Global) → Some v ≡ get_by (order.ghosts.cmp name) old → file_at old name ≡ Some v.items
here_found old name v found =
    let P = λ (R : FileName → FileName → Ordering). Some v ≡ get_by (R name) old in
    ap (option_map items_of) (sym (subst P derived found))

-- The file of a name that is missing.
pub here_missing : (old : BTreeMap FileName (Vec ℕ Global)) (name : FileName) → None ≡ get_by (order.ghosts.cmp name) old → file_at old name ≡ None
here_missing old name found =
    let none : Option (Vec ℕ Global) = None in
    let P = λ (R : FileName → FileName → Ordering). none ≡ get_by (R name) old in
    ap (option_map items_of) (sym (subst P derived found))

-- A file that was borrowed and written is replaced.
pub writes_file : (old new : BTreeMap FileName (Vec ℕ Global)) (name : FileName) (v w : Vec ℕ Global) (file : File) → Some v ≡ get_by (order.ghosts.cmp name) old → WritesThrough order.ghosts.cmp (order.ghosts.cmp name) old w new → Some w.items ≡ file → SetsFile old new name file
writes_file old new name v w file found through same = sets_file old new name (Some w) file (through.3 (subst (λ (o : Option (Vec ℕ Global)). IsSome o) found refl)) same

-- Bytes written over those of a file that is there.
pub put_found : (old new : BTreeMap FileName (Vec ℕ Global)) (name : FileName) (v w : Vec ℕ Global) (offset : ℕ) (bytes : List ℕ) → Some v ≡ get_by (order.ghosts.cmp name) old → WritesThrough order.ghosts.cmp (order.ghosts.cmp name) old w new
    → w.items ≡ overlay offset bytes v.items → SetsFile old new name (Some (overlay offset bytes (bytes_of (file_at old name))))
put_found old new name v w offset bytes found through is =
    let file : Option (List ℕ) = Some (overlay offset bytes (bytes_of (file_at old name))) in
    let same : Some w.items ≡ file = ap (λ (b : List ℕ). Some b) is ∙ ap (λ (f : File). Some (overlay offset bytes (bytes_of f))) (sym (here_found old name v found)) in
    writes_file old new name v w file found through same

-- A file replaced by itself changes no file.
pub same_file : (old new : BTreeMap FileName (Vec ℕ Global)) (name : FileName) (file : File) → SetsFile old new name file → file_at old name ≡ file → SameFiles old new
same_file old new name file sets has other = sets other ∙ chosen (is_at (name_cmp name) other) refl where
  chosen : (b : Bool) → is_at (name_cmp name) other ≡ b → cond b file (file_at old other) ≡ file_at old other
  chosen true e = sym has ∙ ap (file_at old) (sym (same_name name other e))
  chosen false e = refl

-- A borrowed file that keeps its bytes changes no file.
pub put_same : (old new : BTreeMap FileName (Vec ℕ Global)) (name : FileName) (v w : Vec ℕ Global) → Some v ≡ get_by (order.ghosts.cmp name) old → WritesThrough order.ghosts.cmp (order.ghosts.cmp name) old w new → w.items ≡ v.items → SameFiles old new
put_same old new name v w found through is =
    same_file old new name (Some v.items) (writes_file old new name v w (Some v.items) found through (ap (λ (b : List ℕ). Some b) is)) (here_found old name v found)

-- A missing file that is created.
pub put_missing : (lent old new : BTreeMap FileName (Vec ℕ Global)) (name : FileName) (w : Vec ℕ Global) (offset : ℕ) (bytes : List ℕ) → lent ≡ old → None ≡ get_by (order.ghosts.cmp name) old
    → UpdatesBy order.ghosts.cmp (order.ghosts.cmp name) lent new (Some w) → w.items ≡ bytes → SetsFile old new name (Some (overlay offset bytes (bytes_of (file_at old name))))
put_missing lent old new name w offset bytes is found updates made =
    let file : Option (List ℕ) = Some (overlay offset bytes (bytes_of (file_at old name))) in
    let empty : overlay offset bytes [] ≡ bytes = grind (arith, common_steps) in
    let same : Some w.items ≡ file = ap (λ (b : List ℕ). Some b) (made ∙ sym empty) ∙ ap (λ (f : File). Some (overlay offset bytes (bytes_of f))) (sym (here_missing old name found)) in
    sets_file old new name (Some w) file (subst (λ (m : BTreeMap FileName (Vec ℕ Global)). UpdatesBy order.ghosts.cmp (order.ghosts.cmp name) m new (Some w)) is updates) same

-- A missing file that stays missing.
pub missing_stays : (lent old : BTreeMap FileName (Vec ℕ Global)) (name : FileName) (file : File) → lent ≡ old → file_at old name ≡ file → SetsFile old lent name file
missing_stays lent old name file is has other = ap (λ (m : BTreeMap FileName (Vec ℕ Global)). file_at m other) is ∙ chosen (is_at (name_cmp name) other) refl where
  chosen : (b : Bool) → is_at (name_cmp name) other ≡ b → file_at old other ≡ cond b file (file_at old other)
  chosen true e = ap (file_at old) (same_name name other e) ∙ has
  chosen false e = refl

-- The keys of the map are in the order of names.
pub keys_in_order : (m : BTreeMap FileName (Vec ℕ Global)) → IsOrdered order.ghosts.cmp m → IsStrictlySortedBy name_cmp (keys m)
keys_in_order m ordered = subst (λ (R : FileName → FileName → Ordering). IsOrdered R m) derived ordered

-- A file is there exactly if its name is among the keys.
pub there_iff : (m : BTreeMap FileName (Vec ℕ Global)) (name : FileName) → IsSome (file_at m name) ↔ Contains (keys m) name
there_iff m name =
    let has = btree_map_contains_key_iff names_total exact_names m name in
    (λ there. has.0 (from_bytes (get name_cmp m name) there), λ among. to_bytes (get name_cmp m name) (has.1 among)) where
      from_bytes : (o : Option (Vec ℕ Global)) → IsSome (option_map items_of o) → IsSome o
      from_bytes None there = there
      from_bytes (Some v) there = refl

      to_bytes : (o : Option (Vec ℕ Global)) → IsSome o → IsSome (option_map items_of o)
      to_bytes None there = there
      to_bytes (Some v) there = refl

-- A value and its clone have the same bytes.
same_option : (D : Vec ℕ Global → Vec ℕ Global → Type 0) → ((v w : Vec ℕ Global) → D v w → w.items ≡ v.items) → (o p : Option (Vec ℕ Global)) → MatchOption o (p ≡ None) (λ v. IsSomeAnd p (D v)) → option_map items_of p ≡ option_map items_of o
same_option D bytes None p is = ap (option_map items_of) is
same_option D bytes (Some v) None is = absurd is
same_option D bytes (Some v) (Some w) is = ap (λ (b : List ℕ). Some b) (bytes v w is)

-- A clone of a map has the same files.
pub same_from_clone : (C : FileName → FileName → Type 0) (D : Vec ℕ Global → Vec ℕ Global → Type 0) → ((x y : FileName) → C x y → y ≡ x) → ((v w : Vec ℕ Global) → D v w → w.items ≡ v.items)
    → (old new : BTreeMap FileName (Vec ℕ Global)) → IsClone C D old new → SameFiles old new
same_from_clone C D same bytes old new cloned other =
    same_option D bytes (get name_cmp old other) (get name_cmp new other) (lookup_clone C D (is_at (name_cmp other)) (λ x y is. ap (is_at (name_cmp other)) (same x y is)) old.entries new.entries cloned)

-- What a result says of its `Ok`, without what it says of its error.
pub of_ok : {T E : Type 0} (r : Result T E) (P : T → Type 0) (Q : E → Type 0) → MatchResult r P Q → IfOk r P
of_ok (Ok x) P Q holds = holds
of_ok (Err e) P Q holds = tt

-- An empty map has no file.
pub no_file : (m : BTreeMap FileName (Vec ℕ Global)) (name : FileName) → m.entries ≡ [] → file_at m name ≡ None
no_file m name none = ap (λ (es : List (FileName × Vec ℕ Global)). option_map items_of (lookup (is_at (name_cmp name)) es)) none

-- A file that is there, cut.
pub cut_found : (old new : BTreeMap FileName (Vec ℕ Global)) (name : FileName) (v w : Vec ℕ Global) (n : ℕ) → Some v ≡ get_by (order.ghosts.cmp name) old → WritesThrough order.ghosts.cmp (order.ghosts.cmp name) old w new → w.items ≡ take n v.items → SetsFile old new name (cut_file n (file_at old name))
cut_found old new name v w n found through is =
    let same : Some w.items ≡ cut_file n (file_at old name) = ap (λ (b : List ℕ). Some b) is ∙ ap (cut_file n) (sym (here_found old name v found)) in
    writes_file old new name v w (cut_file n (file_at old name)) found through same

-- A missing file, cut.
pub cut_missing : (lent old : BTreeMap FileName (Vec ℕ Global)) (name : FileName) (n : ℕ) → lent ≡ old → None ≡ get_by (order.ghosts.cmp name) old → SetsFile old lent name (cut_file n (file_at old name))
cut_missing lent old name n is found =
    let gone = here_missing old name found in
    missing_stays lent old name (cut_file n (file_at old name)) is (gone ∙ sym (ap (cut_file n) gone))
