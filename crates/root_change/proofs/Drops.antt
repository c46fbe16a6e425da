-- What the removal of files leaves that only the old root names.
use Rattle.std.specs.Prelude.{◌≡◌, ◌≢◌, ◌⊎◌, ◌+◌, ◌<◌, ◌≤◌, ◌==◌, ◌&&◌, nat_lt, not, Bool, true, false, ℕ, get_or, Option, Some, None, refl}
use Rattle.std.proofs.Common.{◌∙◌, sym, ap, subst, inl, inr, arith}
use Rattle.std.proofs.lemmas.Bool.{cases_lt}
use Rattle.std.proofs.lemmas.Bool.Decides.{nat_tests}
use Rattle.disk_model.specs.declared.name.FileKind.{FileKind}
use Rattle.disk_model.specs.declared.name.FileKind.TheVariants as kind
use Rattle.disk_model.specs.declared.name.FileName.{FileName}
use Rattle.disk_model.specs.Disk.{File, Kept, Content, BothTold, OneFile, Removed, Synced, Within, exact}
use Rattle.disk_model.specs.Images.{same_or_other}
use Rattle.root_slots.specs.declared.root.Root.{Root}
use Rattle.root_slots.specs.RootName.{root_name}
use Rattle.root_slots.specs.Valid.{no_place}
use Rattle.disk_model.specs.Tells.{told_weaker, told_then}
use Rattle.disk_model.specs.Beside.{RespectsBound}
use Rattle.root_change.specs.Names.{map_name, epoch_name, cache_name, place_of, has_place, named_by, names_file, bounds_of, other_bound, named_none}
use Rattle.root_change.specs.Replacing.{drops, Dropped, IsDropped, IsOne, IsEpochBelow, IsAny}

-- Tests on numbers, and what they say.
pub is_same : (m n : ℕ) → (m == n) ≡ true → m ≡ n
is_same m n test = grind (arith, nat_tests)

pub is_less : (m n : ℕ) → nat_lt m n ≡ true → m < n
is_less m n test = grind (arith, nat_tests)

-- Both of two tests.
pub both : (a b : Bool) → (a && b) ≡ true → (a ≡ true) × (b ≡ true)
both true b is = (refl, is)
both false b is = absurd (let wrong : false ≡ true = is in cc)

-- One test and not the other.
pub one_alone : (a b : Bool) → (a && not b) ≡ true → (a ≡ true) × (b ≡ false)
one_alone true true is = absurd (let wrong : false ≡ true = is in cc)
one_alone true false is = (refl, refl)
one_alone false b is = absurd (let wrong : false ≡ true = is in cc)

pub alone_from : (a b : Bool) → a ≡ true → b ≡ false → (a && not b) ≡ true
alone_from true true is isnt = absurd (let wrong : true ≡ false = isnt in cc)
alone_from true false is isnt = refl
alone_from false b is isnt = absurd (let wrong : false ≡ true = is in cc)

-- A test isn't true and false.
pub not_both : (b : Bool) → b ≡ true → b ≡ false → ⊥
not_both true is isnt = let wrong : true ≡ false = isnt in absurd cc
not_both false is isnt = let wrong : false ≡ true = is in absurd cc

-- A test is true or false.
pub true_or_false : (b : Bool) → (b ≡ true) ⊎ (b ≡ false)
true_or_false true = inl refl
true_or_false false = inr refl

-- The name of these parts.
abbrev pub named : FileKind → ℕ → ℕ → FileName
named k n g = record { kind = k; number = n; generation = g }

-- The files of each kind that a root names.
pub named_root : (root : Root) (n g : ℕ) → named_by root kind.Root n g ≡ true → named kind.Root n g ≡ root_name
named_root root n g is =
    let tests = both (n == 0) (g == 0) is in
    ap (λ (m : ℕ). named kind.Root m g) (is_same n 0 tests.0) ∙ ap (λ (h : ℕ). named kind.Root 0 h) (is_same g 0 tests.1)

pub named_map : (root : Root) (n g : ℕ) → named_by root kind.Map n g ≡ true → named kind.Map n g ≡ map_name root.map.generation
named_map root n g is =
    let tests = both (n == 0) (g == root.map.generation) is in
    ap (λ (m : ℕ). named kind.Map m g) (is_same n 0 tests.0) ∙ ap map_name (is_same g root.map.generation tests.1)

pub named_cache : (root : Root) (n g : ℕ) → named_by root kind.Cache n g ≡ true → named kind.Cache n g ≡ cache_name root.cache.generation
named_cache root n g is =
    let tests = both (n == 0) (has_place root.cache g) is in
    let place = both (nat_lt 0 root.cache.length) (root.cache.generation == g) tests.1 in
    ap (λ (m : ℕ). named kind.Cache m g) (is_same n 0 tests.0) ∙ ap cache_name (sym (is_same root.cache.generation g place.1))

pub named_number : (root : Root) (n g : ℕ) → named_by root kind.Epoch n g ≡ true → n < 64
named_number root n g is = is_less n 64 (both (nat_lt n 64) (has_place (get_or root.epochs n no_place) g) is).0

pub named_epoch : (root : Root) (n g : ℕ) → named_by root kind.Epoch n g ≡ true → g ≡ (get_or root.epochs n no_place).generation
named_epoch root n g is =
    let place = get_or root.epochs n no_place in
    let tests = both (nat_lt n 64) (has_place place g) is in
    sym (is_same place.generation g (both (nat_lt 0 place.length) (place.generation == g) tests.1).1)

-- An epoch whose file a root names has bytes.
pub named_bytes : (root : Root) (n g : ℕ) → named_by root kind.Epoch n g ≡ true → 0 < (place_of root kind.Epoch n).length
named_bytes root n g is =
    let place = place_of root kind.Epoch n in
    is_less 0 place.length (both (nat_lt 0 place.length) (place.generation == g) (both (nat_lt n 64) (has_place place g) is).1).0

-- A file that isn't named is no root file.
pub unnamed_apart : (root : Root) (name : FileName) → names_file root name ≡ false → name ≢ root_name
unnamed_apart root name isnt same = not_both (names_file root name) (ap (names_file root) same) isnt

-- A file that isn't named may be removed.
pub unnamed_bound : (root : Root) (name : FileName) → names_file root name ≡ false → RespectsBound (bounds_of root name) 0
unnamed_bound root name isnt =
    subst (λ (b : Option ℕ). RespectsBound b 0) (sym (other_bound root name (unnamed_apart root name isnt) ∙ ap (λ (n : ℕ). Some n) (named_none root name isnt))) (let least : 0 ≤ 0 = omega arith in least)

module _ (old new : Root) where
  -- A file that is to be dropped may be removed.
  pub dropped_bound : (name : FileName) → drops old new name ≡ true → RespectsBound (bounds_of new name) 0
  dropped_bound name is = unnamed_bound new name (one_alone (names_file old name) (names_file new name) is).1

  -- Nothing is removed.
  dropped_none : (which : FileName → Type 0) (k : Content) → ((name : FileName) → which name → drops old new name ≡ true → ⊥) → Dropped which old new k k
  dropped_none which k none = record { gone = λ name is there. absurd (none name is there); kept = λ name is. refl; none_made = λ name gone. gone }

  -- A file that isn't to be dropped stays.
  pub stays_there : (name : FileName) (k : Option Content) → drops old new name ≡ false → BothTold (Dropped (IsOne name) old new) k k
  stays_there name None isnt = tt
  stays_there name (Some k) isnt = dropped_none (IsOne name) k (λ other same there. not_both (drops old new name) (subst (λ (n : FileName). drops old new n ≡ true) same there) isnt)

  -- A file is removed.
  removed_one : (name : FileName) (k m : Content) → drops old new name ≡ true → OneFile name Removed k m → Dropped (IsOne name) old new k m
  removed_one name k m there removed = record {
    gone = λ other same is. subst (λ (n : FileName). (m n).seen ≡ None) (sym same) removed.here.seen;
    kept = λ other is. ap (λ (kept : Kept). kept.seen) (removed.elsewhere other (λ same. not_both (names_file new name) (subst (λ (n : FileName). names_file new n ≡ true) same is) (one_alone (names_file old name) (names_file new name) there).1));
    none_made = λ other none.
        elim (same_or_other name other) [
          | inl same ↦ subst (λ (n : FileName). (m n).seen ≡ None) (sym same) removed.here.seen
          | inr apart ↦ ap (λ (kept : Kept). kept.seen) (removed.elsewhere other apart) ∙ none
        ];
  }

  pub removed_there : (name : FileName) (k m : Option Content) → drops old new name ≡ true → BothTold (OneFile name Removed) k m → BothTold (Dropped (IsOne name) old new) k m
  removed_there name k m there told = told_weaker (OneFile name Removed) (Dropped (IsOne name) old new) k m (λ a b is new_is one. removed_one name a b there one) told

  -- Removals one after the other.
  dropped_then : (P Q R : FileName → Type 0) → ((name : FileName) → drops old new name ≡ true → R name → P name ⊎ Q name) → (k m o : Content) → Dropped P old new k m → Dropped Q old new m o → Dropped R old new k o
  dropped_then P Q R step k m o first second = record {
    gone = λ name which there.
        elim (step name there which) [
          | inl early ↦ second.none_made name (first.gone name early there)
          | inr late ↦ second.gone name late there
        ];
    kept = λ name is. second.kept name is ∙ first.kept name is;
    none_made = λ name none. second.none_made name (first.none_made name none);
  }

  both_told : (P Q R : FileName → Type 0) (k m o : Option Content) → ((name : FileName) → drops old new name ≡ true → R name → P name ⊎ Q name) → BothTold (Dropped P old new) k m → BothTold (Dropped Q old new) m o → BothTold (Dropped R old new) k o
  both_told P Q R k m o step first second = told_then (Dropped P old new) (Dropped Q old new) (Dropped R old new) k m o (λ a b c is mid_is one two. dropped_then P Q R step a b c one two) first second

  -- Before the first epoch.
  pub none_dropped : (k : Option Content) → BothTold (Dropped (IsEpochBelow 0) old new) k k
  none_dropped None = tt
  none_dropped (Some k) = dropped_none (IsEpochBelow 0) k (λ name which there. absurd (let below = which.1 in omega (arith, below)))

  -- One more epoch.
  pub epoch_dropped : (e : ℕ) (k m o : Option Content) → BothTold (Dropped (IsEpochBelow e) old new) k m → BothTold (Dropped (IsOne (epoch_name e (get_or old.epochs e no_place).generation)) old new) m o → BothTold (Dropped (IsEpochBelow (e + 1)) old new) k o
  epoch_dropped e k m o first second = both_told (IsEpochBelow e) (IsOne (epoch_name e (get_or old.epochs e no_place).generation)) (IsEpochBelow (e + 1)) k m o step first second where
    step : (name : FileName) → drops old new name ≡ true → IsEpochBelow (e + 1) name → IsEpochBelow e name ⊎ IsOne (epoch_name e (get_or old.epochs e no_place).generation) name
    step name there which =
        elim (cases_lt name.number e) [
          | inl low ↦ inl (which.0, low)
          | inr high ↦
              let below = which.1 in
              let number : name.number ≡ e = omega (arith, high, below) in
              let is : named_by old kind.Epoch name.number name.generation ≡ true = subst (λ (k : FileKind). named_by old k name.number name.generation ≡ true) which.0 (one_alone (names_file old name) (names_file new name) there).0 in
              let gen_is : name.generation ≡ (get_or old.epochs e no_place).generation = named_epoch old name.number name.generation is ∙ ap (λ (n : ℕ). (get_or old.epochs n no_place).generation) number in
              inr (ap (λ (k : FileKind). named k name.number name.generation) which.0 ∙ (ap (λ (n : ℕ). named kind.Epoch n name.generation) number ∙ ap (named kind.Epoch e) gen_is))
        ]

  -- Beside the root file a root names the map, the cache, and epochs.
  which_file : (k : FileKind) (n g : ℕ) → named_by old k n g ≡ true → named_by new k n g ≡ false → IsOne (map_name old.map.generation) (named k n g) ⊎ (IsOne (cache_name old.cache.generation) (named k n g) ⊎ IsEpochBelow 64 (named k n g))
  which_file kind.Root n g is isnt = absurd (not_both (named_by new kind.Root n g) (ap (names_file new) (named_root old n g is)) isnt)
  which_file kind.Map n g is isnt = inl (named_map old n g is)
  which_file kind.Epoch n g is isnt = inr (inr (refl, named_number old n g is))
  which_file kind.Cache n g is isnt = inr (inl (named_cache old n g is))

  -- All of them are removed.
  pub all_dropped : (k l m o : Option Content) → BothTold (Dropped (IsOne (map_name old.map.generation)) old new) k l → BothTold (Dropped (IsOne (cache_name old.cache.generation)) old new) l m → BothTold (Dropped (IsEpochBelow 64) old new) m o → BothTold (Dropped IsAny old new) k o
  all_dropped k l m o map cache epochs =
      let Two : FileName → Type 0 = λ name. IsOne (cache_name old.cache.generation) name ⊎ IsEpochBelow 64 name in
      both_told (IsOne (map_name old.map.generation)) Two IsAny k l o
      (λ name there any. let tests = one_alone (names_file old name) (names_file new name) there in which_file name.kind name.number name.generation tests.0 tests.1)
      map
      (both_told (IsOne (cache_name old.cache.generation)) (IsEpochBelow 64) Two l m o (λ name there two. two) cache epochs)

  -- And then synced.
  pub dropped_synced : (k m o : Option Content) → BothTold (Dropped IsAny old new) k m → BothTold Synced m o → BothTold (IsDropped old new) k o
  dropped_synced k m o = told_then (Dropped IsAny old new) Synced (IsDropped old new) k m o (λ a b c it mid one two. record {
    dropped = record {
      gone = λ name any there. two.seen name ∙ one.gone name any there;
      kept = λ name is. two.seen name ∙ one.kept name is;
      none_made = λ name none. two.seen name ∙ one.none_made name none;
    };
    settled = λ name. subst (λ (file : File). Within (c name).sure (exact file)) (sym (two.seen name)) (two.crash name);
  })
