-- What is left of a disk while an archive is created on it.
use Rattle.std.specs.Prelude.{◌≡◌, ◌⊎◌, ◌≤◌, ℕ, List, length, Option, Some, None, is_some, Result, Ok, Err, OnOk, refl}
use Rattle.std.specs.List.{Contains}
use Rattle.std.proofs.Common.{◌∙◌, sym, ap, subst, inl, inr, arith}
use Rattle.std.proofs.lemmas.List.{length-replicate, get_or-replicate}
use Rattle.arch_base.specs.Configs.{IsConfig}
use Rattle.arch_base.specs.declared.config.Config.{Config}
use Rattle.root_slots.specs.declared.root.Place.{Place}
use Rattle.root_slots.specs.Valid.{IsRoot, PlaceIsValid, no_place}
use Rattle.disk_model.specs.declared.disk.Disk.{Ghosts as Disk}
use Rattle.disk_model.specs.declared.name.FileName.{FileName}
use Rattle.disk_model.specs.Moments.{LeavesOnly, joined, weaker}
use Rattle.number_map.specs.Sizes.{sizes_none}
use Rattle.disk_model.specs.Disk.{File, Files, Kept, Content, Image, BothTold, WhereTold, MaySurvive, Survival, remove_sure, exact, bytes_of}
use Rattle.disk_model.specs.Laws.{MaySurvive-Within, MaySurvive-exact}
use Rattle.store_finding.specs.Listing.{AreAllNames}
use Rattle.store_finding.proofs.NameLists.{contains_or_not}
use Rattle.store_finding.specs.Removing.{Fewer, AreRemoved}
use Rattle.root_slots.specs.RootName.{root_name}
use Rattle.root_slots.specs.Each.{IfThere, EachRoot}
use Rattle.root_slots.specs.Slots.{HasRootSize, Ready, IsShutFile, EachShut, LeavesShut, IsBegun, IsCommitted, HasNewRoot, with_root}
use Rattle.epoch_store.specs.First.{first_root_of, AreZeros, ShutOrFirst, MakesRoot, HasOnly}

-- A removal leaves a file missing, or as before.
removed_or_before : (s : Survival) (file : File) → MaySurvive (remove_sure s) file → (file ≡ None) ⊎ MaySurvive s file
removed_or_before s None fits = inl refl
removed_or_before s (Some bytes) fits = inr (record { there = fits.there; no_shorter = fits.no_shorter; no_longer = fits.no_longer; outside = fits.outside })

-- A missing root file has no open slot.
none_is_shut : (file : File) → file ≡ None → IsShutFile file
none_is_shut None is = tt
none_is_shut (Some bytes) is = let wrong : Some bytes ≡ None = is in cc

-- A file that was removed, or is as before, has no open slot.
shut_still : (s : Survival) (file : File) → ((f : File) → MaySurvive s f → IsShutFile f) → (file ≡ None) ⊎ MaySurvive s file → IsShutFile file
shut_still s file shut (inl none) = none_is_shut file none
shut_still s file shut (inr fits) = shut file fits

module _ (body : List ℕ) (names : List FileName) where
  -- Before the first call.
  pub shut_now : (k : Option Content) (image : Files) → EachShut k → Image k image → MakesRoot body k image
  shut_now None image shut left = tt
  shut_now (Some k) image shut left = inl (shut (image root_name) (left root_name))

  -- While files are removed.
  pub shut_fewer : (k : Option Content) (image : Files) → EachShut k → Fewer names k image → MakesRoot body k image
  shut_fewer None image shut fewer = tt
  shut_fewer (Some k) image shut fewer = inl (elim (contains_or_not names root_name) [
    | inl among ↦ shut_still (k root_name).sure (image root_name) shut (fewer.listed root_name among)
    | inr out ↦ shut (image root_name) (fewer.others root_name out)
  ])

  -- After files are removed.
  pub shut_removed : (k m : Option Content) → EachShut k → BothTold (AreRemoved names) k m → EachShut m
  shut_removed None None shut removed = tt
  shut_removed None (Some m) shut removed = absurd removed
  shut_removed (Some k) None shut removed = absurd removed
  shut_removed (Some k) (Some m) shut removed = λ file fits. elim (contains_or_not names root_name) [
    | inl among ↦ shut_still (k root_name).sure file shut (removed_or_before (k root_name).sure file (MaySurvive-Within (m root_name).sure (remove_sure (k root_name).sure) file (removed.listed root_name among).crash fits))
    | inr out ↦ shut file (subst (λ (kept : Kept). MaySurvive kept.sure file) (removed.others root_name out) fits)
  ]

  -- While the root file is created.
  pub shut_begun : (k m : Option Content) (image : Files) → BothTold (AreRemoved names) k m → LeavesShut m image → MakesRoot body k image
  shut_begun None m image removed leaves = tt
  shut_begun (Some k) None image removed leaves = absurd removed
  shut_begun (Some k) (Some m) image removed leaves = inl leaves.root

  -- All bytes of the root file are then zeros.
  pub zeros_each : (m n : Option Content) → WhereTold (λ c. Unit {0}) m → (m ≡ None → ⊥) → BothTold IsBegun m n → EachRoot AreZeros n
  zeros_each None n told some begun = absurd (some refl)
  zeros_each (Some m) None told some begun = absurd begun
  zeros_each (Some m) (Some n) told some begun = λ file fits.
      let is : file ≡ (n root_name).seen = MaySurvive-exact (n root_name).seen file (MaySurvive-Within (n root_name).sure (exact (n root_name).seen) file (begun.settled root_name) fits) in
      subst (IfThere AreZeros) (sym (is ∙ begun.root)) refl

  -- The file has its size.
  pub zeros_sized : (m n : Option Content) → BothTold IsBegun m n → WhereTold HasRootSize n
  zeros_sized None None begun = tt
  zeros_sized None (Some n) begun = absurd begun
  zeros_sized (Some m) None begun = absurd begun
  zeros_sized (Some m) (Some n) begun = ap (λ (f : File). length (bytes_of f)) begun.root ∙ length-replicate {A = ℕ} 4096 0

  -- While the first root is written.
  pub first_made : (k m n : Option Content) (image : Files) → BothTold (AreRemoved names) k m → BothTold IsBegun m n → ShutOrFirst body n image → MakesRoot body k image
  first_made None m n image removed begun first = tt
  first_made (Some k) None n image removed begun first = absurd removed
  first_made (Some k) (Some m) None image removed begun first = absurd begun
  first_made (Some k) (Some m) (Some n) image removed begun first = first.root

  -- The state at the end.
  pub only_first : (k m n o : Option Content) → WhereTold (AreAllNames names) k → BothTold (AreRemoved names) k m → BothTold IsBegun m n → BothTold IsCommitted n o → ((n ≡ None → ⊥) → EachRoot (Ready 1 body) o) → BothTold (HasNewRoot 0 body) n o → WhereTold (HasOnly body) o
  only_first k m n None all removed begun committed ready written = tt
  only_first k m None (Some o) all removed begun committed ready written = absurd committed
  only_first k None (Some n) (Some o) all removed begun committed ready written = absurd begun
  only_first None (Some m) (Some n) (Some o) all removed begun committed ready written = absurd removed
  only_first (Some k) (Some m) (Some n) (Some o) all removed begun committed ready written = record {
    roots = ready (λ none. let wrong : Some n ≡ None = none in cc);
    others = λ name apart. committed.elsewhere name apart ∙ (begun.elsewhere name apart ∙ gone name);
    settled = committed.settled;
    first = written ∙ ap (λ (f : File). Some (with_root 0 body (bytes_of f))) begun.root;
  } where
    gone : (name : FileName) → (m name).seen ≡ None
    gone name = elim (contains_or_not names name) [
      | inl among ↦ (removed.listed name among).seen
      | inr out ↦ ap (λ (kept : Kept). kept.seen) (removed.others name out) ∙ not_there name (k name).seen refl out
    ] where
      not_there : (name : FileName) (seen : File) → (k name).seen ≡ seen → (Contains names name → ⊥) → (k name).seen ≡ None
      not_there name None is out = is
      not_there name (Some bytes) is out = absurd (out ((all.all name).0 (ap is_some is)))

  -- The contents are told at each step, or at none.
  pub told_through : (k m n o : Option Content) → BothTold (AreRemoved names) k m → BothTold IsBegun m n → BothTold IsCommitted n o → BothTold (λ old new. Unit {0}) k o
  told_through None None None None a b c = tt
  told_through None None None (Some o) a b c = absurd c
  told_through None None (Some n) o a b c = absurd b
  told_through None (Some m) n o a b c = absurd a
  told_through (Some k) None n o a b c = absurd a
  told_through (Some k) (Some m) None o a b c = absurd b
  told_through (Some k) (Some m) (Some n) None a b c = absurd c
  told_through (Some k) (Some m) (Some n) (Some o) a b c = tt

-- One more step; a disk that doesn't tell its content promises nothing for it.
pub first_step : {D : Type 0} (g : Disk D) (old mid begun new : D) (body : List ℕ) (names : List FileName) (k m n : Option Content) → BothTold (AreRemoved names) k m → BothTold IsBegun m n
    → LeavesOnly g old begun (MakesRoot body k) → (EachRoot AreZeros n → LeavesOnly g begun new (ShutOrFirst body n)) → g.moment begun ≤ g.moment new → LeavesOnly g old new (MakesRoot body k)
first_step g old mid begun new body names None m n removed is_begun first last later = weaker g old new (λ image. Unit {0}) (MakesRoot body None) (record { later = (let a = first.later in omega (arith, a, later)); each = λ image left. tt; before = λ t image low left. inr tt }) (λ image left. left)
first_step g old mid begun new body names (Some k) None n removed is_begun first last later = absurd removed
first_step g old mid begun new body names (Some k) (Some m) None removed is_begun first last later = absurd is_begun
first_step g old mid begun new body names (Some k) (Some m) (Some n) removed is_begun first last later =
    joined g old begun new (MakesRoot body (Some k)) (ShutOrFirst body (Some n)) (MakesRoot body (Some k)) first (last (zeros_each body names (Some m) (Some n) tt (λ none. (let wrong : Some m ≡ None = none in cc)) is_begun))
    (λ image makes. makes)
    (λ image. first_made body names (Some k) (Some m) (Some n) image removed is_begun)

-- The state at the end if the last step returns `Ok`.
pub only_on_ok : {T E : Type 0} (result : Result T E) (body : List ℕ) (names : List FileName) (k m n o : Option Content) → WhereTold (AreAllNames names) k → BothTold (AreRemoved names) k m → BothTold IsBegun m n → OnOk result (BothTold IsCommitted n o)
    → (EachRoot AreZeros n → OnOk result (EachRoot (Ready 1 body) o)) → OnOk result (BothTold (HasNewRoot 0 body) n o) → OnOk result (WhereTold (HasOnly body) o)
only_on_ok (Ok v) body names k m n o all removed begun committed ready written = only_first body names k m n o all removed begun committed (λ some. ready (zeros body names m n some begun)) written where
  zeros : (body : List ℕ) (names : List FileName) (m n : Option Content) → (n ≡ None → ⊥) → BothTold IsBegun m n → EachRoot AreZeros n
  zeros body names None None some begun = absurd (some refl)
  zeros body names None (Some n) some begun = absurd begun
  zeros body names (Some m) None some begun = absurd begun
  zeros body names (Some m) (Some n) some begun = zeros_each body names (Some m) (Some n) tt (λ none. (let wrong : Some m ≡ None = none in cc)) begun
only_on_ok (Err e) body names k m n o all removed begun committed ready written = tt

-- The first root is valid.
pub first_is_root : (config : Config) → IsConfig config → IsRoot (first_root_of config)
first_is_root config valid = record {
  config = valid;
  next_least = omega arith;
  next_most = omega arith;
  map_gen = omega arith;
  map_length = sym (sizes_none config.form);
  epochs = λ i d below. subst (PlaceIsValid 1) (sym (get_or-replicate 64 i no_place d (omega (arith, below, length-replicate {A = Place} 64 no_place)))) (record { generation = omega arith; empty = λ none. refl });
  cache = record { generation = omega arith; empty = λ none. refl };
}
