-- The bytes of the root file between its gates and its bodies, from one state of a disk to another.
use Rattle.std.specs.Prelude.{◌≡◌, ◌<◌, ℕ, Bool, true, false, Option, Some, None, Result, refl, if◌then◌else◌}
use Rattle.std.specs.BTreeMap.{is_at}
use Rattle.std.proofs.Common.{◌∙◌, sym, ap, subst}
use Rattle.disk_model.specs.declared.disk.Disk.{Ghosts as Disk}
use Rattle.disk_model.specs.declared.name.FileName.{FileName}
use Rattle.disk_model.specs.Disk.{File, Files, Content, Image, MaySurvive, ReadsFit, bytes_of}
use Rattle.disk_model.specs.Images.{at_itself, same_name}
use Rattle.disk_model.specs.Name.{name_cmp}
use Rattle.root_slots.specs.Between.{BetweenStays, IsBetween, RunsBetween, crash_between}
use Rattle.root_slots.specs.OneRoot.{BeginsRootIn}
use Rattle.root_slots.specs.RootName.{root_name}
use Rattle.root_slots.proofs.OneRoots.{runs_between}
use Rattle.arch_model.specs.declared.opening.OpenRefusal.{OpenRefusal}
use Rattle.epoch_store.specs.Promises.{OpensNoRoot}
use Rattle.store_finding.specs.Kept.{StoreState}

-- If each crash of a disk leaves the bytes that one of an earlier disk might have left, files with
-- those of a crash of the second disk have those of one of the first.
pub crash_between-over : (k m : Option Content) → ReadsFit m → ((image : Files) → Image m image → BetweenStays k image) → (image : Files) → BetweenStays m image → BetweenStays k image
crash_between-over None m fit each image stays = tt
crash_between-over (Some k) None fit each image stays = each image tt
crash_between-over (Some k) (Some m) fit each image stays =
    let first : IsBetween k (there root_name) = each there may in
    record { from = first.from; fits = first.fits; same = stays.same ∙ (sym (ap (λ (file : File). crash_between (bytes_of file)) here) ∙ first.same) }
  where
    -- The files as they read, but for that root file.
    there : Files
    there name = if is_at (name_cmp root_name) name then stays.from else (m name).seen

    here : there root_name ≡ stays.from
    here = ap (λ (b : Bool). if b then stays.from else (m root_name).seen) (at_itself root_name)

    may : (name : FileName) → MaySurvive (m name).sure (there name)
    may name = chosen (is_at (name_cmp root_name) name) refl
      where
        chosen : (b : Bool) → is_at (name_cmp root_name) name ≡ b → MaySurvive (m name).sure (if b then stays.from else (m name).seen)
        chosen true is = subst (λ (n : FileName). MaySurvive (m n).sure stays.from) (sym (same_name root_name name is)) stays.fits
        chosen false is = fit m refl name

module _ {D : Type 0} (g : Disk D) where
  -- They stay while at most one root is begun, and while an archive is opened.
  pub begins-between : (slot : ℕ) (old new : D) → slot < 2 → BeginsRootIn g slot old new → RunsBetween g old new
  begins-between slot old new low one = runs_between g slot one.0 old new low one.1

  pub opens-between : (old new : D) (result : Result StoreState OpenRefusal) → OpensNoRoot g old new result → RunsBetween g old new
  opens-between old new result none = runs_between g none.slot None old new none.in_range none.crash
