-- What an archive that wasn't opened leaves.
use Rattle.std.specs.Prelude.{◌≡◌, ◌⊎◌, ℕ, List, Option, Some, None, Err, refl}
use Rattle.std.proofs.Common.{◌∙◌, subst, sym, ap, inl, inr}
use Rattle.disk_model.specs.declared.name.FileName.{FileName}
use Rattle.disk_model.specs.Disk.{File, Files, Content, MaySurvive, BothTold, WhereTold, ReadsFit, bytes_of, exact}
use Rattle.disk_model.specs.Laws.{MaySurvive-Within, MaySurvive-exact}
use Rattle.disk_model.specs.Synced.{IsSettled}
use Rattle.arch_model.specs.Archives.{Archive}
use Rattle.arch_model.specs.declared.opening.OpenRefusal.{OpenRefusal}
use Rattle.arch_model.specs.declared.opening.OpenRefusal.TheVariants.{NoArchive, Damaged, DiskFault, NoMemory}
use Rattle.root_slots.specs.Each.{IfThere}
use Rattle.root_slots.specs.RootName.{root_name}
use Rattle.root_slots.specs.Slots.{HasRoot}
use Rattle.root_slots.specs.Spelling.{spelling}
use Rattle.store_finding.specs.Files.{as_read}
use Rattle.epoch_store.specs.Leaving.{disk_recovers}
use Rattle.epoch_store.specs.Laws.{StoreRecovers, ExactRecovers}
use Rattle.epoch_store.specs.Opens.{ReadsWith, IsOnlySynced, RefusesBefore}
use Rattle.store_finding.specs.Recovery.{RecoversWith}
use Rattle.store_finding.specs.Kept.{StoreState, IsStoreWith}
use Rattle.archive_core.specs.Engines.{FilesAreOn}
use Rattle.archive_core.specs.Openings.{StillReads, SettlesOpened, LeavesKindly}

-- A store's own disk reads as its archive.
store_reads : StoreRecovers → ExactRecovers → (v : StoreState) (cache : List ℕ) (a : Archive) (k : Option Content) → IsStoreWith v cache a k → ReadsWith cache a k
store_reads recovers exact v cache a None store = absurd store
store_reads recovers exact v cache a (Some k) store = exact cache (as_read k) a (recovers v cache a k store).1

-- So the files that a store was opened from still read so.
pub opened_reads : StoreRecovers → ExactRecovers → (v : StoreState) (old new : Option Content) → ((a : Archive) (cache : List ℕ) → ReadsWith cache a old → IsStoreWith v cache a new) → StillReads old new
opened_reads recovers exact v old new done a cache reads = store_reads recovers exact v cache a new (done a cache reads)

-- So do files that are only synced.
synced_reads : (old new : Option Content) → BothTold IsOnlySynced old new → StillReads old new
synced_reads None new synced a cache reads = absurd reads
synced_reads (Some k) None synced a cache reads = absurd synced
synced_reads (Some k) (Some m) synced a cache reads = let one : as_read m ≡ as_read k = (λ i. λ (name : FileName). synced.seen name i) in subst (λ (files : Files). RecoversWith cache files a) (sym one) reads

-- Files that are only synced are still those of a store's own disk.
synced_sure : (k m : Content) → ReadsFit (Some k) → IsOnlySynced k m → (name : FileName) (file : File) → MaySurvive (m name).sure file → MaySurvive (k name).sure file
synced_sure k m fit synced name file fits =
    let is : file ≡ (m name).seen = MaySurvive-exact (m name).seen file (MaySurvive-Within (m name).sure (exact (m name).seen) file (synced.settled name) fits) in
    subst (λ (f : File). MaySurvive (k name).sure f) (sym (is ∙ synced.seen name)) (fit k refl name)

synced_own : (v : StoreState) (cache : List ℕ) (a : Archive) (old new : Option Content) → ReadsFit old → BothTold IsOnlySynced old new → IsStoreWith v cache a old → IsStoreWith v cache a new
synced_own v cache a None new fit synced store = absurd store
synced_own v cache a (Some k) None fit synced store = absurd synced
synced_own v cache a (Some k) (Some m) fit synced store = record {
  keeps = store.keeps;
  cache_fits = store.cache_fits;
  on = record {
    roots = λ file fits. store.on.roots file (synced_sure k m fit synced root_name file fits);
    fronts = λ name other file fits. store.on.fronts name other file (synced_sure k m fit synced name file fits);
    exact = record {
      current = subst (λ (f : File). IfThere (HasRoot (spelling v.root)) f) (sym (synced.seen root_name)) store.on.exact.current;
      ends = λ name other. ap bytes_of (synced.seen name) ∙ store.on.exact.ends name other;
      no_other = λ name none. synced.seen name ∙ store.on.exact.no_other name none;
    };
  };
}

-- All that reads give is on the disk then.
synced_settled : (old new : Option Content) → BothTold IsOnlySynced old new → WhereTold IsSettled new
synced_settled old None synced = tt
synced_settled None (Some m) synced = absurd synced
synced_settled (Some k) (Some m) synced = synced.settled

-- A store's own disk reads as its archive, since what it reads as a crash may leave.
own_reads : (v : StoreState) (cache : List ℕ) (a : Archive) (k : Option Content) → ReadsFit k → IsStoreWith v cache a k → ReadsWith cache a k
own_reads v cache a None fit store = absurd store
own_reads v cache a (Some k) fit store = disk_recovers v cache a k (as_read k) store (λ name. fit k refl name)

-- An opening that runs out of memory leaves exactly the files of an archive, if they were that.
pub kindly_rests : (a : Archive) (old new : Option Content) → ReadsFit old → LeavesKindly NoMemory old new → FilesAreOn a old → FilesAreOn a new
kindly_rests a old new fit kindly files_are = by kindly.1 where
  by : BothTold IsOnlySynced old new ⊎ SettlesOpened old new → FilesAreOn a new
  by (inl synced) = (files_are.0, files_are.1, synced_own files_are.0 files_are.1 a old new fit synced files_are.2, synced_settled old new synced)
  by (inr opened) = (opened.0, files_are.1, opened.3 a files_are.1 (own_reads files_are.0 files_are.1 a old fit files_are.2), opened.4)

-- What a refusal of a store leaves.
pub refused_kindly : (T : Type 0) (why : OpenRefusal) (old new : Option Content) → RefusesBefore {T = T} (Err why) old new → LeavesKindly why old new
refused_kindly T NoArchive old new kept = kept
refused_kindly T (Damaged file at) old new kept = kept
refused_kindly T DiskFault old new kept = tt
refused_kindly T NoMemory old new kept = (synced_reads old new kept, inl kept)
