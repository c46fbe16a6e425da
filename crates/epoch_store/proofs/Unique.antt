-- Files stand for at most one archive, and a store's own disk stands for its archive.
use Rattle.std.specs.Prelude.{◌≡◌, ℕ, List, [], Some, None, refl}
use Rattle.std.proofs.Common.{◌∙◌, sym, ap, subst, arith}
use Rattle.disk_model.specs.Disk.{Files}
use Rattle.arch_model.specs.Archives.{Archive}
use Rattle.epoch_file.specs.Entries.{EpochsDiffer}
use Rattle.number_map.specs.Laws.{RecordsDiffer}
use Rattle.root_slots.specs.declared.root.Root.{Root}
use Rattle.root_slots.specs.Laws.{SpellingsDiffer}
use Rattle.root_slots.specs.RootName.{root_name}
use Rattle.root_slots.specs.Spelling.{spelling}
use Rattle.root_change.specs.Parts.{texts_of}
use Rattle.epoch_store.specs.Laws.{RecoversOne, RecoversSomeOne, CachesOne, ExactRecovers, StoreRecovers}
use Rattle.store_finding.specs.Recovery.{records_of, parts_of, RecoversArchiveBy}
use Rattle.epoch_store.specs.Leaving.{disk_recovers}
use Rattle.store_finding.proofs.FrontParts.{parts_front, exact_stands, texts_measure}
use Rattle.store_finding.proofs.UniqueRoots.{root_is_one, not_shut}
use Rattle.store_finding.proofs.Opened.{recovers_map, recovers_opened}
use Rattle.store_finding.proofs.Undamaged.{whole_one}

-- Archives with three equal values are equal.
archive_is : (a b : Archive) → a.config ≡ b.config → a.entries ≡ b.entries → a.next ≡ b.next → a ≡ b
archive_is a b p q r = λ i. record { config = p i; entries = q i; next = r i }

-- Files stand for at most one archive by one root.
one_by_root : RecordsDiffer → EpochsDiffer → (root : Root) (image : Files) (a b : Archive) (c d : List ℕ) → RecoversArchiveBy root c image a → RecoversArchiveBy root d image b → a ≡ b
one_by_root records epochs root image a b c d p q =
    let map = recovers_map root image a c p in
    let one = recovers_opened records root image (records_of a) a c map p in
    let two = recovers_opened records root image (records_of a) b d map q in
    archive_is a b (sym p.names.config ∙ q.names.config)
    (whole_one root image (records_of a) p.names.fits epochs [] [] 64 a.entries b.entries (omega arith) one.first two.first one.whole two.whole) (sym p.names.next ∙ q.names.next)

-- Files stand for at most one archive by any root, since they have one current root.
pub recovers_one : SpellingsDiffer → RecordsDiffer → EpochsDiffer → RecoversOne
recovers_one spellings records epochs image a b c d p q =
    let root : p.0 ≡ q.0 =
    spellings p.0 q.0 p.1.names.fits q.1.names.fits p.1.names.is_root q.1.names.is_root
    (root_is_one (image root_name) (spelling p.0) (spelling q.0) p.1.stands.current q.1.stands.current) in
    one_by_root records epochs q.0 image a b c d (subst (λ (r : Root). RecoversArchiveBy r c image a) root p.1) q.1

-- Files never stand both for an archive and for none.
pub recovers_some_one : SpellingsDiffer → RecordsDiffer → EpochsDiffer → RecoversSomeOne
recovers_some_one spellings records epochs image None None c d p q = refl
recovers_some_one spellings records epochs image None (Some b) c d p q = absurd (not_shut (image root_name) (spelling q.0) q.1.stands.current p)
recovers_some_one spellings records epochs image (Some a) None c d p q = absurd (not_shut (image root_name) (spelling p.0) p.1.stands.current q)
recovers_some_one spellings records epochs image (Some a) (Some b) c d p q = ap (λ (e : Archive). Some e) (recovers_one spellings records epochs image a b c d p q)

-- They have one cache, since they have one current root, which names it.
pub caches_one : SpellingsDiffer → CachesOne
caches_one spellings image a None c d p q = absurd (not_shut (image root_name) (spelling p.0) p.1.stands.current q)
caches_one spellings image a (Some b) c d p q =
    let root : p.0 ≡ q.0 =
    spellings p.0 q.0 p.1.names.fits q.1.names.fits p.1.names.is_root q.1.names.is_root
    (root_is_one (image root_name) (spelling p.0) (spelling q.0) p.1.stands.current q.1.stands.current) in
    let first : RecoversArchiveBy q.0 c image a = subst (λ (r : Root). RecoversArchiveBy r c image a) root p.1 in
    sym (parts_front q.0 c image a first).cache_is ∙ (parts_front q.0 d image b q.1).cache_is

-- Files that are exactly those of an archive stand for it.
pub exact_recovers : ExactRecovers
exact_recovers cache files a p = (
  p.0,
  record {
    valid = p.1.valid;
    names = p.1.names;
    cache_fits = p.1.cache_fits;
    stands = exact_stands p.0 (texts_of p.0 (parts_of a cache)) files (texts_measure p.0 a cache p.1.valid p.1.names p.1.cache_fits) p.1.exact;
  },
)

-- A store's own disk stands for its archive.
pub store_recovers : StoreRecovers
store_recovers v cache a k own =
    (λ image left. disk_recovers v cache a k image own left, (v.root, record { valid = own.keeps.valid; names = own.keeps.names; cache_fits = own.cache_fits; exact = own.on.exact }))
