-- Laws of files that stand for archives.
use Rattle.std.specs.Prelude.{◌≡◌, ℕ, List, Option, Some}
use Rattle.disk_model.specs.Disk.{Files, Content, Image}
use Rattle.arch_model.specs.Archives.{Archive}
use Rattle.store_finding.specs.Files.{as_read}
use Rattle.store_finding.specs.Openings.{cache_in}
use Rattle.store_finding.specs.Recovery.{RecoversWith, RecoversSomeWith, ExactWith}
use Rattle.store_finding.specs.Kept.{StoreState, IsDiskWith, KeepsArchive}
use Rattle.epoch_store.specs.Opens.{IsOpenedIn}

-- Files stand for at most one archive, with whatever caches.
abbrev pub RecoversOne : Type 0
RecoversOne = (image : Files) (a b : Archive) (c d : List ℕ) → RecoversWith c image a
    → RecoversWith d image b → a ≡ b

-- Files never stand both for an archive and for none.
abbrev pub RecoversSomeOne : Type 0
RecoversSomeOne = (image : Files) (a b : Option Archive) (c d : List ℕ)
    → RecoversSomeWith c image a → RecoversSomeWith d image b → a ≡ b

-- Files that stand for an archive stand for it, and for none other, with at most one cache.
abbrev pub CachesOne : Type 0
CachesOne = (image : Files) (a : Archive) (b : Option Archive) (c d : List ℕ)
    → RecoversWith c image a → RecoversSomeWith d image b → c ≡ d

-- Files of which a store is opened stand for an archive that it keeps, with what there is of the cache
-- that their root names.
abbrev pub OpenedStands : Type 0
OpenedStands = (files : Files) (v : StoreState) → IsOpenedIn files v
    → (a : Archive) × RecoversWith (cache_in v.root files) files a × KeepsArchive v a

-- Files that are exactly those of an archive stand for it.
abbrev pub ExactRecovers : Type 0
ExactRecovers = (cache : List ℕ) (files : Files) (a : Archive) → ExactWith cache files a
    → RecoversWith cache files a

-- Each crash of a store's own disk leaves files that stand for its archive, and its files as they
-- read are exactly the archive's.
abbrev pub StoreRecovers : Type 0
StoreRecovers = (v : StoreState) (cache : List ℕ) (a : Archive) (k : Content) → IsDiskWith v cache a k
    → ((image : Files) → Image (Some k) image → RecoversWith cache image a)
    × ExactWith cache (as_read k) a
