-- Lemmas for proofs: what a crash leaves of a store's own disk.
use Rattle.std.specs.Prelude.{◌-◌, ℕ, List, Some}
use Rattle.disk_model.specs.Disk.{Files, Content, Image}
use Rattle.arch_model.specs.Archives.{Archive}
use Rattle.root_change.specs.Leaving.{on_stands}
use Rattle.root_change.specs.Parts.{texts_of}
use Rattle.store_finding.specs.Recovery.{parts_of, RecoversWith}
use Rattle.store_finding.specs.Kept.{StoreState, IsDiskWith}

-- Each crash leaves files that stand for its archive.
pub disk_recovers : (v : StoreState) (cache : List ℕ) (a : Archive) (k : Content) (image : Files)
    → IsDiskWith v cache a k → Image (Some k) image → RecoversWith cache image a
disk_recovers v cache a k image own left = (
  v.root,
  record {
    valid = own.keeps.valid;
    names = own.keeps.names;
    cache_fits = own.cache_fits;
    stands = on_stands v.root (1 - v.slot) (texts_of v.root (parts_of a cache)) k image own.on left;
  },
)
