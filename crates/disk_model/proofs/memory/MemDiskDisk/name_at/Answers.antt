-- The names are the keys of the map.
use Rattle.std.specs.Prelude.{IsSome}
use Rattle.std.specs.BTreeMap.{keys}
use Rattle.std.proofs.Common.{subst, sym}
use Rattle.disk_model.specs.Disk.{File}
use Rattle.disk_model.proofs.FileMaps.{keys_in_order, there_iff}
use Rattle.disk_model.proofs.memory.MemDiskDisk.name_at.Goals as goal

pub returns-clause-name : goal.returns-clause-name
returns-clause-name c =
    let files = c.args.self.now.files in
    let ordered = c.name_in_order.ensures.ordered in
    record {
      names = keys files;
      in_order = keys_in_order files ordered;
      all = λ other.
          let there = there_iff files other in
          let is = c.args.self.now.current other in
          (λ seen. there.0 (subst (λ (f : File). IsSome f) (sym is) seen), λ among. subst (λ (f : File). IsSome f) is (there.1 among));
      at = c.name_in_order.ensures.name;
    }
