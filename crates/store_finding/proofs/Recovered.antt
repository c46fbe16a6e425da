-- Files that stand for an archive have no damage.
use Rattle.std.specs.Prelude.{◌-◌}
use Rattle.disk_model.specs.Disk.{bytes_of}
use Rattle.number_map.specs.Laws.{ReadOrDamaged, RecordsDiffer}
use Rattle.epoch_file.specs.Entries.{EntriesDiffer, EpochsDiffer}
use Rattle.store_finding.specs.Files.{map_file_of}
use Rattle.store_finding.specs.Recovery.{records_of}
use Rattle.store_finding.specs.Openings.{RecoversUndamaged}
use Rattle.store_finding.proofs.Opened.{recovers_map, recovers_opened}
use Rattle.store_finding.proofs.Undamaged.{opened_undamaged}

-- Files that stand for an archive have no damage.
pub recovers_undamaged : RecordsDiffer → ReadOrDamaged → EntriesDiffer → EpochsDiffer → RecoversUndamaged
recovers_undamaged records either entries epochs root files a cache recovers =
    let has = recovers_map root files a cache recovers in (
      λ offset damaged. either root.config.form (root.next - 1) (bytes_of (files (map_file_of root))) (records_of a) offset (has.count, has.begins) damaged,
      λ rs epoch offset map damage. opened_undamaged entries epochs root files rs a.entries epoch offset map (recovers_opened records root files rs a cache map recovers) damage,
    )
