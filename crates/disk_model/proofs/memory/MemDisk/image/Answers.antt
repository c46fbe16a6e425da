-- A pick is one of the images.
use Rattle.std.proofs.Common.{◌∙◌, ◌≡◌, ◌-◌, length, take, List, Some, ap, subst, arith}
use Rattle.std.proofs.lemmas.Result.{IfOk-weaker}
use Rattle.disk_model.specs.declared.change.Change.{Change}
use Rattle.disk_model.specs.declared.memory.MemDisk.{MemDisk}
use Rattle.disk_model.specs.Disk.{Image}
use Rattle.disk_model.specs.Record.{file_at, content_of}
use Rattle.disk_model.specs.Applied.{IsPicked-image, picked_count}
use Rattle.disk_model.specs.Memory.{files_of, base_of}
use Rattle.disk_model.proofs.Steps.{picks}
use Rattle.disk_model.proofs.memory.MemDisk.image.Goals as goal

pub returns-clause-image : goal.returns-clause-image
returns-clause-image c =
    let disk = c.args.self.now in
    let changes = take c.args.at c.deref.result.now in
    let size : length c.split_at.result.1.now ≡ length changes - c.last_sync.result = let back = c.split_at.ensures.back_len in omega arith in
    let kept_is = c.kept-kept.ensures ∙ ap (picked_count c.args.pick) size in
    IfOk-weaker c.of_files.result _ (λ (made : MemDisk). Image (Some (content_of (base_of disk) (take c.args.at disk.changes.items))) (files_of made))
    (λ made fresh.
    let P = λ (cs : List Change). Image (Some (content_of (base_of disk) (take c.args.at cs))) (files_of made) in
    subst P c.deref.ensures.value (IsPicked-image c.args.pick (base_of disk) changes (files_of made)
    (picks c.args.pick c.kept-kept.result c.last_sync.result changes c.split_at.result.0.now c.split_at.result.1.now disk.base c.apply_all.new.files c.apply_all-2.new.files (file_at c.in_ok-files.files)
    c.last_sync.ensures c.split_at.ensures.front c.split_at.ensures.back kept_is c.in_ok-files.ensures c.in_ok-apply_all.ensures c.in_ok-apply_all-2.ensures (files_of made) fresh.here)))
    c.of_files.ensures
