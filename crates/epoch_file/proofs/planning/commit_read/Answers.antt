-- The text that was read is the entry's.
use Rattle.std.proofs.Common.{◌≡◌, ◌∙◌, ◌<◌, ◌≤◌, arith, sym}
use Rattle.git_objects.specs.Objects.{blob_id_of}
use Rattle.epoch_file.proofs.Planned.{commits_other, commits_read, commits_short, ids_differ, ids_same, lacks_text}
use Rattle.epoch_file.proofs.planning.commit_read.Goals as goal
use Rattle.epoch_file.proofs.planning.commit_read.Goals.{then-count-room-via-then-count-room, then-count-room-via-else-count-room+then-ne}

pub returns-then-count-room-clause-commit : goal.returns-then-count-room-clause-commit
returns-then-count-room-clause-commit g c =
    let seen = c.args.seen.now in
    let before = c.args.room.now in
    let after = c.read.new.into in
    let content = g.D.Disk.content c.args.disk.now in
    let read = c.in_ok-count.ensures.bytes in
    elim c.then-count-room.branch [
      | then-count-room-via-then-count-room w ↦
          let short : c.in_ok-count.count < seen.size = (let test = w.if-count-room.true in omega (arith, test, c.requires.room)) in
          commits_short c.args.form c.args.file seen c.args.parent c.in_ok-count.count before after content read c.requires.room short
      | then-count-room-via-else-count-room+then-ne w ↦
          commits_other c.args.form c.args.file seen c.args.parent c.in_ok-count.count before after content read c.requires.room (λ same.
          ids_differ w.blob_id.result seen.blob w.ne.result w.ne.ensures w.if-ne.true (w.blob_id.ensures.value ∙ same))
    ]

pub returns-then-count-room-clause-damage : goal.returns-then-count-room-clause-damage
returns-then-count-room-clause-damage g c =
    lacks_text c.args.form c.args.file c.args.seen.now c.args.parent (g.D.Disk.content c.args.disk.now) (returns-then-count-room-clause-commit g c)

pub returns-clause-commit : goal.returns-clause-commit
returns-clause-commit g c =
    let seen = c.args.seen.now in
    let whole : seen.size ≤ c.in_ok-count.count = (let test = c.if-count-room.false in omega (arith, test, c.requires.room)) in
    let blob : blob_id_of c.args.form c.read.new.into ≡ seen.blob = sym c.blob_id.ensures.value ∙ ids_same c.blob_id.result seen.blob c.ne.result c.ne.ensures c.if-ne.false in
    commits_read c.args.form c.args.file seen c.args.parent c.in_ok-count.count c.args.room.now c.read.new.into _ (g.D.Disk.content c.args.disk.now) c.in_ok-count.ensures.bytes c.requires.room whole blob c.in_ok-objects.ensures.spelled c.in_ok-objects.ensures.commit
