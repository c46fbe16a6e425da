use Rattle.mirror_wire.proofs.LineParts.{no_place, no_time, no_blob, no_commit, line-found}
use Rattle.mirror_wire.proofs.line_reading.read_line.Goals as goal

pub returns-in_err-kind : goal.returns-in_err-kind
returns-in_err-kind c = rw c.from_residual.ensures (no_place c.args.form c.args.bytes.now c.in_err-kind.ensures)

pub returns-in_err-epoch : goal.returns-in_err-epoch
returns-in_err-epoch c = rw c.from_residual-in_err-epoch.ensures
    (no_time c.args.form c.args.bytes.now c.in_ok-kind.rest.now c.in_ok-kind.kind c.in_ok-kind.number (record { begins = c.in_ok-kind.ensures }) c.in_err-epoch.ensures)

pub returns-in_err-blob : goal.returns-in_err-blob
returns-in_err-blob c = rw c.from_residual-in_err-blob.ensures
    (no_blob c.args.form c.args.bytes.now c.in_ok-kind.rest.now c.in_ok-epoch.rest.now c.in_ok-kind.kind c.in_ok-kind.number c.in_ok-epoch.epoch c.in_ok-epoch.secs
    (record { begins = c.in_ok-kind.ensures }) (record { begins = c.in_ok-epoch.ensures }) c.in_err-blob.ensures)

pub returns-in_err-commit : goal.returns-in_err-commit
returns-in_err-commit c = rw c.from_residual-in_err-commit.ensures
    (no_commit c.args.form c.args.bytes.now c.in_ok-kind.rest.now c.in_ok-epoch.rest.now c.in_ok-blob.rest.now c.in_ok-kind.kind c.in_ok-kind.number c.in_ok-epoch.epoch c.in_ok-epoch.secs
    c.in_ok-blob.blob c.in_ok-blob.size (record { begins = c.in_ok-kind.ensures }) (record { begins = c.in_ok-epoch.ensures }) (record { begins = c.in_ok-blob.ensures }) c.in_err-commit.ensures)

pub returns : goal.returns
returns c =
    line-found c.args.form c.args.bytes.now c.in_ok-kind.rest.now c.in_ok-epoch.rest.now c.in_ok-blob.rest.now c.in_ok-commit.rest.now c.in_ok-kind.kind c.in_ok-kind.number c.in_ok-epoch.epoch
    c.in_ok-epoch.secs c.in_ok-blob.blob c.in_ok-blob.size c.in_ok-commit.commit (record { begins = c.in_ok-kind.ensures }) (record { begins = c.in_ok-epoch.ensures })
    (record { begins = c.in_ok-blob.ensures }) c.in_ok-commit.ensures
