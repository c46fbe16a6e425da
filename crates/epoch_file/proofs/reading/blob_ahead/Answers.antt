use Rattle.git_objects.specs.Objects.{BlobOf}
use Rattle.epoch_file.proofs.Found.{blob_is, blob_ahead_is}
use Rattle.epoch_file.proofs.reading.blob_ahead.Goals as goal

pub returns-in_err-content-clause-again : goal.returns-in_err-content-clause-again
returns-in_err-content-clause-again c = λ content rest fits is. absurd (c.in_err-content.ensures.again (BlobOf content) rest fits is)

pub returns-in-Blob-default-clause-again : goal.returns-in-Blob-default-clause-again
returns-in-Blob-default-clause-again c = λ content rest fits is.
    let found = c.in_ok-content.ensures.again (BlobOf content) rest fits is in
    (blob_is c.in_ok-content.field-0.0 c.in-Blob-default.content content c.in-Blob-default.is-0 found.0, found.1)

pub returns-in-Blob-default-clause-spelled : goal.returns-in-Blob-default-clause-spelled
returns-in-Blob-default-clause-spelled c =
    blob_ahead_is c.args.form c.args.bytes.now c.in_ok-content.field-0.0 c.in-Blob-default.content c.in_ok-content.field-0.1 c.in-Blob-default.is-0 c.in_ok-content.ensures.found
