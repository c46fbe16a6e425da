use Rattle.arch_model.specs.Shelves.{blob_text}
use Rattle.http_front.specs.Asking.{blob_found}
use Rattle.http_front.proofs.Blobs.{blob-read, blob-unread}
use Rattle.http_front.proofs.mirrors.text_of_blob.Goals as goal

pub returns-in-Ok-true-clause-found : goal.returns-in-Ok-true-clause-found
returns-in-Ok-true-clause-found g c = λ a held.
    let given = rw c.in-Ok-true.field-0-test at (c.in-Ok-true.ensures.blob a held) in
    blob-read (blob_text a.config.form a.entries c.args.id.now) given.0 c.new-text.result c.blob.new.into given.1 given.2 c.new-text.ensures

pub returns-in-Err-clause-found : goal.returns-in-Err-clause-found
returns-in-Err-clause-found g c = λ a held.
    blob-unread a (blob_found (blob_text a.config.form a.entries c.args.id.now)) a.config.form a.entries c.args.id.now c.new-text.result c.blob.new.into c.in-Err.refusal (c.in-Err.ensures.blob a held)
