use Rattle.std.proofs.Common.{true}
use Rattle.http_front.specs.Asking.{blob_found}
use Rattle.http_front.specs.Views.{blob_named}
use Rattle.http_front.proofs.Counting.{leaves-whole, blob-whole}
use Rattle.http_front.proofs.found.find_address.Goals as goal

pub returns-in-Blob-clause-left : goal.returns-in-Blob-clause-left
returns-in-Blob-clause-left g c = λ a held.
    rw c.in-Blob.is (leaves-whole a (blob_found (blob_named a.config.form a.entries c.in-Blob.digits.now)) true c.blob_at.result (blob-whole (blob_named a.config.form a.entries c.in-Blob.digits.now)) (c.blob_at.ensures.found a held))
