use Rattle.std.proofs.Common.{◌∙◌, sym, ap, is_some}
use Rattle.std.proofs.lemmas.Bool.{false≢true}
use Rattle.archive_core.proofs.ByBlob.{blob-index, blob-there, blob-nowhere, never-lost}
use Rattle.archive_core.proofs.archive.DiskArchive.blob_index.Goals as goal

pub returns-in_default-clause-index : goal.returns-in_default-clause-index
returns-in_default-clause-index c = λ a keeps. blob-nowhere a c.args.id.now (sym c.in_default.is ∙ c.number_of.ensures a keeps)

pub returns-in_default-message_index-clause-index : goal.returns-in_default-message_index-clause-index
returns-in_default-message_index-clause-index c = λ a keeps.
    absurd (never-lost c.args.self.now a c.args.id.now c.in-Some.number keeps (c.in-Some.ensures a keeps) (c.message_index.ensures.message a keeps ∙ ap is_some c.in_default-message_index.is))

pub returns-then-not-has_blob-clause-index : goal.returns-then-not-has_blob-clause-index
returns-then-not-has_blob-clause-index c = λ a keeps.
    absurd (false≢true (sym c.if-not-has_blob.true ∙ c.has_blob.ensures.1 (blob-there c.args.self.now a c.args.id.now c.in-Some.number c.in-Some-message_index.index keeps (c.in-Some.ensures a keeps) c.in-Some-message_index.ensures.known)))

pub returns-clause-index : goal.returns-clause-index
returns-clause-index c = λ a keeps.
    blob-index c.args.self.now a c.args.id.now c.in-Some.number c.in-Some-message_index.index keeps (c.in-Some.ensures a keeps) c.in-Some-message_index.ensures.known
