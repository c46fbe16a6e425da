use Rattle.std.proofs.Common.{ap}
use Rattle.arch_base.specs.declared.config.Config.{Config}
use Rattle.http_front.proofs.Blobs.{finds-blob, finds-no_blob}
use Rattle.http_front.proofs.mirrors.blob_at.Goals as goal

pub returns-in-Some-clause-found : goal.returns-in-Some-clause-found
returns-in-Some-clause-found g c = λ a held.
    finds-blob a c.config.result.now.form (ap (λ (k : Config). k.form) (c.config.ensures a held)) c.args.digits.now c.in-Some.id c.text_of_blob.result c.in-Some.ensures.found.0 c.in-Some.ensures.found.1 (c.text_of_blob.ensures.found a held)

pub returns-in-None-clause-found : goal.returns-in-None-clause-found
returns-in-None-clause-found g c = λ a held.
    finds-no_blob a c.config.result.now.form (ap (λ (k : Config). k.form) (c.config.ensures a held)) c.args.digits.now c.in-None.ensures.none
