use Rattle.std.proofs.Common.{◌∙◌, Some, None, ap, sym}
use Rattle.arch_base.specs.declared.config.Config.{Config}
use Rattle.http_heads.specs.Addresses.{shown, named_by, segments_of}
use Rattle.http_heads.specs.Parameters.{path_of}
use Rattle.http_front.specs.Counting.{path_said, target_said}
use Rattle.http_front.proofs.Counting.{leaves-as}
use Rattle.http_front.proofs.Finding.{finds-named, finds-nothing, reads-named, path-named}
use Rattle.http_front.proofs.found.find_target.Goals as goal

pub returns-in-Some-clause-found : goal.returns-in-Some-clause-found
returns-in-Some-clause-found g c = λ a held.
    finds-named a c.split_target.result.1.now _ (named_by a.config.name (segments_of (path_of c.args.target.now))) (shown c.in-Some.address) _
    (path-named a c.args.target.now _ _ _ (Some (shown c.in-Some.address)) c.in-Some.ensures (c.as_slice.ensures.value ∙ ap (λ (k : Config). k.name) (c.config.ensures a held)) (c.as_slice-in-Ok.ensures ∙ c.in-Ok.ensures) c.split_target.ensures.path)
    c.split_target.ensures.query (c.find_address.ensures.found a held)

pub returns-in-Some-clause-reads : goal.returns-in-Some-clause-reads
returns-in-Some-clause-reads g c = λ a held.
    reads-named (named_by a.config.name (segments_of (path_of c.args.target.now))) (shown c.in-Some.address) _ _
    (path-named a c.args.target.now _ _ _ (Some (shown c.in-Some.address)) c.in-Some.ensures (c.as_slice.ensures.value ∙ ap (λ (k : Config). k.name) (c.config.ensures a held)) (c.as_slice-in-Ok.ensures ∙ c.in-Ok.ensures) c.split_target.ensures.path)
    (c.find_address.ensures.reads a held)

pub returns-in-Ok-clause-found : goal.returns-in-Ok-clause-found
returns-in-Ok-clause-found g c = λ a held.
    finds-nothing a _ (named_by a.config.name (segments_of (path_of c.args.target.now)))
    (path-named a c.args.target.now _ _ _ None c.in-None.ensures (c.as_slice.ensures.value ∙ ap (λ (k : Config). k.name) (c.config.ensures a held)) (c.as_slice-in-Ok.ensures ∙ c.in-Ok.ensures) c.split_target.ensures.path)

pub returns-in-Some-clause-left : goal.returns-in-Some-clause-left
returns-in-Some-clause-left g c = λ a held.
    leaves-as a _ (target_said a c.args.target.now) c.find_address.result
    (ap (path_said a)
    (sym (path-named a c.args.target.now _ _ _ (Some (shown c.in-Some.address)) c.in-Some.ensures (c.as_slice.ensures.value ∙ ap (λ (k : Config). k.name) (c.config.ensures a held)) (c.as_slice-in-Ok.ensures ∙ c.in-Ok.ensures) c.split_target.ensures.path)))
    (c.find_address.ensures.left a held)
