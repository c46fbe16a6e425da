use Rattle.std.proofs.Common.{◌∙◌, is_some, ap, refl}
use Rattle.std.proofs.lemmas.Result.{on_ok_weaker}
use Rattle.mem_archive.specs.declared.kept.End.{End}
use Rattle.mem_archive.proofs.Appending.{new-deletion}
use Rattle.mem_archive.proofs.memory.MemArchive.push_deletion.Goals as goal

pub unwrap-commit-requires : goal.unwrap-commit-requires
unwrap-commit-requires c = ap (λ (e : End). is_some e.parent) c.in_ok-end.ensures

pub append_deletion-requires : goal.append_deletion-requires
append_deletion-requires c =
    let new = new-deletion c.self.inside.config c.self.inside.kept.items c.self.inside.places.items c.self.inside.index c.self.inside.end c.args.self.now c.args.number c.args.text c.as_slice.result.now c.args.moment c.in_ok-end.end c.unwrap-commit.result c.self.view_is c.self.invariant.0 c.requires.live c.in_ok-end.ensures c.as_slice.ensures c.unwrap-commit.ensures in
    record { follows = new.follows; kind = refl; ends = new.ends }

pub returns-clause-ok : goal.returns-clause-ok
returns-clause-ok c =
    let new = new-deletion c.self.inside.config c.self.inside.kept.items c.self.inside.places.items c.self.inside.index c.self.inside.end c.args.self.now c.args.number c.args.text c.as_slice.result.now c.args.moment c.in_ok-end.end c.unwrap-commit.result c.self.view_is c.self.invariant.0 c.requires.live c.in_ok-end.ensures c.as_slice.ensures c.unwrap-commit.ensures in
    on_ok_weaker c.append_deletion.result (λ is. is ∙ new.gives) c.append_deletion.ensures.ok
