use Rattle.std.proofs.Common.{◌∙◌, is_some, ap}
use Rattle.std.proofs.lemmas.Result.{on_ok_weaker}
use Rattle.mem_archive.specs.declared.kept.End.{End}
use Rattle.mem_archive.proofs.Appending.{new-message}
use Rattle.mem_archive.proofs.memory.MemArchive.keep.Goals as goal

pub unwrap-commit-requires : goal.unwrap-commit-requires
unwrap-commit-requires c = ap (λ (e : End). is_some e.parent) c.in_ok-end.ensures

pub append_message-requires : goal.append_message-requires
append_message-requires c =
    let new = new-message c.self.inside.config c.self.inside.kept.items c.self.inside.places.items c.self.inside.index c.self.inside.end c.args.self.now c.args.text c.as_slice.result.now c.args.moment c.next-number.result c.in_ok-end.end c.unwrap-commit.result c.self.view_is c.self.invariant.0 c.requires.free c.requires.alone c.requires.room c.in_ok-end.ensures c.as_slice.ensures c.unwrap-commit.ensures c.next-number.ensures in
    record { ids = c.requires.ids; follows = new.follows; number = c.next-number.ensures; ends = new.ends }

pub returns-clause-ok : goal.returns-clause-ok
returns-clause-ok c =
    let new = new-message c.self.inside.config c.self.inside.kept.items c.self.inside.places.items c.self.inside.index c.self.inside.end c.args.self.now c.args.text c.as_slice.result.now c.args.moment c.next-number.result c.in_ok-end.end c.unwrap-commit.result c.self.view_is c.self.invariant.0 c.requires.free c.requires.alone c.requires.room c.in_ok-end.ensures c.as_slice.ensures c.unwrap-commit.ensures c.next-number.ensures in
    on_ok_weaker c.append_message.result (λ is. is ∙ new.gives) c.append_message.ensures.ok
