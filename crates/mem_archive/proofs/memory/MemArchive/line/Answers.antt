use Rattle.std.proofs.Common.{◌≡◌, ◌≤◌, ◌<◌, ◌∙◌, length, get_or, Some, ap}
use Rattle.mem_archive.proofs.Lines.{line_in-at, line_in-past}
use Rattle.mem_archive.proofs.memory.MemArchive.line.Goals as goal

pub returns-in-None : goal.returns-in-None
returns-in-None c =
    let past : length c.self.inside.kept.items ≤ c.args.index = rw c.as_slice.ensures.value at (c.in-None.ensures.lookup.3) in
    line_in-past c.self.inside.config c.self.inside.kept.items c.self.inside.places.items c.self.inside.index c.self.inside.end c.args.self.now c.self.view_is c.self.invariant.0 c.args.index past

pub returns-in-Some : goal.returns-in-Some
returns-in-Some c =
    let within : c.args.index < length c.self.inside.kept.items = rw c.as_slice.ensures.value at (c.in-Some.ensures.lookup.3.0) in
    let is : c.in-Some.kept.now ≡ get_or c.self.inside.kept.items c.args.index c.in-Some.kept.now = rw c.as_slice.ensures.value at (c.in-Some.ensures.lookup.1) in
    ap Some c.line.ensures ∙ line_in-at c.self.inside.config c.self.inside.kept.items c.self.inside.places.items c.self.inside.index c.self.inside.end c.args.self.now c.self.view_is c.self.invariant.0 c.args.index c.in-Some.kept.now within is
