use Rattle.std.proofs.Common.{◌≡◌, Some, sym}
use Rattle.arch_model.specs.Shelves.{blob_text}
use Rattle.arch_judge.specs.Judging.{IsKnownBy}
use Rattle.mem_archive.proofs.Delivering.{kept_known, judged-keeps, compared-with, compared-decides, compared-keeps}
use Rattle.mem_archive.proofs.Lines.{number_in-some}
use Rattle.mem_archive.proofs.memory.MemArchive.verdict.Goals as goal

pub returns-in-Final : goal.returns-in-Final
returns-in-Final c =
    let known : IsKnownBy c.self.inside.config c.self.inside.index c.next-next.result c.args.self.now = kept_known c.self.inside.config c.self.inside.kept.items c.self.inside.places.items c.self.inside.index c.self.inside.end c.args.self.now c.self.view_is c.self.invariant.0 c.next-next.result c.next-next.ensures in
    record {
      judged = c.in-Final.ensures.judged c.args.self.now known;
      taken = judged-keeps c.self.inside.config c.self.inside.kept.items c.self.inside.places.items c.self.inside.index c.self.inside.end c.args.self.now c.self.view_is c.self.invariant.0 c.next-next.result c.next-next.ensures c.in-Final.verdict c.in-Final.ensures.taken;
    }

-- The index has a message with the number.
pub unreachable-requires : goal.unreachable-requires
unreachable-requires c = number_in-some c.self.inside.config c.self.inside.kept.items c.self.inside.places.items c.self.inside.index c.self.inside.end c.args.self.now c.self.view_is c.self.invariant.0 c.in-Compare.ids.blob c.in-Compare.number c.in-Compare.ensures.taken.1 (sym c.in-None.ensures)

pub compared-requires : goal.compared-requires
compared-requires c = record { ids = c.in-Compare.ensures.taken.0.ids_are }

pub returns-in-Some : goal.returns-in-Some
returns-in-Some c =
    let known : IsKnownBy c.self.inside.config c.self.inside.index c.next-next.result c.args.self.now = kept_known c.self.inside.config c.self.inside.kept.items c.self.inside.places.items c.self.inside.index c.self.inside.end c.args.self.now c.self.view_is c.self.invariant.0 c.next-next.result c.next-next.ensures in
    let taken = c.in-Compare.ensures.taken in
    let text_is : blob_text c.args.self.now.config.form c.args.self.now.entries c.in-Compare.ids.blob ≡ Some c.in-Some.kept.now = compared-with c.self.inside.config c.self.inside.kept.items c.self.inside.places.items c.self.inside.index c.self.inside.end c.args.self.now c.self.view_is c.self.invariant.0 c.in-Compare.ids.blob c.in-Compare.number c.in-Some.kept.now taken.1 c.in-Some.ensures in
    record {
      judged = c.compared.ensures.judged c.args.self.now c.args.bytes.now known.config_is known.next_is
          (compared-decides c.self.inside.config c.self.inside.kept.items c.self.inside.places.items c.self.inside.index c.self.inside.end c.args.self.now c.self.view_is c.self.invariant.0 c.args.bytes.now c.in-Compare.text c.in-Compare.ids.blob c.in-Compare.number c.in-Some.kept.now (c.in-Compare.ensures.judged c.args.self.now known) text_is);
      taken = compared-keeps c.self.inside.config c.self.inside.kept.items c.self.inside.places.items c.self.inside.index c.self.inside.end c.args.self.now c.self.view_is c.self.invariant.0 c.in-Compare.text c.in-Compare.ids taken.0 c.next-next.result c.next-next.ensures c.in-Compare.number c.in-Some.kept.now c.compared.result taken.1 text_is c.compared.ensures.taken c.compared.ensures.same;
    }
