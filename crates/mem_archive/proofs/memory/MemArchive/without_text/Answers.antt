use Rattle.std.proofs.Common.{◌+◌, ◌≤◌, ◌∙◌, ap, sym, subst, arith}
use Rattle.arch_model.specs.Archives.{Archive, empty_archive}
use Rattle.mem_archive.specs.Memory.{numbered_to}
use Rattle.mem_archive.proofs.Copying.{CopiedTo, copied-start, differs, equals, copied-follows, copied-one, copied-none, copied-all}
use Rattle.mem_archive.proofs.memory.MemArchive.without_text.Goals as goal
use Rattle.mem_archive.proofs.memory.MemArchive.without_text.Goals.{then-has_other_text+in_ok-append_again, else-has_other_text}

pub loop-kept-init : goal.loop-kept-init
loop-kept-init c = copied-start c.self.inside.config c.self.inside.kept.items c.self.inside.places.items c.self.inside.index c.self.inside.end c.args.self.now c.new-made.result c.args.text.now c.as_slice-kept-items.result.now c.self.view_is c.self.invariant.0 (c.new-made.ensures ∙ ap empty_archive c.copy.ensures) c.as_slice-kept-items.ensures.value

pub append_again-requires : goal.append_again-requires
append_again-requires c = copied-follows c.args.self.now c.as_slice-kept-items.result.now c.args.text.now c.loop-kept.kept-index c.loop-kept.made c.kept-item.result c.loop-kept-test.true c.kept-item.is c.loop-kept.invariant (differs c.args.text.now c.kept-item.result.text c.has_other_text.result c.has_other_text.ensures c.if-has_other_text.true)

pub loop-kept-preserved : goal.loop-kept-preserved
loop-kept-preserved c =
    elim c.if-has_other_text.branch [
      | then-has_other_text+in_ok-append_again w ↦ subst (λ (made : Archive). CopiedTo c.args.self.now c.as_slice-kept-items.result.now c.args.text.now (c.loop-kept.kept-index + 1) made) (sym (w.made-is ∙ w.in_ok-append_again.ensures)) (copied-one c.args.self.now c.as_slice-kept-items.result.now c.args.text.now c.loop-kept.kept-index c.loop-kept.made c.kept-item.result c.loop-kept-test.true c.kept-item.is c.loop-kept.invariant (differs c.args.text.now c.kept-item.result.text c.has_other_text.result c.has_other_text.ensures w.if-has_other_text.true))
      | else-has_other_text w ↦ subst (λ (made : Archive). CopiedTo c.args.self.now c.as_slice-kept-items.result.now c.args.text.now (c.loop-kept.kept-index + 1) made) (sym w.made-is) (copied-none c.args.self.now c.as_slice-kept-items.result.now c.args.text.now c.loop-kept.kept-index c.loop-kept.made c.kept-item.result c.loop-kept-test.true c.kept-item.is c.loop-kept.invariant (equals c.args.text.now c.kept-item.result.text c.has_other_text.result c.has_other_text.ensures w.if-has_other_text.false))
    ]

pub number_to_next-requires : goal.number_to_next-requires
number_to_next-requires c =
    let low : c.loop-kept.made.next ≤ c.args.self.now.next = c.loop-kept.invariant.follow.low in
    let room : c.args.self.now.next ≤ c.loop-kept.made.config.max + 1 = c.loop-kept.invariant.follow.room in
    omega (arith, low, room, c.next-next.ensures)

pub returns : goal.returns
returns c = c.in_ok-number_to_next.ensures.ok ∙ ap (numbered_to c.loop-kept.made) c.next-next.ensures ∙ copied-all c.args.self.now c.as_slice-kept-items.result.now c.args.text.now c.loop-kept.kept-index c.loop-kept.made c.loop-kept-test.false c.loop-kept.invariant
