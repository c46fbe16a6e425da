-- The plan of its epoch was extended, and what is kept of it was added.
use Rattle.std.proofs.Common.{◌∙◌, length, rules, sym, ap, refl, arith}
use Rattle.std.proofs.lemmas.Option.{slice_get_read}
use Rattle.convert_planning.specs.Converting.{Conversion}
use Rattle.convert_planning.specs.ConvertSteps.{parent_in}
use Rattle.convert_planning.proofs.TakenText.{takes_text}
use Rattle.convert_planning.proofs.converting.Converter.take_text.Goals as goal

pub returns : goal.returns
returns c =
    let e = c.args.entry.now in
    let plans = c.self.inside.plans.items in
    let inside : Conversion = record { plans = plans; entries = c.self.inside.entries.items; form = c.self.inside.form } in
    let low = c.requires in
    let all = c.self.invariant in
    let there = slice_get_read plans (length plans) e.epoch c.index_mut.result.now refl (omega (arith, low, all)) c.index_mut.ensures.value in
    let parent = c.parent_in-parent.ensures ∙ ap (λ (p : Conversion). parent_in p.entries e.epoch) (sym c.self.view_is) in
    takes_text inside c.args.self.now _ c.args.file e c.args.text.now c.index_mut.result.now c.extend.new.plan c.in_ok-objects.objects.tree c.in_ok-objects.objects.commit c.as_slice.result.now c.parent_in-parent.result c.in_ok-at.at c.in_ok-made.made c.in_ok-objects.objects.ids.blob c.in_ok-objects.objects.ids.commit c.self.view_is
    there c.in_ok-at.ensures (c.as_slice.ensures ∙ c.in_ok-bytes.ensures) c.in_ok-objects.ensures.tree parent c.in_ok-objects.ensures.spelled c.in_ok-made.ensures c.in_ok-objects.ensures.blob c.in_ok-objects.ensures.commit
    (search rules)
