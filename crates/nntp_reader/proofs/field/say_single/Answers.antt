use Rattle.std.proofs.Common.{◌≡◌, ◌∙◌, inl, refl, sym, ap}
use Rattle.arch_model.specs.Archives.{live, text_of}
use Rattle.nntp_reader.specs.Facts.{header_line}
use Rattle.nntp_reader.specs.Headers.{field_line}
use Rattle.nntp_reader.proofs.field.say_single.Goals as goal

pub returns-in-Ok-clause-said : goal.returns-in-Ok-clause-said
returns-in-Ok-clause-said g c = λ a held.
    let value = c.in-Ok.ensures.value a held in
    let line : field_line c.args.name.now c.args.chosen.shown (text_of (live a.entries) c.args.chosen.number) ≡ header_line c.args.chosen.shown c.as_slice.result.now =
    ap (field_line c.args.name.now c.args.chosen.shown) value.1 ∙ ap (header_line c.args.chosen.shown) (sym (c.as_slice.ensures ∙ value.2)) in
    inl (c.in-Ok.ensures.cause, refl, rw line c.say_block.ensures.said)
