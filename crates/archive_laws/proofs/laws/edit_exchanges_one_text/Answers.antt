use Rattle.std.proofs.Common.{ap, ◌∙◌, sym, subst}
use Rattle.arch_model.specs.Archives.{without_entries}
use Rattle.arch_model.specs.Delivery.{Done}
use Rattle.arch_model.proofs.Purging.{valid_without}
use Rattle.arch_model.proofs.Rewrites.{valid_numbered}
use Rattle.archive_laws.specs.Edits.{Exchanges}
use Rattle.archive_laws.proofs.Edited.{exchanges}
use Rattle.archive_laws.proofs.laws.edit_exchanges_one_text.Goals as goal

pub returns : goal.returns
returns c a number n moment bytes id valid ok =
    let whole = (c.edits_are_whole.ensures a number moment bytes).0 n id ok in
    let text = whole.0 in
    let rest = without_entries a text in
    let done = sym (ap (λ (d : Done). d.answer) whole.2) ∙ ok in
    let shows = c.delivered_is_shown.ensures rest bytes moment n id (valid_numbered rest (valid_without a text valid)) done in
    (text, shows.0, shows.1, whole.1, shows.2, shows.3, subst (λ (d : Done). Exchanges a text shows.1 n d.archive) (sym whole.2) (exchanges a bytes text shows.1 moment n id valid done shows.4))
