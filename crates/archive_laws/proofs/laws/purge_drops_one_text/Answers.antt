use Rattle.std.proofs.Common.{sym, subst}
use Rattle.arch_model.proofs.Rewrites.{purged_is}
use Rattle.archive_laws.specs.Purges.{IsWithoutText}
use Rattle.archive_laws.proofs.Purged.{lacks}
use Rattle.archive_laws.proofs.laws.purge_drops_one_text.Goals as goal

pub returns : goal.returns
returns c a number n id valid ok =
    let dropped = purged_is a number n id ok in
    let text = dropped.0 in
    (text, dropped.1, subst (λ b. IsWithoutText a text b) (sym dropped.2) (lacks c.law_of_numbers.ensures.shown a text valid (c.law_of_numbers.ensures.without_text a text)))
