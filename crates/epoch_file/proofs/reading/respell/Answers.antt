use Rattle.std.proofs.Common.{◌∙◌}
use Rattle.epoch_file.proofs.Finding.{joined-pieces}
use Rattle.epoch_file.proofs.reading.respell.Goals as goal

pub returns-then-not-is_joined : goal.returns-then-not-is_joined
returns-then-not-is_joined c = λ same.
    let pieces = joined-pieces _ _ _ _ (c.as_slice.ensures ∙ c.in_ok-objects.ensures.tree) (c.as_slice-2.ensures ∙ c.in_ok-objects.ensures.spelled) in
    cc (c.is_joined.ensures.1 (same ∙ pieces.1), c.if-not-is_joined.true)

pub returns : goal.returns
returns c =
    let pieces = joined-pieces _ _ _ _ (c.as_slice.ensures ∙ c.in_ok-objects.ensures.tree) (c.as_slice-2.ensures ∙ c.in_ok-objects.ensures.spelled) in
    (c.is_joined.ensures.0 c.if-not-is_joined.false ∙ pieces.0, record { blob = c.in_ok-objects.ensures.blob; commit = c.in_ok-objects.ensures.commit })
