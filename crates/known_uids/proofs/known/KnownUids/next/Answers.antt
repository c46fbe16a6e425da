use Rattle.std.proofs.Common.{◌≡◌, ◌+◌, ◌-◌, length, get_or, ap, ◌∙◌, arith}
use Rattle.known_uids.specs.Told.{Known, after_last}
use Rattle.known_uids.proofs.Rising.{after-le, after-end}
use Rattle.known_uids.proofs.known.KnownUids.next.Goals as goal

pub overflow_add-result : goal.overflow_add-result
overflow_add-result c =
    let told = c.self.inside in
    let end : get_or c.as_slice.result.now (length c.as_slice.result.now - 1) 0 + 1 ≡ after_last told.first told.uids.items =
    after-end told.first c.as_slice.result.now c.in-len1-up.len_at_least ∙ ap (after_last told.first) c.as_slice.ensures.value in
    omega (arith, end, after-le told.first told.uids.items (told.last + 1) c.self.invariant.2, c.self.invariant.1)

pub returns-in-len1-up : goal.returns-in-len1-up
returns-in-len1-up c =
    let told = c.self.inside in
    after-end told.first c.as_slice.result.now c.in-len1-up.len_at_least ∙ ap (after_last told.first) c.as_slice.ensures.value
    ∙ ap (λ (k : Known). after_last k.first k.uids) c.self.view_is
