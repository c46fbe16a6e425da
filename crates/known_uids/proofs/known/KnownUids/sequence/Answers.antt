use Rattle.std.proofs.Common.{◌≡◌, ◌+◌, ℕ, length, Some, Ok, Err, List, sym, ap, subst, ◌∙◌, ⊎_elim, arith}
use Rattle.std.proofs.lemmas.Bool.{cases_lt}
use Rattle.std.proofs.lemmas.List.Sorted.{searched}
use Rattle.known_uids.specs.Told.{Known, RisesBelow, sequence_from}
use Rattle.known_uids.proofs.Rising.{rising-length}
use Rattle.known_uids.proofs.Places.{rising-sorted, sequence-at, sequence-none}
use Rattle.known_uids.proofs.known.KnownUids.sequence.Goals as goal

pub returns-in-Ok : goal.returns-in-Ok
returns-in-Ok c =
    let told = c.self.inside in
    let found = searched c.deref.result.now c.args.uid (Ok c.in-Ok.index) c.in-Ok.ensures.position in
    let uids = c.deref.result.now in
    let rises = subst (λ (ks : List ℕ). RisesBelow told.first ks (told.last + 1)) (sym c.deref.ensures.value) c.self.invariant.2 in
    let at = found (rising-sorted told.first uids (told.last + 1) rises) in
    let place : 1 + c.in-Ok.index ≡ c.in-Ok.index + 1 = omega arith in
    sym (ap (λ (k : Known). sequence_from 1 k.uids c.args.uid) (sym c.self.view_is) ∙ ap (λ ks. sequence_from 1 ks c.args.uid) (sym c.deref.ensures.value)
    ∙ sequence-at told.first uids (told.last + 1) 1 c.in-Ok.index c.args.uid rises at.0 at.1 ∙ ap (λ k. Some k) place)

pub returns-in-Err : goal.returns-in-Err
returns-in-Err c =
    let told = c.self.inside in
    let uids = c.deref.result.now in
    let rises = subst (λ (ks : List ℕ). RisesBelow told.first ks (told.last + 1)) (sym c.deref.ensures.value) c.self.invariant.2 in
    let apart = searched uids c.args.uid (Err c.in-Err.field-0) c.in-Err.ensures.position (rising-sorted told.first uids (told.last + 1) rises) in
    sym (ap (λ (k : Known). sequence_from 1 k.uids c.args.uid) (sym c.self.view_is) ∙ ap (λ ks. sequence_from 1 ks c.args.uid) (sym c.deref.ensures.value)
    ∙ sequence-none uids 1 c.args.uid (λ i within e. ⊎_elim (λ less. omega (arith, apart.1 i less, e)) (λ more. omega (arith, apart.2 i more within, e)) (cases_lt i c.in-Err.field-0)))

pub overflow_cast-result : goal.overflow_cast-result
overflow_cast-result c =
    let told = c.self.inside in
    omega (arith, c.in-Ok.ensures.bound, c.deref.ensures.len, ap length c.deref.ensures.value, rising-length told.first told.uids.items (told.last + 1) c.self.invariant.2, c.self.invariant.1)

pub overflow_add-result : goal.overflow_add-result
overflow_add-result c =
    let told = c.self.inside in
    omega (arith, c.in-Ok.ensures.bound, c.deref.ensures.len, ap length c.deref.ensures.value, rising-length told.first told.uids.items (told.last + 1) c.self.invariant.2, c.self.invariant.1)
