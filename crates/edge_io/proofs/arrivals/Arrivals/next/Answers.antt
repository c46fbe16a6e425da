use Rattle.std.proofs.Common.{◌∙◌, ◌+◌, ◌++◌, Some, length, take, drop, ap, sym, subst, refl}
use Rattle.edge_io.specs.Hosts.{GaveOne}
use Rattle.edge_io.specs.Scripts.{piece_at}
use Rattle.edge_io.specs.Passing.{PassedEvents, given_of, left_of}
use Rattle.edge_io.proofs.Givings.{given-one, none-from}
use Rattle.edge_io.proofs.arrivals.Arrivals.next.Goals as goal

-- No event is left: nothing changed.
pub returns-in_err-event : goal.returns-in_err-event
returns-in_err-event c = rw c.from_residual.ensures (record {
  ended = ap (λ (p : PassedEvents). left_of p) (sym c.self.view_is) ∙ none-from c.self.inside.script c.self.inside.at (sym c.in_err-event.ensures.value);
  left_same = refl;
  given_same = refl;
})

-- The event was given, and its piece is at the front of the buffer.
pub returns : goal.returns
returns c =
    let script = c.self.inside.script in
    let at = c.self.inside.at in
    let event = c.in_ok-event.field-0.now in
    subst (λ (p : PassedEvents). GaveOne event (c.copy_from_slice.new.self ++ drop (length c.piece-piece.result.now) c.args.into.now) (Some (left_of p)) (Some (drop (at + 1) script)) (Some (given_of p)) (Some (take (at + 1) script)))
    c.self.view_is
    (given-one script at event c.copy_from_slice.new.self (drop (length c.piece-piece.result.now) c.args.into.now) c.self.invariant.1 (sym c.in_ok-event.ensures.value)
    (c.copy_from_slice.ensures.after ∙ c.piece-piece.ensures.value ∙ ap (λ (p : PassedEvents). piece_at p.all p.at) (sym c.self.view_is)))
