-- The number that is kept is above those before.
use Rattle.std.proofs.Common.{◌≡◌, ◌<◌, [], ◌∷◌, ◌++◌, sym, subst, arith}
use Rattle.number_map.specs.Rewriting.{RisesUpTo}
use Rattle.store_planning.proofs.Finishing.{rises_more}
use Rattle.store_planning.proofs.planning.Planner.drop_number.Goals as goal

pub invariant_of-self-in-Message : goal.invariant_of-self-in-Message
invariant_of-self-in-Message c =
    let top = c.self.inside.top in
    let gone = c.self.inside.gone in
    let n = c.args.entry.now.number in
    let above : top < n = omega (arith, c.if-entry-self.false) in
    let more : c.push.new.self ≡ gone ++ n ∷ [] = c.in_ok-push-in-Message.ensures in
    record {
      apart = c.self.invariant.apart;
      valid = c.self.invariant.valid;
      gone = subst (RisesUpTo 1 n) (sym more) (rises_more 1 top n gone (omega (arith, above)) above c.self.invariant.gone);
      form = c.self.invariant.form;
    }
