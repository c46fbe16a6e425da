use Rattle.std.proofs.Common.{◌≡◌, ◌+◌, ◌++◌, [], ◌∷◌, sym, ap, subst, ◌∙◌, arith, append_assoc}
use Rattle.known_uids.specs.Told.{live_in, RisesBelow}
use Rattle.known_uids.proofs.Rising.{rising-push, rising-wider}
use Rattle.known_uids.proofs.live.live_numbers.Goals as goal

pub loop-found-preserved : goal.loop-found-preserved
loop-found-preserved g c =
    let old = c.loop-found.numbers.items in
    let found = c.in-Some.found in
    let pushed : c.push.new.self.items ≡ old ++ found ∷ [] = c.in_ok-push.ensures.items in
    let within = c.in-Some.ensures.within in record {
      numbers = λ a held.
          ap (λ ns. ns ++ live_in a (found + 1) c.args.last) pushed ∙ append_assoc old (found ∷ []) (live_in a (found + 1) c.args.last)
          ∙ ap (λ ns. old ++ ns) (sym (c.in-Some.ensures.numbers a held)) ∙ c.loop-found.invariant.numbers a held;
      rising = subst (λ ns. RisesBelow c.args.first ns (found + 1)) (sym pushed) (rising-push c.args.first old c.loop-found.at found c.loop-found.invariant.rising within.0);
      order = omega (arith, within.1);
    }

pub returns-clause-rising : goal.returns-clause-rising
returns-clause-rising g c = rising-wider c.args.first c.loop-found.numbers.items c.loop-found.at (c.args.last + 1) c.loop-found.invariant.order c.loop-found.invariant.rising
