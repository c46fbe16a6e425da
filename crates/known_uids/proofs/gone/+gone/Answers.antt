use Rattle.std.proofs.Common.{◌≡◌, ◌+◌, ◌++◌, ℕ, List, length, sym, ap, subst, ◌∙◌, arith, append-nil}
use Rattle.std.proofs.lemmas.Bool.{MatchBool-at_true, MatchBool-at_false}
use Rattle.known_uids.specs.Told.{is_live, RisesBelow, NoneBack, after_last}
use Rattle.known_uids.specs.Gone.{gone_by}
use Rattle.known_uids.proofs.Rising.{rising-front, rising-back}
use Rattle.known_uids.proofs.Leaving.{gone-none, one-gone, gone-append, back-none, front-none}
use Rattle.known_uids.proofs.Pushes.{pushed-ok, pushed-all, joined-ok, in-parts}
use Rattle.known_uids.proofs.gone.+gone.Goals as goal

pub returns-then-are_live-clause-ok : goal.returns-then-are_live-clause-ok
returns-then-are_live-clause-ok g t c = λ a first bound held valid rises none.
    let all = MatchBool-at_true _ _ c.if-are_live.true (c.are_live.ensures.live a first bound held valid rises none) in
    sym (append-nil c.args.gone.now) ∙ ap (λ ks. c.args.gone.now ++ ks) (sym (gone-none (is_live a) (c.args.before + 1) c.args.uids.now all))

pub returns-then-uids-eq1-clause-ok : goal.returns-then-uids-eq1-clause-ok
returns-then-uids-eq1-clause-ok g t c = λ a first bound held valid rises none.
    let some = MatchBool-at_false _ _ c.if-are_live.false (c.are_live.ensures.live a first bound held valid rises none) in
    let one = one-gone (is_live a) (c.args.before + 1) c.args.uids.now c.if-uids-eq1.true some in
    pushed-ok c.push.result c.args.gone.now c.push.new.self (c.args.before + 1) (gone_by (is_live a) (c.args.before + 1) c.args.uids.now) c.push.ensures one

pub returns-then-uids-eq1-clause-places : goal.returns-then-uids-eq1-clause-places
returns-then-uids-eq1-clause-places g t c = λ count fits all. pushed-all c.push.result c.args.gone.now c.push.new.self (c.args.before + 1) count c.push.ensures (omega arith) (omega (arith, fits, c.if-uids-eq1.true)) all

pub returns-in_err-push_gone-clause-places : goal.returns-in_err-push_gone-clause-places
returns-in_err-push_gone-clause-places g t c = λ count fits all. c.push_gone.ensures.places count (omega (arith, fits, c.split_at.ensures.back_len, c.split_at.ensures.front_len)) all

pub returns-clause-ok : goal.returns-clause-ok
returns-clause-ok g t c = λ a first bound held valid rises none.
    let uids = c.args.uids.now in
    let front = c.split_at.result.0.now in
    let back = c.split_at.result.1.now in
    let whole : uids ≡ front ++ back = in-parts _ uids front back c.split_at.ensures.front c.split_at.ensures.back in
    let rises' = subst (λ ks. RisesBelow first ks bound) whole rises in
    let none' = subst (λ (ks : List ℕ). NoneBack (is_live a) first ks) whole none in
    let later = c.in_ok-push_gone.ensures.ok a (after_last first front) bound held valid (rising-back first front back bound rises') (back-none (is_live a) first front back bound rises' none') in
    let sooner = c.push_gone-2.ensures.ok a first (after_last first front) held valid (rising-front first front back bound rises') (front-none (is_live a) first front back bound rises' none') in
    let at : c.args.before + length front + 1 ≡ c.args.before + 1 + length front = omega arith in
    joined-ok c.push_gone-2.result c.args.gone.now c.push_gone.new.gone c.push_gone-2.new.gone (gone_by (is_live a) (c.args.before + 1 + length front) back) (gone_by (is_live a) (c.args.before + 1) front) (gone_by (is_live a) (c.args.before + 1) uids)
    (later ∙ ap (λ k. c.args.gone.now ++ gone_by (is_live a) k back) at) (ap (gone_by (is_live a) (c.args.before + 1)) whole ∙ gone-append (is_live a) (c.args.before + 1) front back) sooner

pub returns-clause-places : goal.returns-clause-places
returns-clause-places g t c = λ count fits all.
    c.push_gone-2.ensures.places count (omega (arith, fits, c.split_at.ensures.back_len, c.split_at.ensures.front_len))
    (c.push_gone.ensures.places count (omega (arith, fits, c.split_at.ensures.back_len, c.split_at.ensures.front_len)) all)
