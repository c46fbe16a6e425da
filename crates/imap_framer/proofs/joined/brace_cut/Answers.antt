-- The last brace of a slice.
use Rattle.std.proofs.Common.{◌<◌, ℕ, Some, length, sym, ap, ◌∙◌, add-one, drop, arith, eqb-true, eq-eqb}
use Rattle.imap_framer.proofs.Numbers.{after_brace-at, after_brace-none}
use Rattle.imap_framer.specs.Framing.{after_brace}
use Rattle.imap_framer.proofs.joined.brace_cut.Goals as goal

pub returns-in-Some : goal.returns-in-Some
returns-in-Some c =
    let e = c.in-Some.ensures in
    let high : c.in-Some.at < length c.args.text.now = e.0.high in
    after_brace-at c.args.text.now c.in-Some.at high (eqb-true _ 123 e.1) (λ k l m is. e.0.after k (omega arith) m (eq-eqb _ 123 is))
    ∙ ap Some (sym (c.split_at.ensures.back ∙ ap (λ n. drop n c.args.text.now) (add-one c.in-Some.at)))

pub returns-in-None : goal.returns-in-None
returns-in-None c =
    let none = c.in-None.ensures in
    after_brace-none c.args.text.now (λ k l is. none k (omega arith) l (eq-eqb _ 123 is))
