use Rattle.std.proofs.Common.{◌≡◌, true, sym, ◌∙◌, get_or, arith, rules}
use Rattle.mime_parts.specs.Lexemes.{is_gap}
use Rattle.mime_parts.proofs.Lexing.{gap_more, gap_between, gap_end, gap_front, gap_all}
use Rattle.mime_parts.proofs.lexemes.after_gap.Goals as goal

pub returns-then-not-is_gap-clause-lexemes : goal.returns-then-not-is_gap-clause-lexemes
returns-then-not-is_gap-clause-lexemes c =
    rw c.split_at.ensures.back
    (gap_end c.loop-at.place c.args.value.now c.loop-at.at (sym c.is_gap.ensures ∙ c.if-not-is_gap.true) c.loop-at.invariant.crash_between c.loop-at.invariant.lexemes)

pub returns-then-not-is_gap-clause-front : goal.returns-then-not-is_gap-clause-front
returns-then-not-is_gap-clause-front c = λ some.
    rw c.split_at.ensures.back
    (gap_front c.loop-at.place c.args.value.now c.loop-at.at (sym c.is_gap.ensures ∙ c.if-not-is_gap.true) c.loop-at.invariant.crash_between)

pub loop-at-preserved : goal.loop-at-preserved
loop-at-preserved c =
    let gap : is_gap c.loop-at.place (get_or c.args.value.now c.loop-at.at 0) ≡ true = sym c.is_gap.ensures ∙ c.if-not-is_gap.false in
    record {
      lexemes = rw c.next-place.ensures.value (sym (gap_more c.loop-at.place c.args.value.now c.loop-at.at c.loop-at-test.true gap) ∙ c.loop-at.invariant.lexemes);
      crash_between = rw c.next-place.ensures.value (gap_between c.loop-at.place _ gap);
      shallow = omega arith;
    }

pub returns-clause-lexemes : goal.returns-clause-lexemes
returns-clause-lexemes c = gap_all c.loop-at.place c.args.value.now c.loop-at.at (search rules) c.loop-at.invariant.lexemes
