use Rattle.std.proofs.Common.{◌∙◌, ◌+◌, arith}
use Rattle.std.proofs.lemmas.Result.{IfOk-weaker}
use Rattle.arch_model.specs.declared.choice.Meeting.TheVariants.{Free, Same, Other}
use Rattle.arch_judge.proofs.Choosing.{asks_made, goes_on, repeats, takes, taken-more, made_new, one-left}
use Rattle.arch_judge.proofs.judging.choose_made.Goals as goal
use Rattle.arch_judge.proofs.judging.choose_made.Goals.{else-loop-tried-test, then-loop-tried-test+in_ok-id+in-Other+else-tried-last}

pub returns-in-Free-clause-choice : goal.returns-in-Free-clause-choice
returns-in-Free-clause-choice c = λ a known.
    let made = asks_made c.args.index.now c.in_ok-id.id c.as_slice.result.now c.as_slice-digits.result.now c.as_slice-name.result.now c.args.text.now c.args.config.now.name c.args.content.now c.loop-tried.tried c.object_id.result Free c.in_ok-id.ensures (c.as_slice-digits.ensures ∙ c.hex_of-hex.ensures) c.object_id.ensures.value c.as_slice-name.ensures.value c.as_slice.ensures c.in-Free.ensures c.requires.content in
    IfOk-weaker c.with_id.result _ _
    (λ choice is. takes c.args.config.now c.args.index.now c.args.text.now c.loop-tried.tried choice c.as_slice-in-Free.result.now (omega arith) c.loop-tried.invariant.0 made.1 (c.as_slice-in-Free.ensures ∙ made.0) is a known) c.with_id.ensures

pub returns-in-Free-clause-new : goal.returns-in-Free-clause-new
returns-in-Free-clause-new c =
    let made = asks_made c.args.index.now c.in_ok-id.id c.as_slice.result.now c.as_slice-digits.result.now c.as_slice-name.result.now c.args.text.now c.args.config.now.name c.args.content.now c.loop-tried.tried c.object_id.result Free c.in_ok-id.ensures (c.as_slice-digits.ensures ∙ c.hex_of-hex.ensures) c.object_id.ensures.value c.as_slice-name.ensures.value c.as_slice.ensures c.in-Free.ensures c.requires.content in
    IfOk-weaker c.with_id.result _ _
    (λ choice is. made_new c.law_of_taken_texts.ensures c.args.index.now c.args.config.now.name c.args.text.now c.as_slice-in-Free.result.now c.loop-tried.tried choice c.as_slice-name.ensures.valid c.requires.stored (omega arith) made.1 (c.as_slice-in-Free.ensures ∙ made.0) is) c.with_id.ensures

pub returns-in-Same-clause-choice : goal.returns-in-Same-clause-choice
returns-in-Same-clause-choice c =
    let made = asks_made c.args.index.now c.in_ok-id.id c.as_slice.result.now c.as_slice-digits.result.now c.as_slice-name.result.now c.args.text.now c.args.config.now.name c.args.content.now c.loop-tried.tried c.object_id.result (Same c.in-Same.number) c.in_ok-id.ensures (c.as_slice-digits.ensures ∙ c.hex_of-hex.ensures) c.object_id.ensures.value c.as_slice-name.ensures.value c.as_slice.ensures c.in-Same.ensures c.requires.content in
    repeats c.args.config.now c.args.index.now c.args.text.now c.loop-tried.tried c.in-Same.number (omega arith) c.loop-tried.invariant.0 made.1

pub loop-tried-preserved : goal.loop-tried-preserved
loop-tried-preserved c =
    let made = asks_made c.args.index.now c.in_ok-id.id c.as_slice.result.now c.as_slice-digits.result.now c.as_slice-name.result.now c.args.text.now c.args.config.now.name c.args.content.now c.loop-tried.tried c.object_id.result Other c.in_ok-id.ensures (c.as_slice-digits.ensures ∙ c.hex_of-hex.ensures) c.object_id.ensures.value c.as_slice-name.ensures.value c.as_slice.ensures c.in-Other.ensures c.requires.content in (
      goes_on c.args.config.now c.args.index.now c.args.text.now c.loop-tried.tried (omega arith) c.loop-tried.invariant.0 made.1,
      taken-more c.args.index.now c.args.config.now.name c.args.text.now c.loop-tried.tried c.loop-tried.invariant.1 made.1,
    )

pub unreachable-requires : goal.unreachable-requires
unreachable-requires c =
    elim c.loop-tried-test.branch [
      | else-loop-tried-test w ↦ absurd (omega (arith, w.loop-tried-test.false))
      | then-loop-tried-test+in_ok-id+in-Other+else-tried-last w ↦ (
          let made = asks_made c.args.index.now w.in_ok-id.id w.as_slice.result.now c.as_slice-digits.result.now c.as_slice-name.result.now c.args.text.now c.args.config.now.name c.args.content.now c.loop-tried.tried c.object_id.result Other w.in_ok-id.ensures (c.as_slice-digits.ensures ∙ c.hex_of-hex.ensures) c.object_id.ensures.value c.as_slice-name.ensures.value w.as_slice.ensures w.in-Other.ensures c.requires.content in
          let all = c.len-last.ensures.len in
          one-left c.args.index.now c.args.config.now.name c.args.text.now (c.loop-tried.tried + 1) (omega (arith, all)) (omega arith)
          (taken-more c.args.index.now c.args.config.now.name c.args.text.now c.loop-tried.tried c.loop-tried.invariant.1 made.1))
    ]
