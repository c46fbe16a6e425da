use Rattle.std.proofs.Common.{◌∙◌, [], arith}
use Rattle.arch_model.specs.Archives.{live}
use Rattle.shelf_trees.specs.Twigs.{twigs_after}
use Rattle.shelf_trees.proofs.Twigging.{twigs-begin, twigs-more, twigs-all}
use Rattle.shelf_trees.proofs.twigs_of.Goals as goal

pub loop-number-init : goal.loop-number-init
loop-number-init g c = λ a held. twigs-begin (live a.entries) c.new-twigs.result c.as_slice-numbers.result.now c.new-twigs.ensures

pub loop-number-preserved : goal.loop-number-preserved
loop-number-preserved g c = λ a held.
    twigs-more a.config.form (live a.entries) c.loop-number.twigs c.add_number.new.twigs (twigs_after (live a.entries) [] c.as_slice-numbers.result.now) c.as_slice-numbers.result.now c.loop-number.number-index _ c.loop-number-test.true (c.in_ok-add_number.ensures a held) (c.loop-number.invariant a held)

pub returns : goal.returns
returns g c = λ a held.
    twigs-all (live a.entries) c.loop-number.twigs c.as_slice-numbers.result.now c.loop-number.number-index c.args.n (omega arith) (c.as_slice-numbers.ensures ∙ c.in_ok-members.ensures a held) (c.loop-number.invariant a held)
