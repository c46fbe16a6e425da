use Rattle.std.proofs.Common.{[], sym, arith}
use Rattle.std.proofs.lemmas.Option.{slice_get_within}
use Rattle.arch_model.specs.Shelves.{lines_after}
use Rattle.mirror_wire.proofs.Spelling.{said-more, said-all}
use Rattle.mirror_wire.proofs.writing.push_entries.Goals as goal

pub returns-in_default : goal.returns-in_default
returns-in_default g c = λ a held.
    said-all c.args.into.now c.loop-index.into (lines_after a.config.form [] a.entries) c.loop-index.index (sym (c.in_default.ensures a held)) (c.loop-index.invariant.said a held)

pub loop-index-preserved : goal.loop-index-preserved
loop-index-preserved g c = record {
  within = λ a held. (let low = slice_get_within (lines_after a.config.form [] a.entries) c.loop-index.index c.in-Some.line (sym (c.in-Some.ensures a held)) in omega (arith, low));
  said = λ a held.
      said-more c.args.into.now c.loop-index.into c.push_line.new.into (lines_after a.config.form [] a.entries) c.loop-index.index c.in-Some.line (sym (c.in-Some.ensures a held))
      (c.loop-index.invariant.said a held) c.in_ok-push_line.ensures;
}
