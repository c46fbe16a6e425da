use Rattle.std.proofs.Common.{◌∙◌, ◌<◌, length, sym, ap, subst, arith, rules, []}
use Rattle.arch_model.specs.Archives.{live}
use Rattle.view_set.specs.Viewed.{views_of}
use Rattle.view_set.specs.Walks.{IsDamagedTextAt}
use Rattle.arch_model.proofs.Shelving.{why-earlier}
use Rattle.view_set.proofs.Walking.{walks-same, walks-joined, take-zero, take-all, line-within, messages-from}
use Rattle.view_set.proofs.rebuilding.fill.Goals as goal

pub loop-line-init : goal.loop-line-init
loop-line-init g c = record {
  walk = walks-same g.W.Walked.holds g.W.Walked.sound g.W.Walked.lines g.W.Walked.alike g.W.Walked.faults g.met.W.Walked.alike_same g.met.W.Walked.alike_joined c.args.walked.now;
  views_are = λ a held. c.requires.none ∙ ap (λ es. views_of a.config.form (live es)) (sym (take-zero a.entries));
  steady = search rules;
  few = omega arith;
}

pub take_line-requires : goal.take_line-requires
take_line-requires g c = record {
  line = sym c.in-Some.ensures.line;
  there = line-within (g.W.Walked.lines c.loop-line.walked) c.loop-line.index c.in-Some.line (sym c.in-Some.ensures.line);
  archive = λ a held. sym (c.in-Some.ensures.archive a held);
}

pub loop-line-smaller : goal.loop-line-smaller
loop-line-smaller g c =
    let within = line-within (g.W.Walked.lines c.loop-line.walked) c.loop-line.index c.in-Some.line (sym c.in-Some.ensures.line) in
    let same = ap length c.take_line.ensures.walk.lines_are in
    omega (arith, within, same, c.in-Some-checked_add.ensures)

pub loop-line-preserved : goal.loop-line-preserved
loop-line-preserved g c = record {
  walk = walks-joined g.W.Walked.holds g.W.Walked.sound g.W.Walked.lines g.W.Walked.alike g.W.Walked.faults g.met.W.Walked.alike_same g.met.W.Walked.alike_joined c.args.walked.now c.loop-line.walked c.take_line.new.walked c.loop-line.invariant.walk c.take_line.ensures.walk;
  views_are = λ a held. rw c.in-Some-checked_add.ensures.1 (c.in_default-take_line.ensures.rows a (c.loop-line.invariant.walk.kept a held) (c.loop-line.invariant.views_are a held));
  steady = c.in_default-take_line.ensures.cause ∙ c.loop-line.invariant.steady;
  few =
      let more = messages-from (g.W.Walked.lines c.args.walked.now) (g.W.Walked.lines c.loop-line.walked) c.loop-line.index c.in-Some.line c.loop-line.invariant.walk.lines_are (sym c.in-Some.ensures.line) in
      let before = c.loop-line.invariant.few in
      let read = c.take_line.ensures.reads in
      rw c.in-Some-checked_add.ensures.1 (omega (arith, more, before, read));
}

pub returns-clause-rows : goal.returns-clause-rows
returns-clause-rows g c = λ a held.
    c.loop-line.invariant.views_are a held
    ∙ ap (λ es. views_of a.config.form (live es)) (take-all a.config.form [] a.entries c.loop-line.index (sym (c.in_default.ensures.archive a (c.loop-line.invariant.walk.kept a held))))

pub returns-in-Err-clause-cause : goal.returns-in-Err-clause-cause
returns-in-Err-clause-cause g c = why-earlier (g.W.Walked.faults c.args.walked.now) (g.W.Walked.faults c.loop-line.walked) (g.W.Walked.faults c.take_line.new.walked) c.in-Err.why c.loop-line.invariant.steady c.in-Err.ensures.cause

pub returns-in-Err-clause-walk : goal.returns-in-Err-clause-walk
returns-in-Err-clause-walk g c = walks-joined g.W.Walked.holds g.W.Walked.sound g.W.Walked.lines g.W.Walked.alike g.W.Walked.faults g.met.W.Walked.alike_same g.met.W.Walked.alike_joined c.args.walked.now c.loop-line.walked c.take_line.new.walked c.loop-line.invariant.walk c.take_line.ensures.walk

pub returns-in-Err-clause-undamaged : goal.returns-in-Err-clause-undamaged
returns-in-Err-clause-undamaged g c = λ a held. c.in-Err.ensures.undamaged a (c.loop-line.invariant.walk.kept a held)

pub returns-in-Err-clause-sound : goal.returns-in-Err-clause-sound
returns-in-Err-clause-sound g c = λ sound. c.in-Err.ensures.sound (c.loop-line.invariant.walk.sounds sound)

pub returns-in-Err-clause-within : goal.returns-in-Err-clause-within
returns-in-Err-clause-within g c =
    subst (λ ls. c.loop-line.index < length ls) c.loop-line.invariant.walk.lines_are (line-within (g.W.Walked.lines c.loop-line.walked) c.loop-line.index c.in-Some.line (sym c.in-Some.ensures.line))

pub returns-in-Err-clause-damage : goal.returns-in-Err-clause-damage
returns-in-Err-clause-damage g c = subst (λ ls. IsDamagedTextAt ls c.loop-line.index c.in-Err.why) c.loop-line.invariant.walk.lines_are c.in-Err.ensures.damage

pub returns-clause-reads : goal.returns-clause-reads
returns-clause-reads g c = (let before = c.loop-line.invariant.few in omega (arith, before))

pub returns-in-Err-clause-reads : goal.returns-in-Err-clause-reads
returns-in-Err-clause-reads g c =
    let more = messages-from (g.W.Walked.lines c.args.walked.now) (g.W.Walked.lines c.loop-line.walked) c.loop-line.index c.in-Some.line c.loop-line.invariant.walk.lines_are (sym c.in-Some.ensures.line) in
    let before = c.loop-line.invariant.few in
    let read = c.take_line.ensures.reads in
    omega (arith, more, before, read)

pub returns-in_default-checked_add-clause-reads : goal.returns-in_default-checked_add-clause-reads
returns-in_default-checked_add-clause-reads g c =
    let more = messages-from (g.W.Walked.lines c.args.walked.now) (g.W.Walked.lines c.loop-line.walked) c.loop-line.index c.in-Some.line c.loop-line.invariant.walk.lines_are (sym c.in-Some.ensures.line) in
    let before = c.loop-line.invariant.few in
    let read = c.take_line.ensures.reads in
    omega (arith, more, before, read)
