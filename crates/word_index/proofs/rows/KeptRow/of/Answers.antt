use Rattle.std.proofs.Common.{refl}
use Rattle.word_index.specs.declared.rows.KeptRow.{KeptRow}
use Rattle.word_index.proofs.HeldLemmas.{kept-of}
use Rattle.word_index.proofs.rows.KeptRow.of.Goals as goal

pub returns-clause-ok : goal.returns-clause-ok
returns-clause-ok c =
    let row : KeptRow = record { subject = c.in_ok-subject.subject; from = c.in_ok-from.from; body = c.in_ok-body.body; day = c.args.day } in
    kept-of c.args.held.now c.number_all.new.self c.number_all-2.new.self c.number_all-3.new.self c.args.words.now c.args.day row c.number_all.ensures.keeps c.number_all-2.ensures.keeps c.number_all-3.ensures.keeps
    c.in_ok-subject.ensures.ok c.in_ok-from.ensures.ok c.in_ok-body.ensures.ok refl
