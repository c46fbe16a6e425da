use Rattle.std.proofs.Common.{sym}
use Rattle.arch_judge.proofs.Judged.{comparing, coming, known-by, last-formed, takes-new}
use Rattle.arch_judge.proofs.judging.judge_new.Goals as goal

pub returns-in-Some-clause-judged : goal.returns-in-Some-clause-judged
returns-in-Some-clause-judged c =
    λ a bytes source known is takes. (
    let ids = known-by c.args.config.now.form c.args.text c.as_slice.result.now c.args.content c.blob_id.result c.blob_id.ensures.value c.as_slice.ensures c.requires.content in
    comparing a c.args.config.now c.args.index.now c.args.next known bytes c.requires.writable source c.args.text _ is takes ids c.in-Some.number c.in-Some.ensures)

pub returns-in-None-clause-judged : goal.returns-in-None-clause-judged
returns-in-None-clause-judged c =
    λ a bytes source known is takes. (
    let ids = known-by c.args.config.now.form c.args.text c.as_slice.result.now c.args.content c.blob_id.result c.blob_id.ensures.value c.as_slice.ensures c.requires.content in
    c.judge_room.ensures.judged a bytes known.config_is known.next_is
    (coming a c.args.config.now c.args.index.now c.args.next known bytes c.requires.writable source c.args.text _ is takes ids c.in-None.ensures))

pub returns-in-None-clause-taken : goal.returns-in-None-clause-taken
returns-in-None-clause-taken c =
    let ids = known-by c.args.config.now.form c.args.text c.as_slice.result.now c.args.content c.blob_id.result c.blob_id.ensures.value c.as_slice.ensures c.requires.content in
    takes-new c.args.config.now c.args.index.now c.args.next c.args.text _ c.judge_room.result
    (record { writable = c.requires.writable; storage = c.requires.new.storage; ids_are = ids; new_id = c.requires.new.new_id }) (sym c.in-None.ensures) c.judge_room.ensures.taken

pub returns-in-None-clause-formed : goal.returns-in-None-clause-formed
returns-in-None-clause-formed c = last-formed c.judge_room.result c.judge_room.ensures.last
