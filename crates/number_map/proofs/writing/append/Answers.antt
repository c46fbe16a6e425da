-- The write respects all bounds that its offset respects.
use Rattle.disk_model.specs.BesideLaws.{write_told, run_call}
use Rattle.number_map.proofs.writing.append.Goals as goal

pub returns-clause-crash_beside : goal.returns-clause-crash_beside
returns-clause-crash_beside g c = λ bounds far.
    let disk = c.args.disk.now in
    let content = g.D.Disk.content in
    run_call g.D.Disk bounds disk c.write_at.new.self (g.met.D.Disk.only_now disk) c.write_at.ensures.time
    (write_told c.write_at.result bounds c.args.file c.args.at _ (content disk) (content c.write_at.new.self) (g.met.D.Disk.reads_fit disk) far c.requires.inside c.write_at.ensures.written c.write_at.ensures.torn)
