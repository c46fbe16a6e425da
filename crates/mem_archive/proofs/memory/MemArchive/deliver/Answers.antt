use Rattle.std.proofs.Common.{sym, subst}
use Rattle.arch_model.specs.Delivery.{Done, Delivers}
use Rattle.mem_archive.proofs.Delivering.{refuses, untouched-same}
use Rattle.mem_archive.proofs.memory.MemArchive.deliver.Goals as goal

pub returns-in-Refuse : goal.returns-in-Refuse
returns-in-Refuse c = record {
  done = refuses c.args.self.now c.args.bytes.now c.args.moment c.in-Refuse.answer c.in-Refuse.ensures.judged;
  untouched = untouched-same c.in-Refuse.answer c.args.self.now;
}

pub take-requires : goal.take-requires
take-requires c = let may = c.in-Take.ensures.taken in record { free = may.0; ids = may.1; alone = may.2; room = may.3 }

pub returns-in-Take : goal.returns-in-Take
returns-in-Take c = record {
  done = subst (λ (d : Done). Delivers c.args.self.now c.take.result c.take.new.self d) (sym (c.in-Take.ensures.judged c.args.moment)) c.take.ensures.done;
  untouched = c.take.ensures.untouched;
}
