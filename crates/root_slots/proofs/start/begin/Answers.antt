-- What a crash leaves while the zeros are made.
use Rattle.disk_model.specs.Moments.{weaker}
use Rattle.root_slots.proofs.Starting.{to_shut, to_others}
use Rattle.root_slots.proofs.start.begin.Goals as goal

pub returns-clause-crash : goal.returns-clause-crash
returns-clause-crash g c = λ each.
    weaker g.D.Disk c.args.disk.now c.make_zeros.new.disk _ _ c.make_zeros.ensures.crash (λ image. to_shut _ image each)

pub returns-clause-elsewhere : goal.returns-clause-elsewhere
returns-clause-elsewhere g c =
    weaker g.D.Disk c.args.disk.now c.make_zeros.new.disk _ _ c.make_zeros.ensures.crash (λ image. to_others _ image)
