use Rattle.arch_model.specs.KeeperRecord.{keeper}
use Rattle.door_tests.proofs.Chaining.{chained}
use Rattle.door_tests.proofs.keep_client.deliver_three.Goals as goal

pub returns : goal.returns
returns g c = λ s fits.
    let one = c.command-first.ensures.done s fits in
    let two = c.command-second.ensures.done one.0 one.1.fits in
    let three = c.command-third.ensures.done two.0 two.1.fits in
    chained (keeper g.K.Shelf g.K.Keep) c.args.keep.now c.command-first.new.self c.command-second.new.self c.command-third.new.self s one.0 two.0 three.0 fits one.1 two.1 three.1
