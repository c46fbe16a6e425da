use Rattle.arch_model.proofs.EpochLemmas.{epoch_bytes-push}
use Rattle.arch_model.proofs.laws.epoch_grows.Goals as goal

pub returns : goal.returns
returns c = epoch_bytes-push
