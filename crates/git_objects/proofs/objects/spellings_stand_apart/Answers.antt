use Rattle.git_objects.proofs.Spellings.{stand_apart}
use Rattle.git_objects.proofs.objects.spellings_stand_apart.Goals as goal

pub returns : goal.returns
returns c = stand_apart
