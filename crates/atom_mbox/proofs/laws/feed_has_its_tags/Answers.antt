use Rattle.atom_mbox.proofs.Tags.{feed_tags}
use Rattle.atom_mbox.proofs.laws.feed_has_its_tags.Goals as goal

pub returns : goal.returns
returns c = feed_tags
