use Rattle.mail_address.proofs.Joining.{words_are_joined, spaces_are_no_words}
use Rattle.mail_address.proofs.laws.words_are_joined.Goals as goal

pub returns : goal.returns
returns c = record { words = words_are_joined; spaces = spaces_are_no_words }
