use Rattle.std.proofs.Common.{refl}
use Rattle.mail_reader.proofs.counting.FoundFields.nothing.Goals as goal

pub returns : goal.returns
returns c = λ fields. record { subject = refl; authors = refl; date = refl; references = refl; replied = refl; recipients = refl; copied = refl }
