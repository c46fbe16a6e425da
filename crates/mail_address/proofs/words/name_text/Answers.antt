use Rattle.std.proofs.Common.{arith}
use Rattle.mail_address.specs.declared.place.Place.TheVariants.{Outside}
use Rattle.mail_address.specs.Words.{spoken_from}
use Rattle.mail_address.proofs.Spacing.{given_from-start}
use Rattle.mail_address.proofs.words.name_text.Goals as goal

pub loop-byte-init : goal.loop-byte-init
loop-byte-init c = record {
  text = rw c.new-text.ensures (given_from-start (spoken_from Outside c.args.bytes.now));
  shallow = omega arith;
}
