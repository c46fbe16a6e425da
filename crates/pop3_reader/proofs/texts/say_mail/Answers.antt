use Rattle.std.proofs.Common.{[], refl, sym}
use Rattle.arch_model.specs.Archives.{live, text_of}
use Rattle.pop3_reader.proofs.Acting.{mail-spares}
use Rattle.pop3_reader.proofs.texts.say_mail.Goals as goal

pub returns-in-Some-clause-unused : goal.returns-in-Some-clause-unused
returns-in-Some-clause-unused g c = λ a held spares.
    mail-spares a c.args.maildrop.now c.args.part c.args.k [] _ _ c.say_found.result c.in-Some.mail (sym c.in-Some.ensures) (text_of (live a.entries) c.in-Some.mail.number) refl (c.say_found.ensures.said a held) spares
