use Rattle.std.proofs.Common.{refl}
use Rattle.pop3_reader.specs.Commands.{User}
use Rattle.pop3_reader.specs.Replies.{user_reply}
use Rattle.pop3_reader.specs.declared.maildrop.PopState.TheVariants as state
use Rattle.pop3_reader.proofs.Acting.{acts-said, user-is}
use Rattle.pop3_reader.proofs.login.say_user.Goals as goal

pub returns-in-Before-clause-acts : goal.returns-in-Before-clause-acts
returns-in-Before-clause-acts g c = λ a rest disk held.
    rw c.in-Before.is (acts-said a (state.Before c.in-Before.field-0) (User c.args.name.now) rest _ _ c.say_accepted.result (state.Before c.mailbox_named-index.result) (user_reply c.mailbox_named-index.result).words
    (user-is c.mailbox_named-index.result _ (c.mailbox_named-index.ensures a held)) refl (c.say_accepted.ensures.said))
