use Rattle.imap_states.proofs.answers.answer.Goals as goal

pub returns-in-Capability-clause-acts : goal.returns-in-Capability-clause-acts
returns-in-Capability-clause-acts g c = λ a disk held suits. rw (c.after.ensures, c.in-Capability.is) (c.say_capability.ensures.acts a disk held suits)

pub returns-in-Noop-clause-acts : goal.returns-in-Noop-clause-acts
returns-in-Noop-clause-acts g c = λ a disk held suits. rw (c.after-in-Noop.ensures, c.in-Noop.is) (c.complete.ensures.acts a disk held suits)

pub returns-in-Login-clause-acts : goal.returns-in-Login-clause-acts
returns-in-Login-clause-acts g c = λ a disk held suits. rw (c.after-in-Login.ensures, c.in-Login.is) (c.say_login.ensures.acts a disk)

pub returns-in-Authenticate-clause-acts : goal.returns-in-Authenticate-clause-acts
returns-in-Authenticate-clause-acts g c = λ a disk held suits. rw (c.after-in-Authenticate.ensures, c.in-Authenticate.is) (c.say_authenticate.ensures.acts a disk)

pub returns-in-Select-clause-acts : goal.returns-in-Select-clause-acts
returns-in-Select-clause-acts g c = λ a disk held suits. rw (c.after-in-Select.ensures, c.in-Select.is) (c.say_select.ensures.acts a disk held suits)

pub returns-in-Examine-clause-acts : goal.returns-in-Examine-clause-acts
returns-in-Examine-clause-acts g c = λ a disk held suits. rw (c.after-in-Examine.ensures, c.in-Examine.is) (c.say_select-in-Examine.ensures.acts a disk held suits)

pub returns-in-List-clause-acts : goal.returns-in-List-clause-acts
returns-in-List-clause-acts g c = λ a disk held suits. rw (c.after-in-List.ensures, c.in-List.is) (c.list.ensures.acts a disk held suits)

pub returns-in-Lsub-clause-acts : goal.returns-in-Lsub-clause-acts
returns-in-Lsub-clause-acts g c = λ a disk held suits. rw (c.after-in-Lsub.ensures, c.in-Lsub.is) (c.list-in-Lsub.ensures.acts a disk held suits)

pub returns-in-Status-clause-acts : goal.returns-in-Status-clause-acts
returns-in-Status-clause-acts g c = λ a disk held suits. rw (c.after-in-Status.ensures, c.in-Status.is) (c.say_status.ensures.acts a disk held suits)

pub returns-in-Change-clause-acts : goal.returns-in-Change-clause-acts
returns-in-Change-clause-acts g c = λ a disk held suits. rw (c.after-in-Change.ensures, c.in-Change.is) (c.refuse_logged_in.ensures.acts a disk)

pub returns-in-ChangeMessages-clause-acts : goal.returns-in-ChangeMessages-clause-acts
returns-in-ChangeMessages-clause-acts g c = λ a disk held suits. rw (c.after-in-ChangeMessages.ensures, c.in-ChangeMessages.is) (c.refuse_selected.ensures.acts a disk)

pub returns-in-Check-clause-acts : goal.returns-in-Check-clause-acts
returns-in-Check-clause-acts g c = λ a disk held suits. rw (c.after-in-Check.ensures, c.in-Check.is) (c.say_check.ensures.acts a disk held suits)

pub returns-in-Close-clause-acts : goal.returns-in-Close-clause-acts
returns-in-Close-clause-acts g c = λ a disk held suits. rw (c.after-in-Close.ensures, c.in-Close.is) (c.say_close.ensures.acts a disk)

pub returns-in-Idle-clause-acts : goal.returns-in-Idle-clause-acts
returns-in-Idle-clause-acts g c = λ a disk held suits. rw (c.after-in-Idle.ensures, c.in-Idle.is) (c.say_idle.ensures.acts a disk)
