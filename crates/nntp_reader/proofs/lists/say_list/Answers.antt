use Rattle.nntp_reader.proofs.lists.say_list.Goals as goal

pub returns-in-Active-clause-said : goal.returns-in-Active-clause-said
returns-in-Active-clause-said g c = λ a held. rw c.in-Active.is (rw (c.is_listed-listed.ensures a held) at (c.say_active.ensures.said a held))

pub returns-in-ActiveTimes-clause-said : goal.returns-in-ActiveTimes-clause-said
returns-in-ActiveTimes-clause-said g c = λ a held. rw c.in-ActiveTimes.is (rw (c.is_listed-listed.ensures a held) at (c.say_times.ensures.said a held))

pub returns-in-Newsgroups-clause-said : goal.returns-in-Newsgroups-clause-said
returns-in-Newsgroups-clause-said g c = λ a held. rw c.in-Newsgroups.is (rw (c.is_listed-listed.ensures a held) at (c.say_descriptions.ensures.said a held))
