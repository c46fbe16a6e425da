use Rattle.archive_fixtures.proofs.archives.put_text.Goals as goal

pub text-requires-clause-live : goal.text-requires-clause-live
text-requires-clause-live g c = λ a held. (c.in-Some.ensures a held).1
