use Rattle.thread_tests.proofs.index_tests.threads_join_and_part.Given as goal

abbrev pub ghosts-failing_case : goal.ghosts-failing_case
ghosts-failing_case g a = record { name = a.blank.name; parts = a.blank.parts }
