use Rattle.thread_tests.proofs.random_tests.the_index_agrees_with_rounds.Given as goal

abbrev pub ghosts-counted_run : goal.ghosts-counted_run
ghosts-counted_run g a = record { name = a.blank.name; parts = a.blank.parts }
