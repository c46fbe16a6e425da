use Rattle.thread_tests.proofs.index_tests.a_cleared_index_has_no_rows.Given as goal

abbrev pub ghosts-clears : goal.ghosts-clears
ghosts-clears g a = record { name = a.blank.name; parts = a.blank.parts }
