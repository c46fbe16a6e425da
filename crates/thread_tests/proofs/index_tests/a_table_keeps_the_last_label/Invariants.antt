use Rattle.thread_tests.proofs.index_tests.a_table_keeps_the_last_label.Given as goal

abbrev pub ghosts-keeps_labels : goal.ghosts-keeps_labels
ghosts-keeps_labels g a = record { name = a.blank.name; parts = a.blank.parts }
