use Rattle.view_set.proofs.counted.take_thread.Given as goal

abbrev pub ghosts-take_counted : goal.ghosts-take_counted
ghosts-take_counted a = record { name = a.blank.name; parts = a.blank.parts }
