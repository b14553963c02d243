use Rattle.seat_trials.proofs.tests.two_threads_fill_one_list.Given as goal

abbrev pub ghosts-seat_two : goal.ghosts-seat_two
ghosts-seat_two g a = record { land = a.ground.now }
