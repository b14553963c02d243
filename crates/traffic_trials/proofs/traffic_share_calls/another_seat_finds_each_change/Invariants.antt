use Rattle.traffic_trials.proofs.traffic_share_calls.another_seat_finds_each_change.Given as goal

abbrev pub ghosts-change : goal.ghosts-change
ghosts-change g a = record { land = a.ground.now }
