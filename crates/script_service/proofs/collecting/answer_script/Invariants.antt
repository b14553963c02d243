use Rattle.script_service.proofs.collecting.answer_script.Given as goal

-- the roads of this script
abbrev pub ghosts-answer_over : goal.ghosts-answer_over
ghosts-answer_over g a = record { land = a.ground.now }
