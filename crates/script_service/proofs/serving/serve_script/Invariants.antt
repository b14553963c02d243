use Rattle.script_service.proofs.serving.serve_script.Given as goal

-- the roads of this script
abbrev pub ghosts-serve_over : goal.ghosts-serve_over
ghosts-serve_over g a = record { land = a.ground.now }
