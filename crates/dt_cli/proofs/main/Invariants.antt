use Rattle.dt_cli.proofs.main.Given as goal

abbrev pub ghosts-ended_here : goal.ghosts-ended_here
ghosts-ended_here a = record { name = a.blank.name; parts = a.blank.parts }
