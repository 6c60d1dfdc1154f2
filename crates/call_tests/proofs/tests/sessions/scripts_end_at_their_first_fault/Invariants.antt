use Rattle.call_tests.proofs.tests.sessions.scripts_end_at_their_first_fault.Given as goal

abbrev pub ghosts-check_stop : goal.ghosts-check_stop
ghosts-check_stop g a = record { name = a.blank.name; parts = a.blank.parts }
