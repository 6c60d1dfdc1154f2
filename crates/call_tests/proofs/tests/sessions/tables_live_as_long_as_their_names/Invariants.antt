use Rattle.call_tests.proofs.tests.sessions.tables_live_as_long_as_their_names.Given as goal

abbrev pub ghosts-check_lives : goal.ghosts-check_lives
ghosts-check_lives g a = record { name = a.blank.name; parts = a.blank.parts }
