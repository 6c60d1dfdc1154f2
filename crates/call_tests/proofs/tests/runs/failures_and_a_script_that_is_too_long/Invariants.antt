use Rattle.call_tests.proofs.tests.runs.failures_and_a_script_that_is_too_long.Given as goal

abbrev pub ghosts-check_surroundings : goal.ghosts-check_surroundings
ghosts-check_surroundings g a = record { name = a.blank.name; parts = a.blank.parts }
