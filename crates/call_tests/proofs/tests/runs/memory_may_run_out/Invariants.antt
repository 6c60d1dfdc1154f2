use Rattle.call_tests.proofs.tests.runs.memory_may_run_out.Given as goal

abbrev pub ghosts-run_once : goal.ghosts-run_once
ghosts-run_once g a = record { name = a.blank.name; parts = a.blank.parts }
