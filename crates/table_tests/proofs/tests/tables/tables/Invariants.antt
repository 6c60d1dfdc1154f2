use Rattle.table_tests.proofs.tests.tables.tables.Given as goal

abbrev pub ghosts-making : goal.ghosts-making
ghosts-making g a = record { name = a.blank.name; parts = a.blank.parts }
