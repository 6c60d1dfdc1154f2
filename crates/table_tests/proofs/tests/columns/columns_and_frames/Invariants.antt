use Rattle.table_tests.proofs.tests.columns.columns_and_frames.Given as goal

abbrev pub ghosts-all : goal.ghosts-all
ghosts-all g a = record { name = a.blank.name; parts = a.blank.parts }
