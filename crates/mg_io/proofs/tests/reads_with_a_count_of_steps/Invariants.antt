use Rattle.mg_io.proofs.tests.reads_with_a_count_of_steps.Given as goal

abbrev pub ghosts-read_by_single_bytes : goal.ghosts-read_by_single_bytes
ghosts-read_by_single_bytes g a = record { name = a.blank.name; parts = a.blank.parts }
