use Rattle.iova_keep.specs.Views.{names_of}
use Rattle.iova_lock_tests.proofs.lock.several.several_seats_of_a_worker.Given as goal

abbrev pub ghosts-at_five_seats : goal.ghosts-at_five_seats
ghosts-at_five_seats g a = record { ledgers = names_of 2 a.blanks }
