use Rattle.iova_keep.specs.Views.{names_of}
use Rattle.iova_lock_tests.proofs.lock.refused_growths.Given as goal

abbrev pub ghosts-in_a_book : goal.ghosts-in_a_book
ghosts-in_a_book g a = record { ledgers = names_of 16 a.blanks }

abbrev pub ghosts-under_a_lock : goal.ghosts-under_a_lock
ghosts-under_a_lock g a = record { ledgers = names_of 16 a.blanks }
