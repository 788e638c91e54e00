use Rattle.iova_keep.specs.Views.{names_of}
use Rattle.iova_lock_tests.proofs.lock.threads_of_a_lock.Given as goal

abbrev pub ghosts-under_a_lock : goal.ghosts-under_a_lock
ghosts-under_a_lock g a = record { ledgers = names_of 16 a.blanks }
