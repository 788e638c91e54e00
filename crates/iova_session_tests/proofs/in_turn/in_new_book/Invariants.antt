use Rattle.iova_keep.specs.Views.{names_of}
use Rattle.iova_session_tests.proofs.in_turn.in_new_book.Given as goal

abbrev pub ghosts-in_book : goal.ghosts-in_book
ghosts-in_book a = record { ledgers = names_of 1 a.blanks }
