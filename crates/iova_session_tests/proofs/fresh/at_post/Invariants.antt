use Rattle.iova_keep.specs.Views.{names_of}
use Rattle.iova_session_tests.proofs.fresh.at_post.Given as goal

abbrev pub ghosts-in_shared : goal.ghosts-in_shared
ghosts-in_shared g a = record { ledgers = names_of a.workers a.blanks }

abbrev pub ghosts-in_book : goal.ghosts-in_book
ghosts-in_book g a = record { ledgers = names_of a.workers a.blanks }
