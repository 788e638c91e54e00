use Rattle.iova_keep.specs.Views.{names_of}
use Rattle.iova_session_tests.proofs.daemon.serve_few.Given as goal

abbrev pub ghosts-serve_new : goal.ghosts-serve_new
ghosts-serve_new g a = record { ledgers = names_of a.workers a.blanks }
