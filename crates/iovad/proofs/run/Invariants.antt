use Rattle.iova_keep.specs.Views.{names_of}
use Rattle.iovad.proofs.run.Given as goal

abbrev pub ghosts-serve : goal.ghosts-serve
ghosts-serve g a = record { ledgers = names_of a.plan.now.workers a.blanks }
