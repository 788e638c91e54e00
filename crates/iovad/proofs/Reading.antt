-- What reading the regions of a plan may end in.
use Rattle.std.proofs.Common.{ℕ, ◌≡◌, ◌∙◌, List, Some, None, sym, ap}
use Rattle.std.specs.Borrow.{Bor}
use Rattle.iova_command.specs.declared.plan.Plan.{Plan}
use Rattle.iova_tools.specs.declared.fault.Fault.{Fault}
use Rattle.iova_tools.specs.declared.fault.Fault.TheVariants as fault
use Rattle.iova_tools.specs.Faults.{IsFaultOfRegions}
use Rattle.iovad.specs.Plans.{IsFaultOfServing}

-- it may end serving so
pub of_regions : (plan : Plan) (name : Bor (List ℕ)) (f : Fault) → plan.regions ≡ Some name → IsFaultOfRegions name f → IsFaultOfServing plan f
of_regions plan name (fault.CannotRead path) named is = named ∙ ap Some (sym is)
of_regions plan name (fault.RegionsRefused line) named is = λ none. let bad : Some name ≡ None = sym named ∙ none in absurd cc
of_regions plan name fault.NoMemory named is = tt
of_regions plan name (fault.Words usage) named is = absurd is
of_regions plan name fault.StartAboveLast named is = absurd is
of_regions plan name fault.LastAboveProfile named is = absurd is
of_regions plan name (fault.TraceRefused line) named is = absurd is
of_regions plan name (fault.LogRefused line) named is = absurd is
of_regions plan name fault.Found named is = absurd is
of_regions plan name fault.CannotWrite named is = absurd is
of_regions plan name fault.SocketFault named is = absurd is
of_regions plan name fault.CannotOpenSink named is = absurd is
of_regions plan name fault.Incomplete named is = absurd is
of_regions plan name (fault.Left left) named is = absurd is
