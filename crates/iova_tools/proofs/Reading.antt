-- What reading regions may end in.
use Rattle.std.proofs.Common.{ℕ, ◌≡◌, List, refl}
use Rattle.std.specs.Borrow.{Bor}
use Rattle.iova_regions.specs.declared.fault.RegionsFault.{RegionsFault}
use Rattle.iova_regions.specs.declared.fault.RegionsFault.TheVariants as regions
use Rattle.iova_tools.specs.declared.fault.Fault.{Fault}
use Rattle.iova_tools.specs.declared.fault.Fault.TheVariants as fault
use Rattle.iova_tools.specs.Faults.{IsFaultOfRegions}

-- how reading regions ends
pub of_read : (f : RegionsFault) (name : Bor (List ℕ)) (told : Fault) → ((line : ℕ) → f ≡ regions.Line line → told ≡ fault.RegionsRefused line)
    → (f ≡ regions.Read → told ≡ fault.CannotRead name) → (f ≡ regions.NoMemory → told ≡ fault.NoMemory) → IsFaultOfRegions name told
of_read (regions.Line n) name told refused unread memory = rw (refused n refl) tt
of_read regions.Read name told refused unread memory = rw (unread refl) refl
of_read regions.NoMemory name told refused unread memory = rw (memory refl) tt
