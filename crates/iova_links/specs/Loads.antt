-- Which worker the next session goes to.
use Rattle.std.specs.Prelude.{◌≤◌, List, All}
use Rattle.iova_links.specs.declared.loads.Load.{Load}

-- a worker has a free post, and none of these with a free post serves fewer sessions
abbrev pub IsFewest : List Load → Load → Type 0
IsFewest loads load = (1 ≤ load.free) × All (λ l. 1 ≤ l.free → load.sessions ≤ l.sessions) loads
