-- What an insertion and a removal keep.
use Rattle.std.proofs.Common.{ℕ, ◌+◌, List, [], ◌∷◌, ◌++◌}
use Rattle.iova_range.specs.Frames.{Frames}
use Rattle.iova_model.proofs.Placing.{AreSome}
use Rattle.iova_tree.specs.Space.{RiseApart, Space, ranges_of, IsSpace}

-- each range has a frame
rise_some : (from until : ℕ) (xs : List Frames) → RiseApart from xs until → AreSome xs
rise_some from until [] h = tt
rise_some from until (x ∷ xs) h = (h.1, rise_some (x.lo + x.len) until xs h.2)

some-append : (xs ys : List Frames) → AreSome xs → AreSome ys → AreSome (xs ++ ys)
some-append [] ys a b = b
some-append (x ∷ xs) ys a b = (a.0, some-append xs ys a.1 b)

pub space_some : (s : Space) → IsSpace s → AreSome (ranges_of s)
space_some s h = some-append s.windows s.inserted (rise_some s.bounds.start _ s.windows h.windows) (rise_some s.bounds.start _ s.inserted h.inserted)
