use Rattle.std.proofs.Common.{◌≡◌, ◌≤◌, ◌*◌, ℕ, take, sum_by}
use Rattle.iova_flush.specs.Rings.{frame_count}
use Rattle.iova_core.proofs.domain.queued_frames.Given as goal

-- the frames of the rings so far, each of which has no more than 255 * 2^20
pub record IsQueued (frames index all : ℕ) : Type 0 where
  pub counted : frames ≡ all
  pub few : frames ≤ index * 267386880

abbrev pub invariant-loop-ring : goal.invariant-loop-ring
invariant-loop-ring l = IsQueued l.frames l.ring-index (sum_by frame_count (take l.ring-index l.rings))
