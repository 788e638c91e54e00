use Rattle.std.proofs.Common.{◌++◌, take}
use Rattle.std.proofs.KnownBytes.{Consumes-trans}
use Rattle.iova_regions.proofs.read.read_all.Goals as goal

pub returns-then-is_err : goal.returns-then-is_err
returns-then-is_err g c =
    let piece = take c.in-Ok.len c.read_some.new.buffer in (
      c.loop.text.items ++ piece,
      Consumes-trans (g.R.Read.remaining c.args.reader.now) (g.R.Read.remaining c.loop.reader) (g.R.Read.remaining c.read_some.new.reader) c.loop.text.items piece
          c.loop.invariant c.in-Ok.ensures.ok,
    )
