use Rattle.std.proofs.Common.{rules, length, take, subst, sym}
use Rattle.std.proofs.KnownBytes.{Appends-kept}
use Rattle.std.proofs.Math.Seq.{take-length}
use Rattle.std.specs.Io.KnownBytes.{Appends}
use Rattle.iova_text.proofs.write.write_all.Goals as goal

pub returns-clause-err : goal.returns-clause-err
returns-clause-err g c =
    let before = g.W.Write.contents c.args.writer.now in
    let after = g.W.Write.contents c.flush.new.self in
    let bytes = c.args.bytes.now in
    let kept = Appends-kept before (g.W.Write.contents c.write_bytes.new.writer) after bytes c.in_ok-write_bytes.ensures.ok c.flush.ensures.bytes in
    let all : Appends before after (take (length bytes) bytes) = subst (Appends before after) (sym (take-length bytes)) kept in
    search (rules, all)
