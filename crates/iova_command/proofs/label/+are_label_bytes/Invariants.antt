use Rattle.std.proofs.Common.{length}
use Rattle.iova_command.proofs.label.+are_label_bytes.Given as goal

abbrev pub decreases-are_label_bytes : goal.decreases-are_label_bytes
decreases-are_label_bytes l = length l.bytes.now
