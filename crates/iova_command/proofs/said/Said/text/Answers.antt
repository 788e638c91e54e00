use Rattle.std.proofs.Common.{List, ◌∙◌, ap, sym}
use Rattle.clap.specs.Words.{Row, first_of, found_of}
use Rattle.iova_command.proofs.Getters.{optional_text_read}
use Rattle.iova_command.proofs.said.Said.text.Goals as goal

pub returns : goal.returns
returns c =
    sym (optional_text_read (found_of c.self.inside.found) c.args.name.now c.get_str.result c.get_str.ensures)
    ∙ ap (λ (rows : List Row). first_of c.args.name.now rows) c.self.view_is
