use Rattle.std.proofs.Common.{◌∙◌, List, Option, map, ap, subst, sym}
use Rattle.std.specs.Option.{option_map}
use Rattle.clap.specs.Words.{Text, found_of}
use Rattle.clap.proofs.WalkLemmas.{raw_values-rows}
use Rattle.iova_range.specs.Frames.{Frames}
use Rattle.iova_command.specs.Spans.{AreWindowsOf, InsertsSpans}
use Rattle.iova_command.proofs.plan.windows.Goals as goal

pub returns-in-None : goal.returns-in-None
returns-in-None c =
    let read = sym (raw_values-rows (found_of c.args.found.now) c.args.name.now) ∙ sym c.get_raw.ensures in
    let none = read ∙ ap (option_map (λ s. map (λ v. v.now) s.now)) c.in-None.is in
    subst (λ (o : Option (List Text)). AreWindowsOf c.args.start c.args.last o c.new-windows.result) (sym none) c.new-windows.ensures

pub returns-in_ok-insert_spans-in-Some : goal.returns-in_ok-insert_spans-in-Some
returns-in_ok-insert_spans-in-Some c =
    let read = sym (raw_values-rows (found_of c.args.found.now) c.args.name.now) ∙ sym c.get_raw.ensures in
    let some = read ∙ ap (option_map (λ s. map (λ v. v.now) s.now)) c.in-Some.is in
    let inserted = subst (λ (ws : List Frames). InsertsSpans c.args.start c.args.last (map (λ t. t.now) c.in-Some.spans.now) ws c.insert_spans.new.windows) c.new-windows.ensures c.in_ok-insert_spans-in-Some.ensures in
    subst (λ (o : Option (List Text)). AreWindowsOf c.args.start c.args.last o c.insert_spans.new.windows) (sym some) inserted
