use Rattle.std.proofs.Common.{rules, ℕ, ◌≡◌, ◌++◌, ◌∙◌, List, [], Bool, Ok, Err, length, take, subst, sym, refl, ap, arith, length-append, length-take}
use Rattle.std.proofs.lemmas.List.{append-nil}
use Rattle.std.proofs.KnownBytes.{Consumes-nil, Consumes-trans}
use Rattle.std.specs.Io.KnownBytes.{Consumes}
use Rattle.iova_text.specs.Lines.{IsUnended}
use Rattle.iova_ask.specs.Asking.{AreLinesAnd, Sends}
use Rattle.iova_ask.specs.LineRuns.{SendsRun, Copies}
use Rattle.iova_ask.specs.declared.fault.AskFault.{AskFault}
use Rattle.iova_ask.specs.declared.fault.AskFault.TheVariants as fault
use Rattle.iova_ask.proofs.Copying.{Copies-none, breaks_after, Copies-breaks, copied_rest, copies_further}
use Rattle.iova_ask.proofs.Lined.{more_sent}
use Rattle.iova_ask.proofs.SentParts.{add_piece, length_more, more_lines, none_asked, nothing_sent, sends_broken, sends_bye, sends_refused, sends_rest}
use Rattle.iova_ask.proofs.ask_lines.Goals as goal

pub returns-in_default-clause-sent : goal.returns-in_default-clause-sent
returns-in_default-clause-sent g c =
    ([], Consumes-nil (g.R.Read.remaining c.args.reader.now), nothing_sent (g.R.Read.remaining c.args.reader.now) (g.L.Link.sent c.args.link.now))

pub returns-in_default-clause-copied : goal.returns-in_default-clause-copied
returns-in_default-clause-copied g c =
    Copies-breaks 0 (g.L.Link.left c.args.link.now) (g.L.Link.left c.args.link.now) (g.W.Write.contents c.args.writer.now) (g.W.Write.contents c.args.writer.now) [] []
    (Copies-none (g.L.Link.left c.args.link.now) (g.W.Write.contents c.args.writer.now) [])

pub reading-init : goal.reading-init
reading-init g c =
    let none = none_asked [] (g.L.Link.sent c.args.link.now) 0 in
    let unended : IsUnended [] = record { one = refl; short = omega arith } in
    let input_is : c.in-Ok-Ok.input ≡ [] = search rules in
    let answers_is : c.in-Ok-Ok.answers ≡ [] = search rules in
    record {
      asked = ([], none.0, Consumes-nil (g.R.Read.remaining c.args.reader.now), subst (λ (t : List ℕ). AreLinesAnd [] t none.0) (sym input_is) none.1, none.2, omega (arith, none.3));
      unended = subst IsUnended (sym input_is) unended;
      copied = subst (λ (t : List ℕ). Copies 0 (g.L.Link.left c.args.link.now) (g.L.Link.left c.args.link.now) (g.W.Write.contents c.args.writer.now) (g.W.Write.contents c.args.writer.now) [] t)
          (sym answers_is) (Copies-none (g.L.Link.left c.args.link.now) (g.W.Write.contents c.args.writer.now) []);
      bound = omega (arith, ap length input_is);
    }

pub returns-then-len-eq0-clause-sent : goal.returns-then-len-eq0-clause-sent
returns-then-len-eq0-clause-sent g c =
    let a = c.reading.invariant.asked in
    let r0 = g.R.Read.remaining c.args.reader.now in
    let r2 = g.R.Read.remaining c.read_some.new.reader in
    let got : take c.in-Ok.len c.read_some.new.buffer ≡ [] = ap (λ (n : ℕ). take n c.read_some.new.buffer) c.if-len-eq0.true in
    let consumed = subst (Consumes r0 r2) (ap (λ (t : List ℕ). a.0 ++ t) got ∙ append-nil a.0)
    (Consumes-trans r0 (g.R.Read.remaining c.reading.reader) r2 a.0 (take c.in-Ok.len c.read_some.new.buffer) a.2 c.in-Ok.ensures.ok) in (
      a.0,
      consumed,
      sends_rest a.0 c.reading.input c.reading.sent r2 (g.L.Link.sent c.args.link.now) (g.L.Link.sent c.reading.link) (g.L.Link.sent c.ask_rest.new.link)
          a.1 c.ask_rest.result a.3 a.4 a.5 (c.in-Ok.ensures.end c.if-len-eq0.true) c.ask_rest.ensures.asked,
    )

pub returns-then-len-eq0-clause-copied : goal.returns-then-len-eq0-clause-copied
returns-then-len-eq0-clause-copied g c =
    copied_rest c.ask_rest.result c.reading.sent _ _ _ _ _ _ _ _ _ c.reading.invariant.copied c.ask_rest.ensures.copied

pub returns-in-Err-add-clause-sent : goal.returns-in-Err-add-clause-sent
returns-in-Err-add-clause-sent g c =
    let a = c.reading.invariant.asked in
    let r2 = g.R.Read.remaining c.read_some.new.reader in
    let piece = take c.in-Ok.len c.read_some.new.buffer in
    let consumed = Consumes-trans (g.R.Read.remaining c.args.reader.now) (g.R.Read.remaining c.reading.reader) r2 a.0 piece a.2 c.in-Ok.ensures.ok in
    let is : c.in-Err-add.fault ≡ fault.NoMemory = cc (c.in-Err-add.ensures.err) in
    let lines = add_piece a.0 c.reading.input piece (c.reading.input ++ piece) a.1 a.3 refl in (
      a.0 ++ piece,
      consumed,
      subst (λ (e : AskFault). Sends (a.0 ++ piece) r2 (g.L.Link.sent c.args.link.now) (g.L.Link.sent c.reading.link) (Err e)) (sym is)
          (sends_refused (a.0 ++ piece) (c.reading.input ++ piece) r2 (g.L.Link.sent c.args.link.now) (g.L.Link.sent c.reading.link) a.1 lines a.4),
    )

pub returns-then-is_last-clause-sent : goal.returns-then-is_last-clause-sent
returns-then-is_last-clause-sent g c =
    let a = c.reading.invariant.asked in
    let r2 = g.R.Read.remaining c.read_some.new.reader in
    let piece = take c.in-Ok.len c.read_some.new.buffer in
    let consumed = Consumes-trans (g.R.Read.remaining c.args.reader.now) (g.R.Read.remaining c.reading.reader) r2 a.0 piece a.2 c.in-Ok.ensures.ok in
    let lines = add_piece a.0 c.reading.input piece c.add.new.self a.1 a.3 c.in-Ok-add.ensures.ok in
    let asked = subst (λ (b : Bool). SendsRun c.add.new.self c.ask_whole.new.input c.reading.sent c.ask_whole.new.sent (g.L.Link.sent c.reading.link) (g.L.Link.sent c.ask_whole.new.link) (Ok b))
    c.if-is_last.true c.in-Ok-ask_whole.ensures.asked in (
      a.0 ++ piece,
      consumed,
      sends_bye (a.0 ++ piece) c.add.new.self c.ask_whole.new.input c.reading.sent c.ask_whole.new.sent r2
          (g.L.Link.sent c.args.link.now) (g.L.Link.sent c.reading.link) (g.L.Link.sent c.ask_whole.new.link) a.1 lines a.4 a.5 asked,
    )

pub returns-then-is_last-clause-copied : goal.returns-then-is_last-clause-copied
returns-then-is_last-clause-copied g c =
    (c.ask_whole.new.answers, copies_further _ _ _ _ _ _ _ _ _ _ _ c.reading.invariant.copied c.in-Ok-ask_whole.ensures.copied)

pub returns-in-Err-ask_whole-clause-sent : goal.returns-in-Err-ask_whole-clause-sent
returns-in-Err-ask_whole-clause-sent g c =
    let a = c.reading.invariant.asked in
    let r2 = g.R.Read.remaining c.read_some.new.reader in
    let piece = take c.in-Ok.len c.read_some.new.buffer in
    let consumed = Consumes-trans (g.R.Read.remaining c.args.reader.now) (g.R.Read.remaining c.reading.reader) r2 a.0 piece a.2 c.in-Ok.ensures.ok in
    let lines = add_piece a.0 c.reading.input piece c.add.new.self a.1 a.3 c.in-Ok-add.ensures.ok in (
      a.0 ++ piece,
      consumed,
      sends_broken (a.0 ++ piece) c.add.new.self c.ask_whole.new.input c.reading.sent c.ask_whole.new.sent r2
          (g.L.Link.sent c.args.link.now) (g.L.Link.sent c.reading.link) (g.L.Link.sent c.ask_whole.new.link) a.1 c.in-Err-ask_whole.fault lines a.4 c.in-Err-ask_whole.ensures.asked,
    )

pub returns-in-Err-ask_whole-clause-copied : goal.returns-in-Err-ask_whole-clause-copied
returns-in-Err-ask_whole-clause-copied g c =
    breaks_after c.reading.sent _ _ _ _ _ _ _ _ c.reading.invariant.copied c.in-Err-ask_whole.ensures.copied

pub reading-preserved : goal.reading-preserved
reading-preserved g c =
    let a = c.reading.invariant.asked in
    let r2 = g.R.Read.remaining c.read_some.new.reader in
    let piece = take c.in-Ok.len c.read_some.new.buffer in
    let consumed = Consumes-trans (g.R.Read.remaining c.args.reader.now) (g.R.Read.remaining c.reading.reader) r2 a.0 piece a.2 c.in-Ok.ensures.ok in
    let lines = add_piece a.0 c.reading.input piece c.add.new.self a.1 a.3 c.in-Ok-add.ensures.ok in
    let asked = subst (λ (b : Bool). SendsRun c.add.new.self c.ask_whole.new.input c.reading.sent c.ask_whole.new.sent (g.L.Link.sent c.reading.link) (g.L.Link.sent c.ask_whole.new.link) (Ok b))
    c.if-is_last.false c.in-Ok-ask_whole.ensures.asked in
    record {
      asked = (
        a.0 ++ piece,
        a.1 ++ asked.0,
        consumed,
        more_lines (a.0 ++ piece) c.add.new.self c.ask_whole.new.input a.1 asked.0 lines asked.1,
        more_sent (g.L.Link.sent c.args.link.now) (g.L.Link.sent c.reading.link) (g.L.Link.sent c.ask_whole.new.link) a.1 asked.0 a.4 asked.3,
        length_more a.1 asked.0 c.reading.sent c.ask_whole.new.sent a.5 asked.4,
      );
      unended = asked.2;
      copied = copies_further _ _ _ _ _ _ _ _ _ _ _ c.reading.invariant.copied c.in-Ok-ask_whole.ensures.copied;
      bound = omega (
        arith,
        c.reading.invariant.bound,
        c.in-Ok-ask_whole.ensures.bound,
        ap length c.in-Ok-add.ensures.ok,
        length-append c.reading.input piece,
        length-take c.in-Ok.len c.read_some.new.buffer,
        c.in-Ok.ensures.bound,
      );
    }
