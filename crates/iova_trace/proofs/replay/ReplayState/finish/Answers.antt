use Rattle.std.proofs.Common.{rules, ℕ, ◌≡◌, ◌≢◌, ◌+◌, List, [], ◌++◌, Option, Some, None, refl, ap, subst, ◌∙◌}
use Rattle.std.proofs.lemmas.List.{append-nil}
use Rattle.iova_model.specs.State.{State}
use Rattle.iova_line.specs.declared.trace.Trace.{Trace}
use Rattle.iova_text.specs.Lines.{HasNoLf}
use Rattle.iova_trace.specs.Lines.{IsCutOff, next_line_number, count_steps}
use Rattle.iova_trace.specs.ReplayState.{number_at}
use Rattle.iova_trace.specs.Replay.{IsReplayed}
use Rattle.iova_trace.proofs.replay.ReplayState.finish.Goals as goal

-- the number of the line that comes next
next_is : (lines : Option Trace) (domain : Option State) (text : List ℕ) (steps : ℕ) → IsReplayed lines domain text → steps ≡ count_steps lines → number_at domain steps ≡ next_line_number lines
next_is None None text steps h count = refl
next_is None (Some s) text steps h count = absurd h
next_is (Some t) None text steps h count = absurd h
next_is (Some t) (Some s) text steps h count = ap (λ n. n + 2) count

-- a line that has begun is cut
begun_cut : (lines : Option Trace) (line : List ℕ) → line ≢ [] → HasNoLf line → IsCutOff lines line
begun_cut None line some unended = unended
begun_cut (Some t) line some unended = (unended, some)

pub returns-then-not-is_empty : goal.returns-then-not-is_empty
returns-then-not-is_empty c taken written before now st =
    let text : st.text ≡ written = st.gathered ∙ (ap (λ l. written ++ l) c.requires ∙ append-nil written) in
    record {
      lines = st.lines;
      rest = c.args.self.line;
      state = c.args.self.domain;
      begins = st.begins;
      replayed = subst (IsReplayed st.lines c.args.self.domain) text st.replayed;
      number_is = c.number-number.ensures ∙ next_is st.lines c.args.self.domain st.text c.args.self.steps st.replayed st.steps;
      cut = begun_cut st.lines c.args.self.line (search (rules, c.if-not-is_empty.ensures.value)) c.args.self.unended.one;
    }
