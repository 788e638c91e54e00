use Rattle.std.proofs.Common.{ℕ, ◌≡◌, ◌∙◌, ◌-◌, Bool, true, false, List, [], ◌∷◌, Some, None, length, sym, ap, subst, arith}
use Rattle.std.specs.Prelude.{if◌then◌else◌}
use Rattle.std.proofs.lemmas.Bool.{eqb-true}
use Rattle.iova_proto.specs.declared.fed.Fed.{Fed}
use Rattle.iova_proto.specs.declared.fed.Fed.TheVariants as fed
use Rattle.iova_proto.specs.Feeds.{Feeds}
use Rattle.iova_proto.proofs.Feeding.{Feeds-once, front_feeds}
use Rattle.iova_proto.proofs.lines.Lines.feed.Goals as goal

-- nothing is kept where no bad line has come and no byte is kept
seen : (bad : Bool) (bytes kept : List ℕ) → bad ≡ false → length bytes ≡ 0 → (if bad then None else Some bytes) ≡ Some kept → kept ≡ []
seen true bytes kept good none is = cc
seen false [] kept good none is = cc
seen false (b ∷ bytes) kept good none is = absurd (omega (arith, none))

pub returns-in-Some-clause-only : goal.returns-in-Some-clause-only
returns-in-Some-clause-only c kept other next is e =
    let own = c.self.inside.cutter in
    let piece = c.args.piece.now in
    let used = length piece - length c.in-Some.behind.now in
    let fed : Fed = fed.Request c.in-Some.request used in
    let none : kept ≡ [] = seen c.self.inside.is_bad own kept c.if-not-self.true (eqb-true (length own) 0 (sym c.if-is_empty.ensures.value)) (c.self.view_is ∙ is) in
    let P : List ℕ → Type 0 = λ k. Feeds k piece other next in
    let mine = front_feeds piece c.in-Some.request c.in-Some.behind.now c.in-Some.ensures.0 c.in-Some.ensures.1 in
    let once = Feeds-once [] piece other fed next (Some []) (subst P none e) mine in
    (once.0, once.1 ∙ sym (is ∙ ap (λ (x : List ℕ). Some x) none))
