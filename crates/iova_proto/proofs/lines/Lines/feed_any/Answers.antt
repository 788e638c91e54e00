use Rattle.std.proofs.Common.{ℕ, ◌≡◌, ◌∙◌, Bool, true, false, List, Some, None, sym, ap, subst}
use Rattle.std.specs.Prelude.{if◌then◌else◌}
use Rattle.iova_proto.specs.Feeds.{Feeds, state_behind}
use Rattle.iova_proto.proofs.Feeding.{Feeds-once}
use Rattle.iova_proto.proofs.lines.Lines.feed_any.Goals as goal

-- what is seen where no bad line has come
seen : (bad : Bool) (bytes kept : List ℕ) → bad ≡ false → (if bad then None else Some bytes) ≡ Some kept → kept ≡ bytes
seen true bytes kept good is = cc
seen false bytes kept good is = cc

pub returns-clause-only : goal.returns-clause-only
returns-clause-only c kept other next is e =
    let own = c.self.inside.cutter in
    let new = c.feed_behind-fed.new.cutter in
    let fed = c.feed_behind-fed.result in
    let same : kept ≡ own = seen c.self.inside.is_bad own kept c.if-self.false (c.self.view_is ∙ is) in
    let P : List ℕ → Type 0 = λ k. Feeds k c.args.piece.now other next in
    let once = Feeds-once own c.args.piece.now other fed next (state_behind fed new) (subst P same e) c.feed_behind-fed.ensures in
    (once.0, once.1 ∙ ap (λ (b : Bool). if b then None else Some new) (sym c.is_bad-self-inside.ensures))
