use Rattle.std.proofs.Common.{sym, ◌∙◌, arith}
use Rattle.iova_cache.proofs.Words.{length_words, words_less, last_word, unlast}
use Rattle.iova_cache.proofs.magazine.Magazine.drop_newest.Goals as goal

pub invariant_of-self : goal.invariant_of-self
invariant_of-self c = words_less c.self.inside.words c.self.inside.count 256 c.self.invariant

pub returns : goal.returns
returns c = λ rest r is.
    let long = length_words c.self.inside.words c.self.inside.count 256 c.self.invariant in
    let some = rw (← c.self.view_is) at c.requires in
    let now = rw (← c.self.view_is) at is in
    unlast _ rest _ r (sym (last_word c.self.inside.words c.self.inside.count 256 c.self.invariant (omega (arith, long, some))) ∙ now)
