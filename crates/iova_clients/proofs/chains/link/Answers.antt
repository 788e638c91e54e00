use Rattle.std.proofs.Common.{◌≡◌, ◌-◌, ◌<◌, length, ap, ◌∙◌, arith}
use Rattle.std.proofs.lemmas.List.{get_or_default}
use Rattle.iova_clients.specs.Chains.{chain_at, chain_of, range_at}
use Rattle.iova_clients.proofs.Linking.{linked}
use Rattle.iova_clients.proofs.chains.link.Goals as goal

pub returns : goal.returns
returns c =
    let cells = c.args.cells.now in
    let n = c.args.place in
    let x = c.index-cells-place.result in
    let here : x ≡ range_at cells n = c.index-cells-place.is ∙ get_or_default cells n x (record { lo = 0; len = 0 }) c.requires.within in
    let own : c.chain_of.result ≡ chain_at cells n = c.chain_of.ensures.is ∙ ap (λ l. chain_of (length cells - 1) l) (c.lo.ensures ∙ ap (λ r. r.lo) here) in
    let below : chain_at cells n < length cells = rw (← own) (omega (arith, c.chain_of.ensures.within, c.requires.within)) in
    rw own (linked (chain_at cells) (length cells) n c.args.links.now c.requires.within below c.requires.links)
