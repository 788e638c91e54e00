use Rattle.std.proofs.Common.{◌≡◌, ◌≢◌, ◌+◌, ◌-◌, ◌<◌, ℕ, List, length, get_or, sym, ap, ◌∙◌, arith}
use Rattle.std.proofs.lemmas.Bool.{cases_eq}
use Rattle.std.proofs.lemmas.List.{get_or_default, length-set}
use Rattle.iova_range.specs.Frames.{Frames}
use Rattle.iova_clients.specs.Chains.{chain_at, chain_of, range_at}
use Rattle.iova_clients.proofs.Linking.{by_either, leads_below, unlinked, removed_same, removed_other, removed_last}
use Rattle.iova_clients.proofs.chains.remove.Goals as goal
use Rattle.iova_clients.proofs.chains.remove.Goals.{then-chain-home, else-chain-home}

-- the chain that was computed for a cell that was read
chain_read : (cells : List Frames) (k : ℕ) (x : Frames) (lo chain : ℕ) → k < length cells → x ≡ get_or cells k x → lo ≡ x.lo → chain ≡ chain_of (length cells - 1) lo → chain ≡ chain_at cells k
chain_read cells k x lo chain lt is begins chained =
    let here : x ≡ range_at cells k = is ∙ get_or_default cells k x (record { lo = 0; len = 0 }) lt in
    chained ∙ ap (λ l. chain_of (length cells - 1) l) (begins ∙ ap (λ r. r.lo) here)

pub bounds-cells-place : goal.bounds-cells-place
bounds-cells-place c =
    let cells = c.args.cells.now in
    let e = c.requires.entry in
    let leads = leads_below (chain_at cells) (length cells) (c.args.last + 1) c.args.links.now c.args.entry e.0 e.1 c.requires.links e.2 e.3 in
    omega (arith, leads.0, c.requires.within)

pub entry_above-above-requires-clause-links : goal.entry_above-above-requires-clause-links
entry_above-above-requires-clause-links c =
    let cells = c.args.cells.now in
    let n = c.args.last in
    let x = c.index-cells-last.result in
    let chain = chain_read cells n x c.lo-2.result c.chain_of-chain.result c.requires.within c.index-cells-last.is c.lo-2.ensures c.chain_of-chain.ensures.is in
    let own : c.chain_of-chain.result < length cells = omega (arith, c.chain_of-chain.ensures.within, c.requires.within) in
    rw chain (unlinked (chain_at cells) (length cells) n c.args.links.now c.requires.within (rw chain at own) c.requires.links)

pub entry_above-above-requires-clause-place : goal.entry_above-above-requires-clause-place
entry_above-above-requires-clause-place c =
    let cells = c.args.cells.now in
    let n = c.args.last in
    let e = c.requires.entry in
    let p = get_or c.args.links.now c.args.entry 0 - 1 in
    let leads = leads_below (chain_at cells) (length cells) (n + 1) c.args.links.now c.args.entry e.0 e.1 c.requires.links e.2 e.3 in
    let chain = chain_read cells n c.index-cells-last.result c.lo-2.result c.chain_of-chain.result c.requires.within c.index-cells-last.is c.lo-2.ensures c.chain_of-chain.ensures.is in
    let home = chain_read cells p c.index-cells-place.result c.lo.result c.chain_of-home.result (omega (arith, leads.0, c.requires.within)) c.index-cells-place.is c.lo.ensures c.chain_of-home.ensures.is in
    by_either (cases_eq p n)
    (λ is. absurd (c.if-chain-home.true (chain ∙ (sym (ap (chain_at cells) is) ∙ sym home))))
    (λ ne. omega (arith, leads.0, ne))

pub bounds-cells-place-2 : goal.bounds-cells-place-2
bounds-cells-place-2 c =
    let cells = c.args.cells.now in
    let e = c.requires.entry in
    let leads = leads_below (chain_at cells) (length cells) (c.args.last + 1) c.args.links.now c.args.entry e.0 e.1 c.requires.links e.2 e.3 in
    omega (arith, leads.0, c.requires.within)

pub returns-clause-links : goal.returns-clause-links
returns-clause-links c =
    let cells = c.args.cells.now in
    let links = c.args.links.now in
    let n = c.args.last in
    let e = c.requires.entry in
    let p = get_or links c.args.entry 0 - 1 in
    let leads = leads_below (chain_at cells) (length cells) (n + 1) links c.args.entry e.0 e.1 c.requires.links e.2 e.3 in
    let within : p < length cells = omega (arith, leads.0, c.requires.within) in
    let x = c.index-cells-last.result in
    let there : x ≡ range_at cells n = c.index-cells-last.is ∙ get_or_default cells n x (record { lo = 0; len = 0 }) c.requires.within in
    let chain = chain_read cells n x c.lo-2.result c.chain_of-chain.result c.requires.within c.index-cells-last.is c.lo-2.ensures c.chain_of-chain.ensures.is in
    let home = chain_read cells p c.index-cells-place.result c.lo.result c.chain_of-home.result within c.index-cells-place.is c.lo.ensures c.chain_of-home.ensures.is in
    let small : c.chain_of-chain.result < length cells = omega (arith, c.chain_of-chain.ensures.within, c.requires.within) in
    let own : chain_at cells n < length cells = rw chain at small in
    rw (there, length-set cells p (range_at cells n)) (elim c.if-chain-home.branch [
      | then-chain-home w ↦ (let above = w.entry_above-above.ensures.entry in
          let ne : chain_at cells n ≢ chain_at cells p = λ is. w.if-chain-home.true (chain ∙ (is ∙ sym home)) in
          let leads_to = rw chain at above in
          rw (w.links-is, chain)
          (removed_other cells n links c.args.entry e.0 e.1 w.entry_above-above.result leads_to.0 c.requires.within own c.requires.links e.2 e.3 ne leads_to.1 leads_to.2 leads_to.3))
      | else-chain-home w ↦ rw (w.links-is, chain)
          (removed_same cells n links p c.requires.within own within (sym chain ∙ (w.if-chain-home.false ∙ home)) c.requires.links)
    ])

pub returns-then-place-last-clause-links : goal.returns-then-place-last-clause-links
returns-then-place-last-clause-links c =
    let cells = c.args.cells.now in
    let e = c.requires.entry in
    removed_last (chain_at cells) c.args.last (length cells) c.args.links.now c.args.entry e.0 e.1 c.requires.within c.requires.links e.2 e.3 c.if-place-last.true
