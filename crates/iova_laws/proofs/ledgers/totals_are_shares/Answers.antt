use Rattle.iova_laws.proofs.LedgerTotals.{totals_are_shares}
use Rattle.iova_laws.proofs.ledgers.totals_are_shares.Goals as goal

pub returns : goal.returns
returns c = totals_are_shares
