use Rattle.iova_laws.proofs.Valid.{new_domains_are_valid}
use Rattle.iova_laws.proofs.validity.new_domains_are_valid.Goals as goal

pub returns : goal.returns
returns c = new_domains_are_valid
