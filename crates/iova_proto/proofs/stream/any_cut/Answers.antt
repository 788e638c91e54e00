use Rattle.iova_proto.proofs.Pieces.{pieces_read, one_reading, any_cut}
use Rattle.iova_proto.proofs.stream.any_cut.Goals as goal

pub returns-clause-pieces : goal.returns-clause-pieces
returns-clause-pieces c = λ pieces rs state e. pieces_read pieces rs state e

pub returns-clause-one : goal.returns-clause-one
returns-clause-one c = λ stream rs ss state other x y. one_reading stream rs ss state other x y

pub returns-clause-cuts : goal.returns-clause-cuts
returns-clause-cuts c = λ pieces others rs ss state other e x y. any_cut pieces others rs ss state other e x y
