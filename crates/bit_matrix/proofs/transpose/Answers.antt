-- `bit_matrix::transpose` meets its contract. All six digits are exchanged. Assumes nothing.
use Rattle.bit_matrix.proofs.Transposition.{all_exchanged}
use Rattle.bit_matrix.proofs.transpose.Goals as goal

pub returns : goal.returns
returns c = cc (all_exchanged c.args.rows)
