use Rattle.std.proofs.Common.{refl}
use Rattle.dw_moves.proofs.SquareSetLemmas.{any_is}
use Rattle.dw_moves.proofs.field.any.Goals as goal

pub returns : goal.returns
returns g c = any_is c.args.squares _ c.is_empty.result refl c.is_empty.ensures
