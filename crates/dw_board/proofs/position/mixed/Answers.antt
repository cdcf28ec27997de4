use Rattle.std.proofs.Common.{◌*◌}
use Rattle.std.proofs.Math.Nat.{add-mod-mod}
use Rattle.dw_board.proofs.position.mixed.Goals as goal

pub returns : goal.returns
returns c = add-mod-mod c.args.number (c.args.word * c.args.factor) 18446744073709551616
