use Rattle.std.proofs.Common.{refl, rules}
use Rattle.dw_board.proofs.position.PositionClone.clone.Goals as goal

pub returns : goal.returns
returns g c = record {
  cases = (
    record { held = c.in-Ok.field-0; turn = c.in-Ok-2.field-0 },
    record { held = c.in-Ok.field-0; turn = c.in-Ok-2.field-0 },
    search rules,
    refl,
    (refl, refl),
  );
}
