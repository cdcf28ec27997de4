use Rattle.std.proofs.Common.{sym, ◌∙◌}
use Rattle.std.proofs.lemmas.Bool.{true≢false}
use Rattle.dw_board.specs.Geometry.{OnBoard}
use Rattle.dw_moves.specs.Moves.{In}
use Rattle.dw_moves.proofs.RayLemmas.{jumped_on_ray, ray_of_on}
use Rattle.dw_moves.proofs.SquareSetLemmas.{in_minus}
use Rattle.dw_moves.proofs.KingStartLemmas.{in_some}
use Rattle.dw_moves.proofs.mover.jump_starts.Goals as goal

pub returns : goal.returns
returns g c = λ p side s x t ground on free fresh jump.
    let geo = g.B.Board.geometry in
    let x_on : OnBoard geo x = ray_of_on geo g.met.B.Board.numbers geo.rows s jump.dir x on
    (jumped_on_ray geo p (record { side = side; kind = g.M.Mover.as_kind }) s x t jump) in
    let there : In x c.minus-left.result =
    (in_minus c.args.field.now.enemies c.args.taken c.minus-left.result x c.minus-left.ensures).1
    ((ground.of_enemies x).1 (x_on, jump.enemy), λ i. true≢false (sym i ∙ fresh)) in
    in_some s c.starts_towards.result c.starts_towards-2.result c.starts_towards-3.result c.starts_towards-4.result
    c.or-up.result c.or-down.result c.or.result c.or-up.ensures c.or-down.ensures c.or.ensures jump.dir
    (λ e. c.starts_towards.ensures p side s x t ground on free there (jump, e))
    (λ e. c.starts_towards-2.ensures p side s x t ground on free there (jump, e))
    (λ e. c.starts_towards-3.ensures p side s x t ground on free there (jump, e))
    (λ e. c.starts_towards-4.ensures p side s x t ground on free there (jump, e))
