use Rattle.std.proofs.Common.{ℕ, List}
use Rattle.std.proofs.lemmas.Result.{IfOk-weaker}
use Rattle.dw_board.specs.declared.board.Dir.{Dir}
use Rattle.dw_board.specs.declared.board.Dir.TheVariants.{UpLeft, UpRight, DownLeft, DownRight}
use Rattle.dw_board.specs.declared.piece.Kind.TheVariants.{King}
use Rattle.dw_moves.specs.Moves.{ray}
use Rattle.dw_moves.specs.inner.Plain.{landings_for}
use Rattle.dw_moves.proofs.JumpStepLemmas.{added_four}
use Rattle.dw_moves.proofs.quiet.push_king.Goals as goal

pub returns : goal.returns
returns g c =
    let run : Dir → List ℕ = λ d. landings_for King c.args.position.now (ray g.B.Board.geometry c.args.from d) in
    IfOk-weaker c.push_run-4.result _ _ (λ k h.
    added_four (g.T.FromQuiet.made c.args.from) (run UpLeft) (run UpRight) (run DownLeft) (run DownRight)
    c.args.moves.now.items c.push_run.new.moves.items c.push_run-2.new.moves.items c.push_run-3.new.moves.items
    c.push_run-4.new.moves.items c.in_ok-push_run.ensures c.in_ok-push_run-2.ensures c.in_ok-push_run-3.ensures h)
    c.push_run-4.ensures
