use Rattle.std.proofs.Common.{◌≡◌, ◌≤◌, ltb, true, false, length, arith, rules}
use Rattle.std.proofs.lemmas.Bool.{ltb-true, ltb-false}
use Rattle.dw_notation.proofs.MoveAnswerLemmas.{between_answers, followed_answers}
use Rattle.dw_notation.proofs.read_move.capture.Goals as goal
use Rattle.dw_notation.proofs.read_move.capture.Goals.{in_default-via-then-squares-lt2}
use Rattle.dw_notation.proofs.read_move.capture.Goals.{in_default-via-else-squares-lt2+else-squares-lt3}

pub returns-in-len2 : goal.returns-in-len2
returns-in-len2 g c =
    between_answers g.B.Board.geometry c.args.position.now c.args.squares.now c.from-item.result c.to-item.result
    c.capture_between.result c.requires c.in-len2.len_below c.from-item.is c.to-item.is c.capture_between.ensures

pub returns-in_default : goal.returns-in_default
returns-in_default g c =
    let long : 3 ≤ length c.args.squares.now = elim c.in_default.branch [
      | in_default-via-then-squares-lt2 w ↦
          let low : ltb (length c.args.squares.now) 2 ≡ true = search rules in
          let few = ltb-true _ _ low in
          omega (arith, few)
      | in_default-via-else-squares-lt2+else-squares-lt3 w ↦
          let high : ltb (length c.args.squares.now) 3 ≡ false = search rules in
          ltb-false _ _ high
    ] in
    followed_answers g.B.Board.geometry c.args.position.now c.args.squares.now c.follow.result c.ok_or.result
    c.ok_or.ensures.value long c.follow.ensures.path
