use Rattle.std.proofs.Common.{◌≡◌, ◌∙◌, ap, sym}
use Rattle.dw_board.specs.declared.piece.Side.{Side}
use Rattle.dw_board.specs.declared.piece.Side.TheVariants.{White, Black}
use Rattle.dw_board.specs.declared.piece.Kind.{Kind}
use Rattle.dw_board.specs.declared.piece.Kind.TheVariants.{Man, King}
use Rattle.dw_board.specs.SquareSet.{word_of}
use Rattle.dw_board.specs.PieceSets.{set_of}
use Rattle.dw_board.specs.inner.Mixing.{standing_word, mixed_word}
use Rattle.dw_board.proofs.PieceSetLemmas.{kept_placement}
use Rattle.dw_board.proofs.MixedLemmas.{mixed-is}
use Rattle.dw_board.proofs.position.Position.mixed_word.Goals as goal

pub returns : goal.returns
returns g c =
    let board = g.B.Board.geometry in
    let before = kept_placement c.self.inside.held c.self.inside.turn in
    let stands : (side : Side) (k : Kind) → word_of board (set_of c.self.inside.held side k)
    ≡ standing_word board before side k =
    λ side k. ap (word_of board) (sym (c.self.invariant.standing_is side k)) in
    mixed-is board before c.mixed-turned.result c.mixed-men.result c.mixed-white.result c.mixed-others.result
    c.mixed.result c.from-turn.result
    c.word-white_men.result c.word-white_kings.result c.word-black_men.result c.word-black_kings.result
    (c.from-turn.ensures ∙ c.side_number.ensures) c.mixed-turned.ensures
    (c.word-white_men.ensures.value ∙ (ap (word_of board) c.of.ensures ∙ stands White Man)) c.mixed-men.ensures
    (c.word-white_kings.ensures.value ∙ (ap (word_of board) c.of-2.ensures ∙ stands White King)) c.mixed-white.ensures
    (c.word-black_men.ensures.value ∙ (ap (word_of board) c.of-3.ensures ∙ stands Black Man)) c.mixed-others.ensures
    (c.word-black_kings.ensures.value ∙ (ap (word_of board) c.of-4.ensures ∙ stands Black King)) c.mixed.ensures
    ∙ ap (mixed_word board) c.self.view_is
