use Rattle.std.proofs.Common.{◌≡◌, ℕ, ◌<◌, ◌↔◌, true, sym, ap, ◌∙◌, subst, w64, bit_and}
use Rattle.std.specs.Int.{bit_not}
use Rattle.std.specs.FinSet as set
use Rattle.dw_board.specs.Geometry.{OnBoard, Squares}
use Rattle.dw_board.specs.Slides.{SlidesTo}
use Rattle.dw_board.specs.SquareSet.{squares_of, WholeBoard}
use Rattle.dw_board.proofs.CountingLemmas.{word-fits}
use Rattle.dw_board.proofs.SetLemmas.{OnlySquares-and_left, squares_of-within}
use Rattle.dw_board.proofs.SlideLemmas.{OnlySquares-near, contains-near, free_squares}
use Rattle.dw_board.proofs.squares.Squares.slid_near.Goals as goal

pub invariant_of-result : goal.invariant_of-result
invariant_of-result g c =
    let whole : WholeBoard g.B.Board.geometry c.WORD.result = rw c.WORD.ensures g.met.B.Board.word_is in
    let free : ℕ = bit_and c.WORD.result (bit_not w64 c.barred.inside.word) in
    record {
      board = c.self.invariant.board;
      only = rw c.near_word.ensures (OnlySquares-near g.B.Board.geometry c.self.invariant.board g.met.B.Board.shifts
          c.WORD.result whole c.args.direction c.args.barred free
          (free_squares g.B.Board.geometry c.self.invariant.board c.WORD.result c.barred.inside.word c.args.barred whole
          (word-fits g.B.Board.geometry c.barred.invariant.board c.barred.inside.word c.barred.invariant.only)
          c.barred.view_is)
          c.self.inside.word c.self.invariant.only (OnlySquares-and_left g.B.Board.geometry c.WORD.result
          (bit_not w64 c.barred.inside.word) whole.only));
    }

pub returns-clause-reached : goal.returns-clause-reached
returns-clause-reached g c = λ t.
    let whole : WholeBoard g.B.Board.geometry c.WORD.result = rw c.WORD.ensures g.met.B.Board.word_is in
    let free : ℕ = bit_and c.WORD.result (bit_not w64 c.barred.inside.word) in
    let e = ap (λ n. set.contains (squares_of g.B.Board.geometry n) t) c.near_word.ensures in
    let h = contains-near g.B.Board.geometry c.self.invariant.board g.met.B.Board.shifts c.WORD.result whole
    c.args.direction c.args.barred free
    (free_squares g.B.Board.geometry c.self.invariant.board c.WORD.result c.barred.inside.word c.args.barred whole
    (word-fits g.B.Board.geometry c.barred.invariant.board c.barred.inside.word c.barred.invariant.only)
    c.barred.view_is)
    c.self.inside.word c.self.invariant.only (OnlySquares-and_left g.B.Board.geometry c.WORD.result
    (bit_not w64 c.barred.inside.word) whole.only) t in
    let same : (v : Squares) → squares_of g.B.Board.geometry c.self.inside.word ≡ v
    → (set.contains (squares_of g.B.Board.geometry c.near_word.result) t ≡ true)
    ↔ ((n : ℕ) × (n < 8) × SlidesTo g.B.Board.geometry v c.args.barred c.args.direction n t) =
    λ v is. subst (λ u. (set.contains (squares_of g.B.Board.geometry c.near_word.result) t ≡ true)
    ↔ ((n : ℕ) × (n < 8) × SlidesTo g.B.Board.geometry u c.args.barred c.args.direction n t)) is
    (λ k. h.0 (sym e ∙ k), λ k. e ∙ h.1 k) in
    same c.args.self c.self.view_is

pub returns-clause-on_board : goal.returns-clause-on_board
returns-clause-on_board g c = λ s.
    subst (λ (v : Squares). set.contains v s ≡ true → OnBoard g.B.Board.geometry s) c.self.view_is
    (λ h. squares_of-within g.B.Board.geometry c.self.inside.word s h)
