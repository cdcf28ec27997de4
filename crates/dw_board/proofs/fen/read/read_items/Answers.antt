use Rattle.std.proofs.Common.{sym, ◌∙◌, ap, arith}
use Rattle.dw_board.specs.inner.FenReader.{tokens_of, end_of, left_of}
use Rattle.dw_board.specs.Fen.{read_from, AfterComma, AfterItem}
use Rattle.dw_board.specs.inner.FenReading.{listing}
use Rattle.dw_board.proofs.FenStageLemmas.{comma_read, length-left}
use Rattle.dw_board.proofs.fen.read.read_items.Goals as goal

pub items-preserved : goal.items-preserved
items-preserved g c = record {
  same = λ second.
      let b = g.B.Board.geometry in
      let now = c.read_item.new.tokens in
      let list = listing c.args.side second c.read_item.new.position in
      let item = c.in_ok-read_item.ensures.item second in
      c.items.invariant.same second
      ∙ (ap (λ e. read_from b e (AfterComma (listing c.args.side second c.items.position)) (tokens_of c.items.tokens))
      (sym c.items.invariant.end)
      ∙ (item
      ∙ (ap (λ e. read_from b e (AfterItem list) (tokens_of now)) c.items.invariant.end
      ∙ (comma_read b (end_of c.args.tokens.now) list (tokens_of now) (sym c.take.ensures.taken ∙ c.if-not-take.false)
      ∙ ap (read_from b (end_of c.args.tokens.now) (AfterComma list))
      (sym (c.take.ensures.left ∙ ap (λ t. left_of t (tokens_of now)) c.if-not-take.false))))));
  end = c.take.ensures.end ∙ (c.in_ok-read_item.ensures.end ∙ c.items.invariant.end);
}

pub items-smaller : goal.items-smaller
items-smaller g c =
    let few = length-left g.B.Board.geometry 0 (tokens_of c.read_item.new.tokens) _ _ c.take.ensures.left in
    omega (arith, few, c.in_ok-read_item.ensures.shorter)
