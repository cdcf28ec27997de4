use Rattle.std.proofs.Common.{◌≡◌, ◌+◌, length, drop, length-drop, arith, sym, ◌∙◌}
use Rattle.dw_board.proofs.FenTokenLemmas.{is_empty-here, same_test}
use Rattle.dw_board.proofs.fen.tokens.Tokens.is_at_end.Goals as goal

pub returns : goal.returns
returns c =
    let at = c.args.self.now.at in
    let text = c.args.self.now.text.now in
    let rest = length-drop at text in
    let inside = c.args.self.now.inside in
    same_test at (length text) (length (drop at text)) 0 (λ (e : at ≡ length text). omega arith)
    (λ (e : length (drop at text) ≡ 0). omega arith) ∙ sym (is_empty-here (at + 1) _ c.args.self.now.at_token)
