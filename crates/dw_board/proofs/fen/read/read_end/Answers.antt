use Rattle.std.proofs.Common.{Err, sym, ◌∙◌, ap}
use Rattle.dw_board.specs.inner.FenReader.{tokens_of, end_of}
use Rattle.dw_board.specs.FenTokens.{place_of}
use Rattle.dw_board.specs.Fen.{fault}
use Rattle.dw_board.specs.declared.fen.fault.FenFaultKind.TheVariants.{Rest}
use Rattle.dw_board.proofs.FenStageLemmas.{ends_well, ends_badly}
use Rattle.dw_board.proofs.fen.read.read_end.Goals as goal

pub returns-then-is_at_end : goal.returns-then-is_at_end
returns-then-is_at_end g c = λ list at.
    ends_well g.B.Board.geometry (end_of c.args.tokens.now) list (tokens_of c.args.tokens.now)
    (tokens_of c.take-has_stop.new.self) c.take-has_stop.result c.args.position
    c.requires.comma c.requires.colon c.take-has_stop.ensures.taken c.take-has_stop.ensures.left
    (sym c.is_at_end.ensures ∙ c.if-is_at_end.true) at

pub returns-else-is_at_end : goal.returns-else-is_at_end
returns-else-is_at_end g c = λ list at.
    ap Err c.fault.ensures ∙ (ap (λ e. fault Rest (place_of (tokens_of c.take-has_stop.new.self) e))
    c.take-has_stop.ensures.end
    ∙ ends_badly g.B.Board.geometry (end_of c.args.tokens.now) list (tokens_of c.args.tokens.now)
    (tokens_of c.take-has_stop.new.self) c.take-has_stop.result
    c.requires.comma c.requires.colon c.take-has_stop.ensures.taken c.take-has_stop.ensures.left
    (sym c.is_at_end.ensures ∙ c.if-is_at_end.false))
