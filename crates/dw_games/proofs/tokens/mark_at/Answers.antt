use Rattle.std.proofs.Common.{arith, sym, subst, ◌∙◌, take, drop}
use Rattle.dw_games.specs.Tokens.{IsToken}
use Rattle.dw_games.specs.declared.tokens.TokenKind.TheVariants.{Passed}
use Rattle.dw_games.proofs.TokenLemmas.{mark_row_token, lone_cross_token, letter_token, no_mark, none_marked}
use Rattle.dw_games.proofs.tokens.mark_at.Goals as goal

pub returns-then-row-gt0-clause-mark : goal.returns-then-row-gt0-clause-mark
returns-then-row-gt0-clause-mark c = λ some fresh.
    mark_row_token fresh c.args.text.now c.row_of-row.result some c.row_of-row.ensures.within c.row_of-row.ensures.row

pub returns-then-is_lone_cross-clause-mark : goal.returns-then-is_lone_cross-clause-mark
returns-then-is_lone_cross-clause-mark c = λ some fresh.
    subst (λ n. IsToken fresh Passed (take n c.args.text.now) (drop n c.args.text.now)) (sym c.width.ensures)
    (lone_cross_token fresh c.args.text.now (sym c.is_lone_cross.ensures ∙ c.if-is_lone_cross.true)).1

pub returns-then-has_plus-clause-mark : goal.returns-then-has_plus-clause-mark
returns-then-has_plus-clause-mark c = λ some fresh.
    (letter_token fresh c.args.text.now (sym c.has_plus.ensures ∙ c.if-has_plus.true)).1

pub returns-else-has_plus-clause-none : goal.returns-else-has_plus-clause-none
returns-else-has_plus-clause-none c = λ _.
    no_mark c.args.text.now (none_marked c.args.text.now c.row_of-row.result (omega (arith, c.if-row-gt0.false))
    c.row_of-row.ensures.row) (sym c.is_lone_cross.ensures ∙ c.if-is_lone_cross.false)
    (sym c.has_plus.ensures ∙ c.if-has_plus.false)
