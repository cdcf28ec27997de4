use Rattle.std.proofs.Common.{false, refl, subst, sym}
use Rattle.std.specs.String.{string_bytes}
use Rattle.dw_first_moves.specs.FirstMovesText.{IsFirstMovesText}
use Rattle.dw_desk_commands.specs.Moves.{SaysFirstMoves}
use Rattle.dw_desk_commands.specs.ProblemText.{IsFurther}
use Rattle.dw_desk_commands.proofs.moves.words_of.Goals as goal

pub returns-clause-text : goal.returns-clause-text
returns-clause-text g c =
    let geo = g.B.Board.geometry in
    let query = c.args.query.now in
    let found = c.in_ok-found.found in
    let text = string_bytes c.in_ok-first_moves_text.field-0 in
    record {
      further = text;
      follows = subst (λ z. IsFurther (SaysFirstMoves geo query.n.value query.part query.parts) z false text)
          (sym c.in-Ok.is) (
            found.effects,
            c.in_ok-found.ensures.effects,
            subst (λ z. IsFirstMovesText geo z found.effects text) c.in_ok-found.ensures.start
                c.in_ok-first_moves_text.ensures,
            refl,
          );
      is = refl;
    }
