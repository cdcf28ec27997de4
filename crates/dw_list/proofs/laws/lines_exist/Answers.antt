use Rattle.std.proofs.Common.{◌≡◌, [], List, subst, inl, refl, ◌∷◌}
use Rattle.dw_board.specs.Geometry.{Geometry}
use Rattle.dw_board.specs.Placement.{Placement}
use Rattle.dw_moves.specs.Moves.{Move}
use Rattle.dw_board.specs.Lists.{Member}
use Rattle.dw_solve.specs.Wins.{Win}
use Rattle.dw_solve.specs.Lines.{Line, Before, Lines}
use Rattle.dw_moves.specs.inner.OneListLemmas.{list_only}
use Rattle.dw_solve.specs.inner.LineOrderLemmas.{before_asym}
use Rattle.dw_solve.specs.inner.LineLemmas.{win_line, line_wins}
use Rattle.dw_list.proofs.DecidingLemmas.{ways_exist}
use Rattle.dw_list.proofs.laws.lines_exist.Goals as goal

lines_none : (g : Geometry) (p : Placement) (n : _) (ls : List (List Move)) → Lines g p n ls → (Win g p n → ⊥) → ls ≡ []
lines_none g p n [] h none = refl
lines_none g p n (l ∷ ls) h none = absurd (none (line_wins g p n l ((h.exactly l).0 (inl refl))))

pub returns : goal.returns
returns c =
    let listed = c.moves_listed.ensures in
    record {
      some = λ g board p n. ways_exist listed c.wins_are_decided.ensures c.moves_in_order.ensures g board n p;
      only = λ g p n lines others. list_only (Before g p) (Line g p n) (before_asym c.moves_have_keys.ensures g p) lines
          others;
      empty = λ g p n lines all. (
        (λ e w. let k = win_line listed g n p w in subst (Member k.0) e ((all.exactly k.0).1 k.1)),
        (λ none. lines_none g p n lines all none),
      );
    }
