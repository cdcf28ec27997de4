use Rattle.std.proofs.Common.{◌≡◌, ◌∙◌, [], map, not, sym, ap, subst}
use Rattle.std.specs.Prelude.{MatchBool}
use Rattle.dw_notation.specs.Problems.{numbered}
use Rattle.dw_study.specs.Telling.{remark_in}
use Rattle.dw_desk_commands.specs.Check.{IsCheckedLine, IsCheckedText, holds}
use Rattle.dw_desk_commands.proofs.check.solution_text.Goals as goal

pub checked_text-requires-clause-tally : goal.checked_text-requires-clause-tally
checked_text-requires-clause-tally g c = λ said is.
    c.tally_of-tally.ensures c.args.solution.now.tree.now.paths said
    (ap (map (remark_in c.args.solution.now.tree.now.paths)) c.as_slice.ensures.value ∙ is)

pub returns-then-is_left_out : goal.returns-then-is_left_out
returns-then-is_left_out g c =
    let geo = g.B.Board.geometry in
    let s = c.args.solution.now in
    let query = c.args.query.now in
    let said = c.requires.compared.remarks in
    let made = c.new.result.items in (
      said.0,
      said.2,
      (
        ap not (c.holds.ensures ∙ ap holds (c.tally_of-tally.ensures s.tree.now.paths said.0
            (ap (map (remark_in s.tree.now.paths)) c.as_slice.ensures.value ∙ said.1))),
        subst (λ z. MatchBool z (made ≡ []) (MatchBool query.json
            (IsCheckedLine geo s.problem.now.number s.tree.now.start s.n said.0 made)
            (IsCheckedText geo (numbered s.problem.now) s.tree.now.start s.n said.0 made)))
            (sym c.if-is_left_out.true ∙ c.is_left_out.ensures said.0 said.1) c.new.ensures.items,
      ),
    )

pub returns : goal.returns
returns g c =
    let geo = g.B.Board.geometry in
    let s = c.args.solution.now in
    let query = c.args.query.now in
    let said = c.requires.compared.remarks in
    let made = c.in_ok-text.text.items in (
      said.0,
      said.2,
      (
        ap not (c.holds-2.ensures ∙ ap holds (c.tally_of-tally.ensures s.tree.now.paths said.0
            (ap (map (remark_in s.tree.now.paths)) c.as_slice.ensures.value ∙ said.1))),
        subst (λ z. MatchBool z (made ≡ []) (MatchBool query.json
            (IsCheckedLine geo s.problem.now.number s.tree.now.start s.n said.0 made)
            (IsCheckedText geo (numbered s.problem.now) s.tree.now.start s.n said.0 made)))
            (sym c.if-is_left_out.false ∙ c.is_left_out.ensures said.0 said.1)
            (c.in_ok-text.ensures said.0 said.1 said.2),
      ),
    )
