use Rattle.std.proofs.Common.{ap, sym, subst}
use Rattle.std.specs.Prelude.{MatchBool}
use Rattle.std.specs.String.{string_bytes}
use Rattle.dw_notation.specs.Problems.{numbered}
use Rattle.dw_desk_commands.specs.Check.{IsCheckedLine, IsCheckedText}
use Rattle.dw_desk_commands.proofs.ProblemLemmas.{ok_so}
use Rattle.dw_desk_commands.proofs.check.checked_text.Goals as goal

pub returns-in_ok-row_of : goal.returns-in_ok-row_of
returns-in_ok-row_of g c = λ said is are.
    let geo = g.B.Board.geometry in
    let s = c.args.solution.now in
    let text = string_bytes c.in_ok-row_of.field-0 in
    subst (λ t. MatchBool c.args.json (IsCheckedLine geo s.problem.now.number s.tree.now.start s.n said t)
    (IsCheckedText geo (numbered s.problem.now) s.tree.now.start s.n said t))
    (sym (ap (λ v. v.items) c.into_bytes.ensures.value))
    (subst (λ z. MatchBool z (IsCheckedLine geo s.problem.now.number s.tree.now.start s.n said text)
    (IsCheckedText geo (numbered s.problem.now) s.tree.now.start s.n said text)) (sym c.if-json.true)
    (c.in_ok-row_of.ensures said is))

pub returns-else-json : goal.returns-else-json
returns-else-json g c = λ said is are.
    let geo = g.B.Board.geometry in
    let s = c.args.solution.now in
    ok_so _ _ c.plain_text.result (λ made text.
    subst (λ z. MatchBool z (IsCheckedLine geo s.problem.now.number s.tree.now.start s.n said made.items)
    (IsCheckedText geo (numbered s.problem.now) s.tree.now.start s.n said made.items)) (sym c.if-json.false) text)
    (c.plain_text.ensures said is are)
