use Rattle.std.proofs.Common.{◌-◌, ◌≤◌, [], ◌∷◌, get_or, sym, ap, ◌∙◌, subst, arith, inr}
use Rattle.std.specs.Prelude.{option_map}
use Rattle.dw_solve.specs.Wins.{Win}
use Rattle.dw_solve.specs.Lines.{Before}
use Rattle.dw_solve.specs.inner.QuestionLemmas.{answered, asked_then, asked_wider, asked_ok, asked_stop}
use Rattle.dw_verdict.specs.Verdict.{Keys}
use Rattle.dw_verdict.specs.inner.Judging.{LeadsToChoices, FindsLeast, parts_of}
use Rattle.dw_verdict.proofs.KeyListLemmas.{no_move, only_key}
use Rattle.dw_verdict.proofs.VerdictLemmas.{dual_found, sound_found}
use Rattle.dw_verdict.proofs.judge.with_one_key.Goals as goal

pub returns-then-branch-clause-asked : goal.returns-then-branch-clause-asked
returns-then-branch-clause-asked g c =
    let geo = g.B.Board.geometry in
    let content = g.M.Memo.content in
    let lost = g.M.Memo.dropped in
    let law = c.searches_add_up.ensures in
    let n = c.args.moves in
    let less : n - 1 ≤ n = omega arith in
    let first = asked_wider geo content lost law (n - 1) n c.args.solver.now c.wins.new.self answered less
    (asked_ok geo content lost (n - 1) c.args.solver.now c.wins.new.self _ 0 c.in_ok-wins.ensures.asked) in
    asked_then geo content lost law n c.args.solver.now c.wins.new.self c.cooked.new.solver c.cooked.result first
    c.cooked.ensures.asked

pub returns-in_err-dual-clause-asked : goal.returns-in_err-dual-clause-asked
returns-in_err-dual-clause-asked g c =
    let geo = g.B.Board.geometry in
    let content = g.M.Memo.content in
    let lost = g.M.Memo.dropped in
    let law = c.searches_add_up.ensures in
    let n = c.args.moves in
    let less : n - 1 ≤ n = omega arith in
    let first = asked_wider geo content lost law (n - 1) n c.args.solver.now c.wins.new.self answered less
    (asked_ok geo content lost (n - 1) c.args.solver.now c.wins.new.self _ 0 c.in_ok-wins.ensures.asked) in
    asked_then geo content lost law n c.args.solver.now c.wins.new.self c.first_choice.new.solver
    c.from_residual-in_err-dual.result first
    (asked_stop geo content lost n c.wins.new.self c.first_choice.new.solver c.in_err-dual.field-0.0
    c.from_residual-in_err-dual.result c.from_residual-in_err-dual.ensures.1
    c.in_err-dual.ensures.asked)

pub returns-in-Some-clause-verdict : goal.returns-in-Some-clause-verdict
returns-in-Some-clause-verdict g c =
    let geo = g.B.Board.geometry in
    let p = c.args.position.now in
    let n = c.args.moves in
    let none : Win geo p (n - 1) → ⊥ = λ w. let yes = c.in_ok-wins.ensures.answer.1 w in let not_so =
    c.if-branch.false in cc in
    let keys = only_key geo p n c.args.keys.items no_move c.requires.one.one c.requires.one.are in
    let found = subst (λ z. FindsLeast (Before geo p) (LeadsToChoices geo n p) (option_map parts_of z)) c.in-Some.is
    c.in_ok-dual.ensures.found in
    dual_found c.wins_have_lines.ensures geo p n (get_or c.args.keys.items 0 no_move)
    c.in-Some.dual.at.items c.in-Some.dual.choices.items (keys, none) found

pub returns-in-Some-clause-asked : goal.returns-in-Some-clause-asked
returns-in-Some-clause-asked g c =
    let geo = g.B.Board.geometry in
    let content = g.M.Memo.content in
    let lost = g.M.Memo.dropped in
    let law = c.searches_add_up.ensures in
    let n = c.args.moves in
    let less : n - 1 ≤ n = omega arith in
    let first = asked_wider geo content lost law (n - 1) n c.args.solver.now c.wins.new.self answered less
    (asked_ok geo content lost (n - 1) c.args.solver.now c.wins.new.self _ 0 c.in_ok-wins.ensures.asked) in
    asked_then geo content lost law n c.args.solver.now c.wins.new.self c.first_choice.new.solver _ first
    (asked_ok geo content lost n c.wins.new.self c.first_choice.new.solver _ _ c.in_ok-dual.ensures.asked)

pub returns-clause-verdict : goal.returns-clause-verdict
returns-clause-verdict g c =
    let geo = g.B.Board.geometry in
    let p = c.args.position.now in
    let n = c.args.moves in
    let none : Win geo p (n - 1) → ⊥ = λ w. let yes = c.in_ok-wins.ensures.answer.1 w in let not_so =
    c.if-branch.false in cc in
    let m = c.index-as_slice-0.result in
    let at = c.index-as_slice-0.is ∙ ap (λ z. get_or z 0 m) c.as_slice-in-None.ensures.value in
    let keys = subst (λ z. Keys geo p n (z ∷ [])) (sym at) (only_key geo p n c.args.keys.items m c.requires.one.one
    c.requires.one.are) in
    let found = subst (λ z. FindsLeast (Before geo p) (LeadsToChoices geo n p) (option_map parts_of z)) c.in-None.is
    c.in_ok-dual.ensures.found in
    sound_found geo p n m (keys, none) found

pub returns-clause-asked : goal.returns-clause-asked
returns-clause-asked g c =
    let geo = g.B.Board.geometry in
    let content = g.M.Memo.content in
    let lost = g.M.Memo.dropped in
    let law = c.searches_add_up.ensures in
    let n = c.args.moves in
    let less : n - 1 ≤ n = omega arith in
    let first = asked_wider geo content lost law (n - 1) n c.args.solver.now c.wins.new.self answered less
    (asked_ok geo content lost (n - 1) c.args.solver.now c.wins.new.self _ 0 c.in_ok-wins.ensures.asked) in
    asked_then geo content lost law n c.args.solver.now c.wins.new.self c.first_choice.new.solver _ first
    (asked_ok geo content lost n c.wins.new.self c.first_choice.new.solver _ _ c.in_ok-dual.ensures.asked)

pub cooked-requires : goal.cooked-requires
cooked-requires g c =
    let one = c.requires.one in
    let wins = c.in_ok-wins.ensures.answer.0 c.if-branch.true in
    (omega arith, (c.requires.few, record { are = one.are; some = omega (arith, one.one); more = inr wins }))

pub returns-in_err-wins-clause-asked : goal.returns-in_err-wins-clause-asked
returns-in_err-wins-clause-asked g c =
    let geo = g.B.Board.geometry in
    let content = g.M.Memo.content in
    let lost = g.M.Memo.dropped in
    let n = c.args.moves in
    let less : n - 1 ≤ n = omega arith in
    asked_wider geo content lost c.searches_add_up.ensures (n - 1) n c.args.solver.now c.wins.new.self
    c.from_residual.result less
    (asked_stop geo content lost (n - 1) c.args.solver.now c.wins.new.self c.in_err-wins.field-0.0
    c.from_residual.result c.from_residual.ensures.1
    c.in_err-wins.ensures.asked)

pub first_choice-requires : goal.first_choice-requires
first_choice-requires g c =
    let keys = subst (Keys g.B.Board.geometry c.args.position.now c.args.moves) (sym c.as_slice.ensures.value)
    c.requires.one.are in
    (omega arith, (c.requires.few, keys))

pub returns-then-branch-clause-verdict : goal.returns-then-branch-clause-verdict
returns-then-branch-clause-verdict g c = c.cooked.ensures.verdict
