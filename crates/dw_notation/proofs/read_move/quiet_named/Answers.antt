use Rattle.std.proofs.Common.{◌≡◌, ◌∷◌, ℕ, length, sym, ◌∙◌, ap, arith, rules, None, Some}
use Rattle.dw_board.specs.FenTokens.{number_named}
use Rattle.dw_notation.specs.MoveReading.{Names, QuietMove}
use Rattle.dw_notation.proofs.MoveNameLemmas.{dash_names, dash_nowhere, dash_other, dash_alone}
use Rattle.dw_notation.proofs.read_move.quiet_named.Goals as goal

pub returns-in_default : goal.returns-in_default
returns-in_default g c = dash_nowhere g.B.Board.geometry c.args.text.now c.in_default.ensures

pub returns-in_err-sign : goal.returns-in_err-sign
returns-in_err-sign g c =
    let none : length c.in-Some.behind.now ≡ 0 = search rules in
    let nothing : (from to : ℕ) → Names g.B.Board.geometry c.args.text.now (QuietMove from to) → ⊥ =
    dash_other g.B.Board.geometry c.args.text.now c.in-Some.from c.in-Some.behind.now c.in-Some.ensures
    (λ rest e. omega (arith, ap length e)) in
    search (rules, nothing)

pub returns-then-sign-ne45 : goal.returns-then-sign-ne45
returns-then-sign-ne45 g c =
    let is : c.in-Some.behind.now ≡ c.in_ok-sign.sign.now ∷ c.in_ok-sign.rest.now = search rules in
    dash_other g.B.Board.geometry c.args.text.now c.in-Some.from c.in-Some.behind.now c.in-Some.ensures (λ rest e.
    let both : c.in_ok-sign.sign.now ∷ c.in_ok-sign.rest.now ≡ 45 ∷ rest = sym is ∙ e in
    let same : c.in_ok-sign.sign.now ≡ 45 = cc in
    c.if-sign-ne45.true same)

pub returns-in_err-square_named : goal.returns-in_err-square_named
returns-in_err-square_named g c =
    let is : c.in-Some.behind.now ≡ c.in_ok-sign.sign.now ∷ c.in_ok-sign.rest.now = search rules in
    let none : number_named g.B.Board.geometry c.in_ok-sign.rest.now ≡ None = search rules in
    let nothing : (from to : ℕ) → Names g.B.Board.geometry c.args.text.now (QuietMove from to) → ⊥ =
    dash_alone g.B.Board.geometry c.args.text.now c.in-Some.from c.in-Some.behind.now c.in_ok-sign.rest.now
    c.in-Some.ensures (is ∙ ap (λ (z : ℕ). z ∷ c.in_ok-sign.rest.now) c.if-sign-ne45.false) none in
    search (rules, nothing)

pub returns : goal.returns
returns g c =
    let is : c.in-Some.behind.now ≡ c.in_ok-sign.sign.now ∷ c.in_ok-sign.rest.now = search rules in
    let number : number_named g.B.Board.geometry c.in_ok-sign.rest.now ≡ Some c.in_ok-square_named.field-0 =
    search rules in
    let names : Names g.B.Board.geometry c.args.text.now (QuietMove c.in-Some.from c.in_ok-square_named.field-0) =
    dash_names g.B.Board.geometry c.args.text.now c.in-Some.from c.in_ok-square_named.field-0 c.in-Some.behind.now
    c.in_ok-sign.rest.now c.in-Some.ensures (is ∙ ap (λ (z : ℕ). z ∷ c.in_ok-sign.rest.now) c.if-sign-ne45.false)
    number in
    search (rules, names)
