use Rattle.std.proofs.Common.{◌≡◌, ◌+◌, ◌-◌, ℕ, Some, List, take, drop, sym, ◌∙◌, ap, arith}
use Rattle.std.proofs.lemmas.List.{drop-drop, take_rest}
use Rattle.dw_board.specs.FenTokens.{tokens_from, number_named}
use Rattle.dw_board.proofs.FenTokenLemmas.{first_named-cut, behind-cut}
use Rattle.dw_board.proofs.fen.tokens.Tokens.take_square.Goals as goal

-- what a run from a place on has
same_run : (at digits : ℕ) (text : List ℕ) → take (at + digits - at) (drop at text) ≡ take digits (drop at text)
same_run at digits text = let e : at + digits - at ≡ digits = omega arith in ap (λ n. take n (drop at text)) e

pub returns-in_err-square-clause-taken : goal.returns-in_err-square-clause-taken
returns-in_err-square-clause-taken g c =
    let now = c.args.self.now in
    let digits = c.digits_at-digits in
    c.from_residual.ensures ∙ (sym (c.in_err-square.was) ∙ (c.square_named.ensures
    ∙ (ap (number_named g.B.Board.geometry) (same_run now.at digits.result now.text.now)
    ∙ sym (first_named-cut g.B.Board.geometry (now.at + 1) digits.result (drop now.at now.text.now)
    (rw take_rest at digits.ensures.digits) (rw take_rest at digits.ensures.all) now.at_token))))

pub returns-clause-taken : goal.returns-clause-taken
returns-clause-taken g c =
    let now = c.args.self.now in
    let digits = c.digits_at-digits in
    sym (c.in_ok-square.was) ∙ (c.square_named.ensures
    ∙ (ap (number_named g.B.Board.geometry) (same_run now.at digits.result now.text.now)
    ∙ sym (first_named-cut g.B.Board.geometry (now.at + 1) digits.result (drop now.at now.text.now)
    (rw take_rest at digits.ensures.digits) (rw take_rest at digits.ensures.all) now.at_token)))

pub returns-clause-left : goal.returns-clause-left
returns-clause-left g c =
    let now = c.args.self.now in
    let digits = c.digits_at-digits in
    let named : number_named g.B.Board.geometry (take digits.result (drop now.at now.text.now))
    ≡ Some c.in_ok-square.square =
    ap (number_named g.B.Board.geometry) (sym (same_run now.at digits.result now.text.now))
    ∙ (sym c.square_named.ensures ∙ c.in_ok-square.was) in
    let sum : now.at + 1 + digits.result ≡ now.at + digits.result + 1 = omega arith in
    c.pass.ensures.tokens
    ∙ (ap (tokens_from (now.at + digits.result + 1)) (sym (drop-drop digits.result now.at now.text.now))
    ∙ (ap (λ n. tokens_from n (drop digits.result (drop now.at now.text.now))) (sym sum)
    ∙ sym (behind-cut g.B.Board.geometry (now.at + 1) digits.result (drop now.at now.text.now)
    (rw take_rest at digits.ensures.digits) (rw take_rest at digits.ensures.all) now.at_token c.in_ok-square.square
    (rw take_rest at digits.ensures.within) named)))
