use Rattle.std.proofs.Common.{◌≡◌, true, false, ◌||◌, sym, ◌∙◌, refl, ap}
use Rattle.dw_board.specs.FenTokens.{is_sign}
use Rattle.dw_board.specs.inner.FenReader.{left_of, tokens_of}
use Rattle.dw_board.specs.FenTokens.{first_is}
use Rattle.dw_board.proofs.FenTokenLemmas.{first_named_side}
use Rattle.dw_board.proofs.fen.tokens.Tokens.take_side.Goals as goal

pub returns-then-take_letter-clause-taken : goal.returns-then-take_letter-clause-taken
returns-then-take_letter-clause-taken c =
    let ts = tokens_of c.args.self.now in
    let white : (first_is (is_sign 87) ts || first_is (is_sign 119) ts) ≡ true = sym c.take_letter.ensures.taken
    ∙ c.if-take_letter.true in
    sym (first_named_side ts ∙ rw white refl)

pub returns-then-take_letter-2-clause-taken : goal.returns-then-take_letter-2-clause-taken
returns-then-take_letter-2-clause-taken c =
    let ts = tokens_of c.args.self.now in
    let white : (first_is (is_sign 87) ts || first_is (is_sign 119) ts) ≡ false = sym c.take_letter.ensures.taken
    ∙ c.if-take_letter.false in
    let same = c.take_letter.ensures.left ∙ ap (λ b. left_of b ts) c.if-take_letter.false in
    let black : (first_is (is_sign 66) ts || first_is (is_sign 98) ts) ≡ true =
    ap (λ s. first_is (is_sign 66) s || first_is (is_sign 98) s) (sym same) ∙ sym c.take_letter-2.ensures.taken
    ∙ c.if-take_letter-2.true in
    sym (first_named_side ts ∙ rw (white, black) refl)

pub returns-clause-taken : goal.returns-clause-taken
returns-clause-taken c =
    let ts = tokens_of c.args.self.now in
    let white : (first_is (is_sign 87) ts || first_is (is_sign 119) ts) ≡ false = sym c.take_letter.ensures.taken
    ∙ c.if-take_letter.false in
    let same = c.take_letter.ensures.left ∙ ap (λ b. left_of b ts) c.if-take_letter.false in
    let black : (first_is (is_sign 66) ts || first_is (is_sign 98) ts) ≡ false =
    ap (λ s. first_is (is_sign 66) s || first_is (is_sign 98) s) (sym same) ∙ sym c.take_letter-2.ensures.taken
    ∙ c.if-take_letter-2.false in
    sym (first_named_side ts ∙ rw (white, black) refl)
