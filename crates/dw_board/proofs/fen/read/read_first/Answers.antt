use Rattle.std.proofs.Common.{◌≡◌, false, Err, Some, None, is_some, refl, sym, ◌∙◌, ap}
use Rattle.std.proofs.lemmas.Result.{err_from_is_err_and}
use Rattle.dw_board.specs.FenTokens.{side_named, is_sign}
use Rattle.dw_board.specs.inner.FenReader.{tokens_of, end_of, behind, left_of}
use Rattle.dw_board.specs.FenTokens.{first_named, first_is}
use Rattle.dw_board.specs.Fen.{read_from, AfterColon, AfterColour, AfterItem}
use Rattle.dw_board.specs.inner.FenReading.{listing}
use Rattle.dw_board.specs.declared.fen.fault.FenFaultKind.TheVariants.{Colour}
use Rattle.dw_board.proofs.FenStageLemmas.{colour_fault, colour_read, list_colon, same_read, fault_here}
use Rattle.dw_board.proofs.fen.read.read_first.Goals as goal

pub returns-in_default : goal.returns-in_default
returns-in_default g c =
    let b = g.B.Board.geometry in
    let ts = tokens_of c.args.tokens.now in
    let end = end_of c.args.tokens.now in
    let none : first_named side_named ts ≡ None = sym c.take_side.ensures.taken ∙ c.in_default.is in
    let same : tokens_of c.take_side.new.self ≡ ts = c.take_side.ensures.left
    ∙ ap (λ o. left_of (is_some o) ts) c.in_default.is in
    sym (colour_fault b end None c.args.position ts none
    ∙ fault_here b 0 c.fault.result Colour (end_of c.take_side.new.self) end ts (tokens_of c.take_side.new.self)
    c.fault.ensures c.take_side.ensures.end same)

pub returns-in_err-read_list : goal.returns-in_err-read_list
returns-in_err-read_list g c =
    let b = g.B.Board.geometry in
    let ts = tokens_of c.args.tokens.now in
    let end = end_of c.args.tokens.now in
    let p = err_from_is_err_and c.from_residual.result c.from_residual.ensures.1 in
    let named : first_named side_named ts ≡ Some c.in-Some.first = sym c.take_side.ensures.taken ∙ c.in-Some.is in
    let rest : tokens_of c.take_side.new.self ≡ behind ts = c.take_side.ensures.left
    ∙ ap (λ o. left_of (is_some o) ts) c.in-Some.is in
    p.1 ∙ sym (colour_read b end c.args.position ts c.in-Some.first named
    ∙ (sym (same_read b 0 (AfterColour (listing c.in-Some.first false c.args.position)) (end_of c.take_side.new.self)
    end _ (tokens_of c.take_side.new.self) c.take_side.ensures.end rest)
    ∙ (c.in_err-read_list.ensures.list false ∙ ap Err (sym p.2))))

pub returns-then-take : goal.returns-then-take
returns-then-take g c =
    let b = g.B.Board.geometry in
    let ts = tokens_of c.args.tokens.now in
    let end = end_of c.args.tokens.now in
    let list = listing c.in-Some.first false c.read_list.new.position in
    let now = c.read_list.new.tokens in
    let named : first_named side_named ts ≡ Some c.in-Some.first = sym c.take_side.ensures.taken ∙ c.in-Some.is in
    let rest : tokens_of c.take_side.new.self ≡ behind ts = c.take_side.ensures.left
    ∙ ap (λ o. left_of (is_some o) ts) c.in-Some.is in
    let same_end : end_of now ≡ end = c.read_list.ensures.end ∙ c.take_side.ensures.end in
    let left : tokens_of c.take.new.self ≡ behind (tokens_of now) = c.take.ensures.left
    ∙ ap (λ t. left_of t (tokens_of now)) c.if-take.true in
    c.read_second.ensures ∙ sym (colour_read b end c.args.position ts c.in-Some.first named
    ∙ (sym (same_read b 0 (AfterColour (listing c.in-Some.first false c.args.position)) (end_of c.take_side.new.self)
    end _ (tokens_of c.take_side.new.self) c.take_side.ensures.end rest)
    ∙ (c.in_ok-read_list.ensures.list false
    ∙ (ap (λ e. read_from b e (AfterItem list) (tokens_of now)) c.take_side.ensures.end
    ∙ (list_colon b end list (tokens_of now) (sym c.take.ensures.taken ∙ c.if-take.true)
    ∙ sym (same_read b 0 (AfterColon (Some c.in-Some.first) c.read_list.new.position) (end_of c.take.new.self) end
    (behind (tokens_of now)) (tokens_of c.take.new.self) (c.take.ensures.end ∙ same_end) left))))))

pub returns : goal.returns
returns g c =
    let b = g.B.Board.geometry in
    let ts = tokens_of c.args.tokens.now in
    let end = end_of c.args.tokens.now in
    let list = listing c.in-Some.first false c.read_list.new.position in
    let now = c.read_list.new.tokens in
    let named : first_named side_named ts ≡ Some c.in-Some.first = sym c.take_side.ensures.taken ∙ c.in-Some.is in
    let rest : tokens_of c.take_side.new.self ≡ behind ts = c.take_side.ensures.left
    ∙ ap (λ o. left_of (is_some o) ts) c.in-Some.is in
    let same_end : end_of c.take.new.self ≡ end = c.take.ensures.end
    ∙ (c.read_list.ensures.end ∙ c.take_side.ensures.end) in
    let left : tokens_of c.take.new.self ≡ tokens_of now = c.take.ensures.left
    ∙ ap (λ t. left_of t (tokens_of now)) c.if-take.false in
    c.read_end.ensures list refl ∙ sym (colour_read b end c.args.position ts c.in-Some.first named
    ∙ (sym (same_read b 0 (AfterColour (listing c.in-Some.first false c.args.position)) (end_of c.take_side.new.self)
    end _ (tokens_of c.take_side.new.self) c.take_side.ensures.end rest)
    ∙ (c.in_ok-read_list.ensures.list false
    ∙ (ap (λ e. read_from b e (AfterItem list) (tokens_of now)) c.take_side.ensures.end
    ∙ sym (same_read b 0 (AfterItem list) (end_of c.take.new.self) end (tokens_of now) (tokens_of c.take.new.self)
    same_end left)))))

pub read_end-requires-clause-comma : goal.read_end-requires-clause-comma
read_end-requires-clause-comma g c =
    ap (first_is (is_sign 44)) (c.take.ensures.left ∙ ap (λ t. left_of t (tokens_of c.read_list.new.tokens))
    c.if-take.false) ∙ c.in_ok-read_list.ensures.no_comma

pub read_end-requires-clause-colon : goal.read_end-requires-clause-colon
read_end-requires-clause-colon g c =
    let left = c.take.ensures.left ∙ ap (λ t. left_of t (tokens_of c.read_list.new.tokens)) c.if-take.false in
    ap (first_is (is_sign 58)) left ∙ (sym c.take.ensures.taken ∙ c.if-take.false)
