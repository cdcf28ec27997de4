use Rattle.std.proofs.Common.{◌≡◌, Ok, Err, Some, None, is_some, refl, sym, ◌∙◌, ap, arith, Result, OnOk}
use Rattle.std.proofs.lemmas.Result.{err_from_is_err_and}
use Rattle.dw_board.specs.FenTokens.{number_named}
use Rattle.dw_board.specs.inner.FenReader.{tokens_of, end_of, behind, left_of}
use Rattle.dw_board.specs.FenTokens.{place_of, first_named}
use Rattle.dw_board.specs.Fen.{fault, Item, AfterNumber}
use Rattle.dw_board.specs.inner.FenReading.{read_behind, listing}
use Rattle.dw_board.specs.declared.fen.fault.FenFaultKind.TheVariants.{Number}
use Rattle.dw_board.proofs.FenStageLemmas.{item_number, item_fault, item_set, length-left, length-named, same_read}
use Rattle.dw_board.proofs.fen.read.read_item.Goals as goal

on_ok_always : {A B P : Type 0} (r : Result A B) → P → OnOk r P
on_ok_always (Ok x) p = p
on_ok_always (Err e) p = tt

pub returns-in_default-clause-item : goal.returns-in_default-clause-item
returns-in_default-clause-item g c = λ second.
    let b = g.B.Board.geometry in
    let ts = tokens_of c.args.tokens.now in
    let end = end_of c.args.tokens.now in
    let king = c.take_king-is_king in
    let none : first_named (number_named b) (left_of king.result ts)
    ≡ None = ap (first_named (number_named b)) (sym king.ensures.left) ∙ (sym c.take_square.ensures.taken
    ∙ c.in_default.is) in
    let same : tokens_of c.take_square.new.self ≡ left_of king.result ts = c.take_square.ensures.left
    ∙ (ap (λ o. left_of (is_some o) (tokens_of king.new.self)) c.in_default.is ∙ king.ensures.left) in
    item_fault b end (listing c.args.side second c.args.position.now) ts king.result king.ensures.taken none
    ∙ sym (ap Err c.fault.ensures ∙ (ap (λ e. fault Number (place_of (tokens_of c.take_square.new.self) e))
    (c.take_square.ensures.end ∙ king.ensures.end)
    ∙ ap (λ s. fault Number (place_of s end)) same))

pub returns-in_err-to-clause-item : goal.returns-in_err-to-clause-item
returns-in_err-to-clause-item g c = λ second.
    let b = g.B.Board.geometry in
    let ts = tokens_of c.args.tokens.now in
    let end = end_of c.args.tokens.now in
    let list = listing c.args.side second c.args.position.now in
    let king = c.take_king-is_king in
    let item : Item = record {
      is_king = king.result;
      from = c.in-Some.from;
      place = place_of (left_of king.result ts) end;
    } in
    let p = err_from_is_err_and c.from_residual.result c.from_residual.ensures.1 in
    let named : first_named (number_named b) (left_of king.result ts)
    ≡ Some c.in-Some.from = ap (first_named (number_named b)) (sym king.ensures.left)
    ∙ (sym c.take_square.ensures.taken ∙ c.in-Some.is) in
    let rest : tokens_of c.take_square.new.self ≡ behind (left_of king.result ts) = c.take_square.ensures.left
    ∙ (ap (λ o. left_of (is_some o) (tokens_of king.new.self)) c.in-Some.is ∙ ap behind king.ensures.left) in
    rw p.1 (item_number b end list ts king.result c.in-Some.from king.ensures.taken named
    ∙ (sym (same_read b 0 (AfterNumber list item) (end_of c.take_square.new.self) end _
    (tokens_of c.take_square.new.self) (c.take_square.ensures.end ∙ king.ensures.end) rest)
    ∙ (c.in_err-to.ensures.range list item refl ∙ ap Err (sym p.2))))

pub returns-clause-item : goal.returns-clause-item
returns-clause-item g c = λ second.
    let b = g.B.Board.geometry in
    let ts = tokens_of c.args.tokens.now in
    let end = end_of c.args.tokens.now in
    let list = listing c.args.side second c.args.position.now in
    let king = c.take_king-is_king in
    let item : Item = record {
      is_king = king.result;
      from = c.in-Some.from;
      place = place_of (left_of king.result ts) end;
    } in
    let same_end : end_of c.take_square.new.self ≡ end = c.take_square.ensures.end ∙ king.ensures.end in
    let named : first_named (number_named b) (left_of king.result ts)
    ≡ Some c.in-Some.from = ap (first_named (number_named b)) (sym king.ensures.left)
    ∙ (sym c.take_square.ensures.taken ∙ c.in-Some.is) in
    let rest : tokens_of c.take_square.new.self ≡ behind (left_of king.result ts) = c.take_square.ensures.left
    ∙ (ap (λ o. left_of (is_some o) (tokens_of king.new.self)) c.in-Some.is ∙ ap behind king.ensures.left) in
    let place : c.place-place.result ≡ item.place = c.place-place.ensures
    ∙ (ap (place_of (tokens_of king.new.self)) king.ensures.end ∙ ap (λ t. place_of t end) king.ensures.left) in
    item_set b end _ list item (record { side = c.args.side; kind = c.kind_of-kind.result }) c.place-place.result
    c.in-Some.from c.in_ok-to.to (tokens_of c.read_range_end.new.tokens) c.set_squares.new.position
    c.set_squares.result
    (item_number b end list ts king.result c.in-Some.from king.ensures.taken named
    ∙ (sym (same_read b 0 (AfterNumber list item) (end_of c.take_square.new.self) end _
    (tokens_of c.take_square.new.self) same_end rest)
    ∙ (c.in_ok-to.ensures.range list item refl
    ∙ ap (λ e. read_behind b e list item c.in_ok-to.to (tokens_of c.read_range_end.new.tokens)) same_end)))
    (ap (λ k. record { side = c.args.side; kind = k }) c.kind_of-kind.ensures) place refl c.set_squares.ensures

pub returns-clause-shorter : goal.returns-clause-shorter
returns-clause-shorter g c =
    let b = g.B.Board.geometry in
    let king = c.take_king-is_king in
    let less = length-left b 0 (tokens_of c.args.tokens.now) _ king.result king.ensures.left in
    let first : first_named (number_named b) (tokens_of king.new.self)
    ≡ Some c.in-Some.from = sym c.take_square.ensures.taken ∙ c.in-Some.is in
    let gone = length-named b 0 (number_named b) c.in-Some.from (tokens_of king.new.self)
    (tokens_of c.take_square.new.self) first (c.take_square.ensures.left
    ∙ ap (λ o. left_of (is_some o) (tokens_of king.new.self)) c.in-Some.is) in
    on_ok_always c.set_squares.result (omega (arith, less, gone, c.read_range_end.ensures.not_longer))
