use Rattle.std.proofs.Common.{◌≡◌, ◌<◌, ◌∙◌, ap, sym, get_or, length, map, arith}
use Rattle.std.proofs.lemmas.List.{take_more_same, get_or-map, length-map}
use Rattle.dw_notation.specs.LineTexts.{LineFrom}
use Rattle.dw_notation.proofs.line_text.LineText.shared.Goals as goal

pub moves-preserved : goal.moves-preserved
moves-preserved g c =
    let line = c.args.line.now in
    let moves = c.args.self.now.moves in
    let plies = c.self.inside.plies.items in
    let i = c.moves.place in
    let m = c.index-line-place.result in
    let x = c.index-plies-place.result in
    let view : map (λ x. x.mv) plies ≡ moves = ap (λ (v : LineFrom). v.moves) c.self.view_is in
    let at : x ≡ get_or plies i x = c.index-plies-place.is ∙ ap (λ z. get_or z i x) c.as_slice-plies.ensures.value in
    let low : i < length plies = omega (arith, c.if-place-plies.false, ap length c.as_slice-plies.ensures.value) in
    let within : i < length moves = omega (arith, low, ap length view, length-map plies (λ x. x.mv)) in
    let same : x.mv ≡ m = ap (λ z. z.mv) c.index-plies-place.is ∙ c.same_move.ensures.0 c.if-not-same_move.false in
    let there : get_or moves i m ≡ x.mv = ap (λ z. get_or z i m) (sym view) ∙ (get_or-map (λ x. x.mv) plies i x m low
    ∙ ap (λ z. z.mv) (sym at)) in
    take_more_same line moves i m c.moves-test.true within c.moves.invariant
    (sym c.index-line-place.is ∙ (sym same ∙ sym there))
