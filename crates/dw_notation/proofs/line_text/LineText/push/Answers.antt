use Rattle.std.proofs.Common.{◌≡◌, ◌≤◌, ◌+◌, ◌∙◌, ap, sym, subst, length, map, arith, [], ◌∷◌, ◌++◌}
use Rattle.std.proofs.lemmas.List.{length-map, map-append}
use Rattle.dw_moves.specs.Moves.{Legal}
use Rattle.dw_notation.specs.LineTexts.{LineFrom}
use Rattle.dw_notation.specs.inner.WrittenMoves.{AreWritten, end_from, after_moves}
use Rattle.dw_notation.proofs.LineWrittenLemmas.{written_room, written_pushed, end_is}
use Rattle.dw_notation.proofs.line_text.LineText.push.Goals as goal

pub push_move-requires-clause-legal : goal.push_move-requires-clause-legal
push_move-requires-clause-legal g c =
    let geo = g.B.Board.geometry in
    let t = c.self.inside in
    let here = c.end_of-current.ensures ∙ (ap (end_from t.start) c.as_slice.ensures.value
    ∙ (end_is geo t.start 0 [] t.plies.items t.text.bytes c.self.invariant
    ∙ ap (λ (v : LineFrom). after_moves geo v.start v.moves) c.self.view_is)) in
    subst (λ z. Legal geo z c.args.mv.now) (sym here) c.requires.legal

pub play-requires : goal.play-requires
play-requires g c =
    let geo = g.B.Board.geometry in
    let t = c.self.inside in
    let here = c.end_of-current.ensures ∙ (ap (end_from t.start) c.as_slice.ensures.value
    ∙ (end_is geo t.start 0 [] t.plies.items t.text.bytes c.self.invariant
    ∙ ap (λ (v : LineFrom). after_moves geo v.start v.moves) c.self.view_is)) in
    subst (λ z. Legal geo z c.args.mv.now) (sym here) c.requires.legal

pub push_move-requires-clause-room : goal.push_move-requires-clause-room
push_move-requires-clause-room g c =
    let t = c.self.inside in
    let count : c.len.result ≡ 0 + length t.plies.items = omega (arith, c.len.ensures.value) in
    let few : c.len.result ≤ 39 = omega (
      arith,
      c.len.ensures.value,
      c.requires.few,
      ap (λ (v : LineFrom). length v.moves) c.self.view_is,
      length-map t.plies.items (λ x. x.mv),
    ) in
    written_room g.B.Board.geometry t.start 0 c.len.result [] t.plies.items t.text.bytes c.self.invariant count few
    (omega arith)

pub push_move-requires-clause-few : goal.push_move-requires-clause-few
push_move-requires-clause-few g c =
    omega (
      arith,
      c.len.ensures.value,
      c.requires.few,
      ap (λ (v : LineFrom). length v.moves) c.self.view_is,
      length-map c.self.inside.plies.items (λ x. x.mv),
    )

pub push-requires : goal.push-requires
push-requires g c = (
  omega arith,
  omega (
    arith,
    c.requires.few,
    ap (λ (v : LineFrom). length v.moves) c.self.view_is,
    length-map c.self.inside.plies.items (λ x. x.mv),
  ),
)

pub invariant_of-self : goal.invariant_of-self
invariant_of-self g c =
    let t = c.self.inside in
    subst (λ z. AreWritten g.B.Board.geometry t.start 0 [] t.plies.items z.bytes)
    (sym c.in_err-push_move.ensures.err) c.self.invariant

pub invariant_of-self-2 : goal.invariant_of-self-2
invariant_of-self-2 g c =
    let geo = g.B.Board.geometry in
    let t = c.self.inside in
    let count : c.len.result ≡ 0 + length t.plies.items = omega (arith, c.len.ensures.value) in
    let here = c.end_of-current.ensures ∙ ap (end_from t.start) c.as_slice.ensures.value in
    let pushed = c.in_ok-push_move.ensures.ok in
    written_pushed geo t.start c.end_of-current.result c.play.result c.len.result c.len-2.result t.plies.items
    c.push.new.self.items t.text.bytes c.push_move.new.text.bytes pushed.word c.args.mv.now c.self.invariant here count
    pushed.text pushed.short c.play.ensures pushed.added c.len-2.ensures.value c.push.ensures.items

pub returns-clause-moves : goal.returns-clause-moves
returns-clause-moves g c =
    ap (map (λ x. x.mv)) c.push.ensures.items ∙ (map-append (λ x. x.mv) c.self.inside.plies.items _
    ∙ ap (λ (v : LineFrom). v.moves ++ c.args.mv.now ∷ []) c.self.view_is)
