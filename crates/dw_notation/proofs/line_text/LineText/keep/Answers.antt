use Rattle.std.proofs.Common.{◌∙◌, ap, sym, refl, subst, map, take, arith, []}
use Rattle.std.specs.String.Boundary.{IsSplitPoint}
use Rattle.std.proofs.lemmas.List.{take-map}
use Rattle.dw_notation.specs.LineTexts.{LineFrom}
use Rattle.dw_notation.specs.inner.WrittenMoves.{AreWritten, len_to}
use Rattle.dw_notation.proofs.LineWrittenLemmas.{written_keep, written_split}
use Rattle.dw_notation.proofs.line_text.LineText.keep.Goals as goal

pub truncate-requires-2 : goal.truncate-requires-2
truncate-requires-2 g c =
    let t = c.self.inside in
    let len = c.len_to-len.ensures ∙ ap (len_to 0 c.args.moves) c.as_slice.ensures.value in (
      omega arith,
      λ low. subst (IsSplitPoint t.text.bytes) (sym len)
          (written_split g.B.Board.geometry t.start 0 0 c.args.moves [] t.plies.items t.text.bytes refl (λ some. some)
          c.self.invariant),
    )

pub invariant_of-self : goal.invariant_of-self
invariant_of-self g c =
    let geo = g.B.Board.geometry in
    let t = c.self.inside in
    let len = c.len_to-len.ensures ∙ ap (len_to 0 c.args.moves) c.as_slice.ensures.value in
    let bytes = c.truncate-2.ensures ∙ ap (λ k. take k t.text.bytes) len in
    subst (λ z. AreWritten geo t.start 0 [] z c.truncate-2.new.self.bytes) (sym c.truncate.ensures.items)
    (subst (λ z. AreWritten geo t.start 0 [] (take c.args.moves t.plies.items) z) (sym bytes)
    (written_keep geo t.start 0 0 c.args.moves [] t.plies.items t.text.bytes refl c.self.invariant))

pub returns-clause-moves : goal.returns-clause-moves
returns-clause-moves g c = ap (map (λ x. x.mv)) c.truncate.ensures.items
    ∙ (sym (take-map (λ x. x.mv) c.args.moves c.self.inside.plies.items)
    ∙ ap (λ (v : LineFrom). take c.args.moves v.moves) c.self.view_is)
