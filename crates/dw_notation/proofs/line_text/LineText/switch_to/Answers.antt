use Rattle.std.proofs.Common.{◌≡◌, ℕ, ◌+◌, ◌-◌, ◌∙◌, rules, sym, ap, refl, length, subst, take, drop, append-nil, arith}
use Rattle.dw_notation.specs.Text.{ArePlayable}
use Rattle.dw_notation.specs.inner.WrittenMoves.{after_moves}
use Rattle.dw_notation.proofs.LineWrittenLemmas.{next_legal, moves_more, playable_from, rest_is, played_short}
use Rattle.dw_notation.proofs.LineWrittenLemmas.{after_push, begins_line}
use Rattle.dw_notation.proofs.line_text.LineText.switch_to.Goals as goal

pub moves-init : goal.moves-init
moves-init g c =
    let geo = g.B.Board.geometry in
    let t = c.keep.new.self in
    let line = c.args.line.now in
    let shared = c.shared-shared.result in
    let legal = subst (λ z. ArePlayable geo z line) (sym c.keep.ensures.start) c.requires.legal in
    record {
      start = refl;
      taken = sym (append-nil t.moves);
      playable = subst (ArePlayable geo (after_moves geo t.start t.moves)) (sym (rest_is line shared))
          (playable_from geo t.start t.moves line shared (c.keep.ensures.moves ∙ sym c.shared-shared.ensures.same)
          legal);
    }

pub moves-preserved : goal.moves-preserved
moves-preserved g c =
    let geo = g.B.Board.geometry in
    let rest = take (length c.args.line.now - c.shared-shared.result) (drop c.shared-shared.result c.args.line.now) in
    let i = c.moves.mv-index in
    let m = c.mv-item.result in
    let t = c.moves.self in
    let new = c.push.new.self in
    let next = next_legal geo (after_moves geo t.start t.moves) rest i m c.moves.invariant.playable c.moves-test.true
    c.mv-item.is in
    let after : after_moves geo new.start new.moves ≡ _ = ap (λ z. after_moves geo z new.moves) c.push.ensures.start
    ∙ (ap (after_moves geo t.start) c.in_ok-push.ensures.moves ∙ after_push geo t.start t.moves m) in
    record {
      start = c.push.ensures.start ∙ c.moves.invariant.start;
      taken = moves_more c.keep.new.self.moves rest t.moves new.moves i m c.moves-test.true c.mv-item.is
          c.moves.invariant.taken c.in_ok-push.ensures.moves;
      playable = subst (λ z. ArePlayable geo z (drop (i + 1) rest)) (sym after) next.1;
    }

pub push-requires : goal.push-requires
push-requires g c =
    let geo = g.B.Board.geometry in
    let line = c.args.line.now in
    let shared = c.shared-shared.result in
    let rest = take (length line - shared) (drop shared line) in
    let t = c.moves.self in
    let next = next_legal geo (after_moves geo t.start t.moves) rest c.moves.mv-index c.mv-item.result
    c.moves.invariant.playable c.moves-test.true c.mv-item.is in
    let short = played_short line c.keep.new.self.moves t.moves shared c.moves.mv-index c.shared-shared.ensures.fits
    (c.keep.ensures.moves ∙ sym c.shared-shared.ensures.same) c.moves.invariant.taken c.moves-test.true in
    (omega arith, (omega (arith, short, c.requires.few), next.0))

pub returns-in_err-push-clause-begun : goal.returns-in_err-push-clause-begun
returns-in_err-push-clause-begun g c =
    let line = c.args.line.now in
    let shared = c.shared-shared.result in
    let same = begins_line line c.keep.new.self.moves c.moves.self.moves shared c.moves.mv-index
    (c.keep.ensures.moves ∙ sym c.shared-shared.ensures.same) c.moves.invariant.taken in
    let begun : (k : ℕ) × (c.push.new.self.moves ≡ take k line) = (
      shared + c.moves.mv-index,
      ap (λ t. t.moves) c.in_err-push.ensures.same ∙ same,
    ) in
    search rules
