use Rattle.std.proofs.Common.{◌+◌, map, take, subst, sym}
use Rattle.std.specs.String.{string_bytes}
use Rattle.dw_report.specs.MoveTexts.{AreTryTexts}
use Rattle.dw_report.proofs.TryTextLemmas.{try_among}
use Rattle.dw_report.proofs.MoveTextLemmas.{tried_next}
use Rattle.dw_report.proofs.move_texts.try_texts.Goals as goal

pub try_words-requires-clause-step : goal.try_words-requires-clause-step
try_words-requires-clause-step g c = (try_among g.B.Board.geometry c.args.position.now c.requires.0 c.args.tries.now
    c.tries.tried-index c.tried-item.result c.requires.1 c.tries-test.true c.tried-item.is).0

pub try_words-requires-clause-reply : goal.try_words-requires-clause-reply
try_words-requires-clause-reply g c = (try_among g.B.Board.geometry c.args.position.now c.requires.0 c.args.tries.now
    c.tries.tried-index c.tried-item.result c.requires.1 c.tries-test.true c.tried-item.is).2.refutes.0

pub tries-preserved : goal.tries-preserved
tries-preserved g c =
    let geo = g.B.Board.geometry in
    let p = c.args.position.now in
    let tries = c.args.tries.now in
    let i = c.tries.tried-index in
    subst (λ z. AreTryTexts geo p (take (i + 1) tries) (map (λ t. (string_bytes t.0, string_bytes t.1)) z))
    (sym c.in_ok-push.ensures.items) (tried_next string_bytes geo p tries i c.tried-item.result c.tries.texts.items
    c.in_ok-try_words.field-0 c.tries.invariant c.tries-test.true c.tried-item.is c.in_ok-try_words.ensures)
