use Rattle.std.proofs.Common.{◌++◌, ap, ◌∙◌}
use Rattle.std.specs.String.{string_bytes}
use Rattle.dw_first_moves.specs.LaterText.{later_line}
use Rattle.dw_first_moves.proofs.LaterLemmas.{line_next}
use Rattle.dw_first_moves.proofs.later_text.later_lines.Goals as goal

pub texts-preserved : goal.texts-preserved
texts-preserved c = line_next (λ pair. (string_bytes pair.0, pair.1)) c.args.texts.now c.texts.one-index
    c.one-item.result (string_bytes c.texts.lines) (string_bytes c.in_ok-line.line) (string_bytes c.push_str.new.self)
    c.texts-test.true c.one-item.is c.texts.invariant
    (c.in_ok-line.ensures ∙ ap (λ z. later_line (z, c.one-item.result.1)) c.as_str.ensures.value)
    (c.in_ok-push_str.ensures.bytes ∙ ap (λ z. string_bytes c.texts.lines ++ z) c.as_str-in-texts.ensures.value)
