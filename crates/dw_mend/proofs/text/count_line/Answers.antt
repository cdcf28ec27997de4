use Rattle.std.specs.String.{string_bytes}
use Rattle.dw_mend.proofs.TextLemmas.{counted, ok_so}
use Rattle.dw_mend.proofs.text.count_line.Goals as goal

pub returns : goal.returns
returns c =
    let it = c.args.mended.now in
    ok_so _ _ c.concat-2.result (λ line e. counted it.all it.sound it.undecided c.format-2.result.now
    c.format-3.result.now c.format-4.result.now (string_bytes line) c.if-mended-eq0.false c.format-2.ensures.text
    c.format-3.ensures.text c.format-4.ensures.text e) c.concat-2.ensures.ok
