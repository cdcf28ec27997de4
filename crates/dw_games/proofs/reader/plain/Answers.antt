use Rattle.std.proofs.Common.{◌∙◌, sym, add-one}
use Rattle.dw_games.proofs.LongLemmas.{plain_on, plain_same, plain_full}
use Rattle.dw_games.proofs.reader.plain.Goals as goal

pub returns-then-is_full : goal.returns-then-is_full
returns-then-is_full c =
    plain_full c.args.text.now c.bytes.byte-index c.bytes-test.true (sym c.is_leading.ensures ∙ c.if-is_leading.false)
    c.bytes.plain.items c.bytes.invariant c.if-is_full.ensures.value

pub bytes-preserved-then-is_leading : goal.bytes-preserved-then-is_leading
bytes-preserved-then-is_leading c =
    rw add-one (c.bytes.invariant
    ∙ sym (plain_same c.args.text.now c.bytes.byte-index c.bytes-test.true (sym c.is_leading.ensures
    ∙ c.if-is_leading.true)))

pub bytes-preserved : goal.bytes-preserved
bytes-preserved c =
    rw (add-one, c.push.ensures.items, c.plain_byte.ensures, c.bytes.invariant)
    (sym (plain_on c.args.text.now c.bytes.byte-index c.bytes-test.true (sym c.is_leading.ensures
    ∙ c.if-is_leading.false)))
