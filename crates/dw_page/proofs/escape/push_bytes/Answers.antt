use Rattle.std.proofs.lemmas.Str.{is_utf8-from_IsUtf8}
use Rattle.dw_page.proofs.EscapingLemmas.{not_utf8}
use Rattle.dw_page.proofs.escape.push_bytes.Goals as goal

pub returns-in-Ok : goal.returns-in-Ok
returns-in-Ok c =
    rw (
      is_utf8-from_IsUtf8 c.args.bytes.now c.in-Ok.ensures.cases.1,
      ← c.in-Ok.ensures.cases.0,
      ← c.as_bytes.ensures.value,
    ) c.push_text.ensures

pub returns-in_ok-latin-in-Err : goal.returns-in_ok-latin-in-Err
returns-in_ok-latin-in-Err c =
    rw (
      not_utf8 c.args.bytes.now c.in-Err.ensures.cases.0,
      ← c.in_ok-latin-in-Err.ensures,
      ← c.as_str.ensures.value,
      ← c.as_bytes-in-Err.ensures.value,
    ) c.push_text-in-Err.ensures
