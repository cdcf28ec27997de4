use Rattle.std.proofs.Common.{◌≡◌, take, flat_map}
use Rattle.std.specs.Prelude.{encode_utf8}
use Rattle.std.specs.String.{string_bytes}
use Rattle.dw_page.proofs.escape.latin.Given as goal

abbrev pub invariant-bytes : goal.invariant-bytes
invariant-bytes l = string_bytes l.text ≡ flat_map encode_utf8 (take l.byte-index l.bytes)
