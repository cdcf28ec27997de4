use Rattle.std.proofs.Common.{◌≡◌, take}
use Rattle.dw_games.specs.Play.{plain}
use Rattle.dw_games.proofs.reader.plain.Given as goal

abbrev pub invariant-bytes : goal.invariant-bytes
invariant-bytes l = l.plain.items ≡ plain (take l.byte-index l.text)
