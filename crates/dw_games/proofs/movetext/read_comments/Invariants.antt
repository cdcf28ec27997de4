use Rattle.std.proofs.Common.{List, length}
use Rattle.dw_games.specs.Tokens.{Token}
use Rattle.dw_games.specs.Printed.{AreComments}
use Rattle.dw_games.specs.inner.Ahead.{bytes_ahead}
use Rattle.dw_games.specs.inner.Reading.{ReadOn}
use Rattle.dw_games.proofs.movetext.read_comments.Given as goal

abbrev pub invariant-tokens : goal.invariant-tokens
invariant-tokens l = (cs : List Token) × AreComments cs × ReadOn l.initial.tokens cs l.tokens

abbrev pub decreases-tokens : goal.decreases-tokens
decreases-tokens l = length (bytes_ahead l.tokens)
