use Rattle.std.proofs.Common.{rules}
use Rattle.std.specs.Char.{encode_utf8}
use Rattle.dw_page.specs.Words.{russian_moves}
use Rattle.dw_page.proofs.words.Language.moves.Goals as goal

pub returns-in-Russian-eq1 : goal.returns-in-Russian-eq1
unfolding russian_moves encode_utf8
returns-in-Russian-eq1 c = search rules

pub returns-in-Russian-2-to-4 : goal.returns-in-Russian-2-to-4
unfolding russian_moves encode_utf8
returns-in-Russian-2-to-4 c = search rules

pub returns-in-Russian-default : goal.returns-in-Russian-default
unfolding russian_moves encode_utf8
returns-in-Russian-default c = search rules
