use Rattle.std.proofs.Common.{rules}
use Rattle.std.specs.Char.{encode_utf8}
use Rattle.dw_page.specs.Words.{stipulation}
use Rattle.dw_page.proofs.words.Language.task.Goals as goal

pub returns-in-Russian-White : goal.returns-in-Russian-White
unfolding stipulation encode_utf8
returns-in-Russian-White c = search rules

pub returns-in-Russian-Black : goal.returns-in-Russian-Black
unfolding stipulation encode_utf8
returns-in-Russian-Black c = search rules
