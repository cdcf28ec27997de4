use Rattle.std.proofs.Common.{rules}
use Rattle.std.specs.Char.{encode_utf8}
use Rattle.dw_page.specs.Words.{french}
use Rattle.dw_page.proofs.words.french.Goals as goal

pub returns-in-Cooked : goal.returns-in-Cooked
unfolding french encode_utf8
returns-in-Cooked c = search rules

pub returns-in-Refused : goal.returns-in-Refused
unfolding french encode_utf8
returns-in-Refused c = search rules
