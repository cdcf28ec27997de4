use Rattle.std.proofs.Common.{rules}
use Rattle.std.specs.Char.{encode_utf8}
use Rattle.dw_page.specs.Words.{russian}
use Rattle.dw_page.proofs.words.russian.Goals as goal

pub returns-in-Sound : goal.returns-in-Sound
unfolding russian encode_utf8
returns-in-Sound c = search rules

pub returns-in-Dual : goal.returns-in-Dual
unfolding russian encode_utf8
returns-in-Dual c = search rules

pub returns-in-Cooked : goal.returns-in-Cooked
unfolding russian encode_utf8
returns-in-Cooked c = search rules

pub returns-in-Shorter : goal.returns-in-Shorter
unfolding russian encode_utf8
returns-in-Shorter c = search rules

pub returns-in-NoWin : goal.returns-in-NoWin
unfolding russian encode_utf8
returns-in-NoWin c = search rules

pub returns-in-Tries : goal.returns-in-Tries
unfolding russian encode_utf8
returns-in-Tries c = search rules

pub returns-in-Solution : goal.returns-in-Solution
unfolding russian encode_utf8
returns-in-Solution c = search rules

pub returns-in-Solutions : goal.returns-in-Solutions
unfolding russian encode_utf8
returns-in-Solutions c = search rules

pub returns-in-More : goal.returns-in-More
unfolding russian encode_utf8
returns-in-More c = search rules

pub returns-in-Refused : goal.returns-in-Refused
unfolding russian encode_utf8
returns-in-Refused c = search rules
