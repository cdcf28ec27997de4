use Rattle.dw_page.proofs.EscapingLemmas.{escaped_plain, escaped_read}
use Rattle.dw_page.proofs.laws.texts_are_escaped.Goals as goal

pub returns : goal.returns
returns c = λ text. (escaped_plain text, escaped_read text)
