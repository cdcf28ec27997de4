use Rattle.std.proofs.Common.{◌∙◌}
use Rattle.dw_list.proofs.TokenReadingLemmas.{eight_bytes}
use Rattle.dw_list.proofs.tokens.number_in.Goals as goal

pub returns : goal.returns
returns c = c.from_be_bytes.ensures ∙ eight_bytes c.args.bytes.now c.requires
