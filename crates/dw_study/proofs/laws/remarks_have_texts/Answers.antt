use Rattle.dw_study.proofs.ToldLemmas.{remarks_told}
use Rattle.dw_study.proofs.laws.remarks_have_texts.Goals as goal

pub returns : goal.returns
returns c = remarks_told
