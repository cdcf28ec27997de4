-- The verdict that a value of the code means.
use Rattle.dw_verdict.specs.Verdict.{Verdict, unsolvable, cooked, dual, sound}
use Rattle.dw_verdict.specs.declared.verdict.Verdict as verdicts
use Rattle.dw_verdict.specs.declared.verdict.Verdict.TheVariants.{Unsolvable, Cooked, Dual, Sound}

-- the verdict of the definitions that a `Verdict` of the code means
abbrev pub said_by : {B : Type 0} → verdicts.Verdict B → Verdict
said_by Unsolvable = unsolvable
said_by (Cooked shortest keys) = cooked shortest keys.items
said_by (Dual at choices) = dual at.items choices.items
said_by (Sound key) = sound key
