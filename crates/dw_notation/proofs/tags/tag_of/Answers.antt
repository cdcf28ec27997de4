use Rattle.std.proofs.Common.{ap, sym, ◌∙◌}
use Rattle.dw_notation.proofs.TagLoopLemmas.{name_at, name_fits, name_taken}
use Rattle.dw_notation.proofs.tags.tag_of.Goals as goal

pub split_at-requires-3 : goal.split_at-requires-3
split_at-requires-3 c =
    let blanks = c.blanks_before.ensures in
    let p = name_at c.args.text.now c.split_at.result.1.now c.split_at-2.result.1.now c.blanks_before.result
    c.requires.0 c.requires.1 c.split_at.ensures.back c.split_at-2.ensures.back blanks.all blanks.ends in
    name_fits c.split_at-2.result.1.now c.requires.0.name p.0 c.args.named p.1 c.requires.2

pub returns-clause-said : goal.returns-clause-said
returns-clause-said c = λ said is named value.
    let blanks = c.blanks_before.ensures in
    let p = name_at c.args.text.now c.split_at.result.1.now c.split_at-2.result.1.now c.blanks_before.result said is
    c.split_at.ensures.back c.split_at-2.ensures.back blanks.all blanks.ends in
    let name = c.split_at-3.ensures.front ∙ name_taken c.split_at-2.result.1.now said.name p.0 c.args.named p.1 named in
    ap (λ l. record { name = l; value = c.args.value.items }) name
    ∙ ap (λ l. record { name = said.name; value = l }) (sym value)
