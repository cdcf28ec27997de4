use Rattle.std.proofs.Common.{sym, ap, ◌∙◌, ◌∷◌}
use Rattle.dw_games.proofs.TagNameLemmas.{first_named, none_named}
use Rattle.dw_games.proofs.tags.value_named.Goals as goal

pub returns-then-is_named : goal.returns-then-is_named
returns-then-is_named c =
    let r = first_named c.args.name.now c.args.tags.now c.tags.tag-index c.tag-item.result c.tags-test.true
    c.tag-item.is c.tags.invariant (sym c.if-is_named.ensures) in
    (r.0, r.1 ∙ ap (λ l. l ∷ r.0) (sym c.as_slice.ensures.value))

pub tags-preserved : goal.tags-preserved
tags-preserved c =
    none_named c.args.name.now c.args.tags.now c.tags.tag-index c.tag-item.result c.tags-test.true c.tag-item.is
    c.tags.invariant (sym c.if-is_named.ensures)
