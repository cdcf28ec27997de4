use Rattle.std.proofs.Common.{◌∙◌, ◌++◌, codes, ap, subst}
use Rattle.dw_notation.specs.Streams.{Appends}
use Rattle.dw_notation.specs.inner.StreamLemmas.{Appends-trans}
use Rattle.dw_desk_commands.proofs.solution.written_game.Goals as goal

pub returns : goal.returns
returns g c =
    let tags = c.in_ok-push_tags.ensures in
    let movetext = c.args.solved.now.movetext.text.items in
    let start = c.new-text.result.items in
    let first = c.push_tags.new.text.items in
    let second = c.push.new.text.items in
    let third = c.push-2.new.text.items in
    let all = Appends-trans start first third tags.0 (movetext ++ codes "\n\n") tags.2
    (Appends-trans first second third movetext (codes "\n\n")
    (subst (Appends first second) c.as_slice.ensures.value c.in_ok-push.ensures) c.in_ok-push-2.ensures) in
    (tags.0, tags.1, all.grown ∙ ap (λ z. z ++ (tags.0 ++ (movetext ++ codes "\n\n"))) c.new-text.ensures.items)
