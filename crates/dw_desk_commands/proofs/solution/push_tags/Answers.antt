use Rattle.std.proofs.Common.{◌∙◌, ◌++◌, map, refl, subst, ap}
use Rattle.std.specs.List.{flat_map}
use Rattle.dw_notation.specs.Streams.{Appends}
use Rattle.dw_notation.specs.inner.StreamLemmas.{Appends-trans}
use Rattle.dw_games.specs.TagRows.{tag_text}
use Rattle.dw_desk_commands.specs.Solution.{new_lines, own_line}
use Rattle.dw_desk_commands.proofs.ProblemLemmas.{done_so}
use Rattle.dw_desk_commands.proofs.solution.push_tags.Goals as goal

pub returns : goal.returns
returns g c =
    let start = c.args.text.now.items in
    let middle = c.push_own_tags.new.text.items in
    let end = c.push.new.text.items in
    let tags = map tag_text c.in_ok-tags.tags.items in
    let own = flat_map own_line tags in
    let anew = new_lines g.B.Board.geometry c.args.position.now in
    done_so (Appends middle end c.as_bytes.result.now) _ c.push.result (λ wrote. (
      own ++ anew,
      (tags, c.in_ok-tags.ensures, refl),
      Appends-trans start middle end own anew
          (subst (Appends start middle) (ap (λ z. flat_map own_line (map tag_text z)) c.as_slice.ensures.value)
          c.in_ok-push_own_tags.ensures)
          (subst (Appends middle end)
          (c.as_bytes.ensures.value ∙ (c.as_str.ensures.value ∙ c.in_ok-new_tags.ensures)) wrote),
    )) c.push.ensures
