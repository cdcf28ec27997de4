use Rattle.std.proofs.Common.{◌++◌, ◌∙◌, ap, map, subst, sym}
use Rattle.std.specs.Prelude.{codes}
use Rattle.dw_desk_commands.specs.Page.{language_for, source, value}
use Rattle.dw_games.specs.TagRows.{AreTags, said_by, tag_text}
use Rattle.dw_page.specs.Pages.{author_of, problem, values_of}
use Rattle.dw_page.specs.declared.page.Look.{Look}
use Rattle.dw_desk_commands.proofs.PageLemmas.{said_map, source_is, value_is}
use Rattle.dw_desk_commands.proofs.page.push_tagged.Goals as goal

pub returns-clause-text : goal.returns-clause-text
returns-clause-text g c =
    let geo = g.B.Board.geometry in
    let read = c.as_slice-tags.result.now in
    let said = said_by read in
    let task = c.args.task.now in
    let query = c.args.query.now in
    let heading = c.heading_under-heading.result in
    let page = c.args.page.now.items in
    let author = c.heading_under-heading.ensures.author
    ∙ (value_is (codes "White") said c.value_named.result c.value_named.ensures
    ∙ ap (value (codes "White")) (said_map read)) in
    let values = c.heading_under-heading.ensures.source
    ∙ (source_is said c.value_named-2.result c.value_named-3.result c.value_named-4.result
    (value_is (codes "Event") said c.value_named-2.result c.value_named-2.ensures)
    (value_is (codes "Site") said c.value_named-3.result c.value_named-3.ensures)
    (value_is (codes "Date") said c.value_named-4.result c.value_named-4.ensures) ∙ ap source (said_map read)) in (
      map tag_text read,
      subst (λ z. AreTags c.args.section.now (map tag_text z)) (sym c.as_slice-tags.ensures.value) c.in_ok-tags.ensures,
      c.in_ok-push_problem.ensures
          ∙ (ap (λ (z : Look). page ++ problem geo z.language z.numbers task.number (author_of heading)
          (values_of heading) task.position.now task.moves.value) c.look_of.ensures
          ∙ (ap (λ name. page ++ problem geo (language_for query.language) query.numbers task.number name
          (values_of heading) task.position.now task.moves.value) author
          ∙ ap (λ texts. page ++ problem geo (language_for query.language) query.numbers task.number
          (value (codes "White") (map (λ t. t.tag) (map tag_text read))) texts task.position.now task.moves.value)
          values)),
    )
