use Rattle.std.proofs.Common.{◌++◌, ◌+◌, ◌∙◌, [], drop, false, option_to_list, ap, sym}
use Rattle.dw_notation.specs.inner.Ahead.{found_from}
use Rattle.dw_notation.specs.inner.TextLines.{line_of, line_found}
use Rattle.dw_notation.proofs.CutLemmas.{first_feed, no_feed, found_from-at, found_from-push}
use Rattle.dw_notation.proofs.problems.fens.TextLines.cut.Goals as goal

pub returns-in-Some-clause-some : goal.returns-in-Some-clause-some
returns-in-Some-clause-some c =
    let found = first_feed c.args.bytes.now _ (sym c.line_feed_at.ensures ∙ c.in-Some.is) in
    let rest = drop (c.in-Some.place + 1) c.args.bytes.now in
    let line = c.push.new.self.line.items in (
      found.0,
      λ g at_end more. found_from-at at_end g _ _ _ line more _ found.1 found.2 c.push.ensures.line
          ∙ ap (λ f. option_to_list (line_found g (line_of f line)) ++ found_from at_end g false [] (rest ++ more))
          (sym c.push.ensures.first),
    )

pub returns-in-None-clause-none : goal.returns-in-None-clause-none
returns-in-None-clause-none c =
    let none = no_feed c.args.bytes.now (sym c.line_feed_at.ensures ∙ c.in-None.is) in
    let line = c.push-in-None.new.self.line.items in
    λ g at_end more. found_from-push at_end g _ _ _ line more none c.push-in-None.ensures.line
    ∙ ap (λ f. found_from at_end g f line more) (sym c.push-in-None.ensures.first)
