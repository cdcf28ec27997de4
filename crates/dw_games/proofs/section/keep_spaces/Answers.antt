use Rattle.std.proofs.Common.{◌≡◌, ◌++◌, [], true, drop, sym, ap, subst, ◌∙◌, OnOk, rules, arith}
use Rattle.std.specs.List.{list_all}
use Rattle.dw_notation.specs.Tags.{is_space}
use Rattle.dw_games.specs.inner.Keeping.{IsKept}
use Rattle.dw_games.proofs.SectionLemmas.{spaces_on-rest, spaces_on-gap}
use Rattle.dw_games.proofs.section.keep_spaces.Goals as goal
use Rattle.dw_games.proofs.section.keep_spaces.Goals.{then-start-gt0, else-start-gt0}

pub returns : goal.returns
returns c = λ limit text is.
    let piece = c.args.piece.now in
    let start = c.spaces_at-start.result in
    let rest : c.split_at.result.1.now ≡ drop start piece = search rules in
    elim c.if-start-gt0.branch [
      | then-start-gt0 w ↦ subst (λ l. OnOk c.extend.result (IsKept limit l c.extend.new.self))
          (rest ∙ sym (spaces_on-rest text piece start w.if-start-gt0.true c.spaces_at-start.ensures.within
          c.spaces_at-start.ensures.spaces (c.spaces_at-start.ensures.before w.if-start-gt0.true)))
          (c.extend.ensures limit [] (subst (IsKept limit []) (sym w.spaces-is) (w.clear.ensures limit text is)))
      | else-start-gt0 w ↦
          let none : start ≡ 0 = omega (arith, w.if-start-gt0.false) in
          let all = subst (λ n. list_all is_space (drop n piece) ≡ true) none c.spaces_at-start.ensures.spaces in
          subst (λ l. OnOk c.extend.result (IsKept limit l c.extend.new.self))
          (ap (λ l. text ++ l) (rest ∙ ap (λ n. drop n piece) none) ∙ sym (spaces_on-gap text piece all))
          (c.extend.ensures limit text (subst (IsKept limit text) (sym w.spaces-is) is))
    ]
