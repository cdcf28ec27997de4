use Rattle.std.proofs.Common.{◌≡◌, ◌∙◌, ◌++◌, inl, inr, map, refl, sym, ap, subst, Some}
use Rattle.std.proofs.lemmas.Bool.{cases_Bool, true≢false}
use Rattle.dw_notation.specs.Streams.{Appends}
use Rattle.std.specs.String.{string_bytes}
use Rattle.dw_notation.specs.inner.StreamLemmas.{Appends-trans}
use Rattle.dw_report.specs.Report.{first_line}
use Rattle.dw_notation.specs.Problems.{numbered}
use Rattle.dw_study.specs.Telling.{remark_in}
use Rattle.dw_desk_commands.specs.Check.{IsCheckedText, IsWinLine, counted, last_line}
use Rattle.dw_desk_commands.proofs.check.plain_text.Goals as goal

pub returns : goal.returns
returns g c = λ said is are.
    let geo = g.B.Board.geometry in
    let s = c.args.solution.now in
    let p = s.tree.now.start in
    let n = s.n in
    let tree = s.tree.now.paths in
    let start = c.new-text.result.items in
    let named = c.push.new.text.items in
    let first = c.push-2.new.text.items in
    let second = c.push_remarks.new.text.items in
    let third = c.push-3.new.text.items in
    let same : map (remark_in tree) c.as_slice.result.now ≡ map (λ r. Some r) said =
    ap (map (remark_in tree)) c.as_slice.ensures.value ∙ is in
    let told = c.in_ok-push_remarks.ensures said same (c.remarks_have_texts.ensures geo p tree n said are) in
    let line = string_bytes c.in_ok-win_line.field-0 in
    let win : IsWinLine geo p n line = elim (cases_Bool s.checked.now.wins) [
      | inl wins ↦ inl (c.requires.compared.wins.0 wins, c.in_ok-win_line.ensures.win wins)
      | inr none ↦ inr (
        (λ w. true≢false (sym (c.requires.compared.wins.1 w) ∙ none)),
        c.in_ok-win_line.ensures.none none,
      )
    ] in
    let last = last_line n (counted said) in
    let front = first_line geo (numbered s.problem.now) in
    let text = front ++ (line ++ (told.0 ++ last)) in
    let all = Appends-trans start named third front (line ++ (told.0 ++ last))
    (subst (Appends start named)
    (c.as_bytes.ensures.value ∙ (c.as_str.ensures.value ∙ c.problem_line.ensures)) c.in_ok-push.ensures)
    (Appends-trans named first third line (told.0 ++ last)
    (subst (Appends named first) (c.as_bytes-2.ensures.value ∙ c.as_str-2.ensures.value) c.in_ok-push-2.ensures)
    (Appends-trans first second third told.0 last told.2
    (subst (Appends second third) (c.as_bytes-3.ensures.value ∙ (c.as_str-3.ensures.value
    ∙ (c.in_ok-last_line.ensures ∙ ap (last_line n) (c.requires.tally said is)))) c.in_ok-push-3.ensures))) in
    subst (IsCheckedText geo (numbered s.problem.now) p n said)
    (sym (all.grown ∙ ap (λ z. z ++ text) c.new-text.ensures.items))
    (record { line = line; win = win; told = told.0; texts = told.1; is = refl })
