use Rattle.std.proofs.Common.{◌≡◌, ◌++◌, ◌∙◌, ℕ, List, IfOk, ap, map, subst, sym}
use Rattle.std.specs.Prelude.{codes}
use Rattle.std.specs.List.{join_by}
use Rattle.std.specs.String.{string_bytes}
use Rattle.dw_desk_commands.specs.Page.{IsVerdictRow, shorter}
use Rattle.dw_page.specs.Words.{phrase}
use Rattle.dw_page.specs.declared.words.Phrase.TheVariants as phrases
use Rattle.dw_verdict.specs.Judging.{said_by}
use Rattle.dw_verdict.specs.Verdict.{IsVerdict, Verdict, cooked, dual, sound}
use Rattle.dw_report.specs.inner.JoinedLemmas.{join_texts}
use Rattle.std.proofs.lemmas.Result.{IfOk-weaker}
use Rattle.dw_desk_commands.proofs.page_rows.verdict_row.Goals as goal

pub returns-in-Sound : goal.returns-in-Sound
returns-in-Sound g c =
    let geo = g.B.Board.geometry in
    let p = c.args.position.now in
    let language = c.args.language in
    let n = c.args.moves in
    let keys = map string_bytes c.in_ok-keys.keys.items in
    let is = c.as_str-listed.ensures.value
    ∙ (c.in_ok-joined.ensures.ok ∙ (ap (join_by string_bytes (codes ", ")) c.as_slice.ensures.value
    ∙ join_texts string_bytes (codes ", ") c.in_ok-keys.keys.items)) in
    subst (λ v. IfOk c.sound_row.result (λ row. IsVerdictRow geo language p n (said_by v) (string_bytes row)))
    (sym c.in-Sound.is)
    (IfOk-weaker c.sound_row.result
    (λ row. string_bytes row ≡ phrase language phrases.Sound ++ (codes ": " ++ c.as_str-listed.result.now))
    (λ row. IsVerdictRow geo language p n (sound c.in-Sound.key) (string_bytes row))
    (λ row e. (
      keys,
      c.in_ok-keys.ensures n c.requires,
      e ∙ ap (λ k. phrase language phrases.Sound ++ (codes ": " ++ k)) is,
    ))
    c.sound_row.ensures)

pub returns-in-Cooked : goal.returns-in-Cooked
returns-in-Cooked g c =
    let geo = g.B.Board.geometry in
    let p = c.args.position.now in
    let language = c.args.language in
    let n = c.args.moves in
    let keys = map string_bytes c.in_ok-keys.keys.items in
    let is = c.as_str-listed.ensures.value
    ∙ (c.in_ok-joined.ensures.ok ∙ (ap (join_by string_bytes (codes ", ")) c.as_slice.ensures.value
    ∙ join_texts string_bytes (codes ", ") c.in_ok-keys.keys.items)) in
    let short = c.in-Cooked.shortest in
    let row_of = λ (k : List ℕ). phrase language phrases.Cooked ++ (codes ": " ++ (k ++ shorter language n short)) in
    subst (λ v. IfOk c.cooked_row.result (λ row. IsVerdictRow geo language p n (said_by v) (string_bytes row)))
    (sym c.in-Cooked.is)
    (IfOk-weaker c.cooked_row.result (λ row. string_bytes row ≡ row_of c.as_str-listed.result.now)
    (λ row. IsVerdictRow geo language p n (cooked short c.in-Cooked.keys.items) (string_bytes row))
    (λ row e. (keys, c.in_ok-keys.ensures n c.requires, e ∙ ap row_of is)) c.cooked_row.ensures)

pub dual_row-requires-clause-dual : goal.dual_row-requires-clause-dual
dual_row-requires-clause-dual g c =
    let geo = g.B.Board.geometry in
    let p = c.args.position.now in
    let language = c.args.language in
    let n = c.args.moves in
    let said = subst (λ v. IsVerdict geo p n (said_by v)) c.in-Dual.is c.requires in (
      n,
      subst (λ z. IsVerdict geo p n (dual z c.as_slice-in-Dual-2.result.now)) (sym c.as_slice-in-Dual.ensures.value)
          (subst (λ z. IsVerdict geo p n (dual c.in-Dual.at.items z)) (sym c.as_slice-in-Dual-2.ensures.value) said),
    )

pub returns : goal.returns
returns g c =
    let geo = g.B.Board.geometry in
    let p = c.args.position.now in
    let language = c.args.language in
    let n = c.args.moves in
    let Row = λ (v : Verdict). IfOk c.dual_row.result (λ row. IsVerdictRow geo language p n v (string_bytes row)) in
    subst (λ v. Row (said_by v)) (sym c.in-Dual.is)
    (subst (λ z. Row (dual c.in-Dual.at.items z)) c.as_slice-in-Dual-2.ensures.value
    (subst (λ z. Row (dual z c.as_slice-in-Dual-2.result.now)) c.as_slice-in-Dual.ensures.value (c.dual_row.ensures n)))
