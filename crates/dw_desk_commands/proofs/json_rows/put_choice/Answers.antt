use Rattle.std.proofs.Common.{◌∷◌, [], map, ap, sym, subst}
use Rattle.std.specs.Prelude.{codes}
use Rattle.std.specs.String.{string_bytes}
use Rattle.json.specs.Json.{string}
use Rattle.dw_verdict.specs.Judging.{said_by}
use Rattle.dw_verdict.specs.Verdict.{IsVerdict, dual}
use Rattle.dw_json.specs.Rows.{texts}
use Rattle.dw_desk_commands.proofs.FindLemmas.{choice_told}
use Rattle.dw_json.specs.inner.Composing.{both, then_ok}
use Rattle.dw_desk_commands.proofs.json_rows.put_choice.Goals as goal

pub dual_texts-requires-clause-dual : goal.dual_texts-requires-clause-dual
dual_texts-requires-clause-dual g c =
    let geo = g.B.Board.geometry in
    let p = c.args.position.now in
    let n = c.requires.0 in
    let said = subst (λ v. IsVerdict geo p n (said_by v)) c.in-Dual.is c.requires.1 in (
      n,
      subst (λ z. IsVerdict geo p n (dual z c.as_slice-in-Dual.result.now)) (sym c.as_slice.ensures.value)
          (subst (λ z. IsVerdict geo p n (dual c.in-Dual.at.items z)) (sym c.as_slice-in-Dual.ensures.value) said),
    )

pub returns-in_ok-put_text-in-Dual : goal.returns-in_ok-put_text-in-Dual
returns-in_ok-put_text-in-Dual g c =
    let line = c.as_str.result.now in
    let moves = map string_bytes c.as_slice-in-Dual-2.result.now in
    then_ok c.put_texts.result c.put_texts.ensures (λ more. (
      (codes "at", string line) ∷ (codes "choices", texts moves) ∷ [],
      choice_told g.B.Board.geometry c.args.position.now (said_by c.args.verdict.now) c.in-Dual.at.items
          c.in-Dual.choices.items c.as_slice.result.now c.as_slice-in-Dual.result.now
          (string_bytes c.in_ok-line-in-Dual.line) line (map string_bytes c.in_ok-line-in-Dual.moves.items) moves
          (ap said_by c.in-Dual.is) c.as_slice.ensures.value c.as_slice-in-Dual.ensures.value c.as_str.ensures.value
          (ap (map string_bytes) c.as_slice-in-Dual-2.ensures.value) c.in_ok-line-in-Dual.ensures,
      both ((codes "at", string line) ∷ []) ((codes "choices", texts moves) ∷ []) c.args.row.now c.put_text.new.row
          c.put_texts.new.row c.in_ok-put_text-in-Dual.ensures more,
    ))
