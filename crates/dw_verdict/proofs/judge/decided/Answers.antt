use Rattle.std.proofs.Common.{◌≡◌, ◌≤◌, arith, length, sym, ◌∙◌, vec_len, inl}
use Rattle.std.proofs.lemmas.Bool.{eqb-true, eqb-false}
use Rattle.dw_solve.specs.inner.QuestionLemmas.{asked_then, asked_ok, asked_stop}
use Rattle.dw_verdict.proofs.KeyListLemmas.{no_keys}
use Rattle.dw_verdict.proofs.judge.decided.Goals as goal

pub returns-then-is_empty-clause-verdict : goal.returns-then-is_empty-clause-verdict
returns-then-is_empty-clause-verdict g c =
    let none : vec_len c.in_ok-keys.keys ≡ 0 = eqb-true (vec_len c.in_ok-keys.keys) 0 (sym c.is_empty.ensures
    ∙ c.if-is_empty.true) in
    let empty : length c.in_ok-keys.keys.items ≡ 0 = omega (arith, c.in_ok-keys.keys.ok.0, none) in
    no_keys g.B.Board.geometry c.args.position.now c.args.moves c.in_ok-keys.keys.items empty c.in_ok-keys.ensures.keys

pub returns-then-len-eq1-clause-asked : goal.returns-then-len-eq1-clause-asked
returns-then-len-eq1-clause-asked g c =
    let geo = g.B.Board.geometry in
    let content = g.M.Memo.content in
    let lost = g.M.Memo.dropped in
    let law = c.searches_add_up.ensures in
    let n = c.args.moves in
    asked_then geo content lost law n _ _ _ _ (asked_ok geo content lost n _ _ _ 0 c.in_ok-keys.ensures.asked)
    c.with_one_key.ensures.asked

pub returns-else-len-eq1-clause-asked : goal.returns-else-len-eq1-clause-asked
returns-else-len-eq1-clause-asked g c =
    let geo = g.B.Board.geometry in
    let content = g.M.Memo.content in
    let lost = g.M.Memo.dropped in
    let law = c.searches_add_up.ensures in
    let n = c.args.moves in
    asked_then geo content lost law n _ _ _ _ (asked_ok geo content lost n _ _ _ 0 c.in_ok-keys.ensures.asked)
    c.cooked.ensures.asked

pub with_one_key-requires : goal.with_one_key-requires
with_one_key-requires g c =
    let keys = c.in_ok-keys.keys in
    let one : length keys.items ≡ 1 = omega (arith, keys.ok.0, c.len.ensures, c.if-len-eq1.true) in
    (omega arith, (c.requires.some, (c.requires.few, record { are = c.in_ok-keys.ensures.keys; one = one })))

pub cooked-requires : goal.cooked-requires
cooked-requires g c =
    let keys = c.in_ok-keys.keys in
    let no_zero = eqb-false keys.len 0 (sym c.is_empty.ensures ∙ c.if-is_empty.false) in
    let more : 2 ≤ length keys.items = omega (arith, keys.ok.0, c.len.ensures, no_zero, c.if-len-eq1.false) in (
      omega arith,
      (c.requires.few, record { are = c.in_ok-keys.ensures.keys; some = omega (arith, more); more = inl more }),
    )

pub returns-in_err-keys-clause-asked : goal.returns-in_err-keys-clause-asked
returns-in_err-keys-clause-asked g c = asked_stop g.B.Board.geometry g.M.Memo.content g.M.Memo.dropped c.args.moves _ _
    c.in_err-keys.field-0.0 _ c.from_residual.ensures.1 c.in_err-keys.ensures.asked

pub returns-then-is_empty-clause-asked : goal.returns-then-is_empty-clause-asked
returns-then-is_empty-clause-asked g c = asked_ok g.B.Board.geometry g.M.Memo.content g.M.Memo.dropped c.args.moves _ _
    _ _ c.in_ok-keys.ensures.asked
