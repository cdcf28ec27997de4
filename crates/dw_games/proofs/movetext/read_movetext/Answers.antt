use Rattle.std.proofs.Common.{arith, sym, ◌∙◌}
use Rattle.std.proofs.lemmas.Result.{err_from_is_err_and}
use Rattle.dw_games.specs.Faults.{too_large}
use Rattle.dw_games.proofs.TakenLemmas.{none_left}
use Rattle.dw_games.proofs.WholeLemmas.{stopped_answer, odd_answer, unclosed_answer, with_result, without_result}
use Rattle.dw_games.proofs.movetext.read_movetext.Goals as goal
use Rattle.dw_games.proofs.movetext.read_movetext.Goals.{then-branch+in_ok-read_comments, else-branch+else-is_within}

pub returns-then-text-gt-MAX_MOVETEXT : goal.returns-then-text-gt-MAX_MOVETEXT
returns-then-text-gt-MAX_MOVETEXT g c = rw c.behind.ensures (too_large {text = c.args.text.now} (omega arith))

pub returns-in_err-reads_result : goal.returns-in_err-reads_result
returns-in_err-reads_result g c =
    let e = err_from_is_err_and c.from_residual.result c.from_residual.ensures.1 in
    rw (e.1, e.2) (stopped_answer _ c.args.position.now c.args.text.now (omega arith) c.new-tokens.result
    c.new-tokens.ensures.tokens _ (c.in_err-reads_result.ensures c.args.position.now c.new-reader.ensures))

pub returns-in_err-read_comments : goal.returns-in_err-read_comments
returns-in_err-read_comments g c =
    let e = err_from_is_err_and c.from_residual-in_err-read_comments.result
    c.from_residual-in_err-read_comments.ensures.1 in
    let h = rw c.if-branch.true at (c.in_ok-reads_result.ensures c.args.position.now c.new-reader.ensures) in
    let l = c.in_err-read_comments.ensures in
    rw (e.1, e.2) (odd_answer _ c.args.position.now c.args.text.now (omega arith) c.new-tokens.result
    c.new-tokens.ensures.tokens
    c.reads_result.new.reader c.reads_result.new.tokens h.0 l.0 h.1 l.1 l.2 _ h.2 h.3 h.4 h.5 l.3 l.4 l.5)

pub returns-then-is_within : goal.returns-then-is_within
returns-then-is_within g c =
    let h = rw c.if-branch.false at (c.in_ok-reads_result.ensures c.args.position.now c.new-reader.ensures) in
    rw c.behind-then-is_within.ensures (unclosed_answer _ c.args.position.now c.args.text.now (omega arith)
    c.new-tokens.result
    c.new-tokens.ensures.tokens c.reads_result.new.reader h.0 h.1 h.2 (c.is_within.ensures.0 c.if-is_within.true))

pub returns : goal.returns
returns g c = elim c.if-branch.branch [
  | then-branch+in_ok-read_comments w ↦
      let h = rw w.if-branch.true at (c.in_ok-reads_result.ensures c.args.position.now c.new-reader.ensures) in
      let l = w.in_ok-read_comments.ensures in
      with_result _ c.args.position.now c.args.text.now (omega arith) c.new-tokens.result c.new-tokens.ensures.tokens
      c.reads_result.new.reader c.reads_result.new.tokens h.0 l.0 h.1 h.2 h.3 h.4 h.5 l.1 l.2 _ c.tree_of.ensures
  | else-branch+else-is_within w ↦
      let h = rw w.if-branch.false at (c.in_ok-reads_result.ensures c.args.position.now c.new-reader.ensures) in
      without_result _ c.args.position.now c.args.text.now (omega arith) c.new-tokens.result c.new-tokens.ensures.tokens
      c.reads_result.new.reader h.0 h.1
      (none_left _ (λ some. sym w.if-is_within.false ∙ w.is_within.ensures.1 some)) h.2 _ c.tree_of.ensures
]
