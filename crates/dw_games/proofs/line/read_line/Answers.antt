use Rattle.std.proofs.Common.{arith, ap, ◌∙◌}
use Rattle.std.proofs.lemmas.Result.{err_from_is_err_and}
use Rattle.dw_games.specs.Lines.{too_large}
use Rattle.dw_games.proofs.LineLemmas.{tree_read, tree_short, line_stopped_answer, line_odd_answer, line_with_result}
use Rattle.dw_games.proofs.LineLemmas.{line_without_result}
use Rattle.dw_games.proofs.line.read_line.Goals as goal
use Rattle.dw_games.proofs.line.read_line.Goals.{then-branch+in_ok-read_comments, else-branch}

pub returns-then-text-gt-MAX_MOVETEXT : goal.returns-then-text-gt-MAX_MOVETEXT
returns-then-text-gt-MAX_MOVETEXT g c =
    rw (c.from.ensures, c.behind.ensures) (too_large {text = c.args.text.now} (omega arith))

pub returns-in_err-reads_line : goal.returns-in_err-reads_line
returns-in_err-reads_line g c =
    let e = err_from_is_err_and c.from_residual.result c.from_residual.ensures.1 in
    rw (e.1, e.2) (line_stopped_answer _ c.args.position.now c.args.text.now (omega arith) c.new-tokens.result
    c.new-tokens.ensures.tokens c.reads_line.new.tokens c.reads_line.new.reader _
    (c.in_err-reads_line.ensures c.args.position.now c.new-reader.ensures))

pub returns-in_err-read_comments : goal.returns-in_err-read_comments
returns-in_err-read_comments g c =
    let e = err_from_is_err_and c.from_residual-in_err-read_comments.result
    c.from_residual-in_err-read_comments.ensures.1 in
    let h = rw c.if-branch.true at (c.in_ok-reads_line.ensures c.args.position.now c.new-reader.ensures) in
    let l = c.in_err-read_comments.ensures in
    rw (e.1, e.2) (line_odd_answer _ c.args.position.now c.args.text.now (omega arith) c.new-tokens.result
    c.new-tokens.ensures.tokens c.reads_line.new.reader c.reads_line.new.tokens h.0 l.0 h.1 l.1 l.2 _ h.2 h.3 h.4 l.3
    l.4 l.5)

pub odd_line-requires : goal.odd_line-requires
odd_line-requires g c = (
  omega arith,
  (
    rw c.into_tree.ensures (elim c.if-branch.branch [
      | then-branch+in_ok-read_comments w ↦
          let h = rw w.if-branch.true at (c.in_ok-reads_line.ensures c.args.position.now c.new-reader.ensures) in
          tree_short _ c.args.position.now h.0 c.reads_line.new.reader h.2
      | else-branch w ↦
          let h = rw w.if-branch.false at (c.in_ok-reads_line.ensures c.args.position.now c.new-reader.ensures) in
          tree_short _ c.args.position.now h.0 c.reads_line.new.reader h.1
    ]),
    omega arith,
  ),
)

pub returns : goal.returns
returns g c = elim c.if-branch.branch [
  | then-branch+in_ok-read_comments w ↦
      let h = rw w.if-branch.true at (c.in_ok-reads_line.ensures c.args.position.now c.new-reader.ensures) in
      let l = w.in_ok-read_comments.ensures in
      line_with_result _ c.args.position.now c.args.text.now (omega arith) c.new-tokens.result
      c.new-tokens.ensures.tokens (λ line. line.items) c.reads_line.new.reader c.reads_line.new.tokens h.0 l.0 h.1 h.2
      h.3 h.4 l.1 l.2 _ (c.odd_line-2.ensures _
      (ap (λ t. t.paths) c.into_tree.ensures ∙ tree_read _ c.args.position.now h.0 c.reads_line.new.reader h.2))
  | else-branch w ↦
      let h = rw w.if-branch.false at (c.in_ok-reads_line.ensures c.args.position.now c.new-reader.ensures) in
      line_without_result _ c.args.position.now c.args.text.now (omega arith) c.new-tokens.result
      c.new-tokens.ensures.tokens (λ line. line.items) c.reads_line.new.reader h.0 h.1 h.2 _
      (c.odd_line-2.ensures _
      (ap (λ t. t.paths) c.into_tree.ensures ∙ tree_read _ c.args.position.now h.0 c.reads_line.new.reader h.1))
]
