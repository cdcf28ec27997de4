use Rattle.std.proofs.Common.{refl, inl, inr}
use Rattle.dw_games.specs.inner.Ahead.{bytes_ahead, token_value}
use Rattle.dw_games.proofs.WholeLemmas.{read_more, ahead_all, comments_more}
use Rattle.dw_games.proofs.movetext.read_comments.Goals as goal

pub tokens-preserved : goal.tokens-preserved
tokens-preserved c =
    let h = c.tokens.invariant in (
      _,
      comments_more h.0 (token_value c.in-Some.token) h.1 c.in-Comment.is,
      read_more c.args.tokens.now c.tokens.tokens c.next.new.self h.0 (token_value c.in-Some.token) h.2
          c.in-Some.ensures.token,
    )

pub returns-in-CutOff : goal.returns-in-CutOff
returns-in-CutOff c =
    let h = c.tokens.invariant in (
      h.0,
      token_value c.in-Some.token,
      bytes_ahead c.next.new.self,
      h.1,
      ahead_all c.args.tokens.now c.next.new.self _ (read_more c.args.tokens.now c.tokens.tokens c.next.new.self h.0
          (token_value c.in-Some.token) h.2 c.in-Some.ensures.token),
      rw c.fault.ensures (inl (refl, c.in-CutOff.is), refl),
    )

pub returns-in_default-what : goal.returns-in_default-what
returns-in_default-what c =
    let h = c.tokens.invariant in (
      h.0,
      token_value c.in-Some.token,
      bytes_ahead c.next.new.self,
      h.1,
      ahead_all c.args.tokens.now c.next.new.self _ (read_more c.args.tokens.now c.tokens.tokens c.next.new.self h.0
          (token_value c.in-Some.token) h.2 c.in-Some.ensures.token),
      rw c.fault-in_default-what.ensures (
        inr (refl, c.in_default-what.not-Comment, c.in_default-what.not-CutOff),
        refl,
      ),
    )
