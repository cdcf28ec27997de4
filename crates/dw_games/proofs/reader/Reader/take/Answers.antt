use Rattle.std.proofs.Common.{refl, inl, inr}
use Rattle.dw_games.specs.inner.Ahead.{token_value}
use Rattle.dw_games.proofs.TakenLemmas.{taken_passed, fault_unreadable}
use Rattle.dw_games.proofs.reader.Reader.take.Goals as goal

pub returns-in-Comment : goal.returns-in-Comment
returns-in-Comment g c = λ p ts h.
    taken_passed _ p ts c.args.self.now h (token_value c.args.token)
    c.in-Comment.is

pub returns-in-CutOff : goal.returns-in-CutOff
returns-in-CutOff g c = λ p ts h.
    rw c.fault.ensures (
      fault_unreadable _ p ts c.args.self.now h (token_value c.args.token)
          (elim c.in-CutOff.is [ inl e ↦ inr (inl e) | inr e ↦ inl e ]),
      refl,
    )
