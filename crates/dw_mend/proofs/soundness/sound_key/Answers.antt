use Rattle.std.proofs.Common.{◌≡◌, ◌∙◌, true, false, sym}
use Rattle.dw_mend.proofs.SoundLemmas.{sound_wins, key_so}
use Rattle.dw_verdict.specs.Judging.{said_by}
use Rattle.dw_mend.proofs.soundness.sound_key.Goals as goal

pub returns-then-not-branch-clause-key : goal.returns-then-not-branch-clause-key
returns-then-not-branch-clause-key g c = λ m is.
    let wins = sound_wins g.B.Board.geometry c.args.position.now c.args.moves.value m is in
    let bad : true ≡ false = sym (c.in_ok-wins.ensures.answer.1 wins) ∙ c.if-not-branch.true in
    cc

pub returns-clause-key : goal.returns-clause-key
returns-clause-key g c =
    key_so g.B.Board.geometry g.met.B.Board.numbers c.one_verdict.ensures c.args.position.now c.args.moves.value
    (said_by c.in_ok-verdict.verdict) c.key_of.result c.in_ok-verdict.ensures.verdict c.key_of.ensures
