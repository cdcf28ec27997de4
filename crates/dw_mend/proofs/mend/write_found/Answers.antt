use Rattle.std.proofs.Common.{◌∙◌, subst}
use Rattle.std.specs.String.{string_bytes}
use Rattle.dw_notation.specs.Writes.{StopsShort}
use Rattle.dw_mend.proofs.SoundLemmas.{sound_legal}
use Rattle.dw_mend.specs.inner.Mending.{IsSoundnessOf}
use Rattle.dw_mend.proofs.mend.write_found.Goals as goal

pub line_of-requires : goal.line_of-requires
line_of-requires g c =
    let geo = g.B.Board.geometry in
    let p = c.args.neighbour.now.position in
    sound_legal geo p c.args.bounds.moves.value c.in-Sound.key
    (subst (λ z. IsSoundnessOf geo p c.args.bounds.moves.value z) c.in-Sound.is c.in_ok-found.ensures.found)

pub returns-in_err-write_all-clause-short : goal.returns-in_err-write_all-clause-short
returns-in_err-write_all-clause-short g c = λ e.
    let geo = g.B.Board.geometry in
    let p = c.args.neighbour.now.position in
    let taken = g.K.Sink.accepted in (
      c.in-Sound.key,
      string_bytes c.in_ok-line.line,
      subst (λ z. IsSoundnessOf geo p c.args.bounds.moves.value z) c.in-Sound.is c.in_ok-found.ensures.found,
      c.in_ok-line.ensures,
      subst (StopsShort (taken c.args.sink.now) (taken c.write_all.new.sink))
          (c.as_bytes.ensures.value ∙ c.as_str.ensures.value) c.in_err-write_all.ensures.err,
    )
