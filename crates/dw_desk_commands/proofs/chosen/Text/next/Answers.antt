use Rattle.std.proofs.Common.{Ok, Some, None, sym, subst}
use Rattle.dw_games.specs.declared.games.Game.{Game}
use Rattle.dw_notation.specs.Problems.{numbered}
use Rattle.dw_notation.specs.Reading.{NextGives, source_of}
use Rattle.dw_notation.specs.inner.Readers.{reader_of}
use Rattle.dw_desk_commands.specs.declared.chosen.Text.TheVariants.{Fens, Pdn}
use Rattle.dw_desk_commands.specs.inner.Choosing.{ComesNext}
use Rattle.dw_desk_commands.proofs.ChosenLemmas.{games_go_on, lines_go_on, next_game, next_line, no_line, without_text}
use Rattle.dw_desk_commands.proofs.chosen.Text.next.Goals as goal

pub returns-in_ok-next-in-Pdn-clause-given : goal.returns-in_ok-next-in-Pdn-clause-given
returns-in_ok-next-in-Pdn-clause-given g c =
    let supply = g.S.Source.supply in
    let new = c.in_ok-next-in-Pdn in
    subst (λ z. ComesNext g.B.Board.geometry supply z (Pdn c.next.new.self) new.field-0) (sym c.in-Pdn.is)
    (next_game g.B.Board.geometry supply c.in-Pdn.games c.next.new.self new.field-0 new.ensures.given)

pub returns-in-None-clause-given : goal.returns-in-None-clause-given
returns-in-None-clause-given g c =
    let supply = g.S.Source.supply in
    let lines = c.in-Fens.problems in
    let after = c.next-in-Fens.new.self in
    let new = c.in_ok-next-in-Fens in
    let given = subst (λ z. NextGives g.B.Board.geometry (supply (source_of lines)) (supply (source_of after))
    (reader_of lines) (reader_of after) (Ok z)) c.in-None.is new.ensures.given in
    subst (λ z. ComesNext g.B.Board.geometry supply z (Fens after) None) (sym c.in-Fens.is)
    (no_line g.B.Board.geometry supply lines after given new.ensures.stays)

pub returns-in-Some-clause-given : goal.returns-in-Some-clause-given
returns-in-Some-clause-given g c =
    let supply = g.S.Source.supply in
    let game : Game g.row.B.Denot =
    record { problem = c.in-Some.problem; tags = c.new.result; movetext = c.new-in-Some.result } in
    let lines = c.in-Fens.problems in
    let after = c.next-in-Fens.new.self in
    let new = c.in_ok-next-in-Fens in
    let given = subst (λ z. NextGives g.B.Board.geometry (supply (source_of lines)) (supply (source_of after))
    (reader_of lines) (reader_of after) (Ok z)) c.in-Some.is new.ensures.given in
    subst (λ z. ComesNext g.B.Board.geometry supply z (Fens after) (Some game)) (sym c.in-Fens.is)
    (next_line g.B.Board.geometry supply lines after c.in-Some.problem game
    (without_text (numbered c.in-Some.problem) _ _ c.new.ensures.items c.new-in-Some.ensures.items) given
    new.ensures.stays)

pub returns-in_err-next-in-Pdn-clause-on : goal.returns-in_err-next-in-Pdn-clause-on
returns-in_err-next-in-Pdn-clause-on g c = (games_go_on g.B.Board.geometry g.S.Source.supply c.args.self.now
    c.in-Pdn.games
    c.next.new.self c.next.result c.in-Pdn.is c.next.ensures.given c.next.ensures.end).0

pub returns-in_err-next-in-Pdn-clause-possible : goal.returns-in_err-next-in-Pdn-clause-possible
returns-in_err-next-in-Pdn-clause-possible g c = (games_go_on g.B.Board.geometry g.S.Source.supply c.args.self.now
    c.in-Pdn.games
    c.next.new.self c.next.result c.in-Pdn.is c.next.ensures.given c.next.ensures.end).1

pub returns-in_ok-next-in-Pdn-clause-on : goal.returns-in_ok-next-in-Pdn-clause-on
returns-in_ok-next-in-Pdn-clause-on g c = (games_go_on g.B.Board.geometry g.S.Source.supply c.args.self.now
    c.in-Pdn.games
    c.next.new.self c.next.result c.in-Pdn.is c.next.ensures.given c.next.ensures.end).0

pub returns-in_ok-next-in-Pdn-clause-possible : goal.returns-in_ok-next-in-Pdn-clause-possible
returns-in_ok-next-in-Pdn-clause-possible g c = (games_go_on g.B.Board.geometry g.S.Source.supply c.args.self.now
    c.in-Pdn.games
    c.next.new.self c.next.result c.in-Pdn.is c.next.ensures.given c.next.ensures.end).1

pub returns-in_err-next-in-Fens-clause-on : goal.returns-in_err-next-in-Fens-clause-on
returns-in_err-next-in-Fens-clause-on g c = (lines_go_on g.B.Board.geometry g.S.Source.supply c.args.self.now
    c.in-Fens.problems
    c.next-in-Fens.new.self c.next-in-Fens.result c.in-Fens.is c.next-in-Fens.ensures.given
    c.next-in-Fens.ensures.stays c.next-in-Fens.ensures.end).0

pub returns-in_err-next-in-Fens-clause-possible : goal.returns-in_err-next-in-Fens-clause-possible
returns-in_err-next-in-Fens-clause-possible g c = (lines_go_on g.B.Board.geometry g.S.Source.supply c.args.self.now
    c.in-Fens.problems
    c.next-in-Fens.new.self c.next-in-Fens.result c.in-Fens.is c.next-in-Fens.ensures.given
    c.next-in-Fens.ensures.stays c.next-in-Fens.ensures.end).1

pub returns-in-None-clause-on : goal.returns-in-None-clause-on
returns-in-None-clause-on g c = (lines_go_on g.B.Board.geometry g.S.Source.supply c.args.self.now c.in-Fens.problems
    c.next-in-Fens.new.self c.next-in-Fens.result c.in-Fens.is c.next-in-Fens.ensures.given
    c.next-in-Fens.ensures.stays c.next-in-Fens.ensures.end).0

pub returns-in-None-clause-possible : goal.returns-in-None-clause-possible
returns-in-None-clause-possible g c = (lines_go_on g.B.Board.geometry g.S.Source.supply c.args.self.now
    c.in-Fens.problems
    c.next-in-Fens.new.self c.next-in-Fens.result c.in-Fens.is c.next-in-Fens.ensures.given
    c.next-in-Fens.ensures.stays c.next-in-Fens.ensures.end).1

pub returns-in-Some-clause-on : goal.returns-in-Some-clause-on
returns-in-Some-clause-on g c = (lines_go_on g.B.Board.geometry g.S.Source.supply c.args.self.now c.in-Fens.problems
    c.next-in-Fens.new.self c.next-in-Fens.result c.in-Fens.is c.next-in-Fens.ensures.given
    c.next-in-Fens.ensures.stays c.next-in-Fens.ensures.end).0

pub returns-in-Some-clause-possible : goal.returns-in-Some-clause-possible
returns-in-Some-clause-possible g c = (lines_go_on g.B.Board.geometry g.S.Source.supply c.args.self.now
    c.in-Fens.problems
    c.next-in-Fens.new.self c.next-in-Fens.result c.in-Fens.is c.next-in-Fens.ensures.given
    c.next-in-Fens.ensures.stays c.next-in-Fens.ensures.end).1
