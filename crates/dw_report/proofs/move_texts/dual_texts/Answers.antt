use Rattle.dw_report.proofs.VerdictTextLemmas.{dual_playable, choices_legal}
use Rattle.dw_report.proofs.move_texts.dual_texts.Goals as goal

pub line_text-requires-clause-legal : goal.line_text-requires-clause-legal
line_text-requires-clause-legal g c = dual_playable g.B.Board.geometry c.args.position.now c.requires.dual.0
    c.args.at.now c.args.choices.now c.requires.dual.1

pub reached-requires : goal.reached-requires
reached-requires g c = dual_playable g.B.Board.geometry c.args.position.now c.requires.dual.0 c.args.at.now
    c.args.choices.now c.requires.dual.1

pub each_move_text-requires : goal.each_move_text-requires
each_move_text-requires g c = choices_legal g.B.Board.geometry c.args.position.now c.reached.result c.requires.dual.0
    c.args.at.now c.args.choices.now c.reached.ensures c.requires.dual.1
