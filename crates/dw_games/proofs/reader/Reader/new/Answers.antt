use Rattle.dw_games.proofs.TakenLemmas.{read_nothing}
use Rattle.dw_games.proofs.reader.Reader.new.Goals as goal

pub returns : goal.returns
returns g c = read_nothing _ c.args.position _ c.new.ensures c.new-2.ensures c.main.ensures
