use Rattle.std.proofs.Common.{ℕ, rules}
use Rattle.std.proofs.lemmas.List.Sorted.{IsNonDecreasingBy-from_sort_by_key}
use Rattle.dw_moves.specs.Moves.{Move}
use Rattle.dw_solve.proofs.RankLemmas.{ranked_anyhow}
use Rattle.dw_solve.proofs.ply.Ply.fill.Goals as goal

pub returns-clause-ranked : goal.returns-clause-ranked
returns-clause-ranked g c = ranked_anyhow g.B.Board.geometry c.args.position.now c.gather.new.self.ranked.items
    c.sort_unstable_by_key.new.self.items c.in_ok-gather.ensures c.sort_unstable_by_key.ensures.permutation

pub returns-clause-order : goal.returns-clause-order
returns-clause-order g c =
    IsNonDecreasingBy-from_sort_by_key (λ (r : ℕ × Move). r.0) c.sort_unstable_by_key.new.self.items
    c.sort_unstable_by_key.ensures.sorted
    (λ a r f' called. search rules)
