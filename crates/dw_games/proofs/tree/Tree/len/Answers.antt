use Rattle.std.proofs.Common.{length, sym, ap, ◌∙◌}
use Rattle.dw_games.specs.inner.Branches.{steps_of}
use Rattle.dw_games.proofs.BranchLemmas.{steps_length}
use Rattle.dw_games.proofs.PathLemmas.{length_paths}
use Rattle.dw_games.proofs.tree.Tree.len.Goals as goal

pub returns : goal.returns
returns g c = ap length c.as_slice.ensures.value ∙ (sym (steps_length c.self.inside.branches.items)
    ∙ (sym (length_paths (steps_of c.self.inside.branches.items)) ∙ ap (λ t. length t.paths) c.self.view_is))
