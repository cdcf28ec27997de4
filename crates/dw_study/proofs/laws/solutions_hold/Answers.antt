use Rattle.std.proofs.Common.{[], subst}
use Rattle.dw_study.specs.Remarks.{AreRemarks}
use Rattle.dw_study.proofs.HoldsLemmas.{holds, all_lines, none_among}
use Rattle.dw_study.proofs.ExactLemmas.{right, silent}
use Rattle.dw_study.proofs.laws.solutions_hold.Goals as goal

pub returns : goal.returns
returns c =
    let decided = c.wins_are_decided.ensures in
    let order = c.moves_in_order.ensures in
    let played = c.trees_are_played.ensures in
    record {
      lines = λ g board p text tree is n remarks are. (
        λ fair path whole. holds decided order g board p tree (played g p text tree is) n remarks are fair path whole.0
            whole.1,
        λ lines. right decided order g board p tree (played g p text tree is) is.some n remarks are lines,
      );
      all = λ g board p text tree is n remarks are. (
        λ none path. (
          λ whole. holds decided order g board p tree (played g p text tree is) n remarks are (none_among remarks none)
              path whole.0 whole.1,
          all_lines decided order g board p tree (played g p text tree is) n
              (subst (AreRemarks g tree n p []) none are) path,
        ),
        λ same. silent decided order g board p tree (played g p text tree is) is.some n remarks are
            (λ path whole. (same path).0 whole) (λ path line. (same path).1 line),
      );
    }
