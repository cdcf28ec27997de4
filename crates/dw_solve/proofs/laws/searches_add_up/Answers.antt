use Rattle.dw_solve.proofs.WorkLemmas.{first_kept, second_kept, searched_none, searched_then, searched_wider}
use Rattle.dw_solve.proofs.laws.searches_add_up.Goals as goal

pub returns : goal.returns
returns c = record {
  none = λ g n a. searched_none g n 0 a;
  next = searched_then;
  wider = searched_wider;
  parts = λ a b c h k kept. (first_kept a b c h k kept, second_kept a b c h k kept);
}
