use Rattle.std.proofs.Common.{◌≡◌, ◌++◌, take}
use Rattle.std.specs.Prelude.{codes, filter_map, option_map}
use Rattle.std.specs.List.{join_by}
use Rattle.dw_page.specs.Escaping.{shown_bytes}
use Rattle.dw_page.proofs.JoinLemmas.{before_next}
use Rattle.dw_page.proofs.page.push_source.Given as goal

abbrev pub invariant-values : goal.invariant-values
invariant-values l =
    let texts = filter_map (option_map (λ v. v.now)) (take l.value-index l.values) in
    record {
      so_far : l.page.items ≡ l.initial.page.items ++ join_by shown_bytes (codes ", ") texts;
      mark : l.mark ≡ before_next (codes ", ") texts;
    }
