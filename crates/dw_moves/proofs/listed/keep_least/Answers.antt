use Rattle.std.proofs.Common.{◌≡◌, ◌<◌, ◌++◌, [], ◌∷◌, length, set, sym, ap, ◌∙◌, subst, take, get_or, arith}
use Rattle.std.proofs.lemmas.Bool.{true≢false}
use Rattle.std.proofs.lemmas.List.{take_all}
use Rattle.dw_board.specs.Lists.{Member}
use Rattle.dw_moves.specs.Order.{LexLess, Listed}
use Rattle.dw_moves.specs.inner.Walks.{TakenIn}
use Rattle.dw_moves.proofs.LeastEntryLemmas.{taken_left, taken_new, taken_less}
use Rattle.dw_moves.proofs.listed.keep_least.Goals as goal

pub returns-then-place-len : goal.returns-then-place-len
returns-then-place-len g c =
    let list = c.args.list.now.items in
    let path = c.args.path.now in
    let place = c.place_of-place.result in
    let all : list ≡ take place c.as_slice.result.now = sym (take_all place list (omega (
      arith,
      c.if-place-len.true,
      c.len.ensures,
    ))) ∙ ap (take place) (sym c.as_slice.ensures.value) in
    let l : Listed = record { step = c.args.mv; path = path } in
    subst (TakenIn l list) (sym (c.in_ok-push.ensures.items ∙ ap (λ z. list ++ record { step = c.args.mv; path = z }
    ∷ []) c.copied.ensures)) (taken_new list l (λ x there. c.place_of-place.ensures.before x (subst (Member x) all
    there)))

pub returns-then-is_less : goal.returns-then-is_less
returns-then-is_less g c =
    let list = c.args.list.now.items in
    let path = c.args.path.now in
    let place = c.place_of-place.result in
    let k = c.index-kept.result.now in
    let low : place < length list = omega (
      arith,
      c.if-place-len.false,
      c.len.ensures,
      c.place_of-place.ensures.within,
      ap length c.as_slice.ensures.value,
    ) in
    let same = ap (λ (x : Listed). x.step) (c.index-kept.ensures ∙ ap (λ z. get_or z place k)
    (sym c.as_slice.ensures.value)) ∙ c.place_of-place.ensures.there (omega (
      arith,
      low,
      ap length c.as_slice.ensures.value,
    )) k in
    let less = subst (LexLess path) (c.as_slice-2.ensures.value ∙ ap (λ (x : Listed). x.path) c.kept.view_is)
    (c.is_less.ensures.0 c.if-is_less.true) in
    let l : Listed = record { step = c.args.mv; path = path } in
    subst (λ z. TakenIn l list (set list place (record { step = c.args.mv; path = z })))
    (sym c.copied-then-is_less.ensures) (taken_less list place k l low c.index-kept.ensures same less)

pub returns-else-is_less : goal.returns-else-is_less
returns-else-is_less g c =
    let list = c.args.list.now.items in
    let place = c.place_of-place.result in
    let k = c.index-kept.result.now in
    let low : place < length list = omega (
      arith,
      c.if-place-len.false,
      c.len.ensures,
      c.place_of-place.ensures.within,
      ap length c.as_slice.ensures.value,
    ) in
    let same = ap (λ (x : Listed). x.step) (c.index-kept.ensures ∙ ap (λ z. get_or z place k)
    (sym c.as_slice.ensures.value)) ∙ c.place_of-place.ensures.there (omega (
      arith,
      low,
      ap length c.as_slice.ensures.value,
    )) k in
    taken_left list place k (record { step = c.args.mv; path = c.args.path.now }) low c.index-kept.ensures same
    (λ less. true≢false (sym (c.is_less.ensures.1 (subst (LexLess c.args.path.now)
    (sym (c.as_slice-2.ensures.value ∙ ap (λ (x : Listed). x.path) c.kept.view_is)) less)) ∙ c.if-is_less.false))
