use Rattle.std.proofs.Common.{◌≡◌, ◌+◌, ◌<◌, ◌∷◌, [], false, length, take, drop, refl, sym, ap, subst, ◌∙◌, rules}
use Rattle.std.proofs.Common.{arith}
use Rattle.std.proofs.lemmas.List.{nil_from_length, take_all}
use Rattle.std.proofs.lemmas.Result.{err_from_is_err_and}
use Rattle.dw_notation.specs.Buffering.{Passes, unread_in, input_of}
use Rattle.dw_notation.specs.Between.{IsBetween, in_comment}
use Rattle.dw_games.specs.declared.games.GameFault.TheVariants.{Failed}
use Rattle.dw_games.specs.inner.Playing.{PlaysOn}
use Rattle.dw_games.proofs.InputLemmas.{Passes-refl, Passes-piece, found_at, none_found, begins}
use Rattle.dw_games.proofs.PlayLemmas.{PlaysOn-start, PlaysOn-fill, PlaysOn-piece, PlaysOn-section, PlaysOn-end}
use Rattle.dw_games.proofs.PlayLemmas.{PlaysOn-fault}
use Rattle.dw_games.proofs.play.scan_to_section.Goals as goal

pub pieces-init : goal.pieces-init
pieces-init g c =
    let s = g.S.Source in
    let old = input_of c.args.source.now c.args.buffer.now in
    subst (PlaysOn s.supply s.is_failed s.pulls_left old old c.args.kept.now c.args.kept.now)
    (sym c.new-finder.ensures)
    (PlaysOn-start s.supply s.is_failed s.pulls_left old c.args.kept.now)

pub returns-in_err-fill : goal.returns-in_err-fill
returns-in_err-fill g c =
    let s = g.S.Source in
    let e = err_from_is_err_and c.from_residual.result c.from_residual.ensures.1 in
    rw (e.1, e.2) (PlaysOn-fault s.supply s.is_failed s.pulls_left _ (input_of c.pieces.source
    c.pieces.buffer) _ _
    c.pieces.kept _ (in_comment c.pieces.finder) Failed c.pieces.invariant c.in_err-fill.ensures.passes)

pub returns-then-is_empty : goal.returns-then-is_empty
returns-then-is_empty g c =
    let s = g.S.Source in
    let none : unread_in c.fill.new.self ≡ [] =
    sym c.unread-bytes.ensures ∙ nil_from_length c.unread-bytes.result.now (search (rules, arith)) in
    PlaysOn-end s.supply s.is_failed s.pulls_left _ (input_of c.fill.new.source c.fill.new.self) _
    c.pieces.kept (in_comment c.pieces.finder) c.end_of_text.result
    (PlaysOn-fill s.supply s.is_failed s.pulls_left _ (input_of c.pieces.source c.pieces.buffer) _ _ _
    (in_comment c.pieces.finder) c.pieces.invariant c.in_ok-fill.ensures.passes)
    (none, c.in_ok-fill.ensures.more none) c.end_of_text.ensures

pub returns-in_err-extend : goal.returns-in_err-extend
returns-in_err-extend g c =
    let s = g.S.Source in
    let e = err_from_is_err_and c.from_residual-in_err-extend.result c.from_residual-in_err-extend.ensures.1 in
    rw (e.1, e.2) (PlaysOn-fault s.supply s.is_failed s.pulls_left _ (input_of c.fill.new.source
    c.fill.new.self) _ _ c.pieces.kept _ (in_comment c.pieces.finder) _
    (PlaysOn-fill s.supply s.is_failed s.pulls_left _ (input_of c.pieces.source c.pieces.buffer) _ _ _
    (in_comment c.pieces.finder) c.pieces.invariant c.in_ok-fill.ensures.passes)
    (Passes-refl s.supply s.is_failed s.pulls_left (input_of c.fill.new.source c.fill.new.self)))

pub returns-then-is_some : goal.returns-then-is_some
returns-then-is_some g c =
    let s = g.S.Source in
    let bytes = c.unread-bytes.result.now in
    let count = c.unwrap_or-count.result in
    let mid = input_of c.fill.new.source c.fill.new.self in
    let new = input_of c.fill.new.source c.consume.new.self in
    let here = found_at (λ k. (k < length bytes) × (in_comment c.find-begin.new.self ≡ false)
    × IsBetween (in_comment c.pieces.finder) false (take k bytes) × (drop k bytes ≡ 91 ∷ drop (k + 1) bytes))
    c.find-begin.result count (length bytes) c.unwrap_or-count.ensures (sym c.is_some.ensures ∙ c.if-is_some.true)
    c.find-begin.ensures.some in
    let rest : drop count bytes ≡ new.unread =
    ap (drop count) c.unread-bytes.ensures ∙ sym c.consume.ensures.unread in
    PlaysOn-section s.supply s.is_failed s.pulls_left _ new _ c.extend.new.self
    (PlaysOn-piece s.supply s.is_failed s.pulls_left _ mid new _ c.pieces.kept c.extend.new.self
    (in_comment c.pieces.finder) false (take count bytes)
    (PlaysOn-fill s.supply s.is_failed s.pulls_left _ (input_of c.pieces.source c.pieces.buffer) _ _ _
    (in_comment c.pieces.finder) c.pieces.invariant c.in_ok-fill.ensures.passes)
    here.2 c.in_ok-extend.ensures
    (subst (λ l. Passes s.supply s.is_failed s.pulls_left mid new (take count l) false) (sym
    c.unread-bytes.ensures)
    (Passes-piece s.supply s.is_failed s.pulls_left mid new count refl c.consume.ensures.met_end
    c.consume.ensures.unread)))
    (begins new.unread _ (sym rest ∙ here.3))

pub pieces-preserved : goal.pieces-preserved
pieces-preserved g c =
    let s = g.S.Source in
    let bytes = c.unread-bytes.result.now in
    let count = c.unwrap_or-count.result in
    let mid = input_of c.fill.new.source c.fill.new.self in
    let new = input_of c.fill.new.source c.consume.new.self in
    let all = none_found c.find-begin.result count (length bytes) c.unwrap_or-count.ensures
    (sym c.is_some.ensures ∙ c.if-is_some.false) c.find-begin.ensures.none in
    PlaysOn-piece s.supply s.is_failed s.pulls_left _ mid new _ c.pieces.kept c.extend.new.self
    (in_comment c.pieces.finder) (in_comment c.find-begin.new.self) (take count bytes)
    (PlaysOn-fill s.supply s.is_failed s.pulls_left _ (input_of c.pieces.source c.pieces.buffer) _ _ _
    (in_comment c.pieces.finder) c.pieces.invariant c.in_ok-fill.ensures.passes)
    (subst (IsBetween (in_comment c.pieces.finder) (in_comment c.find-begin.new.self))
    (sym (take_all count bytes (omega (arith, all.0)))) all.1) c.in_ok-extend.ensures
    (subst (λ l. Passes s.supply s.is_failed s.pulls_left mid new (take count l) false) (sym
    c.unread-bytes.ensures)
    (Passes-piece s.supply s.is_failed s.pulls_left mid new count refl c.consume.ensures.met_end
    c.consume.ensures.unread))
