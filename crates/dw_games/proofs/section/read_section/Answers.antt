use Rattle.std.proofs.Common.{◌≡◌, ◌+◌, ◌<◌, ◌++◌, ◌∷◌, ℕ, List, Bool, Some, [], false, length, take, drop, slice_index}
use Rattle.std.proofs.Common.{refl, sym, ap, subst, ◌∙◌, arith}
use Rattle.std.proofs.lemmas.Bool.{eqb-true}
use Rattle.std.proofs.lemmas.List.{nil_from_length, take_all, take_more, drop_more}
use Rattle.std.proofs.lemmas.Result.{err_from_is_err_and}
use Rattle.dw_notation.specs.Buffering.{Passes, unread_in, input_of}
use Rattle.dw_notation.specs.TextLines.{Found}
use Rattle.dw_notation.specs.inner.Readers.{ahead_of, cut_of}
use Rattle.dw_games.specs.declared.games.GameFault.TheVariants.{Failed}
use Rattle.dw_games.proofs.InputLemmas.{Passes-refl, Passes-piece, found_at, none_found, begins}
use Rattle.dw_games.proofs.ReadLemmas.{ReadsOn-fill, ReadsOn-piece, ReadsOn-cut, ReadsOn-last, ReadsOn-fault}
use Rattle.dw_games.proofs.section.read_section.Goals as goal

pub returns-in_err-fill : goal.returns-in_err-fill
returns-in_err-fill g c =
    let s = g.S.Source in
    let e = err_from_is_err_and c.from_residual.result c.from_residual.ensures.1 in
    rw (e.1, e.2) (ReadsOn-fault g.B.Board.geometry s.supply s.is_failed s.pulls_left _
    (input_of c.pieces.source c.pieces.buffer) _ _ c.pieces.row _ _ c.pieces.spaces _ c.pieces.reader Failed
    c.pieces.invariant c.in_err-fill.ensures.passes)

pub returns-then-is_empty : goal.returns-then-is_empty
returns-then-is_empty g c =
    let s = g.S.Source in
    let none : unread_in c.fill.new.self ≡ [] =
    sym c.unread-bytes.ensures ∙ nil_from_length c.unread-bytes.result.now
    (eqb-true _ 0 (sym c.is_empty.ensures ∙ c.if-is_empty.true)) in
    ReadsOn-last g.B.Board.geometry s.supply s.is_failed s.pulls_left c.texts_of_tags_say.ensures _
    (input_of c.fill.new.source c.fill.new.self) _ c.pieces.row _ c.pieces.spaces c.pieces.reader c.finish.result
    (ReadsOn-fill g.B.Board.geometry s.supply s.is_failed s.pulls_left _
    (input_of c.pieces.source c.pieces.buffer) _ _ _ _ _ c.pieces.reader c.pieces.invariant c.in_ok-fill.ensures.passes)
    c.requires (none, c.in_ok-fill.ensures.more none) c.finish.ensures

pub returns-in_err-extend : goal.returns-in_err-extend
returns-in_err-extend g c =
    let s = g.S.Source in
    let e = err_from_is_err_and c.from_residual-in_err-extend.result c.from_residual-in_err-extend.ensures.1 in
    rw (e.1, e.2) (ReadsOn-fault g.B.Board.geometry s.supply s.is_failed s.pulls_left _
    (input_of c.fill.new.source c.fill.new.self) _ _ c.pieces.row _ _ c.pieces.spaces _ c.pieces.reader _
    (ReadsOn-fill g.B.Board.geometry s.supply s.is_failed s.pulls_left _
    (input_of c.pieces.source c.pieces.buffer) _ _ _ _ _ c.pieces.reader c.pieces.invariant c.in_ok-fill.ensures.passes)
    (Passes-refl s.supply s.is_failed s.pulls_left (input_of c.fill.new.source c.fill.new.self)))

pub returns-in_err-keep_spaces : goal.returns-in_err-keep_spaces
returns-in_err-keep_spaces g c =
    let s = g.S.Source in
    let e = err_from_is_err_and c.from_residual-in_err-keep_spaces.result c.from_residual-in_err-keep_spaces.ensures.1
    in rw (e.1, e.2) (ReadsOn-fault g.B.Board.geometry s.supply s.is_failed s.pulls_left _
    (input_of c.fill.new.source c.fill.new.self) _ _ c.pieces.row _ _ c.pieces.spaces _ c.pieces.reader _
    (ReadsOn-fill g.B.Board.geometry s.supply s.is_failed s.pulls_left _
    (input_of c.pieces.source c.pieces.buffer) _ _ _ _ _ c.pieces.reader c.pieces.invariant c.in_ok-fill.ensures.passes)
    (Passes-refl s.supply s.is_failed s.pulls_left (input_of c.fill.new.source c.fill.new.self)))

pub returns-then-is_some : goal.returns-then-is_some
returns-then-is_some g c =
    let s = g.S.Source in
    let board = g.B.Board.geometry in
    let bytes = c.unread-bytes.result.now in
    let count = c.unwrap_or-count.result in
    let mid = input_of c.fill.new.source c.fill.new.self in
    let new = input_of c.fill.new.source c.consume.new.self in
    let old = c.pieces.reader in
    let next = c.cut-end.new.self in
    let here = found_at (λ k. (found : Found) × (k < length bytes) × (cut_of next board ≡ Some found)
    × (ahead_of old board false (take k bytes) ≡ [])
    × ((over : Bool) (more : List ℕ) → ahead_of old board over (take (k + 1) bytes ++ more)
    ≡ found ∷ ahead_of next board over more))
    c.cut-end.result count (length bytes) c.unwrap_or-count.ensures (sym c.is_some.ensures ∙ c.if-is_some.true)
    c.cut-end.ensures.some in
    let byte = slice_index bytes count in
    let rest : drop count bytes ≡ new.unread =
    ap (drop count) c.unread-bytes.ensures ∙ sym c.consume.ensures.unread in
    ReadsOn-cut board s.supply s.is_failed s.pulls_left c.texts_of_tags_say.ensures _ mid new _ c.pieces.row
    c.extend.new.self _ c.pieces.spaces c.keep_spaces.new.spaces old next (take count bytes) byte c.found.result here.0
    (ReadsOn-fill board s.supply s.is_failed s.pulls_left _
    (input_of c.pieces.source c.pieces.buffer) _ _ _ _ _ old c.pieces.invariant c.in_ok-fill.ensures.passes)
    c.requires (begins new.unread _ (sym rest ∙ drop_more bytes count 0 here.1)) here.3
    (λ over more. ap (λ l. ahead_of old board over (l ++ more)) (sym (take_more bytes count 0 here.1)) ∙ here.4 over
    more) c.in_ok-extend.ensures c.in_ok-keep_spaces.ensures
    (subst (λ l. Passes s.supply s.is_failed s.pulls_left mid new (take count l) false) (sym
    c.unread-bytes.ensures)
    (Passes-piece s.supply s.is_failed s.pulls_left mid new count refl c.consume.ensures.met_end
    c.consume.ensures.unread))
    (c.found.ensures ∙ here.2)

pub pieces-preserved : goal.pieces-preserved
pieces-preserved g c =
    let s = g.S.Source in
    let board = g.B.Board.geometry in
    let bytes = c.unread-bytes.result.now in
    let count = c.unwrap_or-count.result in
    let mid = input_of c.fill.new.source c.fill.new.self in
    let new = input_of c.fill.new.source c.consume.new.self in
    let old = c.pieces.reader in
    let next = c.cut-end.new.self in
    let all = none_found c.cut-end.result count (length bytes) c.unwrap_or-count.ensures
    (sym c.is_some.ensures ∙ c.if-is_some.false) c.cut-end.ensures.none in
    let whole : take count bytes ≡ bytes = take_all count bytes (omega (arith, all.0)) in
    ReadsOn-piece board s.supply s.is_failed s.pulls_left _ mid new _ c.pieces.row c.extend.new.self _
    c.pieces.spaces c.keep_spaces.new.spaces old next (take count bytes)
    (ReadsOn-fill board s.supply s.is_failed s.pulls_left _
    (input_of c.pieces.source c.pieces.buffer) _ _ _ _ _ old c.pieces.invariant c.in_ok-fill.ensures.passes)
    (λ over more. ap (λ l. ahead_of old board over (l ++ more)) whole ∙ all.1 over more) c.cut-end.ensures.begun
    c.in_ok-extend.ensures c.in_ok-keep_spaces.ensures
    (subst (λ l. Passes s.supply s.is_failed s.pulls_left mid new (take count l) false) (sym
    c.unread-bytes.ensures)
    (Passes-piece s.supply s.is_failed s.pulls_left mid new count refl c.consume.ensures.met_end
    c.consume.ensures.unread))
