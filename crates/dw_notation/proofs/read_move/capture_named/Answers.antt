use Rattle.std.proofs.Common.{◌≡◌, ◌∷◌, ◌++◌, [], length, sym, ◌∙◌, arith, rules}
use Rattle.std.proofs.lemmas.Bool.{eqb-true}
use Rattle.dw_notation.specs.MoveReading.{AreCrossed, by_crosses}
use Rattle.dw_notation.proofs.MoveNameLemmas.{reading_more, reading_ends, reading_nowhere, reading_breaks, reading_full}
use Rattle.dw_notation.proofs.MoveNameLemmas.{empty_text, no_capture, lone_number}
use Rattle.dw_notation.proofs.read_move.capture_named.Goals as goal

pub returns-in_default : goal.returns-in_default
returns-in_default g c = no_capture g.B.Board.geometry c.args.text.now (λ squares few crossed. reading_nowhere
    g.B.Board.geometry c.args.text.now c.numbers.squares.items c.numbers.rest.now c.numbers.invariant
    c.in_default.ensures squares crossed)

pub returns-then-is_full : goal.returns-then-is_full
returns-then-is_full g c =
    let full : length c.numbers.squares.items ≡ 21 = eqb-true (length c.numbers.squares.items) 21
    (sym c.is_full.ensures.value ∙ c.if-is_full.true) in
    no_capture g.B.Board.geometry c.args.text.now (reading_full g.B.Board.geometry c.args.text.now
    c.numbers.squares.items c.numbers.rest.now c.numbers.invariant full)

pub returns-then-len-gt1 : goal.returns-then-len-gt1
returns-then-len-gt1 g c =
    let now_is : c.push.new.self.items ≡ c.numbers.squares.items ++ c.in-Some.square ∷ [] = search rules in
    let none : length c.in-Some.behind.now ≡ 0 = search rules in
    let crossed : AreCrossed g.B.Board.geometry c.args.text.now c.push.new.self.items =
    reading_ends g.B.Board.geometry c.args.text.now c.numbers.squares.items c.numbers.rest.now c.push.new.self.items
    c.in-Some.square c.in-Some.behind.now c.numbers.invariant now_is c.in-Some.ensures
    (empty_text c.in-Some.behind.now none) in
    by_crosses crossed (omega (arith, c.len.ensures.value)) (omega (arith, c.len.ensures.fits))

pub returns-else-len-gt1 : goal.returns-else-len-gt1
returns-else-len-gt1 g c =
    let now_is : c.push.new.self.items ≡ c.numbers.squares.items ++ c.in-Some.square ∷ [] = search rules in
    let none : length c.in-Some.behind.now ≡ 0 = search rules in
    let crossed : AreCrossed g.B.Board.geometry c.args.text.now c.push.new.self.items =
    reading_ends g.B.Board.geometry c.args.text.now c.numbers.squares.items c.numbers.rest.now c.push.new.self.items
    c.in-Some.square c.in-Some.behind.now c.numbers.invariant now_is c.in-Some.ensures
    (empty_text c.in-Some.behind.now none) in
    lone_number g.B.Board.geometry c.args.text.now c.push.new.self.items crossed (omega (arith, c.len.ensures.value))

pub returns-then-not-is_cross : goal.returns-then-not-is_cross
returns-then-not-is_cross g c =
    let is : c.in-Some.behind.now ≡ c.in-Some-split_first.sign.now ∷ c.in-Some-split_first.next.now = search rules in
    no_capture g.B.Board.geometry c.args.text.now (λ squares few crossed.
    reading_breaks g.B.Board.geometry c.args.text.now c.numbers.squares.items c.numbers.rest.now c.in-Some.square
    c.in-Some.behind.now c.in-Some-split_first.sign.now c.in-Some-split_first.next.now c.numbers.invariant
    c.in-Some.ensures is (sym c.is_cross.ensures ∙ c.if-not-is_cross.true) squares crossed)

pub numbers-preserved : goal.numbers-preserved
numbers-preserved g c =
    let now_is : c.push.new.self.items ≡ c.numbers.squares.items ++ c.in-Some.square ∷ [] = search rules in
    let is : c.in-Some.behind.now ≡ c.in-Some-split_first.sign.now ∷ c.in-Some-split_first.next.now = search rules in
    reading_more g.B.Board.geometry c.args.text.now c.numbers.squares.items c.numbers.rest.now c.push.new.self.items
    c.in-Some.square c.in-Some.behind.now c.in-Some-split_first.sign.now c.in-Some-split_first.next.now
    c.numbers.invariant now_is c.in-Some.ensures is (sym c.is_cross.ensures ∙ c.if-not-is_cross.false)
