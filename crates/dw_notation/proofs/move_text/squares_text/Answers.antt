use Rattle.std.proofs.Common.{◌≡◌, ◌++◌, ◌∷◌, [], ◌∙◌, ap, length, length-append, arith, decimal}
use Rattle.std.proofs.lemmas.Str.{encode_ascii}
use Rattle.dw_notation.proofs.MoveTextLemmas.{written_first, written_more}
use Rattle.dw_notation.proofs.move_text.squares_text.Goals as goal

pub rest-init : goal.rest-init
rest-init g c =
    let is : c.push_square.new.text.bytes ≡ decimal c.in-Some.first.now = c.push_square.ensures.bytes
    ∙ ap (λ t. t ++ decimal c.in-Some.first.now) c.new-text.ensures in
    let few = c.push_square.ensures.few in
    written_first c.args.mark c.in-Some.first.now c.args.squares.now c.in-Some.rest.now c.push_square.new.text.bytes
    c.in-Some.ensures.cases.0 is (omega (arith, few, ap length is, ap length c.new-text.ensures))

pub push-requires : goal.push-requires
push-requires g c =
    let one = ap length (encode_ascii c.args.mark c.requires.ascii) in
    let all = ap length c.in-Some.ensures.cases.0 in
    (omega arith, omega (arith, one, all, c.requires.few, c.rest.invariant.short, c.rest-test.true))

pub push_square-requires-in-rest : goal.push_square-requires-in-rest
push_square-requires-in-rest g c =
    let one = ap length (c.push.ensures.ascii c.requires.ascii)
    ∙ length-append c.rest.text.bytes (c.args.mark ∷ []) in
    let all = ap length c.in-Some.ensures.cases.0 in
    (omega arith, omega (arith, one, all, c.requires.few, c.rest.invariant.short, c.rest-test.true))

pub rest-preserved : goal.rest-preserved
rest-preserved g c =
    let pushed = c.push_square-in-rest.ensures in
    let long = ap length pushed.bytes ∙ length-append c.push.new.self.bytes (decimal c.square-item.result) in
    written_more c.args.mark c.args.squares.now c.in-Some.rest.now c.rest.square-index c.square-item.result
    c.rest.text.bytes c.push_square-in-rest.new.text.bytes c.rest.invariant c.rest-test.true c.square-item.is
    (omega (arith, long, pushed.few))
    (pushed.bytes ∙ ap (λ t. t ++ decimal c.square-item.result) (c.push.ensures.ascii c.requires.ascii))
