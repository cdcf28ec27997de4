use Rattle.std.proofs.Common.{◌≡◌, ◌+◌, ◌%◌, ◌/◌, ◌∙◌, ◌++◌, ◌∷◌, [], ap, arith}
use Rattle.dw_notation.proofs.MoveTextLemmas.{one_written, two_written}
use Rattle.dw_notation.proofs.move_text.push_number.Goals.{then-number-ge10, else-number-ge10}
use Rattle.dw_notation.proofs.move_text.push_number.Goals as goal

pub returns-clause-bytes : goal.returns-clause-bytes
returns-clause-bytes g c =
    let n = c.args.number in
    let before = c.if-number-ge10.text.bytes in
    let last : c.push-2.new.self.bytes ≡ before ++ (48 + n % 10) ∷ [] =
    c.push-2.ensures.ascii (omega (arith, c.from-2.ensures)) ∙ ap (λ z. before ++ z ∷ []) c.from-2.ensures in
    elim c.if-number-ge10.branch [
      | then-number-ge10 w ↦
          let start = c.args.text.now.bytes in
          let first : before ≡ start ++ (48 + n / 10) ∷ [] = ap (λ z. z.bytes) w.text-is
          ∙ (w.push.ensures.ascii (omega (arith, w.from.ensures, c.requires.two))
          ∙ ap (λ z. start ++ z ∷ []) w.from.ensures) in
          two_written n start before c.push-2.new.self.bytes w.if-number-ge10.true c.requires.two first last
      | else-number-ge10 w ↦
          one_written n c.args.text.now.bytes c.push-2.new.self.bytes (omega (arith, w.if-number-ge10.false))
          (last ∙ ap (λ z. z.bytes ++ (48 + n % 10) ∷ []) w.text-is)
    ]
