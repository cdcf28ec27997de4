use Rattle.std.proofs.Common.{◌∙◌, IfSome, subst}
use Rattle.dw_notation.specs.Streams.{Appends}
use Rattle.std.specs.String.{string_bytes}
use Rattle.dw_study.specs.RemarkText.{IsRemarkText}
use Rattle.dw_desk_commands.proofs.check.push_remark.Goals as goal

pub returns-in_ok-push : goal.returns-in_ok-push
returns-in_ok-push g c = λ r is can. (
  string_bytes c.in-Some.told,
  subst (λ z. IfSome z (λ text. IsRemarkText g.B.Board.geometry c.args.tree.now.start r (string_bytes text)))
      c.in-Some.is (c.in_ok-told.ensures.text r is),
  subst (Appends c.args.text.now.items c.push.new.text.items)
      (c.as_bytes.ensures.value ∙ c.as_str.ensures.value) c.in_ok-push.ensures,
)
