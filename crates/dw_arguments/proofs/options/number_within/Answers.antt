use Rattle.std.proofs.Common.{◌≡◌, arith, ◌∙◌, Some, None}
use Rattle.std.specs.Prelude.{option_and_then}
use Rattle.std.proofs.lemmas.Bool.Decides.{nat_tests}
use Rattle.std.proofs.lemmas.Grind.{common_steps}
use Rattle.dw_arguments.specs.Options.{if_within, number_within}
use Rattle.dw_arguments.proofs.NumberLemmas.{read_text}
use Rattle.dw_arguments.proofs.options.number_within.Goals as goal

pub returns-in_err-number-clause-value : goal.returns-in_err-number-clause-value
returns-in_err-number-clause-value c =
    let read : option_and_then (if_within c.args.least c.args.most) c.ok.result
    ≡ number_within c.args.least c.args.most c.args.text.now =
    rw c.ok.ensures.value (read_text 32 c.args.least c.args.most c.args.text.now c.parse.result (omega arith)
    c.parse.ensures.value) in
    let none : c.ok.result ≡ None = c.in_err-number.was in
    c.from_residual.ensures ∙ (rw none at read)

pub returns-clause-value : goal.returns-clause-value
returns-clause-value c =
    let read : option_and_then (if_within c.args.least c.args.most) c.ok.result
    ≡ number_within c.args.least c.args.most c.args.text.now =
    rw c.ok.ensures.value (read_text 32 c.args.least c.args.most c.args.text.now c.parse.result (omega arith)
    c.parse.ensures.value) in
    let some : c.ok.result ≡ Some c.in_ok-number.number = c.in_ok-number.was in
    let here : c.then_some.result ≡ if_within c.args.least c.args.most c.in_ok-number.number =
    c.then_some.ensures ∙ grind (arith, nat_tests, common_steps, c.contains.ensures.value, c.new.ensures) in
    here ∙ (rw some at read)
