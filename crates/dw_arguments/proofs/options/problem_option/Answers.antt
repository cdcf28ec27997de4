use Rattle.std.proofs.Common.{◌≡◌, arith, ◌∙◌, Some, None}
use Rattle.std.specs.Prelude.{option_and_then, codes}
use Rattle.std.proofs.lemmas.Bool.Decides.{nat_tests}
use Rattle.std.proofs.lemmas.Grind.{common_steps}
use Rattle.clap.specs.Words.{found_of}
use Rattle.dw_arguments.specs.Options.{if_within, number_option, options_of}
use Rattle.dw_arguments.proofs.NumberLemmas.{option_number}
use Rattle.dw_arguments.proofs.options.problem_option.Goals as goal

pub returns-in_err-number-clause-value : goal.returns-in_err-number-clause-value
returns-in_err-number-clause-value c =
    let given : option_and_then (if_within 1 1000000) c.get_one.result
    ≡ number_option 1 1000000 (options_of c.args.matches.now) (codes "problem") =
    option_number 32 1 1000000 (found_of c.args.matches.now) (codes "problem") c.get_one.result (omega arith)
    c.get_one.ensures.none c.get_one.ensures.value in
    let none : c.get_one.result ≡ None = c.in_err-number.was in
    c.from_residual.ensures ∙ (rw none at given)

pub returns-clause-value : goal.returns-clause-value
returns-clause-value c =
    let given : option_and_then (if_within 1 1000000) c.get_one.result
    ≡ number_option 1 1000000 (options_of c.args.matches.now) (codes "problem") =
    option_number 32 1 1000000 (found_of c.args.matches.now) (codes "problem") c.get_one.result (omega arith)
    c.get_one.ensures.none c.get_one.ensures.value in
    let some : c.get_one.result ≡ Some c.in_ok-number.number = c.in_ok-number.was in
    let here : c.then_some.result ≡ if_within 1 1000000 c.in_ok-number.number =
    c.then_some.ensures ∙ grind (arith, nat_tests, common_steps, c.contains.ensures.value, c.new.ensures) in
    here ∙ (rw some at given)
