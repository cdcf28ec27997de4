use Rattle.std.proofs.Common.{◌≡◌, arith, ◌∙◌, Some, None}
use Rattle.std.specs.Prelude.{option_and_then}
use Rattle.std.proofs.lemmas.Bool.Decides.{nat_tests}
use Rattle.std.proofs.lemmas.Grind.{common_steps}
use Rattle.clap.specs.Words.{found_of}
use Rattle.dw_arguments.specs.Options.{if_within, number_option, options_of}
use Rattle.dw_arguments.proofs.NumberLemmas.{option_number}
use Rattle.dw_arguments.proofs.options.count_option.Goals as goal

pub returns-in_err-count-clause-value : goal.returns-in_err-count-clause-value
returns-in_err-count-clause-value c =
    let given : option_and_then (if_within c.args.least c.args.most) c.get_one.result
    ≡ number_option c.args.least c.args.most (options_of c.args.matches.now) c.args.name.now =
    option_number 64 c.args.least c.args.most (found_of c.args.matches.now) c.args.name.now c.get_one.result (omega
    arith) c.get_one.ensures.none c.get_one.ensures.value in
    let none : c.get_one.result ≡ None = c.in_err-count.was in
    c.from_residual.ensures ∙ (rw none at given)

pub returns-clause-value : goal.returns-clause-value
returns-clause-value c =
    let given : option_and_then (if_within c.args.least c.args.most) c.get_one.result
    ≡ number_option c.args.least c.args.most (options_of c.args.matches.now) c.args.name.now =
    option_number 64 c.args.least c.args.most (found_of c.args.matches.now) c.args.name.now c.get_one.result (omega
    arith) c.get_one.ensures.none c.get_one.ensures.value in
    let some : c.get_one.result ≡ Some c.in_ok-count.count = c.in_ok-count.was in
    let here : c.then_some.result ≡ if_within c.args.least c.args.most c.in_ok-count.count =
    c.then_some.ensures ∙ grind (arith, nat_tests, common_steps, c.contains.ensures.value, c.new.ensures) in
    here ∙ (rw some at given)
