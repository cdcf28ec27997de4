use Rattle.std.proofs.Common.{◌≡◌, arith, ◌∙◌, Some, None}
use Rattle.std.specs.Prelude.{option_and_then, codes}
use Rattle.std.proofs.lemmas.Bool.Decides.{nat_tests}
use Rattle.std.proofs.lemmas.Grind.{common_steps}
use Rattle.clap.specs.Words.{found_of}
use Rattle.dw_arguments.specs.Options.{if_within, number_option, options_of}
use Rattle.dw_arguments.proofs.NumberLemmas.{option_number}
use Rattle.dw_arguments.proofs.find.later_option.Goals as goal

pub returns-in_err-more : goal.returns-in_err-more
returns-in_err-more c =
    let given : option_and_then (if_within 1 19) c.get_one.result
    ≡ number_option 1 19 (options_of c.args.matches.now) (codes "later") =
    option_number 8 1 19 (found_of c.args.matches.now) (codes "later") c.get_one.result (omega arith)
    c.get_one.ensures.none c.get_one.ensures.value in
    let none : c.get_one.result ≡ None = c.in_err-more.was in
    c.from_residual.ensures ∙ (rw none at given)

pub returns : goal.returns
returns c =
    let given : option_and_then (if_within 1 19) c.get_one.result
    ≡ number_option 1 19 (options_of c.args.matches.now) (codes "later") =
    option_number 8 1 19 (found_of c.args.matches.now) (codes "later") c.get_one.result (omega arith)
    c.get_one.ensures.none c.get_one.ensures.value in
    let some : c.get_one.result ≡ Some c.in_ok-more.more = c.in_ok-more.was in
    let here : c.then_some.result ≡ if_within 1 19 c.in_ok-more.more =
    c.then_some.ensures ∙ grind (arith, nat_tests, common_steps, c.contains.ensures.value, c.new.ensures) in
    here ∙ (rw some at given)
