use Rattle.std.proofs.Common.{◌≡◌, arith, ◌∙◌, Some, None, ap}
use Rattle.std.specs.Prelude.{option_and_then, option_map}
use Rattle.clap.specs.Words.{found_of}
use Rattle.dw_arguments.specs.Options.{if_within, number_option, options_of}
use Rattle.dw_arguments.proofs.NumberLemmas.{option_number}
use Rattle.dw_arguments.proofs.options.moves_option.Goals as goal

pub returns-in_err-moves : goal.returns-in_err-moves
returns-in_err-moves c =
    let given : option_and_then (if_within 1 20) c.get_one.result
    ≡ number_option 1 20 (options_of c.args.matches.now) c.args.name.now =
    option_number 8 1 20 (found_of c.args.matches.now) c.args.name.now c.get_one.result (omega arith)
    c.get_one.ensures.none c.get_one.ensures.value in
    let none : c.get_one.result ≡ None = c.in_err-moves.was in
    ap (option_map (λ moves. moves.value)) c.from_residual.ensures ∙ (rw none at given)

pub returns : goal.returns
returns c =
    let given : option_and_then (if_within 1 20) c.get_one.result
    ≡ number_option 1 20 (options_of c.args.matches.now) c.args.name.now =
    option_number 8 1 20 (found_of c.args.matches.now) c.args.name.now c.get_one.result (omega arith)
    c.get_one.ensures.none c.get_one.ensures.value in
    let some : c.get_one.result ≡ Some c.in_ok-moves.moves = c.in_ok-moves.was in
    c.new.ensures ∙ (rw some at given)
