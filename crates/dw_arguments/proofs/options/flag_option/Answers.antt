use Rattle.std.proofs.Common.{◌∙◌}
use Rattle.clap.specs.Words.{found_of}
use Rattle.dw_arguments.proofs.NumberLemmas.{option_flag}
use Rattle.dw_arguments.proofs.options.flag_option.Goals as goal

pub returns : goal.returns
returns c = c.unwrap_or.ensures ∙ option_flag (found_of c.args.matches.now) c.args.name.now c.get_one.result
    c.get_one.ensures.none c.get_one.ensures.value
