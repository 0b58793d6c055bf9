use Rattle.std.proofs.Common.{◌≡◌, map, take}
use Rattle.clap.specs.Words.{app_of}
use Rattle.chk_cmd_line.proofs.OptionLemmas.{with_options}
use Rattle.chk_cmd_line.proofs.options.command_with.Given as goal

abbrev pub invariant-loop-name : goal.invariant-loop-name
invariant-loop-name l =
    app_of l.command ≡ with_options (map (λ n. n.now) (take l.name-index l.names))
