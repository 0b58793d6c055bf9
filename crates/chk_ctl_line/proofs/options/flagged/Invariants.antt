use Rattle.std.proofs.Common.{◌≡◌, map, drop}
use Rattle.clap.specs.Words.{app_of}
use Rattle.chk_ctl_line.specs.Options.{with_flags}
use Rattle.chk_ctl_line.proofs.options.flagged.Given as goal

abbrev pub invariant-loop-name : goal.invariant-loop-name
invariant-loop-name l =
    with_flags (app_of l.command) (map (λ n. n.now) (drop l.name-index l.flags))
    ≡ with_flags (app_of l.initial.command) (map (λ n. n.now) l.flags)
