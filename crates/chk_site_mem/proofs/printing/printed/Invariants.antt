use Rattle.std.proofs.Common.{◌≡◌, ◌++◌, drop}
use Rattle.chk_site_mem.specs.Printed.{printed_of}
use Rattle.chk_site_mem.proofs.printing.printed.Given as goal

abbrev pub invariant-loop-act : goal.invariant-loop-act
invariant-loop-act l = l.bytes ++ printed_of (drop l.act-index l.acts) ≡ printed_of l.acts
