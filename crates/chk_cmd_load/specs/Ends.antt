-- How a load ends.
use Rattle.chk_site.specs.declared.acts.OutsideFault.{OutsideFault}
use Rattle.chk_site.specs.declared.acts.OutsideFault.TheVariants.{Outside as site_failed, NoMemory as no_memory}
use Rattle.chk_cmd_load.specs.declared.ends.LoadEnd.{LoadEnd}
use Rattle.chk_cmd_load.specs.declared.ends.LoadEnd.TheVariants.{Outside, NoMemory}

-- a call of the load itself, or want of memory there
abbrev pub of_outside : OutsideFault → LoadEnd
of_outside (site_failed call) = Outside call
of_outside no_memory = NoMemory
