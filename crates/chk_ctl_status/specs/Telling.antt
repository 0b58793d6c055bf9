-- A text that is printed in one piece.
use Rattle.std.specs.Prelude.{ℕ, List, Option, Result, Ok, Err}
use Rattle.chk_site.specs.declared.acts.Who.{Who}
use Rattle.chk_site.specs.declared.acts.CallFault.{CallFault}
use Rattle.chk_site.specs.declared.acts.Call.TheVariants.{Say}
use Rattle.chk_site.specs.declared.acts.OutsideFault.{OutsideFault}
use Rattle.chk_site.specs.declared.acts.OutsideFault.TheVariants.{NoMemory as no_memory}
use Rattle.chk_site.specs.History.{History}
use Rattle.chk_site.specs.Site.{answered, plain, Adds, Calls, Ends}
use Rattle.chk_cmd_output.specs.Printing.{printing}

-- the text is printed, or that ends the work; or there was no memory for it
pub data Tells (who : Who) (text : List ℕ) : Result (Unit {0}) OutsideFault → Option History
    → Option History → Type 0 where
  untold : {now : Option History} → Tells who text (Err no_memory) now now
  told : {old new : Option History}
      → Adds old new (Calls (printing who text) (Ok (plain {T = Unit {0}} tt)))
      → Tells who text (Ok tt) old new
  ended : {fault : OutsideFault} {old new : Option History} (given : Result (Unit {0}) CallFault)
      → Ends Say given fault
      → Adds old new (Calls (printing who text) (answered plain given))
      → Tells who text (Err fault) old new
