-- A text that is printed by one call.
use Rattle.std.proofs.Common.{List, ℕ, Ok, Err, Option, Result, subst}
use Rattle.std.specs.Prelude.{MatchResult, ◌≡◌}
use Rattle.chk_site.specs.declared.acts.Call.TheVariants.{Say}
use Rattle.chk_site.specs.declared.acts.CallFault.{CallFault}
use Rattle.chk_site.specs.declared.acts.OutsideFault.{OutsideFault}
use Rattle.chk_site.specs.declared.acts.Who.{Who}
use Rattle.chk_site.specs.History.{History}
use Rattle.chk_site.specs.Site.{answered, plain, Adds, Calls, Ends}
use Rattle.chk_cmd_output.specs.Printing.{printing}
use Rattle.chk_ctl_status.specs.Telling.{ended, told, Tells}

pub told_so : (who : Who) (text : List ℕ) (result : Result (Unit {0}) OutsideFault)
    (given : Result (Unit {0}) CallFault) {old new : Option History}
    → MatchResult result (λ value. given ≡ Ok value) (λ fault. Ends Say given fault)
    → Adds old new (Calls (printing who text) (answered plain given))
    → Tells who text result old new
told_so who text (Ok value) given {old = old} {new = new} is adds =
    told (subst (λ (r : Result (Unit {0}) CallFault). Adds old new (Calls (printing who text)
    (answered (plain {T = Unit {0}}) r))) is adds)
told_so who text (Err fault) given ends adds = ended given ends adds
