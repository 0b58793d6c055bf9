-- The steps of one who prints lines.
use Rattle.std.proofs.Common.{◌≡◌, inl, inr, ℕ, List, [], ◌∷◌, Option, Result, refl, subst}
use Rattle.chk_site.specs.declared.acts.OutsideFault.{OutsideFault}
use Rattle.chk_site.specs.declared.acts.Who.{Who}
use Rattle.chk_site.specs.History.{History, Every}
use Rattle.chk_site.specs.Site.{Adds}
use Rattle.chk_replace.proofs.CallSteps.{OfEach, script_each}
use Rattle.chk_world.specs.Sight.{job}
use Rattle.chk_cmd_output.specs.Printing.{PrintsInTurn}
use Rattle.chk_cmd_output.proofs.Printed.{printings, prints_made}
use Rattle.chk_ctl_verify.specs.Calls.{says, Looks}

each_says : (lines : List (List ℕ)) → OfEach Looks (printings job lines)
each_says [] = tt
each_says (line ∷ lines) = (
  λ before answer files logs running honest.
      inr (record { own = refl; running = running; honest = honest }, says line),
  each_says lines,
)

-- lines that the job prints
pub prints_own : {who : Who} {lines : List (List ℕ)} {result : Result (Unit {0}) OutsideFault}
    {old new : Option History} → who ≡ job
    → PrintsInTurn who lines result old new → Adds old new (Every Looks)
prints_own {who = who} {lines = lines} {result = result} {old = old} {new = new} is prints =
    script_each Looks (λ before step theirs. inl theirs) (each_says lines)
    (prints_made (subst (λ (w : Who). PrintsInTurn w lines result old new) is prints))
