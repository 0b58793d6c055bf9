-- Reads of books, and then lines.
use Rattle.std.proofs.Common.{◌≡◌, inl, inr, ℕ, List, [], ◌∷◌, Option, Ok, Err, Result, refl}
use Rattle.std.proofs.Common.{subst, ◌∙◌}
use Rattle.chk_site.specs.declared.acts.Who.{Who}
use Rattle.chk_site.specs.declared.acts.OutsideFault.{OutsideFault}
use Rattle.chk_site.specs.History.{History, Every}
use Rattle.chk_site.specs.Site.{Adds, OutsideCause}
use Rattle.chk_site.proofs.Runs.{adds_then, every_join}
use Rattle.chk_replace.proofs.CallSteps.{OfEach, script_each, script_last}
use Rattle.chk_world.specs.Sight.{job}
use Rattle.chk_world.specs.JobSteps.{IsOf, ReadsFile}
use Rattle.chk_cmd_output.specs.Printing.{PrintsInTurn}
use Rattle.chk_cmd_output.proofs.Printed.{printings, prints_made}
use Rattle.chk_ctl_cat.specs.Faults.{FailsLast, LookCause}
use Rattle.chk_ctl_cat.specs.Looking.{LooksOrSays, says}
use Rattle.chk_ctl_cat.proofs.StreamLemmas.{reads_own}
use Rattle.chk_ctl_cat.proofs.SegmentLemmas.{fails_then, caused}
use Rattle.chk_ctl_streams.specs.Listing.{look_result}

each_says : (lines : List (List ℕ)) → OfEach (IsOf LooksOrSays) (printings job lines)
each_says [] = tt
each_says (line ∷ lines) = (
  λ before answer files logs running honest.
      inr (record { own = refl; running = running; honest = honest; by = refl }, says line),
  each_says lines,
)

-- lines that the job prints are prints
pub prints_own : {who : Who} {lines : List (List ℕ)} {result : Result (Unit {0}) OutsideFault}
    {old new : Option History} → who ≡ job
    → PrintsInTurn who lines result old new → Adds old new (Every (IsOf LooksOrSays))
prints_own {who = who} {lines = lines} {result = result} {old = old} {new = new} is prints =
    script_each (IsOf LooksOrSays) (λ before step theirs. inl theirs) (each_says lines)
    (prints_made (subst (λ (w : Who). PrintsInTurn w lines result old new) is prints))

-- reads, and then what is read and printed
pub own_then : {old mid new : Option History} → Adds old mid (Every (IsOf ReadsFile))
    → Adds mid new (Every (IsOf LooksOrSays))
    → Adds old new (Every (IsOf LooksOrSays))
own_then reads rest =
    adds_then (Every (IsOf LooksOrSays)) (reads_own reads) rest
    (λ a b history p q. every_join (IsOf LooksOrSays) b a history p q)

-- the last call of the lines
pub last_then : {P : History → History → Type 0} {who : Who} {lines : List (List ℕ)}
    (result : Result (Unit {0}) OutsideFault)
    {old mid new : Option History} → Adds old mid P → PrintsInTurn who lines result mid new
    → Adds old new (FailsLast (look_result result))
last_then (Ok value) reads prints =
    adds_then (FailsLast (look_result (Ok value))) reads (script_last (prints_made prints))
    (λ a b history p q. tt)
last_then (Err fault) reads prints = fails_then (Unit {0}) (Unit {0}) fault reads
    (script_last (prints_made prints))

pub cause_then : (result : Result (Unit {0}) OutsideFault) (before mid now : ℕ) → mid ≡ before
    → OutsideCause mid now result
    → LookCause before now (look_result result)
cause_then (Ok value) before mid now same cause = cause ∙ same
cause_then (Err fault) before mid now same cause =
    caused (Unit {0}) (Unit {0}) fault before mid now same cause
