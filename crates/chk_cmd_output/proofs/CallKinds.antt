-- The calls of a run and of its prints, by their kind.
use Rattle.std.proofs.Common.{◌≡◌, inl, inr, ℕ, List, [], ◌∷◌, Option, Result, refl}
use Rattle.chk_site.specs.declared.acts.OutsideFault.{OutsideFault}
use Rattle.chk_site.specs.declared.acts.ActAnswer.{ActAnswer}
use Rattle.chk_site.specs.Acts.{Deed, Says}
use Rattle.chk_site.specs.History.{History, Every}
use Rattle.chk_site.specs.Site.{Adds}
use Rattle.chk_replace.proofs.CallSteps.{OfEach, script_each}
use Rattle.chk_world.specs.JobSteps.{IsOf, ReadsFile, reads, asks, WritesTo, removes, creates, appends, syncs}
use Rattle.chk_world.specs.Sight.{job}
use Rattle.chk_cmd_output.specs.Printing.{PrintsInTurn, print_of}
use Rattle.chk_cmd_output.proofs.Printed.{printings, prints_made}

-- ---- a write or a read of a file prints nothing

pub silent_write : (name : List ℕ) (call : Deed) (answer : ActAnswer) → WritesTo name call → print_of job call answer ≡ []
silent_write name call answer removes = refl
silent_write name call answer creates = refl
silent_write name call answer (appends piece) = refl
silent_write name call answer syncs = refl

pub silent_read : (call : Deed) (answer : ActAnswer) → ReadsFile call → print_of job call answer ≡ []
silent_read call answer (reads name at max) = refl
silent_read call answer (asks name) = refl

-- ---- the prints

each_says : (K : Deed → Type 0) → ((text : List ℕ) → K (Says text)) → (lines : List (List ℕ))
    → OfEach (IsOf K) (printings job lines)
each_says K says [] = tt
each_says K says (line ∷ lines) = (
  λ before answer files logs running honest.
      inr (record { own = refl; running = running; honest = honest; by = refl }, says line),
  each_says K says lines,
)

-- lines that the job prints are prints, of each kind of calls to which they belong
pub prints_own : (K : Deed → Type 0) → ((text : List ℕ) → K (Says text)) → {lines : List (List ℕ)}
    {result : Result (Unit {0}) OutsideFault} {old new : Option History}
    → PrintsInTurn job lines result old new → Adds old new (Every (IsOf K))
prints_own K says {lines = lines} prints =
    script_each (IsOf K) (λ before step theirs. inl theirs) (each_says K says lines)
    (prints_made prints)
