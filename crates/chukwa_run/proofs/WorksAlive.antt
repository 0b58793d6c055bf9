-- That the site wasn't stopped, behind calls that were made in turn.
use Rattle.std.proofs.Common.{◌≡◌, ℕ, Bool, true, List, [], ◌∷◌, map, Option, Result, Ok, Err, refl}
use Rattle.chk_site.specs.declared.acts.Who.{Who}
use Rattle.chk_site.specs.declared.acts.CallFault.{CallFault}
use Rattle.chk_site.specs.declared.acts.CallFault.TheVariants.{Failed, Missing, Exists, Short, NoMemory}
use Rattle.chk_site.specs.declared.acts.OutsideFault.{OutsideFault}
use Rattle.chk_site.specs.History.{History}
use Rattle.chk_site.specs.Site.{Adds, Asked, Calls, answered, plain, sized, IsDone}
use Rattle.chk_site.specs.Runs.{MadeInTurn, finished, unbegun, went_on, ended}
use Rattle.chk_control.specs.declared.Class.{Class}
use Rattle.chk_agent.specs.declared.answers.AgentFault.{AgentFault}
use Rattle.chk_agent.specs.declared.answers.Reply.{Reply}
use Rattle.chk_agent.specs.States.{State}
use Rattle.chk_agent.specs.Adds.{Found, IsNewest, TakesStream}
use Rattle.chk_agent.specs.Commands.{IsCommand}
use Rattle.chk_agent_run.specs.declared.faults.RunFault.{RunFault}
use Rattle.chk_agent_run.specs.Calls.{Clocked, Gives}
use Rattle.chk_agent_run.specs.Initial.{IsLineAdded, AreAdded}
use Rattle.chk_cmd_output.specs.Printing.{PrintsInTurn}
use Rattle.chk_cmd_output.proofs.Printed.{prints_made}
use Rattle.chk_world.specs.Works.{WentOn}
use Rattle.chukwa_run.proofs.Alive.{Alive, call_alive}

done_went : (given : Result (Unit {0}) CallFault) → IsDone given → WentOn (answered plain given)
done_went (Ok value) done = tt
done_went (Err Failed) done = absurd done
done_went (Err NoMemory) done = absurd done
done_went (Err Missing) done = tt
done_went (Err Exists) done = tt
done_went (Err (Short size)) done = tt

-- behind a script that came to its end, where it was so before
script_alive : {qs : List Asked} {result : Result (Unit {0}) OutsideFault}
    {old new : Option History}
    → MadeInTurn qs result old new → result ≡ Ok tt → Alive old → Alive new
script_alive finished is alive = alive
script_alive unbegun is alive = absurd (cc)
script_alive (went_on given done told rest) is alive =
    script_alive rest is (call_alive (answered plain given) (done_went given done) told)
script_alive (ended given ends told) is alive = absurd (cc)

-- behind one of at least one call
some_alive : {qs : List Asked} {result : Result (Unit {0}) OutsideFault} {old new : Option History}
    → MadeInTurn qs result old new → result ≡ Ok tt → (qs ≡ [] → ⊥) → Alive new
some_alive finished is some = absurd (some refl)
some_alive unbegun is some = absurd (cc)
some_alive (went_on given done told rest) is some =
    script_alive rest is (call_alive (answered plain given) (done_went given done) told)
some_alive (ended given ends told) is some = absurd (cc)

-- behind lines that were printed, one for each of these numbers, of which there is one
pub printed_alive : (who : Who) (line : ℕ → List ℕ) (numbers : List ℕ)
    (result : Result (Unit {0}) OutsideFault)
    (old new : Option History) → PrintsInTurn who (map line numbers) result old new → result ≡ Ok tt
    → (numbers ≡ [] → ⊥) → Alive new
printed_alive who line [] result old new prints is some = absurd (some refl)
printed_alive who line (i ∷ numbers) result old new prints is some =
    some_alive (prints_made prints) is (λ none. let z : ⊥ = cc in z)

-- ---- the beginning of an agent

clock_alive : {q : Asked} (given : Result ℕ CallFault) (result : Result ℕ AgentFault) (now : ℕ)
    {old new : Option History} → Gives q.call given result → result ≡ Ok now
    → Adds old new (Calls q (answered sized given)) → Alive new
clock_alive (Ok value) result now gives is told = call_alive _ tt told
clock_alive (Err Failed) result now gives is told = absurd (cc)
clock_alive (Err NoMemory) result now gives is told = absurd (cc)
clock_alive (Err Missing) result now gives is told = absurd gives
clock_alive (Err Exists) result now gives is told = absurd gives
clock_alive (Err (Short size)) result now gives is told = absurd gives

-- behind the time that was told
pub clocked_alive : (who : Who) (now : ℕ) (old new : Option History) → Clocked who (Ok now) old new
    → Alive new
clocked_alive who now old new clocked = clock_alive clocked.given
    (Ok now) now clocked.gives refl clocked.told

newest_alive : {s : State} {path : List ℕ} {asks : Bool} {after : Option (List ℕ)}
    {old new : Option History}
    → IsNewest s path asks after old new → Alive old → Alive new
newest_alive IsNewest.not_asked alive = alive
newest_alive (IsNewest.asked_for newest told) alive = call_alive _ tt told

taken_alive : {s t : State} {name kind path : List ℕ} {class : Class} {start : ℕ}
    {found : Option Found}
    {result : Result (Unit {0}) AgentFault} {old new : Option History}
    → TakesStream s name class kind path start found result t old new → result ≡ Ok tt → Alive old
    → Alive new
taken_alive (TakesStream.written after newest is writes) ok alive =
    script_alive writes refl (newest_alive newest alive)
taken_alive (TakesStream.failed after call newest is writes) ok alive = absurd (cc)
taken_alive (TakesStream.unwritten after newest is writes) ok alive = absurd (cc)
taken_alive (TakesStream.unkept after newest) ok alive = absurd (cc)
taken_alive (TakesStream.unasked asks told) ok alive = absurd (cc)
taken_alive (TakesStream.wanting asks told) ok alive = absurd (cc)
taken_alive TakesStream.unbegun ok alive = absurd (cc)

command_alive : {line : List ℕ} {s t : State} {result : Result Reply AgentFault}
    {old new : Option History}
    → IsCommand line s result t old new → (reply : Reply) → result ≡ Ok reply → Alive old
    → Alive new
command_alive (IsCommand.plainly e is) reply ok alive = alive
command_alive (IsCommand.refused_add given class kind path name offset n is named refused) reply ok
    alive = alive
command_alive (IsCommand.added given class kind path name offset is named taken takes) reply ok
    alive =
    taken_alive takes refl alive
command_alive (IsCommand.failed_add given class kind path name offset fault is named taken takes)
    reply ok alive =
    absurd (cc)
command_alive IsCommand.wanting reply ok alive = absurd (cc)

line_alive : {line : List ℕ} {s t : State} {result : Result Bool AgentFault}
    {old new : Option History}
    → IsLineAdded line s result t old new → result ≡ Ok true → Alive old → Alive new
line_alive (IsLineAdded.skipped met) is alive = alive
line_alive (IsLineAdded.no_add unmet other) is alive = absurd (cc)
line_alive (IsLineAdded.accepted reply unmet adds made met) is alive =
    command_alive made reply refl alive
line_alive (IsLineAdded.refused n unmet adds made) is alive = absurd (cc)
line_alive (IsLineAdded.failed fault unmet adds made) is alive = absurd (cc)
line_alive IsLineAdded.wanting is alive = absurd (cc)

-- behind lines that were added, where it was so before
pub added_alive : {at : ℕ} {lines : List (List ℕ)} {s t : State}
    {result : Result (Unit {0}) RunFault}
    {old new : Option History} → AreAdded at lines s result t old new → result ≡ Ok tt → Alive old
    → Alive new
added_alive AreAdded.all_added is alive = alive
added_alive (AreAdded.on one rest) is alive = added_alive rest is (line_alive one refl alive)
added_alive (AreAdded.bad one) is alive = absurd (cc)
added_alive (AreAdded.failed fault one) is alive = absurd (cc)
