-- The own acts of several stretches of steps, and of one call.
use Rattle.std.proofs.Common.{◌≡◌, inl, inr, ℕ, Bool, true, false, List, [], ◌∷◌, Ok, Err, Result, refl, ap}
use Rattle.chk_site.specs.declared.acts.Act.{Act}
use Rattle.chk_site.specs.declared.acts.Call.{Call}
use Rattle.chk_site.specs.declared.acts.Call.TheVariants.{Say}
use Rattle.chk_site.specs.declared.acts.CallFault.{CallFault}
use Rattle.chk_site.specs.declared.acts.CallFault.TheVariants.{Failed, Missing, Exists, Short, NoMemory}
use Rattle.chk_site.specs.declared.acts.ActAnswer.{ActAnswer}
use Rattle.chk_site.specs.declared.acts.ActAnswer.TheVariants.{Refused, Stopped}
use Rattle.chk_site.specs.History.{History, is_stopped}
use Rattle.chk_site.specs.Site.{Asked, asked, answered, plain, Acted, Added, Calls, EndsIn}
use Rattle.chk_site.specs.Runs.{own_acts}
use Rattle.chk_cmd_load.specs.Processes.{chukwa}
use Rattle.chukwa_run.specs.Endings.{SaysAtMost}
use Rattle.chukwa_run.specs.Showing.{FailedLast}
use Rattle.chk_archive.proofs.OnceListed.{theirs_none as no_acts}
use Rattle.chk_cmd_load.proofs.Scripts.{one_act}

-- the act of a call with this answer
abbrev pub made : Asked → ActAnswer → Act
made q answer = record { who = q.who; call = q.call; words = q.words; number = q.number; max = q.max; answer = answer }

-- the newest step's failure is that of the newest act
pub failed_last : (added : History) (call : Call) → EndsIn call added → FailedLast call (own_acts added)
failed_last [] call ends = ends
failed_last (step ∷ added) call ends = rw ends.0 (ends.1, ends.2)

acted_says : (line : List ℕ) (answer : ActAnswer) (added history : History)
    → Acted (asked chukwa Say (line ∷ []) 0 0) answer added history → SaysAtMost line (own_acts added)
acted_says line answer added history acted =
    let q = asked chukwa Say (line ∷ []) 0 0 in
    inr (made q answer, record { who = refl; call = refl; words = refl }, one_act q answer added history acted)

added_says : (line : List ℕ) (r : Result (Unit {0}) CallFault) (added history : History)
    → Added (asked chukwa Say (line ∷ []) 0 0) (answered plain r) added history → SaysAtMost line (own_acts added)
added_says line (Ok value) added history x = acted_says line (plain value) added history x
added_says line (Err Failed) added history (inl x) = acted_says line (Refused Failed) added history x
added_says line (Err Failed) added history (inr x) = acted_says line (Stopped x.0) added history x.1
added_says line (Err Missing) added history x = acted_says line (Refused Missing) added history x
added_says line (Err Exists) added history x = acted_says line (Refused Exists) added history x
added_says line (Err (Short size)) added history x = acted_says line (Refused (Short size)) added history x
added_says line (Err NoMemory) added history x = inl (no_acts added history x)

-- a saying of a line says it at most
pub said_acts : (line : List ℕ) (r : Result (Unit {0}) CallFault) (added history : History)
    → Calls (asked chukwa Say (line ∷ []) 0 0) (answered plain r) added history → SaysAtMost line (own_acts added)
said_acts line r added history calls = by (is_stopped history) refl
  where
    by : (b : Bool) → is_stopped history ≡ b → SaysAtMost line (own_acts added)
    by true e = inl (ap own_acts (calls.stopped e).0)
    by false e = added_says line r added history (calls.running e)
