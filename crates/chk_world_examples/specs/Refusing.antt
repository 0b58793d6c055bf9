-- What is said of a step that is refused: all but one part of what it owes holds, and one beside it is allowed.
use Rattle.std.specs.Prelude.{ℕ, true, List, [], IsTrue}
use Rattle.chk_site.specs.declared.acts.Who.{Who}
use Rattle.chk_site.specs.declared.acts.Call.{Call}
use Rattle.chk_site.specs.declared.acts.ActAnswer.{ActAnswer}
use Rattle.chk_site.specs.Files.{changed}
use Rattle.chk_site.specs.Logs.{logs_changed}
use Rattle.chk_site.specs.Acts.{deed, deed_by, change_of}
use Rattle.chk_site.specs.History.{Step, History, files_after, logs_after}
use Rattle.chk_site.specs.Honest.{Honest}
use Rattle.chk_site.specs.declared.acts.ActAnswer.TheVariants.{Done}
use Rattle.chk_world.specs.Rules.{Obeys, is_named_so, StartsAfterStop, Framed, OnlyWritersGrowLogs, OnlyAgentsPost, RoleMay}

-- what a step owes, but that it is honest and that its process may have its name
pub data Part : Type 0 where
  OwnFiles : Part
  Starting : Part
  TheLogs : Part
  Requests : Part
  TheRule : Part

-- a part that isn't left out
abbrev pub unless : Part → Part → Type 0 → Type 0
unless OwnFiles OwnFiles P = Unit {0}
unless Starting Starting P = Unit {0}
unless TheLogs TheLogs P = Unit {0}
unless Requests Requests P = Unit {0}
unless TheRule TheRule P = Unit {0}
unless left_out part P = P

-- the step owes nothing but that part
pub record ObeysBut (left_out : Part) (history : History) (step : Step) : Type 0 where
  pub honest : Honest history step
  pub named : IsTrue (is_named_so step.act.who.role step.act.who.name)
  pub starts : unless left_out Starting (StartsAfterStop step.act.who history (deed step.act))
  pub own_files : unless left_out OwnFiles (Framed step.act.who (files_after history) (deed step.act))
  pub logs : unless left_out TheLogs (OnlyWritersGrowLogs step.act.who.role (deed step.act))
  pub requests : unless left_out Requests (OnlyAgentsPost step.act.who.role (deed step.act))
  pub rule : unless left_out TheRule (RoleMay [] step.act.who.role history step)

-- the step of a call that was done
abbrev pub next_by : Who → Call → List (List ℕ) → ℕ → ℕ → ActAnswer → History → Step
next_by who call words number max answer history = record {
  own = true;
  act = record { who = who; call = call; words = words; number = number; max = max; answer = answer };
  files = changed (change_of (deed_by call words number max)) (files_after history);
  logs = logs_changed (change_of (deed_by call words number max)) (logs_after history);
}

-- the step of a call that is given no number
abbrev pub by : Who → Call → List (List ℕ) → History → Step
by who call words history = next_by who call words 0 0 (Done [] 0 0) history

-- at the first moment the step is refused for that part alone. At the second one the other step obeys all rules
pub record Apart (part : Part) (history : History) (step : History → Step) (beside : History) (other : History → Step) : Type 0 where
  pub others : ObeysBut part history (step history)
  pub refused : Obeys [] history (step history) → ⊥
  pub allowed : Obeys [] beside (other beside)
