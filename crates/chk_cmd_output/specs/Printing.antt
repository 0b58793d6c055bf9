-- Lines that a process prints in turn, and what was printed.
use Rattle.std.specs.Prelude.{ℕ, IsTrue, List, [], ◌∷◌, ◌++◌, Option, Result, Ok, Err}
use Rattle.chk_site.specs.declared.acts.Who.{Who}
use Rattle.chk_site.specs.declared.acts.Act.{Act}
use Rattle.chk_site.specs.declared.acts.Call.TheVariants.{Say}
use Rattle.chk_site.specs.declared.acts.CallFault.{CallFault}
use Rattle.chk_site.specs.declared.acts.OutsideFault.{OutsideFault}
use Rattle.chk_site.specs.declared.acts.OutsideFault.TheVariants.{NoMemory as no_memory}
use Rattle.chk_site.specs.declared.acts.ActAnswer.{ActAnswer}
use Rattle.chk_site.specs.declared.acts.ActAnswer.TheVariants.{Done}
use Rattle.chk_site.specs.Acts.{Deed, Says, deed}
use Rattle.chk_site.specs.History.{History}
use Rattle.chk_site.specs.Site.{Adds, Asked, asked, answered, plain, Calls, Ends}
use Rattle.chk_world.specs.ArchiveRuns.{is_one_line}

-- the call that prints a line
abbrev pub printing : Who → List ℕ → Asked
printing who line = asked who Say (line ∷ []) 0 0

-- Each line was printed in its turn, up to one whose printing ended the work. What is printed by a call is one line.
pub data PrintsInTurn (who : Who) : List (List ℕ) → Result Unit OutsideFault → Option History → Option History → Type 0 where
  all_printed : {now : Option History} → PrintsInTurn who [] (Ok tt) now now
  unprinted : {lines : List (List ℕ)} {now : Option History} → PrintsInTurn who lines (Err no_memory) now now
  printed_on : {line : List ℕ} {lines : List (List ℕ)} {result : Result Unit OutsideFault} {old mid new : Option History}
      → IsTrue (is_one_line line) → Adds old mid (Calls (printing who line) (Ok (plain {T = Unit {0}} tt))) → PrintsInTurn who lines result mid new
      → PrintsInTurn who (line ∷ lines) result old new
  ended : {line : List ℕ} {lines : List (List ℕ)} {fault : OutsideFault} {old new : Option History} (given : Result Unit CallFault)
      → IsTrue (is_one_line line) → Ends Say given fault → Adds old new (Calls (printing who line) (answered plain given))
      → PrintsInTurn who (line ∷ lines) (Err fault) old new

-- a text that was printed, and who printed it
pub record Print : Type 0 where
  pub by : Who
  pub text : List ℕ

-- the text, printed by this process
abbrev pub by : Who → List ℕ → Print
by who text = record { by = who; text = text }

abbrev pub print_of : Who → Deed → ActAnswer → List Print
print_of who (Says text) (Done words number of) = by who text ∷ []
print_of who call answer = []

-- what these acts printed, the oldest first; of the acts the newest is the first
abbrev pub printed : List Act → List Print
printed [] = []
printed (act ∷ acts) = printed acts ++ print_of act.who (deed act) act.answer
