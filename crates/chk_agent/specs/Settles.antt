-- A settle: which adaptors go back, and when the checkpoint is written.
use Rattle.std.specs.Prelude.{◌≡◌, ◌≢◌, ℕ, suc, true, false, List, [], ◌∷◌, length, slice_index}
use Rattle.std.specs.Prelude.{if◌then◌else◌, Option, Result, Ok, Err}
use Rattle.chk_site.specs.declared.acts.Call.{Call}
use Rattle.chk_site.specs.declared.acts.OutsideFault.{OutsideFault}
use Rattle.chk_site.specs.declared.acts.OutsideFault.TheVariants.{Outside as site_failed}
use Rattle.chk_site.specs.declared.acts.OutsideFault.TheVariants.{NoMemory as no_memory}
use Rattle.chk_site.specs.History.{History}
use Rattle.chk_site.specs.Runs.{MadeInTurn}
use Rattle.chk_replace.specs.Replace.{replacement}
use Rattle.chk_checkpoint.specs.Lines.{written_text}
use Rattle.chk_world.specs.Names.{CheckFile, spell}
use Rattle.chk_world.specs.Checkpoints.{Line}
use Rattle.chk_agent_adaptor.specs.Adaptors.{Adaptor, sent_back, settled_one}
use Rattle.chk_agent_delivery.specs.Turns.{without_adaptors, expired_in, is_one_of}
use Rattle.chk_agent.specs.declared.answers.AgentFault.{AgentFault}
use Rattle.chk_agent.specs.declared.answers.AgentFault.TheVariants.{Outside, NoMemory}
use Rattle.chk_agent.specs.declared.answers.Settled.{Settled}
use Rattle.chk_agent.specs.States.{State, process, lines_of}

-- these adaptors are back at their committed ends
abbrev pub all_back : List ℕ → List ℕ → ℕ → List Adaptor → List Adaptor
all_back gone committed i [] = []
all_back gone committed i (a ∷ adaptors) =
    (if is_one_of gone i then sent_back (slice_index committed i) a else a) ∷ all_back gone committed (suc i) adaptors

abbrev pub reset : List ℕ → State → State
reset gone s = record s {
  adaptors = all_back gone s.delivery.table.committed 0 s.adaptors;
  delivery = without_adaptors gone s.delivery;
}

-- those that came to their end are past, and what lies below the committed ends is forgotten
abbrev pub settled_all : List Adaptor → List ℕ → List Adaptor
settled_all [] ends = []
settled_all (a ∷ adaptors) [] = a ∷ settled_all adaptors []
settled_all (a ∷ adaptors) (o ∷ ends) = settled_one o a ∷ settled_all adaptors ends

abbrev pub settled : State → State
settled s = record s { adaptors = settled_all s.adaptors s.delivery.table.committed }

-- the lines are saved; or the file may be the old one or the new one
abbrev pub saved_now : State → State
saved_now s = record s { saved = lines_of s }

abbrev pub unsure : State → State
unsure s = record s { ready = false }

-- the checkpoint of these lines was written, with this answer
abbrev pub Writes : State → List Line → Result (Unit {0}) OutsideFault → Option History → Option History → Type 0
Writes s lines result old new =
    MadeInTurn (replacement (process s) (spell (CheckFile s.source)) (written_text lines)) result old new

-- the adaptors that go back at this moment
abbrev pub gone_at : ℕ → State → List ℕ
gone_at now s = expired_in now s.delivery

-- The expired adaptors go back; where a line is another one then, the checkpoint is replaced. Without memory for the first
-- nothing changes; where the writing was refused they have gone back. The file is then the old one where memory was wanting,
-- and may be the old one or the new one where a call failed.
pub data IsSettled (now : ℕ) (s : State) : Result Settled AgentFault → State → Option History → Option History → Type 0 where
  same : {at : Option History} → lines_of (settled (reset (gone_at now s) s)) ≡ s.saved
      → IsSettled now s (Ok (record { reset = length (gone_at now s); written = false }))
      (settled (reset (gone_at now s) s)) at at
  written : {old new : Option History} → lines_of (settled (reset (gone_at now s) s)) ≢ s.saved
      → Writes s (lines_of (settled (reset (gone_at now s) s))) (Ok tt) old new
      → IsSettled now s (Ok (record { reset = length (gone_at now s); written = true }))
      (saved_now (settled (reset (gone_at now s) s))) old new
  failed : {old new : Option History} (call : Call) → lines_of (settled (reset (gone_at now s) s)) ≢ s.saved
      → Writes s (lines_of (settled (reset (gone_at now s) s))) (Err (site_failed call)) old new
      → IsSettled now s (Err (Outside call)) (unsure (reset (gone_at now s) s)) old new
  unwritten : {old new : Option History} → lines_of (settled (reset (gone_at now s) s)) ≢ s.saved
      → Writes s (lines_of (settled (reset (gone_at now s) s))) (Err no_memory) old new
      → IsSettled now s (Err NoMemory) (reset (gone_at now s) s) old new
  wanting : {at : Option History} → IsSettled now s (Err NoMemory) s at at
