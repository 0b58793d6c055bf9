-- A sink that was abandoned because it was full.
use Rattle.std.specs.Prelude.{◌≡◌, ◌⊎◌, ℕ, ◌<◌, true, false, IsTrue, List, length, Option}
use Rattle.chk_bytes.specs.Stems.{Stem, is_stem}
use Rattle.chk_site.specs.History.{History, is_stopped}
use Rattle.chk_site.specs.Runs.{Leads}
use Rattle.chk_site.specs.Site.{Adds}
use Rattle.chk_chunk.specs.Keys.{Chunk}
use Rattle.chk_world.specs.Collectors.{Appended, Handling}
use Rattle.chk_world.specs.Laws.{wrote}
use Rattle.chk_world.specs.Places.{As}
use Rattle.chk_sink.specs.Held.{Ready}
use Rattle.chk_sink.specs.States.{State, full_size, process}
use Rattle.chk_collector.specs.Answering.{Taken}
use Rattle.chk_collector.specs.Posting.{ArePosted}

-- more than 2^62 bytes were written to a sink of this start of the collector
pub record HasPassed (collector : List ℕ) (born : ℕ) (history : History) : Type 0 where
  pub stem : Stem
  pub is_one : IsTrue (is_stem stem)
  pub of_collector : stem.collector ≡ collector
  pub of_start : stem.born ≡ born
  pub more : full_size < length (wrote stem history)

-- where a sink is abandoned, one was before, or a sink of the start was full
abbrev pub LeavesFull : State → State → History → Type 0
LeavesFull old new history =
    is_stopped history ≡ false → new.abandoned ≡ true
    → (old.abandoned ≡ true) ⊎ HasPassed old.collector old.born history

-- so it is behind the puts of these chunks
abbrev pub PutsLeaveFull : State → State → List Chunk → Option History → Option History → Type 0
PutsLeaveFull old new chunks told_before told_after =
    (stamped : List (List ℕ)) (handled : List Handling) → ArePosted handled chunks
    → Adds told_before told_after
    (Leads (As stamped (process old)) (Ready stamped old handled) (LeavesFull old new))

-- so it is behind a request
abbrev pub RequestLeavesFull : List ℕ → State → State → Option History → Option History → Type 0
RequestLeavesFull request old new told_before told_after =
    (stamped : List (List ℕ)) (t : ℕ) (earlier : List Appended) (others : List Handling)
    → Adds told_before told_after
    (Leads (As stamped (process old)) (Taken stamped old t request earlier others)
    (LeavesFull old new))
