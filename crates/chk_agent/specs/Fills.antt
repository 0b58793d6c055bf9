-- The reads of a step and of a fill, and what they make of the state.
use Rattle.std.specs.Prelude.{◌≡◌, ℕ, zero, suc, ◌+◌, ◌<◌, true, false, List, [], ◌∷◌, length}
use Rattle.std.specs.Prelude.{slice_get, slice_set, Option, Some, None, Result, Ok, Err}
use Rattle.chk_site.specs.declared.acts.OutsideFault.{OutsideFault}
use Rattle.chk_site.specs.History.{History}
use Rattle.chk_tail.specs.declared.step.Step.{Step}
use Rattle.chk_tail.specs.declared.step.Step.TheVariants.{Bytes, AtEnd as gave_none}
use Rattle.chk_tail.specs.declared.step.Step.TheVariants.{Shrank as is_short}
use Rattle.chk_queue.specs.Queues.{data_size}
use Rattle.chk_agent_adaptor.specs.Adaptors.{Adaptor, is_stepped}
use Rattle.chk_agent_adaptor.specs.Steps.{IsStepped}
use Rattle.chk_agent_delivery.specs.States.{State as Delivery}
use Rattle.chk_agent_delivery.specs.Turns.{with_chunk, is_held}
use Rattle.chk_agent.specs.declared.answers.AgentFault.{AgentFault}
use Rattle.chk_agent.specs.declared.answers.AgentFault.TheVariants.{NoMemory}
use Rattle.chk_agent.specs.declared.answers.Filled.{Filled}
use Rattle.chk_agent.specs.declared.answers.Filled.TheVariants.{Read, AtEnds, Held, Shrank}
use Rattle.chk_agent.specs.declared.answers.Stepped.{Stepped}
use Rattle.chk_agent.specs.declared.answers.Stepped.TheVariants.{Read as step_read}
use Rattle.chk_agent.specs.declared.answers.Stepped.TheVariants.{AtEnd as step_at_end}
use Rattle.chk_agent.specs.declared.answers.Stepped.TheVariants.{Held as step_held}
use Rattle.chk_agent.specs.declared.answers.Stepped.TheVariants.{Shrank as step_shrank}
use Rattle.chk_agent.specs.Faults.{fault_of}
use Rattle.chk_agent.specs.States.{State, process, chunk_given}

-- what a step gave, behind what waits
abbrev pub queued : State → ℕ → Adaptor → Step → Delivery → Delivery
queued s i a (Bytes bytes end) d = with_chunk i (chunk_given s a bytes end) d
queued s i a step d = d

-- the state after a step of the adaptor i, which was a and is b
abbrev pub after_step : ℕ → Step → Adaptor → Adaptor → State → State
after_step i step a b s = record s {
  adaptors = slice_set s.adaptors i b;
  last = Some i;
  delivery = queued s i a step s.delivery;
}

-- the number of bytes of a step; none where the log is shorter than the place
abbrev pub given_bytes : Step → Option ℕ
given_bytes (Bytes bytes end) = Some (length bytes)
given_bytes gave_none = Some 0
given_bytes (is_short had is) = None

-- how a fill ends that gave so many bytes
abbrev pub filled_by : ℕ → Filled
filled_by zero = AtEnds
filled_by (suc n) = Read (suc n)

-- Each of these adaptors is stepped once, by its reads, as far as the queue has room. A refused step changes nothing,
-- and neither does one for whose bytes there was no memory; those before it stay.
pub data IsFilled : List ℕ → ℕ → State → Result Filled AgentFault → State → Option History → Option History → Type 0 where
  all_stepped : {sum : ℕ} {s : State} {now : Option History} → IsFilled [] sum s (Ok (filled_by sum)) s now now
  full : {i : ℕ} {order : List ℕ} {sum : ℕ} {s : State} {now : Option History} → is_held s.delivery ≡ true → 0 < sum
      → IsFilled (i ∷ order) sum s (Ok (Read sum)) s now now
  none_before : {i : ℕ} {order : List ℕ} {s : State} {now : Option History} → is_held s.delivery ≡ true
      → IsFilled (i ∷ order) 0 s (Ok (Held (data_size s.delivery.queue.chunks))) s now now
  stepped : {i : ℕ} {order : List ℕ} {sum : ℕ} {s t : State} {result : Result Filled AgentFault} {old mid new : Option History}
      (a b : Adaptor) (step : Step) (n : ℕ)
      → is_held s.delivery ≡ false → slice_get s.adaptors i ≡ Some a → is_stepped a.phase ≡ true
      → IsStepped (process s) a (Ok step) b old mid → given_bytes step ≡ Some n
      → IsFilled order (sum + n) (after_step i step a b s) result t mid new
      → IsFilled (i ∷ order) sum s result t old new
  shrank : {i : ℕ} {order : List ℕ} {sum : ℕ} {s : State} {old new : Option History} (a b : Adaptor) (had is : ℕ)
      → is_held s.delivery ≡ false → slice_get s.adaptors i ≡ Some a → is_stepped a.phase ≡ true
      → IsStepped (process s) a (Ok (is_short had is)) b old new
      → IsFilled (i ∷ order) sum s (Ok (Shrank i had is)) (after_step i (is_short had is) a b s) old new
  refused : {i : ℕ} {order : List ℕ} {sum : ℕ} {s : State} {old new : Option History} (a b : Adaptor) (fault : OutsideFault)
      → is_held s.delivery ≡ false → slice_get s.adaptors i ≡ Some a → is_stepped a.phase ≡ true
      → IsStepped (process s) a (Err fault) b old new
      → IsFilled (i ∷ order) sum s (Err (fault_of fault)) s old new
  unkept : {i : ℕ} {order : List ℕ} {sum : ℕ} {s : State} {old new : Option History} (a b : Adaptor) (step : Step)
      → is_held s.delivery ≡ false → slice_get s.adaptors i ≡ Some a → is_stepped a.phase ≡ true
      → IsStepped (process s) a (Ok step) b old new
      → IsFilled (i ∷ order) sum s (Err NoMemory) s old new
  wanting : {i : ℕ} {order : List ℕ} {sum : ℕ} {s : State} {now : Option History} → is_held s.delivery ≡ false
      → IsFilled (i ∷ order) sum s (Err NoMemory) s now now

-- what a step of one adaptor answers
abbrev pub step_answer : Step → Stepped
step_answer (Bytes bytes end) = step_read (length bytes)
step_answer gave_none = step_at_end
step_answer (is_short had is) = step_shrank had is

-- The same of one adaptor alone.
pub data IsOneStepped (i : ℕ) (a : Adaptor) (s : State) : Result Stepped AgentFault → State → Option History → Option History → Type 0 where
  held : {now : Option History} → is_held s.delivery ≡ true
      → IsOneStepped i a s (Ok (step_held (data_size s.delivery.queue.chunks))) s now now
  made : {old new : Option History} (b : Adaptor) (step : Step) → is_held s.delivery ≡ false
      → IsStepped (process s) a (Ok step) b old new
      → IsOneStepped i a s (Ok (step_answer step)) (after_step i step a b s) old new
  refused : {old new : Option History} (b : Adaptor) (fault : OutsideFault) → is_held s.delivery ≡ false
      → IsStepped (process s) a (Err fault) b old new
      → IsOneStepped i a s (Err (fault_of fault)) s old new
  unkept : {old new : Option History} (b : Adaptor) (step : Step) → is_held s.delivery ≡ false
      → IsStepped (process s) a (Ok step) b old new
      → IsOneStepped i a s (Err NoMemory) s old new
  wanting : {now : Option History} → is_held s.delivery ≡ false → IsOneStepped i a s (Err NoMemory) s now now
