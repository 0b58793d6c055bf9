-- What a writer's buffers are seen as, and what each call makes of it.
use Rattle.std.specs.Prelude.{ℕ, ◌+◌, Bool, false, Option, Some, None, Result, Ok, Err}
pub use Rattle.chk_bytes.specs.Numbers.{last_number}
use Rattle.chk_site.specs.declared.acts.Who.{Who}
use Rattle.chk_site.specs.declared.acts.OutsideFault.{OutsideFault}

-- the buffer that is written to: its length, and how much of it its mark says
pub record Held : Type 0 where
  pub length_now : ℕ
  pub marked : ℕ

-- the writer, the number of its last buffer, the buffer that is written to, and whether no call was refused
pub record State : Type 0 where
  pub who : Who
  pub number : ℕ
  pub held : Option Held
  pub ready : Bool

-- the length of the buffer that is written to, 0 without one
abbrev pub length_of : Option Held → ℕ
length_of None = 0
length_of (Some h) = h.length_now

-- a refusal leaves all else as it was
abbrev pub given_up : State → State
given_up s = record s { ready = false }

-- after the calls: this number and this buffer where they were done
abbrev pub left : State → ℕ → Option Held → Result (Unit {0}) OutsideFault → State
left s number held (Ok value) = record s { number = number; held = held }
left s number held (Err fault) = given_up s

-- a buffer with so many bytes more
abbrev pub longer : ℕ → Option Held → Held
longer n None = record { length_now = n; marked = 0 }
longer n (Some h) = record { length_now = h.length_now + n; marked = h.marked }

-- a mark that says all of it
abbrev pub all_marked : Option Held → Option Held
all_marked None = None
all_marked (Some h) = Some (record { length_now = h.length_now; marked = h.length_now })
