-- The sinks of one start of a collector, as callers see them.
use Rattle.std.specs.Prelude.{◌≡◌, ℕ, ◌+◌, ◌-◌, ◌≤◌, ◌^◌, Bool, true, false, ◌||◌, ◌&&◌, nat_lt, nat_le, List, IsTrue, is_some, if◌then◌else◌, Option, Some, None, option_map, Result, Ok, Err}
pub use Rattle.chk_bytes.specs.Numbers.{last_number}
use Rattle.chk_bytes.specs.Stems.{Stem}
use Rattle.chk_site.specs.declared.acts.Role.TheVariants.{Collector}
use Rattle.chk_site.specs.declared.acts.Who.{Who}
use Rattle.chk_site.specs.declared.acts.CallFault.{CallFault}
use Rattle.chk_site.specs.declared.acts.CallFault.TheVariants.{NoMemory}
use Rattle.chk_site.specs.declared.acts.OutsideFault.{OutsideFault}
use Rattle.chk_site.specs.declared.acts.OutsideFault.TheVariants.{NoMemory as no_memory}

-- the sink that is written to: its length, where its header or last sync entry ends, the number in its mark or 0,
-- and the moment of the first tick that saw it
pub record Writing : Type 0 where
  pub size : ℕ
  pub sync_end : ℕ
  pub marked : ℕ
  pub seen : Option ℕ

-- the collector, the number of its start, the number of the sink that it created last, after how many milliseconds
-- a sink is closed, the one that is written to, and whether others may have been left under writing
pub record State : Type 0 where
  pub collector : List ℕ
  pub born : ℕ
  pub number : ℕ
  pub rotate : ℕ
  pub current : Option Writing
  pub abandoned : Bool

-- the process that writes them
abbrev pub process : State → Who
process s = record { role = Collector; name = s.collector }

-- the sink created last
abbrev pub last_stem : State → Stem
last_stem s = record { collector = s.collector; born = s.born; number = s.number }

-- the one that is created next
abbrev pub next_stem : State → Stem
next_stem s = record { collector = s.collector; born = s.born; number = s.number + 1 }

-- they are of the same start, and a sink that was left under writing may still be there
pub record IsSameStart (old new : State) : Type 0 where
  pub collector : new.collector ≡ old.collector
  pub born : new.born ≡ old.born
  pub rotate : new.rotate ≡ old.rotate
  pub number : old.number ≤ new.number

-- with another sink that is written to
abbrev pub with_current : State → Option Writing → State
with_current s current = record {
  collector = s.collector;
  born = s.born;
  number = s.number;
  rotate = s.rotate;
  current = current;
  abandoned = s.abandoned;
}

-- the sink that is written to is abandoned, where there is one
abbrev pub let_go : State → State
let_go s = record {
  collector = s.collector;
  born = s.born;
  number = s.number;
  rotate = s.rotate;
  current = None;
  abandoned = s.abandoned || is_some s.current;
}

-- nothing is written to, and a sink may have been left under writing
abbrev pub given_up : State → State
given_up s = record {
  collector = s.collector;
  born = s.born;
  number = s.number;
  rotate = s.rotate;
  current = None;
  abandoned = true;
}

-- after a call on the sink that is written to: it is this one where the call was done, and else it is abandoned
abbrev pub kept_where_done : State → Writing → Result (Unit {0}) OutsideFault → State
kept_where_done s next (Ok value) = with_current s (Some next)
kept_where_done s next (Err fault) = given_up s

-- after an append to it: one that wanted memory was none
abbrev pub grown_where_done : State → Writing → Result (Unit {0}) OutsideFault → State
grown_where_done s next (Err no_memory) = s
grown_where_done s next done = kept_where_done s next done

-- one more sink was created, which is abandoned as yet
abbrev pub one_more : State → State
one_more s = record {
  collector = s.collector;
  born = s.born;
  number = s.number + 1;
  rotate = s.rotate;
  current = None;
  abandoned = true;
}

-- after a creation; one that wanted memory was none
abbrev pub counted : State → Result (Unit {0}) CallFault → State
counted s (Err NoMemory) = s
counted s given = one_more s

-- the sink created last is written to
abbrev pub begun : State → Writing → Bool → State
begun s current abandoned = record {
  collector = s.collector;
  born = s.born;
  number = s.number;
  rotate = s.rotate;
  current = Some current;
  abandoned = abandoned;
}

-- so it is
pub record IsAbandoned (s : State) : Type 0 where
  pub current : s.current ≡ None
  pub abandoned : s.abandoned ≡ true

-- its mark says all of it
abbrev pub all_marked : Writing → Writing
all_marked o = record { size = o.size; sync_end = o.sync_end; marked = o.size; seen = o.seen }

-- the mark of the sink that is written to says all of it
abbrev pub committed_state : State → State
committed_state s = with_current s (option_map all_marked s.current)

-- a sink of more bytes is written to no more
abbrev pub full_size : ℕ
full_size = 2 ^ 62

-- the next sink is to be created: none is written to, or it is full
abbrev pub needs_next : Option Writing → Bool
needs_next None = true
needs_next (Some o) = nat_lt full_size o.size

-- a full sink is abandoned
abbrev pub without_full : State → State
without_full s = if needs_next s.current then let_go s else s

-- the next sink is to be created, and there is no number for it
abbrev pub IsSpent : State → Type 0
IsSpent s = IsTrue (needs_next s.current) × (s.number ≡ last_number)

-- no other sink is under writing
abbrev pub settled_state : State → State
settled_state s = record {
  collector = s.collector;
  born = s.born;
  number = s.number;
  rotate = s.rotate;
  current = s.current;
  abandoned = false;
}

-- a sink of so many bytes is closed
abbrev pub large_size : ℕ
large_size = 67108864

-- the moment of the first tick that saw the sink, where this one is at `now`
abbrev pub seen_first : Option ℕ → ℕ → ℕ
seen_first None now = now
seen_first (Some first) now = first

-- so many milliseconds have passed; none have where the clock fell
abbrev pub has_passed : ℕ → ℕ → ℕ → Bool
has_passed first now rotate = nat_le first now && nat_le (first + rotate) now

-- the sink is closed by a tick at this moment
abbrev pub is_closed_at : ℕ → ℕ → Writing → Bool
is_closed_at rotate now o = nat_le large_size o.size || has_passed (seen_first o.seen now) now rotate

-- the sink after a tick at this moment
abbrev pub ticked : ℕ → ℕ → Option Writing → Option Writing
ticked rotate now None = None
ticked rotate now (Some o) =
    if is_closed_at rotate now o then None
    else Some (record { size = o.size; sync_end = o.sync_end; marked = o.size; seen = Some (seen_first o.seen now) })

-- the sinks after a tick at this moment: none is left
abbrev pub ticked_state : ℕ → State → State
ticked_state now s = record {
  collector = s.collector;
  born = s.born;
  number = s.number;
  rotate = s.rotate;
  current = ticked s.rotate now s.current;
  abandoned = false;
}
