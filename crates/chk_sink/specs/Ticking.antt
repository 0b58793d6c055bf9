-- The parts of a tick.
use Rattle.std.specs.Prelude.{ℕ, Bool, false, Option, Some, None, option_map}
use Rattle.chk_sink.specs.declared.current.Current.{Current}
use Rattle.chk_sink.specs.States.{State, Writing, seen_first, is_closed_at, ticked, with_current}

-- a tick at this moment closes the sink that is written to
abbrev pub is_due_in : ℕ → ℕ → Option Writing → Bool
is_due_in rotate now None = false
is_due_in rotate now (Some o) = is_closed_at rotate now o

-- the same of the sinks
abbrev pub is_due : ℕ → State → Bool
is_due now s = is_due_in s.rotate now s.current

-- the sink was seen by a tick at this moment
abbrev pub seen_writing : ℕ → Writing → Writing
seen_writing now o = record { size = o.size; sync_end = o.sync_end; marked = o.marked; seen = Some (seen_first o.seen now) }

-- the same of its fields
abbrev pub seen_by : ℕ → Current → Current
seen_by now c = record {
  stem = c.stem;
  marker = c.marker;
  size = c.size;
  sync_end = c.sync_end;
  marked = c.marked;
  seen = Some (seen_first c.seen now);
}

abbrev pub seen_state : ℕ → State → State
seen_state now s = with_current s (option_map (seen_writing now) s.current)

-- the sinks after a tick at this moment, where none was left under writing before it
abbrev pub noted_state : ℕ → State → State
noted_state now s = with_current s (ticked s.rotate now s.current)
