-- What the fields of the buffers stand for.
use Rattle.std.specs.Prelude.{◌≡◌, ◌≤◌, option_map, string_bytes}
use Rattle.chk_wahead.specs.declared.wahead.Buffer.{Buffer}
use Rattle.chk_wahead.specs.declared.wahead.Wahead.TheInside.{Inside}
use Rattle.chk_wahead.specs.Names.{next_name, buffer_name, mark_name}
use Rattle.chk_wahead.specs.States.{State, Held, last_number}

-- the buffer that is written to
abbrev pub held_of : Buffer → Held
held_of b = record { length_now = b.length; marked = b.marked }

abbrev pub wahead_view : Inside → State
wahead_view w = record {
  who = w.who;
  number = w.number;
  held = option_map held_of w.held;
  ready = w.ready;
}

-- these are the names of its files
pub record IsSound (w : Inside) : Type 0 where
  pub next : string_bytes w.next ≡ next_name w.who.name
  pub buffer : string_bytes w.buffer ≡ buffer_name w.who.name
  pub mark : string_bytes w.mark ≡ mark_name w.who.name
  pub number : w.number ≤ last_number
