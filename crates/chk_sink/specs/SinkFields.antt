-- What the fields of the sinks stand for.
use Rattle.std.specs.Prelude.{◌≡◌, ℕ, ◌+◌, ◌≤◌, ◌<◌, IsTrue, Option, Some, None, option_map}
use Rattle.chk_bytes.specs.Numbers.{limit}
use Rattle.chk_bytes.specs.Stems.{Stem, is_stem, is_collector, is_count}
use Rattle.chk_site.specs.declared.acts.Role.TheVariants.{Collector}
use Rattle.chk_seqfile.specs.Entries.{sync_after}
use Rattle.chk_world.specs.Collectors.{marker}
use Rattle.chk_sink.specs.declared.current.Current.{Current}
use Rattle.chk_sink.specs.declared.sinks.Sinks.TheInside.{Inside}
use Rattle.chk_sink.specs.States.{State, Writing}

-- the sink that is written to
abbrev pub writing_of : Current → Writing
writing_of c = record { size = c.size; sync_end = c.sync_end; marked = c.marked; seen = c.seen }

abbrev pub sinks_view : Inside → State
sinks_view s = record {
  collector = s.who.name;
  born = s.born;
  number = s.number;
  rotate = s.rotate;
  current = option_map writing_of s.current;
  abandoned = s.abandoned;
}

-- it is the stem's sink, behind its header
pub record IsOfStem (x : Stem) (c : Current) : Type 0 where
  pub stem : c.stem ≡ x
  pub good : IsTrue (is_stem x)
  pub marker : c.marker ≡ marker x
  pub begun : 96 ≤ c.size
  pub ordered : c.sync_end ≤ c.size

-- the sink of this stem with its header alone
abbrev pub first_of : Stem → Current
first_of x = record { stem = x; marker = marker x; size = 96; sync_end = 96; marked = 0; seen = None }

-- the sink with a piece more, before which a sync entry stands where one was due
abbrev pub longer : Current → ℕ → Current
longer c n = record {
  stem = c.stem;
  marker = c.marker;
  size = c.size + n;
  sync_end = sync_after c.size c.sync_end;
  marked = c.marked;
  seen = c.seen;
}

abbrev pub IsSoundCurrent : Stem → Option Current → Type 0
IsSoundCurrent x None = Unit {0}
IsSoundCurrent x (Some c) = IsOfStem x c

-- the process is a collector that may have its name, and the numbers make stems
pub record IsSound (s : Inside) : Type 0 where
  pub role : s.who.role ≡ Collector
  pub name : IsTrue (is_collector s.who.name)
  pub born : IsTrue (is_count s.born)
  pub number : s.number < limit
  pub current : IsSoundCurrent (record { collector = s.who.name; born = s.born; number = s.number }) s.current
