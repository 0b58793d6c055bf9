-- That a collector gives up no sink of its start, unless one is full.
use Rattle.std.specs.Prelude.{◌≡◌, ◌⊎◌, true, false, IsTrue}
use Rattle.chk_bytes.specs.Stems.{Stem, is_stem}
use Rattle.chk_site.specs.History.{History, is_stopped}
use Rattle.chk_world.specs.NamedEnds.{gave_up}
use Rattle.chk_sink.specs.States.{State as Sinks}
use Rattle.chk_collector.specs.Passing.{HasPassed}

-- no sink of this start was given up when something had been written to it
abbrev pub NoneGivenUp : Sinks → History → Type 0
NoneGivenUp s history =
    (x : Stem) → IsTrue (is_stem x) → x.collector ≡ s.collector → x.born ≡ s.born → gave_up x history ≡ false

-- None was, or a sink of the start has passed 2^62 bytes. Where one is abandoned, one has passed them.
pub record KeepsSinks (s : Sinks) (history : History) : Type 0 where
  pub none : NoneGivenUp s history ⊎ HasPassed s.collector s.born history
  pub full : s.abandoned ≡ true → HasPassed s.collector s.born history

-- the same where the site wasn't stopped
abbrev pub SinksKept : Sinks → History → Type 0
SinksKept s history = is_stopped history ≡ false → KeepsSinks s history
