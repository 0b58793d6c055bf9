-- The questions for a sink's committed length.
use Rattle.std.specs.Prelude.{◌≡◌, ℕ, true, false, IsTrue, List, is_some, None, Result, Ok, Err}
use Rattle.chk_bytes.specs.Numbers.{spelled}
use Rattle.chk_bytes.specs.Stems.{Stem, is_stem, is_collector}
use Rattle.chk_site.specs.declared.acts.Who.{Who}
use Rattle.chk_site.specs.History.{History, files_after}
use Rattle.chk_http_grammar.specs.Messages.{Ack}
use Rattle.chk_world.specs.Names.{DoneFile, file}
use Rattle.chk_world.specs.Collectors.{Handling, is_quiet}
use Rattle.chk_world.specs.Places.{AtTold}
use Rattle.chk_sink.specs.declared.fault.SinkFault.{SinkFault}
use Rattle.chk_sink.specs.declared.fault.SinkFault.TheVariants.{Damaged, NoMemory}
use Rattle.chk_sink.specs.States.{State, process, last_stem}
use Rattle.chk_sink.specs.Asked.{Counts, QuietSince}
use Rattle.chk_sink.specs.Damage.{is_number_from}
pub use Rattle.chk_site.specs.Once.{TakenOnce}

-- the stems have these lengths, and where nobody touched the sink x since the taking it isn't done
pub record CountsOpen (s : State) (handled : List Handling) (t : ℕ) (stems : List Stem) (acks : List Ack) (x : Stem)
    (history : History) : Type 0 where
  pub counts : Counts s handled t stems acks history
  pub not_done : is_quiet (process s) x t history ≡ true → file (files_after history) (DoneFile x) ≡ None

-- the same of a told history
abbrev pub CountedOpen : List (List ℕ) → State → List Handling → ℕ → List Stem → List Ack → Stem → History → Type 0
CountedOpen stamped s handled t stems acks x history =
    AtTold stamped (process s) (CountsOpen s handled t stems acks x) history

-- where the steps since then leave the sink alone, it isn't done
abbrev pub OpenSince : List (List ℕ) → State → History → Stem → History → Type 0
OpenSince stamped s earlier x history =
    AtTold stamped (process s) (QuietSince (process s) x earlier (λ h. file (files_after h) (DoneFile x) ≡ None)) history

-- the process is that of the sinks, and may have its name; a sink that is written to is a stem's
pub record IsAsker (who : Who) (s : State) : Type 0 where
  pub who_is : who ≡ process s
  pub named : IsTrue (is_collector s.collector)
  pub stem : is_some s.current ≡ true → IsTrue (is_stem (last_stem s))

-- the bytes are a mark and this is its number, or they are none and the mark is damaged
abbrev pub IsMarkNumber : List ℕ → List ℕ → Result ℕ SinkFault → Type 0
IsMarkNumber name bytes (Ok n) = (is_number_from 96 bytes ≡ true) × (n ≡ spelled bytes)
IsMarkNumber name bytes (Err (Damaged w at)) = (is_number_from 96 bytes ≡ false) × (w ≡ name) × (at ≡ 0)
IsMarkNumber name bytes (Err NoMemory) = Unit {0}
IsMarkNumber name bytes (Err fault) = ⊥
