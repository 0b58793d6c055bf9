-- What a watcher prints of one collector, beside what passes of it.
use Rattle.std.specs.Prelude.{◌≡◌, ◌⊎◌, ℕ, true, List, [], ◌∷◌, ◌++◌, bytes_eq, filter, Result}
use Rattle.chk_bytes.specs.Words.{BeginsWith}
use Rattle.chk_site.specs.declared.acts.OutsideFault.{OutsideFault}
use Rattle.chk_site.specs.declared.acts.Who.{Who}
use Rattle.chk_site.specs.History.{History}
use Rattle.chk_tee.specs.Messages.{Teed, IsTee}
use Rattle.chk_tee.specs.declared.filters.Filter.{Filter}
use Rattle.chk_tee_sender.specs.Sieves.{rises}
use Rattle.chk_cmd_subscribe.specs.Told.{places, PrintsUpTo, all_lines}
use Rattle.chk_cmd_subscribe.specs.Taking.{HasTaken}
use Rattle.chk_tee_laws.specs.Passed.{HasPassed, IsMessageOf, collector_named}

-- those of the chunks that stand in sinks of the collector
abbrev pub of_collector : List ℕ → List Teed → List Teed
of_collector name items = filter (λ t. bytes_eq t.stem.collector name) items

-- the first are some of the second, in their order, each taken once
abbrev pub IsPart : List Teed → List Teed → Type 0
IsPart [] ts = Unit {0}
IsPart (u ∷ us) [] = ⊥
IsPart (u ∷ us) (t ∷ ts) = ((u ≡ t) × IsPart us ts) ⊎ IsPart (u ∷ us) ts

-- one of the chunks stands in a sink of the collector
abbrev pub HasSome : List ℕ → List Teed → Type 0
HasSome name [] = ⊥
HasSome name (t ∷ ts) = (t.stem.collector ≡ name) ⊎ HasSome name ts

-- Of the messages that the process took, at whatever moment it looks at one, each that has a
-- chunk of the collector is a front
-- of a message that the collector has for this filter. Of others, and of what is no message,
-- nothing is supposed.
abbrev pub TookOf : Who → List ℕ → Filter → History → Type 0
TookOf who name f history =
    (items : List Teed) (bytes : List ℕ) → HasTaken who bytes history → IsTee items bytes
    → HasSome name items
    → (message : List ℕ) × IsMessageOf (collector_named name) f history message
    × BeginsWith message bytes

-- the chunks of the collector are a part of what passes of it
abbrev pub ArePassed : List ℕ → Filter → History → List Teed → Type 0
ArePassed name f history chunks =
    (items : List Teed) → HasPassed (collector_named name) f history items
    → IsPart (of_collector name chunks) items

-- What was printed are the lines of these chunks, each of which lies above those before it of its
-- collector, and how many they are. Those of each collector are a part of what passes of it, under
-- the filter by which it was sent what the process took.
pub record PrintsPassed (who : Who) (result : Result (Unit {0}) OutsideFault)
    (added history : History) : Type 0 where
  pub chunks : List Teed
  pub refused : ℕ
  pub prints : PrintsUpTo who result (all_lines chunks refused) added
  pub rise : rises [] (places chunks) ≡ true
  pub passed : (name : List ℕ) (f : Filter) → TookOf who name f (added ++ history)
      → ArePassed name f (added ++ history) chunks
