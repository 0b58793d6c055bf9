-- Which calls a round makes, and which of its processes makes them.
use Rattle.std.specs.Prelude.{◌≡◌, ◌⊎◌, ℕ, List, [], ◌++◌, codes, IsFalse}
use Rattle.chk_bytes.specs.Stems.{Stem}
use Rattle.chk_site.specs.declared.acts.Role.TheVariants.{Agent, Collector}
use Rattle.chk_site.specs.declared.acts.Who.{Who}
use Rattle.chk_site.specs.Acts.{Deed, ReadsLog, AsksNewest, Sends, Gets, Takes, Answers, Lists, deed}
use Rattle.chk_site.specs.History.{Step, History}
use Rattle.chk_site.specs.Logs.{Part}
use Rattle.chk_site.specs.Messages.{self_address}
use Rattle.chk_site.specs.Runs.{Owns}
use Rattle.chk_replace.specs.Replace.{replacement}
use Rattle.chk_world.specs.Knowing.{agent}
use Rattle.chk_world.specs.Names.{CheckFile, spell}
use Rattle.chk_world.specs.Places.{is_message}
use Rattle.chk_world.specs.Sight.{job}
use Rattle.chk_world.specs.Together.{IsByOne}
use Rattle.chk_world.specs.Works.{IsOneOf}
use Rattle.chk_sink.specs.Closing.{closing, publishing}
use Rattle.chk_sink.specs.Works.{IsMaking, OfLeft, OfQuestion, OfStart}
use Rattle.chk_archive.specs.Archived.{ArchivesBy}
use Rattle.chk_round.specs.Processes.{c1, processes}
use Rattle.chk_round.specs.Starts.{EndsWithClock}

-- ---- behind the starts

-- A collector takes the message that waits inside the process and answers it, makes sinks and
-- appends to them, asks for committed lengths, and settles, commits and closes its sinks.
pub data CollectsBy (who : Who) : Deed → Type 0 where
  takes : CollectsBy who (Takes self_address 0)
  answers : (taking : ℕ) (reply : List ℕ) → CollectsBy who (Answers taking reply)
  puts : (x : Stem) (call : Deed) → IsMaking x call → CollectsBy who call
  asks : (x : Stem) (call : Deed) → OfQuestion x call → CollectsBy who call
  lists : CollectsBy who (Lists (codes "sinks"))
  settles : (x : Stem) → x.collector ≡ who.name → (call : Deed) → OfLeft x call
      → CollectsBy who call
  commits : (x : Stem) (size : ℕ) → x.collector ≡ who.name → (call : Deed)
      → IsOneOf (publishing who x size) call → CollectsBy who call
  closes : (x : Stem) → x.collector ≡ who.name → (call : Deed) → IsOneOf (closing who x) call
      → CollectsBy who call

-- An agent replaces its checkpoint, sends messages inside the process, and asks for the answers.
pub data TalksBy (who : Who) : Deed → Type 0 where
  saves : (text : List ℕ) (call : Deed)
      → IsOneOf (replacement who (spell (CheckFile who.name)) text) call → TalksBy who call
  sends : (message : ℕ) (bytes : List ℕ) → TalksBy who (Sends message self_address bytes)
  gets : (message : ℕ) → TalksBy who (Gets message)

-- It reads logs, and asks for the newest generation of one.
pub data ReadsBy : Deed → Type 0 where
  reads_log : (path : List ℕ) (part : Part) (at max : ℕ) → ReadsBy (ReadsLog path part at max)
  asks_newest : (path : List ℕ) → ReadsBy (AsksNewest path)

-- the call of one of the processes, which reads no log
pub data IsRestCall : Who → Deed → Type 0 where
  collects : (who : Who) → who.role ≡ Collector → (call : Deed) → CollectsBy who call
      → IsRestCall who call
  talks : (who : Who) → who.role ≡ Agent → (call : Deed) → TalksBy who call → IsRestCall who call
  archives : (call : Deed) → ArchivesBy call → IsRestCall job call

-- the call of one of the processes
pub data IsRoundCall : Who → Deed → Type 0 where
  rests : (who : Who) (call : Deed) → IsRestCall who call → IsRoundCall who call
  reads : (who : Who) → who.role ≡ Agent → (call : Deed) → ReadsBy call → IsRoundCall who call

abbrev pub IsRestStep : History → Step → Type 0
IsRestStep before step = IsRestCall step.act.who (deed step.act)

abbrev pub IsRoundStep : History → Step → Type 0
IsRoundStep before step = IsRoundCall step.act.who (deed step.act)

-- each own step is such a call, and none reads a log
abbrev pub RestCalls : History → History → Type 0
RestCalls = Owns IsRestStep

-- each own step is such a call
abbrev pub RoundCalls : History → History → Type 0
RoundCalls = Owns IsRoundStep

-- ---- the starts

-- The collector starts, and settles what earlier starts left. The agent starts, of which it is said
-- only that it makes no message, and asks for the time.
abbrev pub IsStarting : List ℕ → History → Step → Type 0
IsStarting source before step =
    ((step.act.who ≡ c1) × OfStart c1 (deed step.act))
    ⊎ ((step.act.who ≡ agent source) × IsFalse (is_message step.act.call))

-- ---- all of a round

-- the last one of these calls asked for the time
abbrev pub AskedTime : List ℕ → History → History → Type 0
AskedTime source added history = (now : ℕ) × EndsWithClock (agent source) now added history

-- First come the calls of the starts, of which the last one asks for the time, and behind them only
-- the calls above.
pub record BegunActs (source : List ℕ) (added history : History) : Type 0 where
  pub rest : History
  pub starting : History
  pub split : added ≡ rest ++ starting
  pub starts : Owns (IsStarting source) starting history
  pub calls : RoundCalls rest (starting ++ history)
  pub time : (rest ≡ []) ⊎ AskedTime source starting history

-- the same, where the starts were done
abbrev pub TimedActs : List ℕ → History → History → Type 0
TimedActs source added history =
    (x : BegunActs source added history) × AskedTime source x.starting history

-- So the own steps of a round go, and each is by one of its three processes.
pub record RoundActs (source : List ℕ) (added history : History) : Type 0 where
  pub three : Owns (IsByOne (processes source)) added history
  pub begun : BegunActs source added history
