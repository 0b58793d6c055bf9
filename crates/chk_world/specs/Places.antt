-- What a library that calls the outside says of the told history: that it is legal, and a fact of what its
-- process sees and of some of its files. What others do leaves such a fact as it is.
use Rattle.std.specs.Prelude.{◌≡◌, ℕ, Bool, true, false, IsTrue, IsFalse, MatchBool, List, ◌∷◌, codes, Option}
use Rattle.chk_site.specs.declared.acts.Role.{Role}
use Rattle.chk_site.specs.declared.acts.Role.TheVariants.{Agent, Collector, Job}
use Rattle.chk_site.specs.declared.acts.Who.{Who}
use Rattle.chk_site.specs.declared.acts.ActAnswer.{ActAnswer}
use Rattle.chk_site.specs.declared.acts.ActAnswer.TheVariants.{Stopped}
use Rattle.chk_site.specs.Files.{File}
use Rattle.chk_site.specs.declared.acts.Call.{Call}
use Rattle.chk_site.specs.declared.acts.Call.TheVariants.{Send, Take, More, Answer}
use Rattle.chk_site.specs.Acts.{same_who}
use Rattle.chk_site.specs.Runs.{Side}
use Rattle.chk_site.specs.History.{Step, History, files_after, is_stopped, since_start}
use Rattle.chk_world.specs.Names.{Name, BornFile, SinkFile, MarkFile, CheckFile, BookFile, SegmentFile, Temporary, file, is_known, stop_names}
use Rattle.chk_world.specs.Collectors.{View, view}
use Rattle.chk_world.specs.ArchiveRuns.{Listing, last_listing}
use Rattle.chk_world.specs.Rules.{Obeys, Legal, is_named_so, must_start}

-- the act is a stop that names a file of the process
abbrev pub touched_by_stop : Who → ActAnswer → Bool
touched_by_stop who (Stopped left) = stop_names who left
touched_by_stop who answer = false

-- what is supposed of a step of others: it obeys its rule, is by another process, and is no stop that names
-- a file of this one
pub record Foreign (stamped : List (List ℕ)) (who : Who) (history : History) (step : Step) : Type 0 where
  pub obeys : Obeys stamped history step
  pub other : IsFalse (same_who who step.act.who)
  pub spares : IsFalse (touched_by_stop who step.act.answer)

-- the call sends, takes or answers a message
abbrev pub is_message : Call → Bool
is_message Send = true
is_message Take = true
is_message More = true
is_message Answer = true
is_message call = false

-- what is promised of a step of the site's own: it is by this process, and was made while the site wasn't stopped
pub record IsMadeBy (who : Who) (before : History) (step : Step) : Type 0 where
  pub by : step.act.who ≡ who
  pub running : is_stopped before ≡ false

-- what is promised of a step of the site's own that leaves the messages alone: it is by this process, and was made while the
-- site wasn't stopped
pub record IsBy (who : Who) (before : History) (step : Step) : Type 0 where
  pub by : step.act.who ≡ who
  pub running : is_stopped before ≡ false
  pub quiet : IsFalse (is_message step.act.call)

-- the side of a process
abbrev pub As : List (List ℕ) → Who → Side
As stamped who = record { others = Foreign stamped who; own = IsBy who }

-- the side of a process that also sends, takes or answers messages
abbrev pub Talking : List (List ℕ) → Who → Side
Talking stamped who = record { others = Foreign stamped who; own = IsMadeBy who }

-- the side of a process for one call of this kind
abbrev pub Making : List (List ℕ) → Who → Call → Side
Making stamped who call = record {
  others = Foreign stamped who;
  own = λ before step. MatchBool (is_message call) (IsMadeBy who before step) (IsBy who before step);
}

-- the file is the process's own, and no done sink, which the job may remove
abbrev pub IsOwnBy : Role → List ℕ → Name → Type 0
IsOwnBy Collector name (BornFile c) = name ≡ c
IsOwnBy Collector name (SinkFile x) = name ≡ x.collector
IsOwnBy Collector name (MarkFile x) = name ≡ x.collector
IsOwnBy Agent name (CheckFile source) = name ≡ source
IsOwnBy Job name (BookFile folder) = name ≡ codes "job"
IsOwnBy Job name (SegmentFile folder n) = name ≡ codes "job"
IsOwnBy role name (Temporary n) = IsOwnBy role name n
IsOwnBy role name n = ⊥

-- one of the program's files that is the process's own
pub record IsOwn (who : Who) (n : Name) : Type 0 where
  pub own : IsOwnBy who.role who.name n
  pub known : IsTrue (is_known n)

-- the history is legal; where the site wasn't stopped, the process may act, and P holds
pub record AtTold (stamped : List (List ℕ)) (who : Who) (P : History → Type 0) (history : History) : Type 0 where
  pub legal : Legal stamped history
  pub may_act : is_stopped history ≡ false → must_start who history ≡ false
  pub alive : is_stopped history ≡ false → P history

-- a process, what its rule sees of a history, and three files of its own
pub record Place (V : Type 0) : Type 0 where
  pub who : Who
  pub sees : History → V
  pub first : Name
  pub second : Name
  pub third : Name

-- P holds of what the process sees and of these files
abbrev pub SeenAt : {V : Type 0} → Place V → (V → Option File → Option File → Option File → Type 0) → History → Type 0
SeenAt p P history =
    P (p.sees history) (file (files_after history) p.first) (file (files_after history) p.second)
    (file (files_after history) p.third)

-- the history is legal, and where the site wasn't stopped P holds of what the process sees and of these files
abbrev pub AtPlace : {V : Type 0} → List (List ℕ) → Place V → (V → Option File → Option File → Option File → Type 0)
    → History → Type 0
AtPlace stamped p P history = AtTold stamped p.who (SeenAt p P) history

-- the place of a collector: it sees its view
abbrev pub collector_at : Who → Name → Name → Name → Place View
collector_at who first second third =
    record { who = who; sees = view who; first = first; second = second; third = third }

-- the place of an agent: it sees its own steps since its start
abbrev pub agent_at : Who → Name → Name → Name → Place (List Step)
agent_at who first second third =
    record { who = who; sees = since_start who; first = first; second = second; third = third }

-- the place of the job: it sees its last listing of the sinks
abbrev pub job_at : Who → Name → Name → Name → Place (Option Listing)
job_at who first second third =
    record { who = who; sees = last_listing; first = first; second = second; third = third }

-- the process may have its name, and the three files are its own
pub record IsPlace {V : Type 0} (p : Place V) : Type 0 where
  pub named : IsTrue (is_named_so p.who.role p.who.name)
  pub first : IsOwn p.who p.first
  pub second : IsOwn p.who p.second
  pub third : IsOwn p.who p.third

-- a step of others leaves what can be tested of what the process sees and of its files
abbrev pub Leaves : {V : Type 0} → Place V → Type 0
Leaves {V} p =
    (stamped : List (List ℕ)) (history : History) (step : Step)
    (test : V → Option File → Option File → Option File → Bool)
    → IsPlace p → step.own ≡ false → Foreign stamped p.who history step
    → AtPlace stamped p (λ v a b c. IsTrue (test v a b c)) history
    → AtPlace stamped p (λ v a b c. IsTrue (test v a b c)) (step ∷ history)

-- a step of others leaves the place of every collector, of every agent and of the job
pub record OthersLeavePlaces : Type 0 where
  pub collectors : (name : List ℕ) (a b c : Name)
      → Leaves (collector_at (record { role = Collector; name = name }) a b c)
  pub agents : (name : List ℕ) (a b c : Name) → Leaves (agent_at (record { role = Agent; name = name }) a b c)
  pub job : (a b c : Name) → Leaves (job_at (record { role = Job; name = codes "job" }) a b c)
