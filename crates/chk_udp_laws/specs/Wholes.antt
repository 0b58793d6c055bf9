-- What a run of the command leaves that was done, and what ends one in such a history.
use Rattle.std.specs.Prelude.{◌≡◌, ◌⊎◌, ◌<◌, ◌==◌, ℕ, Bool, true, false, List, [], ◌∷◌, ◌++◌, length, Some, None, Result, Ok, Err, if◌then◌else◌}
use Rattle.chk_bytes.specs.Numbers.{be64}
use Rattle.chk_site.specs.declared.acts.Who.{Who}
use Rattle.chk_site.specs.declared.acts.ActAnswer.{ActAnswer}
use Rattle.chk_site.specs.declared.acts.ActAnswer.TheVariants.{Done}
use Rattle.chk_site.specs.Acts.{Deed, Takes, deed}
use Rattle.chk_site.specs.Files.{File}
use Rattle.chk_site.specs.History.{Step, History, Every, Others, files_after, is_by}
use Rattle.chk_replace.specs.Replace.{whole}
use Rattle.chk_wahead.specs.declared.fault.WaheadFault.{WaheadFault}
use Rattle.chk_wahead.specs.declared.fault.WaheadFault.TheVariants.{Damaged, Spent}
use Rattle.chk_wahead.specs.Names.{writer, next_name, buffer_name, mark_name}
use Rattle.chk_wahead.specs.States.{last_number}
use Rattle.chk_cmd_udp.specs.Runs.{HasRun}
use Rattle.chk_udp_laws.specs.Marked.{marked, took, joined}
use Rattle.chk_udp_laws.specs.Uses.{AreRuns}
use Rattle.chk_udp_laws.specs.Histories.{IsApart}
use Rattle.chk_udp_laws.specs.Laws.{NoneAbove}

-- some number has no closed buffer above it
pub record HasLast (n : List ℕ) (history : History) : Type 0 where
  pub number : ℕ
  pub above : NoneAbove n number history

-- No buffer and no mark is left. The files hold what they held before, and behind that just the
-- payloads of the writer's takings among the added steps, in order, each once.
pub record IsAllMarked (n : List ℕ) (added history : History) : Type 0 where
  pub buffer : files_after (added ++ history) (buffer_name n) ≡ None
  pub mark : files_after (added ++ history) (mark_name n) ≡ None
  pub first : HasLast n history
  pub last : HasLast n (added ++ history)
  pub all : (early late : ℕ) → NoneAbove n early history → NoneAbove n late (added ++ history)
      → marked (files_after (added ++ history)) n late
      ≡ marked (files_after history) n early ++ joined (took n added)

-- the last number was taken, and there is no buffer
pub record IsUsedUp (n : List ℕ) (history : History) : Type 0 where
  pub next : files_after history (next_name n) ≡ Some (whole (be64 last_number))
  pub buffer : files_after history (buffer_name n) ≡ None

-- what the files show behind such a run of the command
abbrev pub RunLeaves : List ℕ → Result (Unit {0}) WaheadFault → History → History → Type 0
RunLeaves n (Ok value) added history = IsAllMarked n added history
RunLeaves n (Err (Damaged name at)) added history = ⊥
RunLeaves n (Err (Spent number)) added history = IsUsedUp n (added ++ history)
RunLeaves n (Err fault) added history = Unit {0}

-- a run of the command with this result
abbrev pub CommandRan : List ℕ → Result (Unit {0}) WaheadFault → History → History → Type 0
CommandRan n result added history =
    (door : List ℕ) × (teller : Who) × (turns : ℕ) × (rotate : ℕ) × (messages : ℕ)
    × HasRun (writer n) teller door turns rotate messages result (Some history)
    (Some (added ++ history))

-- Where all that the writer did before are runs, and others leave its files alone beside this one:
-- what it took is in its files where it was done, none of them is ever told to be damaged, and a
-- number is wanting only where the last one was taken.
abbrev pub RunsLeave : Type 0
RunsLeave =
    (n : List ℕ) (result : Result (Unit {0}) WaheadFault) (added history : History)
    → AreRuns n history → CommandRan n result added history → Others (IsApart n) added history
    → RunLeaves n result added history

-- ---- what each turn finds

-- whether this answer has a datagram
abbrev pub has_one : ActAnswer → Bool
has_one (Done (bytes ∷ words) number of) = true
has_one answer = false

-- the same of the newest taking that may wait 1,000 ms, where this was so before the call
abbrev pub gave_by : Deed → ActAnswer → Bool → Bool
gave_by (Takes door wait) answer before = if wait == 1000 then has_one answer else before
gave_by call answer before = before

-- whether the newest taking of the writer that may wait 1,000 ms gave a datagram
abbrev pub gave_last : List ℕ → History → Bool
gave_last n [] = false
gave_last n (step ∷ history) =
    if is_by (writer n) step
    then gave_by (deed step.act) step.act.answer (gave_last n history)
    else gave_last n history

-- the buffer's mark says all of it, it is shorter than this, and that taking gave a datagram
pub record IsShort (n : List ℕ) (rotate : ℕ) (history : History) : Type 0 where
  pub file : File
  pub buffer : files_after history (buffer_name n) ≡ Some file
  pub mark : files_after history (mark_name n) ≡ Some (whole (be64 (length file.bytes)))
  pub short : length file.bytes < rotate
  pub gave : gave_last n history ≡ true

abbrev pub IsTidyAt : List ℕ → ℕ → History → Type 0
IsTidyAt n rotate history =
    (files_after history (buffer_name n) ≡ None) ⊎ IsShort n rotate history

-- a taking of the run's own that may wait 1,000 ms, as the first one of a turn does, finds no
-- buffer, or such a one
abbrev pub FindsTidy : List ℕ → ℕ → History → Step → Type 0
FindsTidy n rotate before step =
    step.own ≡ true → (door : List ℕ) → deed step.act ≡ Takes door 1000
    → IsTidyAt n rotate before

-- each such taking of a run of the command, whatever its result, where the same is supposed
abbrev pub TurnsFindTidy : Type 0
TurnsFindTidy =
    (n door : List ℕ) (teller : Who) (turns rotate messages : ℕ)
    (result : Result (Unit {0}) WaheadFault) (added history : History)
    → AreRuns n history
    → HasRun (writer n) teller door turns rotate messages result (Some history)
    (Some (added ++ history))
    → Others (IsApart n) added history → Every (FindsTidy n rotate) added history
