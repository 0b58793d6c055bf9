-- What a call of a site adds to the history.
use Rattle.std.specs.Prelude.{◌≡◌, ◌⊎◌, ◌≤◌, ◌+◌, ◌-◌, ◌^◌, min, ℕ, true, false, List, [], ◌∷◌, ◌++◌, Option, Some, None, option_to_list, Result, Ok, Err, IsTrue, codes}
use Rattle.chk_bytes.specs.Words.{text_lt}
use Rattle.chk_site.specs.declared.suffixes.Piece.{Piece}
use Rattle.chk_site.specs.declared.suffixes.Taking.{Taking}
use Rattle.chk_site.specs.declared.suffixes.Part.{Part}
use Rattle.chk_site.specs.declared.suffixes.Part.TheVariants.{Base, After}
use Rattle.chk_site.specs.declared.acts.Who.{Who}
use Rattle.chk_site.specs.declared.lists.Left.{Left}
use Rattle.chk_site.specs.declared.acts.Call.{Call}
use Rattle.chk_site.specs.declared.acts.CallFault.{CallFault}
use Rattle.chk_site.specs.declared.acts.CallFault.TheVariants.{Failed, Missing, Exists, Short, NoMemory}
use Rattle.chk_site.specs.declared.acts.OutsideFault.{OutsideFault}
use Rattle.chk_site.specs.declared.acts.OutsideFault.TheVariants.{Outside, NoMemory as no_memory}
use Rattle.chk_site.specs.declared.acts.ActAnswer.{ActAnswer}
use Rattle.chk_site.specs.declared.acts.ActAnswer.TheVariants.{Done, Refused, Stopped}
use Rattle.chk_site.specs.Files.{Files}
use Rattle.chk_site.specs.Logs.{Logs}
use Rattle.chk_site.specs.History.{Step, History, Every, IsTheirs, is_stopped}
use Rattle.chk_site.specs.Honest.{Honest}

-- Where the old history is told, the new one is it with some steps added, which P relates to it.
pub record Adds (old new : Option History) (P : History → History → Type 0) : Type 0 where
  pub told : (history : History) → old ≡ Some history → (added : History) × (new ≡ Some (added ++ history)) × P added history
  pub untold : old ≡ None → new ≡ None

-- what a call asks for
pub record Asked : Type 0 where
  pub who : Who
  pub call : Call
  pub words : List (List ℕ)
  pub number : ℕ
  pub max : ℕ

-- what a call asks for, put together
abbrev pub asked : Who → Call → List (List ℕ) → ℕ → ℕ → Asked
asked who call words number max = record { who = who; call = call; words = words; number = number; max = max }

-- the step of that call with this answer
abbrev pub own_step : Asked → ActAnswer → Files → Logs → Step
own_step q answer files logs =
    record {
      own = true;
      act = record { who = q.who; call = q.call; words = q.words; number = q.number; max = q.max; answer = answer };
      files = files;
      logs = logs;
    }

-- a call's result, with its value as that of an act
abbrev pub answered : {T : Type 0} → (T → ActAnswer) → Result T CallFault → Result ActAnswer CallFault
answered how (Ok value) = Ok (how value)
answered how (Err fault) = Err fault

-- a call that gives nothing
abbrev pub plain : {T : Type 0} → T → ActAnswer
plain value = Done [] 0 0

-- a call that gives a number
abbrev pub sized : ℕ → ActAnswer
sized size = Done [] size 0

-- a call that gives bytes
abbrev pub bytes_given : List ℕ → ActAnswer
bytes_given bytes = Done (bytes ∷ []) 0 0

-- the suffix of a newest generation, a listing, a piece of a log, a taking
abbrev pub suffix_given : Option (List ℕ) → ActAnswer
suffix_given suffix = Done (option_to_list suffix) 0 0

-- a listing
abbrev pub names_given : List (List ℕ) → ActAnswer
names_given names = Done names 0 0

-- a piece of a log
abbrev pub piece_given : Piece → ActAnswer
piece_given piece = Done (piece.bytes ∷ option_to_list piece.ended) 0 0

-- a taking is of some message of the history, or of none
abbrev pub taking_given : ℕ → Option Taking → ActAnswer
taking_given of None = Done [] 0 0
taking_given of (Some taking) = Done (taking.bytes ∷ []) taking.number of

-- how a part stands among the words of a call
abbrev pub part_text : Part → List ℕ
part_text Base = codes "base"
part_text (After None) = codes "-"
part_text (After (Some suffix)) = suffix.now

-- the suffix that a piece ended comes after the one that the part names
abbrev pub EndsPast : Part → Option (List ℕ) → Type 0
EndsPast Base ended = ended ≡ None
EndsPast (After None) ended = Unit {0}
EndsPast (After (Some suffix)) None = Unit {0}
EndsPast (After (Some suffix)) (Some ended) = IsTrue (text_lt suffix.now ended)

-- some steps of others, and then the call's own, with this answer
pub record Acted (q : Asked) (answer : ActAnswer) (added history : History) : Type 0 where
  pub others : History
  pub files : Files
  pub logs : Logs
  pub added_is : added ≡ own_step q answer files logs ∷ others
  pub running : is_stopped history ≡ false
  pub theirs : Every IsTheirs others history
  pub honest : Honest (others ++ history) (own_step q answer files logs)

-- what a call adds, by its result
abbrev pub Added : Asked → Result ActAnswer CallFault → History → History → Type 0
Added q (Ok answer) added history = Acted q answer added history
-- it has no act of its own
Added q (Err NoMemory) added history = Every IsTheirs added history
-- it failed, or was stopped
Added q (Err Failed) added history = Acted q (Refused Failed) added history ⊎ ((left : List Left) × Acted q (Stopped left) added history)
Added q (Err fault) added history = Acted q (Refused fault) added history

-- after a stop each call fails and adds nothing
pub record Calls (q : Asked) (result : Result ActAnswer CallFault) (added history : History) : Type 0 where
  pub running : is_stopped history ≡ false → Added q result added history
  pub stopped : is_stopped history ≡ true → (added ≡ []) × (result ≡ Err Failed)

-- the same for a call of which a number of the act is not known before, as that of a message
abbrev pub CallsSome : (ℕ → Asked) → (ℕ → Result ActAnswer CallFault) → History → History → Type 0
CallsSome q result added history = (n : ℕ) × Calls (q n) (result n) added history

-- the count of faults stands at its end or has risen
abbrev pub Rose : ℕ → ℕ → Type 0
Rose before now = min (before + 1) (2 ^ 64 - 1) ≤ now

-- only a call that failed raises the count
abbrev pub CauseOf : {T : Type 0} → ℕ → ℕ → Result T CallFault → Type 0
CauseOf before now (Ok value) = now ≡ before
CauseOf before now (Err Failed) = Rose before now × (before ≤ now)
CauseOf before now (Err _) = now ≡ before

-- which refusals a call may answer, for every site: that it failed, or that there was no memory
abbrev pub MayFail : {T : Type 0} → Result T CallFault → Type 0
MayFail (Ok value) = Unit {0}
MayFail (Err Failed) = Unit {0}
MayFail (Err NoMemory) = Unit {0}
MayFail (Err fault) = ⊥

-- also that the file is there already
abbrev pub MayExist : {T : Type 0} → Result T CallFault → Type 0
MayExist (Err Exists) = Unit {0}
MayExist result = MayFail result

-- also that there is no such file
abbrev pub MayMiss : {T : Type 0} → Result T CallFault → Type 0
MayMiss (Err Missing) = Unit {0}
MayMiss result = MayFail result

-- also that the log is shorter than the place
abbrev pub MayBeShort : {T : Type 0} → Result T CallFault → Type 0
MayBeShort (Err (Short size)) = Unit {0}
MayBeShort result = MayFail result

-- also that there is no such file, or that it is shorter than the place
abbrev pub MayMissOrBeShort : {T : Type 0} → Result T CallFault → Type 0
MayMissOrBeShort (Err (Short size)) = Unit {0}
MayMissOrBeShort result = MayMiss result

-- a call whose result doesn't end the work: it was done, or refused for the state of the files
abbrev pub IsDone : {T : Type 0} → Result T CallFault → Type 0
IsDone (Ok value) = Unit {0}
IsDone (Err Failed) = ⊥
IsDone (Err NoMemory) = ⊥
IsDone (Err _) = Unit {0}

-- that a call of the outside failed ends the work, and that there was no memory does too
abbrev pub Ends : {T : Type 0} → Call → Result T CallFault → OutsideFault → Type 0
Ends call (Err Failed) fault = fault ≡ Outside call
Ends call (Err NoMemory) fault = fault ≡ no_memory
Ends call _ fault = ⊥

-- the newest added step is the failure of this call
abbrev pub EndsIn : Call → History → Type 0
EndsIn call [] = ⊥
EndsIn call (step ∷ added) = (step.own ≡ true) × (step.act.call ≡ call) × (step.act.answer ≡ Refused Failed)

-- the call that failed is the last one, where the site wasn't stopped
abbrev pub LastFailed : {T : Type 0} → Result T OutsideFault → History → History → Type 0
LastFailed (Ok value) added history = Unit {0}
LastFailed (Err (Outside call)) added history = is_stopped (added ++ history) ≡ false → EndsIn call added
LastFailed (Err _) added history = Unit {0}

-- only a failure raises the count
abbrev pub OutsideCause : {T : Type 0} → ℕ → ℕ → Result T OutsideFault → Type 0
OutsideCause before now (Ok value) = now ≡ before
OutsideCause before now (Err (Outside call)) = Rose before now × (before ≤ now)
OutsideCause before now (Err _) = now ≡ before

-- the act took place, or was refused for the state of the files
abbrev pub WasDone : ActAnswer → Type 0
WasDone (Done given size of) = Unit {0}
WasDone (Refused Failed) = ⊥
WasDone (Refused NoMemory) = ⊥
WasDone (Refused fault) = Unit {0}
WasDone _ = ⊥

-- what a call gave: its value, or nothing where it was refused for the state of the files
abbrev pub IsTaken : {T : Type 0} → Result T CallFault → Option T → Type 0
IsTaken (Ok value) taken = taken ≡ Some value
IsTaken (Err Failed) taken = ⊥
IsTaken (Err NoMemory) taken = ⊥
IsTaken (Err _) taken = taken ≡ None

-- the act was refused for the state of the files
abbrev pub WasRefused : ActAnswer → Type 0
WasRefused (Refused Failed) = ⊥
WasRefused (Refused NoMemory) = ⊥
WasRefused (Refused fault) = Unit {0}
WasRefused _ = ⊥

-- the act's answer, by what was taken of it
abbrev pub Took : {T : Type 0} → (T → ActAnswer) → Option T → ActAnswer → Type 0
Took how (Some value) answer = answer ≡ how value
Took how None answer = WasRefused answer
