-- What the calls that write a segment's file leave, and which they are.
use Rattle.std.proofs.Common.{◌≡◌, inl, inr, ℕ, true, List, [], ◌∷◌, ◌++◌, length, Option, Some, None, option_map, bytes_eq, Ok, Err, Result, refl, sym, ◌∙◌, ap, subst}
use Rattle.std.specs.Prelude.{IsSome}
use Rattle.std.proofs.lemmas.Bool.{false≢true}
use Rattle.std.proofs.lemmas.Slice.Eq.{bytes_eq-Decides}
use Rattle.chk_site.specs.declared.acts.Who.{Who}
use Rattle.chk_site.specs.declared.acts.Call.TheVariants.{Create, Append, Sync, Remove}
use Rattle.chk_site.specs.declared.acts.OutsideFault.{OutsideFault}
use Rattle.chk_site.specs.declared.acts.CallFault.TheVariants.{Failed, Missing, Exists, Short, NoMemory}
use Rattle.chk_site.specs.declared.acts.ActAnswer.{ActAnswer}
use Rattle.chk_site.specs.declared.acts.ActAnswer.TheVariants.{Done, Refused, Stopped, Rotated, Deleted}
use Rattle.chk_site.specs.Files.{File, Files, Change, changed, made, grown, secured}
use Rattle.chk_site.specs.Logs.{Logs}
use Rattle.chk_site.specs.Acts.{deed}
use Rattle.chk_site.specs.History.{History, Every, files_after}
use Rattle.chk_site.specs.Honest.{Honest}
use Rattle.chk_site.specs.Site.{Adds, Asked, asked, own_step, plain, WasDone}
use Rattle.chk_site.specs.Runs.{anyhow, Leads, MadeInTurn}
use Rattle.chk_site.proofs.Leads.{Keeps, done_leads, ends_leads, script_then, script_end}
use Rattle.chk_replace.proofs.CallSteps.{OfOwn, script_each}
use Rattle.chk_world.specs.Sight.{job}
use Rattle.chk_world.specs.Committed.{HasFile}
use Rattle.chk_world.specs.JobSteps.{IsOf, WritesTo, removes, creates, appends, syncs, SparesFile}
use Rattle.chk_book.specs.Storing.{beginning, appending, ending}
use Rattle.chk_replace.proofs.OldAndNew.{same_name, not_absent}

-- the file of this name is so
abbrev pub At : List ℕ → (Option File → Type 0) → History → Type 0
At name U history = U (files_after history name)

-- after a script that was done it is so
abbrev pub DoneAt : List ℕ → (Option File → Type 0) → Result (Unit {0}) OutsideFault → History → Type 0
DoneAt name U (Ok value) history = At name U history
DoneAt name U (Err fault) history = Unit {0}

keeps : (name : List ℕ) (U : Option File → Type 0) → Keeps (SparesFile name) (At name U)
keeps name U before step theirs spares held = subst U (sym spares) held

-- from U the call leads to W
abbrev Makes : List ℕ → (Option File → Type 0) → (Option File → Type 0) → Asked → ActAnswer → Type 0
Makes name U W q answer =
    (before : History) (files : Files) (logs : Logs) → Honest before (own_step q answer files logs)
    → U (files_after before name) → W (files name)

-- one call, and then the rest
one_call : (name : List ℕ) (U W V : Option File → Type 0) (q : Asked) {qs : List Asked}
    {result : Result (Unit {0}) OutsideFault} {old new : Option History}
    → ((answer : ActAnswer) → WasDone answer → Makes name U W q answer)
    → ((mid : Option History) → MadeInTurn qs result mid new → Adds mid new (Leads (anyhow (SparesFile name)) (At name W) (DoneAt name V result)))
    → MadeInTurn (q ∷ qs) result old new
    → Adds old new (Leads (anyhow (SparesFile name)) (At name U) (DoneAt name V result))
one_call name U W V q makes rest script =
    script_then (At name W) (DoneAt name V)
    (λ given mid is told.
    done_leads given (λ before answer files logs running. tt) is (keeps name U)
    (λ answer was before files logs running honest held. makes answer was before files logs honest held) told)
    (λ given fault ends told.
    ends_leads (λ f. DoneAt name V (Err f)) plain given fault (λ before answer files logs running. tt) ends (keeps name U)
    (λ before files logs running honest held. tt)
    (λ left before files logs running honest held. tt)
    (λ before stopped held. tt)
    (λ before held. tt)
    told)
    (λ h held. tt)
    rest script

no_more : (name : List ℕ) (U : Option File → Type 0) {result : Result (Unit {0}) OutsideFault} {old new : Option History}
    → MadeInTurn [] result old new → Adds old new (Leads (anyhow (SparesFile name)) (At name U) (DoneAt name U result))
no_more name U script = script_end (DoneAt name U) (λ h held. tt) (λ h held. held) script

abbrev Anything : Option File → Type 0
Anything file = Unit {0}

abbrev Absent : Option File → Type 0
Absent file = file ≡ None

-- the file is there, with these bytes
abbrev pub Holds : List ℕ → Option File → Type 0
Holds bytes file = HasFile file (λ f. f.bytes ≡ bytes)

-- and all of them on the disk
abbrev pub HoldsAll : List ℕ → Option File → Type 0
HoldsAll bytes file = HasFile file (λ f. (f.bytes ≡ bytes) × (f.synced ≡ length bytes))

not_missing : (bytes : List ℕ) (file : Option File) → Holds bytes file → file ≡ None → ⊥
not_missing bytes None held none = held
not_missing bytes (Some f) held none = cc

removed : (who : Who) (name : List ℕ) (answer : ActAnswer) → WasDone answer
    → Makes name Anything Absent (asked who Remove (name ∷ []) 0 0) answer
removed who name (Done words number of) was before files logs honest u =
    let e = honest.modelled.effect in
    e.files_left name ∙ ap (λ (d : Change). changed d (files_after before) name) e.may ∙ rw (same_name name) refl
removed who name (Refused Missing) was before files logs honest u =
    let e = honest.modelled.effect in
    e.files_left name ∙ ap (λ (d : Change). changed d (files_after before) name) e.may ∙ honest.agrees
removed who name (Refused Exists) was before files logs honest u = absurd honest.agrees
removed who name (Refused (Short size)) was before files logs honest u = absurd honest.agrees
removed who name (Refused Failed) was before files logs honest u = absurd was
removed who name (Refused NoMemory) was before files logs honest u = absurd was
removed who name (Stopped left) was before files logs honest u = absurd was
removed who name (Rotated suffix) was before files logs honest u = absurd was
removed who name (Deleted suffix) was before files logs honest u = absurd was

created : (who : Who) (name : List ℕ) (answer : ActAnswer) → WasDone answer
    → Makes name Absent (Holds []) (asked who Create (name ∷ []) 0 0) answer
created who name (Done words number of) was before files logs honest u =
    let e = honest.modelled.effect in
    let is : files name ≡ made None = e.files_left name ∙ ap (λ (d : Change). changed d (files_after before) name) e.may ∙ rw (same_name name) (ap made u) in
    subst (Holds []) (sym is) refl
created who name (Refused Exists) was before files logs honest u = absurd (not_absent (files_after before name) honest.agrees u)
created who name (Refused Missing) was before files logs honest u = absurd honest.agrees
created who name (Refused (Short size)) was before files logs honest u = absurd honest.agrees
created who name (Refused Failed) was before files logs honest u = absurd was
created who name (Refused NoMemory) was before files logs honest u = absurd was
created who name (Stopped left) was before files logs honest u = absurd was
created who name (Rotated suffix) was before files logs honest u = absurd was
created who name (Deleted suffix) was before files logs honest u = absurd was

-- bytes behind those that are there
more_there : (bytes piece : List ℕ) (file : Option File) → Holds bytes file → Holds (bytes ++ piece) (option_map (grown piece) file)
more_there bytes piece None held = absurd held
more_there bytes piece (Some f) held = ap (λ b. b ++ piece) held

appended : (who : Who) (name bytes piece : List ℕ) (answer : ActAnswer) → WasDone answer
    → Makes name (Holds bytes) (Holds (bytes ++ piece)) (asked who Append (name ∷ piece ∷ []) 0 0) answer
appended who name bytes piece (Done words number of) was before files logs honest u =
    let e = honest.modelled.effect in
    let is : files name ≡ option_map (grown piece) (files_after before name) =
    e.files_left name ∙ ap (λ (d : Change). changed d (files_after before) name) e.may ∙ rw (same_name name) refl in
    subst (Holds (bytes ++ piece)) (sym is) (more_there bytes piece (files_after before name) u)
appended who name bytes piece (Refused Missing) was before files logs honest u =
    absurd (not_missing bytes (files_after before name) u honest.agrees)
appended who name bytes piece (Refused Exists) was before files logs honest u = absurd honest.agrees
appended who name bytes piece (Refused (Short size)) was before files logs honest u = absurd honest.agrees
appended who name bytes piece (Refused Failed) was before files logs honest u = absurd was
appended who name bytes piece (Refused NoMemory) was before files logs honest u = absurd was
appended who name bytes piece (Stopped left) was before files logs honest u = absurd was
appended who name bytes piece (Rotated suffix) was before files logs honest u = absurd was
appended who name bytes piece (Deleted suffix) was before files logs honest u = absurd was

all_there : (bytes : List ℕ) (file : Option File) → Holds bytes file → HoldsAll bytes (option_map secured file)
all_there bytes None held = absurd held
all_there bytes (Some f) held = (held, ap length held)

synced : (who : Who) (name bytes : List ℕ) (answer : ActAnswer) → WasDone answer
    → Makes name (Holds bytes) (HoldsAll bytes) (asked who Sync (name ∷ []) 0 0) answer
synced who name bytes (Done words number of) was before files logs honest u =
    let e = honest.modelled.effect in
    let is : files name ≡ option_map secured (files_after before name) =
    e.files_left name ∙ ap (λ (d : Change). changed d (files_after before) name) e.may ∙ rw (same_name name) refl in
    subst (HoldsAll bytes) (sym is) (all_there bytes (files_after before name) u)
synced who name bytes (Refused Missing) was before files logs honest u =
    absurd (not_missing bytes (files_after before name) u honest.agrees)
synced who name bytes (Refused Exists) was before files logs honest u = absurd honest.agrees
synced who name bytes (Refused (Short size)) was before files logs honest u = absurd honest.agrees
synced who name bytes (Refused Failed) was before files logs honest u = absurd was
synced who name bytes (Refused NoMemory) was before files logs honest u = absurd was
synced who name bytes (Stopped left) was before files logs honest u = absurd was
synced who name bytes (Rotated suffix) was before files logs honest u = absurd was
synced who name bytes (Deleted suffix) was before files logs honest u = absurd was

-- a file that is begun has its header
pub begins : (who : Who) (name header : List ℕ) {result : Result (Unit {0}) OutsideFault} {old new : Option History}
    → MadeInTurn (beginning who name header) result old new
    → Adds old new (Leads (anyhow (SparesFile name)) (λ h. Unit {0}) (DoneAt name (Holds header) result))
begins who name header script =
    one_call name Anything Absent (Holds header) (asked who Remove (name ∷ []) 0 0) (removed who name)
    (λ mid script.
    one_call name Absent (Holds []) (Holds header) (asked who Create (name ∷ []) 0 0) (created who name)
    (λ mid script.
    one_call name (Holds []) (Holds header) (Holds header) (asked who Append (name ∷ header ∷ []) 0 0) (appended who name [] header)
    (λ mid script. no_more name (Holds header) script)
    script) script) script

-- bytes that are appended stand behind the others
pub goes_on : (who : Who) (name bytes piece : List ℕ) {result : Result (Unit {0}) OutsideFault} {old new : Option History}
    → MadeInTurn (appending who name piece) result old new
    → Adds old new (Leads (anyhow (SparesFile name)) (At name (Holds bytes)) (DoneAt name (Holds (bytes ++ piece)) result))
goes_on who name bytes piece script =
    one_call name (Holds bytes) (Holds (bytes ++ piece)) (Holds (bytes ++ piece)) (asked who Append (name ∷ piece ∷ []) 0 0)
    (appended who name bytes piece) (λ mid script. no_more name (Holds (bytes ++ piece)) script) script

-- and with the sync all of it is on the disk
pub ends : (who : Who) (name bytes piece : List ℕ) {result : Result (Unit {0}) OutsideFault} {old new : Option History}
    → MadeInTurn (ending who name piece) result old new
    → Adds old new (Leads (anyhow (SparesFile name)) (At name (Holds bytes)) (DoneAt name (HoldsAll (bytes ++ piece)) result))
ends who name bytes piece script =
    let all = bytes ++ piece in
    one_call name (Holds bytes) (Holds all) (HoldsAll all) (asked who Append (name ∷ piece ∷ []) 0 0) (appended who name bytes piece)
    (λ mid script.
    one_call name (Holds all) (HoldsAll all) (HoldsAll all) (asked who Sync (name ∷ []) 0 0) (synced who name all)
    (λ mid script. no_more name (HoldsAll all) script) script)
    script

-- each step is of others, or a writing of this file by the job
writes : (who : Who) (name : List ℕ) (q : Asked) → who ≡ job → q.who ≡ who
    → ((before : History) (answer : ActAnswer) (files : Files) (logs : Logs) → WritesTo name (deed (own_step q answer files logs).act))
    → OfOwn (IsOf (WritesTo name)) q
writes who name q is by kind before answer files logs running honest =
    inr (record { own = refl; running = running; honest = honest; by = by ∙ is }, kind before answer files logs)

pub begins_own : (who : Who) (name header : List ℕ) {result : Result (Unit {0}) OutsideFault} {old new : Option History} → who ≡ job
    → MadeInTurn (beginning who name header) result old new → Adds old new (Every (IsOf (WritesTo name)))
begins_own who name header is script =
    script_each (IsOf (WritesTo name)) (λ before step theirs. inl theirs) (
      writes who name (asked who Remove (name ∷ []) 0 0) is refl (λ before answer files logs. removes),
      (
        writes who name (asked who Create (name ∷ []) 0 0) is refl (λ before answer files logs. creates),
        (writes who name (asked who Append (name ∷ header ∷ []) 0 0) is refl (λ before answer files logs. appends header), tt),
      ),
    )
    script

pub goes_on_own : (who : Who) (name piece : List ℕ) {result : Result (Unit {0}) OutsideFault} {old new : Option History} → who ≡ job
    → MadeInTurn (appending who name piece) result old new → Adds old new (Every (IsOf (WritesTo name)))
goes_on_own who name piece is script =
    script_each (IsOf (WritesTo name)) (λ before step theirs. inl theirs)
    (writes who name (asked who Append (name ∷ piece ∷ []) 0 0) is refl (λ before answer files logs. appends piece), tt) script

pub ends_own : (who : Who) (name piece : List ℕ) {result : Result (Unit {0}) OutsideFault} {old new : Option History} → who ≡ job
    → MadeInTurn (ending who name piece) result old new → Adds old new (Every (IsOf (WritesTo name)))
ends_own who name piece is script =
    script_each (IsOf (WritesTo name)) (λ before step theirs. inl theirs) (
      writes who name (asked who Append (name ∷ piece ∷ []) 0 0) is refl (λ before answer files logs. appends piece),
      (writes who name (asked who Sync (name ∷ []) 0 0) is refl (λ before answer files logs. syncs), tt),
    )
    script
