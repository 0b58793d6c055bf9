-- What inspections of sites add, and their causes.
use Rattle.std.proofs.Common.{◌≡◌, ℕ, Option, Result, Ok, Err, inl, inr, refl, subst, sym, None, ◌∙◌, ◌+◌, ◌<◌, ap, drop, get_or, length}
use Rattle.std.proofs.lemmas.List.{at_drop_more}
use Rattle.chk_ctl_status.specs.Locks.{holder_in}
use Rattle.chk_ctl_machine.specs.Locks.{process_in, process_or}
use Rattle.std.specs.Prelude.{codes, MatchResult}
use Rattle.chk_site.specs.History.{Every, History, Step}
use Rattle.chk_site.specs.Site.{Adds}
use Rattle.chk_site.proofs.Runs.{adds_as, adds_none}
use Rattle.std.proofs.Common.{List, [], ◌∷◌, ◌++◌}
use Rattle.chk_site.specs.declared.acts.ActAnswer.{ActAnswer}
use Rattle.chk_site.specs.declared.acts.Call.TheVariants.{List as ListNames}
use Rattle.chk_site.specs.declared.acts.CallFault.{CallFault}
use Rattle.chk_site.specs.declared.acts.Who.{Who}
use Rattle.chk_site.specs.Site.{answered, asked as asked_by, names_given, Calls}
use Rattle.chk_replace.proofs.CallSteps.{call_each, OfOwn}
use Rattle.chk_world.specs.JobSteps.{IsOf}
use Rattle.chk_world.specs.Sight.{job}
use Rattle.chk_ctl_status_rows.specs.declared.agents.AgentSeen.{AgentSeen}
use Rattle.chk_ctl_status_rows.specs.declared.agents.AgentsFault.{AgentsFault}
use Rattle.chk_ctl_status_rows.specs.Agents.{FindsAgents}
use Rattle.chk_ctl_status_rows.specs.Sinks.{lists, LooksAround}
use Rattle.chk_ctl_machine.specs.Ages.{asked, AsksAgeOf}
use Rattle.chk_ctl_machine.specs.Deeds.{after, AsksAge, AsksLocks, AsksNumbers, Told}
use Rattle.chk_ctl_machine.specs.declared.machine.FileNumbers.{FileNumbers}
use Rattle.chk_ctl_machine.specs.Inspecting.{Inspects}
use Rattle.chk_ctl_machine.proofs.Inspections.{looks}
use Rattle.chk_ctl_machine.specs.Lending.{Lent}
use Rattle.chk_ctl_machine.specs.Lending.{listed as found_list}
use Rattle.chk_ctl_machine.specs.Locks.{listed, listed_as, listing, named_by, ListsLocks}
use Rattle.chk_ctl_machine.specs.Locks.{seen, unkept, FindsLocks, FindsLock, SeesLocks}
use Rattle.chk_ctl_machine.specs.Turns.{InTurn}
use Rattle.chk_ctl_run.specs.declared.outcome.Outcome.{Outcome}
use Rattle.chk_ctl_run.specs.declared.outcome.Outcome.TheVariants.{NoMemory}
use Rattle.chk_ctl_status.specs.declared.locks.Lock.{Lock}

every_as : (P Q : History → Step → Type 0)
    → ((before : History) → (step : Step) → P before step → Q before step)
    → (added history : History) → Every P added history → Every Q added history
every_as P Q weaker [] history each = tt
every_as P Q weaker (step ∷ added) history each =
    (every_as P Q weaker added history each.0, weaker (added ++ history) step each.1)

pub own_as : (P : History → Step → Type 0)
    → ((before : History) → (step : Step) → P before step → Inspects before step)
    → {old new : Option History} → Adds old new (Every P) → Adds old new (Every Inspects)
own_as P weaker adds =
    adds_as (Every Inspects) adds (λ added history x. every_as P Inspects weaker added history x)

pub own_none : (now : Option History) → Adds now now (Every Inspects)
own_none now = adds_none now (Every Inspects) (λ history. tt)

-- the age of the file of this path
pub asked_of : (path text : List ℕ) (age : Option ℕ) (old new : Told) → text ≡ path
    → new ≡ after (AsksAge text age) old → AsksAgeOf path age old new
asked_of path text age old new is told =
    asked (subst (λ (t : List ℕ). new ≡ after (AsksAge t age) old) is told)

-- the agents that the job finds
pub agents_as : {who : Who} {result : Result (List AgentSeen) AgentsFault}
    {old new : Option History} → who ≡ job → FindsAgents who result old new
    → FindsAgents job result old new
agents_as {result = result} {old = old} {new = new} is finds =
    subst (λ (w : Who). FindsAgents w result old new) is finds

-- the job's listing of the locks
list_own : OfOwn (IsOf LooksAround) listing
list_own = λ before answer files logs running honest.
    inr (record { own = refl; running = running; honest = honest; by = refl }, lists _)

pub locks_own : {who : Who} {answer : Result ActAnswer CallFault} {old new : Option History}
    → who ≡ job
    → Adds old new (Calls (asked_by who ListNames (codes "locks" ∷ []) 0 0) answer)
    → Adds old new (Every Inspects)
locks_own {answer = answer} {old = old} {new = new} is told =
    own_as (IsOf LooksAround) (λ before step x. looks x)
    (adds_as (Every (IsOf LooksAround))
    (subst (λ (w : Who). Adds old new (Calls (asked_by w ListNames (codes "locks" ∷ []) 0 0)
    answer)) is told)
    (λ steps history calls.
    call_each (IsOf LooksAround) answer (λ before step theirs. inl theirs) list_own calls))

pub locks_listed : (V : Type 0) (given : Result V CallFault) (items : V → List (List ℕ)) {who : Who}
    {old new : Option History} → who ≡ job
    → Adds old new (Calls (asked_by who ListNames (codes "locks" ∷ []) 0 0)
    (answered (λ v. names_given (items v)) given))
    → ListsLocks (listed_as (named_by given items)) old new
locks_listed V (Ok v) items {old = old} {new = new} is told =
    listed (Ok (items v))
    (subst (λ (w : Who). Adds old new (Calls (asked_by w ListNames (codes "locks" ∷ []) 0 0)
    (Ok (names_given (items v))))) is told)
locks_listed V (Err fault) items {old = old} {new = new} is told =
    listed (Err fault)
    (subst (λ (w : Who). Adds old new (Calls (asked_by w ListNames (codes "locks" ∷ []) 0 0)
    (Err fault))) is told)

-- the numbers of the lock of this name
pub numbered : (name text : List ℕ) (numbers : Option FileNumbers) (old new : Told)
    → text ≡ codes "locks/" ++ name → new ≡ after (AsksNumbers text numbers) old
    → new ≡ after (AsksNumbers (codes "locks/" ++ name) numbers) old
numbered name text numbers old new is told =
    subst (λ (t : List ℕ). new ≡ after (AsksNumbers t numbers) old) is told

-- locks of which the holders were looked for
pub locks_seen : (V : Type 0) (result : Result V Outcome) (items : V → List Lock)
    (held : Option (List ℕ)) {names given : List (List ℕ)} {old mid next new : Told}
    → given ≡ names → Lent None (FindsLocks (Ok names)) old mid
    → next ≡ after (AsksLocks held) mid
    → MatchResult result (λ v. InTurn (FindsLock held) given (items v) next new)
    (λ outcome. outcome ≡ NoMemory)
    → SeesLocks (found_list result items) old new
locks_seen V (Ok v) items held {names = names} {next = next} {new = new} same lent is turns =
    seen lent
    (subst (λ (t : Told). InTurn (FindsLock held) names (items v) t new) is
    (subst (λ (l : List (List ℕ)). InTurn (FindsLock held) l (items v) next new) same turns))
locks_seen V (Err outcome) items held {old = old} {new = new} same lent is memory =
    subst (λ (o : Outcome). SeesLocks (Err o) old new) (sym memory) (unkept lent)

-- the process that the lines from this one on name
pub line_next : (place : List ℕ) (all : List (List ℕ)) (i : ℕ) (line : List ℕ) → i < length all
    → line ≡ get_or all i line
    → process_in place (drop i all)
    ≡ process_or (holder_in place line) (process_in place (drop (i + 1) all))
line_next place all i line low is =
    at_drop_more (process_in place) all i line low
    ∙ ap (λ l. process_or (holder_in place l) (process_in place (drop (i + 1) all))) (sym is)
