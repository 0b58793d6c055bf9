-- Calls of a look, one after another.
use Rattle.std.proofs.Common.{◌≡◌, inl, inr, ℕ, List, [], ◌∷◌, ◌++◌, false, Option, Some, None}
use Rattle.std.proofs.Common.{Result, Ok, Err, refl, subst, append_assoc}
use Rattle.std.specs.Prelude.{◌≤◌, ◌^◌, codes, length}
use Rattle.chk_site.specs.Logs.{Past, read_from}
use Rattle.chk_site.specs.declared.acts.Who.{Who}
use Rattle.chk_site.specs.declared.acts.ActAnswer.{ActAnswer}
use Rattle.chk_site.specs.declared.acts.CallFault.{CallFault}
use Rattle.chk_site.specs.declared.acts.Call.TheVariants.{LogRead, LogNewest}
use Rattle.chk_site.specs.declared.acts.OutsideFault.{OutsideFault}
use Rattle.chk_site.specs.declared.acts.OutsideFault.TheVariants.{Outside, NoMemory as no_memory}
use Rattle.chk_site.specs.History.{Step, History, Every, is_stopped}
use Rattle.chk_site.specs.Site.{Adds, Asked, asked, answered, Calls, Ends, LastFailed}
use Rattle.chk_site.specs.Site.{OutsideCause}
use Rattle.chk_site.proofs.LastCalls.{ended_last, ends_in_both, last_of_both}
use Rattle.chk_site.proofs.Runs.{adds_as, adds_then, every_join}
use Rattle.chk_replace.proofs.CallSteps.{call_each}
use Rattle.chk_world.specs.JobSteps.{IsOf}
use Rattle.chk_world.specs.Sight.{job}
use Rattle.chk_checkpoint.specs.declared.fault.CheckFault.{CheckFault}
use Rattle.chk_checkpoint.specs.declared.fault.CheckFault.TheVariants.{Damaged}
use Rattle.chk_checkpoint.specs.declared.fault.CheckFault.TheVariants.{Outside as check_outside}
use Rattle.chk_checkpoint.specs.declared.fault.CheckFault.TheVariants.{NoMemory as check_memory}
use Rattle.chk_checkpoint.specs.Faults.{check_fault, CheckCause, FailsLast}
use Rattle.chk_record_index.specs.declared.fault.JobFault.{JobFault}
use Rattle.chk_record_index.specs.Faults.{JobCause}
use Rattle.chk_ctl_passed.specs.declared.oldest.Oldest.{Oldest}
use Rattle.chk_ctl_passed.specs.declared.oldest.Oldest.TheVariants.{Base, Rotated, Changed}
use Rattle.chk_ctl_passed.specs.Oldest.{oldest, WasShort, LooksAtLog, SawOldest, reads, asks}
use Rattle.chk_ctl_passed.proofs.Seen.{saw_later}

-- a read of the log, and the question for its newest generation, are looks
pub read_own : (who : Who) (path : List ℕ) (at : ℕ) (given : Result ActAnswer CallFault)
    {old new : Option History} → who ≡ job
    → Adds old new (Calls (asked who LogRead (path ∷ codes "-" ∷ []) at 131072) given)
    → Adds old new (Every (IsOf (LooksAtLog path)))
read_own who path at given is told =
    adds_as (Every (IsOf (LooksAtLog path))) told
    (λ added history calls.
    call_each (IsOf (LooksAtLog path)) given (λ before step theirs. inl theirs)
    (λ before answer files logs running honest.
    inr (record { own = refl; running = running; honest = honest; by = is }, reads at))
    calls)

pub newest_own : (who : Who) (path : List ℕ) (given : Result ActAnswer CallFault)
    {old new : Option History} → who ≡ job
    → Adds old new (Calls (asked who LogNewest (path ∷ []) 0 0) given)
    → Adds old new (Every (IsOf (LooksAtLog path)))
newest_own who path given is told =
    adds_as (Every (IsOf (LooksAtLog path))) told
    (λ added history calls.
    call_each (IsOf (LooksAtLog path)) given (λ before step theirs. inl theirs)
    (λ before answer files logs running honest.
    inr (record { own = refl; running = running; honest = honest; by = is }, asks))
    calls)

-- a call that ended the work is the last one
pub failed_so : (T : Type 0) {V : Type 0} {q : Asked} (how : V → ActAnswer)
    (given : Result V CallFault) (fault : OutsideFault) {old new : Option History}
    → Ends q.call given fault → Adds old new (Calls q (answered how given))
    → Adds old new (LastFailed {T = T} (Err fault))
failed_so T how given fault ends told =
    adds_as (LastFailed {T = T} (Err fault)) told
    (λ a h calls. ended_last T how given fault ends calls)

-- nothing is said of a value
pub last_ok : (T : Type 0) (value : T) {P : History → History → Type 0}
    {old new : Option History} → Adds old new P → Adds old new (LastFailed (Ok value))
last_ok T value told = adds_as (LastFailed (Ok value)) told (λ a h x. tt)

last_at : (T V : Type 0) (fault : OutsideFault) (a h : History)
    → LastFailed {T = T} (Err fault) a h → LastFailed {T = V} (Err fault) a h
last_at T V (Outside call) a h x = x
last_at T V no_memory a h x = tt

-- a refusal is handed on
pub last_as : (T V : Type 0) (fault : OutsideFault) {old new : Option History}
    → Adds old new (LastFailed {T = T} (Err fault)) → Adds old new (LastFailed {T = V} (Err fault))
last_as T V fault told =
    adds_as (LastFailed {T = V} (Err fault)) told (λ a h x. last_at T V fault a h x)

pub cause_as : (T V : Type 0) (fault : OutsideFault) (before now : ℕ)
    → OutsideCause {T = T} before now (Err fault) → OutsideCause {T = V} before now (Err fault)
cause_as T V (Outside call) before now x = x
cause_as T V no_memory before now x = x

-- what comes behind other calls
pub own_then : (path : List ℕ) {old mid new : Option History}
    → Adds old mid (Every (IsOf (LooksAtLog path))) → Adds mid new (Every (IsOf (LooksAtLog path)))
    → Adds old new (Every (IsOf (LooksAtLog path)))
own_then path p q =
    adds_then (Every (IsOf (LooksAtLog path))) p q
    (λ a b h x y. every_join (IsOf (LooksAtLog path)) b a h x y)

pub last_then : {T : Type 0} (result : Result T OutsideFault) {P : History → History → Type 0}
    {old mid new : Option History} → Adds old mid P → Adds mid new (LastFailed result)
    → Adds old new (LastFailed result)
last_then result p q =
    adds_then (LastFailed result) p q (λ a b h x y. last_of_both result b a h y)

pub cause_then : {T : Type 0} (result : Result T OutsideFault) (a b c : ℕ) → b ≡ a
    → OutsideCause b c result → OutsideCause a c result
cause_then result a b c same x = subst (λ n. OutsideCause n c result) same x

short_later : (b a : History) → WasShort b → WasShort (b ++ a)
short_later [] a x = absurd x
short_later (step ∷ b) a x = x

oldest_later : (path : List ℕ) (result : Result Oldest OutsideFault) (b a h : History)
    → SawOldest path result b (a ++ h) → SawOldest path result (b ++ a) h
oldest_later path (Ok Base) b a h x = saw_later path (λ log. oldest log ≡ None) b a h x
oldest_later path (Ok (Rotated suffix)) b a h x =
    saw_later path (λ log. oldest log ≡ Some suffix) b a h x
oldest_later path (Ok Changed) b a h (inl x) = inl (short_later b a x)
oldest_later path (Ok Changed) b a h (inr x) =
    inr (saw_later path (λ log. 2 ^ 64 ≤ length (read_from (Past None) log).bytes) b a h x)
oldest_later path (Err fault) b a h x = tt

pub saw_then : (path : List ℕ) (result : Result Oldest OutsideFault)
    {P : History → History → Type 0} {old mid new : Option History}
    → Adds old mid P → Adds mid new (SawOldest path result) → Adds old new (SawOldest path result)
saw_then path result p q =
    adds_then (SawOldest path result) p q (λ a b h x y. oldest_later path result b a h y)

-- each step has what follows of it
pub every_as : (P Q : History → Step → Type 0)
    → ((before : History) (step : Step) → P before step → Q before step)
    → (a h : History) → Every P a h → Every Q a h
every_as P Q so [] h x = tt
every_as P Q so (step ∷ a) h x = (every_as P Q so a h x.0, so (a ++ h) step x.1)

-- the same of the refusals of the job
pub job_cause_then : {T : Type 0} (result : Result T JobFault) (a b c : ℕ) → b ≡ a
    → JobCause b c result → JobCause a c result
job_cause_then result a b c same x = subst (λ n. JobCause n c result) same x

-- the same of a load's refusals
pub check_cause_then : {T : Type 0} (result : Result T CheckFault) (a b c : ℕ) → b ≡ a
    → CheckCause b c result → CheckCause a c result
check_cause_then result a b c same x = subst (λ n. CheckCause n c result) same x

pub check_cause_as : (T V : Type 0) (fault : CheckFault) (before now : ℕ)
    → CheckCause {T = T} before now (Err fault) → CheckCause {T = V} before now (Err fault)
check_cause_as T V (Damaged at) before now x = x
check_cause_as T V (check_outside call) before now x = x
check_cause_as T V check_memory before now x = x

fails_at : (T V : Type 0) (fault : CheckFault) (a h : History)
    → FailsLast {T = T} (Err fault) a h → FailsLast {T = V} (Err fault) a h
fails_at T V (Damaged at) a h x = tt
fails_at T V (check_outside call) a h x = x
fails_at T V check_memory a h x = tt

pub fails_as : (T V : Type 0) (fault : CheckFault) {old new : Option History}
    → Adds old new (FailsLast {T = T} (Err fault)) → Adds old new (FailsLast {T = V} (Err fault))
fails_as T V fault told =
    adds_as (FailsLast {T = V} (Err fault)) told (λ a h x. fails_at T V fault a h x)

fails_later : {T : Type 0} (result : Result T CheckFault) (b a h : History)
    → FailsLast result b (a ++ h) → FailsLast result (b ++ a) h
fails_later (Ok value) b a h x = tt
fails_later (Err (Damaged at)) b a h x = tt
fails_later (Err (check_outside call)) b a h x = λ running.
    ends_in_both call b a
    (x (subst (λ (k : History). is_stopped k ≡ false) (append_assoc b a h) running))
fails_later (Err check_memory) b a h x = tt

pub fails_then : {T : Type 0} (result : Result T CheckFault) {P : History → History → Type 0}
    {old mid new : Option History} → Adds old mid P → Adds mid new (FailsLast result)
    → Adds old new (FailsLast result)
fails_then result p q =
    adds_then (FailsLast result) p q (λ a b h x y. fails_later result b a h y)

-- a refusal of the look is one of the whole
weighed_at : (T V : Type 0) (fault : OutsideFault) (a h : History)
    → LastFailed {T = T} (Err fault) a h → FailsLast {T = V} (Err (check_fault fault)) a h
weighed_at T V (Outside call) a h x = x
weighed_at T V no_memory a h x = tt

pub weighed_last : (T V : Type 0) (fault : OutsideFault) {old new : Option History}
    → Adds old new (LastFailed {T = T} (Err fault))
    → Adds old new (FailsLast {T = V} (Err (check_fault fault)))
weighed_last T V fault told =
    adds_as (FailsLast {T = V} (Err (check_fault fault))) told
    (λ a h x. weighed_at T V fault a h x)

pub weighed_cause : (T V : Type 0) (fault : OutsideFault) (before now : ℕ)
    → OutsideCause {T = T} before now (Err fault)
    → CheckCause {T = V} before now (Err (check_fault fault))
weighed_cause T V (Outside call) before now x = x
weighed_cause T V no_memory before now x = x
