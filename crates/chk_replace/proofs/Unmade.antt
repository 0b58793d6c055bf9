-- A replacement that wants memory hasn't renamed.
use Rattle.std.proofs.Common.{◌≡◌, ◌≢◌, ℕ, ◌+◌, true, false, List, [], ◌∷◌, ◌++◌, length, Option, bytes_eq, codes, Ok, Err, Result, sym, subst, ◌∙◌, ap, length-append, arith}
use Rattle.std.specs.Prelude.{MatchResult}
use Rattle.std.proofs.lemmas.Bool.{false_from_ne_true}
use Rattle.std.proofs.lemmas.Slice.Eq.{bytes_eq-Decides}
use Rattle.chk_site.specs.declared.acts.Who.{Who}
use Rattle.chk_site.specs.declared.acts.Call.TheVariants.{Create, Append, Sync, Rename, Remove}
use Rattle.chk_site.specs.declared.acts.OutsideFault.{OutsideFault}
use Rattle.chk_site.specs.declared.acts.OutsideFault.TheVariants.{Outside, NoMemory as no_memory}
use Rattle.chk_site.specs.declared.acts.CallFault.{CallFault}
use Rattle.chk_site.specs.declared.acts.CallFault.TheVariants.{Failed, Missing, Exists, Short, NoMemory}
use Rattle.chk_site.specs.Acts.{touches, deed}
use Rattle.chk_site.specs.History.{Step, History, Every, IsTheirs}
use Rattle.chk_site.specs.Site.{Adds, Asked, asked, answered, plain, Calls, IsDone, Ends}
use Rattle.chk_site.specs.Runs.{MadeInTurn}
use Rattle.chk_site.proofs.Runs.{adds_then, adds_as, every_join, ran}
use Rattle.chk_replace.specs.Replace.{tmp, SparesOld}
use Rattle.chk_replace.proofs.CallSteps.{OfEach, script_each}

-- the step, where it is the site's own, leaves the file
abbrev Spares : List ℕ → History → Step → Type 0
Spares name before step = step.own ≡ true → touches (deed step.act) name ≡ false

longer : (name : List ℕ) → name ≢ tmp name
longer name e =
    let more : length (name ++ codes ".tmp") ≡ length name + 4 = length-append name (codes ".tmp") in
    let same : length name ≡ length (name ++ codes ".tmp") = ap length e in
    omega arith

apart : (name : List ℕ) → bytes_eq name (tmp name) ≡ false
apart name = false_from_ne_true (bytes_eq name (tmp name)) (λ e. longer name ((bytes_eq-Decides name (tmp name)).0 e))

all_spare : (result : Result (Unit {0}) OutsideFault) (name : List ℕ) (added history : History)
    → ((before : History) (step : Step) → SparesOld result name before step) → Every (SparesOld result name) added history
all_spare result name [] history each = tt
all_spare result name (step ∷ added) history each =
    (all_spare result name added history each, each (added ++ history) step)

theirs_spare : (name : List ℕ) (added history : History) → Every IsTheirs added history → Every (Spares name) added history
theirs_spare name [] history theirs = tt
theirs_spare name (step ∷ added) history theirs = (
  theirs_spare name added history theirs.0,
  λ own. absurd (let x : true ≡ false = sym own ∙ theirs.1.0 in cc),
)

spares_old : (result : Result (Unit {0}) OutsideFault) (name : List ℕ) (added history : History)
    → Every (Spares name) added history → Every (SparesOld result name) added history
spares_old (Ok value) name added history spares = all_spare (Ok value) name added history (λ before step. tt)
spares_old (Err (Outside call)) name added history spares = all_spare (Err (Outside call)) name added history (λ before step. tt)
spares_old (Err no_memory) name added history spares = spares

-- the rename that wants memory has no step
last_spares : (who : Who) (name : List ℕ) (result : Result (Unit {0}) OutsideFault) (given : Result (Unit {0}) CallFault)
    {added history : History} → MatchResult result (λ value. IsDone given) (λ fault. Ends Rename given fault)
    → Calls (asked who Rename (tmp name ∷ name ∷ []) 0 0) (answered plain given) added history
    → Every (SparesOld result name) added history
last_spares who name (Ok value) given {added = added} {history = history} is calls =
    all_spare (Ok value) name added history (λ before step. tt)
last_spares who name (Err (Outside call)) given {added = added} {history = history} is calls =
    all_spare (Err (Outside call)) name added history (λ before step. tt)
last_spares who name (Err no_memory) (Err NoMemory) {added = added} {history = history} is calls =
    theirs_spare name added history (ran (Err NoMemory) (λ e. cc) calls)
last_spares who name (Err no_memory) (Err Failed) is calls = absurd (let x : no_memory ≡ Outside Rename = is in cc)
last_spares who name (Err no_memory) (Ok value) is calls = absurd is
last_spares who name (Err no_memory) (Err Missing) is calls = absurd is
last_spares who name (Err no_memory) (Err Exists) is calls = absurd is
last_spares who name (Err no_memory) (Err (Short size)) is calls = absurd is

-- the four calls before the rename
abbrev pub before_rename : Who → List ℕ → List ℕ → List ℕ → List Asked
before_rename who name bytes next =
    asked who Remove (next ∷ []) 0 0
    ∷ asked who Create (next ∷ []) 0 0
    ∷ asked who Append (next ∷ bytes ∷ []) 0 0
    ∷ asked who Sync (next ∷ []) 0 0
    ∷ []

each_spares : (who : Who) (name bytes : List ℕ) → OfEach (Spares name) (before_rename who name bytes (tmp name))
each_spares who name bytes =
    let out = apart name in (
      λ before answer files logs running honest own. out,
      (
        λ before answer files logs running honest own. out,
        (λ before answer files logs running honest own. out, (λ before answer files logs running honest own. out, tt)),
      ),
    )

-- none of these leads to the rename
pub unmade_before : (who : Who) (name bytes : List ℕ) {next : List ℕ} {result : Result (Unit {0}) OutsideFault} {old new : Option History} → next ≡ tmp name
    → MadeInTurn (before_rename who name bytes next) result old new → Adds old new (Every (SparesOld result name))
unmade_before who name bytes {result = result} {old = old} {new = new} e script =
    adds_as (Every (SparesOld result name))
    (script_each (Spares name) (λ before step theirs own. absurd (let x : true ≡ false = sym own ∙ theirs.0 in cc)) (each_spares who name bytes)
    (subst (λ (n : List ℕ). MadeInTurn (before_rename who name bytes n) result old new) e script))
    (λ a history spares. spares_old result name a history spares)

-- all four, and then the rename
pub unmade_by : (who : Who) (name bytes : List ℕ) {next : List ℕ} (result : Result (Unit {0}) OutsideFault) (given : Result (Unit {0}) CallFault)
    {old mid new : Option History} → next ≡ tmp name → MadeInTurn (before_rename who name bytes next) (Ok tt) old mid
    → MatchResult result (λ value. IsDone given) (λ fault. Ends Rename given fault)
    → Adds mid new (Calls (asked who Rename (next ∷ name ∷ []) 0 0) (answered plain given)) → Adds old new (Every (SparesOld result name))
unmade_by who name bytes {next = next} result given {old = old} {mid = mid} {new = new} e script is told =
    adds_then (Every (SparesOld result name))
    (script_each (Spares name) (λ before step theirs own. absurd (let x : true ≡ false = sym own ∙ theirs.0 in cc)) (each_spares who name bytes)
    (subst (λ (n : List ℕ). MadeInTurn (before_rename who name bytes n) (Ok tt) old mid) e script))
    (subst (λ (n : List ℕ). Adds mid new (Calls (asked who Rename (n ∷ name ∷ []) 0 0) (answered plain given))) e told)
    (λ a b history spares calls.
    every_join (SparesOld result name) b a history (spares_old result name a history spares) (last_spares who name result given is calls))
