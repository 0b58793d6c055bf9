-- The start of a run and the load of its book.
use Rattle.std.proofs.Common.{◌≡◌, ℕ, false, List, [], Option, Some, None, Ok, Err, Result, ap, sym, ◌∙◌, refl}
use Rattle.std.proofs.lemmas.Option.{none-some}
use Rattle.std.specs.Prelude.{MatchResult}
use Rattle.chk_site.specs.declared.acts.OutsideFault.{OutsideFault}
use Rattle.chk_site.specs.declared.acts.CallFault.{CallFault}
use Rattle.chk_site.specs.declared.acts.Call.TheVariants.{Start}
use Rattle.chk_site.specs.Acts.{Deed, Starts, Reads}
use Rattle.chk_site.specs.Files.{File}
use Rattle.chk_site.specs.History.{History}
use Rattle.chk_site.specs.Site.{Adds, LastFailed, Asked, asked, answered, plain, IsDone, Calls, Ends}
use Rattle.chk_site.proofs.Runs.{adds_as}
use Rattle.chk_site.proofs.LastCalls.{ended_last as ends_last}
use Rattle.chk_world.specs.Committed.{OnFile}
use Rattle.chk_world.specs.JobSteps.{ReadsFile, reads, asks}
use Rattle.chk_world.specs.Laws.{IsWholeBook}
use Rattle.chk_world.specs.Sight.{job}
use Rattle.chk_world.proofs.SpelledLemmas.{book_so}
use Rattle.chk_world.proofs.ToldCalls.{talks}
use Rattle.chk_book.specs.Damage.{book_damage}
use Rattle.chk_book.specs.Loaded.{IsNoBookAt, file_bytes}
use Rattle.chk_book.proofs.NoDamage.{no_damage}

-- the call that starts a run
abbrev pub StartQ : Asked
StartQ = asked job Start [] 0 0

-- it reads nothing
pub no_read : (name : List ℕ) (at max : ℕ) → Starts ≡ Reads name at max → ⊥
no_read name at max is = absurd (cc)

-- where it failed, it is the last call
pub start_last : (r : Result (Unit {0}) OutsideFault) (given : Result (Unit {0}) CallFault) {old new : Option History}
    → MatchResult r (λ _. IsDone given) (λ fault. Ends StartQ.call given fault)
    → Adds old new (Calls StartQ (answered plain given)) → Adds old new (LastFailed r)
start_last (Ok value) given is told = adds_as (LastFailed (Ok value)) told (λ added history calls. tt)
start_last (Err fault) given ends told =
    adds_as (LastFailed {T = Unit {0}} (Err fault)) told
    (λ added history calls. ends_last (Unit {0}) plain given fault ends calls)

-- a book of a legal history has no wrong field
pub undamaged : (o : Option File) (at : ℕ) → OnFile o IsWholeBook → IsNoBookAt (file_bytes o) at → ⊥
undamaged None at whole bad = bad
undamaged (Some f) at whole bad =
    let so = book_so f.bytes whole.book whole.is in
    none-some at (sym (ap book_damage (sym so.2) ∙ no_damage so.0 whole.book so.1) ∙ bad)

-- reads don't talk to other processes
pub quiet_read : (call : Deed) → ReadsFile call → talks call ≡ false
quiet_read call (reads name at max) = refl
quiet_read call (asks name) = refl
