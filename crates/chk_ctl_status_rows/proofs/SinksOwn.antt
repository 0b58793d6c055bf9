-- Own calls of one who looks at sinks.
use Rattle.std.proofs.Common.{◌≡◌, inl, inr, ℕ, List, [], ◌∷◌, ◌++◌, Option, Ok, Err, Result, refl}
use Rattle.std.proofs.Common.{subst}
use Rattle.chk_bytes.specs.Stems.{Stem}
use Rattle.chk_site.specs.declared.acts.OutsideFault.{OutsideFault}
use Rattle.chk_site.specs.declared.acts.Who.{Who}
use Rattle.chk_site.specs.Acts.{deed}
use Rattle.chk_site.specs.History.{Step, History, Every}
use Rattle.chk_site.specs.Once.{TakenOnce}
use Rattle.chk_site.specs.Site.{answered, bytes_given, names_given, sized, Adds, OutsideCause}
use Rattle.chk_site.proofs.Runs.{adds_as, adds_none, adds_then, every_join}
use Rattle.chk_replace.proofs.CallSteps.{call_each, OfOwn}
use Rattle.chk_world.specs.JobSteps.{asks, reads, IsOf, ReadsFile}
use Rattle.chk_world.specs.Names.{spell, MarkFile, SinkFile}
use Rattle.chk_world.specs.Sight.{job}
use Rattle.chk_ctl_status_rows.specs.declared.sinks.OpenSink.{OpenSink}
use Rattle.chk_ctl_status_rows.specs.declared.sinks.Sinks.{Sinks}
use Rattle.chk_ctl_status_rows.specs.Sinks.{added, ended, failed, listed, listing, lists, mark_read}
use Rattle.chk_ctl_status_rows.specs.Sinks.{mark_unnamed, mark_unread, none_left, one_more, other}
use Rattle.chk_ctl_status_rows.specs.Sinks.{passed, reading, sizing, stands, unlisted, unnamed, unsized}
use Rattle.chk_ctl_status_rows.specs.Sinks.{went, AddsSink, FindsSinks, Listed, LooksAround, SeesMark}
use Rattle.chk_ctl_status_rows.specs.Sinks.{SeesSink, SeesSinks}
use Rattle.chk_ctl_status_rows.specs.Sinks.{reads as reads_file}

abbrev OwnCalls : Option History → Option History → Type 0
OwnCalls old new = Adds old new (Every (IsOf LooksAround))

nothing : {now : Option History} → OwnCalls now now
nothing {now = now} = adds_none now (Every (IsOf LooksAround)) (λ history. tt)

around_step : (before : History) (step : Step) → IsOf ReadsFile before step
    → IsOf LooksAround before step
around_step before step (inl theirs) = inl theirs
around_step before step (inr own) = inr (own.0, reads_file (deed step.act) own.1)

around_every : (steps history : History) → Every (IsOf ReadsFile) steps history
    → Every (IsOf LooksAround) steps history
around_every [] history each = tt
around_every (step ∷ steps) history each = (
  around_every steps history each.0,
  around_step (steps ++ history) step each.1,
)

-- who reads looks around
pub reads_around : {old new : Option History} → Adds old new (Every (IsOf ReadsFile))
    → OwnCalls old new
reads_around told = adds_as (Every (IsOf LooksAround)) told
    (λ steps history x. around_every steps history x)

pub then : {old mid new : Option History} → OwnCalls old mid → OwnCalls mid new → OwnCalls old new
then first second =
    adds_then (Every (IsOf LooksAround)) first second
    (λ a b history p q. every_join (IsOf LooksAround) b a history p q)

size_own : (x : Stem) → OfOwn (IsOf LooksAround) (sizing job x)
size_own x = λ before answer files logs running honest.
    inr (
      record { own = refl; running = running; honest = honest; by = refl },
      reads_file _ (asks (spell (SinkFile x))),
    )

read_own : (x : Stem) → OfOwn (IsOf LooksAround) (reading job x)
read_own x = λ before answer files logs running honest.
    inr (
      record { own = refl; running = running; honest = honest; by = refl },
      reads_file _ (reads (spell (MarkFile x)) 0 9),
    )

list_own : OfOwn (IsOf LooksAround) (listing job)
list_own = λ before answer files logs running honest.
    inr (record { own = refl; running = running; honest = honest; by = refl }, lists _)

sized_own : (x : Stem) {result : Result (Option ℕ) OutsideFault} {old new : Option History}
    → TakenOnce (sizing job x) sized result old new → OwnCalls old new
sized_own x once =
    adds_as (Every (IsOf LooksAround)) once.told
    (λ steps history calls.
    call_each (IsOf LooksAround) (answered sized once.given) (λ before step theirs. inl theirs)
    (size_own x) calls)

read_so : (x : Stem) {result : Result (Option (List ℕ)) OutsideFault} {old new : Option History}
    → TakenOnce (reading job x) bytes_given result old new → OwnCalls old new
read_so x once =
    adds_as (Every (IsOf LooksAround)) once.told
    (λ steps history calls.
    call_each (IsOf LooksAround) (answered bytes_given once.given)
    (λ before step theirs. inl theirs) (read_own x) calls)

mark_own : {x : Stem} {n : ℕ} {result : Result (Option OpenSink) OutsideFault}
    {old new : Option History} → SeesMark job x n result old new → OwnCalls old new
mark_own mark_unnamed = nothing
mark_own {x = x} (mark_unread once) = read_so x once
mark_own {x = x} (mark_read once) = read_so x once

sink_own : {x : Stem} {result : Result (Option OpenSink) OutsideFault} {old new : Option History}
    → SeesSink job x result old new → OwnCalls old new
sink_own unnamed = nothing
sink_own {x = x} (unsized once) = sized_own x once
sink_own {x = x} (went once) = sized_own x once
sink_own {x = x} (stands once mark) = then (sized_own x once) (mark_own mark)

adds_own : {sinks : List OpenSink} {name : List ℕ} {result : Result (List OpenSink) OutsideFault}
    {old new : Option History} → AddsSink job sinks name result old new → OwnCalls old new
adds_own (other is) = nothing
adds_own (passed x is sees) = sink_own sees
adds_own (added result x is sees) = sink_own sees
adds_own (failed x is sees) = sink_own sees

sinks_own : {sinks : List OpenSink} {names : List (List ℕ)}
    {result : Result (List OpenSink) OutsideFault} {old new : Option History}
    → SeesSinks job sinks names result old new → OwnCalls old new
sinks_own none_left = nothing
sinks_own (one_more first rest) = then (adds_own first) (sinks_own rest)
sinks_own (ended first) = adds_own first

listed_own : (result : Result (List (List ℕ)) OutsideFault) {old new : Option History}
    → Listed job result old new → OwnCalls old new
listed_own (Ok names) told =
    adds_as (Every (IsOf LooksAround)) told
    (λ steps history calls.
    call_each (IsOf LooksAround) (Ok (names_given names)) (λ before step theirs. inl theirs)
    list_own calls)
listed_own (Err fault) told =
    adds_as (Every (IsOf LooksAround)) told.2
    (λ steps history calls.
    call_each (IsOf LooksAround) (answered names_given told.0)
    (λ before step theirs. inl theirs) list_own calls)

finds_so : {result : Result Sinks OutsideFault} {old new : Option History}
    → FindsSinks job result old new → OwnCalls old new
finds_so (unlisted {fault = fault} told) = listed_own (Err fault) told
finds_so (listed {names = names} told sees) =
    then (listed_own (Ok names) told) (sinks_own sees.seen)

-- the calls of one who finds the sinks
pub finds_own : {who : Who} {result : Result Sinks OutsideFault} {old new : Option History}
    → who ≡ job → FindsSinks who result old new → OwnCalls old new
finds_own {who = who} {result = result} {old = old} {new = new} is finds =
    finds_so (subst (λ (w : Who). FindsSinks w result old new) is finds)

pub cause_after : {T : Type 0} (result : Result T OutsideFault) (before mid now : ℕ)
    → mid ≡ before → OutsideCause mid now result → OutsideCause before now result
cause_after {T = T} result before mid now same cause =
    subst (λ (n : ℕ). OutsideCause {T = T} n now result) same cause
