-- What parts of a settling lead to, one after the other.
use Rattle.std.proofs.Common.{◌≡◌, ℕ, List, Option, Result, Ok, Err}
use Rattle.chk_site.specs.declared.acts.OutsideFault.{OutsideFault}
use Rattle.chk_site.specs.declared.acts.OutsideFault.TheVariants.{Outside as site_failed, NoMemory as no_memory}
use Rattle.chk_site.specs.declared.acts.Who.{Who}
use Rattle.chk_site.specs.History.{History}
use Rattle.chk_site.specs.Site.{Adds}
use Rattle.chk_site.specs.Runs.{Side, Leads}
use Rattle.chk_site.proofs.Leads.{leads_as, leads_then}
use Rattle.chk_world.specs.Places.{As, AtTold}
use Rattle.chk_bytes.specs.Stems.{Stem}
use Rattle.chk_sink.specs.declared.fault.SinkFault.{SinkFault}
use Rattle.chk_sink.specs.declared.fault.SinkFault.TheVariants.{Damaged, NoMemory}
use Rattle.chk_sink.specs.States.{State, process}
use Rattle.chk_sink.specs.Held.{IsOther, Matches}
use Rattle.chk_sink.specs.Faults.{sink_fault}
use Rattle.chk_sink.specs.Damage.{IsDamageOf}
use Rattle.chk_sink.specs.Settling.{IsSettling, Found}
use Rattle.chk_sink.proofs.Holding.{told_by}
use Rattle.chk_sink.proofs.LeftCalls.{IsLeft}

pub is_left : (s : State) (who : Who) (x : Stem) → IsSettling s who → IsOther s x → IsLeft s x
is_left s who x settles other = record {
  named = settles.named;
  abandoned = settles.abandoned;
  good = settles.good;
  other = other;
}

module _ (stamped : List (List ℕ)) (s : State) {T : Type 0} (P : T → History → Type 0) where
  abbrev F : Side
  F = As stamped (process s)

  failed_as : (fault : OutsideFault) (h : History) → Matches stamped s h → Found stamped s P (Err (sink_fault fault)) h
  failed_as (site_failed call) h x = x
  failed_as no_memory h x = x

  -- a call ended the work
  pub found_failed : (result : Result T SinkFault) (fault : OutsideFault) {A : History → Type 0} {old new : Option History} → result ≡ Err (sink_fault fault)
      → Adds old new (Leads F A (Matches stamped s)) → Adds old new (Leads F A (Found stamped s P result))
  found_failed result fault e told =
      rw e (leads_as (λ h x. x) (failed_as fault) told)

  kept_as : {U : Type 0} (Q : U → History → Type 0) (fault : SinkFault) (h : History) → Found stamped s Q (Err fault) h → Found stamped s P (Err fault) h
  kept_as Q (Damaged name at) h x = x
  kept_as Q fault h x = x

  -- a part was refused
  pub found_as : {U : Type 0} (Q : U → History → Type 0) (part : Result U SinkFault) (result : Result T SinkFault) (fault : SinkFault) {A : History → Type 0}
      {old new : Option History} → part ≡ Err fault → result ≡ Err fault
      → Adds old new (Leads F A (Found stamped s Q part)) → Adds old new (Leads F A (Found stamped s P result))
  found_as Q part result fault e f told =
      rw f (leads_as (λ h x. x) (kept_as Q fault) (rw e at told))

  -- one part after another that was done
  pub found_then : (part : Result T SinkFault) (value : T) {A Z : History → Type 0} {old mid new : Option History} → part ≡ Ok value
      → Adds old mid (Leads F A (Found stamped s P part)) → Adds mid new (Leads F (AtTold stamped (process s) (P value)) Z)
      → Adds old new (Leads F A Z)
  found_then part value e told next = leads_then (rw e at told) next

-- the refusal of a damaged mark
pub found_damage : (stamped : List (List ℕ)) (s : State) {T : Type 0} (P : T → History → Type 0) (w : List ℕ) (fault : SinkFault) {A : History → Type 0}
    {old new : Option History} → IsDamageOf w fault
    → Adds old new (Leads (As stamped (process s)) A (AtTold stamped (process s) (λ h. ⊥)))
    → Adds old new (Leads (As stamped (process s)) A (Matches stamped s))
    → Adds old new (Leads (As stamped (process s)) A (Found stamped s P (Err fault)))
found_damage stamped s P w (Damaged name at) is never kept = never
found_damage stamped s P w NoMemory is never kept = kept
found_damage stamped s P w fault is never kept = absurd is

-- less is known
pub told_less : (stamped : List (List ℕ)) (s : State) (B C : History → Type 0) → ((h : History) → B h → C h) → (h : History)
    → AtTold stamped (process s) B h → AtTold stamped (process s) C h
told_less stamped s B C less h x = told_by h (less h) x
