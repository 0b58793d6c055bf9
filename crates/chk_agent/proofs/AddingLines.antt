-- The lines of a past adaptor that lives again, and what keeps them.
use Rattle.std.proofs.Common.{◌≡◌, ℕ, zero, suc, ◌≤◌, true, List, [], ◌∷◌, length, map, Some, Err}
use Rattle.std.proofs.Common.{ap, sym, ◌∙◌, refl, arith}
use Rattle.std.specs.Prelude.{slice_get, slice_set, slice_index}
use Rattle.std.proofs.lemmas.Option.{same_Some}
use Rattle.chk_site.specs.History.{History}
use Rattle.std.specs.Prelude.{Option}
use Rattle.chk_site.specs.declared.acts.OutsideFault.{OutsideFault}
use Rattle.chk_site.specs.declared.acts.OutsideFault.TheVariants.{Outside as site_failed}
use Rattle.chk_site.specs.declared.acts.OutsideFault.TheVariants.{NoMemory as no_memory}
use Rattle.chk_site.specs.Site.{Adds, LastFailed, OutsideCause}
use Rattle.chk_site.proofs.Runs.{adds_as, adds_none}
use Rattle.chk_agent.specs.declared.answers.AgentFault.TheVariants.{NoMemory}
use Rattle.chk_agent.specs.Faults.{AgentCause, FailsLast, IsUndamaged, fault_of}
use Rattle.chk_checkpoint.specs.declared.CheckLine.{CheckLine}
use Rattle.chk_checkpoint.specs.Lines.{shown}
use Rattle.chk_world.specs.Checkpoints.{Line}
use Rattle.chk_agent_adaptor.specs.Adaptors.{Adaptor, line_at, revived}
use Rattle.chk_agent.specs.States.{lines_at}
use Rattle.chk_agent.proofs.Soundness.{at_map}
use Rattle.chk_agent.proofs.Listing.{line_get}
use Rattle.chk_agent.proofs.SettlingLines.{lines_set}

map_set : (lines : List CheckLine) (n : ℕ) (z : CheckLine) → map shown (slice_set lines n z) ≡ slice_set (map shown lines) n (shown z)
map_set [] n z = refl
map_set (l ∷ lines) zero z = refl
map_set (l ∷ lines) (suc n) z = ap (λ ls. shown l ∷ ls) (map_set lines n z)

pub lines_revived : (lines : List CheckLine) (y z : CheckLine) (xs : List Adaptor) (ends : List ℕ) (n : ℕ) (a : Adaptor) (name : List ℕ)
    → map shown lines ≡ lines_at xs ends → length xs ≤ length ends → slice_get lines n ≡ Some y → slice_get xs n ≡ Some a
    → shown z ≡ record (shown y) { live = true; name = name }
    → map shown (slice_set lines n z) ≡ lines_at (slice_set xs n (revived name a)) ends
lines_revived lines y z xs ends n a name are few got at is =
    let same : shown y ≡ line_at (slice_index ends n) a =
    same_Some (shown y) (line_at (slice_index ends n) a)
    (sym (at_map shown lines n y got) ∙ (ap (λ ls. slice_get ls n) are ∙ line_get xs ends n a at)) in
    map_set lines n z
    ∙ (ap (λ ls. slice_set ls n (shown z)) are
    ∙ (ap (λ k. slice_set (lines_at xs ends) n k) (is ∙ ap (λ (l : Line). record l { live = true; name = name }) same)
    ∙ lines_set xs ends n (revived name a) few))

-- ---- where the writing was refused

pub undamaged_by : (T : Type 0) (fault : OutsideFault) → IsUndamaged {T = T} (Err (fault_of fault))
undamaged_by T (site_failed call) = tt
undamaged_by T no_memory = tt

pub last_by : (S T : Type 0) (fault : OutsideFault) {old new : Option History} → Adds old new (LastFailed {T = S} (Err fault))
    → Adds old new (FailsLast {T = T} (Err (fault_of fault)))
last_by S T (site_failed call) last = last
last_by S T no_memory last = last

pub cause_by : (S T : Type 0) (fault : OutsideFault) (before now : ℕ) → OutsideCause {T = S} before now (Err fault)
    → AgentCause {T = T} before now (Err (fault_of fault))
cause_by S T (site_failed call) before now cause = cause
cause_by S T no_memory before now cause = omega (arith, cause)

-- ---- where nothing failed outside

pub last_none : (T : Type 0) (now : Option History) → Adds now now (FailsLast {T = T} (Err NoMemory))
last_none T now = adds_none now (FailsLast {T = T} (Err NoMemory)) (λ h. tt)

pub last_unmade : (T : Type 0) {P : History → History → Type 0} {old new : Option History} → Adds old new P
    → Adds old new (FailsLast {T = T} (Err NoMemory))
last_unmade T p = adds_as (FailsLast {T = T} (Err NoMemory)) p (λ a h x. tt)
