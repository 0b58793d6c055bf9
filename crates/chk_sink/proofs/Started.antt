-- A start from its begin: the next number was published, and the sinks that earlier starts left are settled.
use Rattle.std.proofs.Common.{◌≡◌, ℕ, false, ◌++◌, List, Option, Ok, Err, ap, refl, subst, ◌∙◌, true≢false}
use Rattle.chk_site.specs.declared.acts.Role.TheVariants.{Collector}
use Rattle.chk_site.specs.declared.acts.Who.{Who}
use Rattle.chk_site.specs.History.{History}
use Rattle.chk_site.specs.Site.{Adds}
use Rattle.chk_site.specs.Runs.{Leads}
use Rattle.chk_site.proofs.Leads.{leads_then, leads_as}
use Rattle.chk_site.proofs.Runs.{adds_then}
use Rattle.chk_world.specs.Rules.{Legal}
use Rattle.chk_world.specs.Places.{As, AtTold}
use Rattle.chk_sink.specs.declared.fault.SinkFault.{SinkFault}
use Rattle.chk_sink.specs.declared.fault.SinkFault.TheVariants.{Damaged, Spent, NoMemory}
use Rattle.chk_sink.specs.States.{State, process, settled_state}
use Rattle.chk_sink.specs.Held.{Holds, Matches}
use Rattle.chk_sink.specs.Closes.{Settled, IsOfTick}
use Rattle.chk_sink.specs.Starts.{Started}
use Rattle.chk_sink.specs.Starting.{Published, first_state}
use Rattle.chk_sink.specs.Damage.{has_read_last, SpentCause}
use Rattle.chk_sink.proofs.Holding.{told_by}
use Rattle.chk_sink.proofs.Putting.{the_collector}
use Rattle.chk_sink.proofs.Showing.{last, behind, ShowsNone}

-- ---- what it leads to

module _ (stamped : List (List ℕ)) (c : List ℕ) (born rotate : ℕ) where
  abbrev Me : Who
  Me = record { role = Collector; name = c }

  abbrev S : State
  S = first_state Me born rotate

  first_matches : (h : History) → Published stamped Me (Ok born) h → Matches stamped S h
  first_matches h x = told_by h (λ p. record { born = p.born_is; made = p.made; writing = tt; tidy = λ e. absurd (true≢false e) }) x

  unsettled : (fault : SinkFault) (h : History) → IsOfTick fault → Settled stamped S (Err fault) h → Started stamped Me (Err fault) h
  unsettled (Damaged name at) h only x = x
  unsettled (Spent number) h only x = absurd only
  unsettled fault h only x = x.legal

  started_me : (st : State) → st ≡ settled_state S → {old mid new : Option History}
      → Adds old mid (Leads (As stamped Me) (Legal stamped) (Published stamped Me (Ok born)))
      → Adds mid new (Leads (As stamped Me) (Matches stamped S) (Matches stamped st))
      → Adds old new (Leads (As stamped Me) (Legal stamped) (Started stamped Me (Ok st)))
  started_me st st_is {old = old} {new = new} publish settle =
      leads_then publish
      (leads_as first_matches (λ h x. subst (λ (t : State). AtTold stamped (process t) (Holds st) h) st_is x) settle)

  unstarted_me : (st : State) (fault : SinkFault) → st ≡ S → IsOfTick fault → {old mid new : Option History}
      → Adds old mid (Leads (As stamped Me) (Legal stamped) (Published stamped Me (Ok born)))
      → Adds mid new (Leads (As stamped Me) (Matches stamped S) (Settled stamped st (Err fault)))
      → Adds old new (Leads (As stamped Me) (Legal stamped) (Started stamped Me (Err fault)))
  unstarted_me st fault st_is only publish settle =
      leads_then publish
      (leads_as first_matches (λ h x. unsettled fault h only (subst (λ (t : State). Settled stamped t (Err fault) h) st_is x)) settle)

-- the same of a process that is a collector, and of sinks that are the first ones
pub started_told : (stamped : List (List ℕ)) (who : Who) (born rotate : ℕ) (s st : State) → who.role ≡ Collector → s ≡ first_state who born rotate
    → st ≡ settled_state s → {old mid new : Option History}
    → Adds old mid (Leads (As stamped who) (Legal stamped) (Published stamped who (Ok born)))
    → Adds mid new (Leads (As stamped (process s)) (Matches stamped s) (Matches stamped st))
    → Adds old new (Leads (As stamped who) (Legal stamped) (Started stamped who (Ok st)))
started_told stamped who born rotate s st role s_is st_is publish settle =
    let me = the_collector who who.name role refl in
    rw me (started_me stamped who.name born rotate st (st_is ∙ ap settled_state s_is) (rw me at publish) (rw s_is at settle))

pub unstarted_told : (stamped : List (List ℕ)) (who : Who) (born rotate : ℕ) (s st : State) (fault : SinkFault) → who.role ≡ Collector
    → s ≡ first_state who born rotate → st ≡ s → IsOfTick fault → {old mid new : Option History}
    → Adds old mid (Leads (As stamped who) (Legal stamped) (Published stamped who (Ok born)))
    → Adds mid new (Leads (As stamped (process s)) (Matches stamped s) (Settled stamped st (Err fault)))
    → Adds old new (Leads (As stamped who) (Legal stamped) (Started stamped who (Err fault)))
unstarted_told stamped who born rotate s st fault role s_is st_is only publish settle =
    let me = the_collector who who.name role refl in
    rw me (unstarted_me stamped who.name born rotate st fault (st_is ∙ s_is) only (rw me at publish) (rw s_is at settle))

-- ---- what its steps show

pub unstarted_spent : (T : Type 0) (fault : SinkFault) (born : ℕ) → IsOfTick fault → {old mid new : Option History} → Adds old mid (SpentCause (Ok born))
    → Adds mid new (ShowsNone last) → Adds old new (SpentCause {T = T} (Err fault))
unstarted_spent T fault born only publish settle =
    adds_then (SpentCause {T = T} (Err fault)) publish settle (λ a b h x y. spent_by fault only (b ++ a) h (behind last b a x ∙ y))
  where
    spent_by : (fault : SinkFault) → IsOfTick fault → (a h : History) → has_read_last a ≡ false → SpentCause {T = T} (Err fault) a h
    spent_by (Spent number) only a h none = absurd only
    spent_by NoMemory only a h none = tt
    spent_by fault only a h none = none

pub started_spent : (T : Type 0) (value : T) (born : ℕ) {old mid new : Option History} → Adds old mid (SpentCause (Ok born))
    → Adds mid new (ShowsNone last) → Adds old new (SpentCause (Ok value))
started_spent T value born publish settle =
    adds_then (SpentCause (Ok value)) publish settle (λ a b h x y. behind last b a x ∙ y)
