-- The settling of the listed sinks, one after the other.
use Rattle.std.proofs.Common.{◌≡◌, ◌<◌, ◌+◌, ℕ, List, ◌∷◌, length, drop, get_or, Option, None, Result, Ok, ap, sym, ◌∙◌, refl}
use Rattle.std.proofs.lemmas.List.{drop_more}
use Rattle.chk_bytes.specs.Stems.{Stem}
use Rattle.chk_site.specs.declared.acts.Who.{Who}
use Rattle.chk_site.specs.History.{History}
use Rattle.chk_site.specs.Site.{Adds}
use Rattle.chk_site.specs.Runs.{Leads}
use Rattle.chk_site.proofs.Leads.{leads_then, leads_none}
use Rattle.chk_world.specs.Places.{As, AtTold}
use Rattle.chk_sink.specs.declared.fault.SinkFault.{SinkFault}
use Rattle.chk_sink.specs.States.{State, process}
use Rattle.chk_sink.specs.Settling.{IsSettling, Found, HoldsBut, kept_stem, left_of}
use Rattle.chk_world.specs.Works.{Works, rests}
use Rattle.chk_world.proofs.Working.{works_then}
use Rattle.chk_sink.specs.Works.{OfSettling}
use Rattle.chk_sink.specs.Damage.{DamageCause}
use Rattle.chk_site.proofs.Runs.{adds_none}
use Rattle.chk_sink.proofs.Owning.{Made, made_ok}
use Rattle.chk_sink.proofs.JoinedCauses.{cause_then}

-- what the settling of the first names led to, where these names are still to come
pub record IsSettledTo (who : Who) (kept : Option Stem) (names rest : List (List ℕ)) (last : Option Stem) (faults_old faults_now : ℕ)
    (old now : Option History) : Type 0 where
  pub told : (stamped : List (List ℕ)) (s : State) → IsSettling s who → kept ≡ kept_stem s
      → Adds old now (Leads (As stamped (process s)) (AtTold stamped (process s) (HoldsBut s (left_of names None)))
      (AtTold stamped (process s) (HoldsBut s (left_of rest last))))
  pub damaged : Adds old now (DamageCause {T = Unit {0}} (Ok tt))
  pub own : (s : State) → IsSettling s who → kept ≡ kept_stem s → Works who (OfSettling s) None old now
  pub cause : faults_now ≡ faults_old

-- none of them yet
pub settle_begins : (who : Who) (kept : Option Stem) (names : List (List ℕ)) (faults : ℕ) (now : Option History)
    → IsSettledTo who kept names names None faults faults now now
settle_begins who kept names faults now =
    record {
      told = λ stamped s settles k. leads_none now (λ h x. x);
      damaged = adds_none now (DamageCause {T = Unit {0}} (Ok tt)) (λ h. refl);
      own = λ s settles k. rests;
      cause = refl;
    }

module _ (who : Who) (kept : Option Stem) (names : List (List ℕ)) (name : List ℕ) (rest : List (List ℕ)) (last then : Option Stem)
    (faults_old faults_mid : ℕ) (old mid now : Option History) (so_far : IsSettledTo who kept names (name ∷ rest) last faults_old faults_mid old mid)
    (part : Result (Unit {0}) SinkFault) where
  abbrev Part : Type 0
  Part = (stamped : List (List ℕ)) (s : State) (after : List (List ℕ)) → IsSettling s who → kept ≡ kept_stem s
      → Adds mid now (Leads (As stamped (process s)) (AtTold stamped (process s) (HoldsBut s (left_of (name ∷ after) last)))
      (Found stamped s (λ v. HoldsBut s (left_of after then)) part))

  -- the next one was done
  pub settled_on : (faults_now : ℕ) (value : Unit {0}) → part ≡ Ok value → Part → Adds mid now (DamageCause part) → faults_now ≡ faults_mid
      → ((s : State) → IsSettling s who → kept ≡ kept_stem s → Made who (OfSettling s) part mid now)
      → IsSettledTo who kept names rest then faults_old faults_now old now
  settled_on faults_now value is told damaged faults own = record {
    told = λ stamped s settles k.
        leads_then (so_far.told stamped s settles k) (rw is at (told stamped s rest settles k));
    damaged = cause_then (Ok (tt {0})) tt (Ok (tt {0})) refl so_far.damaged (rw is at damaged);
    own = λ s settles k. works_then (so_far.own s settles k) (made_ok part value is (own s settles k));
    cause = faults ∙ so_far.cause;
  }

-- the next name
pub next_named : (names : List (List ℕ)) (i : ℕ) (item name : List ℕ) → i < length names → item ≡ get_or names i item → name ≡ item
    → drop i names ≡ name ∷ drop (i + 1) names
next_named names i item name within is text =
    drop_more names i item within ∙ ap (λ n. n ∷ drop (i + 1) names) (sym is ∙ sym text)
