-- A fact of what a process sees and of its own files stays over steps of others.
use Rattle.std.proofs.Common.{◌≡◌, ℕ, false, List, ◌∷◌, Option, sym, subst, ◌∙◌}
use Rattle.std.specs.Prelude.{IsTrue, codes}
use Rattle.chk_site.specs.declared.acts.Role.TheVariants.{Agent, Collector, Job}
use Rattle.chk_site.specs.declared.acts.Who.{Who}
use Rattle.chk_site.specs.Files.{File}
use Rattle.chk_site.specs.History.{Step, History, is_stopped}
use Rattle.chk_world.specs.Names.{Name}
use Rattle.chk_world.specs.Rules.{Legal}
use Rattle.chk_world.specs.Places.{Foreign, AtTold, Place, SeenAt, IsPlace, Leaves, collector_at, agent_at, job_at}
use Rattle.chk_world.proofs.Frames.{files_stay, view_stays, steps_stay, start_stays, listing_stays}

-- a legal step of another process that spares this one keeps B
abbrev pub Stays : List (List ℕ) → Who → (History → Type 0) → Type 0
Stays stamped who B = (history : History) (step : Step) → Legal stamped history → Foreign stamped who history step → B history → B (step ∷ history)

-- what the process sees stays
abbrev pub SightStays : {V : Type 0} → List (List ℕ) → Place V → Type 0
SightStays stamped p = (history : History) (step : Step) → Legal stamped history → Foreign stamped p.who history step → p.sees (step ∷ history) ≡ p.sees history

pub along : {V : Type 0} (P : V → Option File → Option File → Option File → Type 0) {v w : V} {a b c a' b' c' : Option File}
    → w ≡ v → a' ≡ a → b' ≡ b → c' ≡ c → P v a b c → P w a' b' c'
along P {v = v} {w = w} {a = a} {b = b} {c = c} {a' = a'} {b' = b'} {c' = c'} e f g h p =
    subst (λ u. P u a' b' c') (sym e) (subst (λ o. P v o b' c') (sym f) (subst (λ o. P v a o c') (sym g) (subst (λ o. P v a b o) (sym h) p)))

pub seen_stays : {V : Type 0} (stamped : List (List ℕ)) (p : Place V) (P : V → Option File → Option File → Option File → Type 0)
    → IsPlace p → SightStays stamped p → Stays stamped p.who (SeenAt p P)
seen_stays stamped p P place sight history step legal f h =
    along P (sight history step legal f) (files_stay stamped p.who history step p.first f place.first)
    (files_stay stamped p.who history step p.second f place.second) (files_stay stamped p.who history step p.third f place.third) h

-- a step that isn't the site's own
pub told_stays : (stamped : List (List ℕ)) (who : Who) (B : History → Type 0) → Stays stamped who B → (history : History) (step : Step)
    → step.own ≡ false → Foreign stamped who history step → AtTold stamped who B history → AtTold stamped who B (step ∷ history)
told_stays stamped who B stays history step theirs f h =
    let was : is_stopped (step ∷ history) ≡ false → is_stopped history ≡ false = λ running. rw theirs at running in
    record {
      legal = (h.legal, f.obeys);
      may_act = λ running. start_stays stamped who history step f ∙ h.may_act (was running);
      alive = λ running. stays history step h.legal f (h.alive (was running));
    }

leaves_place : {V : Type 0} (p : Place V) → ((stamped : List (List ℕ)) → SightStays stamped p) → Leaves p
leaves_place p sight stamped history step test place theirs f h =
    told_stays stamped p.who _ (seen_stays stamped p (λ v a b c. IsTrue (test v a b c)) place (sight stamped)) history step theirs f h

pub collectors_stay : (name : List ℕ) (a b c : Name) → Leaves (collector_at (record { role = Collector; name = name }) a b c)
collectors_stay name a b c = leaves_place _ (λ stamped history step legal f. view_stays stamped _ history step f)

pub agents_stay : (name : List ℕ) (a b c : Name) → Leaves (agent_at (record { role = Agent; name = name }) a b c)
agents_stay name a b c = leaves_place _ (λ stamped history step legal f. steps_stay stamped _ history step f)

pub job_stays : (a b c : Name) → Leaves (job_at (record { role = Job; name = codes "job" }) a b c)
job_stays a b c = leaves_place _ (λ stamped history step legal f. listing_stays stamped history step f)
