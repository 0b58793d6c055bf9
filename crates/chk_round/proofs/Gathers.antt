-- Collector and agent have begun, and the logs are added.
use Rattle.std.proofs.Common.{◌≡◌, inl, inr, ◌⊎◌, ℕ, zero, suc, Bool, true, false, if◌then◌else◌, List, [], ◌∷◌, ◌++◌, length, map, Option, Some, None, Ok, Err, ap, sym, subst, ◌∙◌, refl, true≢false}
use Rattle.std.specs.Prelude.{codes, filter, slice_get}
use Rattle.std.proofs.lemmas.Option.{same_Some, none-some}
use Rattle.chk_control.specs.declared.Class.{Class}
use Rattle.chk_site.specs.declared.acts.Who.{Who}
use Rattle.chk_site.specs.History.{History}
use Rattle.chk_site.specs.Site.{Adds}
use Rattle.chk_site.specs.Runs.{Leads}
use Rattle.chk_site.proofs.Leads.{leads_as, leads_then}
use Rattle.chk_acks.specs.Rows.{is_of_other}
use Rattle.chk_failover.specs.Turns.{Turns}
use Rattle.chk_world.specs.Checkpoints.{Line}
use Rattle.chk_world.specs.Places.{As}
use Rattle.chk_world.specs.Rules.{Legal}
use Rattle.chk_world.specs.Together.{Together}
use Rattle.chk_sink.specs.States.{State as Sinks}
use Rattle.chk_agent_adaptor.specs.declared.adaptor.Phase.TheVariants.{Live, Past}
use Rattle.chk_agent_adaptor.specs.Adaptors.{Adaptor, adaptor_of, is_past, revived}
use Rattle.chk_agent.specs.declared.agent.Rules.{Rules}
use Rattle.chk_agent.specs.declared.answers.Added.{Added}
use Rattle.chk_agent.specs.Adds.{Found, IsAdded, with_added}
use Rattle.chk_agent.specs.Adds as adds
use Rattle.chk_agent.specs.Facts.{Matches as AgentMatches}
use Rattle.chk_agent.specs.States.{State as Agents, process as agent_of}
use Rattle.chk_agent.proofs.SteppingSound.{set_at}
use Rattle.chk_round.specs.declared.faults.RoundFault.{RoundFault}
use Rattle.chk_round.specs.declared.faults.RoundFault.TheVariants.{Outside, NoMemory, Damaged, Length, Growing, Shrank, Spent, Refused, Checkpoint}
use Rattle.chk_round.specs.Adding.{AddsLogs}
use Rattle.chk_round.specs.Adding as adding
use Rattle.chk_round.specs.Faults.{IsOfCall}
use Rattle.chk_round.specs.Joint.{BothAt}
use Rattle.chk_round.specs.Processes.{AreBoth}
use Rattle.chk_round.specs.Rounds.{AllSteady, IsGathered}
use Rattle.chk_round.specs.Starts.{AreFresh, Met, inside}
use Rattle.chk_round.proofs.Meeting.{are_in}
use Rattle.chk_round.proofs.Sides.{agent_goes}

-- ---- adaptors that are live or past

live_or_past : (b : Bool) → is_past (if b then Live else Past) ≡ false → (if b then Live else Past) ≡ Live
live_or_past true e = refl
live_or_past false e = absurd (true≢false e)

line_steady : (l : Line) (x : Adaptor) → adaptor_of l ≡ x → is_past x.phase ≡ false → x.phase ≡ Live
line_steady l x is past =
    ap (λ (k : Adaptor). k.phase) (sym is)
    ∙ live_or_past l.live (ap (λ (k : Adaptor). is_past k.phase) is ∙ past)

steady_lines : (ls : List Line) (i : ℕ) (x : Adaptor) → slice_get (map adaptor_of ls) i ≡ Some x → is_past x.phase ≡ false
    → x.phase ≡ Live
steady_lines [] i x at past = absurd (none-some x at)
steady_lines (l ∷ ls) zero x at past = line_steady l x (same_Some _ x at) past
steady_lines (l ∷ ls) (suc i) x at past = steady_lines ls i x at past

pub more_at : {X : Type 0} (xs : List X) (x : X) (i : ℕ) (y : X) → slice_get (xs ++ x ∷ []) i ≡ Some y
    → (slice_get xs i ≡ Some y) ⊎ (x ≡ y)
more_at [] x zero y at = inr (same_Some x y at)
more_at [] x (suc i) y at = inl at
more_at (z ∷ xs) x zero y at = inl at
more_at (z ∷ xs) x (suc i) y at = more_at xs x i y at

-- the addresses stay, and each adaptor that isn't past is read on
pub record StaysSteady (s t : Agents) : Type 0 where
  pub addresses : t.delivery.ring.addresses ≡ s.delivery.ring.addresses
  pub steady : AllSteady s → AllSteady t
  pub rows : s.delivery.table.rows ≡ [] → t.delivery.table.rows ≡ []

with_steady : (s : Agents) (found : Option Found) (l : Line) → StaysSteady s (with_added s found l)
with_steady s None l = record {
  addresses = refl;
  steady = λ h i x at past. elim (more_at s.adaptors (adaptor_of l) i x at)
      [ inl old ↦ h i x old past | inr new ↦ line_steady l x new past ];
  rows = λ none. ap (λ rows. filter (is_of_other (length s.adaptors)) rows) none;
}
with_steady s (Some found) l = record {
  addresses = refl;
  steady = λ h i x at past. elim (set_at s.adaptors found.number i (revived l.name found.adaptor) x at) [
    | inl new ↦ ap (λ (k : Adaptor). k.phase) new.1
    | inr old ↦ h i x old.1 past
  ];
  rows = λ none. none;
}

pub added_steady : {class : Class} {kind path : List ℕ} {s t : Agents} {added : Added} {old new : Option History}
    → IsAdded class kind path s (Ok added) t old new → StaysSteady s t
added_steady (adds.live found is past) = record { addresses = refl; steady = λ h. h; rows = λ none. none }
added_steady (adds.too_many is full) = record { addresses = refl; steady = λ h. h; rows = λ none. none }
added_steady {s = s} (adds.new name found is may named (adds.written {t = t} after newest same writes)) =
    let k = subst (StaysSteady s) (sym same) (with_steady s found _) in
    record { addresses = k.addresses; steady = k.steady; rows = k.rows }

pub logs_steady : {class : Class} {kind : List ℕ} {logs : List (List ℕ)} {s t : Agents} {old new : Option History}
    → AddsLogs class kind logs s (Ok tt) t old new → StaysSteady s t
logs_steady adding.all = record { addresses = refl; steady = λ h. h; rows = λ none. none }
logs_steady (adding.one added is rest) =
    let one = added_steady is in
    let more = logs_steady rest in
    record {
      addresses = more.addresses ∙ one.addresses;
      steady = λ h. more.steady (one.steady h);
      rows = λ none. more.rows (one.rows none);
    }

-- ---- both have begun

pub fresh_steady : (source : List ℕ) (ring : Turns) (rules : Rules) (s : Sinks) (a : Agents) → AreFresh source ring rules s a
    → AllSteady a
fresh_steady source ring rules s a fresh i x at =
    steady_lines a.saved i x (ap (λ xs. slice_get xs i) (sym fresh.agent_is.adaptors) ∙ at)

pub gathered : (source : List ℕ) (ring : Turns) (rules : Rules) (s : Sinks) (a b : Agents) → ring ≡ inside
    → AreFresh source ring rules s a → StaysSteady a b → b.source ≡ a.source → b.ready ≡ true → IsGathered source s b
gathered source ring rules s a b is fresh stays same ready = record {
  collector_is = fresh.sinks.collector;
  source_is = same ∙ fresh.agent_is.source;
  ready = ready;
  addresses = stays.addresses ∙ (ap (λ (r : Turns). r.addresses) fresh.agent_is.ring_is ∙ ap (λ (r : Turns). r.addresses) is);
  steady = stays.steady (fresh_steady source ring rules s a fresh);
  rows = stays.rows fresh.agent_is.rows;
  number = fresh.sinks.number;
}

call_met : (stamped : List (List ℕ)) (fault : RoundFault) → IsOfCall fault → (h : History) → Legal stamped h
    → Met stamped (Err fault) h
call_met stamped (Outside call) is h x = x
call_met stamped NoMemory is h x = x
call_met stamped (Damaged name at) is h x = absurd is
call_met stamped (Checkpoint at) is h x = absurd is
call_met stamped (Length stem got want) is h x = absurd is
call_met stamped (Growing path reads) is h x = absurd is
call_met stamped (Shrank path had size) is h x = absurd is
call_met stamped (Spent number) is h x = absurd is
call_met stamped (Refused code) is h x = absurd is

module _ (stamped : List (List ℕ)) (source : List ℕ) (started acting : List Who) (run : AreBoth source started acting)
    (s : Sinks) (a b : Agents) (c_is : s.collector ≡ codes "c1") (a_is : a.source ≡ source) {old mid new : Option History}
    (begun : Adds old mid (Leads (Together stamped started acting) (Legal stamped) (BothAt stamped s a)))
    (added : Adds mid new (Leads (As stamped (agent_of a)) (AgentMatches stamped a) (AgentMatches stamped b))) where
  pub logs_met : Adds old new (Leads (Together stamped started acting) (Legal stamped) (BothAt stamped s b))
  logs_met = leads_then begun (agent_goes stamped started acting s a (are_in run s a c_is a_is) b added)

  pub logs_unmet : (fault : RoundFault) → IsOfCall fault
      → Adds old new (Leads (Together stamped started acting) (Legal stamped) (Met stamped (Err fault)))
  logs_unmet fault is = leads_as (λ h x. x) (λ h x. call_met stamped fault is h x.0.legal) logs_met
