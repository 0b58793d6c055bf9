-- The parts of a turn, one after another.
use Rattle.std.proofs.Common.{◌≡◌, ℕ, Bool, true, false, List, [], ◌∷◌, map, Option, Result, Ok}
use Rattle.std.proofs.Common.{Err, ap, sym, subst, ◌∙◌, refl, true≢false}
use Rattle.std.specs.Prelude.{filter, if◌then◌else◌, ◌||◌}
use Rattle.std.proofs.lemmas.Bool.{and_parts}
use Rattle.std.specs.List.{list_any}
use Rattle.chk_site.specs.declared.acts.Role.TheVariants.{Agent}
use Rattle.chk_site.specs.declared.acts.Who.{Who}
use Rattle.chk_site.specs.History.{History}
use Rattle.chk_site.specs.Site.{Adds}
use Rattle.chk_site.specs.Runs.{Leads}
use Rattle.chk_site.proofs.Leads.{leads_then}
use Rattle.chk_site.proofs.Runs.{adds_as}
use Rattle.chk_acks.specs.declared.row.Row.{Row}
use Rattle.chk_acks.specs.Rows.{is_unmarked}
use Rattle.chk_world.specs.Places.{As, Talking, IsBy, IsMadeBy}
use Rattle.chk_world.proofs.Beside.{owns_as}
use Rattle.chk_agent_delivery.specs.declared.answers.Posted.{Posted}
use Rattle.chk_agent_delivery.specs.declared.answers.Answered.{Answered}
use Rattle.chk_bytes.specs.declared.NoMemory.{NoMemory as Wanting}
use Rattle.chk_agent_delivery.specs.declared.answers.Polled.{Polled}
use Rattle.chk_agent_delivery.specs.declared.answers.Polled.TheVariants.{NoneWaiting}
use Rattle.chk_agent_delivery.specs.declared.answers.PollAnswer.{PollAnswer}
use Rattle.chk_agent_delivery.specs.Turns.{is_due, first_stems, asked_stems}
use Rattle.chk_agent_delivery.specs.States.{State as Delivery}
use Rattle.chk_agent_delivery.specs.Scripts.{IsPolled, none, sent, failed, unsent, refused}
use Rattle.chk_agent.specs.declared.answers.AgentFault.{AgentFault}
use Rattle.chk_agent.specs.declared.answers.Filled.{Filled}
use Rattle.chk_agent.specs.States.{State, process}
use Rattle.chk_agent.specs.Facts.{Matches}
use Rattle.chk_agent.specs.Fills.{IsFilled, all_stepped, full, none_before, stepped, shrank}
use Rattle.chk_agent.specs.Fills.{refused as fill_refused, unkept, wanting}
use Rattle.chk_agent.specs.Turns.{Posts, GetsPostReply, Polls, GetsLengths, PollsIfDue, not_due}
use Rattle.chk_agent.specs.Turns.{unsent as due_unsent, asked, refused as due_refused, unanswered}
use Rattle.chk_agent.specs.Turns.{as_agent}

-- an agent that also talks: the history holds the one state before, and the other one behind
abbrev pub TalksOn : State → State → Option History → Option History → Type 0
TalksOn s t old new =
    (stamped : List (List ℕ)) → Adds old new (Leads (Talking stamped (process s))
    (Matches stamped s) (Matches stamped t))

-- what leaves the messages alone is a talk too
pub talking_as : (who : Who) (stamped : List (List ℕ)) {A B : History
    → Type 0} {old new : Option History}
    → Adds old new (Leads (As stamped who) A B) → Adds old new (Leads (Talking stamped who) A B)
talking_as who stamped {A = A} {B = B} p =
    adds_as (Leads (Talking stamped who) A B) p
    (λ a h x. record {
      leads = x.leads;
      own = owns_as (IsBy who) (IsMadeBy who)
          (λ before step by. record { by = by.by; running = by.running }) a h x.own;
    })

-- the agent of this source still, and as ready
pub record IsSameAgent (s t : State) : Type 0 where
  pub source : t.source ≡ s.source
  pub ready : t.ready ≡ s.ready

pub same_agent : (s : State) → IsSameAgent s s
same_agent s = record { source = refl; ready = refl }

pub same_then : (s t u : State) → IsSameAgent s t → IsSameAgent t u → IsSameAgent s u
same_then s t u p q = record { source = q.source ∙ p.source; ready = q.ready ∙ p.ready }

pub talks_then : (s t u : State) {old mid new : Option History} → IsSameAgent s t
    → TalksOn s t old mid → TalksOn t u mid new
    → TalksOn s u old new
talks_then s t u {mid = mid} {new = new} same p q stamped =
    leads_then (p stamped)
    (subst (λ source. Adds mid new (Leads (Talking stamped
    (record { role = Agent; name = source })) (Matches stamped t) (Matches stamped u)))
    same.source (q stamped))

-- ---- which of them leave the agent the same

pub filled_same : {order : List ℕ} {sum : ℕ} {s t : State} {result : Result Filled AgentFault} {old
    new : Option History}
    → IsFilled order sum s result t old new → IsSameAgent s t
filled_same {s = s} all_stepped = same_agent s
filled_same {s = s} (full held some) = same_agent s
filled_same {s = s} (none_before held) = same_agent s
filled_same (stepped a b step n held there on is gave rest) =
    let r = filled_same rest in record { source = r.source; ready = r.ready }
filled_same (shrank a b had now held there on is) = record { source = refl; ready = refl }
filled_same {s = s} (fill_refused a b fault held there on is) = same_agent s
filled_same {s = s} (unkept a b step held there on is) = same_agent s
filled_same {s = s} (wanting held) = same_agent s

pub posts_same : {s t : State} {result : Result Posted AgentFault} {old new : Option History}
    → Posts s result t old new → IsSameAgent s t
posts_same p = record {
  source = ap (λ (k : State). k.source) p.state_is;
  ready = ap (λ
      (k : State). k.ready) p.state_is;
}

pub replies_same : {now : ℕ} {s t : State} {result : Result Answered AgentFault} {old new : Option
    History}
    → GetsPostReply now s result t old new → IsSameAgent s t
replies_same p = record {
  source = ap (λ (k : State). k.source) p.state_is;
  ready = ap (λ
      (k : State). k.ready) p.state_is;
}

pub polls_same : {s t : State} {result : Result Polled AgentFault} {old new : Option History}
    → Polls s result t old new → IsSameAgent s t
polls_same p = record {
  source = ap (λ (k : State). k.source) p.state_is;
  ready = ap (λ
      (k : State). k.ready) p.state_is;
}

pub lengths_same : {s t : State} {result : Result PollAnswer AgentFault} {old new : Option History}
    → GetsLengths s result t old new
    → IsSameAgent s t
lengths_same p = record {
  source = ap (λ (k : State). k.source) p.state_is;
  ready = ap (λ
      (k : State). k.ready) p.state_is;
}

pub due_same : {now : ℕ} {s t : State} {result : Result
    (Unit {0}) AgentFault} {old new : Option History}
    → PollsIfDue now s result t old new → IsSameAgent s t
due_same {s = s} (not_due is) = same_agent s
due_same (due_unsent is polls) = polls_same polls
due_same {now = now} {s = s} {t = t} (asked {t = u} count answer is polls lengths) =
    same_then s u t (polls_same polls)
    (let r = lengths_same lengths in record { source = r.source; ready = r.ready })
due_same (due_refused fault is polls) = polls_same polls
due_same {now = now} {s = s} {t = t} (unanswered {t = u} count fault is polls lengths) =
    same_then s u t (polls_same polls)
    (let r = lengths_same lengths in record { source = r.source; ready = r.ready })

-- ---- a poll that is due asks for a sink

-- where no sink is asked for, no row is unmarked
all_marked : (rows : List Row)
    → first_stems 64 [] (map (λ (r : Row). r.stem) (filter is_unmarked rows)) ≡ []
    → list_any is_unmarked rows ≡ false
all_marked [] empty = refl
all_marked (row ∷ rows) empty = go (is_unmarked row) empty (all_marked rows)
  where
    go : (b : Bool) → first_stems 64 [] (map (λ (r : Row). r.stem)
        (if b then row ∷ filter is_unmarked rows else filter is_unmarked rows)) ≡ []
        → (first_stems 64 [] (map (λ (r : Row). r.stem) (filter is_unmarked rows)) ≡ []
        → list_any is_unmarked rows ≡ false)
        → (b || list_any is_unmarked rows) ≡ false
    go true empty rest = absurd (let z : ⊥ = cc in z)
    go false empty rest = rest empty

none_asked : {who : Who} {d e : Delivery} {given : Result Polled Wanting} {old new : Option
    History} → IsPolled who d given e old new
    → given ≡ Ok NoneWaiting → asked_stems d.table ≡ []
none_asked (none is) e = is
none_asked (sent bytes m written call) e = absurd (let z : ⊥ = cc in z)
none_asked (failed bytes written call) e = absurd (let z : ⊥ = cc in z)
none_asked (unsent fault) e = absurd (let z : ⊥ = cc in z)
none_asked (refused fault bytes written call) e = absurd (let z : ⊥ = cc in z)

-- so such a poll isn't one for which none waits
pub waits_for_some : (now : ℕ) (s t : State) (polled : Polled) {old new : Option History}
    → is_due now s.delivery ≡ true
    → polled ≡ NoneWaiting → Polls s (Ok polled) t old new → ⊥
waits_for_some now s t polled due is polls =
    let none = all_marked s.delivery.table.rows (none_asked polls.made (given polls.given (ap Ok
    (sym is) ∙ polls.result_is))) in
    true≢false (sym (and_parts (list_any is_unmarked s.delivery.table.rows) _ due).0 ∙ none)
  where
    given : (g : Result Polled Wanting) → Ok NoneWaiting ≡ as_agent g → g ≡ Ok NoneWaiting
    given (Ok value) e = ap Ok (let v : value ≡ NoneWaiting = cc in v)
    given (Err fault) e = absurd (let z : ⊥ = cc in z)

-- ---- what the parts of a turn lead to, each behind the ones before it

module _ (s t : State) {at_0 at_1 : Option History} (same_1 : IsSameAgent s t)
    (fill : (stamped : List (List ℕ))
    → Adds at_0 at_1 (Leads (As stamped (process s)) (Matches stamped s)
    (Matches stamped t))) where
  pub told_1 : TalksOn s t at_0 at_1
  told_1 stamped = talking_as (process s) stamped (fill stamped)

  module _ (u : State) {at_2 : Option History} (same_2 : IsSameAgent t u)
      (post : TalksOn t u at_1 at_2) where
    pub told_2 : TalksOn s u at_0 at_2
    told_2 = talks_then s t u same_1 told_1 post

    module _ (v : State) {at_3 : Option History} (same_3 : IsSameAgent u v)
        (reply : (stamped : List (List ℕ))
        → Adds at_2 at_3 (Leads (As stamped (process u)) (Matches stamped u)
        (Matches stamped v))) where
      pub told_3 : TalksOn s v at_0 at_3
      told_3 = talks_then s u v (same_then s t u same_1 same_2) told_2 (λ stamped. talking_as
          (process u) stamped (reply stamped))

      module _ (w : State) {at_4 : Option History} (same_4 : IsSameAgent v w)
          (poll : TalksOn v w at_3 at_4) where
        pub told_4 : TalksOn s w at_0 at_4
        told_4 = talks_then s v w (same_then s u v
            (same_then s t u same_1 same_2) same_3) told_3 poll

        pub told_5 : (x : State) {at_5 : Option History}
            → ((stamped : List (List ℕ)) → Adds at_4 at_5 (Leads (As stamped (process w))
            (Matches stamped w) (Matches stamped x)))
            → TalksOn s x at_0 at_5
        told_5 x settle =
            talks_then s w x (same_then s v w (same_then s u v
            (same_then s t u same_1 same_2) same_3) same_4) told_4
            (λ stamped. talking_as (process w) stamped (settle stamped))
