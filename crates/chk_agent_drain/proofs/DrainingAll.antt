-- A drain from its begin to its end.
use Rattle.std.proofs.Common.{◌≡◌, ℕ, ◌≤◌, ◌<◌, zero, suc, true, false, List, [], ◌∷◌, ◌++◌, length, Option, Some, None, Result, Ok, Err, ap, sym, subst, ◌∙◌, refl, arith}
use Rattle.std.specs.Prelude.{IfOk, slice_get}
use Rattle.chk_site.specs.declared.acts.Role.TheVariants.{Agent}
use Rattle.chk_site.specs.History.{History, Others, is_stopped}
use Rattle.chk_site.specs.Site.{Adds}
use Rattle.chk_site.specs.Runs.{Leads}
use Rattle.chk_site.proofs.Runs.{adds_as, adds_both, adds_then}
use Rattle.chk_world.specs.Streams.{whole_end}
use Rattle.chk_world.specs.Places.{As, Foreign, Talking}
use Rattle.chk_agent_adaptor.specs.Adaptors.{Adaptor, stream_at}
use Rattle.chk_agent.specs.declared.answers.AgentFault.{AgentFault}
use Rattle.chk_agent.specs.declared.answers.AgentFault.TheVariants.{Damaged, Outside, NoMemory}
use Rattle.chk_agent.specs.declared.answers.Settled.{Settled}
use Rattle.chk_agent.specs.States.{State, committed_at, process}
use Rattle.chk_agent.specs.Facts.{Matches}
use Rattle.chk_agent.specs.Faults.{AgentCause, FailsLast, IsUndamaged}
use Rattle.chk_agent.specs.Settles.{IsSettled}
use Rattle.chk_agent.specs.Commands.{first_again}
use Rattle.chk_agent.proofs.CommandingStates.{first_holds}
use Rattle.chk_agent.proofs.Soundness.{below_at}
use Rattle.chk_agent.proofs.TurningTold.{talking_as, talks_then}
use Rattle.chk_agent_drain.specs.declared.answers.Drained.{Drained}
use Rattle.chk_agent_drain.specs.declared.answers.Drained.TheVariants.{Done, Pending, Growing, Shrank, AllTried}
use Rattle.chk_agent_drain.specs.Drains as drain
use Rattle.chk_agent_drain.specs.Drains.{Progress, AllEnded, IsDrained, begun}
use Rattle.chk_agent_drain.specs.Parts.{AllRead, DeliveredBy, EndsEarly, EndsLast, FailsLastBut, IsFresh, IsUnread, NeverShort, Part, Talks}
use Rattle.chk_agent_drain.specs.Whole.{DrainsTo, EndsReading, IsShort, WasWhole}
use Rattle.chk_agent_drain.proofs.Joining.{part_then}
use Rattle.chk_agent_drain.proofs.PollingRest.{all_ended, ended_fresh}
use Rattle.chk_agent_drain.proofs.PostingRest.{begun_fresh}
use Rattle.chk_agent_drain.proofs.ReadingAll.{both_lead, meanwhile_early, others_early, ran}
use Rattle.chk_agent_drain.proofs.ReadingOn.{begun_unread}
use Rattle.chk_agent_drain.proofs.StaysReady.{drains_ready}
use Rattle.chk_agent_drain.proofs.Settled.{all_committed, settled_delivered, settled_ends, settled_ready}

-- ---- from the first address on

first_matches : (stamped : List (List ℕ)) (s : State) (history : History)
    → Matches stamped s history
    → Matches stamped (first_again s) history
first_matches stamped s history x = record {
  legal = x.legal;
  may_act = x.may_act;
  alive = λ running ready.
      let k = x.alive running ready in
      record {
        one_cluster = k.one_cluster;
        lines_are = k.lines_are;
        holds = first_holds history s k.holds;
      };
}

-- ---- a drain that ended early

early_other : (result : Result Drained AgentFault) → EndsEarly result → result ≡ Ok Done → ⊥
early_other (Ok Done) early e = early
early_other (Ok (Pending stem got want)) early e = let z : ⊥ = cc in z
early_other (Ok (Growing adaptor reads)) early e = let z : ⊥ = cc in z
early_other (Ok (Shrank adaptor had size)) early e = let z : ⊥ = cc in z
early_other (Ok (AllTried count code)) early e = let z : ⊥ = cc in z
early_other (Err fault) early e = let z : ⊥ = cc in z

early_undamaged : (result : Result Drained AgentFault) → EndsEarly result → IsUndamaged result
early_undamaged (Ok value) early = tt
early_undamaged (Err (Damaged at)) early = early
early_undamaged (Err (Outside call)) early = tt
early_undamaged (Err NoMemory) early = tt

pub as_ready : (result : Result Drained AgentFault) (s t : State) → s.ready ≡ true
    → IfOk result (λ answer. t.ready ≡ s.ready)
    → IfOk result (λ answer. t.ready ≡ true)
as_ready (Ok answer) s t ready same = same ∙ ready
as_ready (Err fault) s t ready same = tt

-- what a drain comes to that ended early
pub record EndedSo (now reads polls : ℕ) (s : State) (result : Result Drained AgentFault)
    (t : State)
    (old new : Option History) (before after : ℕ) : Type 0 where
  pub state : IsDrained now reads polls s result t old new
  pub told : (stamped : List (List ℕ)) → Adds old new (DrainsTo stamped s result t)
  pub other : result ≡ Ok Done → ⊥
  pub ready : s.ready ≡ true → IfOk result (λ answer. t.ready ≡ true)
  pub undamaged : IsUndamaged result
  pub last : Adds old new (FailsLastBut result)
  pub cause : AgentCause before after result

-- where a drain ends at a shorter log, the site was stopped
abbrev IsNever : List (List ℕ) → State → Result Drained AgentFault → History → History → Type 0
IsNever stamped s result added history =
    IsShort result → Others (Foreign stamped (process s)) added history
    → Matches stamped s history → is_stopped (added ++ history) ≡ false → ⊥

long_of : (s t : State) (result : Result Drained AgentFault) {old new : Option History}
    → Talks (first_again s) t old new → NeverShort (first_again s) (Some result) old new
    → (stamped : List (List ℕ)) → Adds old new (IsNever stamped s result)
long_of s t result {old = old} {new = new} talks long stamped = go result long
  where
    go : (result : Result Drained AgentFault)
        → NeverShort (first_again s) (Some result) old new
        → Adds old new (IsNever stamped s result)
    go (Ok (Shrank i had is)) long =
        adds_as (IsNever stamped s (Ok (Shrank i had is))) (long stamped)
        (λ added history y short others h running. y.leads others (first_matches stamped s history h)
        running)
    go (Ok Done) long =
        adds_as (IsNever stamped s (Ok Done)) (talks stamped) (λ a h y short. absurd short)
    go (Ok (Pending stem got want)) long =
        adds_as (IsNever stamped s (Ok (Pending stem got want))) (talks stamped)
        (λ a h y short. absurd short)
    go (Ok (Growing i reads)) long =
        adds_as (IsNever stamped s (Ok (Growing i reads))) (talks stamped)
        (λ a h y short. absurd short)
    go (Ok (AllTried count code)) long =
        adds_as (IsNever stamped s (Ok (AllTried count code))) (talks stamped)
        (λ a h y short. absurd short)
    go (Err fault) long =
        adds_as (IsNever stamped s (Err fault)) (talks stamped) (λ a h y short. absurd short)

pub ends_so : {now reads polls : ℕ} (s t : State) (result : Result Drained AgentFault)
    {K : Progress → State → Type 0} {old new : Option History} {a b : ℕ}
    → Part now reads polls begun (first_again s) K (Some result) t old new a b
    → EndedSo now reads polls s result t old new a b
ends_so s t result x = record {
  state = x.comes;
  told = λ stamped. adds_both (DrainsTo stamped s result t) (x.talks stamped)
      (long_of s t result x.talks x.long stamped)
      (λ added history y z. record {
        long = z;
        leads = record {
          leads = λ others h. y.leads others (first_matches stamped s history h);
          own = y.own;
        };
        whole = λ e. absurd (early_other result x.cause.1 e);
      });
  other = early_other result x.cause.1;
  ready = λ ready. as_ready result s t ready (drains_ready x.comes);
  undamaged = early_undamaged result x.cause.1;
  last = x.last;
  cause = x.cause.0;
}

-- ---- the parts in turn

begun_all : IsUnread begun
begun_all i = begun_unread i

fails_but : (fault : AgentFault) (added history : History)
    → FailsLast {T = Settled} (Err fault) added history
    → FailsLastBut (Err fault) added history
fails_but (Damaged at) added history x = tt
fails_but (Outside call) added history x = λ other. x
fails_but NoMemory added history x = tt

pub some_at : {X : Type 0} (xs : List X) (i : ℕ) → i < length xs → (x : X) × (slice_get xs i ≡ Some x)
some_at [] i below = absurd (let z : ⊥ = omega (arith, below) in z)
some_at (x ∷ xs) zero below = (x, refl)
some_at (x ∷ xs) (suc i) below = some_at xs i (omega (arith, below))

module _ (now reads polls : ℕ) (s first t : State) {old mid : Option History} {a b : ℕ}
    (is_first : first ≡ first_again s) (end : Option (Result Drained AgentFault))
    (read : (p : Progress) → IsFresh p → IsUnread p
    → Part now reads polls p first (AllRead first) end t old mid a b) where
  begins : Part now reads polls begun (first_again s) (AllRead (first_again s)) end t old mid a b
  begins = subst (λ k. Part now reads polls begun k (AllRead k) end t old mid a b) is_first
      (read begun begun_fresh begun_all)

  -- a log ended it
  pub reading_ended : (result : Result Drained AgentFault) → end ≡ Some result
      → EndedSo now reads polls s result t old mid a b
  reading_ended result e =
      ends_so s t result (subst (λ r. Part now reads polls begun (first_again s)
      (AllRead (first_again s)) r t old mid a b) e begins)

  module _ (all : end ≡ None) where
    read_all : Part now reads polls begun (first_again s) (AllRead (first_again s)) None t old mid
        a b
    read_all = subst (λ r. Part now reads polls begun (first_again s) (AllRead (first_again s)) r t
        old mid a b) all begins

    pub read_ready : t.ready ≡ s.ready
    read_ready = read_all.comes.ready

    module _ (u : State) {next : Option History} {c : ℕ} (last : Option (Result Drained AgentFault))
        (deliver : (reads : ℕ) (p : Progress) → IsFresh p → AllEnded p t
        → Part now reads polls p t (DeliveredBy t) last u mid next b c) where
      both : Part now reads polls begun (first_again s) (DeliveredBy t) last u old next a c
      both = part_then read_all (λ q k. deliver reads q k.fresh k.ended)

      -- a post or a poll ended it
      pub delivering_ended : (result : Result Drained AgentFault) → last ≡ Some result
          → EndedSo now reads polls s result u old next a c
      delivering_ended result e =
          ends_so s u result (subst (λ r. Part now reads polls begun (first_again s)
          (DeliveredBy t) r u old next a c) e both)

      module _ (sent : last ≡ None) where
        delivered : Part now reads polls begun (first_again s) (DeliveredBy t) None u old next a c
        delivered = subst (λ r. Part now reads polls begun (first_again s) (DeliveredBy t) r u old
            next a c) sent both

        pub delivered_ready : u.ready ≡ s.ready
        delivered_ready = delivered.comes.ready

        module _ (v : State) {new : Option History} (d : ℕ) (given : Result Settled AgentFault)
            (settled : IsSettled now u given v next new)
            (told : (stamped : List (List ℕ))
            → Adds next new (Leads (As stamped (process u)) (Matches stamped u)
            (Matches stamped v))) where
          talks : Talks u v next new
          talks stamped = talking_as (process u) stamped (told stamped)

          -- the writing of the checkpoint ended it
          pub settling_ended : (fault : AgentFault) → given ≡ Err fault → IsUndamaged given
              → Adds next new (FailsLast given) → AgentCause c d given
              → EndedSo now reads polls s (Err fault) v old new a d
          settling_ended fault e undamaged failed cause =
              ends_so s v (Err fault) {K = DeliveredBy t} (part_then delivered (λ q k. record {
                comes = drain.unsettled fault k.ended k.queue k.rows
                    (subst (λ g. IsSettled now u g v next new) e settled);
                talks = talks;
                long = tt;
                last = adds_as (EndsLast (Some (Err fault)))
                    (subst (λ g. Adds next new (FailsLast g)) e failed)
                    (λ x h y. fails_but fault x h y);
                cause = (
                  caused fault (subst (AgentCause c d) e cause),
                  early fault (subst IsUndamaged e undamaged),
                );
              }))
            where
              caused : (f : AgentFault) → AgentCause {T = Settled} c d (Err f)
                  → AgentCause {T = Drained} c d (Err f)
              caused (Damaged at) x = x
              caused (Outside call) x = x
              caused NoMemory x = x

              early : (f : AgentFault) → IsUndamaged {T = Settled} (Err f) → EndsEarly (Err f)
              early (Damaged at) x = x
              early (Outside call) x = x
              early NoMemory x = x

          -- it is done
          module _ (answer : Settled) (e : given ≡ Ok answer) where
            done : IsSettled now u (Ok answer) v next new
            done = subst (λ g. IsSettled now u g v next new) e settled

            committed : (i : ℕ) (x : Adaptor) → slice_get u.adaptors i ≡ Some x
                → committed_at u i ≡ x.read.offset
            committed = let k = delivered.comes.known in all_committed u k.sound k.table k.queue
                k.rows

            pub done_state : IsDrained now reads polls s (Ok Done) v old new
            done_state =
                let g = delivered.comes in
                let k = g.known in
                g.onward (Ok Done) v new (drain.done_all answer k.ended done
                (settled_delivered now u k.sound k.queue k.rows committed done))

            pub done_cause : AgentCause c d given → AgentCause {T = Drained} a d (Ok Done)
            done_cause cause =
                let on = delivered.cause in
                let more : c ≤ d = subst (AgentCause c d) e cause in
                omega (arith, on, more)

            -- what the history holds
            module _ (stamped : List (List ℕ))
                (reading : Adds old mid (EndsReading stamped first end t)) where
              reads_so : Adds old mid (EndsReading stamped (first_again s) None t)
              reads_so =
                  subst (λ r. Adds old mid (EndsReading stamped (first_again s) r t)) all
                  (subst (λ k. Adds old mid (EndsReading stamped k end t)) is_first reading)

              known : DeliveredBy t delivered.comes.progress u
              known = delivered.comes.known

              from_deliver : Talks t u mid next
              from_deliver = (deliver 0 all_ended ended_fresh (λ i x at on. refl)).talks

              rest : Adds mid new (Leads (Talking stamped (process s)) (Matches stamped t)
                  (Matches stamped v))
              rest =
                  let source = read_all.comes.source in
                  let behind = delivered.comes.source ∙ sym source in
                  let ready = delivered.comes.ready ∙ sym read_all.comes.ready in
                  subst (λ n. Adds mid new (Leads
                  (Talking stamped (record { role = Agent; name = n })) (Matches stamped t)
                  (Matches stamped v))) source
                  (talks_then t u v (record { source = behind; ready = ready }) from_deliver talks
                  stamped)

              whole : (x y history : History) → EndsReading stamped (first_again s) None t x history
                  → Leads (Talking stamped (process s)) (Matches stamped t) (Matches stamped v) y
                  (x ++ history)
                  → DrainsTo stamped s (Ok Done) v (y ++ x) history
              whole x y history before behind = record {
                leads = both_lead stamped s.source x y history (record {
                  leads = λ others h. before.leads.leads others (first_matches stamped s history h);
                  own = before.leads.own;
                }) behind;
                whole = λ same others h running i c there steps.
                    let early = others_early stamped s.source y x history others in
                    let below = below_at s.adaptors i c there in
                    let many = read_all.comes.known.size in
                    let b = some_at t.adaptors i (omega (arith, below, many)) in
                    let at = ap (λ xs. slice_get xs i) known.adaptors ∙ b.1 in
                    let end = settled_ends done i ∙ committed i b.0 at in
                    subst (λ o. WasWhole s c o (y ++ x) history) (sym end)
                    (meanwhile_early (λ h. whole_end h (stream_at s.source c) ≡ b.0.read.offset) y
                    x history
                    (before.whole refl early (first_matches stamped s history h)
                    (ran stamped s.source y x history behind running) i c b.0 there steps b.1));
                long = λ short. absurd short;
              }

              pub done_told : Adds old new (DrainsTo stamped s (Ok Done) v)
              done_told = adds_then (DrainsTo stamped s (Ok Done) v) reads_so rest
                  (λ x y h before behind. whole x y h before behind)

            pub done_ready : s.ready ≡ true → v.ready ≡ true
            done_ready ready = settled_ready done ∙ (delivered.comes.ready ∙ ready)

            pub done_last : Adds old new (FailsLastBut (Ok Done))
            done_last = adds_then (FailsLastBut (Ok Done)) delivered.last (talks [])
                (λ x y h before behind. tt)
