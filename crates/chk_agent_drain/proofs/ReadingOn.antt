-- The reads of an adaptor up to the end of its log.
use Rattle.std.proofs.Common.{◌≡◌, ◌≢◌, inl, ℕ, ◌+◌, ◌-◌, ◌*◌, ◌≤◌, ◌<◌, true, false, List, [], length, Option, Some, None, Result, Ok, Err, ap, sym, subst, ◌∙◌, refl, arith}
use Rattle.std.specs.Prelude.{slice_get, nat_lt}
use Rattle.std.proofs.lemmas.Bool.{ltb-true}
use Rattle.chk_site.specs.declared.acts.Role.TheVariants.{Agent}
use Rattle.chk_site.specs.History.{History}
use Rattle.chk_site.specs.Site.{Adds}
use Rattle.chk_site.specs.Runs.{Leads}
use Rattle.chk_site.proofs.Runs.{adds_as}
use Rattle.chk_site.proofs.Leads.{leads_as, leads_then}
use Rattle.chk_world.specs.Places.{As, Talking}
use Rattle.chk_queue.specs.Queues.{data_size}
use Rattle.chk_agent_adaptor.specs.Adaptors.{Adaptor}
use Rattle.chk_agent_delivery.specs.Turns.{is_held}
use Rattle.chk_agent.specs.declared.answers.AgentFault.{AgentFault}
use Rattle.chk_agent.specs.declared.answers.AgentFault.TheVariants.{Damaged, Outside, NoMemory}
use Rattle.chk_agent.specs.declared.answers.Stepped.{Stepped}
use Rattle.chk_agent.specs.declared.answers.Stepped.TheVariants.{Read, AtEnd, Held, Shrank}
use Rattle.chk_agent.specs.States.{State, process}
use Rattle.chk_agent.specs.Facts.{AfterStep, Matches}
use Rattle.chk_agent.specs.Faults.{AgentCause, FailsLast, IsUndamaged}
use Rattle.chk_agent.specs.Fills.{IsOneStepped}
use Rattle.chk_agent.specs.Fits.{IsSound}
use Rattle.chk_agent.proofs.TurningTold.{talking_as}
use Rattle.chk_agent_drain.specs.declared.answers.Drained.{Drained}
use Rattle.chk_agent_drain.specs.declared.answers.Drained.TheVariants.{Growing, Shrank as has_shrunk}
use Rattle.chk_agent_drain.specs.Drains as drain
use Rattle.chk_agent_drain.specs.Drains.{Progress, MayPost, begun, one_read, one_ended}
use Rattle.chk_agent_drain.specs.Parts.{AdaptorsBut, Comes, EndsEarly, EndsLast, FailsLastBut, IsFresh, Part, PostedBy, ReadOut, SameBut, Talks, WasNotRead}
use Rattle.chk_agent_drain.specs.Whole.{AfterReads}
use Rattle.chk_agent_drain.proofs.Joining.{part_map, part_none, part_then}
use Rattle.chk_agent_drain.proofs.PostingRest.{begun_fresh}
use Rattle.chk_agent_drain.proofs.Steps.{IsReadOn, StepLeaves, WasHeld, but_same, but_then, ended_here, ended_others, others_then, read_here, read_others, step_grows, step_held, step_leaves, step_read}
use Rattle.chk_agent_drain.proofs.Misses.{last_answer, last_none}

-- behind so many reads that gave bytes
pub record ReadSome (i count : ℕ) (p q : Progress) : Type 0 where
  pub fresh : IsFresh q
  pub reads : q.reads i ≡ count
  pub ended : q.ended i ≡ false
  pub others : SameBut i p q

pub record SteppingOn (now reads polls i count : ℕ) (s t : State) (old new : Option History)
    (before after : ℕ) : Type 0 where
  pub part : (p : Progress) → IsFresh p → WasNotRead i p
      → Part now reads polls p s (λ q k. ReadSome i count p q) None t old new before after
  pub adaptors : AdaptorsBut i s t
  pub here : IsReadOn i t
  pub few : count < reads

pub stepping_begun : (now reads polls i : ℕ) (s : State) (at : Option History) (a : ℕ) → 1 ≤ reads
    → IsReadOn i s
    → SteppingOn now reads polls i 0 s s at at a a
stepping_begun now reads polls i s at a some here = record {
  part = λ p fresh unread. part_none now reads polls p s (λ q k. ReadSome i 0 p q) at a (record {
    fresh = fresh;
    reads = unread.reads;
    ended = unread.ended;
    others = record { reads = λ k other. refl; ended = λ k other. refl };
  });
  adaptors = but_same i s s refl;
  here = here;
  few = omega (arith, some);
}

pub begun_unread : (i : ℕ) → WasNotRead i begun
begun_unread i = record { reads = refl; ended = refl }

-- a step talks as the other calls do
pub step_talks : (s t : State) {old new : Option History} (i : ℕ)
    (result : Result Stepped AgentFault)
    → ((stamped : List (List ℕ)) → Adds old new (Leads (As stamped (process s)) (Matches stamped s)
    (AfterStep stamped i t result))) → Talks s t old new
step_talks s t i result told stamped =
    talking_as (process s) stamped (leads_as (λ h x. x) (λ h x. x.matches) (told stamped))

fails_but : (fault : AgentFault) (added history : History)
    → FailsLast {T = Stepped} (Err fault) added history
    → FailsLastBut (Err fault) added history
fails_but (Damaged at) added history x = tt
fails_but (Outside call) added history x = λ other. x
fails_but NoMemory added history x = tt

step_on : (b c : ℕ) (answer : Stepped) → AgentCause {T = Stepped} b c (Ok answer) → b ≤ c
step_on b c answer cause = cause

-- the queue is full only of chunks
pub held_some : (s : State) → IsSound s → is_held s.delivery ≡ true → s.delivery.queue.chunks ≢ []
held_some s sound held none =
    let room = sound.delivery.room in
    let piece = sound.enough.a_piece in
    let less = ltb-true _ _ (sym (ap (λ xs. nat_lt (s.delivery.queue.limit - data_size xs) 131072)
    none) ∙ held) in
    let z : ⊥ = omega (arith, room, piece, less) in z

module _ (now reads polls i count : ℕ) (s t : State) {old mid : Option History} {a b : ℕ}
    (on : SteppingOn now reads polls i count s t old mid a b) where
  pub stepping_ready : t.ready ≡ s.ready
  stepping_ready = (on.part begun begun_fresh (begun_unread i)).comes.ready

  pub stepping_talks : Talks s t old mid
  stepping_talks = (on.part begun begun_fresh (begun_unread i)).talks

  pub stepping_source : t.source ≡ s.source
  stepping_source = (on.part begun begun_fresh (begun_unread i)).comes.source

  module _ (u : State) {new : Option History} (c : ℕ) (given : Result Stepped AgentFault)
      (made : (x : Adaptor) → slice_get t.adaptors i ≡ Some x → IsOneStepped i x t given u mid new)
      (talks : Talks t u mid new) (cause : AgentCause b c given) where
    leaves : StepLeaves i t u
    leaves = step_leaves (made on.here.0 on.here.1) on.here.1

    -- the log gave bytes, and may be read on
    pub stepping_read : (n : ℕ) → given ≡ Ok (Read n) → count + 1 < reads
        → SteppingOn now reads polls i (count + 1) s u old new a c
    stepping_read n is more = record {
      part = λ p fresh unread. part_then (on.part p fresh unread) (λ q k.
          let reads_are = k.reads in
          let one = read_here i q in
          record {
            comes = record {
              progress = one_read i q;
              known = record {
                fresh = record {
                  untried = record
                      { tried = k.fresh.untried.tried; failed = k.fresh.untried.failed };
                  polls = k.fresh.polls;
                };
                reads = omega (arith, one, reads_are);
                ended = k.ended;
                others = others_then i p q (one_read i q) k.others (read_others i q);
              };
              source = leaves.source;
              ready = leaves.ready;
              onward = λ result v later rest. drain.read_on i n on.here.0 on.here.1 on.here.2
                  k.ended
                  (omega (arith, reads_are, more))
                  (subst (λ g. IsOneStepped i on.here.0 t g u mid new) is
                  (made on.here.0 on.here.1)) rest;
            };
            talks = talks;
            long = tt;
            last = last_none t u talks;
            cause = step_on b c (Read n) (subst (AgentCause b c) is cause);
          });
      adaptors = but_then i s t u on.adaptors leaves.adaptors;
      here = step_read n (made on.here.0 on.here.1) is on.here.1 on.here.2;
      few = more;
    }

    pub read_smaller : (n : ℕ) → given ≡ Ok (Read n)
        → 2 * (reads - (count + 1)) + length u.delivery.queue.chunks < 2 * (reads - count) + length
        t.delivery.queue.chunks
    read_smaller n is =
        let few = on.few in
        let more = step_grows n (made on.here.0 on.here.1) is in
        omega (arith, few, more)

    -- the log gave bytes at the last read
    pub stepping_grows : (n : ℕ) → given ≡ Ok (Read n) → reads ≤ count + 1
        → (p : Progress) → IsFresh p → WasNotRead i p
        → Part now reads polls p s (ReadOut i p s) (Some (Ok (Growing i reads))) u old new a c
    stepping_grows n is last p fresh unread = part_then (on.part p fresh unread) (λ q k.
        let reads_are = k.reads in
        let few = on.few in
        record {
          comes = drain.growing i n on.here.0 on.here.1 on.here.2 k.ended
              (omega (arith, reads_are, last, few))
              (subst (λ g. IsOneStepped i on.here.0 t g u mid new) is (made on.here.0 on.here.1));
          talks = talks;
          long = tt;
          last = last_answer t u (Growing i reads) talks;
          cause = (step_on b c (Read n) (subst (AgentCause b c) is cause), tt);
        })

    -- the log has no more
    pub stepping_ended : given ≡ Ok AtEnd → (p : Progress) → IsFresh p → WasNotRead i p
        → Part now reads polls p s (ReadOut i p s) None u old new a c
    stepping_ended is p fresh unread = part_then (on.part p fresh unread) (λ q k. record {
      comes = record {
        progress = one_ended i q;
        known = record {
          fresh = record {
            untried = record
                { tried = k.fresh.untried.tried; failed = k.fresh.untried.failed };
            polls = k.fresh.polls;
          };
          ended = ended_here i q;
          others = others_then i p q (one_ended i q) k.others (ended_others i q);
          adaptors = but_then i s t u on.adaptors leaves.adaptors;
        };
        source = leaves.source;
        ready = leaves.ready;
        onward = λ result v later rest. drain.at_end i on.here.0 on.here.1 on.here.2 k.ended
            (subst (λ g. IsOneStepped i on.here.0 t g u mid new) is (made on.here.0 on.here.1))
            rest;
      };
      talks = talks;
      long = tt;
      last = last_none t u talks;
      cause = step_on b c AtEnd (subst (AgentCause b c) is cause);
    })

    -- the log is shorter
    pub stepping_shrank : (had size : ℕ) → given ≡ Ok (Shrank had size)
        → ((stamped : List (List ℕ)) → Adds mid new (Leads (As stamped (process t))
        (Matches stamped t) (AfterStep stamped i u given)))
        → (p : Progress) → IsFresh p → WasNotRead i p
        → Part now reads polls p s (ReadOut i p s) (Some (Ok (has_shrunk i had size))) u old new a c
    stepping_shrank had size is told p fresh unread = part_then (on.part p fresh unread) (λ q k. record {
      comes = drain.shrank i had size on.here.0 on.here.1 on.here.2 k.ended
          (subst (λ g. IsOneStepped i on.here.0 t g u mid new) is (made on.here.0 on.here.1));
      talks = talks;
      long = λ stamped. talking_as (process t) stamped (leads_as (λ h x. x) (λ h x. x.whole)
          (subst (λ g. Adds mid new (Leads (As stamped (process t)) (Matches stamped t)
          (AfterStep stamped i u g))) is (told stamped)));
      last = last_answer t u (has_shrunk i had size) talks;
      cause = (step_on b c (Shrank had size) (subst (AgentCause b c) is cause), tt);
    })

    -- a read failed
    pub stepping_fails : (fault : AgentFault) → given ≡ Err fault → Adds mid new (FailsLast given)
        → IsUndamaged given
        → (p : Progress) → IsFresh p → WasNotRead i p
        → Part now reads polls p s (ReadOut i p s) (Some (Err fault)) u old new a c
    stepping_fails fault is last undamaged p fresh unread = part_then (on.part p fresh unread)
        (λ q k. record {
          comes = drain.unread i on.here.0 fault on.here.1 on.here.2 k.ended
              (subst (λ g. IsOneStepped i on.here.0 t g u mid new) is (made on.here.0 on.here.1));
          talks = talks;
          long = tt;
          last = adds_as (EndsLast (Some (Err fault))) (subst (λ g. Adds mid new (FailsLast g)) is last)
              (λ x h y. fails_but fault x h y);
          cause = (
            caused fault (subst (AgentCause b c) is cause),
            early_as fault (subst IsUndamaged is undamaged),
          );
        })
      where
        caused : (f : AgentFault) → AgentCause {T = Stepped} b c (Err f)
            → AgentCause {T = Drained} b c (Err f)
        caused (Damaged at) x = x
        caused (Outside call) x = x
        caused NoMemory x = x

        early_as : (f : AgentFault) → IsUndamaged {T = Stepped} (Err f) → EndsEarly (Err f)
        early_as (Damaged at) x = x
        early_as (Outside call) x = x
        early_as NoMemory x = x

    -- the queue had no room: chunks wait, and may be posted
    module _ (n : ℕ) (is : given ≡ Ok (Held n)) where
      held : WasHeld t u mid new
      held = step_held n (made on.here.0 on.here.1) is

      pub held_waiting : IsSound u → u.delivery.queue.chunks ≢ []
      held_waiting sound =
          held_some u sound (ap (λ (k : State). is_held k.delivery) held.state ∙ held.held)

      pub held_ready : u.ready ≡ s.ready
      held_ready = ap (λ (k : State). k.ready) held.state ∙ stepping_ready

      -- as before it
      same : SteppingOn now reads polls i count s u old new a c
      same = record {
        part = λ p fresh unread. part_then (on.part p fresh unread) (λ q k. record {
          comes = subst (λ (v : State). Comes now reads polls q t (λ r m. ReadSome i count p r)
              None v mid new) (sym held.state)
              (subst (λ x. Comes now reads polls q t (λ r m. ReadSome i count p r) None t mid x)
              (sym held.at)
              (record {
                progress = q;
                known = k;
                source = refl;
                ready = refl;
                onward = λ result v later rest. rest;
              }));
          talks = talks;
          long = tt;
          last = last_none t u talks;
          cause = step_on b c (Held n) (subst (AgentCause b c) is cause);
        });
        adaptors = but_then i s t u on.adaptors leaves.adaptors;
        here = subst (IsReadOn i) (sym held.state) on.here;
        few = on.few;
      }

      module _ (sound : IsSound u) (v : State) {later : Option History} {d : ℕ}
          (end : Option (Result Drained AgentFault))
          (next : (reads : ℕ) (q : Progress) → IsFresh q → MayPost q u
          → Part now reads polls q u (PostedBy q u) end v new later c d) where
        may : (q : Progress) → MayPost q u
        may q = (
          held_waiting sound,
          inl
              (ap (λ (k : State). is_held k.delivery) held.state ∙ held.held),
        )

        pub held_ends : (result : Result Drained AgentFault) → end ≡ Some result
            → (p : Progress) → IsFresh p → WasNotRead i p
            → Part now reads polls p s (ReadOut i p s) (Some result) v old later a d
        held_ends result e p fresh unread = part_then (same.part p fresh unread) (λ q k.
            let x = subst (λ r. Part now reads polls q u (PostedBy q u) r v new later c d) e
            (next reads q k.fresh (may q)) in
            record { comes = x.comes; talks = x.talks; long = x.long; last = x.last; cause = x.cause })

        module _ (none : end ≡ None) where
          by : (reads : ℕ) (q : Progress) → IsFresh q
              → Part now reads polls q u (PostedBy q u) None v new later c d
          by reads q fresh =
              subst (λ r. Part now reads polls q u (PostedBy q u) r v new later c d) none
              (next reads q fresh (may q))

          pub held_next : SteppingOn now reads polls i count s v old later a d
          held_next =
              let m = (by 0 begun begun_fresh).comes.known in
              record {
                part = λ p fresh unread. part_then (same.part p fresh unread) (λ q k.
                    part_map (λ r m. record {
                      fresh = m.fresh;
                      reads = ap (λ f. f i) m.reading.reads ∙ k.reads;
                      ended = ap (λ f. f i) m.reading.ended ∙ k.ended;
                      others = others_then i p q r k.others (record {
                        reads = λ x other. ap (λ f. f x) m.reading.reads;
                        ended = λ x other. ap (λ f. f x) m.reading.ended;
                      });
                    }) (by reads q k.fresh));
                adaptors = but_then i s u v same.adaptors (but_same i u v m.rest.adaptors);
                here = (
                  same.here.0,
                  ap (λ xs. slice_get xs i) m.rest.adaptors ∙ same.here.1,
                  same.here.2,
                );
                few = on.few;
              }

          pub held_smaller : length v.delivery.queue.chunks < length t.delivery.queue.chunks
          held_smaller =
              let less = (by 0 begun begun_fresh).comes.known.fewer in
              let size = ap (λ (k : State). length k.delivery.queue.chunks) held.state in
              omega (arith, less, size)

-- ---- what the history holds behind them

-- where the drain ends, no end was come to
pub ended_told : (s t : State) (i : ℕ) (result : Result Drained AgentFault)
    {old new : Option History} → Talks s t old new
    → (stamped : List (List ℕ)) → Adds old new
    (Leads (Talking stamped (process s)) (Matches stamped s)
    (AfterReads stamped i t (Some result)))
ended_told s t i result talks stamped =
    leads_as (λ h x. x) (λ h x. record { matches = x; whole = λ e. absurd (let z : ⊥ = cc in z) })
    (talks stamped)

pub came_told : (s t u : State) (i : ℕ) (given : Result Stepped AgentFault) → given ≡ Ok AtEnd
    → t.source ≡ s.source
    → {old mid new : Option History} → Talks s t old mid
    → ((stamped : List (List ℕ)) → Adds mid new (Leads (As stamped (process t)) (Matches stamped t)
    (AfterStep stamped i u given)))
    → (stamped : List (List ℕ)) → Adds old new
    (Leads (Talking stamped (process s)) (Matches stamped s)
    (AfterReads stamped i u None))
came_told s t u i given is source {mid = mid} {new = new} talks told stamped =
    leads_then (talks stamped)
    (subst (λ n. Adds mid new (Leads (Talking stamped (record { role = Agent; name = n }))
    (Matches stamped t)
    (AfterReads stamped i u None))) source
    (talking_as (process t) stamped
    (leads_as (λ h x. x) (λ h x. record { matches = x.matches; whole = λ e. x.whole })
    (subst (λ g. Adds mid new (Leads (As stamped (process t)) (Matches stamped t)
    (AfterStep stamped i u g))) is
    (told stamped)))))
