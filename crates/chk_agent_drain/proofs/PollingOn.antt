-- The polls of a drain up to one with a good reply.
use Rattle.std.proofs.Common.{◌≡◌, inl, inr, ℕ, ◌-◌, ◌≤◌, ◌<◌, [], length, Option, Some, None, Result, Ok, Err, ap, sym, subst, ◌∙◌, refl, arith}
use Rattle.std.specs.Prelude.{slice_get}
use Rattle.chk_site.specs.History.{History}
use Rattle.chk_site.proofs.Runs.{adds_as}
use Rattle.chk_acks.specs.Table.{Table}
use Rattle.chk_queue.specs.Queues.{Waiting}
use Rattle.chk_agent_delivery.specs.declared.answers.Below.{Below}
use Rattle.chk_agent.specs.declared.answers.AgentFault.{AgentFault}
use Rattle.chk_agent.specs.declared.answers.AgentFault.TheVariants.{NoMemory}
use Rattle.chk_agent.specs.States.{State}
use Rattle.chk_agent.proofs.TurningTold.{talks_then}
use Rattle.chk_agent_drain.specs.declared.answers.Drained.{Drained}
use Rattle.chk_agent_drain.specs.declared.tries.Miss.{Miss}
use Rattle.chk_agent_drain.specs.declared.tries.Miss.TheVariants.{Unsent, Silent as no_reply, Refused as other_reply}
use Rattle.chk_agent_drain.specs.declared.tries.Tries.{Tries}
use Rattle.chk_agent_drain.specs.Drains as drain
use Rattle.chk_agent_drain.specs.Drains.{Progress, MayPoll, PollGives, PollTries, Drains, poll_good, tried_answer}
use Rattle.chk_agent_drain.specs.Parts as once
use Rattle.chk_agent_drain.specs.Parts.{Anything, AreTries, EndsLast, IsTalk, IsUntried, MissCause, Part, PollsOnce, PolledTo, RoseIf, SameReading, Talks, TriedPolls, failed_by, missed}
use Rattle.chk_agent_drain.proofs.Joining.{long_tried, part_map, part_none, part_then, reading_then}
use Rattle.chk_agent_drain.proofs.Kept.{IsKept, kept, kept_then, poll_missed}
use Rattle.chk_agent_drain.proofs.Misses.{last_none, last_wanting, miss_on, missed_polls, missed_same, rose_on, talk_on, tried_cause, tried_last}

-- what was so of a poll stays so where the chunks, the rows and the adaptors are the same
pub may_as : (p q : Progress) (s t : State) → t.adaptors ≡ s.adaptors
    → t.delivery.queue ≡ s.delivery.queue
    → t.delivery.table ≡ s.delivery.table → SameReading p q → MayPoll p s → MayPoll q t
may_as p q s t adaptors queue table same may =
    elim may [
      | inl full ↦ inl (ap (λ (x : Table). x.room - length x.rows) table ∙ full)
      | inr quiet ↦ inr (
        ap (λ (x : Waiting). x.chunks) queue ∙ quiet.0,
        λ i a at on. ap (λ f. f i) same.ended ∙ quiet.1 i a
            (ap (λ xs. slice_get xs i) (sym adaptors) ∙ at) on,
      )
    ]

may_kept : (p q : Progress) (s t : State) → IsKept s t → SameReading p q → MayPoll p s → MayPoll q t
may_kept p q s t k same may = may_as p q s t k.adaptors k.within.queue k.within.table same may

-- ---- a poll as a step of a drain

miss_tries : {now : ℕ} {s t : State} {result : Result (Result (Option Below) Miss) AgentFault}
    {old new : Option History}
    (p : Progress) (miss : Miss) → PollsOnce now s result t old new
    → result ≡ Ok (Err miss) → PollTries p s (missed miss p) t old new
miss_tries p miss (once.good n m below polls lengths) e = absurd (let z : ⊥ = cc in z)
miss_tries {s = s} {t = t} {old = old} {new = new} p miss (once.unsent polls) e =
    subst (λ m. PollTries p s (missed m p) t old new) (let z : Unsent ≡ miss = cc in z)
    (drain.unsent polls)
miss_tries {s = s} {t = t} {old = old} {new = new} p miss (once.silent n polls lengths) e =
    subst (λ m. PollTries p s (missed m p) t old new) (let z : no_reply ≡ miss = cc in z)
    (drain.silent n polls lengths)
miss_tries {s = s} {t = t} {old = old} {new = new} p miss (once.refused n code polls lengths) e =
    subst (λ m. PollTries p s (missed m p) t old new) (let z : other_reply code ≡ miss = cc in z)
    (drain.refused n code polls lengths)
miss_tries p miss (once.wanting wants) e = absurd (let z : ⊥ = cc in z)

pub good_gives : {now : ℕ} {s t : State} {given : Result (Result (Option Below) Miss) AgentFault}
    {old new : Option History}
    (p : Progress) (below : Option Below) → PollsOnce now s given t old new
    → given ≡ Ok (Ok below) → PollGives p s (poll_good below p) t old new
good_gives {s = s} {t = t} {old = old} {new = new} p below (once.good n m other polls lengths) e =
    subst (λ b. PollGives p s (poll_good b p) t old new) (let z : other ≡ below = cc in z)
    (drain.given n m other polls lengths)
good_gives p below (once.unsent polls) e = absurd (let z : ⊥ = cc in z)
good_gives p below (once.silent n polls lengths) e = absurd (let z : ⊥ = cc in z)
good_gives p below (once.refused n code polls lengths) e = absurd (let z : ⊥ = cc in z)
good_gives p below (once.wanting wants) e = absurd (let z : ⊥ = cc in z)

wants_ends : {now reads polls : ℕ} {s t : State}
    {given : Result (Result (Option Below) Miss) AgentFault}
    {old new : Option History} (p : Progress) (fault : AgentFault) → PollsOnce now s given t old new
    → given ≡ Err fault → (fault ≡ NoMemory) × Drains now reads polls p s (Err NoMemory) t old new
wants_ends p fault (once.good n m below asks lengths) e = absurd (let z : ⊥ = cc in z)
wants_ends p fault (once.unsent asks) e = absurd (let z : ⊥ = cc in z)
wants_ends p fault (once.silent n asks lengths) e = absurd (let z : ⊥ = cc in z)
wants_ends p fault (once.refused n code asks lengths) e = absurd (let z : ⊥ = cc in z)
wants_ends p fault (once.wanting wants) e =
    ((let z : fault ≡ NoMemory = cc in z), drain.wanting wants)

-- ---- the polls so far

-- behind polls without a good reply
pub record TriedSo (tries : Tries) (p q : Progress) : Type 0 where
  pub reading : SameReading p q
  pub polls : q.polls ≡ p.polls
  pub tries_are : AreTries tries q

pub record PolledOn (tries : Tries) (s t : State) (old new : Option History) (before after : ℕ) :
    Type 0 where
  pub kept_so : IsKept s t
  pub more : tries.count < length s.delivery.ring.addresses
  pub rose : RoseIf tries.failed before after
  pub talk : IsTalk tries.failed
  pub part : (now reads polls : ℕ) (p : Progress) → IsUntried p → MayPoll p s
      → Part now reads polls p s (λ q k. TriedSo tries p q) None t old new before after

pub polled_begun : (tries : Tries) (s : State) (at : Option History) (a : ℕ)
    → 0 < length s.delivery.ring.addresses → tries.count ≡ 0 → tries.failed ≡ None
    → ((p : Progress) → IsUntried p → AreTries tries p) → PolledOn tries s s at at a a
polled_begun tries s at a some none failed fresh = record {
  kept_so = kept s;
  more = omega (arith, some, none);
  rose = subst (λ o. RoseIf o a a) (sym failed) (let same : a ≤ a = omega arith in same);
  talk = subst IsTalk (sym failed) tt;
  part = λ now reads polls p untried may. part_none now reads polls p s (λ q k. TriedSo tries p q)
      at a
      (record {
        reading = record { reads = refl; ended = refl };
        polls = refl;
        tries_are = fresh p untried;
      });
}

module _ (tries : Tries) (s t u : State) {old mid new : Option History} (a b c : ℕ)
    (on : PolledOn tries s t old mid a b)
    (given : Result (Result (Option Below) Miss) AgentFault)
    (made : (now : ℕ) → PollsOnce now t given u mid new)
    (talks : Talks t u mid new) (cause : MissCause b c given) where
  module _ (miss : Miss) (is : given ≡ Ok (Err miss)) (next : Tries)
      (failed : next.failed ≡ failed_by miss tries.failed)
      (tried : (p : Progress) → AreTries tries p → AreTries next (missed miss p)) where
    risen : RoseIf next.failed a c
    risen =
        subst (λ o. RoseIf o a c) (sym failed)
        (rose_on (Option Below) miss tries.failed a b c on.rose (subst (MissCause b c) is cause))

    talking : IsTalk next.failed
    talking = subst IsTalk (sym failed) (talk_on miss tries.failed on.talk)

    -- one more, and there are other addresses
    pub polled_next : next.count < length s.delivery.ring.addresses → PolledOn next s u old new a c
    polled_next more = record {
      kept_so = kept_then s t u on.kept_so (poll_missed miss (made 0) is);
      more = more;
      rose = risen;
      talk = talking;
      part = λ now reads polls p untried may. part_then (on.part now reads polls p untried may)
          (λ q k.
          let here = may_kept p q s t on.kept_so k.reading may in
          let left = poll_missed miss (made 0) is in
          record {
            comes = record {
              progress = missed miss q;
              known = record {
                reading = reading_then p q (missed miss q) k.reading (missed_same miss q);
                polls = missed_polls miss q ∙ k.polls;
                tries_are = tried q k.tries_are;
              };
              source = left.source;
              ready = left.ready;
              onward = λ result v later rest. drain.unpolled here (miss_tries q miss (made now) is)
                  (subst (λ n. n < length t.delivery.ring.addresses)
                  (sym (tried q k.tries_are).count)
                  (subst (λ xs. next.count < length xs) (sym on.kept_so.within.addresses) more))
                  rest;
            };
            talks = talks;
            long = tt;
            last = last_none t u talks;
            cause = miss_on (Option Below) miss b c (subst (MissCause b c) is cause);
          });
    }

    -- one more, and it was the last address
    pub polled_last : (answer : Result Drained AgentFault)
        → next.count ≡ length s.delivery.ring.addresses
        → ((p : Progress) → AreTries next p → answer ≡ tried_answer p)
        → (now reads polls : ℕ) (p : Progress) → IsUntried p → MayPoll p s
        → Part now reads polls p s Anything (Some answer) u old new a c
    polled_last answer all answers now reads polls p untried may =
        let x = on.part now reads polls p untried may in
        let g = x.comes in
        let q = g.progress in
        let here = may_kept p q s t on.kept_so g.known.reading may in
        let are = tried q g.known.tries_are in
        let both = talks_then s t u (record { source = g.source; ready = g.ready }) x.talks talks in
        subst (λ r. Part now reads polls p s Anything (Some r) u old new a c)
        (sym (answers (missed miss q) are)) (record {
          comes = g.onward (tried_answer (missed miss q)) u new
              (drain.none_told here (miss_tries q miss (made now) is)
              (are.count ∙ all ∙ ap length (sym on.kept_so.within.addresses)));
          talks = both;
          long = long_tried s (missed miss q) old new;
          last = adds_as (EndsLast (Some (tried_answer (missed miss q)))) (both [])
              (λ added h y. tried_last next (missed miss q) are talking added h);
          cause = tried_cause next (missed miss q) a c are risen;
        })

  -- a good reply
  pub polled_good : (below : Option Below) → given ≡ Ok (Ok below)
      → (now reads polls : ℕ) (p : Progress) → IsUntried p
      → MayPoll p s → PolledTo now reads polls p s below u old new a c
  polled_good below is now reads polls p untried may =
      let o = on.kept_so in
      record {
        state = t;
        mid = mid;
        count = b;
        tries = part_map (λ q k. record {
          reading = k.reading;
          polls = k.polls;
          rest = record {
            adaptors = o.adaptors;
            addresses = o.within.addresses;
            room = ap (λ (x : Table). x.room) o.within.table;
          };
          queue = o.within.queue;
          table = o.within.table;
        }) (on.part now reads polls p untried may);
        gives = subst (λ g. PollsOnce now t g u mid new) is (made now);
        talks = talks;
        on = subst (MissCause b c) is cause;
      }

  -- no memory
  pub polled_wanting : (fault : AgentFault) → given ≡ Err fault
      → (now reads polls : ℕ) (p : Progress) → IsUntried p
      → MayPoll p s → Part now reads polls p s Anything (Some (Err fault)) u old new a c
  polled_wanting fault is now reads polls p untried may = part_then
      (on.part now reads polls p untried may) (λ q k.
      let wants = wants_ends q fault (made now) is in
      subst (λ f. Part now reads polls q t Anything (Some (Err f)) u mid new b c) (sym wants.0)
      (record {
        comes = wants.1;
        talks = talks;
        long = tt;
        last = last_wanting t u talks;
        cause = (subst (MissCause b c) is cause, tt);
      }))
