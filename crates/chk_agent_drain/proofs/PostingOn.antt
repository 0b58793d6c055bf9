-- The posts of a drain up to one with a good reply.
use Rattle.std.proofs.Common.{◌≡◌, inl, inr, ℕ, ◌-◌, ◌≤◌, ◌<◌, [], length, Option, Some, None, Result, Ok, Err, ap, sym, subst, ◌∙◌, refl, arith}
use Rattle.std.specs.Prelude.{slice_get, nat_lt}
use Rattle.chk_site.specs.History.{History}
use Rattle.chk_site.proofs.Runs.{adds_as}
use Rattle.chk_queue.specs.Queues.{Waiting, data_size}
use Rattle.chk_acks.specs.Table.{Table}
use Rattle.chk_agent.specs.declared.answers.AgentFault.{AgentFault}
use Rattle.chk_agent.specs.declared.answers.AgentFault.TheVariants.{NoMemory}
use Rattle.chk_agent.specs.States.{State}
use Rattle.chk_agent.proofs.TurningTold.{talks_then}
use Rattle.chk_agent_drain.specs.declared.answers.Drained.{Drained}
use Rattle.chk_agent_drain.specs.declared.tries.Miss.{Miss}
use Rattle.chk_agent_drain.specs.declared.tries.Miss.TheVariants.{Unsent, Silent as no_reply, Refused as other_reply}
use Rattle.chk_agent_drain.specs.declared.tries.Tries.{Tries}
use Rattle.chk_agent_drain.specs.Drains as drain
use Rattle.chk_agent_drain.specs.Drains.{Progress, MayPost, PostTries, Drains, post_good, tried_answer}
use Rattle.chk_agent_drain.specs.Parts as once
use Rattle.chk_agent_drain.specs.Parts.{Anything, AreTries, EndsLast, IsTalk, IsUntried, MissCause, Part, PostedBy, PostsOnce, RoseIf, SameReading, SameRest, Talks, failed_by, missed}
use Rattle.chk_agent_drain.proofs.Joining.{long_tried, part_none, part_then, reading_then}
use Rattle.chk_agent_drain.proofs.Kept.{IsKept, kept, kept_then, post_good as good_behind, post_missed}
use Rattle.chk_agent_drain.proofs.Misses.{last_none, last_wanting, miss_on, missed_same, rose_on, talk_on, tried_cause, tried_last}

-- what was so of a post stays so where the chunks and the adaptors are the same
pub may_as : (p q : Progress) (s t : State) → t.adaptors ≡ s.adaptors
    → t.delivery.queue ≡ s.delivery.queue
    → SameReading p q → MayPost p s → MayPost q t
may_as p q s t adaptors queue same may = (
  (λ none. may.0 (ap (λ (x : Waiting). x.chunks) (sym queue) ∙ none)),
  elim may.1 [
    | inl held ↦ inl (ap (λ (x : Waiting). nat_lt (x.limit - data_size x.chunks) 131072) queue ∙
        held)
    | inr all ↦ inr (λ i a at on. ap (λ f. f i) same.ended ∙ all i a
        (ap (λ xs. slice_get xs i) (sym adaptors) ∙ at) on)
  ],
)

may_kept : (p q : Progress) (s t : State) → IsKept s t → SameReading p q → MayPost p s → MayPost q t
may_kept p q s t k same may = may_as p q s t k.adaptors k.within.queue same may

-- ---- a post as a step of a drain

miss_tries : {now : ℕ} {s t : State} {result : Result (Result (Unit {0}) Miss) AgentFault}
    {old new : Option History}
    (p : Progress) (miss : Miss) → MayPost p s → PostsOnce now s result t old new
    → result ≡ Ok (Err miss) → PostTries now p s (missed miss p) t old new
miss_tries p miss may (once.good n m posts replies) e = absurd (let z : ⊥ = cc in z)
miss_tries {now = now} {s = s} {t = t} {old = old} {new = new} p miss may (once.unsent posts) e =
    subst (λ m. PostTries now p s (missed m p) t old new) (let z : Unsent ≡ miss = cc in z)
    (drain.unsent may posts)
miss_tries {now = now} {s = s} {t = t} {old = old} {new = new} p miss may
    (once.silent n posts replies) e =
    subst (λ m. PostTries now p s (missed m p) t old new) (let z : no_reply ≡ miss = cc in z)
    (drain.silent n may posts replies)
miss_tries {now = now} {s = s} {t = t} {old = old} {new = new} p miss may
    (once.refused n code posts replies) e =
    subst (λ m. PostTries now p s (missed m p) t old new)
    (let z : other_reply code ≡ miss = cc in z)
    (drain.refused n code may posts replies)
miss_tries p miss may (once.wanting wants) e = absurd (let z : ⊥ = cc in z)

good_goes : {now reads polls : ℕ} {s t u : State}
    {given : Result (Result (Unit {0}) Miss) AgentFault}
    {result : Result Drained AgentFault} {old mid new : Option History} (p : Progress) → MayPost p s
    → PostsOnce now s given t old mid → given ≡ Ok (Ok tt)
    → Drains now reads polls (post_good p) t result u mid new
    → Drains now reads polls p s result u old new
good_goes p may (once.good n m posts replies) e rest = drain.posted n m may posts replies rest
good_goes p may (once.unsent posts) e rest = absurd (let z : ⊥ = cc in z)
good_goes p may (once.silent n posts replies) e rest = absurd (let z : ⊥ = cc in z)
good_goes p may (once.refused n code posts replies) e rest = absurd (let z : ⊥ = cc in z)
good_goes p may (once.wanting wants) e rest = absurd (let z : ⊥ = cc in z)

wants_ends : {now reads polls : ℕ} {s t : State}
    {given : Result (Result (Unit {0}) Miss) AgentFault}
    {old new : Option History} (p : Progress) (fault : AgentFault) → PostsOnce now s given t old new
    → given ≡ Err fault → (fault ≡ NoMemory) × Drains now reads polls p s (Err NoMemory) t old new
wants_ends p fault (once.good n m posts replies) e = absurd (let z : ⊥ = cc in z)
wants_ends p fault (once.unsent posts) e = absurd (let z : ⊥ = cc in z)
wants_ends p fault (once.silent n posts replies) e = absurd (let z : ⊥ = cc in z)
wants_ends p fault (once.refused n code posts replies) e = absurd (let z : ⊥ = cc in z)
wants_ends p fault (once.wanting wants) e =
    ((let z : fault ≡ NoMemory = cc in z), drain.wanting wants)

-- ---- the posts so far

-- behind posts without a good reply
pub record TriedPosts (tries : Tries) (p q : Progress) : Type 0 where
  pub reading : SameReading p q
  pub tries_are : AreTries tries q

pub record PostedOn (now : ℕ) (tries : Tries) (s t : State) (old new : Option History)
    (before after : ℕ) : Type 0 where
  pub kept_so : IsKept s t
  pub more : tries.count < length s.delivery.ring.addresses
  pub rose : RoseIf tries.failed before after
  pub talk : IsTalk tries.failed
  pub part : (reads polls : ℕ) (p : Progress) → IsUntried p → MayPost p s
      → Part now reads polls p s (λ q k. TriedPosts tries p q) None t old new before after

pub posted_begun : (now : ℕ) (tries : Tries) (s : State) (at : Option History) (a : ℕ)
    → 0 < length s.delivery.ring.addresses → tries.count ≡ 0 → tries.failed ≡ None
    → ((p : Progress) → IsUntried p → AreTries tries p) → PostedOn now tries s s at at a a
posted_begun now tries s at a some none failed fresh = record {
  kept_so = kept s;
  more = omega (arith, some, none);
  rose = subst (λ o. RoseIf o a a) (sym failed) (let same : a ≤ a = omega arith in same);
  talk = subst IsTalk (sym failed) tt;
  part = λ reads polls p untried may. part_none now reads polls p s (λ q k. TriedPosts tries p q)
      at a
      (record { reading = record { reads = refl; ended = refl }; tries_are = fresh p untried });
}

module _ (now : ℕ) (tries : Tries) (s t u : State) {old mid new : Option History} (a b c : ℕ)
    (on : PostedOn now tries s t old mid a b)
    (given : Result (Result (Unit {0}) Miss) AgentFault) (made : PostsOnce now t given u mid new)
    (talks : Talks t u mid new) (cause : MissCause b c given) where
  module _ (miss : Miss) (is : given ≡ Ok (Err miss)) (next : Tries)
      (failed : next.failed ≡ failed_by miss tries.failed)
      (tried : (p : Progress) → AreTries tries p → AreTries next (missed miss p)) where
    risen : RoseIf next.failed a c
    risen =
        subst (λ o. RoseIf o a c) (sym failed)
        (rose_on (Unit {0}) miss tries.failed a b c on.rose (subst (MissCause b c) is cause))

    talking : IsTalk next.failed
    talking = subst IsTalk (sym failed) (talk_on miss tries.failed on.talk)

    -- one more, and there are other addresses
    pub posted_next : next.count < length s.delivery.ring.addresses
        → PostedOn now next s u old new a c
    posted_next more = record {
      kept_so = kept_then s t u on.kept_so (post_missed miss made is);
      more = more;
      rose = risen;
      talk = talking;
      part = λ reads polls p untried may. part_then (on.part reads polls p untried may) (λ q k.
          let here = may_kept p q s t on.kept_so k.reading may in
          let left = post_missed miss made is in
          record {
            comes = record {
              progress = missed miss q;
              known = record {
                reading = reading_then p q (missed miss q) k.reading (missed_same miss q);
                tries_are = tried q k.tries_are;
              };
              source = left.source;
              ready = left.ready;
              onward = λ result v later rest. drain.unposted (miss_tries q miss here made is)
                  (subst (λ n. n < length t.delivery.ring.addresses)
                  (sym (tried q k.tries_are).count)
                  (subst (λ xs. next.count < length xs) (sym on.kept_so.within.addresses) more))
                  rest;
            };
            talks = talks;
            long = tt;
            last = last_none t u talks;
            cause = miss_on (Unit {0}) miss b c (subst (MissCause b c) is cause);
          });
    }

    -- one more, and it was the last address
    pub posted_last : (answer : Result Drained AgentFault)
        → next.count ≡ length s.delivery.ring.addresses
        → ((p : Progress) → AreTries next p → answer ≡ tried_answer p)
        → (reads polls : ℕ) (p : Progress) → IsUntried p → MayPost p s
        → Part now reads polls p s (PostedBy p s) (Some answer) u old new a c
    posted_last answer all answers reads polls p untried may =
        let x = on.part reads polls p untried may in
        let g = x.comes in
        let q = g.progress in
        let here = may_kept p q s t on.kept_so g.known.reading may in
        let are = tried q g.known.tries_are in
        let both = talks_then s t u (record { source = g.source; ready = g.ready }) x.talks talks in
        subst (λ r. Part now reads polls p s (PostedBy p s) (Some r) u old new a c)
        (sym (answers (missed miss q) are)) (record {
          comes = g.onward (tried_answer (missed miss q)) u new
              (drain.none_took (miss_tries q miss here made is)
              (are.count ∙ all ∙ ap length (sym on.kept_so.within.addresses)));
          talks = both;
          long = long_tried s (missed miss q) old new;
          last = adds_as (EndsLast (Some (tried_answer (missed miss q)))) (both [])
              (λ added h y. tried_last next (missed miss q) are talking added h);
          cause = tried_cause next (missed miss q) a c are risen;
        })

  -- a good reply
  pub posted_good : given ≡ Ok (Ok tt) → (reads polls : ℕ) (p : Progress) → IsUntried p
      → MayPost p s
      → Part now reads polls p s (PostedBy p s) None u old new a c
  posted_good is reads polls p untried may = part_then (on.part reads polls p untried may) (λ q k.
      let here = may_kept p q s t on.kept_so k.reading may in
      let f = good_behind here.0 made is in
      let o = on.kept_so in
      let chunks = ap (λ (x : Waiting). length x.chunks) o.within.queue in
      let fewer = f.fewer in
      record {
        comes = record {
          progress = post_good q;
          known = record {
            reading = record { reads = k.reading.reads; ended = k.reading.ended };
            fresh = record { untried = record { tried = refl; failed = refl }; polls = refl };
            rest = record {
              adaptors = f.same.rest.adaptors ∙ o.adaptors;
              addresses = f.same.rest.addresses ∙ o.within.addresses;
              room = f.same.rest.room ∙ ap (λ (x : Table). x.room) o.within.table;
            };
            fewer = omega (arith, fewer, chunks);
          };
          source = f.same.source;
          ready = f.same.ready;
          onward = λ result v later rest. good_goes q here made is rest;
        };
        talks = talks;
        long = tt;
        last = last_none t u talks;
        cause = subst (MissCause b c) is cause;
      })

  -- no memory
  pub posted_wanting : (fault : AgentFault) → given ≡ Err fault → (reads polls : ℕ) (p : Progress)
      → IsUntried p
      → MayPost p s → Part now reads polls p s (PostedBy p s) (Some (Err fault)) u old new a c
  posted_wanting fault is reads polls p untried may = part_then (on.part reads polls p untried may)
      (λ q k.
      let wants = wants_ends q fault made is in
      subst (λ f. Part now reads polls q t (PostedBy p s) (Some (Err f)) u mid new b c)
      (sym wants.0) (record {
        comes = wants.1;
        talks = talks;
        long = tt;
        last = last_wanting t u talks;
        cause = (subst (MissCause b c) is cause, tt);
      }))
