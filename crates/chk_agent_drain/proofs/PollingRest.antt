-- The polls of a drain until so many rows are free.
use Rattle.std.proofs.Common.{◌≡◌, ◌≢◌, ◌⊎◌, inl, inr, ℕ, ◌+◌, ◌-◌, ◌≤◌, ◌<◌, Bool, true, false, if◌then◌else◌, [], ◌++◌, length, Option, Some, None, Result, Ok, Err, ap, sym, subst, ◌∙◌, refl, arith}
use Rattle.std.specs.Prelude.{slice_get, nat_lt}
use Rattle.std.proofs.lemmas.Bool.{ltb-true, ltb-false}
use Rattle.std.proofs.lemmas.Option.{same_Some, none-some}
use Rattle.chk_site.specs.History.{History}
use Rattle.chk_site.specs.Site.{Adds}
use Rattle.chk_site.proofs.Runs.{adds_then}
use Rattle.chk_acks.specs.Table.{Table}
use Rattle.chk_acks.specs.Rows.{is_unmarked}
use Rattle.chk_acks.specs.Sound.{IsSound as IsSoundTable}
use Rattle.chk_queue.specs.Queues.{Waiting}
use Rattle.chk_agent_delivery.specs.declared.answers.Below.{Below}
use Rattle.chk_agent_delivery.specs.States.{free_rows}
use Rattle.chk_agent_delivery.specs.Turns.{asked_stems}
use Rattle.chk_agent.specs.declared.answers.AgentFault.{AgentFault}
use Rattle.chk_agent.specs.declared.answers.AgentFault.TheVariants.{Damaged, Outside, NoMemory}
use Rattle.chk_agent.specs.States.{State}
use Rattle.chk_agent.specs.Faults.{AgentCause, FailsLast, IsUndamaged}
use Rattle.chk_agent.specs.Fits.{IsSound}
use Rattle.chk_agent.proofs.TurningTold.{talks_then}
use Rattle.chk_agent_drain.specs.declared.answers.Drained.{Drained}
use Rattle.chk_agent_drain.specs.declared.answers.Drained.TheVariants.{Pending}
use Rattle.chk_agent_drain.specs.Drains as drain
use Rattle.chk_agent_drain.specs.Drains.{Progress, AllEnded, MayPoll, PollGives, Drains, WaitsOn, begun, poll_good}
use Rattle.chk_agent_drain.specs.Parts.{EndsEarly, EndsLast, FailsLastBut, Freed, IsFresh, IsUntried, Part, PausesBetween, PolledBy, PolledTo, Polling, SameRest, Talks, WantsRows, count_rows, pending_by, unmarked_in}
use Rattle.chk_agent_drain.proofs.Joining.{cause_then, last_later, part_map, part_none, part_then, reading_then, rest_then}
use Rattle.chk_agent_drain.proofs.Kept.{poll_good as good_behind}
use Rattle.chk_agent_drain.proofs.PollingOn.{good_gives, may_as}
use Rattle.chk_agent_drain.proofs.Misses.{last_answer, last_none}

-- ---- one poll with a good reply, and the pause behind it

-- where no answer is pending, more polls follow
pub waits_by : (left : ℕ) (below : Option Below) → None ≡ pending_by left below
    → (below ≡ None) ⊎ (1 < left)
waits_by left None e = inl refl
waits_by left (Some b) e = go (nat_lt 1 left) refl e
  where
    go : (x : Bool) → nat_lt 1 left ≡ x
        → None ≡ (if x then None else Some (Pending b.stem b.got b.want))
        → (Some b ≡ None) ⊎ (1 < left)
    go true is e = inr (ltb-true 1 left is)
    go false is e = absurd (none-some _ e)

-- the row that is below, and that no more than one poll was left
record IsPending (left : ℕ) (below : Option Below) (answer : Drained) : Type 0 where
  pub row : Below
  pub is : below ≡ Some row
  pub last : left ≤ 1
  pub answers : answer ≡ Pending row.stem row.got row.want

pending_is : (left : ℕ) (below : Option Below) (answer : Drained)
    → Some answer ≡ pending_by left below
    → IsPending left below answer
pending_is left None answer e = absurd (none-some _ (sym e))
pending_is left (Some b) answer e = go (nat_lt 1 left) refl e
  where
    go : (x : Bool) → nat_lt 1 left ≡ x
        → Some answer ≡ (if x then None else Some (Pending b.stem b.got b.want))
        → IsPending left (Some b) answer
    go true is e = absurd (none-some _ (sym e))
    go false is e = record {
      row = b;
      is = refl;
      last = (let most = ltb-false 1 left is in omega (arith, most));
      answers = same_Some _ _ e;
    }

fails_but : (fault : AgentFault) (added history : History)
    → FailsLast {T = Unit {0}} (Err fault) added history
    → FailsLastBut (Err fault) added history
fails_but (Damaged at) added history x = tt
fails_but (Outside call) added history x = λ other. x
fails_but NoMemory added history x = tt

-- a poll with a good reply goes on behind its pause, or at once where nothing is left
goes_on : {now reads polls : ℕ} {p q : Progress} {s t u : State} {result : Result Drained AgentFault}
    {old mid next new : Option History}
    → MayPoll p s → PollGives p s q t old mid → WaitsOn polls q → PausesBetween t (Ok tt) mid next
    → Drains now reads polls q t result u next new → Drains now reads polls p s result u old new
goes_on {now = now} {reads = reads} {polls = polls} {q = q} {t = t} {u = u} {result = result}
    {new = new} may gives waits (inl none) rest =
    drain.polled_last may gives none.0
    (subst (λ h. Drains now reads polls q t result u h new) none.1 rest)
goes_on may gives waits (inr some) rest = drain.polled may gives waits some.0 some.1 rest

-- behind a good reply the agent is as ready
pub polled_ready : {now reads polls : ℕ} {p : Progress} (s : State) (below : Option Below)
    (t : State)
    {old mid : Option History} {a b : ℕ} → asked_stems s.delivery.table ≢ []
    → PolledTo now reads polls p s below t old mid a b → t.ready ≡ s.ready
polled_ready s below t some to =
    let g = to.tries.comes in
    (good_behind below (λ none. some (ap asked_stems (sym g.known.table) ∙ none)) to.gives
    refl).same.ready ∙ g.ready

module _ (now reads polls left : ℕ) (p : Progress) (s : State) (may : MayPoll p s)
    (so : left ≡ polls - p.polls)
    (below : Option Below) (t : State) {old mid : Option History} {a b : ℕ}
    (to : PolledTo now reads polls p s below t old mid a b) where
  pub polls_pending : (answer : Drained) → Some answer ≡ pending_by left below
      → Part now reads polls p s (PolledBy left p s) (Some (Ok answer)) t old mid a b
  polls_pending answer e =
      let h = pending_is left below answer e in
      let most = h.last in
      subst (λ x. Part now reads polls p s (PolledBy left p s) (Some (Ok x)) t old mid a b)
      (sym h.answers)
      (part_then to.tries (λ q k.
      let same = k.polls in
      record {
        comes = drain.pending h.row (may_as p q s to.state k.rest.adaptors k.queue k.table
            k.reading may)
            (good_gives q below to.gives refl) (omega (arith, most, so, same)) h.is;
        talks = to.talks;
        long = tt;
        last = last_answer to.state t (Pending h.row.stem h.row.got h.row.want) to.talks;
        cause = (to.on, tt);
      }))

  module _ (waits : (below ≡ None) ⊎ (1 < left)) {new : Option History} (c : ℕ)
      (paused : Talks t t mid new) where
    on_so : (q : Progress) → q.polls ≡ p.polls → WaitsOn polls (poll_good below q)
    on_so q same = elim waits [
      | inl none ↦ inl none
      | inr more ↦ inr (omega (arith, more, so, same))
    ]

    pub polls_waited : asked_stems s.delivery.table ≢ [] → PausesBetween t (Ok tt) mid new → b ≤ c
        → Part now reads polls p s (PolledBy left p s) None t old new a c
    polls_waited some pauses on = part_then to.tries (λ q k.
        let seen = good_behind below (λ none. some (ap asked_stems (sym k.table) ∙ none)) to.gives
        refl in
        let first = to.on in
        let table = ap (λ (x : Table). count_rows is_unmarked x.rows) k.table in
        let talks = talks_then to.state t t
        (record { source = seen.same.source; ready = seen.same.ready }) to.talks paused in
        record {
          comes = record {
            progress = poll_good below q;
            known = record {
              reading = record { reads = k.reading.reads; ended = k.reading.ended };
              untried = record { tried = refl; failed = refl };
              polls = ap (λ n. n + 1) k.polls;
              rest = rest_then s to.state t k.rest seen.same.rest;
              queue = seen.queue ∙ k.queue;
              fewer = elim waits [
                | inl none ↦ let less = seen.fewer none in omega (arith, less, table)
                | inr more ↦ let less = seen.no_more in omega (arith, less, table, more)
              ];
            };
            source = seen.same.source;
            ready = seen.same.ready;
            onward = λ result v later rest. goes_on
                (may_as p q s to.state k.rest.adaptors k.queue k.table k.reading may)
                (good_gives q below to.gives refl) (on_so q k.polls) pauses rest;
          };
          talks = talks;
          long = tt;
          last = last_none to.state t talks;
          cause = omega (arith, first, on);
        })

    pub polls_unpaused : (fault : AgentFault) → asked_stems s.delivery.table ≢ []
        → PausesBetween t (Err fault) mid new
        → Adds mid new (FailsLast {T = Unit {0}} (Err fault))
        → AgentCause {T = Unit {0}} b c (Err fault)
        → IsUndamaged {T = Unit {0}} (Err fault)
        → Part now reads polls p s (PolledBy left p s) (Some (Err fault)) t old new a c
    polls_unpaused fault some pauses last cause undamaged = part_then to.tries (λ q k.
        let seen = good_behind below (λ none. some (ap asked_stems (sym k.table) ∙ none)) to.gives
        refl in
        record {
          comes = subst (λ f. Drains now reads polls q to.state (Err f) t to.mid new)
              (sym pauses.1.4) (drain.unpaused pauses.1.0 pauses.1.1
              (may_as p q s to.state k.rest.adaptors k.queue k.table k.reading may)
              (good_gives q below to.gives refl) (on_so q k.polls) pauses.0 pauses.1.2 pauses.1.3);
          talks = talks_then to.state t t
              (record { source = seen.same.source; ready = seen.same.ready }) to.talks paused;
          long = tt;
          last = adds_then (EndsLast (Some (Err fault))) (to.talks []) last
              (λ x y h m n. last_later (Some (Err fault)) y x h (fails_but fault y (x ++ h) n));
          cause = cause_then to.count b c (Some (Err fault)) to.on
              (caused fault cause, early_as fault undamaged);
        })
      where
        caused : (f : AgentFault) → AgentCause {T = Unit {0}} b c (Err f)
            → AgentCause {T = Drained} b c (Err f)
        caused (Damaged at) x = x
        caused (Outside call) x = x
        caused NoMemory x = x

        early_as : (f : AgentFault) → IsUndamaged {T = Unit {0}} (Err f) → EndsEarly (Err f)
        early_as (Damaged at) x = x
        early_as (Outside call) x = x
        early_as NoMemory x = x

-- ---- polls until so many rows are free

-- each log gave nothing
abbrev pub all_ended : Progress
all_ended = record begun { ended = λ i. true }

pub ended_fresh : IsFresh all_ended
ended_fresh = record { untried = record { tried = refl; failed = refl }; polls = refl }

pub wants_so : (wanted : ℕ) (s : State) → (wanted ≡ 1) ⊎ (s.delivery.queue.chunks ≡ [])
    → WantsRows wanted all_ended s
wants_so wanted s (inl one) = inl one
wants_so wanted s (inr none) = inr (none, λ i a at on. refl)

-- the polls so far
pub record Freeing (polls left wanted : ℕ) (s t : State) (old new : Option History)
    (before after : ℕ) : Type 0 where
  pub part : (now reads : ℕ) (p : Progress) → IsFresh p → WantsRows wanted p s
      → Part now reads polls p s (Polling polls left p s) None t old new before after

pub freeing_begun : (polls wanted : ℕ) (s : State) (at : Option History) (a : ℕ)
    → Freeing polls polls wanted s s at at a a
freeing_begun polls wanted s at a = record {
  part = λ now reads p fresh wants.
      let none = fresh.polls in
      part_none now reads polls p s (Polling polls polls p s) at a (record {
        reading = record { reads = refl; ended = refl };
        untried = fresh.untried;
        remain = omega (arith, none);
        rest = record { adaptors = refl; addresses = refl; room = refl };
        queue = refl;
      });
}

module _ (polls left wanted : ℕ) (s t : State) {old mid : Option History} {a b : ℕ}
    (wants : (wanted ≡ 1) ⊎ (s.delivery.queue.chunks ≡ []))
    (on : Freeing polls left wanted s t old mid a b) where
  -- what is so of the state, whatever the progress
  so : Part 0 0 polls all_ended s (Polling polls left all_ended s) None t old mid a b
  so = on.part 0 0 all_ended ended_fresh (wants_so wanted s wants)

  pub freeing_ready : t.ready ≡ s.ready
  freeing_ready = so.comes.ready

  pub freeing_rest : SameRest s t
  freeing_rest = so.comes.known.rest

  pub freeing_queue : t.delivery.queue ≡ s.delivery.queue
  freeing_queue = so.comes.known.queue

  -- a row is there where not enough are free
  pub freeing_some : wanted ≤ s.delivery.table.room → IsSoundTable t.delivery.table
      → free_rows t.delivery < wanted
      → t.delivery.table.rows ≢ []
  freeing_some few sound short = λ none.
      let room = freeing_rest.room in
      let size = ap length none in
      let z : ⊥ = omega (arith, few, short, room, size) in z

  may : free_rows t.delivery < wanted → (p q : Progress) → WantsRows wanted p s
      → Polling polls left p s q t → MayPoll q t
  may short p q wants k = elim wants [
    | inl one ↦ inl (omega (arith, short, one))
    | inr quiet ↦ inr (
      ap (λ (x : Waiting). x.chunks) k.queue ∙ quiet.0,
      λ i a at on. ap (λ f. f i) k.reading.ended
          ∙ quiet.1 i a (ap (λ xs. slice_get xs i) (sym k.rest.adaptors) ∙ at) on,
    )
  ]

  pub freeing_may : free_rows t.delivery < wanted → (p : Progress) × IsUntried p × MayPoll p t
  freeing_may short =
      let g = so.comes in (
        g.progress,
        g.known.untried,
        may short all_ended g.progress (wants_so wanted s wants)
            g.known,
      )

  module _ (short : free_rows t.delivery < wanted) (u : State) {new : Option History} {c : ℕ}
      (end : Option (Result Drained AgentFault))
      (next : (now reads polls : ℕ) (q : Progress) → IsUntried q → MayPoll q t
      → left ≡ polls - q.polls
      → Part now reads polls q t (PolledBy left q t) end u mid new b c) where
    -- it ends there
    pub freeing_ends : (now reads : ℕ) (p : Progress) → IsFresh p → WantsRows wanted p s
        → {result : Result Drained AgentFault}
        → end ≡ Some result → Part now reads polls p s (Freed wanted p s) (Some result) u old new a
        c
    freeing_ends now reads p fresh wants {result = result} e = part_then
        (on.part now reads p fresh wants) (λ q k.
        let x = subst (λ r. Part now reads polls q t (PolledBy left q t) r u mid new b c) e
        (next now reads polls q k.untried (may short p q wants k) k.remain) in
        record { comes = x.comes; talks = x.talks; long = x.long; last = x.last; cause = x.cause })

    -- it goes on
    module _ (e : end ≡ None) where
      pub freeing_next : Freeing polls (left - 1) wanted s u old new a c
      freeing_next = record {
        part = λ now reads p fresh wants. part_then (on.part now reads p fresh wants) (λ q k.
            part_map (λ r m.
            let before = k.remain in
            let one = m.polls in
            record {
              reading = reading_then p q r k.reading m.reading;
              untried = m.untried;
              remain = omega (arith, before, one);
              rest = rest_then s t u k.rest m.rest;
              queue = m.queue ∙ k.queue;
            })
            (subst (λ r. Part now reads polls q t (PolledBy left q t) r u mid new b c) e
            (next now reads polls q k.untried (may short p q wants k) k.remain)));
      }

      pub freeing_smaller : unmarked_in u + (left - 1) < unmarked_in t + left
      freeing_smaller =
          let k = so.comes in
          let x = subst (λ r. Part 0 0 polls k.progress t (PolledBy left k.progress t) r u mid new
          b c) e
          (next 0 0 polls k.progress k.known.untried
          (may short all_ended k.progress (wants_so wanted s wants) k.known) k.known.remain) in
          x.comes.known.fewer

  -- so many are free
  pub freeing_done : wanted ≤ free_rows t.delivery → IsSound t → IsSoundTable t.delivery.table
      → (now reads : ℕ) (p : Progress) → IsFresh p → WantsRows wanted p s
      → Part now reads polls p s (Freed wanted p s) None t old mid a b
  freeing_done free sound table now reads p fresh wants = part_map (λ q k. record {
    reading = k.reading;
    untried = k.untried;
    rest = k.rest;
    queue = k.queue;
    free = free;
    sound = sound;
    table = table;
  }) (on.part now reads p fresh wants)
