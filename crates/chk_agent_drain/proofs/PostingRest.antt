-- The posts of a drain, with the polls that they wait for.
use Rattle.std.proofs.Common.{◌≡◌, ◌≢◌, inl, inr, ℕ, ◌-◌, ◌≤◌, ◌<◌, List, [], ◌∷◌, length, Option, Some, None, Result, ap, sym, subst, ◌∙◌, refl, arith}
use Rattle.std.specs.Prelude.{slice_get}
use Rattle.chk_site.specs.History.{History}
use Rattle.chk_acks.specs.declared.row.Row.{Row}
use Rattle.chk_queue.specs.Queues.{Waiting}
use Rattle.chk_agent_delivery.specs.States.{free_rows}
use Rattle.chk_agent.specs.declared.answers.AgentFault.{AgentFault}
use Rattle.chk_agent.specs.States.{State}
use Rattle.chk_agent_drain.specs.declared.answers.Drained.{Drained}
use Rattle.chk_agent_drain.specs.Drains.{Progress, AllEnded, MayPost, begun}
use Rattle.chk_agent_drain.specs.Parts.{DeliveredBy, Freed, IsFresh, IsUntried, Part, PostedAll, PostedBy, SameReading, SameRest, WantsRows}
use Rattle.chk_agent_drain.proofs.Joining.{part_map, part_none, part_then, reading_then, rest_then}
use Rattle.chk_agent_drain.proofs.PollingRest.{all_ended, ended_fresh}
use Rattle.chk_agent_drain.proofs.PostingOn.{may_as}

-- ---- the next post

-- what the polls for one row came to, whatever the progress
pub begun_fresh : IsFresh begun
begun_fresh = record { untried = record { tried = refl; failed = refl }; polls = refl }

module _ (now polls : ℕ) (s t : State) {old mid : Option History} {a b : ℕ}
    (end : Option (Result Drained AgentFault))
    (freed : (reads : ℕ) (p : Progress) → IsFresh p → WantsRows 1 p s
    → Part now reads polls p s (Freed 1 p s) end t old mid a b) where
  pub freed_ends : (result : Result Drained AgentFault) → end ≡ Some result
      → (reads : ℕ) (p : Progress) → IsFresh p → MayPost p s
      → Part now reads polls p s (PostedBy p s) (Some result) t old mid a b
  freed_ends result e reads p fresh may =
      let x = subst (λ r. Part now reads polls p s (Freed 1 p s) r t old mid a b) e
      (freed reads p fresh (inl refl)) in
      record { comes = x.comes; talks = x.talks; long = x.long; last = x.last; cause = x.cause }

  module _ (none : end ≡ None) where
    one : (reads : ℕ) (p : Progress) → IsFresh p
        → Part now reads polls p s (Freed 1 p s) None t old mid a b
    one reads p fresh =
        subst (λ r. Part now reads polls p s (Freed 1 p s) r t old mid a b) none
        (freed reads p fresh (inl refl))

    pub freed_ready : t.ready ≡ s.ready
    freed_ready = (one 0 begun begun_fresh).comes.ready

    pub freed_waiting : s.delivery.queue.chunks ≢ [] → t.delivery.queue.chunks ≢ []
    freed_waiting some e = some (ap (λ (x : Waiting). x.chunks)
        (sym (one 0 begun begun_fresh).comes.known.queue) ∙ e)

    pub freed_room : free_rows t.delivery ≢ 0
    freed_room e = let free = (one 0 begun begun_fresh).comes.known.free in let z : ⊥ = omega
        (arith, free, e) in z

    pub freed_posts : (u : State) (last : Option (Result Drained AgentFault))
        {new : Option History} {c : ℕ}
        → ((reads polls : ℕ) (q : Progress) → IsUntried q → MayPost q t
        → Part now reads polls q t (PostedBy q t) last u mid new b c)
        → (reads : ℕ) (p : Progress) → IsFresh p → MayPost p s
        → Part now reads polls p s (PostedBy p s) last u old new a c
    freed_posts u last next reads p fresh may = part_then (one reads p fresh) (λ q k.
        part_map (λ r m.
        let less = m.fewer in
        let same = ap (λ (x : Waiting). length x.chunks) k.queue in
        record {
          reading = reading_then p q r k.reading m.reading;
          fresh = m.fresh;
          rest = rest_then s t u k.rest m.rest;
          fewer = omega (arith, less, same);
        })
        (next reads polls q k.untried (may_as p q s t k.rest.adaptors k.queue k.reading may)))

-- ---- all posts

-- behind posts
pub record Posting (p : Progress) (s : State) (q : Progress) (t : State) : Type 0 where
  pub reading : SameReading p q
  pub fresh : IsFresh q
  pub rest : SameRest s t

-- each log gave nothing still, where the adaptors are the same
pub ended_on : (p q : Progress) (s t : State) → SameReading p q → t.adaptors ≡ s.adaptors
    → AllEnded p s → AllEnded q t
ended_on p q s t same adaptors all i a at on =
    ap (λ f. f i) same.ended ∙ all i a (ap (λ xs. slice_get xs i) (sym adaptors) ∙ at) on

pub record PostingOn (now polls : ℕ) (s t : State) (old new : Option History) (before after : ℕ) :
    Type 0 where
  pub part : (reads : ℕ) (p : Progress) → IsFresh p → AllEnded p s
      → Part now reads polls p s (Posting p s) None t old new before after

pub posting_begun : (now polls : ℕ) (s : State) (at : Option History) (a : ℕ)
    → PostingOn now polls s s at at a a
posting_begun now polls s at a = record {
  part = λ reads p fresh all. part_none now reads polls p s (Posting p s) at a (record {
    reading = record { reads = refl; ended = refl };
    fresh = fresh;
    rest = record { adaptors = refl; addresses = refl; room = refl };
  });
}

module _ (now polls : ℕ) (s t : State) {old mid : Option History} {a b : ℕ}
    (on : PostingOn now polls s t old mid a b) where
  so : Part now 0 polls all_ended s (Posting all_ended s) None t old mid a b
  so = on.part 0 all_ended ended_fresh (λ i a at on. refl)

  pub posting_ready : t.ready ≡ s.ready
  posting_ready = so.comes.ready

  module _ (some : t.delivery.queue.chunks ≢ []) (u : State) {new : Option History} {c : ℕ}
      (end : Option (Result Drained AgentFault))
      (next : (reads : ℕ) (q : Progress) → IsFresh q → MayPost q t
      → Part now reads polls q t (PostedBy q t) end u mid new b c) where
    pub posting_ends : (result : Result Drained AgentFault) → end ≡ Some result
        → (reads : ℕ) (p : Progress) → IsFresh p → AllEnded p s
        → Part now reads polls p s (PostedAll p s) (Some result) u old new a c
    posting_ends result e reads p fresh all = part_then (on.part reads p fresh all) (λ q k.
        let x = subst (λ r. Part now reads polls q t (PostedBy q t) r u mid new b c) e
        (next reads q k.fresh (some, inr (ended_on p q s t k.reading k.rest.adaptors all))) in
        record { comes = x.comes; talks = x.talks; long = x.long; last = x.last; cause = x.cause })

    module _ (none : end ≡ None) where
      pub posting_next : PostingOn now polls s u old new a c
      posting_next = record {
        part = λ reads p fresh all. part_then (on.part reads p fresh all) (λ q k.
            part_map (λ r m. record {
              reading = reading_then p q r k.reading m.reading;
              fresh = m.fresh;
              rest = rest_then s t u k.rest m.rest;
            })
            (subst (λ r. Part now reads polls q t (PostedBy q t) r u mid new b c) none
            (next reads q k.fresh (some, inr (ended_on p q s t k.reading k.rest.adaptors all)))));
      }

      pub posting_smaller : length u.delivery.queue.chunks < length t.delivery.queue.chunks
      posting_smaller =
          let k = so.comes in
          let x = subst (λ r. Part now 0 polls k.progress t (PostedBy k.progress t) r u mid new b
          c) none
          (next 0 k.progress k.known.fresh (
            some,
            inr (ended_on all_ended k.progress s t k.known.reading k.known.rest.adaptors
                (λ i a at on. refl)),
          )) in
          x.comes.known.fewer

  pub posting_done : t.delivery.queue.chunks ≡ [] → (reads : ℕ) (p : Progress) → IsFresh p
      → AllEnded p s
      → Part now reads polls p s (PostedAll p s) None t old mid a b
  posting_done none reads p fresh all = part_map (λ q k. record {
    reading = k.reading;
    fresh = k.fresh;
    rest = k.rest;
    none = none;
  }) (on.part reads p fresh all)

-- ---- all is delivered

module _ (now polls : ℕ) (s t : State) {old mid : Option History} {a b : ℕ}
    (end : Option (Result Drained AgentFault))
    (posted : (reads : ℕ) (p : Progress) → IsFresh p → AllEnded p s
    → Part now reads polls p s (PostedAll p s) end t old mid a b) where
  pub posted_ends : (result : Result Drained AgentFault) → end ≡ Some result
      → (reads : ℕ) (p : Progress) → IsFresh p → AllEnded p s
      → Part now reads polls p s (DeliveredBy s) (Some result) t old mid a b
  posted_ends result e reads p fresh all =
      let x = subst (λ r. Part now reads polls p s (PostedAll p s) r t old mid a b) e
      (posted reads p fresh all) in
      record { comes = x.comes; talks = x.talks; long = x.long; last = x.last; cause = x.cause }

  module _ (none : end ≡ None) where
    rest : (reads : ℕ) (p : Progress) → IsFresh p → AllEnded p s
        → Part now reads polls p s (PostedAll p s) None t old mid a b
    rest reads p fresh all =
        subst (λ r. Part now reads polls p s (PostedAll p s) r t old mid a b) none
        (posted reads p fresh all)

    so_all : Part now 0 polls all_ended s (PostedAll all_ended s) None t old mid a b
    so_all = rest 0 all_ended ended_fresh (λ i a at on. refl)

    pub posted_ready : t.ready ≡ s.ready
    posted_ready = so_all.comes.ready

    pub posted_none : t.delivery.queue.chunks ≡ []
    posted_none = so_all.comes.known.none

    no_rows : (rows : List Row) (wanted room : ℕ) → wanted ≡ room → 1 ≤ wanted
        → wanted ≤ room - length rows → rows ≡ []
    no_rows [] wanted room is some free = refl
    no_rows (row ∷ rows) wanted room is some free = absurd
        (let z : ⊥ = omega (arith, is, some, free) in z)

    pub posted_polls : (wanted : ℕ) → wanted ≡ t.delivery.table.room → 1 ≤ wanted
        → (u : State) (last : Option (Result Drained AgentFault)) {new : Option History} {c : ℕ}
        → ((now reads : ℕ) (q : Progress) → IsFresh q → WantsRows wanted q t
        → Part now reads polls q t (Freed wanted q t) last u mid new b c)
        → (reads : ℕ) (p : Progress) → IsFresh p → AllEnded p s
        → Part now reads polls p s (DeliveredBy s) last u old new a c
    posted_polls wanted is some u last next reads p fresh all = part_then (rest reads p fresh all)
        (λ q k.
        let ended = ended_on p q s t k.reading k.rest.adaptors all in
        part_map (λ r m. record {
          ended = ended_on q r t u m.reading m.rest.adaptors ended;
          queue = ap (λ (x : Waiting). x.chunks) m.queue ∙ k.none;
          rows = no_rows u.delivery.table.rows wanted u.delivery.table.room (is ∙ sym m.rest.room)
              some m.free;
          adaptors = m.rest.adaptors ∙ k.rest.adaptors;
          sound = m.sound;
          table = m.table;
        })
        (next now reads q k.fresh (inr (k.none, ended))))
