-- The reads of all adaptors, each up to the end of its whole log.
use Rattle.std.proofs.Common.{◌≡◌, ◌≢◌, inl, inr, ◌⊎◌, ℕ, ◌+◌, ◌≤◌, ◌<◌, true, false, List, [], ◌++◌, length, Option, Some, None, Result, ap, sym, subst, ◌∙◌, refl, arith, append_assoc, true≢false}
use Rattle.std.specs.Prelude.{slice_get}
use Rattle.std.proofs.lemmas.Option.{same_Some}
use Rattle.chk_site.specs.declared.acts.Role.TheVariants.{Agent}
use Rattle.chk_site.specs.History.{History, Step, Others, is_stopped}
use Rattle.chk_site.specs.Site.{Adds}
use Rattle.chk_site.specs.Runs.{Leads}
use Rattle.chk_site.proofs.Runs.{adds_as, adds_none, adds_then, every_early, every_join, every_late}
use Rattle.chk_world.specs.Streams.{whole_end}
use Rattle.chk_world.specs.Places.{Foreign, IsMadeBy, Talking}
use Rattle.chk_agent_adaptor.specs.Adaptors.{Adaptor, is_stepped, stream_at}
use Rattle.chk_agent.specs.declared.answers.AgentFault.{AgentFault}
use Rattle.chk_agent.specs.States.{State, is_read_on, process}
use Rattle.chk_agent.specs.Facts.{Matches}
use Rattle.chk_agent.proofs.Soundness.{below_at}
use Rattle.chk_agent.proofs.TalkingTold.{ran_before}
use Rattle.chk_agent_drain.specs.declared.answers.Drained.{Drained}
use Rattle.chk_agent_drain.specs.Drains.{Progress, begun}
use Rattle.chk_agent_drain.specs.Parts.{AdaptorsBut, AllRead, IsFresh, IsUnread, Part, ReadOut, Talks, WasNotRead}
use Rattle.chk_agent_drain.specs.Whole.{AfterReads, EndsReading, Meanwhile, ReadsTo}
use Rattle.chk_agent_drain.proofs.Joining.{part_map, part_none, part_then}
use Rattle.chk_agent_drain.proofs.PostingRest.{begun_fresh}
use Rattle.chk_agent_drain.proofs.ReadingOn.{begun_unread}

-- ---- moments

-- what held at a moment before further steps held at one before them
pub meanwhile_early : (P : History → Type 0) (b a history : History) → Meanwhile P a history
    → Meanwhile P (b ++ a) history
meanwhile_early P b a history m = record {
  later = b ++ m.later;
  earlier = m.earlier;
  split = ap (λ x. b ++ x) m.split ∙ sym (append_assoc b m.later m.earlier);
  holds = m.holds;
}

pub meanwhile_now : (P : History → Type 0) (added history : History) → P (added ++ history)
    → Meanwhile P added history
meanwhile_now P added history h = record { later = []; earlier = added; split = refl; holds = h }

-- two parts in turn, of the same agent
pub both_lead : (stamped : List (List ℕ)) (source : List ℕ) {A B C : History → Type 0}
    (a b history : History)
    → Leads (Talking stamped (record { role = Agent; name = source })) A B a history
    → Leads (Talking stamped (record { role = Agent; name = source })) B C b (a ++ history)
    → Leads (Talking stamped (record { role = Agent; name = source })) A C (b ++ a) history
both_lead stamped source {C = C} a b history x y =
    let O : History → Step → Type 0 =
    λ before step. step.own ≡ false
    → Foreign stamped (record { role = Agent; name = source }) before step in
    let M : History → Step → Type 0 =
    λ before step. step.own ≡ true → IsMadeBy (record { role = Agent; name = source }) before step
    in
    record {
      leads = λ s h. subst C (sym (append_assoc b a history))
          (y.leads (every_late O b a history s) (x.leads (every_early O b a history s) h));
      own = every_join M b a history x.own y.own;
    }

-- the steps of others, before and behind
pub others_early : (stamped : List (List ℕ)) (source : List ℕ) (b a history : History)
    → Others (Foreign stamped (record { role = Agent; name = source })) (b ++ a) history
    → Others (Foreign stamped (record { role = Agent; name = source })) a history
others_early stamped source b a history =
    every_early (λ before step. step.own ≡ false
    → Foreign stamped (record { role = Agent; name = source }) before step) b a history

pub others_late : (stamped : List (List ℕ)) (source : List ℕ) (b a history : History)
    → Others (Foreign stamped (record { role = Agent; name = source })) (b ++ a) history
    → Others (Foreign stamped (record { role = Agent; name = source })) b (a ++ history)
others_late stamped source b a history =
    every_late (λ before step. step.own ≡ false
    → Foreign stamped (record { role = Agent; name = source }) before step) b a history

-- a site that isn't stopped behind own steps wasn't before them
pub ran : (stamped : List (List ℕ)) (source : List ℕ) {A B : History → Type 0}
    (b a history : History)
    → Leads (Talking stamped (record { role = Agent; name = source })) A B b (a ++ history)
    → is_stopped ((b ++ a) ++ history) ≡ false → is_stopped (a ++ history) ≡ false
ran stamped source b a history x running =
    ran_before (IsMadeBy (record { role = Agent; name = source })) (λ before step by. by.running) b
    (a ++ history) x.own
    (ap is_stopped (sym (append_assoc b a history)) ∙ running)

-- ---- the reads so far

-- behind the reads of those below a number
pub record ReadBelow (n : ℕ) (q : Progress) (t : State) : Type 0 where
  pub fresh : IsFresh q
  pub done : (i : ℕ) (c : Adaptor) → i < n → slice_get t.adaptors i ≡ Some c
      → is_stepped c.phase ≡ true → q.ended i ≡ true
  pub rest : (i : ℕ) → n ≤ i → WasNotRead i q

-- the others are the same, and each is of the same stream
pub record AdaptorsFrom (n : ℕ) (s t : State) : Type 0 where
  pub size : length t.adaptors ≡ length s.adaptors
  pub later : (k : ℕ) (c : Adaptor) → n ≤ k → slice_get t.adaptors k ≡ Some c
      → slice_get s.adaptors k ≡ Some c

pub record ReadingTo (now reads polls n : ℕ) (s t : State) (old new : Option History)
    (before after : ℕ) : Type 0 where
  pub part : (p : Progress) → IsFresh p → IsUnread p
      → Part now reads polls p s (ReadBelow n) None t old new before after
  pub adaptors : AdaptorsFrom n s t
  pub told : (stamped : List (List ℕ)) → Adds old new (ReadsTo stamped n s t)

pub reading_begun : (now reads polls : ℕ) (s : State) (at : Option History) (a : ℕ)
    → ReadingTo now reads polls 0 s s at at a a
reading_begun now reads polls s at a = record {
  part = λ p fresh unread. part_none now reads polls p s (ReadBelow 0) at a (record {
    fresh = fresh;
    done = λ i c below there on. absurd (let z : ⊥ = omega (arith, below) in z);
    rest = λ i from. unread i;
  });
  adaptors = record { size = refl; later = λ k c from there. there };
  told = λ stamped. adds_none at (ReadsTo stamped 0 s s) (λ history. record {
    leads = record { leads = λ others h. h; own = tt };
    whole = λ others h running i x y below. absurd (let z : ⊥ = omega (arith, below) in z);
  });
}

begun_all : IsUnread begun
begun_all i = begun_unread i

module _ (now reads polls n : ℕ) (s t : State) {old mid : Option History} {a b : ℕ}
    (on : ReadingTo now reads polls n s t old mid a b) where
  so : Part now reads polls begun s (ReadBelow n) None t old mid a b
  so = on.part begun begun_fresh begun_all

  pub reading_ready : t.ready ≡ s.ready
  reading_ready = so.comes.ready

  pub reading_size : length t.adaptors ≡ length s.adaptors
  reading_size = on.adaptors.size

  -- one that isn't read on is left out
  pub reading_skips : is_read_on (slice_get t.adaptors n) ≡ false
      → ReadingTo now reads polls (n + 1) s t old mid a b
  reading_skips off = record {
    part = λ p fresh unread. part_map (λ q k. record {
      fresh = k.fresh;
      done = λ i c below there steps. elim (at_or_below i below) [
        | inl less ↦ k.done i c less there steps
        | inr same ↦ absurd (none_steps c (ap (λ j. slice_get t.adaptors j) (sym same) ∙ there)
            steps)
      ];
      rest = λ i from. k.rest i (omega (arith, from));
    }) (on.part p fresh unread);
    adaptors = record {
      size = on.adaptors.size;
      later = λ k c from there. on.adaptors.later k c (omega (arith, from)) there;
    };
    told = λ stamped. adds_as (ReadsTo stamped (n + 1) s t) (on.told stamped)
        (λ added history x. record {
          leads = x.leads;
          whole = λ others h running i c d below there steps at. elim (at_or_below i below) [
            | inl less ↦ x.whole others h running i c d less there steps at
            | inr same ↦
                let here = ap (λ j. slice_get t.adaptors j) (sym same) ∙ at in
                let before = on.adaptors.later n d (omega arith) here in
                let is = same_Some c d (sym there ∙ (ap (λ j. slice_get s.adaptors j) same ∙ before)) in
                absurd (none_steps d here (ap (λ (k : Adaptor). is_stepped k.phase) (sym is) ∙ steps))
          ];
        });
  }
    where
      at_or_below : (i : ℕ) → i < n + 1 → (i < n) ⊎ (i ≡ n)
      at_or_below i below = grind arith

      none_steps : (c : Adaptor) → slice_get t.adaptors n ≡ Some c → is_stepped c.phase ≡ true → ⊥
      none_steps c there steps = true≢false (sym steps ∙ (ap is_read_on (sym there) ∙ off))

  module _ (u : State) {new : Option History} {c : ℕ} (end : Option (Result Drained AgentFault))
      (next : (p : Progress) → IsFresh p → WasNotRead n p
      → Part now reads polls p t (ReadOut n p t) end u mid new b c)
      (told : (stamped : List (List ℕ))
      → Adds mid new (Leads (Talking stamped (process t)) (Matches stamped t)
      (AfterReads stamped n u end))) where
    -- it ends there
    pub reading_ends : (result : Result Drained AgentFault) → end ≡ Some result → (p : Progress)
        → IsFresh p → IsUnread p
        → Part now reads polls p s (AllRead s) (Some result) u old new a c
    reading_ends result e p fresh unread = part_then (on.part p fresh unread) (λ q k.
        let x = subst (λ r. Part now reads polls q t (ReadOut n q t) r u mid new b c) e
        (next q k.fresh (k.rest n (omega arith))) in
        record { comes = x.comes; talks = x.talks; long = x.long; last = x.last; cause = x.cause })

    module _ (none : end ≡ None) where
      by : (p : Progress) → IsFresh p → WasNotRead n p
          → Part now reads polls p t (ReadOut n p t) None u mid new b c
      by p fresh unread =
          subst (λ r. Part now reads polls p t (ReadOut n p t) r u mid new b c) none
          (next p fresh unread)

      but : AdaptorsBut n t u
      but = (by begun begun_fresh (begun_unread n)).comes.known.adaptors

      split : (i : ℕ) → i < n + 1 → (i < n) ⊎ (i ≡ n)
      split i below = grind arith

      -- the stream of the adaptor that was read
      stream_is : (x d : Adaptor) → slice_get s.adaptors n ≡ Some x
          → slice_get u.adaptors n ≡ Some d → u.source ≡ s.source
          → stream_at u.source d ≡ stream_at s.source x
      stream_is x d there at source =
          let m = but.here d at in
          let is = same_Some x m.0 (sym there ∙ on.adaptors.later n m.0 (omega arith) m.1) in
          let kind = m.2 ∙ ap (λ (k : Adaptor). k.kind) (sym is) in
          let path = m.3 ∙ ap (λ (k : Adaptor). k.path) (sym is) in
          λ j. record { source = source j; kind = kind j; name = path j }

      whole_then : (stamped : List (List ℕ)) (x y history : History)
          → ReadsTo stamped n s t x history
          → Leads (Talking stamped (process s)) (Matches stamped t) (AfterReads stamped n u None) y
          (x ++ history)
          → ReadsTo stamped (n + 1) s u (y ++ x) history
      whole_then stamped x y history before behind = record {
        leads = both_lead stamped s.source x y history before.leads (record {
          leads = λ others h. (behind.leads others h).matches;
          own = behind.own;
        });
        whole = λ others h running i c d below there steps at.
            let early = others_early stamped s.source y x history others in
            let late = others_late stamped s.source y x history others in
            elim (split i below) [
              | inl less ↦
                  let kept = but.others i d (λ e. let z : ⊥ = omega (arith, less, e) in z) at in
                  meanwhile_early (λ h. whole_end h (stream_at s.source c) ≡ d.read.offset) y x
                  history
                  (before.whole early h (ran stamped s.source y x history behind running) i c d
                  less there steps kept)
              | inr same ↦
                  let here = ap (λ j. slice_get u.adaptors j) (sym same) ∙ at in
                  let first = ap (λ j. slice_get s.adaptors j) (sym same) ∙ there in
                  let is = (behind.leads late (before.leads.leads early h)).whole refl
                  (ap is_stopped (sym (append_assoc y x history)) ∙ running) d here in
                  let source = (by begun begun_fresh (begun_unread n)).comes.source ∙
                  so.comes.source in
                  meanwhile_now (λ h. whole_end h (stream_at s.source c) ≡ d.read.offset) (y ++ x)
                  history
                  (ap (λ k. whole_end k (stream_at s.source c)) (append_assoc y x history)
                  ∙ (ap (whole_end (y ++ (x ++ history))) (sym (stream_is c d first here source)) ∙
                  is))
            ];
      }

      pub reading_next : ReadingTo now reads polls (n + 1) s u old new a c
      reading_next = record {
        part = λ p fresh unread. part_then (on.part p fresh unread) (λ q k.
            part_map (λ r m. record {
              fresh = m.fresh;
              done = λ i c below there steps. elim (split i below) [
                | inl less ↦
                    let other : i ≢ n = λ e. let z : ⊥ = omega (arith, less, e) in z in
                    m.others.ended i other ∙ k.done i c less (m.adaptors.others i c other there)
                    steps
                | inr same ↦ ap r.ended same ∙ m.ended
              ];
              rest = λ i from.
                  let other : i ≢ n = λ e. let z : ⊥ = omega (arith, from, e) in z in
                  let unread = k.rest i (omega (arith, from)) in
                  record {
                    reads = m.others.reads i other ∙ unread.reads;
                    ended = m.others.ended i other ∙ unread.ended;
                  };
            }) (by q k.fresh (k.rest n (omega arith))));
        adaptors = record {
          size = but.size ∙ on.adaptors.size;
          later = λ k c from there. on.adaptors.later k c (omega (arith, from))
              (but.others k c (λ e. let z : ⊥ = omega (arith, from, e) in z) there);
        };
        told = λ stamped. adds_then (ReadsTo stamped (n + 1) s u) (on.told stamped)
            (subst (λ r. Adds mid new (Leads (Talking stamped (process s)) (Matches stamped t)
            (AfterReads stamped n u r))) none
            (subst (λ m. Adds mid new (Leads (Talking stamped (record { role = Agent; name = m }))
            (Matches stamped t)
            (AfterReads stamped n u end))) so.comes.source (told stamped)))
            (λ x y history before behind. whole_then stamped x y history before behind);
      }

  -- all are read
  module _ (count : ℕ) (size : count ≡ length s.adaptors) (all : count ≤ n) where
    pub all_part : (p : Progress) → IsFresh p → IsUnread p
        → Part now reads polls p s (AllRead s) None t old mid a b
    all_part p fresh unread = part_map (λ q k. record {
      fresh = k.fresh;
      ended = λ i c there steps.
          let below = below_at t.adaptors i c there in
          let many = on.adaptors.size in
          k.done i c (omega (arith, below, many, size, all)) there steps;
      size = on.adaptors.size;
    }) (on.part p fresh unread)

    pub all_told : (stamped : List (List ℕ)) → Adds old mid (EndsReading stamped s None t)
    all_told stamped = adds_as (EndsReading stamped s None t) (on.told stamped)
        (λ added history x. record {
          leads = x.leads;
          whole = λ e others h running i c d there steps at.
              let below = below_at t.adaptors i d at in
              let many = on.adaptors.size in
              x.whole others h running i c d (omega (arith, below, many, size, all)) there steps at;
        })

-- where the drain ends, no end was come to
pub reads_end : (s t : State) (result : Result Drained AgentFault) {old new : Option History}
    → Talks s t old new
    → (stamped : List (List ℕ)) → Adds old new (EndsReading stamped s (Some result) t)
reads_end s t result talks stamped = adds_as (EndsReading stamped s (Some result) t)
    (talks stamped) (λ added history x. record {
      leads = x;
      whole = λ e. absurd (let z : ⊥ = cc in z);
    })
