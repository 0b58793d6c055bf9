-- The reads of all adaptors, each up to the end of its whole log.
use Rattle.std.proofs.Common.{◌≡◌, ◌≢◌, inl, inr, ◌⊎◌, ℕ, ◌+◌, ◌≤◌, ◌<◌, true, false, List, ◌++◌, length, Option, Some, Result, Ok, Err, ap, sym, subst, ◌∙◌, refl, arith, append_assoc, true≢false}
use Rattle.std.specs.Prelude.{slice_get}
use Rattle.std.proofs.lemmas.Option.{same_Some}
use Rattle.chk_site.specs.declared.acts.Who.{Who}
use Rattle.chk_site.specs.History.{History, Step, Others, is_stopped}
use Rattle.chk_site.specs.Site.{Adds}
use Rattle.chk_site.specs.Runs.{Leads, Side}
use Rattle.chk_site.proofs.Runs.{adds_as, adds_both, adds_none, adds_then, every_early, every_join, every_late}
use Rattle.chk_chunk.specs.Keys.{Stream}
use Rattle.chk_world.specs.Laws.{agent_of}
use Rattle.chk_world.specs.Together.{IsByOne, Outside as OutsideOf, Together}
use Rattle.chk_sink.specs.States.{IsSameStart, State as Sinks}
use Rattle.chk_agent_adaptor.specs.Adaptors.{Adaptor, is_stepped, stream_at}
use Rattle.chk_agent.specs.States.{State as Agents, is_read_on, process}
use Rattle.chk_agent.proofs.FillingOn.{read_one}
use Rattle.chk_agent.proofs.Soundness.{below_at, in_at}
use Rattle.chk_agent.proofs.TalkingTold.{ran_before}
use Rattle.chk_round.specs.declared.faults.RoundFault.{RoundFault}
use Rattle.chk_round.specs.Done.{EndedAt, ReadTo}
use Rattle.chk_round.specs.Following.{KeepsLogs}
use Rattle.chk_round.proofs.Following.{keeps_all, keeps_then}
use Rattle.chk_round.specs.Joint.{AreIn, BothAt, JointTo}
use Rattle.chk_round.specs.OwnRows.{OwnTo}
use Rattle.chk_round.specs.Reading.{AfterReadOut, ReadOn, ReadsAll, ReadsAlone, ReadsOn}
use Rattle.chk_round.specs.Sending.{NonePast, SendsBelow, SendsOthers}
use Rattle.chk_round.proofs.Joining.{in_on}
use Rattle.chk_round.specs.Scripts as scripts
use Rattle.chk_round.specs.Scripts.{ReadsEach, ReadsOut}
use Rattle.chk_round.specs.Calls.{RoundCalls}
use Rattle.chk_round.proofs.Acts.{acts_none, acts_then}
use Rattle.chk_round.proofs.OwnRows.{own_none, own_then}
use Rattle.chk_round.proofs.Polls.{starts_none, starts_then}
use Rattle.chk_round.proofs.Sent.{IsOther, adds_each}
use Rattle.chk_round.proofs.OwnReads.{EndsWithRead, OnlyReads, ends_more, only_reads_none, out_ends, out_only}
use Rattle.chk_round.proofs.WholeRounds.{read_now, read_on}

-- ---- two parts in turn, of one side

pub both_lead : (S : Side) {A B C : History → Type 0} (a b history : History) → Leads S A B a history
    → Leads S B C b (a ++ history) → Leads S A C (b ++ a) history
both_lead S {C = C} a b history x y =
    let O : History → Step → Type 0 = λ before step. step.own ≡ false → S.others before step in
    let M : History → Step → Type 0 = λ before step. step.own ≡ true → S.own before step in
    record {
      leads = λ s h. subst C (sym (append_assoc b a history))
          (y.leads (every_late O b a history s) (x.leads (every_early O b a history s) h));
      own = every_join M b a history x.own y.own;
    }

-- the adaptors below this number that were read on are read to the ends of their whole logs
pub record ReadsBelow (stamped : List (List ℕ)) (started acting : List Who) (n : ℕ) (s : Sinks) (a : Agents) (t : Sinks)
    (b : Agents) (added history : History) : Type 0 where
  pub leads : Leads (Together stamped started acting) (BothAt stamped s a) (BothAt stamped t b) added history
  pub whole : a.ready ≡ true → Others (OutsideOf stamped started) added history
      → BothAt stamped s a history
      → is_stopped (added ++ history) ≡ false → (i : ℕ) (x y : Adaptor) → i < n → slice_get a.adaptors i ≡ Some x
      → is_stepped x.phase ≡ true → slice_get b.adaptors i ≡ Some y
      → ReadTo (stream_at a.source x) y.read.offset (ReadsAlone i x a) added history

-- the reads of those below a number, from these states to those
pub record ReadingTo (n : ℕ) (s : Sinks) (a : Agents) (t : Sinks) (b : Agents) (old now : Option History) (before after : ℕ) : Type 0 where
  pub told : (stamped : List (List ℕ)) (started acting : List Who) → AreIn started acting s a
      → Adds old now (ReadsBelow stamped started acting n s a t b)
  pub starts : IsSameStart s t
  pub on : ReadsOn a b
  pub lives : KeepsLogs a b
  pub rows : OwnTo s a t b (Ok tt) old now
  pub acts : Adds old now RoundCalls
  pub later : (k : ℕ) (c : Adaptor) → n ≤ k → slice_get b.adaptors k ≡ Some c → slice_get a.adaptors k ≡ Some c
  pub faults : before ≤ after

-- what is left of the reads makes all of them
abbrev pub EachSoFar : ℕ → Agents → ℕ → Agents → Option History → Option History → Type 0
EachSoFar reads a n b old now =
    (r : Result (Unit {0}) RoundFault) (u : Agents) (new : Option History)
    → ReadsEach reads n b r u now new → ReadsEach reads 0 a r u old new

pub record ReadingEach (reads n : ℕ) (s : Sinks) (a : Agents) (t : Sinks) (b : Agents) (old now : Option History)
    (before after : ℕ) : Type 0 where
  pub so : ReadingTo n s a t b old now before after
  pub script : EachSoFar reads a n b old now

pub each_of : {reads n : ℕ} {s t : Sinks} {a b : Agents} {old now : Option History} {before after : ℕ}
    → ReadingTo n s a t b old now before after → EachSoFar reads a n b old now
    → ReadingEach reads n s a t b old now before after
each_of so script = record { so = so; script = script }

pub each_skips : (reads n : ℕ) (a b : Agents) {old now : Option History} → is_read_on (slice_get b.adaptors n) ≡ false
    → EachSoFar reads a n b old now → EachSoFar reads a (n + 1) b old now
each_skips reads n a b off so r u new later = so r u new (scripts.skipped off later)

pub each_next : (reads n : ℕ) (a b c : Agents) {old now next : Option History} → is_read_on (slice_get b.adaptors n) ≡ true
    → ReadsOut n reads 0 b (Ok tt) c now next → EachSoFar reads a n b old now → EachSoFar reads a (n + 1) c old next
each_next reads n a b c on out so r u new later = so r u new (scripts.one on out later)

pub reading_begun : (s : Sinks) (a : Agents) (now : Option History) (m : ℕ) → ReadingTo 0 s a s a now now m m
reading_begun s a now m = record {
  told = λ stamped started acting run. adds_none now (ReadsBelow stamped started acting 0 s a s a) (λ history. record {
    leads = record { leads = λ others h. h; own = tt };
    whole = λ ready others h running i x y below there steps at. absurd
        (let z : ⊥ = omega (arith, below) in z);
  });
  starts = starts_none s;
  on = record {
    source = refl;
    cluster = refl;
    ready = refl;
    addresses = refl;
    size = refl;
    streams = λ i x y there at.
        let same = same_Some y x (sym at ∙ there) in
        (ap (λ (k : Adaptor). k.kind) same, ap (λ (k : Adaptor). k.path) same);
    idle = λ i x y there off at. same_Some y x (sym at ∙ there);
  };
  lives = keeps_all a;
  rows = own_none s a now;
  acts = acts_none now;
  later = λ k c from there. there;
  faults = omega arith;
}

at_or_below : (n i : ℕ) → i < n + 1 → (i < n) ⊎ (i ≡ n)
at_or_below n i below = grind arith

module _ (stamped : List (List ℕ)) (started acting : List Who) where
  abbrev S : Side
  S = Together stamped started acting

  pub early : (b a history : History) → Others (OutsideOf stamped started) (b ++ a) history → Others (OutsideOf stamped started) a history
  early b a history = every_early (λ before step. step.own ≡ false → OutsideOf stamped started before step) b a history

  pub late : (b a history : History) → Others (OutsideOf stamped started) (b ++ a) history
      → Others (OutsideOf stamped started) b (a ++ history)
  late b a history = every_late (λ before step. step.own ≡ false → OutsideOf stamped started before step) b a history

  -- a site that isn't stopped behind own steps wasn't before them
  pub ran : {A B : History → Type 0} (b a history : History) → Leads S A B b (a ++ history)
      → is_stopped ((b ++ a) ++ history) ≡ false → is_stopped (a ++ history) ≡ false
  ran b a history x running =
      ran_before (IsByOne acting) (λ before step by. by.running) b (a ++ history) x.own
      (ap is_stopped (sym (append_assoc b a history)) ∙ running)

module _ (n : ℕ) (s t : Sinks) (a b : Agents) {old mid : Option History} {before after : ℕ}
    (so : ReadingTo n s a t b old mid before after) where
  -- one that isn't read on is left out
  pub reading_skips : is_read_on (slice_get b.adaptors n) ≡ false → ReadingTo (n + 1) s a t b old mid before after
  reading_skips off = record {
    told = λ stamped started acting run. adds_as (ReadsBelow stamped started acting (n + 1) s a t b)
        (so.told stamped started acting run)
        (λ added history x. record {
          leads = x.leads;
          whole = λ ready others h running i c d below there steps at. elim
              (at_or_below n i below) [
                | inl less ↦ x.whole ready others h running i c d less there steps at
                | inr same ↦
                    let here = ap (λ j. slice_get b.adaptors j) (sym same) ∙ at in
                    let was = so.later n d (omega arith) here in
                    let is = same_Some c d (sym there ∙ (ap (λ j. slice_get a.adaptors j) same ∙ was)) in
                    absurd (none_steps d here (ap (λ (k : Adaptor). is_stepped k.phase) (sym is) ∙ steps))
              ];
        });
    starts = so.starts;
    on = so.on;
    lives = so.lives;
    rows = so.rows;
    acts = so.acts;
    later = λ k c from there. so.later k c (omega (arith, from)) there;
    faults = so.faults;
  }
    where
      none_steps : (c : Adaptor) → slice_get b.adaptors n ≡ Some c → is_stepped c.phase ≡ true → ⊥
      none_steps c there steps = true≢false (sym steps ∙ (ap is_read_on (sym there) ∙ off))

  pub reading_joint : JointTo s a t b (Ok tt) old mid
  reading_joint stamped started acting run =
      adds_as (Leads (Together stamped started acting) (BothAt stamped s a) (BothAt stamped t b)) (so.told stamped started acting run)
      (λ added history x. x.leads)

  pub reading_own : (u : Sinks) (c : Agents) (r : Result (Unit {0}) RoundFault) {new : Option History} → OwnTo t b u c r mid new
      → OwnTo s a u c r old new
  reading_own u c r rows = own_then s t u a b c r so.starts.collector so.on.source so.rows reading_joint rows

  module _ (u : Sinks) (c : Agents) {new : Option History} (result : Result (Unit {0}) RoundFault)
      (told : (stamped : List (List ℕ)) (started acting : List Who) → AreIn started acting t b → Adds mid new
      (Leads (Together stamped started acting) (BothAt stamped t b) (AfterReadOut stamped n u c result))) where
    late_told : (stamped : List (List ℕ)) (started acting : List Who) → AreIn started acting s a → Adds mid new
        (Leads (Together stamped started acting) (BothAt stamped t b) (AfterReadOut stamped n u c result))
    late_told stamped started acting run =
        told stamped started acting (in_on s t a b so.starts.collector so.on.source run)

    -- it ends there
    pub reading_ends : (fault : RoundFault) → result ≡ Err fault → (stamped : List (List ℕ)) (started acting : List Who)
        → AreIn started acting s a → Adds old new (ReadsAll stamped started acting s a u c (Err fault))
    reading_ends fault is stamped started acting run =
        adds_then (ReadsAll stamped started acting s a u c (Err fault)) (so.told stamped started acting run)
        (subst (λ r. Adds mid new (Leads (Together stamped started acting) (BothAt stamped t b) (AfterReadOut stamped n u c r)))
        is (late_told stamped started acting run))
        (λ x y history first second. record {
          leads = both_lead (Together stamped started acting) x y history first.leads second;
          whole = λ e. absurd (let z : ⊥ = cc in z);
        })

    module _ (is : result ≡ Ok tt) (one : ReadOn n b c) (sends : SendsOthers n b mid new)
        (lives : KeepsLogs b c) (more : Adds mid new RoundCalls) (rows : OwnTo t b u c (Ok tt) mid new) (reads : ℕ)
        (out : ReadsOut n reads 0 b (Ok tt) c mid new) where
      -- the stream of the adaptor that was read
      stream_is : (x d : Adaptor) → slice_get a.adaptors n ≡ Some x → slice_get c.adaptors n ≡ Some d
          → stream_at c.source d ≡ stream_at a.source x
      stream_is x d there at =
          let m = one.adaptors.here d at in
          let same = same_Some x m.0 (sym there ∙ so.later n m.0 (omega arith) m.1) in
          let source = one.source ∙ so.on.source in
          let kind = m.2 ∙ ap (λ (k : Adaptor). k.kind) (sym same) in
          let path = m.3 ∙ ap (λ (k : Adaptor). k.path) (sym same) in
          λ j. record { source = source j; kind = kind j; name = path j }

      -- that of one before
      same_stream : (i : ℕ) (x d : Adaptor) → slice_get a.adaptors i ≡ Some x → slice_get b.adaptors i ≡ Some d
          → stream_at b.source d ≡ stream_at a.source x
      same_stream i x d there at =
          let m = so.on.streams i x d there at in
          let source = so.on.source in
          λ j. record { source = source j; kind = m.0 j; name = m.1 j }

      -- what is sent of the stream of another one
      abbrev Apart : List (List ℕ) → List Who → IsOther n b → History → History → Type 0
      Apart stamped started k = SendsBelow stamped started (stream_at b.source k.adaptor) k.adaptor.read.offset

      abbrev Told : List (List ℕ) → List Who → List Who → History → History → Type 0
      Told stamped started acting y h =
          Leads (Together stamped started acting) (BothAt stamped t b) (AfterReadOut stamped n u c (Ok tt)) y h
          × ((k : IsOther n b) → Apart stamped started k y h)

      whole_then : (stamped : List (List ℕ)) (started acting : List Who) (x y history : History)
          → ReadsBelow stamped started acting n s a t b x history
          → Leads (Together stamped started acting) (BothAt stamped t b) (AfterReadOut stamped n u c (Ok tt)) y (x ++ history)
          → ((k : IsOther n b) → Apart stamped started k y (x ++ history))
          → (r : Adaptor) → slice_get b.adaptors n ≡ Some r → is_stepped r.phase ≡ true
          → EndsWithRead (process b) r.path y (x ++ history)
          → OnlyReads r.path y (x ++ history)
          → ReadsBelow stamped started acting (n + 1) s a u c (y ++ x) history
      whole_then stamped started acting x y history first second none r is_r steps_r last only = record {
        leads = both_lead (Together stamped started acting) x y history first.leads
            (record { leads = λ others h. (second.leads others h).0; own = second.own });
        whole = λ ready others h running i k d below there steps at.
            let first_others = early stamped started acting y x history others in
            let late_others = late stamped started acting y x history others in
            elim (at_or_below n i below) [
              | inl less ↦
                  let apart : i ≢ n = λ e. let z : ⊥ = omega (arith, less, e) in z in
                  let kept = one.adaptors.others i d apart at in
                  read_on (stream_at a.source k) d.read.offset (ReadsAlone i k a) y x history
                  (first.whole ready first_others h
                  (ran stamped started acting y x history second running) i k d less there steps
                  kept)
                  (subst (λ q. NonePast q d.read.offset y (x ++ history)) (same_stream i k d there kept)
                  (none (record { place = i; adaptor = d; apart = apart; at = kept }) late_others))
                  (λ alone. only_reads_none (stream_at a.source k) r.path
                  (alone n r (λ e. apart (sym e)) (so.later n r (omega arith) is_r) steps_r) y (x ++ history) only)
              | inr same ↦
                  let here = ap (λ j. slice_get c.adaptors j) (sym same) ∙ at in
                  let was = ap (λ j. slice_get a.adaptors j) (sym same) ∙ there in
                  let goes = ap is_stopped (sym (append_assoc y x history)) ∙ running in
                  let after = second.leads late_others (first.leads.leads first_others h) in
                  let stands = (((after.0).1.0.alive goes
                  (one.ready ∙ (so.on.ready ∙ ready))).holds.readers d
                  (in_at c.adaptors n d here)).read in
                  read_now (stream_at a.source k) d.read.offset (ReadsAlone i k a) (y ++ x) history
                  (subst (λ (q : Stream). EndsWithRead (agent_of q) q.name (y ++ x) history)
                  (same_stream n k r was is_r) (ends_more y x history last))
                  (subst (EndedAt (stream_at a.source k) d.read.offset)
                  (sym (append_assoc y x history))
                  (subst (λ q. EndedAt q d.read.offset (y ++ (x ++ history)))
                  (stream_is k d was here)
                  (after.1 goes d here, (stands.first, stands.founded))))
            ];
      }

      where_is : (i : ℕ) → (i ≡ n) ⊎ (i ≢ n)
      where_is i = grind arith

      streams_still : (i : ℕ) (x y : Adaptor) → slice_get a.adaptors i ≡ Some x → slice_get c.adaptors i ≡ Some y
          → (y.kind ≡ x.kind) × (y.path ≡ x.path)
      streams_still i x y there at = elim (where_is i) [
        | inl same ↦
            let m = one.adaptors.here y (ap (λ j. slice_get c.adaptors j) (sym same) ∙ at) in
            let was = so.later n m.0 (omega arith) m.1 in
            let is = same_Some m.0 x (sym was ∙ (ap (λ j. slice_get a.adaptors j) (sym same) ∙ there)) in
            (m.2 ∙ ap (λ (k : Adaptor). k.kind) is, m.3 ∙ ap (λ (k : Adaptor). k.path) is)
        | inr other ↦ so.on.streams i x y there (one.adaptors.others i y other at)
      ]

      idle_still : is_read_on (slice_get b.adaptors n) ≡ true → (i : ℕ) (x y : Adaptor) → slice_get a.adaptors i ≡ Some x
          → is_stepped x.phase ≡ false → slice_get c.adaptors i ≡ Some y → y ≡ x
      idle_still on i x y there off at = elim (where_is i) [
        | inl same ↦
            let m = one.adaptors.here y (ap (λ j. slice_get c.adaptors j) (sym same) ∙ at) in
            let was = so.later n m.0 (omega arith) m.1 in
            let is = same_Some m.0 x (sym was ∙ (ap (λ j. slice_get a.adaptors j) (sym same) ∙ there)) in
            absurd (true≢false (sym on ∙ (ap is_read_on m.1 ∙ (ap (λ (k : Adaptor). is_stepped k.phase) is ∙ off))))
        | inr other ↦ so.on.idle i x y there off (one.adaptors.others i y other at)
      ]

      pub reading_next : is_read_on (slice_get b.adaptors n) ≡ true → IsSameStart t u → (late : ℕ) → after ≤ late → ReadingTo (n + 1) s a u c old new before late
      reading_next on starts late_count le =
          let first = so.faults in
          let r = read_one (slice_get b.adaptors n) on in
          record {
            told = λ stamped started acting run. adds_then (ReadsBelow stamped started acting (n + 1) s a u c)
                (so.told stamped started acting run)
                (adds_both (λ y h. Told stamped started acting y h
                × (EndsWithRead (process b) r.0.path y h × OnlyReads r.0.path y h))
                (adds_each (Apart stamped started)
                (subst (λ r. Adds mid new (Leads (Together stamped started acting) (BothAt stamped t b)
                (AfterReadOut stamped n u c r))) is (late_told stamped started acting run))
                (λ k. sends stamped started (in_on s t a b so.starts.collector so.on.source run).agent_started
                k.place k.adaptor k.apart k.at))
                (adds_both (λ y h. EndsWithRead (process b) r.0.path y h × OnlyReads r.0.path y h)
                (out_ends refl out r.0 r.1) (out_only refl out r.0 r.1) (λ y h p q. (p, q)))
                (λ y h p q. (p, q)))
                (λ x y history first second. whole_then stamped started acting x y history first second.0.0 second.0.1
                r.0 r.1 r.2 second.1.0 second.1.1);
            starts = starts_then s t u so.starts starts;
            on = record {
              source = one.source ∙ so.on.source;
              cluster = one.cluster ∙ so.on.cluster;
              ready = one.ready ∙ so.on.ready;
              addresses = one.addresses ∙ so.on.addresses;
              size = one.adaptors.size ∙ so.on.size;
              streams = streams_still;
              idle = idle_still on;
            };
            lives = keeps_then a b c so.lives lives;
            rows = reading_own u c (Ok tt) rows;
            acts = acts_then so.acts more;
            later = λ k d from there. so.later k d (omega (arith, from))
                (one.adaptors.others k d (λ e. let z : ⊥ = omega (arith, from, e) in z) there);
            faults = omega (arith, first, le);
          }

  -- all are read
  pub all_read : a.ready ≡ true → (count : ℕ) → count ≡ length a.adaptors → count ≤ n
      → (stamped : List (List ℕ)) (started acting : List Who)
      → AreIn started acting s a → Adds old mid (ReadsAll stamped started acting s a t b (Ok tt))
  all_read ready count size all stamped started acting run =
      adds_as (ReadsAll stamped started acting s a t b (Ok tt)) (so.told stamped started acting run)
      (λ added history x. record {
        leads = x.leads;
        whole = λ e others h running i c d there steps at.
            let below = below_at b.adaptors i d at in
            let many = so.on.size in
            x.whole ready others h running i c d (omega (arith, below, many, size, all)) there steps
            at;
      })
