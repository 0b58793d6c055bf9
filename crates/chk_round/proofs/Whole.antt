-- The parts of a round in turn.
use Rattle.std.proofs.Common.{◌≡◌, ◌⊎◌, inl, inr, ℕ, Bool, true, false, List, [], ◌∷◌, ◌++◌, Option, Some, None, Result, Ok, Err, ap, sym, subst, ◌∙◌, refl, arith, append_assoc, true≢false}
use Rattle.std.specs.Prelude.{Contains, IsFalse, IsTrue, codes, is_some, ◌&&◌, slice_get}
use Rattle.chk_bytes.specs.Stems.{Stem, is_stem, same_stem, stem_text}
use Rattle.chk_site.specs.declared.acts.Role.TheVariants.{Agent, Collector}
use Rattle.chk_site.specs.declared.acts.Who.{Who}
use Rattle.chk_site.specs.History.{History, Others, files_after, is_stopped, since_start}
use Rattle.chk_site.specs.Site.{Adds}
use Rattle.chk_site.specs.Runs.{Leads, Owns}
use Rattle.chk_site.proofs.Leads.{leads_then}
use Rattle.chk_site.proofs.Runs.{adds_as, adds_both, adds_then}
use Rattle.chk_chunk.specs.Keys.{Stream}
use Rattle.chk_world.specs.Agents.{AllOfCluster, stream_of}
use Rattle.chk_world.specs.ArchiveRuns.{IsArchiveRun, Listing, is_unclosed, last_listing}
use Rattle.chk_world.specs.Checkpoints.{Line, checkpoint_lines}
use Rattle.chk_world.specs.Committed.{IsAbsent}
use Rattle.chk_world.specs.DoneSinks.{IsGone}
use Rattle.chk_world.specs.Knowing.{agent}
use Rattle.chk_world.specs.Laws.{agent_of}
use Rattle.chk_world.specs.NamedEnds.{gave_up}
use Rattle.chk_world.specs.Names.{SinkFile, file}
use Rattle.chk_world.specs.Rules.{Legal}
use Rattle.chk_world.specs.Sight.{job}
use Rattle.chk_world.specs.Together.{IsByOne, Outside as OutsideOf, Together}
use Rattle.chk_sink.specs.Held.{Matches as SinksMatch}
use Rattle.chk_sink.specs.States.{IsSameStart, State as Sinks, Writing, last_stem}
use Rattle.chk_collector.specs.Finishing.{finished}
use Rattle.chk_agent_adaptor.specs.Adaptors.{Adaptor, is_past, is_stepped, stream_at}
use Rattle.chk_agent.specs.Fits.{IsSound}
use Rattle.chk_agent.specs.States.{State as Agents, lines_of}
use Rattle.chk_agent.proofs.Soundness.{below_at, line_in}
use Rattle.chk_exchange.specs.OwnRows.{RowsOwn}
use Rattle.chk_archive.specs.declared.report.Report.{Report}
use Rattle.chk_archive.specs.Archived.{GivenOnce}
use Rattle.chk_archive.specs.Reporting.{report_view}
use Rattle.chk_round.specs.declared.faults.RoundFault.{RoundFault}
use Rattle.chk_round.specs.declared.faults.RoundFault.TheVariants.{Outside, NoMemory, Damaged, Length, Growing, Shrank, Spent, Refused, Checkpoint}
use Rattle.chk_round.specs.Closing.{Closed, HasRun}
use Rattle.chk_round.specs.Delivering.{Delivered}
use Rattle.chk_round.specs.Calls.{RestCalls}
use Rattle.chk_round.specs.Done.{ArchivedTo, AtRead, EndedAt, NoneRead, RanWhole, ReadTo, WholeAtLast}
use Rattle.chk_round.specs.Following.{HasPathAlone, KeepsLogs}
use Rattle.chk_round.specs.Joint.{AreIn, BothAt, GoesOn, JointTo}
use Rattle.chk_round.specs.Reading.{ReadsAll, ReadsAlone, ReadsOn}
use Rattle.chk_round.specs.Rounds.{AfterRun, AllSteady, RoundDone, RunsTo}
use Rattle.chk_round.specs.Scripts.{ReadsNoMore, WereRead}
use Rattle.chk_round.specs.Sending.{NonePast, QueueBelow, SendsBelow, SendsNone, SendsRest}
use Rattle.chk_collector.specs.Passing.{HasPassed}
use Rattle.chk_round.specs.LastPolls.{LastPoll, MayBeLost}
use Rattle.chk_round.specs.OwnRows.{FromStart, NoneGone, OwnBehind, OwnTo}
use Rattle.chk_round.specs.Spent.{LastSink, sinks, segments}
use Rattle.chk_round.specs.Theirs.{ListsTheirs, NoneOf, TheirsOnly}
use Rattle.chk_round.proofs.Given.{GivenNone, given_join, pair, pair_given}
use Rattle.chk_round.proofs.Gone.{none_gone_on}
use Rattle.chk_round.proofs.Joining.{in_on}
use Rattle.chk_round.proofs.Logs.{both_lead, early, late, ran}
use Rattle.chk_round.proofs.Acts.{rest_then}
use Rattle.chk_round.proofs.Alone.{alone_before}
use Rattle.chk_round.proofs.OwnReads.{at_read_early, rest_reads_none}
use Rattle.chk_round.proofs.QueueBelow.{queue_below}
use Rattle.chk_round.proofs.Sent.{Known, Waits, adds_each}
use Rattle.chk_agent_drain.proofs.DrainingAll.{some_at}
use Rattle.chk_round.proofs.Theirs.{found_in}
use Rattle.chk_round.proofs.WholeRounds.{adaptor_archive, adaptor_whole, done_ran, job_ran_whole, none_read_join, read_alone, read_on}
use Rattle.chk_agent.proofs.Alike.{not_past}

-- ---- the ends

-- of a sink that isn't gone it is said that it was given up, and that one of the start was full
given_up : (stamped : List (List ℕ)) (c : List ℕ) (s : Sinks) (stem : Stem) (got want : ℕ) (h : History)
    → MayBeLost c s.born stem got want h → stem.collector ≡ c → stem.born ≡ s.born → s.collector ≡ c → NoneGone s h
    → LastPoll c stem got want h
given_up stamped c s stem got want h m own born same none =
    record {
      poll = m.poll;
      own = own;
      start = born ∙ sym m.start;
      lost = lost;
      passed = subst (λ b. HasPassed c b h) (sym born) (m.passed own born lost);
    }
  where
    go : IsTrue (gave_up stem h) ⊎ IsGone h stem → (b : Bool) → gave_up stem h ≡ b → IsTrue b
    go lost true e = refl
    go (inl given) false e = absurd (true≢false (sym given ∙ e))
    go (inr gone) false e = absurd (none stem m.poll.known (own ∙ sym same) born e gone)

    lost : IsTrue (gave_up stem h)
    lost = go (m.lost own) (gave_up stem h) refl

goes_run : (stamped : List (List ℕ)) (s t : Sinks) (a b : Agents) → IsSameStart s t → (fault : RoundFault) (h : History)
    → GoesOn stamped t a (Err fault) h → OwnBehind t a (Err fault)
    → (Legal stamped h → is_stopped h ≡ false → NoneGone s h) → AfterRun stamped s.collector b (Err fault) h
goes_run stamped s t a b same (Outside call) h x own none = x
goes_run stamped s t a b same NoMemory h x own none = x
goes_run stamped s t a b same (Damaged name at) h x own none = x
goes_run stamped s t a b same (Checkpoint at) h x own none = x
goes_run stamped s t a b same (Length stem got want) h x own none = record {
  legal = x.legal;
  alive = λ running.
      given_up stamped s.collector s stem got want h
      (subst (λ k. MayBeLost k s.born stem got want h) same.collector
      (subst (λ n. MayBeLost t.collector n stem got want h) same.born (x.alive running)))
      (own.collector ∙ same.collector) (own.born ∙ same.born) refl (none x.legal running);
}
goes_run stamped s t a b same (Growing path reads) h x own none = x
goes_run stamped s t a b same (Shrank path had size) h x own none = x
goes_run stamped s t a b same (Spent number) h x own none = record {
  legal = x.legal;
  alive = λ running. sinks (subst (λ k. LastSink k number h) same.collector (x.alive running));
}
goes_run stamped s t a b same (Refused code) h x own none = x

closed_run : (stamped : List (List ℕ)) (c : List ℕ) (s : Sinks) (b : Agents) (r : Result Report RoundFault) (h : History)
    → Closed stamped s b r h → AfterRun stamped c b r h
closed_run stamped c s b (Ok r) h x = (x.1.1, x.0)
closed_run stamped c s b (Err (Outside call)) h x = x
closed_run stamped c s b (Err NoMemory) h x = x
closed_run stamped c s b (Err (Damaged name at)) h x = x
closed_run stamped c s b (Err (Checkpoint at)) h x = x
closed_run stamped c s b (Err (Length stem got want)) h x = absurd x
closed_run stamped c s b (Err (Growing path reads)) h x = x
closed_run stamped c s b (Err (Shrank path had size)) h x = x
closed_run stamped c s b (Err (Spent number)) h x = record { legal = x.legal; alive = λ running. segments (x.alive running) }
closed_run stamped c s b (Err (Refused code)) h x = x

-- the reads as a part of a round
pub reads_joint : (s : Sinks) (a : Agents) (t : Sinks) (b : Agents) (r : Result (Unit {0}) RoundFault) {old new : Option History}
    → ((stamped : List (List ℕ)) (started acting : List Who) → AreIn started acting s a
    → Adds old new (ReadsAll stamped started acting s a t b r)) → JointTo s a t b r old new
reads_joint s a t b r told stamped started acting run =
    adds_as (Leads (Together stamped started acting) (BothAt stamped s a) (GoesOn stamped t b r)) (told stamped started acting run)
    (λ x h read. read.leads)

-- ---- the parts in turn

-- what is known of a live line, behind the reads and the delivery
record LineRead (source : List ℕ) (b : Agents) (l : Line) (added history : History) : Type 0 where
  place : ℕ
  adaptor : Adaptor
  at : slice_get b.adaptors place ≡ Some adaptor
  lives : is_past adaptor.phase ≡ false
  stream : stream_at b.source adaptor ≡ stream_of source l
  offset : adaptor.read.offset ≡ l.offset
  read : ReadTo (stream_at b.source adaptor) adaptor.read.offset (HasPathAlone l (lines_of b)) added
      history

-- where that line's stream was read to in the part before
record LineBefore (source : List ℕ) (a1 b : Agents) (l : Line) (added history : History) : Type 0 where
  line : LineRead source b l added history
  low : QueueBelow (stream_at b.source line.adaptor) line.adaptor.read.offset a1

-- an adaptor that isn't past behind the reads was to be read
was_stepped : (a a1 : Agents) → AllSteady a → ReadsOn a a1 → (i : ℕ) (k y : Adaptor)
    → slice_get a.adaptors i ≡ Some k → slice_get a1.adaptors i ≡ Some y → is_past y.phase ≡ false
    → is_stepped k.phase ≡ true
was_stepped a a1 steady on i k y there at lives = go (is_stepped k.phase) refl
  where
    go : (p : Bool) → is_stepped k.phase ≡ p → is_stepped k.phase ≡ true
    go true is = is
    go false is =
        let same = on.idle i k y there is at in
        ap is_stepped (steady i k there (ap (λ (m : Adaptor). is_past m.phase) (sym same) ∙ lives))

-- and behind the delivery
pub were_read : (a a1 b : Agents) → AllSteady a → ReadsOn a a1 → Delivered a1 b → WereRead a b
were_read a a1 b steady on delivered i y at lives =
    let far = delivered.adaptors i y at in
    let below = below_at a1.adaptors i far.0 far.1 in
    let size = on.size in
    let x = some_at a.adaptors i (omega (arith, below, size)) in
    let stream = on.streams i x.0 far.0 x.1 far.1 in (
      x.0,
      x.1,
      was_stepped a a1 steady on i x.0 far.0 x.1 far.1 (far.2.lives lives),
      sym (far.2.kind ∙ stream.0),
      sym (far.2.path ∙ stream.1),
    )

-- a part of collector and agent alone, and then the close: no log is read, and the job was given the
-- names of the sinks once
pub reads_no_more : (s : Sinks) (a : Agents) (t : Sinks) (b : Agents) {old mid new : Option History}
    → JointTo s a t b (Ok tt) old mid → Adds old mid RestCalls → Adds mid new RestCalls
    → Adds mid new GivenOnce → Adds old new ReadsNoMore
reads_no_more s a t b joint first second once =
    adds_both ReadsNoMore (rest_then first second)
    (adds_then GivenOnce
    (joint [] (pair s.collector a.source) (pair s.collector a.source) (record {
      collector_started = (0, omega arith, refl);
      collector_acts = (0, omega arith, refl);
      agent_started = (1, omega arith, refl);
      agent_acts = (1, omega arith, refl);
    }))
    once
    (λ x y h led last.
    let all = given_join y x in
    let none = pair_given s.collector a.source x h led.own in
    omega (arith, all, none, last)))
    (λ x h p q. record { calls = p; once = q })

module _ (stamped : List (List ℕ)) (started acting : List Who) (s : Sinks) (a : Agents) where
  -- from more than both know
  from_start : {C : History → Type 0} {added history : History}
      → Leads (Together stamped started acting) (BothAt stamped s a) C added history
      → Leads (Together stamped started acting) (FromStart stamped s a) C added history
  from_start led = record { leads = λ others h. led.leads others h.0; own = led.own }

  -- only collector and agent act up to there
  in_pair : AreIn started acting s a → AreIn started (pair s.collector a.source) s a
  in_pair run = record {
    collector_started = run.collector_started;
    collector_acts = (0, omega arith, refl);
    agent_started = run.agent_started;
    agent_acts = (1, omega arith, refl);
  }

  -- it ends before the job acts
  pub joint_ends : AreIn started acting s a → Contains started job → (t : Sinks) (b : Agents) → IsSameStart s t → (fault : RoundFault)
      {old new : Option History} → JointTo s a t b (Err fault) old new → OwnTo s a t b (Err fault) old new
      → Adds old new (RunsTo stamped started acting s a b (Err fault))
  joint_ends run j_in t b same fault {old = old} {new = new} joint rows =
      adds_both (RunsTo stamped started acting s a b (Err fault)) (joint stamped started acting run)
      (adds_both Alone (rows stamped started acting run) (joint stamped started (pair s.collector a.source) (in_pair run))
      (λ x history own led. (own, led.own)))
      (λ x history led alone. record {
        leads = record {
          leads = λ others h.
              goes_run stamped s t b b same fault (x ++ history) (led.leads others h.0) (alone.0 others h.0 h.1.0)
              (λ legal running. none_gone_on stamped started j_in s a.source x history others alone.1 h.1.1 legal running);
          own = led.own;
        };
        source_is = λ r e. absurd (let z : ⊥ = cc in z);
        done = λ r e. absurd (let z : ⊥ = cc in z);
      })
    where
      Alone : History → History → Type 0
      Alone x history =
          (Others (OutsideOf stamped started) x history → BothAt stamped s a history → RowsOwn s a → OwnBehind t b (Err fault))
          × Owns (IsByOne (pair s.collector a.source)) x history

  module _ (run : AreIn started acting s a) (s1 : Sinks) (a1 : Agents) (same : s1.collector ≡ s.collector) (on : ReadsOn a a1)
      {old mid : Option History} (read : Adds old mid (ReadsAll stamped started acting s a s1 a1 (Ok tt))) where
    run_on : AreIn started acting s1 a1
    run_on = in_on s s1 a a1 same on.source run

    -- the job was given no names in the reads, since only collector and agent acted
    pub reads_given : ((acting : List Who) → AreIn started acting s a
        → Adds old mid (ReadsAll stamped started acting s a s1 a1 (Ok tt))) → Adds old mid GivenNone
    reads_given told =
        adds_as GivenNone
        (told (pair s.collector a.source) (record {
          collector_started = run.collector_started;
          collector_acts = (0, omega arith, refl);
          agent_started = run.agent_started;
          agent_acts = (1, omega arith, refl);
        }))
        (λ x h r. pair_given s.collector a.source x h r.leads.own)

    module _ (s2 : Sinks) (b : Agents) {late_at : Option History} (joint : JointTo s1 a1 s2 b (Ok tt) mid late_at) where
      -- it ends with the close
      pub close_ends : (t : Sinks) (fault : RoundFault) {new : Option History}
          → Adds late_at new (Leads (Together stamped started acting) (BothAt stamped s2 b) (Closed stamped t b (Err fault)))
          → Adds old new (RunsTo stamped started acting s a b (Err fault))
      close_ends t fault closed =
          adds_then (RunsTo stamped started acting s a b (Err fault)) read (leads_then (joint stamped started acting run_on) closed)
          (λ x w history first second. record {
            leads = both_lead (Together stamped started acting) x w history (from_start first.leads) (record {
              leads = λ others h. closed_run stamped s.collector t b (Err fault) (w ++ (x ++ history)) (second.leads others h);
              own = second.own;
            });
            source_is = λ r e. absurd (let z : ⊥ = cc in z);
            done = λ r e. absurd (let z : ⊥ = cc in z);
          })

      module _ (steady : AllSteady a) (sound1 : IsSound a1) (delivered : Delivered a1 b) (rest : SendsRest a1 mid late_at)
          (reads_given : Adds old mid GivenNone) (late_calls : Adds mid late_at RestCalls)
          (keeps : KeepsLogs a b) where
        -- ---- the reads and the delivery

        -- a live line's log was read to its end
        line_before : (x history : History) → ((i : ℕ) (k y : Adaptor) → slice_get a.adaptors i ≡ Some k
            → is_stepped k.phase ≡ true → slice_get a1.adaptors i ≡ Some y
            → ReadTo (stream_at a.source k) y.read.offset (ReadsAlone i k a) x history)
            → (l : Line) → Contains (lines_of b) l → l.live ≡ true → LineBefore a.source a1 b l x history
        line_before x history whole l one live =
            let in_it = line_in b.adaptors b.delivery.table.committed l one in
            let i = in_it.0 in
            let k = in_it.1 in
            let lives : is_past k.phase ≡ false = not_past (is_past k.phase)
            (sym (ap (λ (m : Line). m.live) in_it.3) ∙ live) in
            let far = delivered.adaptors i k in_it.2 in
            let below = below_at a1.adaptors i far.0 far.1 in
            let size = on.size in
            let first = some_at a.adaptors i (omega (arith, below, size)) in
            let stream = on.streams i first.0 far.0 first.1 far.1 in
            let source = delivered.source ∙ on.source in
            let was : stream_at a.source first.0 ≡ stream_at b.source k =
            stream_same (sym source) (sym (far.2.kind ∙ stream.0)) (sym (far.2.path ∙ stream.1)) in
            let now : stream_at a1.source far.0 ≡ stream_at b.source k =
            stream_same (sym delivered.source) (sym far.2.kind) (sym far.2.path) in
            let found = whole i first.0 far.0 first.1 (was_stepped a a1 steady on i first.0 far.0 first.1 far.1 (far.2.lives lives)) far.1 in
            record {
              line = record {
                place = i;
                adaptor = k;
                at = in_it.2;
                lives = lives;
                stream = stream_same source (sym (ap (λ (m : Line). m.kind) in_it.3)) (sym (ap (λ (m : Line). m.path) in_it.3));
                offset = sym (ap (λ (m : Line). m.offset) in_it.3 ∙ delivered.delivered.committed i k in_it.2 lives);
                read = subst (λ q. ReadTo q k.read.offset (HasPathAlone l (lines_of b)) x history) was
                    (subst (λ n. ReadTo (stream_at a.source first.0) n (HasPathAlone l (lines_of b)) x history)
                    (sym far.2.offset)
                    (read_alone (stream_at a.source first.0) far.0.read.offset (ReadsAlone i first.0 a)
                    (HasPathAlone l (lines_of b))
                    (alone_before a a1 b steady on sound1 keeps l i first.0 first.1
                    (sym (far.2.kind ∙ stream.0) ∙ sym (ap (λ (m : Line). m.kind) in_it.3))
                    (sym (far.2.path ∙ stream.1) ∙ sym (ap (λ (m : Line). m.path) in_it.3)))
                    x history found));
              };
              low = subst (λ q. QueueBelow q k.read.offset a1) now
                  (subst (λ n. QueueBelow (stream_at a1.source far.0) n a1) (sym far.2.offset)
                  (queue_below a1 sound1 i far.0 far.1));
            }
          where
            stream_same : {p q k m n o : List ℕ} → p ≡ q → k ≡ m → n ≡ o
                → ◌≡◌ {A = Stream} (record { source = p; kind = k; name = n }) (record { source = q; kind = m; name = o })
            stream_same source kind path = λ j. record { source = source j; kind = kind j; name = path j }

        record Settled (added history : History) : Type 0 where
          leads : Leads (Together stamped started acting) (BothAt stamped s a) (BothAt stamped s2 b) added history
          none : GivenNone added history
          lines : Others (OutsideOf stamped started) added history → BothAt stamped s a history
              → is_stopped (added ++ history) ≡ false → (l : Line) → Contains (lines_of b) l → l.live ≡ true
              → LineRead a.source b l added history

        abbrev Sent : Waits started a1 → History → History → Type 0
        Sent k = SendsBelow stamped started k.stream k.end

        settled_lines : (x y history : History) → ReadsAll stamped started acting s a s1 a1 (Ok tt) x history
            → Leads (Together stamped started acting) (BothAt stamped s1 a1) (BothAt stamped s2 b) y (x ++ history)
            → RestCalls y (x ++ history)
            → ((k : Waits started a1) → Sent k y (x ++ history))
            → Others (OutsideOf stamped started) (y ++ x) history → BothAt stamped s a history
            → is_stopped ((y ++ x) ++ history) ≡ false → (l : Line) → Contains (lines_of b) l → l.live ≡ true
            → LineRead a.source b l (y ++ x) history
        settled_lines x y history first second quiet sent others both running l one live =
            let m = line_before x history
            (first.whole refl (early stamped started acting y x history others) both
            (ran stamped started acting y x history second running)) l one live in
            let k = m.line.adaptor in
            record {
              place = m.line.place;
              adaptor = k;
              at = m.line.at;
              lives = m.line.lives;
              stream = m.line.stream;
              offset = m.line.offset;
              read = read_on (stream_at b.source k) k.read.offset (HasPathAlone l (lines_of b)) y x history m.line.read
                  (sent (record {
                    stream = stream_at b.source k;
                    end = k.read.offset;
                    one = subst (λ n. Contains started (record { role = Agent; name = n })) (sym (delivered.source ∙ on.source)) run.agent_started;
                    low = m.low;
                  }) (late stamped started acting y x history others))
                  (λ alone. rest_reads_none (stream_at b.source k) y (x ++ history) quiet);
            }

        settled : Adds old late_at Settled
        settled =
            adds_then Settled
            (adds_both (λ x h. ReadsAll stamped started acting s a s1 a1 (Ok tt) x h × GivenNone x h) read reads_given (λ x h p q. (p, q)))
            (adds_each Sent
            (adds_both (λ y h. Leads (Together stamped started acting) (BothAt stamped s1 a1) (BothAt stamped s2 b) y h
            × (GivenNone y h × RestCalls y h))
            (joint stamped started acting run_on)
            (adds_both (λ y h. GivenNone y h × RestCalls y h) delivery_given late_calls (λ y h p q. (p, q))) (λ y h p q. (p, q)))
            (λ k. rest stamped started k.stream k.end k.one k.low))
            (λ x y history first second. record {
              leads = both_lead (Together stamped started acting) x y history first.0.leads second.0.0;
              none = (let all = given_join y x in let p = first.1 in let q = second.0.1.0 in omega (arith, all, p, q));
              lines = settled_lines x y history first.0 second.0.0 second.0.1.1 second.1;
            })
          where
            delivery_given : Adds mid late_at GivenNone
            delivery_given =
                adds_as GivenNone
                (joint stamped started (pair s1.collector a1.source) (record {
                  collector_started = run_on.collector_started;
                  collector_acts = (0, omega arith, refl);
                  agent_started = run_on.agent_started;
                  agent_acts = (1, omega arith, refl);
                }))
                (λ y h x. pair_given s1.collector a1.source y h x.own)

        -- ---- the close

        module _ (sound : IsSound b) (c_is : s2.collector ≡ s1.collector) (t : Sinks) (v : Report) (is_finished : t ≡ finished s2)
            {new : Option History}
            (closed : Adds late_at new (Leads (Together stamped started acting) (BothAt stamped s2 b) (Closed stamped t b (Ok v))))
            (given_once : Adds late_at new GivenOnce) (sends_none : SendsNone late_at new) (lists : ListsTheirs s2 late_at new)
            (j_in : Contains started job) (closing_calls : Adds late_at new RestCalls) where
          -- no sink is left under writing
          none_left : (h : History) → is_stopped h ≡ false
              → SinksMatch stamped t h → (stem : Stem) → IsTrue (is_stem stem) → stem.collector ≡ s.collector
              → IsAbsent (file (files_after h) (SinkFile stem))
          none_left h running x stem good own =
              ((x.alive running).tidy (ap (λ (k : Sinks). k.abandoned) is_finished) stem (record {
                own = own ∙ sym (ap (λ (k : Sinks). k.collector) is_finished ∙ (c_is ∙ same));
                stem = good;
                other = other stem (ap (λ (k : Sinks). k.current) is_finished);
              })).0
            where
              other : (stem : Stem) → t.current ≡ None → IsFalse (is_some t.current && same_stem stem (last_stem t))
              other stem none = ap (λ (o : Option Writing). is_some o && same_stem stem (last_stem t)) none

          record Ended (added history : History) : Type 0 where
            closing : Leads (Together stamped started acting) (BothAt stamped s2 b) (Closed stamped t b (Ok v)) added history
            once : GivenOnce added history
            theirs : TheirsOnly stamped started s2 added history
            none_sent : (k : Known started) → SendsBelow stamped started k.stream k.end added history
            unread : RestCalls added history

          ended : Adds late_at new Ended
          ended =
              adds_as Ended
              (adds_each (λ (k : Known started). SendsBelow stamped started k.stream k.end)
              (adds_both (λ z h. (Leads (Together stamped started acting) (BothAt stamped s2 b) (Closed stamped t b (Ok v)) z h
              × (GivenOnce z h × RestCalls z h))
              × TheirsOnly stamped started s2 z h)
              (adds_both (λ z h. Leads (Together stamped started acting) (BothAt stamped s2 b) (Closed stamped t b (Ok v)) z h
              × (GivenOnce z h × RestCalls z h))
              closed (adds_both (λ z h. GivenOnce z h × RestCalls z h) given_once closing_calls (λ z h p q. (p, q)))
              (λ z h p q. (p, q)))
              (lists stamped started
              (subst (λ n. Contains started (record { role = Collector; name = n })) (sym (c_is ∙ same)) run.collector_started) j_in)
              (λ z h p q. (p, q)))
              (λ k. sends_none stamped started k.stream k.end k.one))
              (λ z h x. record {
                closing = x.0.0.0;
                once = x.0.0.1.0;
                theirs = x.0.1;
                none_sent = x.1;
                unread = x.0.0.1.1;
              })

          module _ (w z history : History) (first : Settled w history) (second : Ended z (w ++ history))
              (others : Others (OutsideOf stamped started) (z ++ w) history) (both : BothAt stamped s a history)
              (running : is_stopped ((z ++ w) ++ history) ≡ false) where
            at_rest : BothAt stamped s2 b (w ++ history)
            at_rest = first.leads.leads (early stamped started acting z w history others) both

            end : Closed stamped t b (Ok v) (z ++ (w ++ history))
            end = second.closing.leads (late stamped started acting z w history others) at_rest

            goes : is_stopped (z ++ (w ++ history)) ≡ false
            goes = ap is_stopped (sym (append_assoc z w history)) ∙ running

            rested : is_stopped (w ++ history) ≡ false
            rested = ran stamped started acting z w history second.closing running

            has : HasRun v (z ++ (w ++ history))
            has = end.0.alive goes

            lines_are : checkpoint_lines (files_after ((z ++ w) ++ history)) a.source ≡ lines_of b
            lines_are =
                let source = delivered.source ∙ on.source in
                ap (λ (k : History). checkpoint_lines (files_after k) a.source) (append_assoc z w history)
                ∙ (ap (checkpoint_lines (files_after (z ++ (w ++ history)))) (sym source)
                ∙ ((end.1.1.alive goes delivered.ready).lines_are ∙ delivered.delivered.saved))

            all_of_cluster : AllOfCluster b.cluster (since_start (agent a.source) ((z ++ w) ++ history))
            all_of_cluster =
                subst (λ n. AllOfCluster b.cluster (since_start (agent n) ((z ++ w) ++ history))) (delivered.source ∙ on.source)
                (subst (λ (k : History). AllOfCluster b.cluster (since_start (agent b.source) k)) (sym (append_assoc z w history))
                (end.1.1.alive goes delivered.ready).one_cluster)

            line_at_rest : (l : Line) → Contains (checkpoint_lines (files_after ((z ++ w) ++ history)) a.source) l → l.live ≡ true
                → LineRead a.source b l w history
            line_at_rest l one live =
                first.lines (early stamped started acting z w history others) both rested l
                (subst (λ ls. Contains ls l) lines_are one) live

            none_past : (l : Line) (m : LineRead a.source b l w history)
                → NonePast (stream_at b.source m.adaptor) m.adaptor.read.offset z (w ++ history)
            none_past l m =
                second.none_sent (record {
                  stream = stream_at b.source m.adaptor;
                  end = m.adaptor.read.offset;
                  one = subst (λ n. Contains started (record { role = Agent; name = n })) (sym (delivered.source ∙ on.source)) run.agent_started;
                }) (late stamped started acting z w history others)

            ran_whole : v.unclosed ≡ 0 → RanWhole z (w ++ history)
            ran_whole none =
                job_ran_whole v.taken v.held v.removed z (w ++ history)
                (done_ran has.0 (report_view v) z (w ++ history) has.1 none second.once)

            -- the archive of a live line is its whole log
            archived : (l : Line) → LineRead a.source b l w history → v.unclosed ≡ 0
                → ArchivedTo (stream_of a.source l) l.offset (z ++ w) history
            archived l m none =
                subst (λ q. ArchivedTo q l.offset (z ++ w) history) m.stream
                (subst (λ n. ArchivedTo (stream_at b.source m.adaptor) n (z ++ w) history) m.offset
                (adaptor_whole stamped b z w history end.1.1.legal sound at_rest.1.0 delivered.ready rested delivered.delivered
                m.place m.adaptor m.at m.lives (HasPathAlone l (lines_of b)) m.read (none_past l m) (ran_whole none)))

            -- that it was so at the last read of its log
            at_last : (l : Line) → LineRead a.source b l w history → HasPathAlone l (lines_of b)
                → WholeAtLast (stream_of a.source l) l.offset v.unclosed (z ++ w) history
            at_last l m alone =
                let q = stream_at b.source m.adaptor in
                let at = m.read.at in
                subst (λ (s : Stream). WholeAtLast s l.offset v.unclosed (z ++ w) history) m.stream
                (subst (λ n. WholeAtLast q n v.unclosed (z ++ w) history) m.offset (record {
                  at = record {
                    later = z ++ at.later;
                    step = at.step;
                    earlier = at.earlier;
                    split = ap (λ x. z ++ x) at.split ∙ sym (append_assoc z at.later (at.step ∷ at.earlier));
                    read = at.read;
                    holds = (
                      at.holds.0,
                      λ none. adaptor_archive stamped b z w history end.1.1.legal sound at_rest.1.0 delivered.ready rested
                          delivered.delivered m.place m.adaptor m.at m.lives (HasPathAlone l (lines_of b)) m.read
                          (none_past l m) (ran_whole none),
                      at.holds.1,
                    );
                  };
                  last = none_read_join q m.adaptor.read.offset z at.later (at.step ∷ at.earlier ++ history)
                      (m.read.last alone)
                      (subst (λ (k : History). NoneRead (agent_of q) q.name z k)
                      (ap (λ k. k ++ history) at.split ∙ append_assoc at.later (at.step ∷ at.earlier) history)
                      (rest_reads_none q z (w ++ history) second.unread));
                }))

            -- that its offset was the end of the whole log
            was_read : (l : Line) → LineRead a.source b l w history
                → AtRead (stream_of a.source l) (EndedAt (stream_of a.source l) l.offset)
                (z ++ w) history
            was_read l m =
                subst (λ (q : Stream). AtRead q (EndedAt q l.offset) (z ++ w) history) m.stream
                (subst (λ n. AtRead (stream_at b.source m.adaptor)
                (EndedAt (stream_at b.source m.adaptor) n) (z ++ w) history)
                m.offset (at_read_early
                (EndedAt (stream_at b.source m.adaptor) m.adaptor.read.offset) z w history
                m.read.at))

            theirs_only : (h : History) → h ≡ z ++ (w ++ history) → (l : Listing) → last_listing h ≡ Some l
                → NoneOf s.collector l.names
            theirs_only h is l last stem good own =
                second.theirs (late stamped started acting z w history others) at_rest.0 goes l
                (sym (ap last_listing is) ∙ last) stem good (own ∙ sym (c_is ∙ same))

            done_at : RoundDone s.collector a.source b v (z ++ w) history
            done_at =
                let assoc = append_assoc z w history in
                record {
                  each = λ l one live none. archived l (line_at_rest l one live) none;
                  read = λ l one live. was_read l (line_at_rest l one live);
                  last = λ l one live alone.
                      at_last l (line_at_rest l one live) (subst (HasPathAlone l) lines_are alone);
                  lines = lines_are;
                  one_cluster = all_of_cluster;
                  run = record {
                    once = (let all = given_join z w in let p = first.none in let q = second.once in omega (arith, all, p, q));
                    listing = has.1.listing;
                    last = ap last_listing assoc ∙ has.1.last;
                    ran = subst (λ (k : History). IsArchiveRun k has.1.listing v.unclosed v.taken v.held v.removed) (sym assoc) has.1.ran;
                  };
                  report = subst (HasRun v) (sym assoc) has;
                  theirs = theirs_only (z ++ (w ++ history)) refl has.1.listing has.1.last;
                  first = λ stem good own is.
                      theirs_only (z ++ (w ++ history)) refl has.1.listing has.1.last stem good own
                      (found_in is_unclosed has.1.listing.names (stem_text stem ++ codes ".chukwa") (sym has.1.first ∙ is));
                  none_left = λ stem good own. subst (λ (k : History). IsAbsent (file (files_after k) (SinkFile stem))) (sym assoc)
                      (none_left (z ++ (w ++ history)) goes end.1.0 stem good own);
                }

          pub round_ends : Adds old new (RunsTo stamped started acting s a b (Ok v))
          round_ends = adds_then (RunsTo stamped started acting s a b (Ok v)) settled ended (λ w z history first second. record {
            leads = both_lead (Together stamped started acting) w z history (from_start first.leads) (record {
              leads = λ others h. closed_run stamped s.collector t b (Ok v) (z ++ (w ++ history)) (second.closing.leads others h);
              own = second.closing.own;
            });
            source_is = λ w e. delivered.source ∙ on.source;
            done = λ r e others both running.
                subst (λ (q : Report). RoundDone s.collector a.source b q (z ++ w) history) (let same : v ≡ r = cc in same)
                (done_at w z history first second others both running);
          })
