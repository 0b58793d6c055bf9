-- A whole round.
use Rattle.std.proofs.Common.{◌≡◌, ℕ, zero, suc, false, List, ◌∷◌, ◌++◌, Option, Result, Ok, Err, ap, sym, subst, ◌∙◌, refl, arith, append_assoc}
use Rattle.std.specs.Prelude.{Contains, codes}
use Rattle.chk_site.specs.declared.acts.Who.{Who}
use Rattle.chk_site.specs.History.{History, Others, files_after, is_stopped, since_start}
use Rattle.chk_site.specs.Site.{Adds}
use Rattle.chk_site.specs.Runs.{Leads}
use Rattle.chk_site.proofs.Runs.{adds_as, adds_both, adds_none, adds_then}
use Rattle.chk_chunk.specs.Keys.{Stream}
use Rattle.chk_world.specs.Agents.{AllOfCluster, stream_of}
use Rattle.chk_world.specs.ArchiveRuns.{IsArchiveRun, last_listing}
use Rattle.chk_world.specs.Checkpoints.{checkpoint_lines}
use Rattle.chk_world.specs.Committed.{IsAbsent, archive_of_stream}
use Rattle.chk_world.specs.Knowing.{agent}
use Rattle.chk_world.specs.Laws.{agent_of}
use Rattle.chk_world.specs.Names.{SinkFile, file}
use Rattle.chk_world.specs.Rules.{Legal}
use Rattle.chk_world.specs.Sight.{job}
use Rattle.chk_world.specs.Streams.{whole_end, whole_log}
use Rattle.chk_world.specs.Together.{Outside as OutsideOf, Together}
use Rattle.chk_sink.specs.States.{State as Sinks}
use Rattle.chk_agent.specs.States.{State as Agents}
use Rattle.chk_exchange.specs.OwnRows.{AllRows, IsOwnSink}
use Rattle.chk_archive.specs.declared.report.Report.{Report}
use Rattle.chk_round.specs.declared.faults.RoundFault.{RoundFault}
use Rattle.chk_round.specs.declared.faults.RoundFault.TheVariants.{Outside, NoMemory, Damaged, Length, Growing, Shrank, Spent, Refused, Checkpoint}
use Rattle.chk_round.specs.declared.whole_round.Rounded.{Rounded}
use Rattle.chk_round.specs.Closing.{HasRun}
use Rattle.chk_round.specs.Done.{ArchivedTo, EndedAt, HasBegun, NoneRead, WholeAtLast}
use Rattle.chk_round.specs.Following.{HasPathAlone}
use Rattle.chk_round.specs.Joint.{AreIn, BothAt}
use Rattle.chk_round.specs.OwnRows.{FromStart}
use Rattle.chk_round.specs.Processes.{AreBoth, IsRunOf, both, processes}
use Rattle.chk_round.specs.Rounded.{AfterRound, RoundTo}
use Rattle.chk_round.specs.Rounds.{AfterRun, AllSteady, IsGathered, RoundDone, RunsTo}
use Rattle.chk_round.specs.Spent.{starts}
use Rattle.chk_round.specs.Starts.{Met}
use Rattle.chk_round.proofs.Given.{GivenNone, given_join, pair, pair_given}
use Rattle.chk_round.proofs.Gone.{fresh_none}
use Rattle.chk_round.proofs.Logs.{both_lead, early, late}
use Rattle.chk_round.proofs.Meeting.{are_in}
use Rattle.chk_round.proofs.OwnReads.{at_read_late}

-- ---- the ends

met_round : (stamped : List (List ℕ)) (fault : RoundFault) (h : History) → Met stamped (Err fault) h
    → AfterRound stamped (Err fault) h
met_round stamped (Outside call) h x = x
met_round stamped NoMemory h x = x
met_round stamped (Damaged name at) h x = x
met_round stamped (Checkpoint at) h x = x
met_round stamped (Length stem got want) h x = absurd x
met_round stamped (Growing path reads) h x = x
met_round stamped (Shrank path had size) h x = x
met_round stamped (Spent number) h x =
    record { legal = x.legal; alive = λ running. starts (x.alive running).0 (x.alive running).1 }
met_round stamped (Refused code) h x = x

-- what a round answers by what its run came to
abbrev pub round_of : Agents → Result Report RoundFault → Result Rounded RoundFault
round_of b (Ok r) = Ok (record { agent = b; report = r })
round_of b (Err fault) = Err fault

run_round : (stamped : List (List ℕ)) (b : Agents) (r : Result Report RoundFault) (h : History) → AfterRun stamped (codes "c1") b r h
    → AfterRound stamped (round_of b r) h
run_round stamped b (Ok r) h x = x
run_round stamped b (Err (Outside call)) h x = x
run_round stamped b (Err NoMemory) h x = x
run_round stamped b (Err (Damaged name at)) h x = x
run_round stamped b (Err (Checkpoint at)) h x = x
run_round stamped b (Err (Length stem got want)) h x = x
run_round stamped b (Err (Growing path reads)) h x = x
run_round stamped b (Err (Shrank path had size)) h x = x
run_round stamped b (Err (Spent number)) h x = x
run_round stamped b (Err (Refused code)) h x = x

-- the first two of the run
pub both_of : (source : List ℕ) (started acting : List Who) → IsRunOf source started acting → AreBoth source started acting
both_of source started acting run = record {
  started_all = λ who one. run.started_all who (more source who one);
  acts_all = λ who one. run.acts_all who (more source who one);
}
  where
    more : (source : List ℕ) (who : Who) → Contains (both source) who → Contains (processes source) who
    more source who (zero, below, at) = (0, omega arith, at)
    more source who (suc zero, below, at) = (1, omega arith, at)
    more source who (suc (suc k), below, at) = absurd (let z : ⊥ = omega (arith, below) in z)

-- ---- behind earlier steps

archived_behind : (s : Stream) (end : ℕ) (y x h : History) → ArchivedTo s end y (x ++ h) → ArchivedTo s end (y ++ x) h
archived_behind s end y x h m =
    at_read_late
    (λ read. (whole_end read s ≡ end)
    × (archive_of_stream (files_after (y ++ (x ++ h))) s ≡ whole_log read s)
    × HasBegun s read)
    (λ read. (whole_end read s ≡ end)
    × (archive_of_stream (files_after ((y ++ x) ++ h)) s ≡ whole_log read s)
    × HasBegun s read)
    (λ read holds. (
      holds.0,
      ap (λ (k : History). archive_of_stream (files_after k) s) (append_assoc y x h) ∙ holds.1,
      holds.2,
    )) y x h m

last_behind : (s : Stream) (end unclosed : ℕ) (y x h : History) → WholeAtLast s end unclosed y (x ++ h)
    → WholeAtLast s end unclosed (y ++ x) h
last_behind s end unclosed y x h m = record {
  at = record {
    later = m.at.later;
    step = m.at.step;
    earlier = m.at.earlier ++ x;
    split = ap (λ z. z ++ x) m.at.split ∙ append_assoc m.at.later (m.at.step ∷ m.at.earlier) x;
    read = m.at.read;
    holds = subst
        (λ (read : History). (whole_end read s ≡ end)
        × (unclosed ≡ 0 → archive_of_stream (files_after ((y ++ x) ++ h)) s ≡ whole_log read s)
        × HasBegun s read)
        (sym (append_assoc (m.at.step ∷ m.at.earlier) x h)) (
          m.at.holds.0,
          λ none. ap (λ (k : History). archive_of_stream (files_after k) s) (append_assoc y x h) ∙ m.at.holds.1 none,
          m.at.holds.2,
        );
  };
  last = subst (λ (k : History). NoneRead (agent_of s) s.name m.at.later k)
      (sym (append_assoc (m.at.step ∷ m.at.earlier) x h)) m.last;
}

moved : (c source : List ℕ) (b : Agents) (r : Report) (y x h : History) → GivenNone x h
    → RoundDone c source b r y (x ++ h) → RoundDone c source b r (y ++ x) h
moved c source b r y x h none done =
    let assoc = append_assoc y x h in
    record {
      each = λ l one live closed.
          archived_behind (stream_of source l) l.offset y x h
          (done.each l (subst (λ (k : History). Contains (checkpoint_lines (files_after k) source) l) assoc one) live closed);
      read = λ l one live.
          let P : History → Type 0 = EndedAt (stream_of source l) l.offset in
          at_read_late P P (λ read holds. holds) y x h
          (done.read l (subst (λ (k : History). Contains (checkpoint_lines (files_after k) source) l) assoc one) live);
      last = λ l one live alone.
          let now : checkpoint_lines (files_after ((y ++ x) ++ h)) source
          ≡ checkpoint_lines (files_after (y ++ (x ++ h))) source =
          ap (λ (k : History). checkpoint_lines (files_after k) source) assoc in
          last_behind (stream_of source l) l.offset r.unclosed y x h
          (done.last l (subst (λ ls. Contains ls l) now one) live (subst (HasPathAlone l) now alone));
      lines = ap (λ (k : History). checkpoint_lines (files_after k) source) assoc ∙ done.lines;
      one_cluster = subst (λ (k : History). AllOfCluster b.cluster (since_start (agent source) k)) (sym assoc) done.one_cluster;
      run = record {
        once = (let all = given_join y x in let p = none in let q = done.run.once in omega (arith, all, p, q));
        listing = done.run.listing;
        last = ap last_listing assoc ∙ done.run.last;
        ran = subst (λ (k : History). IsArchiveRun k done.run.listing r.unclosed r.taken r.held r.removed) (sym assoc) done.run.ran;
      };
      report = subst (HasRun r) (sym assoc) done.report;
      theirs = done.theirs;
      first = done.first;
      none_left = λ stem good own.
          subst (λ (k : History). IsAbsent (file (files_after k) (SinkFile stem))) (sym assoc) (done.none_left stem good own);
    }

module _ (stamped : List (List ℕ)) (source : List ℕ) (started acting : List Who) where
  -- no call was made
  pub unbegun : (now : Option History) → Adds now now (RoundTo stamped started acting source (Err NoMemory))
  unbegun now = adds_none now (RoundTo stamped started acting source (Err NoMemory)) (λ history. record {
    leads = record { leads = λ others h. h; own = tt };
    source_is = λ r e. absurd (let z : ⊥ = cc in z);
    done = λ r e. absurd (let z : ⊥ = cc in z);
  })

  pub unmet : (fault : RoundFault) {old new : Option History}
      → Adds old new (Leads (Together stamped started acting) (Legal stamped) (Met stamped (Err fault)))
      → Adds old new (RoundTo stamped started acting source (Err fault))
  unmet fault told = adds_as (RoundTo stamped started acting source (Err fault)) told (λ x history met. record {
    leads = record { leads = λ others h. met_round stamped fault (x ++ history) (met.leads others h); own = met.own };
    source_is = λ r e. absurd (let z : ⊥ = cc in z);
    done = λ r e. absurd (let z : ⊥ = cc in z);
  })

  module _ (run : IsRunOf source started acting) (s : Sinks) (a b : Agents) (so : IsGathered source s a) {old mid new : Option History}
      (name : List ℕ)
      (told : (acting : List Who) → AreBoth name started acting
      → Adds old mid (Leads (Together stamped started acting) (Legal stamped) (BothAt stamped s a)))
      (named : source ≡ name)
      (r : Result Report RoundFault)
      (second : AreIn started acting s a → Contains started job → Contains acting job → AllSteady a
      → Adds mid new (RunsTo stamped started acting s a b r)) where
    runs : Adds mid new (RunsTo stamped started acting s a b r)
    runs = second (are_in (both_of source started acting run) s a so.collector_is so.source_is) (run.started_all job (2, omega arith, refl))
        (run.acts_all job (2, omega arith, refl)) so.steady

    first : Adds old mid (λ x h. Leads (Together stamped started acting) (Legal stamped) (BothAt stamped s a) x h × GivenNone x h)
    first =
        adds_both (λ x h. Leads (Together stamped started acting) (Legal stamped) (BothAt stamped s a) x h × GivenNone x h)
        (told acting (subst (λ n. AreBoth n started acting) named (both_of source started acting run)))
        (adds_as GivenNone
        (told (pair (codes "c1") name) (record {
          started_all = (subst (λ n. AreBoth n started acting) named (both_of source started acting run)).started_all;
          acts_all = λ who one. one;
        }))
        (λ x h led. pair_given (codes "c1") name x h led.own))
        (λ x h p q. (p, q))

    -- no row is there yet, and no sink is created
    from_fresh : (x history : History) → Leads (Together stamped started acting) (Legal stamped) (BothAt stamped s a) x history
        → Leads (Together stamped started acting) (Legal stamped) (FromStart stamped s a) x history
    from_fresh x history led = record {
      leads = λ others h.
          let both = led.leads others h in (
            both,
            (
              subst (AllRows (λ z n. IsOwnSink s z)) (sym so.rows) tt,
              λ running. fresh_none stamped s (x ++ history) both.0.legal (both.0.alive running) so.number,
            ),
          );
      own = led.own;
    }

    ended : (x y history : History) → Leads (Together stamped started acting) (Legal stamped) (BothAt stamped s a) x history
        → GivenNone x history → (q : Result Report RoundFault) → RunsTo stamped started acting s a b q y (x ++ history)
        → (v : Rounded) → round_of b q ≡ Ok v → Others (OutsideOf stamped started) (y ++ x) history → Legal stamped history
        → is_stopped ((y ++ x) ++ history) ≡ false → RoundDone (codes "c1") source v.agent v.report (y ++ x) history
    ended x y history one none (Err fault) two v e others legal running = absurd (let z : ⊥ = cc in z)
    ended x y history one none (Ok w) two v e others legal running =
        let done = two.done w refl (late stamped started acting y x history others)
        (one.leads (early stamped started acting y x history others) legal)
        (ap is_stopped (sym (append_assoc y x history)) ∙ running) in
        let here = subst (λ n. RoundDone n a.source b w y (x ++ history)) so.collector_is done in
        let there = subst (λ n. RoundDone (codes "c1") n b w y (x ++ history)) so.source_is here in
        subst (λ (q : Rounded). RoundDone (codes "c1") source q.agent q.report (y ++ x) history)
        (let z : record { agent = b; report = w } ≡ v = cc in z) (moved (codes "c1") source b w y x history none there)

    source_on : (q : Result Report RoundFault) → ((w : Report) → q ≡ Ok w → b.source ≡ a.source) → (v : Rounded)
        → round_of b q ≡ Ok v → v.agent.source ≡ source
    source_on (Err fault) same v e = absurd (let z : ⊥ = cc in z)
    source_on (Ok w) same v e =
        ap (λ (k : Rounded). k.agent.source) (let z : v ≡ record { agent = b; report = w } = cc in z)
        ∙ (same w refl ∙ so.source_is)

    pub rounds : Adds old new (RoundTo stamped started acting source (round_of b r))
    rounds = adds_then (RoundTo stamped started acting source (round_of b r)) first runs (λ x y history one two. record {
      leads = both_lead (Together stamped started acting) x y history (from_fresh x history one.0) (record {
        leads = λ others h. run_round stamped b r (y ++ (x ++ history))
            (subst (λ c. AfterRun stamped c b r (y ++ (x ++ history))) so.collector_is (two.leads.leads others h));
        own = two.leads.own;
      });
      source_is = source_on r two.source_is;
      done = ended x y history one.0 one.1 r two;
    })
