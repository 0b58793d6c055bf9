-- After a round the archive of a stream is the whole log that was read.
use Rattle.std.proofs.Common.{◌≡◌, ℕ, Bool, true, false, ◌&&◌, List, [], ◌∷◌, ◌++◌, Option, Some, ap, sym, subst, ◌∙◌, refl, arith, append_assoc, true≢false, if◌then◌else◌, bytes_eq, cond}
use Rattle.std.specs.Prelude.{codes, count_by, find, slice_get}
use Rattle.std.proofs.lemmas.Bool.{and_parts}
use Rattle.std.proofs.lemmas.List.Sums.{sum_by-cons}
use Rattle.std.proofs.lemmas.Option.{same_Some}
use Rattle.chk_site.specs.declared.acts.Act.{Act}
use Rattle.chk_site.specs.declared.acts.ActAnswer.{ActAnswer}
use Rattle.chk_site.specs.declared.acts.ActAnswer.TheVariants.{Done}
use Rattle.chk_site.specs.declared.acts.Role.TheVariants.{Job}
use Rattle.chk_site.specs.Acts.{Deed, Lists, ReadsLog, deed, same_role}
use Rattle.chk_site.specs.History.{History, files_after, is_stopped}
use Rattle.chk_site.specs.Logs.{Part}
use Rattle.chk_site.specs.Runs.{own_acts}
use Rattle.chk_site.proofs.Runs.{every_join}
use Rattle.chk_chunk.specs.Keys.{Stream}
use Rattle.chk_world.specs.ArchiveRuns.{IsArchiveRun, Listing, last_listing, listing_by}
use Rattle.chk_world.specs.Books.{Book}
use Rattle.chk_world.specs.Checkpoints.{Line, checkpoint_of, is_line_of, offset_in}
use Rattle.chk_world.specs.Committed.{archive_of_stream}
use Rattle.chk_world.specs.Laws.{IsComplete, agent_of}
use Rattle.chk_world.specs.Rounds.{HoldsRound, SendsNonePast}
use Rattle.chk_world.specs.Rules.{Legal}
use Rattle.chk_world.specs.Streams.{whole_end, whole_log}
use Rattle.chk_world.proofs.AcknowledgedSaved.{law_covered}
use Rattle.chk_world.proofs.Rounds.{rounds_whole}
use Rattle.chk_agent_adaptor.specs.Adaptors.{Adaptor, is_past, stream_at}
use Rattle.chk_agent.specs.Facts.{Matches}
use Rattle.chk_agent.specs.Fits.{IsSound}
use Rattle.chk_agent.specs.States.{State, committed_at, lines_of}
use Rattle.chk_agent.proofs.Soundness.{line_there}
use Rattle.chk_archive.specs.Archived.{GivenOnce, RunDone, gives_sinks, is_job_listing}
use Rattle.chk_archive.specs.Reports.{Report}
use Rattle.chk_agent_drain.specs.Drains.{AllDelivered}
use Rattle.chk_round.specs.Done.{ArchivedTo, EndedAt, HasBegun, JobRan, NoneRead, RanWhole, ReadTo}
use Rattle.chk_round.specs.Sending.{NonePast}
use Rattle.chk_round.proofs.NonePast.{none_past_in, none_past_join}
use Rattle.chk_round.proofs.OwnReads.{EndsWithRead, at_read_early}

-- ---- a log that was read

module _ (s : Stream) (end : ℕ) where
  -- the last of these steps
  pub read_now : (Alone : Type 0) (added history : History)
      → EndsWithRead (agent_of s) s.name added history
      → EndedAt s end (added ++ history) → ReadTo s end Alone added history
  read_now Alone added history last ended = record {
    at = record {
      later = [];
      step = last.step;
      earlier = last.earlier;
      split = last.is;
      read = last.read;
      holds = subst (λ (k : History). EndedAt s end (k ++ history)) last.is ended;
    };
    no_more = tt;
    last = λ alone. tt;
  }

  -- where it is read alone under other words
  pub read_alone : (A B : Type 0) → (B → A) → (added history : History)
      → ReadTo s end A added history → ReadTo s end B added history
  read_alone A B weaker added history r = record {
    at = r.at;
    no_more = r.no_more;
    last = λ alone. r.last (weaker alone);
  }

  pub none_read_join : (b a history : History) → NoneRead (agent_of s) s.name a history
      → NoneRead (agent_of s) s.name b (a ++ history)
      → NoneRead (agent_of s) s.name (b ++ a) history
  none_read_join b a history x y =
      every_join
      (λ before step. step.own ≡ true → step.act.who ≡ agent_of s → (part : Part) (at max : ℕ)
      → deed step.act ≡ ReadsLog s.name part at max → ⊥) b a history x y

  -- steps behind it
  pub read_on : (Alone : Type 0) (more added history : History) → ReadTo s end Alone added history
      → NonePast s end more (added ++ history)
      → (Alone → NoneRead (agent_of s) s.name more (added ++ history))
      → ReadTo s end Alone (more ++ added) history
  read_on Alone more added history r none unread =
      let upto : History = r.at.step ∷ r.at.earlier in
      let here = ap (λ k. k ++ history) r.at.split ∙ append_assoc r.at.later upto history in
      record {
        at = record {
          later = more ++ r.at.later;
          step = r.at.step;
          earlier = r.at.earlier;
          split = ap (λ k. more ++ k) r.at.split ∙ sym (append_assoc more r.at.later upto);
          read = r.at.read;
          holds = r.at.holds;
        };
        no_more =
            none_past_join s end more r.at.later (upto ++ history) r.no_more
            (subst (λ (k : History). NonePast s end more k) here none);
        last = λ alone.
            none_read_join more r.at.later (upto ++ history) (r.last alone)
            (subst (λ (k : History). NoneRead (agent_of s) s.name more k) here (unread alone));
      }

-- ---- the checkpoint

-- where the saved lines are those that would be written now, a stream's is at its committed end
pub checkpoint_at : (stamped : List (List ℕ)) (a : State) (h : History) → IsSound a
    → Matches stamped a h
    → a.ready ≡ true → is_stopped h ≡ false → a.saved ≡ lines_of a
    → (i : ℕ) (x : Adaptor) → slice_get a.adaptors i ≡ Some x
    → checkpoint_of (files_after h) (stream_at a.source x) ≡ committed_at a i
checkpoint_at stamped a h sound matches ready running saved i x at =
    ap (λ (ls : List Line). offset_in (find (is_line_of (stream_at a.source x)) ls))
    ((matches.alive running ready).lines_are ∙ saved)
    ∙ ap offset_in (line_there a.source a.adaptors a.delivery.table.committed sound.apart i x at)

-- ---- the listing

-- where the job was given the names of the sinks among these steps, its last listing is one of them
pub record IsAmong (l : Listing) (added history : History) : Type 0 where
  pub later : History
  pub earlier : History
  pub split : added ≡ later ++ earlier
  pub upto : l.upto ≡ earlier ++ history

listing_given : (by_job : Bool) (call : Deed) (answer : ActAnswer) (upto : History)
    (earlier : Option Listing)
    (l : Listing) → (by_job && gives_sinks call answer) ≡ true
    → listing_by by_job call answer upto earlier ≡ Some l → l.upto ≡ upto
listing_given by_job (Lists folder) (Done names number of) upto earlier l given last =
    go (by_job && bytes_eq folder (codes "sinks")) given last
  where
    go : (b : Bool) → b ≡ true
        → (if b then Some (record { names = names; upto = upto }) else earlier) ≡ Some l
        → l.upto ≡ upto
    go true is same =
        ap (λ (k : Listing). k.upto)
        (sym (same_Some (record { names = names; upto = upto }) l same))
    go false is same = absurd (true≢false (sym is))
listing_given by_job call answer upto earlier l given last =
    absurd (true≢false (sym (and_parts by_job (gives_sinks call answer) given).1))

pub listing_other : (by_job : Bool) (call : Deed) (answer : ActAnswer) (upto : History)
    (earlier : Option Listing)
    → (by_job && gives_sinks call answer) ≡ false
    → listing_by by_job call answer upto earlier ≡ earlier
listing_other by_job (Lists folder) (Done names number of) upto earlier other =
    ap (λ b. if b then Some (record { names = names; upto = upto }) else earlier) other
listing_other by_job call answer upto earlier other = refl

-- another act isn't counted
pub count_other : (own : Bool) (act : Act) (acts : List Act) → is_job_listing act ≡ false
    → count_by is_job_listing (if own then act ∷ acts else acts) ≡ count_by is_job_listing acts
count_other true act acts other =
    let first = sum_by-cons (λ a. cond {A = ℕ} (is_job_listing a) 1 0) act acts in
    let none : cond {A = ℕ} (is_job_listing act) 1 0 ≡ 0 = ap (λ b. cond {A = ℕ} b 1 0) other in
    omega (arith, first, none)
count_other false act acts other = refl

module _ (l : Listing) where
  pub among : (added history : History) → count_by is_job_listing (own_acts added) ≡ 1
      → last_listing (added ++ history) ≡ Some l → IsAmong l added history
  among [] history once last = absurd (let z : ⊥ = omega (arith, once) in z)
  among (step ∷ added) history once last = go (is_job_listing step.act) refl (among added history)
    where
      go : (b : Bool) → is_job_listing step.act ≡ b
          → (count_by is_job_listing (own_acts added) ≡ 1 → last_listing (added ++ history) ≡ Some l
          → IsAmong l added history)
          → IsAmong l (step ∷ added) history
      go true is rest = record {
        later = [];
        earlier = step ∷ added;
        split = refl;
        upto = listing_given (same_role step.act.who.role Job) (deed step.act) step.act.answer
            (step ∷ added ++ history) (last_listing (added ++ history)) l is last;
      }
      go false is rest =
          let r =
          rest (sym (count_other step.own step.act (own_acts added) is) ∙ once)
          (sym (listing_other (same_role step.act.who.role Job) (deed step.act) step.act.answer
          (step ∷ added ++ history) (last_listing (added ++ history)) is) ∙ last) in
          record {
            later = step ∷ r.later;
            earlier = r.earlier;
            split = ap (λ k. step ∷ k) r.split;
            upto = r.upto;
          }

-- ---- the run of the job

-- one that showed no sink under writing is complete
pub job_ran_whole : (taken held removed : ℕ) (added history : History)
    → JobRan 0 taken held removed added history
    → RanWhole added history
job_ran_whole taken held removed added history j =
    let r = among j.listing added history j.once j.last in
    let complete : IsComplete (added ++ history) j.listing =
    record { last = j.last; closed = sym j.ran.unclosed_is; reached = j.ran.reached } in
    record {
      later = r.later;
      earlier = r.earlier;
      split = r.split;
      names = j.listing.names;
      complete =
          subst (λ (u : History). IsComplete (added ++ history)
          (record { names = j.listing.names; upto = u }))
          r.upto complete;
    }

-- a run that is done, which was given the names of the sinks in these steps
pub done_ran : (loaded : Book) (r : Report) (added history : History)
    → RunDone loaded r (added ++ history)
    → r.unclosed ≡ 0 → GivenOnce added history
    → JobRan 0 r.taken r.held r.removed added history
done_ran loaded r added history d none once = record {
  once = once;
  listing = d.listing;
  last = d.last;
  ran =
      subst (λ n. IsArchiveRun (added ++ history) d.listing n r.taken r.held r.removed) none d.ran;
}

-- ---- the archive

-- s was read to `end`, the checkpoint came there, nothing past it is sent, and then a run is complete
module _ (stamped : List (List ℕ)) (s : Stream) (end : ℕ) (closing settled history : History)
    (legal : Legal stamped (closing ++ (settled ++ history))) (Alone : Type 0)
    (r : ReadTo s end Alone settled history)
    (at_end : checkpoint_of (files_after (settled ++ history)) s ≡ end)
    (none : NonePast s end closing (settled ++ history))
    (ran : RanWhole closing (settled ++ history)) where
  abbrev read : History
  read = r.at.step ∷ r.at.earlier ++ history

  settled_is : settled ++ history ≡ r.at.later ++ read
  settled_is =
      ap (λ k. k ++ history) r.at.split
      ∙ append_assoc r.at.later (r.at.step ∷ r.at.earlier) history

  history_is : closing ++ (settled ++ history) ≡ ran.later ++ (ran.earlier ++ (r.at.later ++ read))
  history_is =
      ap (λ k. k ++ (settled ++ history)) ran.split
      ∙ (append_assoc ran.later ran.earlier (settled ++ history)
      ∙ ap (λ k. ran.later ++ (ran.earlier ++ k)) settled_is)

  none_behind : NonePast s end (ran.later ++ (ran.earlier ++ r.at.later)) read
  none_behind =
      subst (λ (k : History). NonePast s end k read)
      (ap (λ k. k ++ r.at.later) ran.split ∙ append_assoc ran.later ran.earlier r.at.later)
      (none_past_join s end closing r.at.later read r.no_more
      (subst (λ (k : History). NonePast s end closing k) settled_is none))

  round_of : HoldsRound (closing ++ (settled ++ history)) s
  round_of = record {
    read = read;
    till_checkpoint = r.at.later;
    till_listing = ran.earlier;
    till_end = ran.later;
    is = history_is;
    checkpointed =
        ap (λ k. checkpoint_of (files_after k) s) (sym settled_is) ∙ (at_end ∙ sym r.at.holds.0);
    no_more = λ step one.
        subst (λ n. SendsNonePast s n step) (sym r.at.holds.0)
        (none_past_in s end (ran.later ++ (ran.earlier ++ r.at.later)) read none_behind step one);
    names = ran.names;
    run =
        subst (λ (k : History). IsComplete (closing ++ (settled ++ history))
        (record { names = ran.names; upto = ran.earlier ++ k }))
        settled_is ran.complete;
  }

  -- the archive is the whole log as it was at that read
  pub archive_is : archive_of_stream (files_after ((closing ++ settled) ++ history)) s
      ≡ whole_log read s
  unfolding round_of
  archive_is =
      ap (λ k. archive_of_stream (files_after k) s) (append_assoc closing settled history)
      ∙ rounds_whole law_covered stamped (closing ++ (settled ++ history)) legal s round_of

  pub stream_whole : ArchivedTo s end (closing ++ settled) history
  stream_whole =
      at_read_early
      (λ (h : History). (whole_end h s ≡ end)
      × (archive_of_stream (files_after ((closing ++ settled) ++ history)) s ≡ whole_log h s)
      × HasBegun s h)
      closing settled history
      (record {
        later = r.at.later;
        step = r.at.step;
        earlier = r.at.earlier;
        split = r.at.split;
        read = r.at.read;
        holds = (r.at.holds.0, archive_is, r.at.holds.1);
      })

-- ---- an adaptor whose log was read to its end

-- all that was read is committed and saved; then the collector and the job close the round
module _ (stamped : List (List ℕ)) (a : State) (closing settled history : History)
    (legal : Legal stamped (closing ++ (settled ++ history))) (sound : IsSound a)
    (matches : Matches stamped a (settled ++ history))
    (ready : a.ready ≡ true) (running : is_stopped (settled ++ history) ≡ false)
    (delivered : AllDelivered a)
    (i : ℕ) (x : Adaptor) (there : slice_get a.adaptors i ≡ Some x)
    (live : is_past x.phase ≡ false) (Alone : Type 0)
    (r : ReadTo (stream_at a.source x) x.read.offset Alone settled history)
    (none : NonePast (stream_at a.source x) x.read.offset closing (settled ++ history))
    (whole : RanWhole closing (settled ++ history)) where
  at_end : checkpoint_of (files_after (settled ++ history)) (stream_at a.source x)
      ≡ x.read.offset
  at_end =
      checkpoint_at stamped a (settled ++ history) sound matches ready running delivered.saved i x
      there
      ∙ delivered.committed i x there live

  pub adaptor_whole : ArchivedTo (stream_at a.source x) x.read.offset (closing ++ settled) history
  adaptor_whole =
      stream_whole stamped (stream_at a.source x) x.read.offset closing settled history legal Alone
      r at_end none whole

  pub adaptor_archive : archive_of_stream (files_after ((closing ++ settled) ++ history))
      (stream_at a.source x)
      ≡ whole_log (r.at.step ∷ r.at.earlier ++ history) (stream_at a.source x)
  adaptor_archive =
      archive_is stamped (stream_at a.source x) x.read.offset closing settled history legal Alone
      r at_end none whole
