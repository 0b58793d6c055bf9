-- A record that is fetched and split, while a segment of records is written.
use Rattle.std.proofs.Common.{◌≡◌, ℕ, ◌+◌, ◌-◌, ◌<◌, Bool, true, false, List, ◌++◌, length, take, drop, Option, Some, None, Ok, Err, Result, ap, ap₂, sym, subst, ◌∙◌, refl}
use Rattle.chk_site.specs.History.{History, Every, is_stopped}
use Rattle.chk_site.specs.Site.{Adds}
use Rattle.chk_site.specs.Runs.{Leads, anyhow}
use Rattle.chk_site.proofs.Runs.{adds_as}
use Rattle.chk_site.proofs.Leads.{leads_as, leads_then}
use Rattle.chk_replace.specs.Load.{Has}
use Rattle.chk_chunk.specs.Keys.{Chunk}
use Rattle.chk_world.specs.Books.{End}
use Rattle.chk_world.specs.Names.{ArchiveFolder, Name, BookFile, SegmentFile, read}
use Rattle.chk_world.specs.Places.{As}
use Rattle.chk_world.specs.Sight.{job, Sight, sight, AtJob}
use Rattle.chk_world.specs.JobSteps.{IsOf, ReadsFile, WritesTo, SparesFile}
use Rattle.chk_record_index.specs.Heads.{Head}
use Rattle.chk_record_index.specs.Faults.{IsOfRead}
use Rattle.chk_record_index.specs.declared.fault.JobFault.{JobFault}
use Rattle.chk_record_index.specs.declared.fault.JobFault.TheVariants.{Outside, Damaged, Spent, NoMemory}
use Rattle.chk_archive_plan.specs.Passes.{head_in}
use Rattle.chk_book.specs.declared.segmenter.Segmenter.{Segmenter}
use Rattle.chk_record_reader.specs.ReadBack.{value_held}
use Rattle.chk_record_reader.specs.declared.reader.RecordReader.{RecordReader}
use Rattle.chk_archive_parts.specs.Gathering.{held, held_at, AreSound, CanBeRead, own_book_file, own_segment, shown_sink}
use Rattle.chk_archive_parts.specs.Records.{AreRecords}
use Rattle.chk_archive_parts.specs.Fetching.{head_file, IsRecordAt, AreWindows, CanFetch, Fetched}
use Rattle.chk_archive_parts.proofs.OneFile.{reads_in}
use Rattle.chk_archive_parts.proofs.FromKnown.{from_known, reach}
use Rattle.chk_archive_parts.proofs.OneSegment.{quiet_write}
use Rattle.chk_world.proofs.Lifts.{no_write_starts}
use Rattle.chk_archive_parts.proofs.Fetches.{one_of_files}
use Rattle.chk_demux_split.specs.Splitting.{Splitting}
use Rattle.chk_demux.specs.Working.{EndsSo, Failed}
use Rattle.chk_demux.specs.Writes.{SameBut, PutSoFar, IsOutput}
use Rattle.chk_demux.specs.Giving.{IsSplitting, IsPlaced, chunks_of_fed}
use Rattle.chk_demux.specs.Splitting.{ends_past, past_of, past_in, RunsSo, SplitSoFar}
use Rattle.chk_demux.specs.declared.output.Output.{Output}
use Rattle.chk_demux.proofs.Ends.{ends_bottom}
use Rattle.chk_demux.proofs.Places.{D, record_at, not_past, is_past, is_placed}

-- the job's files but the segment under writing are as they were
held_still : (v u : Sight) (k : ℕ) (n : Name) → SameBut k v u → CanBeRead v n → held_at u n ≡ held_at v n
held_still v u k n b own_book_file = b.own (BookFile ArchiveFolder) refl
held_still v u k n b (own_segment j count) = b.own (SegmentFile ArchiveFolder j) refl
held_still v u k n b (shown_sink x shown) = b.sinks x

module _ (v : Sight) (files : List (List ℕ)) (heads : List Head) (cs outs : List Chunk) (e : End) (from : ℕ)
    (records : AreRecords v files heads cs) (runs : RunsSo cs e from) (i : ℕ) (low : i < length heads) (o : Output)
    (r : RecordReader) (s : Splitting) (b : Bool) where
  abbrev pub P : Sight → Type 0
  P u = SplitSoFar v files heads cs outs e from i b o r s u

  abbrev Fed : ℕ → List ℕ
  Fed n = past_in from e.stream (take n cs)

  -- a record that isn't past the offset is passed
  pub passed : ends_past e from (head_in heads i) ≡ false → (u : Sight) → P u
      → SplitSoFar v files heads cs outs e from (i + 1) b o r s u
  passed misses u p =
      let same : Fed (i + 1) ≡ Fed i = not_past v files heads cs e from records runs.bytes i low misses in
      record {
        output = subst (λ l. IsOutput v (outs ++ chunks_of_fed heads e from b l) o u) (sym same) p.output;
        windows = p.windows;
        splits = subst (λ l. IsSplitting b l s) (sym same) p.splits;
      }

  abbrev pub Own : Chunk
  Own = D v files heads cs e from records runs.bytes i low

  abbrev pub W : List ℕ
  W = head_file files heads i

  is : IsRecordAt v files heads i Own
  is = record_at v files heads cs e from records runs.bytes i low

  can : CanBeRead v (read W)
  can = (records.sound W (one_of_files v files heads i Own records.sound is)).can

  listing_still : (o : Option Segmenter) (outs : List Chunk) (u : Sight) → PutSoFar v outs o u → u.listing ≡ v.listing
  listing_still None outs u p = ap (λ (t : Sight). t.listing) p.1
  listing_still (Some g) outs u p = p.same.listing

  file_still : (o : Option Segmenter) (outs : List Chunk) (u : Sight) → PutSoFar v outs o u → held u W ≡ held v W
  file_still None outs u p = ap (λ (t : Sight). held t W) p.1
  file_still (Some g) outs u p = held_still v u g.number (read W) p.same can

  module _ (stamped : List (List ℕ)) (t : RecordReader) (result : Result (Unit {0}) JobFault) {old mid : Option History}
      (raw : (v : Sight) (c : Chunk) → AreSound v files → IsRecordAt v files heads i c
      → Adds old mid (Leads (anyhow (SparesFile W)) (CanFetch v files heads i r) (Fetched v files heads i c t result)))
      (own : Adds old mid (Every (IsOf ReadsFile))) where
    led : Adds old mid (Leads (As stamped job) (AtJob stamped P)
        (λ h. AtJob stamped P h × (is_stopped h ≡ false → AreWindows v files r
        → Fetched v files heads i Own t result h)))
    led =
        reads_in stamped P v W can (λ u p. listing_still o.segmenter _ u p.output.so_far)
        (λ u p. file_still o.segmenter _ u p.output.so_far)
        (λ h. AreWindows v files r → Fetched v files heads i Own t result h)
        (adds_as (Leads (anyhow (SparesFile W)) (Has W (held v W))
        (λ h. AreWindows v files r → Fetched v files heads i Own t result h)) (raw v Own records.sound is)
        (λ added history l. record { leads = λ others h x. l.leads others (h, x); own = l.own }))
        own

    -- it couldn't be fetched
    pub not_fetched : {U : Type 0} (Q : U → Sight → Type 0) (fault : JobFault) → result ≡ Err fault → IsOfRead fault
        → Adds old mid (Leads (As stamped job) (AtJob stamped P) (EndsSo stamped Q (Err fault)))
    not_fetched Q fault e only = leads_as (λ h k. k) (λ h z. go fault e only h z.0 z.1) led
      where
        go : (fault : JobFault) → result ≡ Err fault → IsOfRead fault → (h : History) → AtJob stamped P h
            → (is_stopped h ≡ false → AreWindows v files r → Fetched v files heads i Own t result h)
            → Failed stamped fault h
        go (Outside call) e only h p f = p.legal
        go (Damaged name at) e only h p f = record {
          legal = p.legal;
          may_act = p.may_act;
          alive = λ runs. subst (λ x. Fetched v files heads i Own t x h) e (f runs (p.alive runs).windows);
        }
        go (Spent n) e only h p f = absurd only
        go NoMemory e only h p f = p.legal

    abbrev pub X : Type 0
    X = AreWindows v files t × (value_held t ≡ Own.value)

    is_fetched : (value : Unit {0}) → result ≡ Ok value
        → Adds old mid (Leads (As stamped job) (AtJob stamped P) (AtJob stamped (λ u. P u × X)))
    is_fetched value e =
        leads_as (λ h k. k)
        (λ h z. record {
          legal = z.0.legal;
          may_act = z.0.may_act;
          alive = λ runs.
              let p = z.0.alive runs in
              (p, subst (λ x. Fetched v files heads i Own t x h) e (z.1 runs p.windows));
        })
        led

    -- it is, and what it has from the offset on is split
    module _ (value : Unit {0}) (done : result ≡ Ok value) (passes : ends_past e from (head_in heads i) ≡ true)
        (given : List ℕ) (begin : ℕ) (begins : begin ≡ (head_in heads i).begin)
        (given_is : given ≡ drop (from - begin) (value_held t)) (n : Output) (q : Splitting)
        (z : Result (Unit {0}) JobFault) {new : Option History} (w : List ℕ)
        (writes : Adds mid new (Every (IsOf (WritesTo w))))
        (splits : (fed : List ℕ) → IsSplitting b fed s → (value : Unit {0}) → z ≡ Ok value
        → IsSplitting b (fed ++ given) q)
        (told : (fed : List ℕ) → IsSplitting b fed s → IsPlaced heads e i from (fed ++ given)
        → Adds mid new (Leads (As stamped job)
        (AtJob stamped (IsOutput v (outs ++ chunks_of_fed heads e from b fed) o))
        (EndsSo stamped (λ value u. IsOutput v (outs ++ chunks_of_fed heads e from b (fed ++ given)) n u) z))) where
      given_so : X → given ≡ past_of from Own
      given_so x =
          given_is ∙ ap₂ (λ m l. drop (from - m) l)
          (begins ∙ (record_at v files heads cs e from records runs.bytes i low).begin) x.1

      all_so : X → Fed i ++ given ≡ Fed (i + 1)
      all_so x =
          ap (λ l. Fed i ++ l) (given_so x)
          ∙ sym (is_past v files heads cs e from records runs.bytes i low passes)

      ended : (z : Result (Unit {0}) JobFault) → X
          → ((value : Unit {0}) → z ≡ Ok value → IsSplitting b (Fed i ++ given) q) → (h : History)
          → EndsSo stamped (λ (value : Unit {0}) u. IsOutput v (outs ++ chunks_of_fed heads e from b (Fed i ++ given)) n u) z h
          → EndsSo stamped (λ (value : Unit {0}) u. SplitSoFar v files heads cs outs e from (i + 1) b n t q u) z h
      ended (Ok value) x split h k = record {
        legal = k.legal;
        may_act = k.may_act;
        alive = λ runs.
            let now = split value refl in
            record {
              output = subst (λ l. IsOutput v (outs ++ chunks_of_fed heads e from b l) n (sight h)) (all_so x) (k.alive runs);
              windows = x.0;
              splits = subst (λ l. IsSplitting b l q) (all_so x) now;
            };
      }
      ended (Err fault) x split h k = k

      pub record_split : Adds old new (Leads (As stamped job) (AtJob stamped P)
          (EndsSo stamped (λ value u. SplitSoFar v files heads cs outs e from (i + 1) b n t q u) z))
      record_split =
          let C : History → Type 0 =
          EndsSo stamped (λ value u. SplitSoFar v files heads cs outs e from (i + 1) b n t q u) z in
          leads_then (is_fetched value done)
          (from_known stamped (WritesTo w) (no_write_starts w) (quiet_write w) (λ u. P u × X) C writes
          (λ h k going.
          let px = k.alive going in
          let fed = Fed i in
          let placed : IsPlaced heads e i from (fed ++ given) =
          subst (λ l. IsPlaced heads e i from (fed ++ l)) (sym (given_so px.1))
          (is_placed v files heads cs e from records runs.bytes i low passes runs) in
          reach stamped h (AtJob stamped (IsOutput v (outs ++ chunks_of_fed heads e from b fed) o)) C
          (leads_as (λ h k. k) (λ g j. ended z px.1 (λ value e. splits fed px.0.splits value e) g j) (told fed px.0.splits placed))
          (record { legal = k.legal; may_act = k.may_act; alive = λ still. px.0.output }))
          (λ h y. ends_bottom stamped (λ value u. SplitSoFar v files heads cs outs e from (i + 1) b n t q u) z h y))
