-- A stream is split from its first chunk to its last one, and all streams in turn.
use Rattle.std.proofs.Common.{◌≡◌, inl, inr, Option, Ok, Err, Result, ℕ, zero, suc, ◌+◌, ◌-◌, ◌<◌, ◌≤◌, Bool, true, false, List, [], ◌∷◌, ◌++◌, length, take, map, ap, sym, subst, ◌∙◌, refl, arith, append-nil}
use Rattle.std.specs.Prelude.{slice_index_or}
use Rattle.std.proofs.lemmas.Grind.{flat_map-append}
use Rattle.std.proofs.lemmas.List.{take_more}
use Rattle.std.proofs.lemmas.List.Sums.{sum_by-append}
use Rattle.chk_bytes.specs.Words.{joined}
use Rattle.chk_chunk.specs.Keys.{Chunk}
use Rattle.chk_world.specs.Books.{End, Book}
use Rattle.chk_world.specs.Sight.{job, Sight, AtJob}
use Rattle.chk_record_index.specs.Heads.{Head}
use Rattle.chk_record_reader.specs.declared.reader.RecordReader.{RecordReader}
use Rattle.chk_archive_parts.specs.Fetching.{AreWindows}
use Rattle.chk_archive_parts.specs.Records.{AreRecords}
use Rattle.chk_demux_split.specs.Splitting.{Splitting, fresh, pieces_of}
use Rattle.chk_site.specs.Acts.{Deed, Starts}
use Rattle.chk_site.specs.History.{History}
use Rattle.chk_site.specs.Site.{Adds}
use Rattle.chk_site.specs.Runs.{Leads}
use Rattle.chk_site.proofs.Leads.{leads_as, leads_then}
use Rattle.chk_world.specs.Places.{As}
use Rattle.chk_world.specs.JobSteps.{ReadsFile, reads, asks, ReadsOrWrites}
use Rattle.chk_world.proofs.ToldCalls.{talks}
use Rattle.chk_record_index.specs.declared.fault.JobFault.{JobFault}
use Rattle.chk_archive_parts.proofs.FromKnown.{with_fact}
use Rattle.chk_archive_parts.proofs.OneSegment.{quiet_write}
use Rattle.chk_world.proofs.Lifts.{no_write_starts}
use Rattle.chk_demux.specs.Working.{EndsSo, Worked}
use Rattle.chk_demux.specs.Writes.{IsOutput}
use Rattle.chk_demux.specs.Giving.{IsSplitting, chunks_of_fed, pending_of}
use Rattle.chk_demux.specs.Splitting.{past_in, RunsSo, HoldsStream, SplitSoFar, stream_chunks, stream_left, all_chunks, all_left}
use Rattle.chk_demux.specs.declared.output.Output.{Output}
use Rattle.chk_demux.proofs.Ends.{at_as, so_fails, so_done}
use Rattle.chk_demux.proofs.HeadsInOrder.{none_before, none_behind}
use Rattle.chk_book.proofs.Works.{own_of}
use Rattle.chk_demux.proofs.Feeding.{fresh_splits, held_size}

pub none_fed : (heads : List Head) (e : End) (from : ℕ) (b : Bool) → chunks_of_fed heads e from b [] ≡ []
none_fed heads e from true = refl
none_fed heads e from false = refl

module _ (v : Sight) (files : List (List ℕ)) (heads : List Head) (cs outs : List Chunk) (e : End) (from : ℕ) (b : Bool)
    (o : Output) (r : RecordReader) (s : Splitting) (u : Sight) where
  module _ (first past : ℕ) (low : first ≤ past) (high : past ≤ length heads) (records : AreRecords v files heads cs)
      (runs : RunsSo cs e from) (holds : HoldsStream heads e.stream first past) where
    before : past_in from e.stream (take first cs) ≡ []
    before = none_before v files heads cs e from records runs.bytes first past low high holds

    behind : past_in from e.stream cs ≡ past_in from e.stream (take past cs)
    behind = none_behind v files heads cs e from records runs.bytes first past low high holds

    pub stream_begun : s ≡ fresh b → IsOutput v outs o u × AreWindows v files r
        → SplitSoFar v files heads cs outs e from first b o r s u
    stream_begun is p = record {
      output = subst (λ l. IsOutput v l o u)
          (sym (ap (λ l. outs ++ chunks_of_fed heads e from b l) before
          ∙ (ap (λ l. outs ++ l) (none_fed heads e from b) ∙ append-nil outs))) p.0;
      windows = p.1;
      splits = subst (λ l. IsSplitting b l s) (sym before) (subst (IsSplitting b []) (sym is) (fresh_splits b));
    }

    pub stream_ended : SplitSoFar v files heads cs outs e from past b o r s u
        → IsOutput v (outs ++ chunks_of_fed heads e from b (past_in from e.stream cs)) o u
        × AreWindows v files r
        × (pending_of s ≡ length (past_in from e.stream cs) - length (joined (pieces_of b (past_in from e.stream cs))))
    stream_ended p =
        let held = held_size b (past_in from e.stream cs) s (subst (λ l. IsSplitting b l s) (sym behind) p.splits) in (
          subst (λ l. IsOutput v (outs ++ chunks_of_fed heads e from b l) o u) (sym behind) p.output,
          p.windows,
          omega (arith, held),
        )

-- one stream more
module _ (types : List (List ℕ)) (b : Book) (heads : List Head) (cs : List Chunk) (ends : List End) (i : ℕ) (low : i < length ends)
    (e : End) (is : slice_index_or ends i e ≡ e) where
  ends_more : take (i + 1) ends ≡ take i ends ++ e ∷ []
  ends_more = take_more ends i e low ∙ ap (λ x. take i ends ++ x ∷ []) is

  pub chunks_more : all_chunks types b heads cs (take (i + 1) ends)
      ≡ all_chunks types b heads cs (take i ends) ++ stream_chunks types b heads cs e
  chunks_more =
      ap (all_chunks types b heads cs) ends_more
      ∙ (flat_map-append (stream_chunks types b heads cs) (take i ends) (e ∷ [])
      ∙ ap (λ l. all_chunks types b heads cs (take i ends) ++ l) (append-nil (stream_chunks types b heads cs e)))

  pub left_more : all_left types b cs (take (i + 1) ends) ≡ all_left types b cs (take i ends) + stream_left types b cs e
  left_more =
      ap (all_left types b cs) ends_more
      ∙ (sum_by-append (stream_left types b cs) (take i ends) (e ∷ [])
      ∙ ap (λ n. all_left types b cs (take i ends) + n) (let z : 0 + stream_left types b cs e ≡ stream_left types b cs e = omega arith in z))

-- an element of the ends as they are seen
pub seen_at : {X Y : Type 0} (f : X → Y) (xs : List X) (i : ℕ) (d : X) → slice_index_or (map f xs) i (f d) ≡ f (slice_index_or xs i d)
seen_at f [] i d = refl
seen_at f (x ∷ xs) zero d = refl
seen_at f (x ∷ xs) (suc i) d = seen_at f xs i d

-- ---- one stream behind others

pub reads_or_writes_start : (w : List ℕ) → ReadsOrWrites w Starts → ⊥
reads_or_writes_start w (inl k) = elim k [ ]
reads_or_writes_start w (inr k) = no_write_starts w k

pub quiet_reads_or_writes : (w : List ℕ) (call : Deed) → ReadsOrWrites w call → talks call ≡ false
quiet_reads_or_writes w call (inl k) = quiet_read call k
  where
    quiet_read : (call : Deed) → ReadsFile call → talks call ≡ false
    quiet_read call (reads name at max) = refl
    quiet_read call (asks name) = refl
quiet_reads_or_writes w call (inr k) = quiet_write w call k

module _ (stamped : List (List ℕ)) (w : List ℕ) (A : History → Type 0) (P Q : Sight → Type 0) (X : Type 0)
    (R : ℕ → Sight → Type 0) (q : Result ℕ JobFault) {old mid new : Option History}
    (first : Adds old mid (Leads (As stamped job) A (AtJob stamped (λ u. P u × X))))
    (second : Adds mid new (Leads (As stamped job) (AtJob stamped P) (EndsSo stamped R q)))
    (works : Adds mid new (Worked (ReadsOrWrites w) q)) where
  pub stream_fails : {U : Type 0} (S : U → Sight → Type 0) (fault : JobFault) → q ≡ Err fault
      → Adds old new (Leads (As stamped job) A (EndsSo stamped S (Err fault)))
  stream_fails S fault e =
      leads_then first
      (leads_as (λ h k. at_as stamped (λ u. P u × X) P (λ u p. p.0) h k) (λ h k. k)
      (so_fails stamped (AtJob stamped P) R S q fault e second))

  pub stream_done : (n : ℕ) → q ≡ Ok n
      → Adds old new (Leads (As stamped job) A (AtJob stamped (λ u. R n u × X)))
  stream_done n e =
      leads_then first
      (leads_as (λ h k. k)
      (λ h k. record { legal = k.0.legal; may_act = k.0.may_act; alive = λ runs. (k.0.alive runs, k.1 runs) })
      (with_fact stamped (ReadsOrWrites w) (reads_or_writes_start w) (quiet_reads_or_writes w) X P (AtJob stamped (R n))
      (own_of (ReadsOrWrites w) q works) (so_done stamped (AtJob stamped P) R q n e second)))
