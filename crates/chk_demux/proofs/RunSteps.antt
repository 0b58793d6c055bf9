-- What the parts of a demux run lead to, up to its end.
use Rattle.std.proofs.Common.{◌≡◌, inl, inr, ℕ, ◌-◌, ◌^◌, ◌<◌, ◌&&◌, Bool, true, false, nat_eq, nat_lt, arith, Some, List, [], Option, None, Ok, Err, Result, ap, sym, subst, ◌∙◌, refl}
use Rattle.std.specs.Prelude.{codes, length, IsTrue, IfOk, IfErr}
use Rattle.std.proofs.lemmas.Bool.{and_parts}
use Rattle.std.proofs.lemmas.List.{nil_from_length}
use Rattle.chk_world.proofs.NameTests.{nat_same, nat_self}
use Rattle.chk_book.specs.declared.segmenter.Segmenter.{Segmenter}
use Rattle.chk_demux.proofs.Outputs.{none_at_last}
use Rattle.chk_site.specs.Acts.{Deed}
use Rattle.chk_site.specs.History.{History, Every, is_stopped}
use Rattle.chk_site.specs.Site.{Adds}
use Rattle.chk_site.specs.Runs.{Leads}
use Rattle.std.proofs.lemmas.Option.{none-some}
use Rattle.chk_site.proofs.Runs.{adds_as}
use Rattle.chk_site.proofs.Leads.{leads_as, leads_then}
use Rattle.chk_chunk.specs.Keys.{Chunk}
use Rattle.chk_world.specs.Names.{DemuxFolder}
use Rattle.chk_world.specs.Books.{Book, ends_rise}
use Rattle.chk_world.specs.Places.{As}
use Rattle.chk_world.specs.Sight.{job, Sight, sight, own_book, AtJob}
use Rattle.chk_world.specs.JobSteps.{IsOf, ReadsFile, ReadsOrWrites}
use Rattle.chk_record_index.specs.declared.fault.JobFault.{JobFault}
use Rattle.chk_record_index.specs.declared.fault.JobFault.TheVariants.{Outside, Damaged, Spent, NoMemory}
use Rattle.chk_record_index.specs.Faults.{FailsLast, IsOfRead}
use Rattle.chk_record_index.specs.Pieces.{AsksInPieces}
use Rattle.chk_record_index.specs.Heads.{Head}
use Rattle.chk_record_index.specs.Order.{in_head_order}
use Rattle.chk_book.specs.Books.{book_view}
use Rattle.chk_book.specs.Folders.{segment_name}
use Rattle.chk_record_reader.specs.Segments.{names_of}
use Rattle.chk_record_reader.specs.Checking.{AllGoWell, ToldOfSome}
use Rattle.chk_record_reader.specs.Archives.{ToldBreak}
use Rattle.chk_archive_parts.specs.Gathering.{heads_of, Found}
use Rattle.chk_archive_parts.specs.Records.{AreRecords}
use Rattle.chk_archive_parts.proofs.FromKnown.{from_known, reach, reach_known, with_fact}
use Rattle.chk_demux.specs.Beginning.{HasBegun, HasBooks, Begins, starts as begins_it, only_reads as begins_reading}
use Rattle.chk_demux.specs.Demuxed.{Earlier, Begun, Demuxed, DemuxesBy, starts, only_reads, writes_records, replaces_book, WritesBook, writes_segment, replaces}
use Rattle.chk_demux.specs.Enough.{Enough}
use Rattle.chk_demux.specs.Running.{IsReady, Ran, RunsOn, CanSplit, archive_heads, Reports, goes_reading, goes_writing, goes_replacing}
use Rattle.chk_demux.specs.Splitting.{all_chunks, all_left, SplitAll, StreamsRise}
use Rattle.chk_demux.specs.Working.{Worked, Failed, EndsSo}
use Rattle.chk_demux.specs.Writes.{IsFree, IsWriter, IsOutput, SoFar, PutSoFar, HasSome, bytes_of}
use Rattle.chk_demux.specs.Entering.{MayEnter, Entered}
use Rattle.chk_demux.specs.declared.beginning.Books.{Books}
use Rattle.chk_demux.specs.declared.output.Output.{Output}
use Rattle.chk_demux.specs.declared.report.DemuxReport.{DemuxReport}
use Rattle.chk_demux.proofs.Ends.{at_as, ends_bottom, so_fails, so_done, no_more}
use Rattle.chk_archive_parts.proofs.Published.{replaces_no_start, quiet_replace}
use Rattle.chk_demux.proofs.RunFacts.{CanRun, News}
use Rattle.chk_demux.proofs.Streams.{reads_or_writes_start, quiet_reads_or_writes}
use Rattle.chk_archive_parts.proofs.Works.{works_as}
use Rattle.chk_book.proofs.Works.{works_then, own_of, worked}
use Rattle.chk_archive_parts.proofs.OneSegment.{quiet_write}
use Rattle.chk_world.proofs.Lifts.{no_write_starts}
use Rattle.chk_site.specs.Acts.{Starts}
use Rattle.chk_world.proofs.ToldCalls.{talks}

-- the calls that enter a segment are no starts, and quiet
enters_start : (k : ℕ) → WritesBook k Starts → ⊥
enters_start k (writes_segment c p) = no_write_starts _ p
enters_start k (replaces c p) = replaces_no_start (codes "demux") p

quiet_enter : (k : ℕ) (call : Deed) → WritesBook k call → talks call ≡ false
quiet_enter k call (writes_segment c p) = quiet_write _ c p
quiet_enter k call (replaces c p) = quiet_replace (codes "demux") c p

-- ---- the heads

-- where all streams' records run none is told of
none_told : (folder : List ℕ) (b : Book) (names : List (List ℕ)) (heads : List Head) → AllGoWell b.ends heads
    → (name : List ℕ) (at : ℕ) → ToldOfSome folder b names heads (Damaged name at) → ⊥
none_told folder b names heads well name at bad = go bad.1
  where
    go : ToldBreak folder b names bad.0 heads (Damaged name at) → ⊥
    go (inl one) = none-some one.head (sym (well bad.0).0 ∙ one.is)
    go (inr one) = one.1 (well bad.0).1

module _ (stamped : List (List ℕ)) (v : Sight) (names : List (List ℕ)) (q : Result (List Head) JobFault)
    (only : IfErr q IsOfRead) {old mid : Option History}
    (told : Adds old mid (Leads (As stamped job) (AtJob stamped (λ u. u ≡ v)) (Found stamped v names q))) where
  abbrev IsFound : List Head → Sight → Type 0
  IsFound heads u = (u ≡ v) × (heads ≡ heads_of v 0 names)

  abbrev IsSorted : List Head → Sight → Type 0
  IsSorted heads u = (u ≡ v) × (heads ≡ in_head_order (heads_of v 0 names))

  found : Adds old mid (Leads (As stamped job) (AtJob stamped (λ u. u ≡ v)) (EndsSo stamped IsFound q))
  found = leads_as (λ h z. z) (λ h z. go q only h z) told
    where
      go : (q : Result (List Head) JobFault) → IfErr q IsOfRead → (h : History) → Found stamped v names q h
          → EndsSo stamped IsFound q h
      go (Ok heads) read h z = z
      go (Err (Outside call)) read h z = z
      go (Err (Damaged name place)) read h z = z
      go (Err (Spent n)) read h z = absurd read
      go (Err NoMemory) read h z = z

  pub not_found : (fault : JobFault) → q ≡ Err fault
      → Adds old mid (Leads (As stamped job) (AtJob stamped (λ u. u ≡ v)) (EndsSo stamped IsSorted (Err fault)))
  not_found fault is = so_fails stamped (AtJob stamped (λ u. u ≡ v)) IsFound IsSorted q fault is found

  module _ (heads : List Head) (is : q ≡ Ok heads) where
    pub not_sorted : Adds old mid (Leads (As stamped job) (AtJob stamped (λ u. u ≡ v)) (EndsSo stamped IsSorted (Err NoMemory)))
    not_sorted =
        no_more stamped (AtJob stamped (λ u. u ≡ v)) (IsFound heads) IsSorted
        (so_done stamped (AtJob stamped (λ u. u ≡ v)) IsFound q heads is found)

    -- the records don't run, which never is where they do
    pub not_checked : (b : Book) → AllGoWell b.ends (heads_of v 0 names) → (fault : JobFault)
        → ToldOfSome (codes "archive") b names heads fault
        → Adds old mid (Leads (As stamped job) (AtJob stamped (λ u. u ≡ v)) (EndsSo stamped IsSorted (Err fault)))
    not_checked b well fault bad =
        leads_as (λ h z. z) (λ h z. go fault bad h z)
        (so_done stamped (AtJob stamped (λ u. u ≡ v)) IsFound q heads is found)
      where
        go : (fault : JobFault) → ToldOfSome (codes "archive") b names heads fault → (h : History)
            → AtJob stamped (IsFound heads) h → Failed stamped fault h
        go (Outside call) bad h z = absurd bad.1
        go (Damaged name place) bad h z = record {
          legal = z.legal;
          may_act = z.may_act;
          alive = λ runs.
              none_told (codes "archive") b names heads (subst (AllGoWell b.ends) (sym (z.alive runs).1) well) name place bad;
        }
        go (Spent n) bad h z = absurd bad.1
        go NoMemory bad h z = z.legal

    pub all_sorted : (sorted : List Head) → sorted ≡ in_head_order heads
        → Adds old mid (Leads (As stamped job) (AtJob stamped (λ u. u ≡ v)) (AtJob stamped (IsSorted sorted)))
    all_sorted sorted order =
        leads_as (λ h z. z)
        (λ h z. at_as stamped (IsFound heads) (IsSorted sorted) (λ u p. (p.0, order ∙ ap in_head_order p.1)) h z)
        (so_done stamped (AtJob stamped (λ u. u ≡ v)) IsFound q heads is found)

-- ---- the split

-- nothing is written at first
pub nothing_put : (v : Sight) (o : Output) → o.taken ≡ 0 → o.entries ≡ 0 → o.segmenter ≡ None → IsOutput v [] o v
nothing_put v o taken entries segmenter = record {
  taken = taken;
  entries = entries;
  so_far = subst (λ s. PutSoFar v [] s v) (sym segmenter) (inl refl, refl);
  some = subst (λ s. HasSome s []) (sym segmenter) tt;
}

module _ (stamped types : List (List ℕ)) (a b : Book) (v : Sight) (cs : List Chunk) (k : CanSplit a b v cs) (o n : Output)
    (none : IsOutput v [] o v) (names : List (List ℕ)) (are : names ≡ names_of (codes "archive") a) where
  abbrev SplitSo : ℕ → Sight → Type 0
  SplitSo left u = IsOutput v (all_chunks types b (archive_heads v a) cs a.ends) n u × (left ≡ all_left types b cs a.ends)

  abbrev W : List ℕ
  W = segment_name (codes "demux") b.next

  abbrev HasHeads : List Head → Sight → Type 0
  HasHeads heads u = (u ≡ v) × Enough v a b names (archive_heads v a) cs heads

  module _ (r : Result (List Head) JobFault) {old mid : Option History}
      (first : Adds old mid (Leads (As stamped job) (AtJob stamped (λ u. u ≡ v)) (EndsSo stamped HasHeads r))) where
    pub no_heads : (fault : JobFault) → r ≡ Err fault
        → Adds old mid (Leads (As stamped job) (AtJob stamped (λ u. u ≡ v)) (EndsSo stamped SplitSo (Err fault)))
    no_heads fault is = so_fails stamped (AtJob stamped (λ u. u ≡ v)) HasHeads SplitSo r fault is first

    pub split_so : (heads : List Head) → r ≡ Ok heads → (q : Result ℕ JobFault) {new : Option History}
        → Adds mid new (Worked (ReadsOrWrites (segment_name (codes "demux") b.next)) q)
        → ((ds : List Chunk) → AreRecords v names heads ds → IsFree v b.next → SplitAll ds a.ends b
        → StreamsRise heads → IsTrue (ends_rise b.ends) → Adds mid new (Leads (As stamped job) (AtJob stamped (IsOutput v [] o))
        (EndsSo stamped (λ left u. IsOutput v (all_chunks types b heads ds a.ends) n u
        × (left ≡ all_left types b ds a.ends)) q)))
        → Adds old new (Leads (As stamped job) (AtJob stamped (λ u. u ≡ v)) (EndsSo stamped SplitSo q))
    split_so heads is q {new} works told =
        leads_then (so_done stamped (AtJob stamped (λ u. u ≡ v)) HasHeads r heads is first)
        (from_known stamped (ReadsOrWrites W) (reads_or_writes_start W) (quiet_reads_or_writes W) (HasHeads heads)
        (EndsSo stamped SplitSo q) (own_of (ReadsOrWrites W) q works)
        (λ h z runs.
        let e = (z.alive runs).1 in
        reach stamped h (AtJob stamped (IsOutput v [] o)) (EndsSo stamped SplitSo q)
        (subst (λ m. Adds mid new (Leads (As stamped job) (AtJob stamped (IsOutput v [] o))
        (EndsSo stamped (λ left u. IsOutput v (all_chunks types b (archive_heads v a) cs a.ends) n u
        × (left ≡ m)) q))) (e.left types)
        (subst (λ l. Adds mid new (Leads (As stamped job) (AtJob stamped (IsOutput v [] o))
        (EndsSo stamped (λ left u. IsOutput v l n u
        × (left ≡ all_left types b e.chunks a.ends)) q))) (e.same types)
        (told e.chunks e.records k.free e.runs e.rise k.rises)))
        (at_as stamped (HasHeads heads) (IsOutput v [] o) (λ u p. subst (IsOutput v [] o) (sym p.0) none) h z))
        (λ h z. ends_bottom stamped SplitSo q h z))

-- ---- the numbers

-- records were put, and no number is left
pub some_lack : (next entries : ℕ) (b : Bool) → b ≡ (nat_eq next (2 ^ 63 - 1) && nat_lt 0 entries) → b ≡ true
    → (next ≡ 2 ^ 63 - 1) × (0 < entries)
some_lack next entries b is so =
    let p = and_parts (nat_eq next (2 ^ 63 - 1)) (nat_lt 0 entries) (sym is ∙ so) in
    let some = p.1 in
    (nat_same next (2 ^ 63 - 1) p.0, let z : 0 < entries = grind arith in z)

pub none_lack : (next entries : ℕ) (b : Bool) → b ≡ (nat_eq next (2 ^ 63 - 1) && nat_lt 0 entries) → b ≡ false
    → next ≡ 2 ^ 63 - 1 → entries ≡ 0
none_lack next entries b is not_so last =
    let none : nat_lt 0 entries ≡ false =
    sym (ap (λ t. t && nat_lt 0 entries) (subst (λ m. nat_eq next m ≡ true) last (nat_self next))) ∙ (sym is ∙ not_so) in
    let z : entries ≡ 0 = grind arith in z

-- ---- the run

module _ (stamped types : List (List ℕ)) (a b : Book) (v : Sight) (k : CanRun stamped types a b v) where
  abbrev pub Start : History → Type 0
  Start = AtJob stamped (λ u. u ≡ v)

  abbrev pub Outs : List Chunk
  Outs = News types a b v k.cs

  -- what was refused ends the run so
  ran_refused : (fault : JobFault) (h : History) → Failed stamped fault h → Ran stamped v (Err fault) h
  ran_refused (Outside call) h f = f
  ran_refused (Damaged name place) h f = f
  ran_refused (Spent n) h f =
      record { legal = f.legal; may_act = f.may_act; alive = λ runs. absurd (f.alive runs) }
  ran_refused NoMemory h f = f

  module _ (n : Output) (q : Result ℕ JobFault) {old new : Option History}
      (split : Adds old new (Leads (As stamped job) Start (EndsSo stamped
      (λ left u. IsOutput v Outs n u × (left ≡ all_left types b k.cs a.ends)) q))) where
    abbrev Split : ℕ → Sight → Type 0
    Split left u = IsOutput v Outs n u × (left ≡ all_left types b k.cs a.ends)

    pub not_split : (fault : JobFault) → q ≡ Err fault
        → Adds old new (Leads (As stamped job) Start (Ran stamped v (Err fault)))
    not_split fault is =
        leads_as (λ h z. z)
        (λ h z. ran_refused fault h (subst (λ q. EndsSo stamped Split q h) is z)) split

    -- ---- the entry

    -- no number is left for what was put
    pub none_left : (left : ℕ) → q ≡ Ok left → b.next ≡ 2 ^ 63 - 1 → 0 < n.entries → IsWriter b.next n.segmenter
        → Adds old new (Leads (As stamped job) Start (Ran stamped v (Err (Spent b.next))))
    none_left left done last some writer =
        leads_as (λ h z. z)
        (λ h z. record {
          legal = z.legal;
          may_act = z.may_act;
          alive = λ runs.
              let p = (z.alive runs).0 in
              let same : sight h ≡ v =
              (subst (λ s. PutSoFar v Outs s (sight h)) (none_at_last b.next last n.segmenter writer) p.so_far).1 in
              let count = p.entries in (
                last,
                record {
                  last = ap (λ (u : Sight). (own_book u DemuxFolder).next) same ∙ (ap (λ (x : Book). x.next) k.book ∙ last);
                  due = k.due h z.legal same (omega (arith, some, count));
                },
              );
        })
        (so_done stamped Start Split q left done split)

    -- where one is, all that was put is written
    all_written : (b.next ≡ 2 ^ 63 - 1 → n.entries ≡ 0) → n.entries ≡ length Outs → (s : Option Segmenter) (u : Sight)
        → PutSoFar v Outs s u → SoFar v Outs s u
    all_written number count None u (inl none, same) = (none, same)
    all_written number count None u (inr last, same) =
        let zero_now = number (sym k.can.free.next ∙ last) in
        (nil_from_length Outs (sym count ∙ zero_now), same)
    all_written number count (Some s) u p = p

    module _ (left : ℕ) (done : q ≡ Ok left) (number : b.next ≡ 2 ^ 63 - 1 → n.entries ≡ 0) (r : Result DemuxReport JobFault)
        {last : Option History}
        (enters : Adds new last (Worked (WritesBook b.next) r))
        (entered : (outs : List Chunk) → IsFree v b.next → MayEnter stamped v b outs
        → Adds new last (Leads (As stamped job) (AtJob stamped (SoFar v outs n.segmenter))
        (EndsSo stamped (λ (t : DemuxReport) u. Entered v b outs n.segmenter u) r))) where
      abbrev Counted : Type 0
      Counted = HasSome n.segmenter Outs × (n.taken ≡ bytes_of Outs) × (n.entries ≡ length Outs) × (left ≡ all_left types b k.cs a.ends)

      abbrev In : DemuxReport → Sight → Type 0
      In t u = Entered v b Outs n.segmenter u

      entered_so : Adds old last (Leads (As stamped job) Start
          (λ h. EndsSo stamped In r h × (is_stopped h ≡ false → Counted)))
      entered_so =
          leads_then
          (leads_as (λ h z. z)
          (λ h z. at_as stamped (Split left) (λ u. SoFar v Outs n.segmenter u × Counted)
          (λ u p. (all_written number p.0.entries n.segmenter u p.0.so_far, (p.0.some, p.0.taken, p.0.entries, p.1))) h z)
          (so_done stamped Start Split q left done split))
          (with_fact stamped (WritesBook b.next) (enters_start b.next) (quiet_enter b.next) Counted
          (SoFar v Outs n.segmenter) (EndsSo stamped In r) (own_of (WritesBook b.next) r enters)
          (entered Outs k.can.free k.may))

      pub all_ran : IfOk r (Reports n left) → Adds old last (Leads (As stamped job) Start (Ran stamped v r))
      all_ran counts = leads_as (λ h z. z) (λ h z. go r counts h z.0 z.1) entered_so
        where
          go : (r : Result DemuxReport JobFault) → IfOk r (Reports n left) → (h : History) → EndsSo stamped In r h
              → (is_stopped h ≡ false → Counted) → Ran stamped v r h
          go (Err fault) counts h z counted = ran_refused fault h z
          go (Ok report) counts h at counted = record {
            legal = at.legal;
            may_act = at.may_act;
            alive = λ runs.
                let c = counted runs in
                let count = c.2 in
                k.done h at.legal n.segmenter c.0 (at.alive runs)
                (λ some last. let none = number last in absurd (let z : ⊥ = omega (arith, some, count, none) in z)) report
                (record { taken = counts.0 ∙ c.1; entries = counts.1 ∙ c.2; left = counts.2 ∙ c.3 });
          }

-- ---- the calls

splits_on : (k : ℕ) (call : Deed) → ReadsOrWrites (segment_name (codes "demux") k) call → RunsOn call
splits_on k call (inl p) = goes_reading call p
splits_on k call (inr p) = goes_writing k call p

enters_on : (k : ℕ) (call : Deed) → WritesBook k call → RunsOn call
enters_on k call (writes_segment c p) = goes_writing k c p
enters_on k call (replaces c p) = goes_replacing c p

-- records that don't run are no call's fault
pub not_run : {T : Type 0} (U : Type 0) (value : T) (fault : JobFault) (b : Book) (names : List (List ℕ)) (heads : List Head)
    → ToldOfSome (codes "archive") b names heads fault → {old new : Option History}
    → Adds old new (Worked {T = T} RunsOn (Ok value)) → Adds old new (Worked {T = U} RunsOn (Err fault))
not_run U value (Outside call) b names heads bad told = absurd bad.1
not_run U value (Damaged name place) b names heads bad told =
    adds_as (Worked {T = U} RunsOn (Err (Damaged name place))) told
    (λ added history w. record { own = w.own; pieces = w.pieces; last = tt })
not_run U value (Spent n) b names heads bad told = absurd bad.1
not_run U value NoMemory b names heads bad told =
    adds_as (Worked {T = U} RunsOn (Err NoMemory)) told
    (λ added history w. record { own = w.own; pieces = w.pieces; last = tt })

pub gathers : {T : Type 0} (q : Result T JobFault) {old new : Option History} → Adds old new (Every (IsOf ReadsFile))
    → Adds old new (Every AsksInPieces) → Adds old new (FailsLast q) → Adds old new (Worked RunsOn q)
gathers q own pieces last = works_as ReadsFile RunsOn (λ call p. goes_reading call p) q (worked ReadsFile q own pieces last)

pub splits : {T U : Type 0} (k : ℕ) (s : Result T JobFault) (q : Result U JobFault) {old mid new : Option History}
    → Adds old mid (Worked RunsOn s) → Adds mid new (Worked (ReadsOrWrites (segment_name (codes "demux") k)) q)
    → Adds old new (Worked RunsOn q)
splits k s q before told =
    works_then RunsOn s q before (works_as (ReadsOrWrites (segment_name (codes "demux") k)) RunsOn (splits_on k) q told)

pub enters : {T U : Type 0} (k : ℕ) (s : Result T JobFault) (q : Result U JobFault) {old mid new : Option History}
    → Adds old mid (Worked RunsOn s) → Adds mid new (Worked (WritesBook k) q) → Adds old new (Worked RunsOn q)
enters k s q before told = works_then RunsOn s q before (works_as (WritesBook k) RunsOn (enters_on k) q told)

begins_by : (call : Deed) → Begins call → DemuxesBy call
begins_by call begins_it = starts
begins_by call (begins_reading c p) = only_reads c p

runs_by : (call : Deed) → RunsOn call → DemuxesBy call
runs_by call (goes_reading c p) = only_reads c p
runs_by call (goes_writing k c p) = writes_records k c p
runs_by call (goes_replacing c p) = replaces_book c p

pub begun_works : (r : Result Books JobFault) {old new : Option History} → Adds old new (Worked Begins r)
    → Adds old new (Worked DemuxesBy r)
begun_works r told = works_as Begins DemuxesBy begins_by r told

pub whole_works : (s : Result Books JobFault) (r : Result DemuxReport JobFault) {old mid new : Option History}
    → Adds old mid (Worked Begins s) → Adds mid new (Worked RunsOn r) → Adds old new (Worked DemuxesBy r)
whole_works s r before told =
    works_then DemuxesBy s r (begun_works s before) (works_as RunsOn DemuxesBy runs_by r told)

-- ---- from the start on

no_start : RunsOn Starts → ⊥
no_start (goes_reading c p) = reads_or_writes_start [] (inl p)
no_start (goes_writing k c p) = no_write_starts _ p
no_start (goes_replacing c p) = replaces_no_start (codes "demux") p

quiet_on : (call : Deed) → RunsOn call → talks call ≡ false
quiet_on call (goes_reading c p) = quiet_reads_or_writes [] c (inl p)
quiet_on call (goes_writing k c p) = quiet_write _ c p
quiet_on call (goes_replacing c p) = quiet_replace (codes "demux") c p

demuxed_bottom : (stamped : List (List ℕ)) (before : Earlier) (r : Result DemuxReport JobFault) (h : History)
    → AtJob stamped (λ u. ⊥) h → Demuxed stamped before r h
demuxed_bottom stamped before (Ok report) h z =
    record { legal = z.legal; may_act = z.may_act; alive = λ runs. absurd (z.alive runs) }
demuxed_bottom stamped before (Err (Outside call)) h z = z.legal
demuxed_bottom stamped before (Err (Damaged name at)) h z =
    record { legal = z.legal; may_act = z.may_act; alive = z.alive }
demuxed_bottom stamped before (Err (Spent n)) h z =
    record { legal = z.legal; may_act = z.may_act; alive = λ runs. absurd (z.alive runs) }
demuxed_bottom stamped before (Err NoMemory) h z = z.legal

module _ (stamped : List (List ℕ)) (before : Earlier) (s : Result Books JobFault) {old mid : Option History}
    (first : Adds old mid (Leads (As stamped job) (Begun stamped before) (HasBegun stamped before s))) where
  pub not_begun : IfErr s IsOfRead → (fault : JobFault) → s ≡ Err fault
      → Adds old mid (Leads (As stamped job) (Begun stamped before) (Demuxed stamped before (Err fault)))
  not_begun only fault is =
      leads_as (λ h z. z)
      (λ h z. go fault (subst (λ s. IfErr s IsOfRead) is only) h (subst (λ s. HasBegun stamped before s h) is z)) first
    where
      go : (fault : JobFault) → IsOfRead fault → (h : History) → HasBegun stamped before (Err fault) h
          → Demuxed stamped before (Err fault) h
      go (Outside call) read h z = z
      go (Damaged name place) read h z = z
      go (Spent n) read h z = absurd read
      go NoMemory read h z = z

  pub whole_run : (b : Books) → s ≡ Ok b → (r : Result DemuxReport JobFault) {new : Option History}
      → Adds mid new (Worked RunsOn r)
      → ((v : Sight) → IsReady stamped (book_view b.archive) (book_view b.demux) v
      → Adds mid new (Leads (As stamped job) (AtJob stamped (λ u. u ≡ v)) (Ran stamped v r)))
      → Adds old new (Leads (As stamped job) (Begun stamped before) (Demuxed stamped before r))
  whole_run b is r works second =
      leads_then
      (leads_as {B' = AtJob stamped (HasBooks before b)} (λ h z. z) (λ h z. subst (λ s. HasBegun stamped before s h) is z) first)
      (from_known stamped RunsOn no_start quiet_on (HasBooks before b) (Demuxed stamped before r) (own_of RunsOn r works)
      (λ h z runs.
      let p : HasBooks before b (sight h) = z.alive runs in
      reach_known stamped h (HasBooks before b) (Demuxed stamped before r)
      (leads_as (λ g j. j) (λ g j. subst (λ l. Demuxed stamped l r g) p.records j)
      (second (sight h)
      (record { history = h; legal = z.legal; is = refl; has_archive = p.archive; has_demux = p.demux }))) z)
      (λ h z. demuxed_bottom stamped before r h z))
