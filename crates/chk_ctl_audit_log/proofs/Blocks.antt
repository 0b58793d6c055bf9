-- Records in turn beside a log.
use Rattle.std.proofs.Common.{◌≡◌, ◌∙◌, ℕ, ◌+◌, ◌-◌, ◌<◌, ◌≤◌, false, List, []}
use Rattle.std.proofs.Common.{◌++◌, length, drop, take, Option, Result, Ok, Err, refl, sym, ap, ap₂}
use Rattle.std.proofs.Common.{subst, arith, length-append}
use Rattle.std.specs.Prelude.{flat_map}
use Rattle.std.proofs.Math.Seq.{take-add}
use Rattle.std.proofs.lemmas.Grind.{flat_map-append}
use Rattle.chk_site.specs.declared.acts.OutsideFault.{OutsideFault}
use Rattle.chk_site.specs.declared.acts.OutsideFault.TheVariants as site
use Rattle.chk_site.specs.declared.acts.Who.{Who}
use Rattle.chk_site.specs.Acts.{Deed, touches}
use Rattle.chk_site.specs.Files.{Files}
use Rattle.chk_site.specs.History.{History, Every}
use Rattle.chk_site.specs.Runs.{anyhow, Leads}
use Rattle.chk_site.specs.Site.{Adds}
use Rattle.chk_site.proofs.Runs.{adds_as}
use Rattle.chk_site.proofs.Leads.{leads_as, leads_none, leads_then, owned_anyhow}
use Rattle.chk_chunk.specs.Keys.{record_limit}
use Rattle.chk_world.specs.JobSteps.{IsOf, ReadsFile}
use Rattle.chk_record_index.specs.Heads.{Head}
use Rattle.chk_record_index.specs.declared.fault.JobFault.{JobFault}
use Rattle.chk_record_index.specs.declared.fault.JobFault.TheVariants as fault
use Rattle.chk_record_index.specs.Faults.{job_fault}
use Rattle.chk_book.proofs.Works.{as_kind}
use Rattle.chk_rotate.specs.Readers.{Reader}
use Rattle.chk_record_reader.specs.ReadBack.{HoldsNothing}
use Rattle.chk_record_reader.proofs.AllRead.{no_windows}
use Rattle.chk_join_sources.specs.declared.blocks.Block.{Block}
use Rattle.chk_join_sources.specs.Blocks.{AllOf, HoldsStream, StreamsRise}
use Rattle.chk_ctl_sum.specs.declared.rests.Rest.{Rest}
use Rattle.chk_ctl_sum.specs.Rests.{end_of, skip_of}
use Rattle.chk_ctl_sum.proofs.Blocks.{block_bytes}
use Rattle.chk_ctl_audit_log.specs.Ahead.{none, ReadsOn}
use Rattle.chk_ctl_audit_log.specs.Records.{BlockMet}
use Rattle.chk_ctl_audit_log.specs.Streams.{log_of, IsBegun, StreamMet}
use Rattle.chk_record_reader.specs.declared.reader.RecordReader.{RecordReader}
use Rattle.chk_record_reader.specs.ReadBack.{value_held}
use Rattle.chk_record_reader.specs.Segments.{AreSettled, HasFiles, SparesFiles}
use Rattle.chk_record_reader.specs.Archives.{value_in, AreWindows}
use Rattle.chk_record_reader.proofs.Frames.{spares_one, stays_so}
use Rattle.chk_join_sources.specs.declared.gathering.Side.{Side}
use Rattle.chk_join_sources.specs.Blocks.{head_in}
use Rattle.chk_join_sources.specs.Comparing.{values_between, value_there, IsSide}
use Rattle.chk_join_sources.specs.Reading.{Fetched}
use Rattle.chk_ctl_audit_log.specs.Placing.{reads, ReadsLogOf}
use Rattle.chk_ctl_sum.specs.Summing.{CanSum}
use Rattle.chk_ctl_sum.proofs.Blocks.{between_more, between_none}
use Rattle.chk_ctl_sum.proofs.Skipped.{drop_over, none_dropped}
use Rattle.chk_join_sources.proofs.AllCompared.{under}
use Rattle.chk_ctl_audit_log.specs.declared.ahead.Ahead.{Ahead}
use Rattle.chk_ctl_audit_log.specs.declared.comparing.Met.{Met}
use Rattle.chk_ctl_audit_log.specs.declared.comparing.Met.TheVariants.{All, Differs, Ends}
use Rattle.chk_ctl_audit_log.specs.Ahead.{beside, LogAt}
use Rattle.chk_ctl_audit_log.specs.Meeting.{RestMet}
use Rattle.chk_ctl_audit_log.specs.Records.{reads_file, reads_log, AreFirst, BlockParts, FetchedOne}
use Rattle.chk_ctl_audit_log.specs.Records.{PartsAt, ReadsBeside, RecordMet}

-- ---- steps

pub files_beside : (path : List ℕ) {old new : Option History} → Adds old new (Every (IsOf ReadsFile))
    → Adds old new (Every (IsOf (ReadsBeside path)))
files_beside path told =
    as_kind ReadsFile (ReadsBeside path) (λ call x. reads_file call x) told

pub logs_beside : (path : List ℕ) {old new : Option History}
    → Adds old new (Every (IsOf (ReadsLogOf path))) → Adds old new (Every (IsOf (ReadsBeside path)))
logs_beside path told =
    as_kind (ReadsLogOf path) (ReadsBeside path) (λ call x. reads_log call x) told

-- reads of a log leave files
log_quiet : (path w : List ℕ) (call : Deed) → ReadsLogOf path call → touches call w ≡ false
log_quiet path w call (reads p at max) = refl

pub log_leads : (path : List ℕ) (all : List (List ℕ)) (held : Files) {old new : Option History}
    → AreSettled all held → Adds old new (Every (IsOf (ReadsLogOf path)))
    → Adds old new (Leads (anyhow (SparesFiles all)) (HasFiles all held) (HasFiles all held))
log_leads path all held settled own =
    adds_as (Leads (anyhow (SparesFiles all)) (HasFiles all held) (HasFiles all held)) own
    (λ added history made. record {
      leads = λ s h w is.
          stays_so (ReadsLogOf path) w (held w) (log_quiet path w) (settled w is).0 added history
          made (spares_one all w is added history s) (h w is);
      own = owned_anyhow added history;
    })

-- ---- values

-- what is compared of a value stands behind what was
pub value_met : (who : Who) (from : Reader) (skip old new : ℕ) (taken value : List ℕ) (l : Ahead)
    (met : Met) (before now : Option History) → old ≡ skip - length taken
    → new ≡ old - length value
    → RestMet who from (drop skip taken) (drop old value) l before (Ok met) now
    → RecordMet {F = OutsideFault} who from skip taken value l new before (Ok met) now
value_met who from skip old new taken value l met before now is less rest = (
  subst (λ (bytes : List ℕ). PartsAt who from bytes met l before now)
      (ap (λ (k : ℕ). drop skip taken ++ drop k value) is ∙ sym (drop_over skip taken value))
      (go met rest),
  (let n = length-append taken value in
      let z : new ≡ skip - length (taken ++ value) = omega (arith, is, less, n) in z),
)
  where
    go : (met : Met) → RestMet who from (drop skip taken) (drop old value) l before (Ok met) now
        → PartsAt who from (drop skip taken ++ drop old value) met l before now
    go All x = x
    go (Differs at) x = x
    go (Ends at) x = x

-- reads of files come between
pub log_beside : (who : Who) (from : Reader) (passed : List ℕ) (l : Ahead)
    {before mid now : Option History} → LogAt who from passed l before mid
    → Adds mid now (Every (IsOf ReadsFile)) → LogAt who from passed l before now
log_beside who from passed l at own = record {
  text = at.text;
  reads = beside at.reads own;
  is = at.is;
  plain = at.plain;
  place = at.place;
}

-- ---- a record

module _ (all : List (List ℕ)) (held : Files) (side : Side) (index : ℕ) where
  -- the record is fetched, and then the log is read
  pub fetched_then : (path : List ℕ) (old new : RecordReader) (met : Met)
      {K : History → History → Type 0} {from mid to : Option History} → AreSettled all held
      → Adds from mid K
      → (AreWindows side.names.now held old → Adds from mid (Leads (anyhow (SparesFiles all))
      (HasFiles all held)
      (Fetched all side.names.now held (head_in side.heads.now index) new (Ok tt))))
      → Adds mid to (Every (IsOf (ReadsLogOf path)))
      → Adds from to (Leads (anyhow (SparesFiles all)) (CanSum all held side old)
      (FetchedOne all held side index new (Ok met)))
  fetched_then path old new met settled k told own =
      leads_then
      (leads_as (λ h x. x) (λ h x. (x.0, (x.1, x.2))) (under k told))
      (adds_as (Leads (anyhow (SparesFiles all))
      (λ h. HasFiles all held h × (AreWindows side.names.now held new
      × (value_held new ≡ value_there side held index)))
      (FetchedOne all held side index new (Ok met)))
      (log_leads path all held settled own)
      (λ added history x. record {
        leads = λ others had. ((x.leads others had.0, had.1.0), had.1.1);
        own = x.own;
      }))

  -- where the log can't be read, or the record
  pub log_fails : (old new : RecordReader) (f : OutsideFault) {K : History → History → Type 0}
      {from to : Option History} → Adds from to K
      → Adds from to (Leads (anyhow (SparesFiles all)) (CanSum all held side old)
      (FetchedOne all held side index new (Err (job_fault f))))
  log_fails old new f k =
      adds_as (Leads (anyhow (SparesFiles all)) (CanSum all held side old)
      (FetchedOne all held side index new (Err (job_fault f)))) k
      (λ added history x. record {
        leads = λ others had. said f (added ++ history);
        own = owned_anyhow added history;
      })
    where
      said : (f : OutsideFault) (h : History)
          → FetchedOne all held side index new (Err (job_fault f)) h
      said (site.Outside call) h = tt
      said site.NoMemory h = tt

  pub unfetched : (old new : RecordReader) (f : JobFault) {K : History → History → Type 0}
      {from to : Option History} → Adds from to K
      → (AreWindows side.names.now held old → Adds from to (Leads (anyhow (SparesFiles all))
      (HasFiles all held)
      (Fetched all side.names.now held (head_in side.heads.now index) new (Err f))))
      → Adds from to (Leads (anyhow (SparesFiles all)) (CanSum all held side old)
      (FetchedOne all held side index new (Err f)))
  unfetched old new f k told =
      leads_as (λ h x. x) (λ h x. said f h x) (under k told)
    where
      said : (f : JobFault) (h : History)
          → Fetched all side.names.now held (head_in side.heads.now index) new (Err f) h
          → FetchedOne all held side index new (Err f) h
      said (fault.Outside call) h x = tt
      said (fault.Damaged name at) h x = x
      said (fault.Spent n) h x = tt
      said fault.NoMemory h x = tt

-- ---- a block

-- these values were taken so far, and what follows the bytes that are left out is passed
pub record SoFar (who : Who) (side : Side) (old here : RecordReader) (from : Reader)
    (skip first index left : ℕ) (l : Ahead) (before now : Option History) : Type 0 where
  pub taken : List ℕ
  pub log : LogAt who from (drop skip taken) l before now
  pub left_is : left ≡ skip - length taken
  pub are : (most : ℕ) (all : List (List ℕ)) (held : Files) → most ≤ record_limit
      → AreSettled all held → IsSide most all held side
      → Adds before now (Leads (anyhow (SparesFiles all)) (CanSum all held side old)
      (λ history. CanSum all held side here history
      × (taken ≡ values_between side held first index)))

pub begun : (who : Who) (side : Side) (r : RecordReader) (from : Reader) (skip first : ℕ)
    (l : Ahead) (now : Option History) → LogAt who from [] l now now
    → SoFar who side r r from skip first first skip l now now
begun who side r from skip first l now at = record {
  taken = [];
  log = subst (λ (bytes : List ℕ). LogAt who from bytes l now now) (sym (none_dropped skip)) at;
  left_is = (let z : skip ≡ skip - 0 = omega arith in z);
  are = λ most all held few settled is.
      leads_none now (λ h x. (x, between_none side held first));
}

-- the record there was compared
pub record OneMet (who : Who) (side : Side) (old new : RecordReader) (from : Reader)
    (skip index before_left left : ℕ) (l m : Ahead) (met : Met)
    (earlier now : Option History) : Type 0 where
  pub told : (taken : List ℕ) (before : Option History) → before_left ≡ skip - length taken
      → LogAt who from (drop skip taken) l before earlier
      → RecordMet {F = JobFault} who from skip taken (value_held new) m left before (Ok met) now
  pub raw : (most : ℕ) (all : List (List ℕ)) (held : Files) → most ≤ record_limit
      → AreSettled all held → IsSide most all held side
      → Adds earlier now (Leads (anyhow (SparesFiles all)) (CanSum all held side old)
      (FetchedOne all held side index new (Ok met)))

-- the values of some records are the first of those of more
between_front : (side : Side) (held : Files) (first mid end : ℕ) {taken : List ℕ} → first ≤ mid
    → mid ≤ end → taken ≡ values_between side held first mid
    → (more : List ℕ) × (values_between side held first end ≡ taken ++ more)
between_front side held first mid end {taken = taken} low high is =
    let f : Head → List ℕ = value_in side.names.now held in
    let rest : List Head = drop first side.heads.now in
    let n = mid - first in
    let k = end - mid in
    let e : end - first ≡ n + k = omega (arith, low, high) in (
      flat_map f (take k (drop n rest)),
      ap (λ (c : ℕ). flat_map f (take c rest)) e
          ∙ (ap (flat_map f) (take-add n k rest)
          ∙ (flat_map-append f (take n rest) (take k (drop n rest))
          ∙ ap (λ (b : List ℕ). b ++ flat_map f (take k (drop n rest))) (sym is))),
    )

-- they part
abbrev pub IsParted : Met → Type 0
IsParted All = ⊥
IsParted met = Unit {0}

first_of : (met : Met) → IsParted met → (taken whole : List ℕ)
    → (more : List ℕ) × (whole ≡ taken ++ more) → AreFirst taken whole met
first_of All some taken whole x = absurd some
first_of (Differs at) some taken whole x = x
first_of (Ends at) some taken whole x = x

module _ (who : Who) (side : Side) (old mid new : RecordReader) (from : Reader)
    (skip first index : ℕ) (low : first ≤ index) (high : index < length side.heads.now) where
  -- what was taken then
  taken_then : (taken : List ℕ) (met : Met) {before here now : Option History}
      → ((most : ℕ) (all : List (List ℕ)) (held : Files) → most ≤ record_limit
      → AreSettled all held → IsSide most all held side
      → Adds before here (Leads (anyhow (SparesFiles all)) (CanSum all held side old)
      (λ history. CanSum all held side mid history
      × (taken ≡ values_between side held first index))))
      → ((most : ℕ) (all : List (List ℕ)) (held : Files) → most ≤ record_limit
      → AreSettled all held → IsSide most all held side
      → Adds here now (Leads (anyhow (SparesFiles all)) (CanSum all held side mid)
      (FetchedOne all held side index new (Ok met))))
      → (most : ℕ) (all : List (List ℕ)) (held : Files) → most ≤ record_limit
      → AreSettled all held → IsSide most all held side
      → Adds before now (Leads (anyhow (SparesFiles all)) (CanSum all held side old)
      (λ history. CanSum all held side new history
      × (taken ++ value_held new ≡ values_between side held first (index + 1))))
  taken_then taken met are raw most all held few settled is =
      leads_then (are most all held few settled is)
      (adds_as (Leads (anyhow (SparesFiles all))
      (λ h. CanSum all held side mid h × (taken ≡ values_between side held first index))
      (λ h. CanSum all held side new h
      × (taken ++ value_held new ≡ values_between side held first (index + 1))))
      (raw most all held few settled is)
      (λ added history x. record {
        leads = λ others had.
            let y = x.leads others had.0 in (
              y.0,
              ap₂ (λ (a b : List ℕ). a ++ b) had.1 y.1 ∙ between_more side held first index low
                  high,
            );
        own = x.own;
      }))

  pub one_more : (left left_then : ℕ) (l m : Ahead) {before here now : Option History}
      → SoFar who side old mid from skip first index left l before here
      → OneMet who side mid new from skip index left left_then l m All here now
      → SoFar who side old new from skip first (index + 1) left_then m before now
  one_more left left_then l m {before = before} so one =
      let t = one.told so.taken before so.left_is so.log in
      record {
        taken = so.taken ++ value_held new;
        log = t.0;
        left_is = t.1;
        are = taken_then so.taken All so.are one.raw;
      }

  pub parts : (end left left_then : ℕ) (l m : Ahead) (met : Met)
      {before here now : Option History} → index < end → end ≤ length side.heads.now
      → IsParted met → SoFar who side old mid from skip first index left l before here
      → OneMet who side mid new from skip index left left_then l m met here now
      → BlockParts who side old from skip first end met m before now
  parts end left left_then l m met {before = before} within whole some so one =
      let t = one.told so.taken before so.left_is so.log in
      record {
        taken = so.taken ++ value_held new;
        parts = t.0;
        are = λ most all held few settled is.
            leads_as (λ h x. x)
            (λ h x. (
              x.0.0,
              first_of met some (so.taken ++ value_held new)
                  (values_between side held first end)
                  (between_front side held first (index + 1) end (omega (arith, low))
                  (omega (arith, within)) x.1),
            ))
            (taken_then so.taken met so.are one.raw most all held few settled is);
      }

-- the record there can't be compared
pub block_fails : (who : Who) (side : Side) (old mid new : RecordReader) (from : Reader)
    (skip first index end left : ℕ) (l m : Ahead) (f : JobFault) {before here now : Option History}
    → SoFar who side old mid from skip first index left l before here
    → ((most : ℕ) (all : List (List ℕ)) (held : Files) → most ≤ record_limit
    → AreSettled all held → IsSide most all held side
    → Adds here now (Leads (anyhow (SparesFiles all)) (CanSum all held side mid)
    (FetchedOne all held side index new (Err f))))
    → BlockMet who side old from skip first end m before (Err f) now
block_fails who side old mid new from skip first index end left l m (fault.Damaged name at) so raw =
    λ most all held few settled is.
    leads_then (leads_as (λ h x. x) (λ h x. x.0) (so.are most all held few settled is))
    (raw most all held few settled is)
block_fails who side old mid new from skip first index end left l m (fault.Outside call) so raw = tt
block_fails who side old mid new from skip first index end left l m (fault.Spent n) so raw = tt
block_fails who side old mid new from skip first index end left l m fault.NoMemory so raw = tt

-- nothing parts
pub all_met : (who : Who) (side : Side) (old here : RecordReader) (from : Reader)
    (skip first end left : ℕ) (l : Ahead) {before now : Option History}
    → SoFar who side old here from skip first end left l before now
    → BlockParts who side old from skip first end All l before now
all_met who side old here from skip first end left l so = record {
  taken = so.taken;
  parts = so.log;
  are = λ most all held few settled is.
      leads_as (λ h x. x) (λ h x. (x.0.0, x.1)) (so.are most all held few settled is);
}

pub value_result : (who : Who) (from : Reader) (skip old new : ℕ) (taken value : List ℕ)
    (l : Ahead) (result : Result Met OutsideFault) (before now : Option History)
    → old ≡ skip - length taken → new ≡ old - length value
    → RestMet who from (drop skip taken) (drop old value) l before result now
    → RecordMet {F = OutsideFault} who from skip taken value l new before result now
value_result who from skip old new taken value l (Ok met) before now is less rest =
    value_met who from skip old new taken value l met before now is less rest
value_result who from skip old new taken value l (Err f) before now is less rest = tt

-- steps by a path that is the same
pub beside_own : {path other : List ℕ} {old new : Option History} → path ≡ other
    → Adds old new (Every (IsOf (ReadsBeside path)))
    → Adds old new (Every (IsOf (ReadsBeside other)))
beside_own {old = old} {new = new} same own =
    subst (λ (p : List ℕ). Adds old new (Every (IsOf (ReadsBeside p)))) same own

-- ---- a stream

pub log_begun : (who : Who) (r : Rest) (l : Ahead) (now : Option History) → IsBegun r l
    → LogAt who (log_of r) [] l now now
log_begun who r l now b = record {
  text = [];
  reads = subst (λ (x : Reader). ReadsOn who (log_of r) [] x now now) (sym b.0) none;
  is = sym (ap₂ (λ (n : ℕ) (bytes : List ℕ). drop n bytes) b.2 b.1);
  plain = ap (λ (x : Reader). x.lines) b.0;
  place = ap (λ (x : Reader). x.read.offset) b.0
      ∙ (let z : (log_of r).read.offset ≡ (log_of r).read.offset + 0 = omega arith in z);
}

pub stream_met : (who : Who) (side : Side) (r : Rest) (b : Block) (reader : RecordReader)
    (skip : ℕ) (l : Ahead) (result : Result Met JobFault) (before now : Option History)
    → (b.first ≤ b.end) × (b.end ≤ length side.heads.now)
    → AllOf side.heads.now (end_of r).stream b.first b.end
    → (StreamsRise side.heads.now → HoldsStream side.heads.now (end_of r).stream b.first b.end)
    → skip ≡ skip_of r → HoldsNothing reader
    → BlockMet who side reader (log_of r) skip b.first b.end l before result now
    → StreamMet who side r result before now
stream_met who side r b reader skip l (Err (fault.Damaged name at)) before now within all holds is nothing x =
    λ most names held few settled side_is.
    leads_as (λ h files. (files, no_windows side.names.now held reader nothing)) (λ h y. y)
    (x most names held few settled side_is)
stream_met who side r b reader skip l (Err (fault.Outside call)) before now within all holds is nothing x = tt
stream_met who side r b reader skip l (Err (fault.Spent n)) before now within all holds is nothing x = tt
stream_met who side r b reader skip l (Err fault.NoMemory) before now within all holds is nothing x = tt
stream_met who side r b reader skip l (Ok met) before now within all holds is nothing x = record {
  taken = x.taken;
  log = l;
  parts = subst (λ (k : ℕ). PartsAt who (log_of r) (drop k x.taken) met l before now) is x.parts;
  are = λ most names held few settled side_is rise.
      leads_as (λ h files. (files, no_windows side.names.now held reader nothing))
      (λ h y. (
        y.0,
        subst (λ (bytes : List ℕ). AreFirst x.taken bytes met)
            (block_bytes side held (end_of r).stream b within all (holds rise)) y.1,
      ))
      (x.are most names held few settled side_is);
}
