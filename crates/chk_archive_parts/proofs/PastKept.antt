-- What is kept past the gaps.
use Rattle.std.proofs.Common.{◌≡◌, ℕ, ◌+◌, ◌-◌, ◌≤◌, ◌<◌, Bool, true, false, List, ◌++◌, length, take, drop, Option, Ok, Err, Result, ap, sym, subst, ◌∙◌, arith, length-drop, length-append}
use Rattle.std.specs.Prelude.{slice_index_or}
use Rattle.std.proofs.lemmas.List.{length-map, take_all, append-nil}
use Rattle.std.proofs.lemmas.List.Elements.{All-push}
use Rattle.chk_site.specs.History.{History, Every, is_stopped}
use Rattle.chk_site.specs.Site.{Adds}
use Rattle.chk_site.specs.Runs.{Leads, Side, anyhow}
use Rattle.chk_site.proofs.Leads.{leads_as, leads_then}
use Rattle.chk_chunk.specs.Keys.{Chunk, same_data}
use Rattle.chk_world.proofs.Each.{Each, each_as}
use Rattle.chk_world.specs.ArchiveRuns.{in_order, once}
use Rattle.chk_world.specs.Places.{As}
use Rattle.chk_world.specs.Sight.{job, Sight, AtJob}
use Rattle.chk_world.specs.JobSteps.{IsOf, ReadsFile}
use Rattle.chk_record_index.specs.Heads.{Head}
use Rattle.chk_record_index.specs.declared.fault.JobFault.{JobFault}
use Rattle.chk_record_index.specs.declared.fault.JobFault.TheVariants.{Outside, Damaged, Spent, NoMemory}
use Rattle.chk_archive_plan.specs.Passes.{AreSpans}
use Rattle.chk_archive_plan.specs.declared.spans.Span.{Span}
use Rattle.chk_archive_plan.specs.declared.spans.Known.{Known}
use Rattle.chk_archive_plan.proofs.ChunkOrder.{Ordered, in_order_ordered}
use Rattle.chk_record_reader.specs.Segments.{HasFiles, SparesFiles}
use Rattle.chk_record_reader.specs.declared.reader.RecordReader.{RecordReader}
use Rattle.chk_archive_parts.specs.declared.cuts.Cut.{Cut}
use Rattle.chk_archive_parts.specs.Cuts.{no_chunk, cut_of, cut_chunk, cut_chunks}
use Rattle.chk_archive_parts.specs.Gathering.{held}
use Rattle.chk_archive_parts.specs.Records.{AreRecords, IsRecordOf}
use Rattle.chk_archive_parts.specs.Kept.{AreSpansWithin, AreWhole, NoneRepeats, goes_on, group_of, new_cut, past_cuts, past_chunks, value_in, KeptSo, KeptTold, SiftedSo, CanFind, FoundSo, IsNew, IsFirst}
use Rattle.chk_archive_parts.proofs.CutLists.{no_cut}
use Rattle.chk_archive_parts.proofs.KeptOnce.{same_length, past_are, past_ordered}
use Rattle.chk_archive_parts.proofs.ManyFiles.{reads_all}
use Rattle.chk_archive_parts.proofs.Among.{leads_with}
use Rattle.chk_archive_parts.proofs.Sifting.{SiftedTo, all_kept, all_new, sift_more}
use Rattle.chk_archive_parts.proofs.InSpans.{InSpan, in_span}

-- ---- what the loop has

-- what is left of a list from a place on
pub slice_is : (xs ys : List Cut) (g n : ℕ) → xs ≡ ys → g ≡ n → take (length xs - g) (drop g xs) ≡ drop n ys
slice_is xs ys g n e f =
    let size = length-drop g xs in
    take_all (length xs - g) (drop g xs) (omega (arith, size)) ∙ (ap (λ m. drop m xs) f ∙ ap (drop n) e)

pub group_low : (b : Bool) (group n : ℕ) → group ≤ n → group_of b group n ≤ n
group_low true group n low = low
group_low false group n low = omega arith

pub whole_more : (n : ℕ) (cuts now : List Cut) (b : Bool) (k : Cut) → AreWhole n cuts → (k.index < n) × (k.skip ≡ 0)
    → now ≡ cuts ++ new_cut b k → AreWhole n now
whole_more n cuts now true k whole one e = subst (AreWhole n) (sym (e ∙ append-nil cuts)) whole
whole_more n cuts now false k whole one e =
    subst (AreWhole n) (sym e) (All-push (λ (k : Cut). (k.index < n) × (k.skip ≡ 0)) cuts k whole one)

pub more_low : (m : ℕ) (cuts now : List Cut) (b : Bool) (k : Cut) → m ≤ length cuts → now ≡ cuts ++ new_cut b k
    → m ≤ length now
more_low m cuts now b k low e =
    let size = ap length e in
    let both = length-append cuts (new_cut b k) in
    omega (arith, low, size, both)

-- ---- one record after another

module _ (v : Sight) (files : List (List ℕ)) (heads : List Head) (cs : List Chunk) (records : AreRecords v files heads cs)
    (past : List Cut) (whole : AreWhole (length heads) past) (o : Ordered (cut_chunks cs past)) where
  abbrev S : Side
  S = anyhow (SparesFiles files)

  abbrev A : History → Type 0
  A = HasFiles files (held v)

  abbrev pub Sifted : RecordReader → RecordReader → List Cut → ℕ → ℕ → History → Type 0
  Sifted r q cuts place group = λ h. CanFind v files r q h × SiftedTo cs past cuts place group

  module _ (r q : RecordReader) (cuts : List Cut) (place group : ℕ) where
    pub sift_ends : length past ≤ place → {old new : Option History} → Adds old new (Leads S A (Sifted r q cuts place group))
        → Adds old new (Leads S A (SiftedSo past cs (Ok cuts)))
    sift_ends low told =
        let size = length-map past (cut_chunk cs) in
        leads_as (λ h k. k)
        (λ h z. (z.1.once_is ∙ ap once (take_all place (cut_chunks cs past) (omega (arith, low, size))), z.1.news)) told

    module _ (low : place < length past) (cuts_whole : AreWhole (length heads) cuts) (s t : RecordReader)
        (result : Result Bool JobFault) {old mid new : Option History}
        (so_far : Adds old mid (Leads S A (Sifted r q cuts place group)))
        (found : Adds mid new (Leads S (CanFind v files r q) (FoundSo v files (value_in cs (slice_index_or past place no_cut).index) cs
        (drop (group_of (goes_on heads past place) group (length cuts)) cuts) s t result))) where
      abbrev G : ℕ
      G = group_of (goes_on heads past place) group (length cuts)

      abbrev F : Result Bool JobFault → History → Type 0
      F x h = FoundSo v files (value_in cs (slice_index_or past place no_cut).index) cs (drop G cuts) s t x h

      both : Adds old new (Leads S A (λ h. F result h × SiftedTo cs past cuts place group))
      both = leads_then so_far (leads_with (SiftedTo cs past cuts place group) found)

      pub sift_on : (b : Bool) → result ≡ Ok b → (now : List Cut) → now ≡ cuts ++ new_cut b (slice_index_or past place no_cut)
          → Adds old new (Leads S A (Sifted s t now (place + 1) G))
      sift_on b e now is =
          leads_as (λ h k. k)
          (λ h z.
          let f = subst (λ x. F x h) e z.0 in
          (f.0, sift_more v files heads cs records past whole cuts place group z.1 o low b f.1 cuts_whole now is))
          both

      pub sift_fails : (fault : JobFault) → result ≡ Err fault
          → Adds old new (Leads S A (SiftedSo past cs (Err fault)))
      sift_fails fault e = leads_as (λ h k. k) (λ h z. go fault h (subst (λ x. F x h) e z.0)) both
        where
          go : (fault : JobFault) (h : History) → F (Err fault) h → SiftedSo past cs (Err fault) h
          go (Outside call) h k = tt
          go (Damaged name at) h k = k
          go (Spent n) h k = tt
          go NoMemory h k = tt

      pub sift_full : Adds old new (Leads S A (SiftedSo past cs (Err NoMemory)))
      sift_full = leads_as (λ h k. k) (λ h z. tt) both

-- ---- all that is past the gaps

module _ (v : Sight) (files : List (List ℕ)) (heads : List Head) (found : List Chunk) (known : List Known) (spans : List Span)
    (records : AreRecords v files heads (in_order found)) (within : AreSpansWithin (length heads) spans)
    (are : AreSpans known heads 0 spans (length heads)) where
  abbrev Cs : List Chunk
  Cs = in_order found

  size : length heads ≡ length Cs
  size = same_length (IsRecordOf v files) heads Cs records.each

  -- the records past the gaps are the chunks there
  pub past_is : cut_chunks Cs (past_cuts heads spans) ≡ past_chunks Cs spans
  past_is = past_are heads Cs size spans (λ s one. subst (λ t. (t.past ≤ t.end) × (t.end ≤ length heads)) one.2 (within one.0 s one.1))

  pub in_turn : Ordered (cut_chunks Cs (past_cuts heads spans))
  in_turn = subst Ordered (sym past_is) (past_ordered known heads Cs size 0 spans are (in_order_ordered found))

  -- one that is new among them is the first of its chunk behind its span's gap
  first_one : (past : List Cut) → past ≡ past_cuts heads spans → (k : Cut) → IsNew Cs past k → IsFirst Cs spans k
  first_one past is k new =
      let e : slice_index_or (past_cuts heads spans) new.place no_cut ≡ k =
      ap (λ l. slice_index_or l new.place no_cut) (sym is) ∙ new.is in
      let t : InSpan heads spans spans k new.place =
      subst (λ x. InSpan heads spans spans x new.place) e
      (in_span heads spans spans (λ s one. one) (λ s one.
      subst (λ t. (t.past ≤ t.end) × (t.end ≤ length heads)) one.2 (within one.0 s one.1)) new.place
      (subst (λ l. new.place < length l) is new.low)) in
      record {
        span = t.span;
        one = t.one;
        low = t.low;
        high = t.high;
        whole = t.whole;
        first = λ i past_it before.
            let j = t.back i past_it before in
            ap (λ n. same_data (slice_index_or Cs i no_chunk) (cut_of n (slice_index_or Cs k.index no_chunk))) (sym t.whole)
            ∙ (ap (λ c. same_data (cut_chunk Cs c) (cut_chunk Cs k))
            (sym (ap (λ l. slice_index_or l j.0 no_cut) is ∙ j.2))
            ∙ new.new j.0 j.1);
      }

  pub none_repeat : (past : List Cut) → past ≡ past_cuts heads spans → AreWhole (length heads) past → NoneRepeats heads past
      → (cut_chunks Cs past ≡ once (past_chunks Cs spans)) × Each (IsFirst Cs spans) past
  none_repeat past is whole none =
      let o = subst (λ l. Ordered (cut_chunks Cs l)) (sym is) in_turn in (
        all_kept v files heads Cs records past whole o none ∙ ap once (ap (cut_chunks Cs) is ∙ past_is),
        each_as (IsNew Cs past) (IsFirst Cs spans) past (first_one past is)
            (all_new v files heads Cs records past whole o none),
      )

  pub sifted : (past : List Cut) → past ≡ past_cuts heads spans → (result : Result (List Cut) JobFault) {old new : Option History}
      → (Ordered (cut_chunks Cs past) → Adds old new (Leads (anyhow (SparesFiles files)) (HasFiles files (held v))
      (SiftedSo past Cs result)))
      → Adds old new (Leads (anyhow (SparesFiles files)) (HasFiles files (held v)) (KeptSo Cs spans result))
  sifted past is result told =
      leads_as (λ h k. k) (λ h z. go result h z) (told (subst (λ l. Ordered (cut_chunks Cs l)) (sym is) in_turn))
    where
      go : (result : Result (List Cut) JobFault) (h : History) → SiftedSo past Cs result h
          → KeptSo Cs spans result h
      go (Ok cuts) h k = (
        k.0 ∙ ap once (ap (cut_chunks Cs) is ∙ past_is),
        each_as (IsNew Cs past) (IsFirst Cs spans) cuts (first_one past is) k.1,
      )
      go (Err (Outside call)) h k = tt
      go (Err (Damaged name at)) h k = k
      go (Err (Spent n)) h k = tt
      go (Err NoMemory) h k = tt

  -- so it is in every legal history
  pub kept_told : (stamped : List (List ℕ)) (result : Result (List Cut) JobFault) {old new : Option History}
      → Adds old new (Leads (anyhow (SparesFiles files)) (HasFiles files (held v)) (KeptSo Cs spans result))
      → Adds old new (Every (IsOf ReadsFile))
      → Adds old new (Leads (As stamped job) (AtJob stamped (λ u. u ≡ v)) (KeptTold stamped v Cs spans result))
  kept_told stamped result raw own =
      leads_as (λ h k. k) (λ h z. go result h z.0 z.1)
      (reads_all stamped (λ u. u ≡ v) v files records.sound (λ u is. ap (λ (t : Sight). t.listing) is)
      (λ u is w one. ap (λ (t : Sight). held t w) is) (KeptSo Cs spans result) raw own)
    where
      go : (result : Result (List Cut) JobFault) (h : History) → AtJob stamped (λ u. u ≡ v) h
          → (is_stopped h ≡ false → KeptSo Cs spans result h) → KeptTold stamped v Cs spans result h
      go (Ok cuts) h p f = record { legal = p.legal; may_act = p.may_act; alive = λ runs. (p.alive runs, f runs) }
      go (Err (Outside call)) h p f = p.legal
      go (Err (Damaged name at)) h p f = record { legal = p.legal; may_act = p.may_act; alive = f }
      go (Err (Spent n)) h p f = p.legal
      go (Err NoMemory) h p f = p.legal
