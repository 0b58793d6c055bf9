-- In a legal history the heads of the newest segments are enough.
use Rattle.std.proofs.Common.{◌≡◌, ℕ, zero, suc, ◌≤◌, false, List, drop, get_or, Option, Some, Ok, Err, Result, ap, sym, subst, ◌∙◌, refl, arith, ap₂}
use Rattle.std.specs.Prelude.{Contains, IsTrue, codes, max}
use Rattle.std.proofs.lemmas.List.{get_or-map, get_or_default}
use Rattle.chk_site.specs.History.{History, Every, is_stopped}
use Rattle.chk_site.specs.Site.{Adds}
use Rattle.chk_site.specs.Runs.{anyhow, Leads}
use Rattle.chk_site.proofs.Leads.{leads_as, leads_then}
use Rattle.chk_chunk.specs.Keys.{Chunk}
use Rattle.chk_world.specs.Books.{Book, End, ends_rise}
use Rattle.chk_world.specs.Places.{As}
use Rattle.chk_world.specs.Sight.{job, Sight, AtJob}
use Rattle.chk_world.specs.JobSteps.{IsOf, ReadsFile}
use Rattle.chk_record_index.specs.Heads.{Head}
use Rattle.chk_record_index.specs.Order.{in_head_order}
use Rattle.chk_record_index.specs.Faults.{IsOfRead, IsOfWrite}
use Rattle.chk_record_index.specs.declared.fault.JobFault.{JobFault}
use Rattle.chk_record_index.specs.declared.fault.JobFault.TheVariants.{Outside, Damaged, Spent, NoMemory}
use Rattle.chk_book.specs.Books.{end_in}
use Rattle.chk_record_reader.specs.Segments.{names_of, HasFiles, SparesFiles, AreSettled}
use Rattle.chk_record_reader.specs.Checking.{AllGoWell}
use Rattle.chk_record_reader.specs.OnePass.{no_end, end_at}
use Rattle.chk_demux_scan.specs.Backward.{begin_in, AllRunBack}
use Rattle.chk_demux_scan.specs.Forward.{past_of}
use Rattle.chk_demux_scan.specs.Newest.{ReachFar, IsNewest, FoundFrom, are_found, too_few, FoundNewest}
use Rattle.chk_archive_parts.specs.Gathering.{held, heads_of, AreSound}
use Rattle.chk_archive_parts.specs.Records.{AreRecords, found_in}
use Rattle.chk_archive_parts.proofs.ManyFiles.{reads_all}
use Rattle.chk_demux.specs.Enough.{places_for, Reach, Enough}
use Rattle.chk_demux.specs.Running.{CanSplit, archive_heads}
use Rattle.chk_demux.specs.Splitting.{split_from, SplitAll, StreamsRise, all_chunks}
use Rattle.chk_demux.specs.Working.{EndsSo}
use Rattle.chk_demux.proofs.ArchiveWell.{heads_same}
use Rattle.chk_demux.proofs.Ends.{ends_as}
use Rattle.chk_demux.proofs.HeadsInOrder.{streams_rise}
use Rattle.chk_demux.proofs.NewestHeads.{enough}
use Rattle.chk_demux.proofs.Thinned.{thinned}

-- a refusal without damage is one of reading
pub of_read : (fault : JobFault) → IsOfWrite fault → IsOfRead fault
of_read (Outside call) of = tt
of_read (Damaged name at) of = absurd of
of_read (Spent n) of = absurd of
of_read NoMemory of = tt

pub from_none : (n : ℕ) → 0 ≤ n
from_none n = omega arith

above : (m n : ℕ) → m ≤ max m n
above m n = grind arith

module _ (stamped : List (List ℕ)) (a b : Book) (v : Sight) (cs : List Chunk) (can : CanSplit a b v cs) (names : List (List ℕ))
    (are : names ≡ names_of (codes "archive") a) where
  abbrev Same : Sight → Type 0
  Same u = u ≡ v

  abbrev Has : List Head → Sight → Type 0
  Has heads u = (u ≡ v) × Enough v a b names (archive_heads v a) cs heads

  pub names_sound : AreSound v names
  names_sound = subst (AreSound v) (sym are) can.sound

  pub names_well : AllGoWell a.ends (heads_of v 0 names)
  names_well = subst (λ ws. AllGoWell a.ends (heads_of v 0 ws)) (sym are) can.well

  pub names_settled : AreSettled names (held v)
  names_settled = subst (λ ws. AreSettled ws (held v)) (sym are) can.settled

  -- the heads of all files are
  all_enough : (heads : List Head) → heads ≡ in_head_order (heads_of v 0 names) → Enough v a b names (archive_heads v a) cs heads
  all_enough heads order =
      let same : heads ≡ archive_heads v a = order ∙ ap (λ ws. in_head_order (heads_of v 0 ws)) are in
      record {
        chunks = cs;
        records = subst (λ ws. AreRecords v ws heads cs) (sym are)
            (subst (λ hs. AreRecords v (names_of (codes "archive") a) hs cs) (sym same) can.records);
        runs = can.runs;
        rise = subst (λ hs. StreamsRise hs) (sym order) (streams_rise (heads_of v 0 names));
        same = λ types. ap (λ hs. all_chunks types b hs cs a.ends) same;
        left = λ types. refl;
      }

  module _ (places : List ℕ) (placed : IsTrue (ends_rise b.ends) → places ≡ places_for a b) where
    far_of : (j : ℕ) (hs : List Head) → ReachFar a.ends places j hs → (e : End) → Contains a.ends e → begin_in e hs ≤ split_from b e
    far_of zero hs far e one =
        let is : end_at a.ends one.0 ≡ e = get_or_default a.ends one.0 no_end e one.1 ∙ one.2 in
        let at : begin_in e hs ≡ e.start = subst (λ d. begin_in d hs ≡ d.start) is (far one.0 one.1) in
        subst (λ n. n ≤ split_from b e) (sym at) (above e.start (end_in 0 b.ends e.stream))
    far_of (suc j) hs far e one =
        let is : end_at a.ends one.0 ≡ e = get_or_default a.ends one.0 no_end e one.1 ∙ one.2 in
        let place : get_or places one.0 0 ≡ split_from b e =
        ap (λ l. get_or l one.0 0) (placed can.rises)
        ∙ (get_or-map (split_from b) a.ends one.0 no_end 0 one.1 ∙ ap (split_from b) is) in
        subst (λ n. begin_in e hs ≤ n) place (subst (λ d. begin_in d hs ≤ get_or places one.0 0) is (far one.0 one.1))

    reach_of : (j : ℕ) (heads : List Head) → IsNewest a.ends places names (held v) j heads
        → Reach v a b names (in_head_order (heads_of v j (drop j names)))
    reach_of j heads n = record {
      first = j;
      within = n.within;
      run = subst (AllRunBack a.ends) (heads_same v j (drop j names)) n.suffice.run;
      far = subst (λ hs. (e : End) → Contains a.ends e → begin_in e hs ≤ split_from b e) (heads_same v j (drop j names))
          (far_of j _ n.suffice.far);
      order = refl;
    }

    newest_enough : (heads : List Head) → FoundFrom a.ends places names (held v) 0 heads
        → Enough v a b names (archive_heads v a) cs heads
    newest_enough heads (are_found j up n) =
        subst (λ hs. Enough v a b names (archive_heads v a) cs hs)
        (sym (n.order ∙ ap₂ (λ ps hs. in_head_order (past_of a.ends ps hs)) (placed can.rises)
        (heads_same v j (drop j names))))
        (thinned v a b names (archive_heads v a) cs (heads_of v j (drop j names)) can.sorted
        (subst (λ ws. Enough v a b names (in_head_order (heads_of v 0 ws)) cs
        (in_head_order (heads_of v j (drop j names)))) are
        (enough v a b names cs
        (subst (λ ws. AreRecords v ws (in_head_order (heads_of v 0 ws)) cs) (sym are) can.records) can.runs
        (subst (λ ws. SplitAll (found_in v ws) a.ends b) (sym are) can.unsorted)
        (in_head_order (heads_of v j (drop j names))) (reach_of j heads n))))
    newest_enough heads (too_few some few) = absurd (let z : ⊥ = omega (arith, some) in z)

    module _ (r : Result (Option (List Head)) JobFault) {old mid : Option History}
        (raw : Adds old mid (Leads (anyhow (SparesFiles names)) (HasFiles names (held v)) (FoundNewest a.ends places names (held v) 0 r)))
        (own : Adds old mid (Every (IsOf ReadsFile))) where
      known : Adds old mid (Leads (As stamped job) (AtJob stamped Same)
          (λ h. AtJob stamped Same h × (is_stopped h ≡ false → FoundNewest a.ends places names (held v) 0 r h)))
      known =
          reads_all stamped Same v names names_sound (λ u is. ap (λ (t : Sight). t.listing) is)
          (λ u is w one. ap (λ (t : Sight). held t w) is) (FoundNewest a.ends places names (held v) 0 r) raw own

      pub newest_told : (heads : List Head) → r ≡ Ok (Some heads)
          → Adds old mid (Leads (As stamped job) (AtJob stamped Same) (EndsSo stamped Has (Ok heads)))
      newest_told heads is =
          leads_as (λ h z. z)
          (λ h z. record {
            legal = z.0.legal;
            may_act = z.0.may_act;
            alive = λ runs. (
              z.0.alive runs,
              newest_enough heads (subst (λ x. FoundNewest a.ends places names (held v) 0 x h) is (z.1 runs)).1,
            );
          }) known

      -- all are read behind that
      pub then_all : (q : Result (List Head) JobFault) {new : Option History}
          → Adds mid new (Leads (As stamped job) (AtJob stamped Same)
          (EndsSo stamped (λ heads u. (u ≡ v) × (heads ≡ in_head_order (heads_of v 0 names))) q))
          → Adds old new (Leads (As stamped job) (AtJob stamped Same) (EndsSo stamped Has q))
      then_all q told =
          leads_then (leads_as (λ h z. z) (λ h z. z.0) known)
          (leads_as (λ h z. z)
          (λ h z. ends_as stamped (λ heads u. (u ≡ v) × (heads ≡ in_head_order (heads_of v 0 names))) Has
          (λ heads u p. (p.0, all_enough heads p.1)) q h z) told)

      pub not_newest : (fault : JobFault) → IsOfWrite fault
          → Adds old mid (Leads (As stamped job) (AtJob stamped Same) (EndsSo stamped Has (Err fault)))
      not_newest fault of = leads_as (λ h z. z) (λ h z. go fault of h z.0) known
        where
          go : (fault : JobFault) → IsOfWrite fault → (h : History) → AtJob stamped Same h → EndsSo stamped Has (Err fault) h
          go (Outside call) of h z = z.legal
          go (Damaged name at) of h z = absurd of
          go (Spent n) of h z = absurd of
          go NoMemory of h z = z.legal
