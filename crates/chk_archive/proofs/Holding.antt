-- How many chunks are set aside, whatever was told before.
use Rattle.std.proofs.Common.{◌≡◌, ◌∙◌, ℕ, List, [], ◌∷◌, ◌++◌, ◌+◌, length, Option, Ok, Err, Result, refl, ap, sym, subst}
use Rattle.std.specs.Prelude.{IfOk}
use Rattle.std.proofs.lemmas.List.{length-map}
use Rattle.chk_site.specs.History.{Step, History}
use Rattle.chk_site.specs.Site.{Adds}
use Rattle.chk_site.specs.Runs.{anyhow, Leads}
use Rattle.chk_site.proofs.Runs.{adds_as, adds_then}
use Rattle.chk_site.proofs.Leads.{leads_as, leads_then, owned_anyhow}
use Rattle.chk_chunk.specs.Keys.{Chunk, chunk_limit}
use Rattle.chk_world.specs.ArchiveRuns.{in_order, once}
use Rattle.chk_world.specs.Books.{Book}
use Rattle.chk_world.specs.Sight.{Sight}
use Rattle.chk_record_index.specs.Heads.{Head, heads_in}
use Rattle.chk_record_index.specs.Order.{in_head_order}
use Rattle.chk_record_index.specs.Pieces.{bytes_in}
use Rattle.chk_record_index.proofs.Showing.{within_all, within_late, within_early}
use Rattle.chk_record_index.specs.declared.fault.JobFault.{JobFault}
use Rattle.chk_record_reader.specs.Segments.{heads_from, HasFiles, SparesFiles, AreSettled, GatheredAll}
use Rattle.chk_record_reader.proofs.AllRead.{adds_all}
use Rattle.chk_archive_parts.specs.Cuts.{cut_chunk, cut_chunks}
use Rattle.chk_archive_parts.specs.Gathering.{held, AreSound, heads_of}
use Rattle.chk_archive_parts.specs.Kept.{past_chunks, AreKeptOnce, KeptSo}
use Rattle.chk_archive_parts.specs.Records.{AreRecords, found_in}
use Rattle.chk_archive_parts.proofs.FoundRecords.{records_in_order}
use Rattle.chk_archive_parts.specs.declared.cuts.Cut.{Cut}
use Rattle.chk_archive_plan.specs.declared.spans.Span.{Span}
use Rattle.chk_archive.specs.Listed.{sources_in}
use Rattle.chk_archive.specs.Shown.{ShowsLoaded, IsInHand, GivesNames, GaveNames, ShowsSettled}
use Rattle.chk_archive.specs.Taking.{IsPlanned}
use Rattle.chk_archive.specs.Holding.{HoldsOnce, AreHeldIn, ReportsHeld, HeldIfLeft, ShowsHeld}
use Rattle.chk_archive.specs.declared.report.Report.{Report as Struct}
use Rattle.chk_archive.specs.declared.taking.Planned.{Planned}
use Rattle.chk_archive.specs.declared.taking.Taken.{Taken}

-- ---- what is kept is counted

pub kept_held : (b : Book) (heads : List Head) (cs : List Chunk) (p : Planned) → IsPlanned b heads p
    → (spans : List Span) (cuts kept : List Cut) (r : Result Taken JobFault)
    → spans ≡ p.spans.items → kept ≡ cuts → IfOk r (λ t. t.held ≡ length kept)
    → {S : History → Step → Type 0} {B : History → Type 0} {Q : History → History → Type 0}
    {old mid new : Option History} → Adds old mid (Leads (anyhow S) B (KeptSo cs spans (Ok cuts)))
    → Adds mid new Q → Adds old new (Leads (anyhow S) B (HoldsOnce b heads cs r))
kept_held b heads cs p plan spans cuts kept r spans_are kept_are count {S = S} told made =
    leads_then told
    (adds_as (Leads (anyhow S) (λ h. AreKeptOnce cs spans cuts) (HoldsOnce b heads cs r)) made
    (λ added history x. record {
      leads = λ s k. go r count k.0 (added ++ history);
      own = owned_anyhow added history;
    }))
  where
    go : (r : Result Taken JobFault) → IfOk r (λ t. t.held ≡ length kept)
        → cut_chunks cs cuts ≡ once (past_chunks cs spans) → (h : History) → HoldsOnce b heads cs r h
    go (Ok t) n is h = record {
      planned = p;
      is = plan;
      are = n ∙ (ap length kept_are ∙ (sym (length-map cuts (cut_chunk cs))
          ∙ (ap length is ∙ ap (λ s. length (once (past_chunks cs s))) spans_are)));
    }
    go (Err fault) n is h = tt

-- ---- over the heads of files

pub found_records : (v : Sight) (files : List (List ℕ)) (found sorted : List Head) → AreSound v files
    → found ≡ heads_of v 0 files → sorted ≡ in_head_order found
    → AreRecords v files sorted (in_order (found_in v files))
found_records v files found sorted sound is order =
    subst (λ hs. AreRecords v files hs (in_order (found_in v files)))
    (sym (order ∙ ap in_head_order is)) (records_in_order v files sound)

heads_same : (v : Sight) (n : ℕ) (ws : List (List ℕ)) → heads_from chunk_limit (held v) n ws ≡ heads_of v n ws
heads_same v n [] = refl
heads_same v n (w ∷ ws) =
    ap (λ l. heads_in chunk_limit n (bytes_in (held v w)) ++ l) (heads_same v (n + 1) ws)

-- behind the gathering of the heads
pub gathered_held : (b : Book) (v : Sight) (ws : List (List ℕ)) (heads : List Head)
    (r : Result Taken JobFault) {Q : History → History → Type 0} {old mid new : Option History}
    → Adds old mid (Leads (anyhow (SparesFiles ws)) (HasFiles ws (held v))
    (GatheredAll chunk_limit ws (held v) (Ok heads)))
    → Adds mid new Q
    → (heads ≡ heads_of v 0 ws → Adds mid new (Leads (anyhow (SparesFiles ws)) (HasFiles ws (held v))
    (HoldsOnce b (in_head_order heads) (in_order (found_in v ws)) r)))
    → Adds old new (Leads (anyhow (SparesFiles ws)) (HasFiles ws (held v))
    (HoldsOnce b (in_head_order (heads_of v 0 ws)) (in_order (found_in v ws)) r))
gathered_held b v ws heads r {mid = mid} {new = new} told made second =
    leads_then
    (leads_as {B' = λ h. (heads ≡ heads_of v 0 ws) × HasFiles ws (held v) h} (λ h k. k)
    (λ h k. (k.2 ∙ heads_same v 0 ws, k.0)) told)
    (adds_all
    (Leads (anyhow (SparesFiles ws)) (λ h. (heads ≡ heads_of v 0 ws) × HasFiles ws (held v) h)
    (HoldsOnce b (in_head_order (heads_of v 0 ws)) (in_order (found_in v ws)) r)) made
    (λ is. subst (λ hs. Adds mid new (Leads (anyhow (SparesFiles ws)) (HasFiles ws (held v))
    (HoldsOnce b (in_head_order hs) (in_order (found_in v ws)) r))) is (second is))
    (λ a h p q. record {
      leads = λ s y. (q y.0).leads s y.1;
      own = owned_anyhow a h;
    }))

-- ---- in the report

pub held_reported : (b : Book) (v : Sight) (files : List (List ℕ)) (t : Taken) (r : Struct)
    → r.held ≡ t.held → {S : History → Step → Type 0} {B : History → Type 0}
    {Q : History → History → Type 0} {old mid new : Option History}
    → Adds old mid (Leads (anyhow S) B
    (HoldsOnce b (in_head_order (heads_of v 0 files)) (in_order (found_in v files)) (Ok t)))
    → Adds mid new Q → Adds old new (Leads (anyhow S) B (ReportsHeld b v files (Ok r)))
held_reported b v files t r same {S = S} told made =
    leads_then told
    (adds_as (Leads (anyhow S) (λ h. AreHeldIn b v files t.held) (ReportsHeld b v files (Ok r))) made
    (λ added history x. record {
      leads = λ s k. subst (AreHeldIn b v files) (sym same) k;
      own = owned_anyhow added history;
    }))

pub held_unreported : (b : Book) (v : Sight) (files : List (List ℕ)) (fault : JobFault)
    {S : History → Step → Type 0} {B : History → Type 0} {Q : History → History → Type 0}
    {old new : Option History} → Adds old new Q
    → Adds old new (Leads (anyhow S) B (ReportsHeld b v files (Err fault)))
held_unreported b v files fault {S = S} {B = B} made =
    adds_as (Leads (anyhow S) B (ReportsHeld b v files (Err fault))) made
    (λ added history x. record { leads = λ s k. tt; own = owned_anyhow added history })

-- behind the listing of the sinks
pub held_since : (b : Book) (names : List (List ℕ)) (r : Result Struct JobFault)
    {P : History → History → Type 0} {old mid listed new : Option History}
    → Adds old mid (ShowsSettled (Ok b)) → Adds mid listed (GivesNames names) → Adds listed new P
    → ((v : Sight) → AreSound v (sources_in b names) → AreSettled (sources_in b names) (held v)
    → Adds listed new (Leads (anyhow (SparesFiles (sources_in b names)))
    (HasFiles (sources_in b names) (held v)) (ReportsHeld b v (sources_in b names) r)))
    → Adds old new (ShowsHeld r)
held_since b names r so_far gave made second =
    adds_then (ShowsHeld r)
    (adds_then Before so_far gave
    (λ a d history x y. (
      x.0,
      within_early _ d a history x.1,
      x.2,
      within_late _ d a history (within_all _ d (a ++ history) y),
    )))
    (adds_all (HeldIfLeft b (sources_in b names) r) made
    (λ (x : (v : Sight) × AreSound v (sources_in b names) × AreSettled (sources_in b names) (held v)). second x.0 x.1 x.2)
    (λ a h p q. λ v sound settled. q (v, sound, settled)))
    (λ a d history x y. go r a d history x y)
  where
    Before : History → History → Type 0
    Before a history = (loaded : Book) × ShowsLoaded loaded a history × IsInHand loaded b
        × GaveNames names a history

    go : (r : Result Struct JobFault) → (a d history : History) → Before a history
        → HeldIfLeft b (sources_in b names) r d (a ++ history) → ShowsHeld r (d ++ a) history
    go (Ok value) a d history x y = record {
      later = d;
      earlier = a;
      steps = refl;
      loaded = x.0;
      shown = x.1;
      book = b;
      in_hand = x.2;
      names = names;
      gave = x.3;
      holds = y;
    }
    go (Err fault) a d history x y = tt
