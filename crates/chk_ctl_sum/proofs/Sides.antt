-- The heads of a book's records, and then their digests.
use Rattle.std.proofs.Common.{◌≡◌, ◌∙◌, ◌≤◌, ℕ, List, map, Option, Ok, Err, Result, ap}
use Rattle.chk_site.specs.Files.{Files}
use Rattle.chk_site.specs.History.{History}
use Rattle.chk_site.specs.Site.{Adds}
use Rattle.chk_site.specs.Runs.{anyhow, Leads}
use Rattle.chk_site.proofs.Leads.{leads_as, leads_then}
use Rattle.chk_world.specs.Books.{Book, End}
use Rattle.chk_world.proofs.Each.{Each}
use Rattle.chk_record_index.specs.Order.{in_head_order}
use Rattle.chk_record_index.specs.declared.fault.JobFault.{JobFault}
use Rattle.chk_record_index.specs.declared.fault.JobFault.TheVariants.{Outside, Damaged, Spent, NoMemory}
use Rattle.chk_book.specs.Folders.{most_in}
use Rattle.chk_book.proofs.SegmentForms.{most_bound}
use Rattle.chk_book.specs.Views.{end_view}
use Rattle.chk_book.specs.declared.lists.End.{End as EndStruct}
use Rattle.chk_record_reader.specs.Segments.{names_of, HasFiles, SparesFiles, AreSettled, IsSound, heads_from}
use Rattle.chk_record_reader.specs.Checking.{AllGoWell}
use Rattle.chk_record_reader.specs.Merging.{SoundHeads}
use Rattle.chk_join_sources.specs.declared.gathering.Side.{Side}
use Rattle.chk_join_sources.specs.Blocks.{StreamsRise}
use Rattle.chk_join_sources.specs.Comparing.{IsSide}
use Rattle.sha2.specs.Sha256.{sha256}
use Rattle.chk_ctl_sum.specs.Summing.{digest_of, SummedAll}
use Rattle.chk_ctl_sum.specs.declared.rests.Rest.{Rest}
use Rattle.chk_ctl_sum.specs.Sums.{archived, SummedFiles, SummedFrom}
use Rattle.chk_join_sources.proofs.AllCompared.{under}
use Rattle.chk_ctl_sum.proofs.Streams.{is_side, side_rises, digests_same, whole_digests}

-- what is known of the heads
pub record AreSound (folder : List ℕ) (b : Book) (held : Files) (side : Side) : Type 0 where
  pub sound : Each (IsSound (most_in folder) held) (names_of folder b)
  pub well : AllGoWell b.ends (heads_from (most_in folder) held 0 (names_of folder b))
  pub ordered : side.heads.now
      ≡ in_head_order (heads_from (most_in folder) held 0 (names_of folder b))

said : (folder : List ℕ) (b : Book) (held : Files) (side : Side) (rests : List Rest)
    → side.names.now ≡ names_of folder b → AreSound folder b held side
    → (result : Result (List (List ℕ)) JobFault) (h : History)
    → SummedAll (names_of folder b) held (map (digest_of side held) rests) result h
    → SummedFrom folder b rests held result h
said folder b held side rests names_are known (Ok digests) h x = (
  x.0,
  known.sound,
  known.well,
  x.1 ∙ digests_same folder b held side names_are known.ordered known.well rests,
)
said folder b held side rests names_are known (Err (Outside call)) h x = tt
said folder b held side rests names_are known (Err (Damaged name at)) h x = absurd x
said folder b held side rests names_are known (Err (Spent n)) h x = tt
said folder b held side rests names_are known (Err NoMemory) h x = tt

pub summed_so : (folder : List ℕ) (b : Book) (held : Files) {side : Side} (rests : List Rest)
    (result : Result (List (List ℕ)) JobFault) {K : History → History → Type 0}
    {old mid new : Option History}
    → ((most : ℕ) (all : List (List ℕ)) (files : Files) → most ≤ 1048576 → AreSettled all files
    → IsSide most all files side → StreamsRise side.heads.now
    → Adds mid new (Leads (anyhow (SparesFiles all)) (HasFiles all files)
    (SummedAll all files (map (digest_of side files) rests) result)))
    → side.names.now ≡ names_of folder b → AreSettled (names_of folder b) held
    → Adds old mid (Leads (anyhow (SparesFiles (names_of folder b)))
    (HasFiles (names_of folder b) held) (SoundHeads folder b held (Ok side.heads.now)))
    → Adds mid new K
    → Adds old new (Leads (anyhow (SparesFiles (names_of folder b)))
    (HasFiles (names_of folder b) held) (SummedFrom folder b rests held result))
summed_so folder b held {side = side} rests result raw names_are settled sound own =
    leads_then
    (leads_as (λ h x. x)
    (λ h x. (
      x.0,
      (let known : AreSound folder b held side =
          record { sound = x.1; well = x.2; ordered = x.3 } in known),
    ))
    sound)
    (under own
    (λ (known : AreSound folder b held side).
    leads_as (λ h x. x)
    (λ h x. said folder b held side rests names_are known result h x)
    (raw (most_in folder) (names_of folder b) held (most_bound folder) settled
    (is_side folder b held side names_are known.ordered)
    (side_rises folder b held side names_are known.ordered))))

-- the digests of all streams from their starts on are those of the book
pub whole_so : (folder : List ℕ) (b : Book) (held : Files) (rests : List Rest)
    (ends : List EndStruct) → map (λ (r : Rest). r.end.now) rests ≡ ends
    → map (λ (r : Rest). r.begin) rests ≡ map (λ (e : EndStruct). e.start) ends
    → map end_view ends ≡ b.ends → (result : Result (List (List ℕ)) JobFault) (h : History)
    → SummedFrom folder b rests held result h → SummedFiles folder b held result h
whole_so folder b held rests ends es is ends_are (Ok digests) h x = (
  x.0,
  x.1,
  x.2,
  x.3 ∙ (whole_digests folder b held rests ends es is
      ∙ ap (map (λ (e : End). sha256 (archived folder b held e.stream))) ends_are),
)
whole_so folder b held rests ends es is ends_are (Err (Outside call)) h x = x
whole_so folder b held rests ends es is ends_are (Err (Damaged name at)) h x = x
whole_so folder b held rests ends es is ends_are (Err (Spent n)) h x = x
whole_so folder b held rests ends es is ends_are (Err NoMemory) h x = x
