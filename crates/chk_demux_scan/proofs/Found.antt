-- What is answered where the reading is over.
use Rattle.std.proofs.Common.{◌≡◌, ℕ, Bool, true, false, true≢false, List, map, drop, Option, Some, None, Ok, Err, sym, subst}
use Rattle.std.specs.Prelude.{IsTrue}
use Rattle.chk_site.specs.Files.{Files}
use Rattle.chk_site.specs.History.{History}
use Rattle.chk_site.specs.Site.{Adds}
use Rattle.chk_site.specs.Runs.{anyhow, Leads}
use Rattle.chk_site.proofs.Runs.{adds_as}
use Rattle.chk_site.proofs.Leads.{leads_as, owned_anyhow}
use Rattle.chk_world.specs.Books.{End, ends_rise}
use Rattle.chk_record_index.specs.Heads.{Head}
use Rattle.chk_record_index.specs.Order.{in_head_order}
use Rattle.chk_record_index.specs.declared.fault.JobFault.{JobFault}
use Rattle.chk_book.specs.declared.lists.End.{End as EndStruct}
use Rattle.chk_book.specs.Views.{end_view}
use Rattle.chk_record_reader.specs.Segments.{HasFiles, SparesFiles}
use Rattle.chk_demux_scan.specs.Newest.{FoundNewest, ReadBack, ShowsNewest, ShowsBack}

-- what holds of the ends that are lent holds of the book's
of_book : (P : List End → Type 0) (lent ends : List EndStruct) → lent ≡ ends
    → (IsTrue (ends_rise (map end_view lent)) → P (map end_view lent))
    → IsTrue (ends_rise (map end_view ends)) → P (map end_view ends)
of_book P lent ends is held =
    subst (λ xs. IsTrue (ends_rise (map end_view xs)) → P (map end_view xs)) is held

-- with the files from the k-th one on, this follows
abbrev Told : List (List ℕ) → Files → ℕ → Option History → Option History → (History → Type 0)
    → Type 0
Told names held k first last B =
    Adds first last (Leads (anyhow (SparesFiles (drop k names))) (HasFiles (drop k names) held) B)

module _ (lent ends : List EndStruct) (is : lent ≡ ends)
    (rise : IsTrue (ends_rise (map end_view ends)))
    (places : List ℕ) (names : List (List ℕ)) {first last : Option History} where
  module _ (held : Files) (k : ℕ) where
    pub found_all : (heads sorted : List Head) → sorted ≡ in_head_order heads → (b : Bool)
        → b ≡ true
        → (IsTrue (ends_rise (map end_view lent))
        → Told names held k first last (ReadBack (map end_view lent) places names held k heads
        (Ok b)))
        → Told names held k first last (FoundNewest (map end_view ends) places names held k
        (Ok (Some sorted)))
    found_all heads sorted order false wrong told = absurd (true≢false (sym wrong))
    found_all heads sorted order true all told =
        leads_as (λ h x. x) (λ h x. (x.0, x.1 sorted order))
        (of_book (λ es. Told names held k first last
        (ReadBack es places names held k heads (Ok true))) lent ends is told rise)

    pub found_none : (heads : List Head) (b : Bool) → b ≡ false
        → (IsTrue (ends_rise (map end_view lent))
        → Told names held k first last (ReadBack (map end_view lent) places names held k heads
        (Ok b)))
        → Told names held k first last (FoundNewest (map end_view ends) places names held k
        (Ok None))
    found_none heads true wrong told = absurd (true≢false wrong)
    found_none heads false none told =
        of_book (λ es. Told names held k first last
        (ReadBack es places names held k heads (Ok false))) lent ends is told rise

  pub shows_found : (heads sorted : List Head) → sorted ≡ in_head_order heads → (b : Bool)
      → b ≡ true
      → (IsTrue (ends_rise (map end_view lent))
      → Adds first last (ShowsBack (map end_view lent) places names heads (Ok b)))
      → Adds first last (ShowsNewest (map end_view ends) places names (Ok (Some sorted)))
  shows_found heads sorted order false wrong told = absurd (true≢false (sym wrong))
  shows_found heads sorted order true all told =
      adds_as (ShowsNewest (map end_view ends) places names (Ok (Some sorted)))
      (of_book (λ es. Adds first last (ShowsBack es places names heads (Ok true))) lent ends is told
      rise)
      (λ added history x. x sorted order)

module _ (es : List End) (places : List ℕ) (names : List (List ℕ))
    {first last : Option History} where
  pub found_failed : (held : Files) (k : ℕ) {P : History → History → Type 0}
      (fault : JobFault)
      → Adds first last P
      → Adds first last (Leads (anyhow (SparesFiles (drop k names))) (HasFiles (drop k names) held)
      (FoundNewest es places names held k (Err fault)))
  found_failed held k fault told =
      adds_as (Leads (anyhow (SparesFiles (drop k names))) (HasFiles (drop k names) held)
      (FoundNewest es places names held k (Err fault))) told
      (λ added history p. record { leads = λ s h. tt; own = owned_anyhow added history })

  pub shows_none : {P : History → History → Type 0} → Adds first last P
      → Adds first last (ShowsNewest es places names (Ok None))
  shows_none told = adds_as (ShowsNewest es places names (Ok None)) told (λ added history x. tt)

  pub shows_not : {P : History → History → Type 0} (fault : JobFault) → Adds first last P
      → Adds first last (ShowsNewest es places names (Err fault))
  shows_not fault told =
      adds_as (ShowsNewest es places names (Err fault)) told (λ added history x. tt)
