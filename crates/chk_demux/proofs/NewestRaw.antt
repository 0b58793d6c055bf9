-- What the reading of the newest segments leads to, whatever was told before, and what it shows.
use Rattle.std.proofs.Common.{◌≡◌, ◌∙◌, ℕ, List, ◌++◌, Option, Some, None, Ok, Err, Result, subst, arith}
use Rattle.std.specs.Prelude.{Contains, IsTrue, drop, ◌≤◌, codes}
use Rattle.chk_site.specs.Files.{Files}
use Rattle.chk_site.specs.History.{History, Every}
use Rattle.chk_site.specs.Site.{Adds}
use Rattle.chk_site.specs.Runs.{anyhow, Leads}
use Rattle.chk_site.proofs.Runs.{adds_as, adds_both, adds_then}
use Rattle.chk_site.proofs.Leads.{leads_as, leads_then, owned_anyhow}
use Rattle.chk_world.specs.Books.{Book, ends_rise}
use Rattle.chk_world.specs.JobSteps.{IsOf, ReadsFile}
use Rattle.chk_world.proofs.Each.{filter_in}
use Rattle.chk_record_index.specs.Heads.{Head}
use Rattle.chk_record_index.specs.Order.{in_head_order}
use Rattle.chk_record_index.specs.Faults.{IsOfWrite}
use Rattle.chk_record_index.specs.declared.fault.JobFault.{JobFault}
use Rattle.chk_record_index.specs.declared.fault.JobFault.TheVariants.{Outside, Damaged, Spent, NoMemory}
use Rattle.chk_record_index.proofs.Showing.{within_all, within_late}
use Rattle.chk_record_reader.specs.Gone.{ShowsSound}
use Rattle.chk_record_reader.specs.Merging.{SoundHeads}
use Rattle.chk_record_reader.specs.Segments.{names_of, HasFiles, SparesFiles, AreSettled}
use Rattle.chk_record_reader.proofs.Causes.{late_unsound}
use Rattle.chk_record_reader.proofs.Frames.{reads_quiet}
use Rattle.chk_demux_scan.specs.Forward.{is_past, past_of}
use Rattle.chk_demux_scan.specs.Newest.{Suffice, FoundFrom, are_found, too_few, FoundNewest, ShowsNewest}
use Rattle.chk_demux.proofs.Whole.{whole_back, whole_starts}
use Rattle.chk_demux.specs.Enough.{places_for, AreNewest, SoundNewest, IsEnoughFrom, SoundOlder}
use Rattle.chk_demux.specs.Shown.{ShowsNewestSound}
use Rattle.chk_demux.proofs.RawReads.{beside, files_stay}
use Rattle.chk_demux.proofs.Thinned.{filter_in_order}

module _ (a b : Book) (files : Files) (sorted : IsTrue (ends_rise a.ends))
    (settled : AreSettled (names_of (codes "archive") a) files) (names : List (List ℕ))
    (are : names ≡ names_of (codes "archive") a) (places : List ℕ)
    (placed : places ≡ places_for a b)
    (r : Result (Option (List Head)) JobFault) {old mid : Option History}
    (raw : Adds old mid (Leads (anyhow (SparesFiles names)) (HasFiles names files)
    (FoundNewest a.ends places names files 0 r)))
    (own : Adds old mid (Every (IsOf ReadsFile))) where
  abbrev Names : List (List ℕ)
  Names = names_of (codes "archive") a

  abbrev Found : Result (Option (List Head)) JobFault → History → Type 0
  Found x h = HasFiles Names files h × FoundNewest a.ends (places_for a b) Names files 0 x h

  found : Adds old mid (Leads (anyhow (SparesFiles Names)) (HasFiles Names files) (Found r))
  found =
      adds_both (Leads (anyhow (SparesFiles Names)) (HasFiles Names files) (Found r))
      (files_stay ReadsFile Names files (λ call k w one. reads_quiet w call k) settled own)
      (subst (λ ps. Adds old mid (Leads (anyhow (SparesFiles Names)) (HasFiles Names files)
      (FoundNewest a.ends ps Names files 0 r))) placed
      (subst (λ ws. Adds old mid (Leads (anyhow (SparesFiles ws)) (HasFiles ws files)
      (FoundNewest a.ends places ws files 0 r))) are raw))
      (λ added history x y. record {
        leads = λ s h. (x.leads s h, y.leads s h);
        own = owned_anyhow added history;
      })

  are_newest : (heads : List Head) → FoundFrom a.ends (places_for a b) Names files 0 heads
      → AreNewest a b files heads
  are_newest heads (are_found j up n) = record {
    first = j;
    runs = record { within = n.within; suffice = n.suffice; newest = n.newest };
    order = n.order;
  }
  are_newest heads (too_few some few) = absurd (let z : ⊥ = omega (arith, some) in z)

  pub newest_sound : (heads : List Head) → r ≡ Ok (Some heads)
      → Adds old mid (Leads (anyhow (SparesFiles Names)) (HasFiles Names files)
      (SoundNewest a b files (Ok heads)))
  newest_sound heads is =
      leads_as (λ h z. z)
      (λ h z. (z.0, are_newest heads (subst (λ x. Found x h) is z).1.1)) found

  pub newest_failed : (fault : JobFault) → IsOfWrite fault
      → Adds old mid (Leads (anyhow (SparesFiles Names)) (HasFiles Names files)
      (SoundNewest a b files (Err fault)))
  newest_failed fault of = leads_as (λ h z. z) (λ h z. go fault of h) found
    where
      go : (fault : JobFault) → IsOfWrite fault → (h : History) → SoundNewest a b files (Err fault) h
      go (Outside call) of h = tt
      go (Damaged name at) of h = absurd of
      go (Spent n) of h = absurd of
      go NoMemory of h = tt

  abbrev Few : Type 0
  Few = Suffice a.ends (places_for a b) Names files 0 → ⊥

  -- where they don't suffice, all are read, and something is wrong
  pub then_sound : r ≡ Ok None → (q : Result (List Head) JobFault) {new : Option History}
      → Adds mid new (Leads (anyhow (SparesFiles Names)) (HasFiles Names files)
      (SoundHeads (codes "archive") a files q))
      → Adds old new (Leads (anyhow (SparesFiles Names)) (HasFiles Names files)
      (SoundNewest a b files q))
  then_sound is q second =
      leads_then
      (leads_as {B' = λ h. HasFiles Names files h × Few} (λ h z. z)
      (λ h z. (z.0, (subst (λ x. Found x h) is z).1)) found)
      (leads_as (λ h z. z) (λ h z. go q h z.0 z.1) (beside Few second))
    where
      go : (q : Result (List Head) JobFault) (h : History) → SoundHeads (codes "archive") a files q h
          → Few → SoundNewest a b files q h
      go (Ok heads) h z few = absurd (few (record {
        sound = z.1;
        run = whole_back a.ends sorted _ z.2;
        far = whole_starts a.ends sorted _ z.2;
      }))
      go (Err (Outside call)) h z few = tt
      go (Err (Damaged name at)) h z few = z
      go (Err (Spent n)) h z few = tt
      go (Err NoMemory) h z few = tt

-- ---- the same where the files from some one on suffice, whatever the older ones are

module _ (a b : Book) (files : Files) (k : ℕ) (enough : IsEnoughFrom a b files k)
    (names : List (List ℕ))
    (are : names ≡ names_of (codes "archive") a) (places : List ℕ)
    (placed : places ≡ places_for a b)
    (r : Result (Option (List Head)) JobFault) {old mid : Option History}
    (raw : Adds old mid (Leads (anyhow (SparesFiles (drop k names))) (HasFiles (drop k names) files)
    (FoundNewest a.ends places names files k r))) where
  abbrev Least : List (List ℕ)
  Least = drop k (names_of (codes "archive") a)

  abbrev FoundK : Result (Option (List Head)) JobFault → History → Type 0
  FoundK x h = FoundNewest a.ends (places_for a b) (names_of (codes "archive") a) files k x h

  found_k : Adds old mid (Leads (anyhow (SparesFiles Least)) (HasFiles Least files) (FoundK r))
  found_k =
      subst (λ ps. Adds old mid (Leads (anyhow (SparesFiles Least)) (HasFiles Least files)
      (FoundNewest a.ends ps (names_of (codes "archive") a) files k r))) placed
      (subst (λ ws. Adds old mid (Leads (anyhow (SparesFiles (drop k ws)))
      (HasFiles (drop k ws) files)
      (FoundNewest a.ends places ws files k r))) are raw)

  pub older_sound : (heads : List Head) → r ≡ Ok (Some heads)
      → Adds old mid (Leads (anyhow (SparesFiles Least)) (HasFiles Least files)
      (SoundOlder a b files k (Ok heads)))
  older_sound heads is =
      leads_as (λ h z. z)
      (λ h z. let y = subst (λ x. FoundK x h) is z in let w = go y.1 in (y.0, w.0, w.1)) found_k
    where
      go : FoundFrom a.ends (places_for a b) (names_of (codes "archive") a) files k heads
          → (x : AreNewest a b files heads) × (k ≤ x.first)
      go (are_found j up n) = (
        record {
          first = j;
          runs = record { within = n.within; suffice = n.suffice; newest = n.newest };
          order = n.order;
        },
        up,
      )
      go (too_few some few) = absurd (few enough.suffice)

  pub older_failed : (fault : JobFault) → IsOfWrite fault
      → Adds old mid (Leads (anyhow (SparesFiles Least)) (HasFiles Least files)
      (SoundOlder a b files k (Err fault)))
  older_failed fault of = leads_as (λ h z. z) (λ h z. go fault of h) found_k
    where
      go : (fault : JobFault) → IsOfWrite fault → (h : History) → SoundOlder a b files k
          (Err fault) h
      go (Outside call) of h = tt
      go (Damaged name at) of h = absurd of
      go (Spent n) of h = absurd of
      go NoMemory of h = tt

  -- that they don't isn't found
  pub older_none : r ≡ Ok None → (q : Result (List Head) JobFault) {P : History → History → Type 0}
      {new : Option History} → Adds mid new P
      → Adds old new (Leads (anyhow (SparesFiles Least)) (HasFiles Least files)
      (SoundOlder a b files k q))
  older_none is q second =
      leads_then
      (leads_as {B' = λ h. ⊥} (λ h z. z)
      (λ h z. (subst (λ x. FoundK x h) is z) enough.suffice) found_k)
      (adds_as (Leads (anyhow (SparesFiles Least)) (λ h. ⊥) (SoundOlder a b files k q)) second
      (λ added history p. record {
        leads = λ s x. absurd x;
        own = owned_anyhow added history;
      }))

-- ---- what own reads show

module _ (a : Book) (names : List (List ℕ)) (are : names ≡ names_of (codes "archive") a)
    (places : List ℕ) where
  -- heads that are picked out are some of all of them
  some_of : (heads found : List Head) → heads ≡ in_head_order (past_of a.ends places found)
      → (h : Head) → Contains heads h → Contains (in_head_order found) h
  some_of heads found order h one =
      filter_in (is_past a.ends places) (in_head_order found) h
      (subst (λ hs. Contains hs h)
      (order ∙ filter_in_order (is_past a.ends places) found) one)

  pub newest_shown : (heads : List Head) (r : Result (Option (List Head)) JobFault)
      → r ≡ Ok (Some heads) → {old mid : Option History}
      → Adds old mid (ShowsNewest a.ends places names r)
      → Adds old mid (ShowsNewestSound a (Ok heads))
  newest_shown heads r is told =
      adds_as (ShowsNewestSound a (Ok heads)) told
      (λ added history x.
      let y = subst (λ ws. ShowsNewest a.ends places ws (Ok (Some heads)) added history) are
      (subst (λ v. ShowsNewest a.ends places names v added history) is x) in
      (y.first, y.found, some_of heads y.found y.order, within_all _ added history y.show))

  pub newest_shows_none : (fault : JobFault) → IsOfWrite fault → {P : History → History → Type 0}
      {old mid : Option History} → Adds old mid P → Adds old mid (ShowsNewestSound a (Err fault))
  newest_shows_none (Outside call) of told =
      adds_as (ShowsNewestSound a (Err (Outside call))) told (λ added history x. tt)
  newest_shows_none (Damaged name at) of told = absurd of
  newest_shows_none (Spent n) of told = absurd of
  newest_shows_none NoMemory of told =
      adds_as (ShowsNewestSound a (Err NoMemory)) told (λ added history x. tt)

  -- behind other reads all are shown
  pub then_shown : {P : History → History → Type 0} {old mid new : Option History} → Adds old mid P
      → (q : Result (List Head) JobFault) → Adds mid new (ShowsSound (codes "archive") a q)
      → Adds old new (ShowsNewestSound a q)
  then_shown so_far q told =
      adds_then (ShowsNewestSound a q) so_far told (λ p d history x y. go q p d history y)
    where
      go : (q : Result (List Head) JobFault) (p d history : History)
          → ShowsSound (codes "archive") a q d (p ++ history)
          → ShowsNewestSound a q (d ++ p) history
      go (Ok heads) p d history y = (
        0,
        y.0,
        (λ h one. subst (λ l. Contains l h) y.1 one),
        within_late _ d p history (within_all _ d (p ++ history) y.2),
      )
      go (Err (Outside call)) p d history y = tt
      go (Err (Damaged name at)) p d history y =
          late_unsound (codes "archive") a name at d p history y
      go (Err (Spent n)) p d history y = tt
      go (Err NoMemory) p d history y = tt
