-- The heads of all records that a book names, checked and in order.
use Rattle.std.proofs.Common.{◌≡◌, inl, inr, ℕ, List, [], Option, None, Ok, Err, Result, ◌∙◌, ap, subst}
use Rattle.chk_site.specs.Files.{Files}
use Rattle.chk_site.specs.History.{History}
use Rattle.chk_site.specs.Site.{Adds}
use Rattle.chk_site.specs.Runs.{anyhow, Leads}
use Rattle.chk_site.proofs.Leads.{leads_as}
use Rattle.chk_world.specs.Books.{Book}
use Rattle.chk_world.proofs.Each.{Each}
use Rattle.chk_record_index.specs.Heads.{Head}
use Rattle.chk_record_index.specs.Order.{in_head_order}
use Rattle.chk_record_index.specs.Faults.{IsOfRead, JobCause}
use Rattle.chk_record_index.specs.declared.fault.JobFault.{JobFault}
use Rattle.chk_record_index.specs.declared.fault.JobFault.TheVariants.{Outside, Damaged, Spent, NoMemory}
use Rattle.chk_book.specs.Folders.{most_in}
use Rattle.chk_record_reader.specs.Segments.{names_of, HasFiles, SparesFiles, IsSound, heads_from, GatheredAll}
use Rattle.chk_record_reader.specs.Courses.{end_of, break_by, reaches}
use Rattle.chk_record_reader.specs.Checking.{AllGoWell, ToldOfSome}
use Rattle.chk_record_reader.specs.Archives.{IsBroken, bad_segment, broken, unreached, ToldBreak}
use Rattle.chk_record_reader.specs.Merging.{SoundHeads}

module _ (folder : List ℕ) (b : Book) (held : Files) {old new : Option History} where
  pub heads_sound : (heads ordered : List Head) → AllGoWell b.ends heads → ordered ≡ in_head_order heads
      → Adds old new (Leads (anyhow (SparesFiles (names_of folder b))) (HasFiles (names_of folder b) held)
      (GatheredAll (most_in folder) (names_of folder b) held (Ok heads)))
      → Adds old new (Leads (anyhow (SparesFiles (names_of folder b))) (HasFiles (names_of folder b) held)
      (SoundHeads folder b held (Ok ordered)))
  heads_sound heads ordered well is told =
      leads_as (λ h x. x)
      (λ h x. (x.0, x.1, subst (AllGoWell b.ends) x.2 well, is ∙ ap in_head_order x.2)) told

  pub heads_bad : (fault : JobFault)
      → Adds old new (Leads (anyhow (SparesFiles (names_of folder b))) (HasFiles (names_of folder b) held)
      (GatheredAll (most_in folder) (names_of folder b) held (Err fault)))
      → Adds old new (Leads (anyhow (SparesFiles (names_of folder b))) (HasFiles (names_of folder b) held)
      (SoundHeads folder b held (Err fault)))
  heads_bad fault told = leads_as (λ h x. x) (λ h x. said fault h x) told
    where
      said : (fault : JobFault) (history : History)
          → GatheredAll (most_in folder) (names_of folder b) held (Err fault) history
          → SoundHeads folder b held (Err fault) history
      said (Outside call) history x = tt
      said (Damaged name at) history x = (record { source = []; kind = []; name = [] }, bad_segment x)
      said (Spent n) history x = tt
      said NoMemory history x = tt

  pub heads_broken : (heads : List Head) (fault : JobFault) → ToldOfSome folder b (names_of folder b) heads fault
      → Adds old new (Leads (anyhow (SparesFiles (names_of folder b))) (HasFiles (names_of folder b) held)
      (GatheredAll (most_in folder) (names_of folder b) held (Ok heads)))
      → Adds old new (Leads (anyhow (SparesFiles (names_of folder b))) (HasFiles (names_of folder b) held)
      (SoundHeads folder b held (Err fault)))
  heads_broken heads fault is told = leads_as (λ h x. x) (λ h x. said fault is.1 h x.1 x.2) told
    where
      said : (fault : JobFault) → ToldBreak folder b (names_of folder b) is.0 heads fault → (history : History)
          → Each (IsSound (most_in folder) held) (names_of folder b)
          → heads ≡ heads_from (most_in folder) held 0 (names_of folder b)
          → SoundHeads folder b held (Err fault) history
      said (Outside call) x history sound are = absurd x
      said (Damaged name at) (inl one) history sound are = (
        is.0,
        broken sound
            (subst (λ hs. IsBroken (names_of folder b) (break_by is.0 (end_of is.0 b.ends) hs) name at) are one),
      )
      said (Damaged name at) (inr one) history sound are = (
        is.0,
        unreached sound (subst (λ hs. break_by is.0 (end_of is.0 b.ends) hs ≡ None) are one.0)
            (subst (λ hs. reaches is.0 (end_of is.0 b.ends) hs → ⊥) are one.1) one.2 one.3,
      )
      said (Spent n) x history sound are = absurd x
      said NoMemory x history sound are = tt

-- ---- the fault of records that don't run is of no call

module _ (folder : List ℕ) (b : Book) (ns : List (List ℕ)) (heads : List Head) where
  pub some_of_read : (fault : JobFault) → ToldOfSome folder b ns heads fault → IsOfRead fault
  some_of_read (Outside call) is = tt
  some_of_read (Damaged name at) is = tt
  some_of_read (Spent n) is = absurd is.1
  some_of_read NoMemory is = tt

  pub some_no_call : (fault : JobFault) → ToldOfSome folder b ns heads fault → (call : _)
      → Path (Result (List Head) JobFault) (Err fault) (Err (Outside call)) → ⊥
  some_no_call (Outside other) is call e = absurd is.1
  some_no_call (Damaged name at) is call e = cc
  some_no_call (Spent n) is call e = absurd is.1
  some_no_call NoMemory is call e = cc

  pub some_cause : (fault : JobFault) → ToldOfSome folder b ns heads fault → (before now : ℕ) → now ≡ before
      → JobCause {T = List Head} before now (Err fault)
  some_cause (Outside call) is before now same = absurd is.1
  some_cause (Damaged name at) is before now same = same
  some_cause (Spent n) is before now same = same
  some_cause NoMemory is before now same = same
