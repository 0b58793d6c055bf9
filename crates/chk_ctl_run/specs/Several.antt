-- What `held` shows of several stores.
use Rattle.std.specs.Prelude.{◌≡◌, ℕ, Bool, true, false, nat_lt, List, [], ◌∷◌, ◌++◌, length, map}
use Rattle.std.specs.Prelude.{codes, Option, Result, Ok, Err}
use Rattle.std.specs.List.{list_any}
use Rattle.chk_site.specs.declared.acts.OutsideFault.{OutsideFault}
use Rattle.chk_site.specs.History.{History}
use Rattle.chk_world.specs.Sight.{job}
use Rattle.chk_record_index.specs.declared.fault.JobFault.{JobFault}
use Rattle.chk_book.specs.Folders.{book_name}
use Rattle.chk_cmd_output.specs.Printing.{PrintsInTurn}
use Rattle.chk_ctl_held.specs.declared.stores.Store.{Store}
use Rattle.chk_ctl_held.specs.Elsewhere.{all_lines}
use Rattle.chk_ctl_held.specs.Finding.{FoundAgain}
use Rattle.chk_ctl_held.specs.Stores.{seen_of}
use Rattle.chk_ctl_run.specs.declared.outcome.Outcome.{Outcome}
use Rattle.chk_ctl_run.specs.declared.outcome.Outcome.TheVariants.{NoBook, NoMemory, Waits}
use Rattle.chk_ctl_run.specs.Finding.{FindsFile}
use Rattle.chk_ctl_run.specs.Outcomes.{outcome_of_job, told_as, OutcomeCause}

-- the folder of a store's archive
abbrev pub archive_of : List ℕ → List ℕ
archive_of store = store ++ codes "/archive"

abbrev pub book_of : List ℕ → List ℕ
book_of store = book_name (archive_of store)

-- a store's book is looked for, and then it and the chunks that it sets aside are read; or there
-- is no memory before
pub data FindsStore (store : List ℕ) : Result Store Outcome → Option History → Option History
    → Type 0 where
  unnamed : {now : Option History} → FindsStore store (Err NoMemory) now now
  not_there : {now later : Option History} {name : List ℕ} → name ≡ book_of store
      → FindsFile (book_of store) (Ok false) now later
      → FindsStore store (Err (NoBook name)) now later
  not_seen : {now later : Option History} (fault : OutsideFault)
      → FindsFile (book_of store) (Err fault) now later
      → FindsStore store (Err (told_as (Err fault))) now later
  not_read : {old mid new : Option History} (fault : JobFault)
      → FindsFile (book_of store) (Ok true) old mid
      → FoundAgain (archive_of store) (Err fault) mid new
      → FindsStore store (Err (outcome_of_job fault)) old new
  read : {old mid new : Option History} (s : Store) → s.name ≡ store
      → FindsFile (book_of store) (Ok true) old mid
      → FoundAgain (archive_of store) (Ok s.waiting) mid new
      → FindsStore store (Ok s) old new

-- the same behind the look for the book
abbrev pub LoadsStore : List ℕ → List ℕ → Result Store Outcome → Option History → Option History
    → Type 0
LoadsStore store folder (Ok s) before after =
    (s.name ≡ store) × FoundAgain folder (Ok s.waiting) before after
LoadsStore store folder (Err outcome) before after =
    (fault : JobFault) × FoundAgain folder (Err fault) before after
    × (outcome ≡ outcome_of_job fault)

-- the stores of a list that was found
abbrev pub stores_in : {V : Type 0} → Result V Outcome → (V → List Store)
    → Result (List Store) Outcome
stores_in (Ok stores) items = Ok (items stores)
stores_in (Err outcome) items = Err outcome

-- store after store, behind those that are found, up to the first that isn't
pub data FindsStores : List Store → List (List ℕ) → Result (List Store) Outcome → Option History
    → Option History → Type 0 where
  all_found : {done : List Store} {now : Option History} → FindsStores done [] (Ok done) now now
  one_found : {done : List Store} {store : List ℕ} {stores : List (List ℕ)}
      {result : Result (List Store) Outcome} {old mid new : Option History} (s : Store)
      → FindsStore store (Ok s) old mid → FindsStores (done ++ s ∷ []) stores result mid new
      → FindsStores done (store ∷ stores) result old new
  one_missed : {done : List Store} {store : List ℕ} {stores : List (List ℕ)} {old new : Option History}
      (outcome : Outcome) → FindsStore store (Err outcome) old new
      → FindsStores done (store ∷ stores) (Err outcome) old new
  no_place : {done : List Store} {store : List ℕ} {stores : List (List ℕ)} {old new : Option History}
      (s : Store) → FindsStore store (Ok s) old new
      → FindsStores done (store ∷ stores) (Err NoMemory) old new

-- in one of them chunks wait
abbrev pub has_waiting : List Store → Bool
has_waiting stores = list_any (λ s. nat_lt 0 (length s.waiting.heads)) stores

-- the outcome of the lines: done only where no chunk waits in a store
abbrev pub waits_as : Bool → Result (Unit {0}) OutsideFault → Outcome
waits_as waits (Err fault) = told_as (Err fault)
waits_as false (Ok value) = told_as (Ok value)
waits_as true (Ok value) = Waits

-- the lines of each store are printed, up to a refusal
pub record TellsStores (stores : List Store) (outcome : Outcome) (before after : Option History)
    : Type 0 where
  pub given : Result (Unit {0}) OutsideFault
  pub printed : PrintsInTurn job (all_lines (map seen_of stores)) given before after
  pub is : outcome ≡ waits_as (has_waiting stores) given

-- all stores are read, and then the lines are printed; or the first one that can't be ends the
-- work
pub data ShowsStores (stores : List (List ℕ)) : Outcome → Option History → Option History
    → Type 0 where
  store_missed : {outcome : Outcome} {old new : Option History}
      → FindsStores [] stores (Err outcome) old new → ShowsStores stores outcome old new
  stores_told : {outcome : Outcome} {old mid new : Option History} (found : List Store)
      → FindsStores [] stores (Ok found) old mid → TellsStores found outcome mid new
      → ShowsStores stores outcome old new

-- only a call of the outside that failed raises the count
abbrev pub StoreCause : {T : Type 0} → ℕ → ℕ → Result T Outcome → Type 0
StoreCause before now (Ok value) = now ≡ before
StoreCause before now (Err outcome) = OutcomeCause before now outcome
