-- Why records are told to be damaged, through calls in turn.
use Rattle.std.proofs.Common.{◌≡◌, ◌∙◌, ℕ, zero, suc, ◌+◌, ◌-◌, ◌≤◌, min, ◌<◌, ◌^◌, List, [], ◌∷◌, ◌++◌, length, get_or, arith, Option, Ok, Err, Result, refl, sym, ap, subst}
use Rattle.std.specs.Prelude.{Contains, slice_index_or, IfErr}
use Rattle.chk_site.specs.declared.acts.OutsideFault.{OutsideFault}
use Rattle.chk_site.specs.History.{History}
use Rattle.chk_site.specs.Site.{Adds}
use Rattle.chk_site.proofs.Runs.{adds_then, adds_as}
use Rattle.chk_world.specs.Books.{Book}
use Rattle.chk_record_index.specs.declared.fault.JobFault.{JobFault}
use Rattle.chk_record_index.specs.declared.fault.JobFault.TheVariants.{Outside, Damaged, Spent, NoMemory}
use Rattle.chk_record_index.specs.Heads.{Head}
use Rattle.chk_record_index.specs.Order.{in_head_order}
use Rattle.chk_record_index.specs.Faults.{IsDamage, IsOfBegin, IsOfWrite}
use Rattle.chk_record_index.specs.Shown.{ShowsBytes, Within}
use Rattle.chk_record_index.specs.ShownHeads.{ShowAll, ShowsAllGathered}
use Rattle.chk_record_index.specs.Causes.{Cause, Shows}
use Rattle.chk_record_index.proofs.Showing.{within_all, within_late, within_early}
use Rattle.chk_record_index.proofs.Causes.{IsLate}
use Rattle.chk_book.specs.Folders.{most_in}
use Rattle.chk_record_reader.specs.Spans.{NoValueSpan, room_of}
use Rattle.chk_record_reader.specs.Segments.{names_of}
use Rattle.chk_record_reader.specs.Checking.{ToldOfSome}
use Rattle.chk_record_reader.specs.ReadBack.{NotHeld}
use Rattle.chk_record_reader.specs.Gone.{once, ended, twice, ShowsRun, ShowsWindow, IsGone, IsGoneOf, IsGoneIn, IsUnsound, bad, broken, gone, IsUnreadable, lost, ShowsSound}
use Rattle.chk_record_reader.specs.declared.reader.RecordReader.{RecordReader}

-- ---- one run of a file's bytes

pub run_once : (name : List ℕ) (at size : ℕ) (result : Result (List ℕ) OutsideFault) {old new : Option History}
    → Adds old new (ShowsBytes name at size result) → Adds old new (ShowsRun name at size result)
run_once name at size result told = adds_as (ShowsRun name at size result) told (λ added history x. said result added history x)
  where
    said : (result : Result (List ℕ) OutsideFault) (added history : History) → ShowsBytes name at size result added history
        → ShowsRun name at size result added history
    said (Ok bytes) added history x = once x
    said (Err fault) added history x = tt

pub run_ended : (name : List ℕ) (at max size : ℕ) (bytes : List ℕ) {old new : Option History} → max ≤ size → length bytes < max
    → Adds old new (ShowsBytes name at max (Ok bytes)) → Adds old new (ShowsRun name at size (Ok bytes))
run_ended name at max size bytes few short told =
    adds_as (ShowsRun name at size (Ok bytes)) told (λ added history x. ended max few short x)

pub run_twice : (name : List ℕ) (at behind size : ℕ) (first rest bytes : List ℕ) {old mid new : Option History} → bytes ≡ first ++ rest
    → 1048576 ≤ length first → behind ≡ min (at + 1048576) (2 ^ 64 - 1) → Adds old mid (ShowsBytes name at 1048576 (Ok first))
    → Adds mid new (ShowsBytes name behind (size - 1048576) (Ok rest)) → Adds old new (ShowsRun name at size (Ok bytes))
run_twice name at behind size first rest bytes is full here so_far told =
    adds_then (ShowsRun name at size (Ok bytes)) so_far told
    (λ a b history x y. twice behind first rest b a refl is full here x y)

pub run_failed : {P : History → History → Type 0} (name : List ℕ) (at size : ℕ) (fault : OutsideFault) {old new : Option History} → Adds old new P
    → Adds old new (ShowsRun name at size (Err fault))
run_failed name at size fault told = adds_as (ShowsRun name at size (Err fault)) told (λ added history x. tt)

-- ---- a record that isn't found again

pub late_gone_of : (file : List ℕ) (h : Head) → IsLate (IsGoneOf file h)
late_gone_of file h name at b a history x = (x.0, x.1, within_late (IsGone file h) b a history x.2)

pub late_gone_in : (names : List (List ℕ)) (heads : List Head) → IsLate (IsGoneIn names heads)
late_gone_in names heads name at b a history x =
    (x.0, x.1, x.2, x.3, within_late (IsGone (slice_index_or names x.0.file []) x.0) b a history x.4)

-- the window that was read hasn't the head's record
pub not_again : (file : List ℕ) (h k : Head) (from size : ℕ) (r s : RecordReader) (fault : JobFault) {old new : Option History} → k ≡ h
    → from ≤ h.at → h.at - from + room_of h ≤ size → NotHeld h r s → IsDamage file k.at fault
    → Adds old new (ShowsWindow file k.file from size r (Ok tt)) → Adds old new (Shows {T = Unit {0}} (IsGoneOf file h) (Err fault))
not_again file h k from size r s fault same behind enough lacks damage told =
    adds_as (Shows {T = Unit {0}} (IsGoneOf file h) (Err fault)) told (λ added history x. said fault damage added history x)
  where
    gone_so : (added history : History) → ShowsWindow file k.file from size r (Ok tt) added history → IsGone file h added history
    gone_so added history x = record {
      from = from;
      size = size;
      bytes = r.bytes;
      behind = behind;
      enough = enough;
      none = subst (λ n. NoValueSpan r.bytes (h.at - n) (h.key.seq - h.begin)) x.1
          (lacks.none (x.0 ∙ ap (λ (j : Head). j.file) same) (subst (λ n. n ≤ h.at) (sym x.1) behind));
      gave = x.2;
    }

    said : (fault : JobFault) → IsDamage file k.at fault → (added history : History) → ShowsWindow file k.file from size r (Ok tt) added history
        → Shows {T = Unit {0}} (IsGoneOf file h) (Err fault) added history
    said (Outside call) damage added history x = tt
    said (Damaged name at) damage added history x = (
      damage.0,
      damage.1 ∙ ap (λ (j : Head). j.at) same,
      within_all (IsGone file h) added history (gone_so added history x),
    )
    said (Spent n) damage added history x = tt
    said NoMemory damage added history x = tt

-- it is one of the heads, in the file of its number
pub gone_of_one : (names : List (List ℕ)) (heads : List Head) (file : List ℕ) (h : Head) → Contains heads h
    → file ≡ slice_index_or names h.file [] → (name : List ℕ) (at : ℕ) (added history : History) → IsGoneOf file h name at added history
    → IsGoneIn names heads name at added history
gone_of_one names heads file h there is name at added history x =
    (h, there, x.0 ∙ is, x.1, subst (λ w. Within (IsGone w h) added history) is x.2)

-- a place among the heads has one head
pub one_head : (heads : List Head) (i : ℕ) (d e : Head) → i < length heads → get_or heads i d ≡ get_or heads i e
one_head [] i d e low = absurd (let z : ⊥ = omega arith in z)
one_head (h ∷ hs) zero d e low = refl
one_head (h ∷ hs) (suc i) d e low = one_head hs i d e (omega arith)

pub at_place : (heads : List Head) (i : ℕ) (d : Head) → i < length heads → Contains heads (get_or heads i d)
at_place heads i d low = (i, low, one_head heads i (get_or heads i d) d low)

pub shows_one : (names : List (List ℕ)) (heads : List Head) (file : List ℕ) (h : Head) → Contains heads h → file ≡ slice_index_or names h.file []
    → (result : Result (Unit {0}) JobFault) {old new : Option History} → Adds old new (Shows (IsGoneOf file h) result)
    → Adds old new (Shows (IsGoneIn names heads) result)
shows_one names heads file h there is result told =
    adds_as (Shows (IsGoneIn names heads) result) told (λ added history x. said result added history x)
  where
    said : (result : Result (Unit {0}) JobFault) (added history : History) → Shows (IsGoneOf file h) result added history
        → Shows (IsGoneIn names heads) result added history
    said (Ok value) added history x = tt
    said (Err (Outside call)) added history x = tt
    said (Err (Damaged name at)) added history x = gone_of_one names heads file h there is name at added history x
    said (Err (Spent k)) added history x = tt
    said (Err NoMemory) added history x = tt

-- ---- records that don't run as the book says

pub late_unsound : (folder : List ℕ) (b : Book) → IsLate (IsUnsound folder b)
late_unsound folder b name at d a history (bad x) = bad (within_late _ d a history x)
late_unsound folder b name at d a history (broken heads x is) = broken heads (within_late _ d a history x) is
late_unsound folder b name at d a history (gone heads x is) =
    gone heads (within_late _ d a history x) (late_gone_in (names_of folder b) (in_head_order heads) name at d a history is)

module _ (folder : List ℕ) (b : Book) (ns : List (List ℕ)) (most : ℕ) (n : ns ≡ names_of folder b) (m : most ≡ most_in folder)
    {old mid : Option History} where
  all_so : (result : Result (List Head) JobFault) → Adds old mid (ShowsAllGathered most ns result)
      → Adds old mid (ShowsAllGathered (most_in folder) (names_of folder b) result)
  all_so result told =
      subst (λ ws. Adds old mid (ShowsAllGathered (most_in folder) ws result)) n
      (subst (λ k. Adds old mid (ShowsAllGathered k ns result)) m told)

  pub sound_bad : (fault : JobFault) → Adds old mid (ShowsAllGathered most ns (Err fault)) → Adds old mid (ShowsSound folder b (Err fault))
  sound_bad fault told =
      adds_as (ShowsSound folder b (Err fault)) (all_so (Err fault) told) (λ added history x. said fault added history x)
    where
      said : (fault : JobFault) (added history : History) → ShowsAllGathered (most_in folder) (names_of folder b) (Err fault) added history
          → ShowsSound folder b (Err fault) added history
      said (Outside call) added history x = tt
      said (Damaged name at) added history x = bad x.1
      said (Spent k) added history x = tt
      said NoMemory added history x = tt

  pub sound_broken : (heads : List Head) (fault : JobFault) → ToldOfSome folder b ns heads fault
      → Adds old mid (ShowsAllGathered most ns (Ok heads)) → Adds old mid (ShowsSound folder b (Err fault))
  sound_broken heads fault told_of told =
      adds_as (ShowsSound folder b (Err fault)) (all_so (Ok heads) told)
      (λ added history x. said fault (subst (λ ws. ToldOfSome folder b ws heads fault) n told_of) added history x)
    where
      said : (fault : JobFault) → ToldOfSome folder b (names_of folder b) heads fault → (added history : History)
          → ShowAll (most_in folder) 0 (names_of folder b) heads added history → ShowsSound folder b (Err fault) added history
      said (Outside call) is added history x = tt
      said (Damaged name at) is added history x = broken heads (within_all _ added history x) is
      said (Spent k) is added history x = tt
      said NoMemory is added history x = tt

  pub sound_so : (heads sorted : List Head) → sorted ≡ in_head_order heads → Adds old mid (ShowsAllGathered most ns (Ok heads))
      → Adds old mid (ShowsSound folder b (Ok sorted))
  sound_so heads sorted order told =
      adds_as (ShowsSound folder b (Ok sorted)) (all_so (Ok heads) told) (λ added history x. (heads, order, x))

  -- what was gathered, and then read of one stream
  pub unreadable_so : {T : Type 0} (heads : List Head) (result : Result T JobFault)
      {new : Option History} → Adds old mid (ShowsAllGathered most ns (Ok heads))
      → Adds mid new (Shows (IsGoneIn ns heads) result)
      → Adds old new (Shows (IsUnreadable folder b) result)
  unreadable_so {T = T} heads result so_far told =
      adds_then (Shows (IsUnreadable folder b) result) (all_so (Ok heads) so_far) told
      (λ a d history x y. said result a d history x y)
    where
      said : (result : Result T JobFault) (a d history : History)
          → ShowAll (most_in folder) 0 (names_of folder b) heads a history
          → Shows (IsGoneIn ns heads) result d (a ++ history)
          → Shows (IsUnreadable folder b) result (d ++ a) history
      said (Ok value) a d history x y = tt
      said (Err (Outside call)) a d history x y = tt
      said (Err (Damaged name at)) a d history x y =
          lost heads (within_early _ d a history (within_all _ a history x))
          (subst (λ ws. IsGoneIn ws heads name at (d ++ a) history) n
          (late_gone_in ns heads name at d a history y))
      said (Err (Spent k)) a d history x y = tt
      said (Err NoMemory) a d history x y = tt

-- one of the heads isn't found again
pub merge_gone : (folder : List ℕ) (b : Book) (ns : List (List ℕ)) (heads : List Head) (U : Type 0) (fault : JobFault) {old mid new : Option History}
    → ns ≡ names_of folder b → Adds old mid (ShowsSound folder b (Ok heads)) → Adds mid new (Shows {T = U} (IsGoneIn ns heads) (Err fault))
    → Adds old new (Shows {T = Unit {0}} (IsUnsound folder b) (Err fault))
merge_gone folder b ns heads U fault n so_far told =
    adds_then (Shows {T = Unit {0}} (IsUnsound folder b) (Err fault)) so_far told (λ a d history x y. said fault a d history x y)
  where
    said : (fault : JobFault) (a d history : History) → ShowsSound folder b (Ok heads) a history
        → Shows {T = U} (IsGoneIn ns heads) (Err fault) d (a ++ history) → Shows {T = Unit {0}} (IsUnsound folder b) (Err fault) (d ++ a) history
    said (Outside call) a d history x y = tt
    said (Damaged name at) a d history x y =
        gone x.0 (within_early _ d a history (within_all _ a history x.2))
        (subst (λ ws. IsGoneIn ws (in_head_order x.0) name at (d ++ a) history) n
        (subst (λ hs. IsGoneIn ns hs name at (d ++ a) history) x.1 (late_gone_in ns heads name at d a history y)))
    said (Spent k) a d history x y = tt
    said NoMemory a d history x y = tt

-- ---- no damage is told

pub shows_written : {T : Type 0} (C : Cause) (result : Result T JobFault) {P : History → History → Type 0} {old new : Option History}
    → IfErr result IsOfWrite → Adds old new P → Adds old new (Shows C result)
shows_written {T = T} C result of told = adds_as (Shows C result) told (λ added history x. said result of added history)
  where
    said : (result : Result T JobFault) → IfErr result IsOfWrite → (added history : History) → Shows C result added history
    said (Ok value) of added history = tt
    said (Err (Outside call)) of added history = tt
    said (Err (Damaged name at)) of added history = absurd of
    said (Err (Spent k)) of added history = tt
    said (Err NoMemory) of added history = tt

pub shows_begun : (T : Type 0) (C : Cause) (fault : JobFault) {P : History → History → Type 0} {old new : Option History} → IsOfBegin fault
    → Adds old new P → Adds old new (Shows {T = T} C (Err fault))
shows_begun T C (Outside call) of told = adds_as (Shows {T = T} C (Err (Outside call))) told (λ added history x. tt)
shows_begun T C (Damaged name at) of told = absurd of
shows_begun T C (Spent k) of told = adds_as (Shows {T = T} C (Err (Spent k))) told (λ added history x. tt)
shows_begun T C NoMemory of told = adds_as (Shows {T = T} C (Err NoMemory)) told (λ added history x. tt)
