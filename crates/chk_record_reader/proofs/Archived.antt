-- What the reading of a stream's records in a folder's segments gives.
use Rattle.std.proofs.Common.{◌≡◌, inl, inr, ℕ, List, [], ◌++◌, map, Option, Some, None, Ok, Err, Result, refl, sym, ◌∙◌, ap, subst}
use Rattle.chk_site.specs.Files.{Files}
use Rattle.chk_site.specs.History.{History}
use Rattle.chk_site.specs.Site.{Adds}
use Rattle.chk_site.specs.Runs.{anyhow, Leads}
use Rattle.chk_site.proofs.Runs.{adds_as}
use Rattle.chk_site.proofs.Leads.{leads_as, leads_then, owned_anyhow}
use Rattle.chk_chunk.specs.Keys.{Stream}
use Rattle.chk_world.specs.Books.{End, Book, chunks_of_stream, values}
use Rattle.chk_world.specs.Jobs.{Run}
use Rattle.chk_world.proofs.Each.{Each}
use Rattle.chk_record_index.specs.Heads.{Head}
use Rattle.chk_record_index.specs.declared.fault.JobFault.{JobFault}
use Rattle.chk_record_index.specs.declared.fault.JobFault.TheVariants.{Outside, Damaged, Spent, NoMemory}
use Rattle.chk_record_index.specs.Faults.{IsOfRead, JobCause}
use Rattle.chk_book.specs.Folders.{most_in}
use Rattle.chk_record_reader.specs.Segments.{names_of, HasFiles, SparesFiles, IsSound, heads_from, chunks_in_files, GatheredAll}
use Rattle.chk_record_reader.specs.Courses.{end_of, break_by, reaches, IsBreakBy}
use Rattle.chk_record_reader.specs.Archives.{chunk_in, CanJoin, HasJoined, RunsSo, IsBroken, bad_segment, broken, unreached, ReadArchive, ToldBreak}
use Rattle.chk_record_reader.proofs.Joining.{chunks_from, begin_from, values_of, runs_from, none_of}

module _ (folder : List ℕ) (b : Book) (held : Files) (s : Stream) where
  chunks : map (chunk_in (names_of folder b) held) (heads_from (most_in folder) held 0
      (names_of folder b)) ≡ chunks_in_files (most_in folder) held (names_of folder b)
  chunks = chunks_from (most_in folder) (names_of folder b) held 0 [] (names_of folder b) refl refl

  runs_so : (o : Option End) → break_by s o (heads_from (most_in folder) held 0
      (names_of folder b)) ≡ None
      → reaches s o (heads_from (most_in folder) held 0 (names_of folder b))
      → RunsSo o (chunks_of_stream s (chunks_in_files (most_in folder) held (names_of folder b)))
  runs_so None fine reaches =
      ap (chunks_of_stream s) (sym chunks) ∙ none_of s (names_of folder b) held (heads_from
      (most_in folder) held 0 (names_of folder b)) fine
  runs_so (Some e) fine reaches =
      subst (λ cs. Run e.start e.start (chunks_of_stream s cs) e.end) chunks
      (subst (Run e.start e.start (chunks_of_stream s (map (chunk_in (names_of folder b) held)
      (heads_from (most_in folder) held 0 (names_of folder b)))))
      reaches
      (runs_from s e (names_of folder b) held e.start (heads_from (most_in folder) held 0
      (names_of folder b))
      (begin_from (most_in folder) (names_of folder b) held 0 []
      (names_of folder b) refl refl) fine))

  -- the values of records that run as the book says
  pub archived : (heads : List Head) (result : Result (List ℕ) JobFault)
      {old mid new : Option History}
      → IsBreakBy s (end_of s b.ends) heads None
      → Adds old mid (Leads (anyhow (SparesFiles (names_of folder b))) (HasFiles
      (names_of folder b) held) (GatheredAll (most_in folder) (names_of folder b) held
      (Ok heads)))
      → Adds mid new (Leads (anyhow (SparesFiles (names_of folder b))) (CanJoin (most_in folder)
      (names_of folder b) held heads) (HasJoined s (names_of folder b) held heads result))
      → Adds old new (Leads (anyhow (SparesFiles (names_of folder b))) (HasFiles
      (names_of folder b) held) (ReadArchive folder b held s result))
  archived heads result fine so_far told =
      leads_then so_far
      (adds_as
      (Leads (anyhow (SparesFiles (names_of folder b))) (GatheredAll (most_in folder)
      (names_of folder b) held (Ok heads)) (ReadArchive folder b held s result)) told
      (λ added history x. record {
        leads = λ o h. said result h.1 h.2 (added ++ history) (x.leads o (record
            { files = h.0; are = h.2 }));
        own = x.own;
      }))
    where
      said : (result : Result (List ℕ) JobFault) → Each (IsSound (most_in folder) held)
          (names_of folder b)
          → heads ≡ heads_from (most_in folder) held 0 (names_of folder b) → (history : History)
          → HasJoined s (names_of folder b) held heads result history
          → ReadArchive folder b held s result history
      said (Ok bytes) sound are history j = (
        j.0,
        sound,
        runs_so (end_of s b.ends) (subst (λ hs. break_by s (end_of s b.ends) hs ≡ None) are fine.0)
            (subst (reaches s (end_of s b.ends)) are fine.1),
        j.1
            ∙ (values_of s (names_of folder b) held heads
            ∙ ap (λ cs. values (chunks_of_stream s cs)) (ap (map (chunk_in
            (names_of folder b) held)) are ∙ chunks)),
      )
      said (Err (Outside call)) sound are history j = tt
      said (Err (Damaged name at)) sound are history j = absurd j
      said (Err (Spent n)) sound are history j = tt
      said (Err NoMemory) sound are history j = tt

  -- a segment that isn't sound
  pub not_sound : (fault : JobFault) {old new : Option History}
      → Adds old new (Leads (anyhow (SparesFiles (names_of folder b))) (HasFiles
      (names_of folder b) held) (GatheredAll (most_in folder) (names_of folder b) held
      (Err fault)))
      → Adds old new (Leads (anyhow (SparesFiles (names_of folder b))) (HasFiles
      (names_of folder b) held) (ReadArchive folder b held s (Err fault)))
  not_sound fault told = leads_as (λ h x. x) (λ h x. said fault h x) told
    where
      said : (fault : JobFault) (history : History) → GatheredAll (most_in folder)
          (names_of folder b) held (Err fault) history → ReadArchive folder b held s
          (Err fault) history
      said (Outside call) history x = tt
      said (Damaged name at) history x = bad_segment x
      said (Spent n) history x = tt
      said NoMemory history x = tt

  -- records that don't go on, or don't reach the end
  pub not_run : (heads : List Head) (fault : JobFault) {old new : Option History}
      → ToldBreak folder b (names_of folder b) s heads fault
      → Adds old new (Leads (anyhow (SparesFiles (names_of folder b))) (HasFiles
      (names_of folder b) held) (GatheredAll (most_in folder) (names_of folder b) held
      (Ok heads)))
      → Adds old new (Leads (anyhow (SparesFiles (names_of folder b))) (HasFiles
      (names_of folder b) held) (ReadArchive folder b held s (Err fault)))
  not_run heads fault is told = leads_as (λ h x. x) (λ h x. said fault is h x.1 x.2) told
    where
      said : (fault : JobFault) → ToldBreak folder b (names_of folder b) s heads fault →
          (history : History)
          → Each (IsSound (most_in folder) held) (names_of folder b) → heads ≡ heads_from
          (most_in folder) held 0 (names_of folder b)
          → ReadArchive folder b held s (Err fault) history
      said (Outside call) is history sound are = absurd is
      said (Damaged name at) (inl one) history sound are =
          broken sound (subst (λ hs. IsBroken (names_of folder b) (break_by s
          (end_of s b.ends) hs) name at) are one)
      said (Damaged name at) (inr one) history sound are =
          unreached sound (subst (λ hs. break_by s (end_of s b.ends) hs ≡ None) are one.0)
          (subst (λ hs. reaches s (end_of s b.ends) hs → ⊥) are one.1) one.2 one.3
      said (Spent n) is history sound are = absurd is
      said NoMemory is history sound are = tt

-- without memory nothing is said
pub no_memory_archived : {P : History → History → Type 0} (folder : List ℕ) (b : Book)
    (held : Files) (s : Stream) {old new : Option History} → Adds old new P
    → Adds old new (Leads (anyhow (SparesFiles (names_of folder b))) (HasFiles
    (names_of folder b) held) (ReadArchive folder b held s (Err NoMemory)))
no_memory_archived folder b held s told =
    adds_as (Leads (anyhow (SparesFiles (names_of folder b))) (HasFiles (names_of folder b) held)
    (ReadArchive folder b held s (Err NoMemory))) told
    (λ added history p. record { leads = λ o h. tt; own = owned_anyhow added history })

-- the same by other names of these
pub gathered_as : (folder : List ℕ) (b : Book) (held : Files) (ns : List (List ℕ)) (m : ℕ)
    (r : Result (List Head) JobFault) {old new : Option History}
    → ns ≡ names_of folder b → m ≡ most_in folder
    → Adds old new (Leads (anyhow (SparesFiles ns)) (HasFiles ns held) (GatheredAll m ns held r))
    → Adds old new (Leads (anyhow (SparesFiles (names_of folder b))) (HasFiles
    (names_of folder b) held) (GatheredAll (most_in folder) (names_of folder b) held r))
gathered_as folder b held ns m r {old = old} {new = new} n e told =
    subst (λ (ws : List (List ℕ)). Adds old new (Leads (anyhow (SparesFiles ws)) (HasFiles ws held)
    (GatheredAll (most_in folder) ws held r))) n
    (subst (λ (k : ℕ). Adds old new (Leads (anyhow (SparesFiles ns)) (HasFiles ns held)
    (GatheredAll k ns held r))) e told)

pub joined_as : (folder : List ℕ) (b : Book) (held : Files) (s : Stream) (heads : List Head)
    (ns : List (List ℕ)) (m : ℕ) (r : Result (List ℕ) JobFault) {old new : Option History}
    → ns ≡ names_of folder b → m ≡ most_in folder
    → Adds old new (Leads (anyhow (SparesFiles ns)) (CanJoin m ns held heads)
    (HasJoined s ns held heads r))
    → Adds old new (Leads (anyhow (SparesFiles (names_of folder b))) (CanJoin (most_in folder)
    (names_of folder b) held heads) (HasJoined s (names_of folder b) held heads r))
joined_as folder b held s heads ns m r {old = old} {new = new} n e told =
    subst (λ (ws : List (List ℕ)). Adds old new (Leads (anyhow (SparesFiles ws)) (CanJoin
    (most_in folder) ws held heads) (HasJoined s ws held heads r))) n
    (subst (λ (k : ℕ). Adds old new (Leads (anyhow (SparesFiles ns)) (CanJoin k ns held heads)
    (HasJoined s ns held heads r))) e told)

-- ---- the fault of records that don't run is of no call

module _ (folder : List ℕ) (b : Book) (ns : List (List ℕ)) (s : Stream) (heads : List Head) where
  pub told_of_read : (fault : JobFault) → ToldBreak folder b ns s heads fault → IsOfRead fault
  told_of_read (Outside call) is = tt
  told_of_read (Damaged name at) is = tt
  told_of_read (Spent n) is = absurd is
  told_of_read NoMemory is = tt

  pub told_no_call : (fault : JobFault) → ToldBreak folder b ns s heads fault → (call : _)
      → Path (Result (List ℕ) JobFault) (Err fault) (Err (Outside call)) → ⊥
  told_no_call (Outside other) is call e = absurd is
  told_no_call (Damaged name at) is call e = cc
  told_no_call (Spent n) is call e = absurd is
  told_no_call NoMemory is call e = cc

  pub told_cause : (fault : JobFault) → ToldBreak folder b ns s heads fault → (before now : ℕ)
      → now ≡ before
      → JobCause {T = List ℕ} before now (Err fault)
  told_cause (Outside call) is before now same = absurd is
  told_cause (Damaged name at) is before now same = same
  told_cause (Spent n) is before now same = same
  told_cause NoMemory is before now same = same
