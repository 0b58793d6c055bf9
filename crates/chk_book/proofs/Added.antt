-- A segment that is written of given chunks: begun, a part for each, and finished.
use Rattle.std.proofs.Common.{◌≡◌, ℕ, suc, ◌+◌, ◌-◌, ◌^◌, ◌<◌, ◌≤◌, List, [], ◌∷◌, ◌++◌, length, take, get_or, Option, Ok, Err, Result, sym, ◌∙◌, ap, subst, arith}
use Rattle.std.specs.Prelude.{IfErr}
use Rattle.std.proofs.Math.Seq.{take-suc}
use Rattle.std.proofs.lemmas.List.{map-append}
use Rattle.chk_site.specs.History.{History, Step, Every}
use Rattle.chk_site.specs.Site.{Adds, Rose}
use Rattle.chk_site.specs.Runs.{anyhow, Leads}
use Rattle.chk_site.proofs.Runs.{adds_as, adds_then, every_join}
use Rattle.chk_site.proofs.LastCalls.{last_of_both as last_then}
use Rattle.chk_site.specs.declared.acts.OutsideFault.TheVariants.{Outside as site_failed}
use Rattle.chk_chunk.specs.Keys.{Chunk}
use Rattle.chk_chunk.specs.declared.Chunk.{Chunk as OwnedChunk}
use Rattle.chk_chunk.specs.Lent.{chunk_of, chunks_of}
use Rattle.chk_world.specs.Books.{Book}
use Rattle.chk_world.specs.JobSteps.{IsOf, WritesTo, SparesFile}
use Rattle.chk_record_index.specs.declared.fault.JobFault.{JobFault}
use Rattle.chk_record_index.specs.declared.fault.JobFault.TheVariants.{Outside, Damaged, Spent, NoMemory}
use Rattle.chk_record_index.specs.Faults.{FailsLast, JobCause, IsOfBegin, IsOfWrite}
use Rattle.chk_book.specs.declared.segmenter.Segmenter.{Segmenter}
use Rattle.chk_book.specs.Folders.{segment_name, most_in}
use Rattle.chk_book.specs.Segmenting.{Writing, all_bytes, IsSegmentOf, segment_of, with_segment}
use Rattle.chk_book.specs.Written.{IsAt, HasEnded}
use Rattle.chk_book.specs.Adding.{HasAdded}
use Rattle.chk_book.specs.Causes.{SpentBook}

-- the same of a file by the segment's folder and number
pub leads_named : (w : Writing) (folder : List ℕ) (number : ℕ) → w.folder ≡ folder → w.number ≡ number → {A B : History → Type 0} {old new : Option History}
    → Adds old new (Leads (anyhow (SparesFile (segment_name w.folder w.number))) A B)
    → Adds old new (Leads (anyhow (SparesFile (segment_name folder number))) A B)
leads_named w folder number f n {A = A} {B = B} {old = old} {new = new} led =
    subst (λ (name : List ℕ). Adds old new (Leads (anyhow (SparesFile name)) A B))
    (ap (λ x. segment_name x w.number) f ∙ ap (segment_name folder) n) led

pub writes_named : (w : Writing) (folder : List ℕ) (number : ℕ) → w.folder ≡ folder → w.number ≡ number → {old new : Option History}
    → Adds old new (Every (IsOf (WritesTo (segment_name w.folder w.number)))) → Adds old new (Every (IsOf (WritesTo (segment_name folder number))))
writes_named w folder number f n {old = old} {new = new} made =
    subst (λ (name : List ℕ). Adds old new (Every (IsOf (WritesTo name)))) (ap (λ x. segment_name x w.number) f ∙ ap (segment_name folder) n) made

-- the call that failed is the last one of all
pub fails_later : {T : Type 0} {P : History → History → Type 0} (result : Result T JobFault) {old mid new : Option History}
    → Adds old mid P → Adds mid new (FailsLast result) → Adds old new (FailsLast result)
fails_later {T = T} result first second = adds_then (FailsLast result) first second (λ a b history p q. said result b a history q)
  where
    said : (result : Result T JobFault) (b a history : History) → FailsLast result b (a ++ history) → FailsLast result (b ++ a) history
    said (Ok value) b a history last = tt
    said (Err (Outside call)) b a history last = last_then {T = T} (Err (site_failed call)) b a history last
    said (Err (Damaged name at)) b a history last = tt
    said (Err (Spent number)) b a history last = tt
    said (Err NoMemory) b a history last = tt

-- the same of a result of another kind
pub fails_as : (T U : Type 0) (fault : JobFault) {old new : Option History}
    → Adds old new (FailsLast {T = U} (Err fault)) → Adds old new (FailsLast {T = T} (Err fault))
fails_as T U (Outside call) told = adds_as (FailsLast {T = T} (Err (Outside call))) told
    (λ added history x. x)
fails_as T U (Damaged name at) told = adds_as (FailsLast {T = T} (Err (Damaged name at))) told
    (λ added history x. tt)
fails_as T U (Spent number) told = adds_as (FailsLast {T = T} (Err (Spent number))) told
    (λ added history x. tt)
fails_as T U NoMemory told = adds_as (FailsLast {T = T} (Err NoMemory)) told (λ added history x. tt)

-- the cause of a refusal behind calls that raised no count
pub cause_later : (T U : Type 0) (fault : JobFault) (before mid now : ℕ) → mid ≡ before
    → JobCause {T = U} mid now (Err fault) → JobCause {T = T} before now (Err fault)
cause_later T U (Outside call) before mid now same is = subst (λ (n : ℕ). Rose n now × (n ≤ now))
    same is
cause_later T U (Damaged name at) before mid now same is = is ∙ same
cause_later T U (Spent number) before mid now same is = is ∙ same
cause_later T U NoMemory before mid now same is = is ∙ same

pub cause_then : {T : Type 0} (result : Result T JobFault) (before mid now : ℕ) → mid ≡ before
    → JobCause mid now result → JobCause before now result
cause_then (Ok value) before mid now same is = is ∙ same
cause_then {T = T} (Err fault) before mid now same is = cause_later T T fault before mid now same is

-- what is written is begun, and no number is spent by it
pub write_begins : (fault : JobFault) → IsOfWrite fault → IsOfBegin fault
write_begins (Outside call) of = tt
write_begins (Damaged name at) of = of
write_begins (Spent number) of = tt
write_begins NoMemory of = tt

pub all_begin : {T : Type 0} (result : Result T JobFault) → IfErr result IsOfWrite
    → IfErr result IsOfBegin
all_begin (Ok value) of = tt
all_begin (Err fault) of = write_begins fault of

pub spent_write : (T : Type 0) (b : Book) (fault : JobFault) → IsOfWrite fault
    → (b.next ≡ 2 ^ 63 - 1 → ⊥) → SpentBook {T = T} b (Err fault)
spent_write T b (Outside call) of other = other
spent_write T b (Damaged name at) of other = absurd of
spent_write T b (Spent number) of other = absurd of
spent_write T b NoMemory of other = tt

pub spent_written : {T : Type 0} (b : Book) (result : Result T JobFault) → IfErr result IsOfWrite
    → (b.next ≡ 2 ^ 63 - 1 → ⊥)
    → SpentBook b result
spent_written b (Ok value) of other = other
spent_written {T = T} b (Err fault) of other = spent_write T b fault of other

pub spent_same : (T U : Type 0) (b : Book) (fault : JobFault) → SpentBook {T = U} b (Err fault)
    → SpentBook {T = T} b (Err fault)
spent_same T U b (Outside call) spent = spent
spent_same T U b (Damaged name at) spent = spent
spent_same T U b (Spent number) spent = spent
spent_same T U b NoMemory spent = tt

-- one chunk more
pub next_chunks : (parts : List OwnedChunk) (i : ℕ) (x : OwnedChunk) (cs : List Chunk) (c : Chunk) → i < length parts
    → cs ≡ chunks_of (take i parts) → c ≡ chunk_of (get_or parts i x) → cs ++ c ∷ [] ≡ chunks_of (take (i + 1) parts)
next_chunks parts i x cs c within so_far is =
    ap (λ t. t ++ c ∷ []) so_far
    ∙ (ap (λ d. chunks_of (take i parts) ++ d ∷ []) is
    ∙ sym (ap (λ n. chunks_of (take n parts)) (let e : i + 1 ≡ suc i = omega arith in e)
    ∙ (ap chunks_of (take-suc parts i x within) ∙ map-append chunk_of (take i parts) (get_or parts i x ∷ []))))

-- what a finished segment is, once it is entered
pub added : (folder : List ℕ) (chunks : List Chunk) (old new : Book) (s : Segmenter) (w : Writing) → IsAt s w → w.folder ≡ folder → w.number ≡ old.next
    → w.chunks ≡ chunks → (result : Result Unit JobFault) (h : History) → HasEnded w old new result h → HasAdded folder chunks old new result h
added folder chunks old new s w at f n c (Ok value) h ended = (
  w,
  f,
  n,
  c,
  subst (IsSegmentOf (most_in folder) (all_bytes w)) c (subst (λ (x : List ℕ). IsSegmentOf (most_in x) (all_bytes w) w.chunks) f at.sound),
  ended.0,
  ended.1 ∙ ap (with_segment old (segment_of w)) c,
)
added folder chunks old new s w at f n c (Err fault) h ended = ended
