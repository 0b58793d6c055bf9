-- Record after record is copied.
use Rattle.std.proofs.Common.{◌≡◌, ℕ, ◌+◌, ◌-◌, ◌<◌, ◌≤◌, Bool, true, false, List, [], ◌∷◌, ◌++◌, map, take, drop, length, Option, Ok, Err, Result, sym, ◌∙◌, ap, subst, arith, append_assoc, get_or}
use Rattle.std.specs.Prelude.{flat_map, if◌then◌else◌}
use Rattle.std.proofs.lemmas.Grind.{flat_map-append}
use Rattle.std.proofs.lemmas.List.{append-nil, map-append, take_more, length-drop, get_or-drop}
use Rattle.chk_site.specs.Files.{Files}
use Rattle.chk_site.specs.History.{History}
use Rattle.chk_site.specs.Site.{Adds}
use Rattle.chk_site.specs.Runs.{anyhow, Leads}
use Rattle.chk_site.proofs.Runs.{adds_as}
use Rattle.chk_site.proofs.Leads.{leads_as}
use Rattle.chk_chunk.specs.Keys.{Chunk}
use Rattle.chk_record_index.specs.Heads.{Head}
use Rattle.chk_record_index.specs.Order.{no_head}
use Rattle.chk_record_index.specs.declared.fault.JobFault.{JobFault}
use Rattle.chk_record_index.specs.declared.fault.JobFault.TheVariants.{Outside, Damaged, Spent, NoMemory}
use Rattle.chk_book.specs.declared.segmenter.Segmenter.{Segmenter}
use Rattle.chk_record_reader.specs.declared.reader.RecordReader.{RecordReader}
use Rattle.chk_record_reader.specs.Archives.{AreWindows, chunk_in}
use Rattle.chk_record_reader.specs.Merging.{SparesBoth}
use Rattle.chk_join_sources.specs.declared.gathering.Side.{Side}
use Rattle.chk_join_sources.specs.declared.comparing.Readers.{Readers}
use Rattle.chk_join_sources.specs.Blocks.{head_in}
use Rattle.chk_join_sources.specs.declared.plan.Choice.{Choice}
use Rattle.chk_join_sources.specs.Copying.{joined_segment, CanCopy, Copied, CanCopyBoth, CopiedBoth, CopiedAll, chunks_between, chosen_chunks}

-- ---- the chunks of a block

take_of : (f : Head → Chunk) (hs : List Head) (first index : ℕ) → first ≤ index → index < length hs
    → map f (take (index + 1 - first) (drop first hs)) ≡ map f (take (index - first) (drop first hs)) ++ f (head_in hs index) ∷ []
take_of f hs first index low high =
    let n : ℕ = index - first in
    let size = length-drop first hs in
    let less : n < length (drop first hs) = omega (arith, size, low, high) in
    ap (λ (m : ℕ). map f (take m (drop first hs))) (let z : index + 1 - first ≡ n + 1 = omega (arith, low) in z)
    ∙ (ap (map f) (take_more (drop first hs) n no_head less)
    ∙ (map-append f (take n (drop first hs)) (get_or (drop first hs) n no_head ∷ [])
    ∙ ap (λ (h : Head). map f (take n (drop first hs)) ++ f h ∷ [])
    (get_or-drop first hs n no_head ∙ ap (λ (i : ℕ). get_or hs i no_head) (let z : first + n ≡ index = omega (arith, low) in z))))

pub between_none : (side : Side) (held : Files) (first : ℕ) (chunks : List Chunk)
    → chunks ≡ chunks ++ chunks_between side held first first
between_none side held first chunks =
    sym (ap (λ (n : ℕ). chunks ++ map (chunk_in side.names.now held) (take n (drop first side.heads.now)))
    (let z : first - first ≡ 0 = omega arith in z) ∙ append-nil chunks)

pub between_more : (side : Side) (held : Files) (first index : ℕ) (chunks : List Chunk) → first ≤ index → index < length side.heads.now
    → (chunks ++ chunks_between side held first index) ++ chunk_in side.names.now held (head_in side.heads.now index) ∷ []
    ≡ chunks ++ chunks_between side held first (index + 1)
between_more side held first index chunks low high =
    append_assoc chunks (chunks_between side held first index) (chunk_in side.names.now held (head_in side.heads.now index) ∷ [])
    ∙ ap (λ l. chunks ++ l) (sym (take_of (chunk_in side.names.now held) side.heads.now first index low high))

-- no choice, where there is none at a place
abbrev pub no_choice : Choice
no_choice = record { from_right = false; block = record { first = 0; end = 0 } }

-- those of one choice more
pub choices_more : (f : Choice → List Chunk) (xs : List Choice) (i : ℕ) (chunks : List Chunk) → i < length xs
    → (chunks ++ flat_map f (take i xs)) ++ f (get_or xs i no_choice) ≡ chunks ++ flat_map f (take (i + 1) xs)
choices_more f xs i chunks low =
    append_assoc chunks (flat_map f (take i xs)) (f (get_or xs i no_choice))
    ∙ ap (λ l. chunks ++ l)
    (ap (λ l. flat_map f (take i xs) ++ l) (sym (append-nil (f (get_or xs i no_choice))))
    ∙ (sym (flat_map-append f (take i xs) (get_or xs i no_choice ∷ [])) ∙ ap (flat_map f) (sym (take_more xs i no_choice low))))

-- a choice's chunks are its side's
pub from_right : (l r : Side) (held : Files) (c : Choice) (chunks : List Chunk) → c.from_right ≡ true
    → chunks ++ chunks_between r held c.block.first c.block.end ≡ chunks ++ chosen_chunks l r held c
from_right l r held c chunks is =
    ap (λ (t : Bool). chunks ++ (if t then chunks_between r held c.block.first c.block.end
    else chunks_between l held c.block.first c.block.end)) (sym is)

pub from_left : (l r : Side) (held : Files) (c : Choice) (chunks : List Chunk) → c.from_right ≡ false
    → chunks ++ chunks_between l held c.block.first c.block.end ≡ chunks ++ chosen_chunks l r held c
from_left l r held c chunks is =
    ap (λ (t : Bool). chunks ++ (if t then chunks_between r held c.block.first c.block.end
    else chunks_between l held c.block.first c.block.end)) (sym is)

-- ---- the segment by its number

pub of_number : (all : List (List ℕ)) (m n : ℕ) → m ≡ n → {A B : History → Type 0} {old new : Option History}
    → Adds old new (Leads (anyhow (SparesBoth all (joined_segment m))) A B)
    → Adds old new (Leads (anyhow (SparesBoth all (joined_segment n))) A B)
of_number all m n is {A = A} {B = B} {old = old} {new = new} told =
    subst (λ k. Adds old new (Leads (anyhow (SparesBoth all (joined_segment k))) A B)) is told

-- ---- one side's records are both sides'

module _ (all : List (List ℕ)) (held : Files) (l r : Side) (segment : List ℕ) (chunks more : List Chunk) (rs : Readers) (q : RecordReader)
    (s t : Segmenter) (result : Result (Unit {0}) JobFault) {old new : Option History} where
  pub of_left : Adds old new (Leads (anyhow (SparesBoth all segment)) (CanCopy all held l chunks rs.left s)
      (Copied all held l more q t result))
      → Adds old new (Leads (anyhow (SparesBoth all segment)) (CanCopyBoth all held l r chunks rs s)
      (CopiedBoth all held l r more (record { left = q; right = rs.right }) t result))
  of_left told =
      adds_as (Leads (anyhow (SparesBoth all segment)) (CanCopyBoth all held l r chunks rs s)
      (CopiedBoth all held l r more (record { left = q; right = rs.right }) t result)) told
      (λ added history x. record {
        leads = λ both had. said result (added ++ history) had.1.right (x.leads both (had.0, had.1.left));
        own = x.own;
      })
    where
      said : (result : Result (Unit {0}) JobFault) (g : History) → AreWindows r.names.now held rs.right
          → Copied all held l more q t result g → CopiedBoth all held l r more (record { left = q; right = rs.right }) t result g
      said (Ok value) g other x = (x.0, record { left = x.1; right = other })
      said (Err (Outside call)) g other x = tt
      said (Err (Damaged name at)) g other x = x
      said (Err (Spent n)) g other x = tt
      said (Err NoMemory) g other x = tt

  pub of_right : Adds old new (Leads (anyhow (SparesBoth all segment)) (CanCopy all held r chunks rs.right s)
      (Copied all held r more q t result))
      → Adds old new (Leads (anyhow (SparesBoth all segment)) (CanCopyBoth all held l r chunks rs s)
      (CopiedBoth all held l r more (record { left = rs.left; right = q }) t result))
  of_right told =
      adds_as (Leads (anyhow (SparesBoth all segment)) (CanCopyBoth all held l r chunks rs s)
      (CopiedBoth all held l r more (record { left = rs.left; right = q }) t result)) told
      (λ added history x. record {
        leads = λ both had. said result (added ++ history) had.1.left (x.leads both (had.0, had.1.right));
        own = x.own;
      })
    where
      said : (result : Result (Unit {0}) JobFault) (g : History) → AreWindows l.names.now held rs.left
          → Copied all held r more q t result g → CopiedBoth all held l r more (record { left = rs.left; right = q }) t result g
      said (Ok value) g other x = (x.0, record { left = other; right = x.1 })
      said (Err (Outside call)) g other x = tt
      said (Err (Damaged name at)) g other x = x
      said (Err (Spent n)) g other x = tt
      said (Err NoMemory) g other x = tt

-- ---- a refusal of one is that of all

pub block_fails : (all : List (List ℕ)) (held : Files) (side : Side) (segment : List ℕ) (more whole : List Chunk) (q : RecordReader)
    (t : Segmenter) (fault : JobFault) {A : History → Type 0} {old new : Option History}
    → Adds old new (Leads (anyhow (SparesBoth all segment)) A (Copied all held side more q t (Err fault)))
    → Adds old new (Leads (anyhow (SparesBoth all segment)) A (Copied all held side whole q t (Err fault)))
block_fails all held side segment more whole q t fault told = leads_as (λ g x. x) (λ g x. said fault g x) told
  where
    said : (fault : JobFault) (g : History) → Copied all held side more q t (Err fault) g → Copied all held side whole q t (Err fault) g
    said (Outside call) g x = tt
    said (Damaged name at) g x = x
    said (Spent n) g x = tt
    said NoMemory g x = tt

pub all_fails : (all : List (List ℕ)) (held : Files) (l r : Side) (segment : List ℕ) (more whole : List Chunk) (qs : Readers)
    (t : Segmenter) (fault : JobFault) {A : History → Type 0} {old new : Option History}
    → Adds old new (Leads (anyhow (SparesBoth all segment)) A (CopiedBoth all held l r more qs t (Err fault)))
    → Adds old new (Leads (anyhow (SparesBoth all segment)) A (CopiedAll all held whole t (Err fault)))
all_fails all held l r segment more whole qs t fault told = leads_as (λ g x. x) (λ g x. said fault g x) told
  where
    said : (fault : JobFault) (g : History) → CopiedBoth all held l r more qs t (Err fault) g → CopiedAll all held whole t (Err fault) g
    said (Outside call) g x = tt
    said (Damaged name at) g x = x
    said (Spent n) g x = tt
    said NoMemory g x = tt
