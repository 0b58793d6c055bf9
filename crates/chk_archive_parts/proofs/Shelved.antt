-- Data that are held until their turn.
use Rattle.std.proofs.Common.{◌≡◌, ℕ, ◌<◌, List, ◌++◌, length, take, drop, All, Option, Ok, Err, Result, ap, sym, subst, ◌∙◌, arith, length-drop, length-append}
use Rattle.std.specs.Prelude.{slice_index_or, slice_set}
use Rattle.std.proofs.Math.Seq.{drop-append_seam, take-length}
use Rattle.std.proofs.lemmas.List.{take-append-le, drop-append-le}
use Rattle.std.proofs.lemmas.List.Elements.{All-set}
use Rattle.chk_site.specs.History.{History}
use Rattle.chk_site.specs.Site.{Adds}
use Rattle.chk_site.specs.Runs.{Leads, Side, anyhow}
use Rattle.chk_site.proofs.Leads.{leads_as, leads_then}
use Rattle.chk_chunk.specs.Keys.{Chunk}
use Rattle.chk_world.specs.Sight.{Sight}
use Rattle.chk_record_index.specs.Heads.{Head}
use Rattle.chk_record_index.specs.declared.fault.JobFault.{JobFault}
use Rattle.chk_record_index.specs.declared.fault.JobFault.TheVariants.{Outside, Damaged, Spent, NoMemory}
use Rattle.chk_record_reader.specs.ReadBack.{value_held}
use Rattle.chk_record_reader.specs.Segments.{SparesFiles}
use Rattle.chk_record_reader.specs.declared.reader.RecordReader.{RecordReader}
use Rattle.chk_archive_parts.specs.Cuts.{no_chunk}
use Rattle.chk_archive_parts.specs.Records.{AreRecords}
use Rattle.chk_archive_parts.specs.Fetching.{AreWindows, CanFetchAll, FetchedAll}
use Rattle.chk_archive_parts.specs.Kept.{value_in}
use Rattle.chk_archive_parts.specs.Slots.{AreEmpty}
use Rattle.chk_archive_parts.specs.Shelves.{value_of, IsTrueSlot, AreKept, value_kept, CanShelve, ShelvedSo, ShownSo}
use Rattle.chk_archive_parts.specs.declared.shelf.Shelf.{Shelf}
use Rattle.chk_archive_parts.specs.declared.shelf.Slot.{Slot}
use Rattle.chk_archive_parts.proofs.Among.{leads_with, record_at}

module _ (v : Sight) (files : List (List ℕ)) (heads : List Head) where
  -- more data behind them change nothing
  grown : (bytes more : List ℕ) (s : Slot) → IsTrueSlot v files heads bytes s → IsTrueSlot v files heads (bytes ++ more) s
  grown bytes more s t =
      let within = t.within in
      let n = length-append bytes more in
      let m = length-drop s.start bytes in
      record {
        within = omega (arith, n, within);
        is = λ some.
            ap (take s.size) (drop-append-le s.start bytes more (omega (arith, within)))
            ∙ (take-append-le s.size (drop s.start bytes) more (omega (arith, m, within)) ∙ t.is some);
      }

  pub put_true : (bytes value : List ℕ) (slots : List Slot) (at : ℕ) (s : Slot)
      → All (IsTrueSlot v files heads bytes) slots → s.start ≡ length bytes → s.size ≡ length value
      → value ≡ value_of v files heads s.index → All (IsTrueSlot v files heads (bytes ++ value)) (slice_set slots at s)
  put_true bytes value slots at s all start size is =
      All-set (IsTrueSlot v files heads (bytes ++ value)) slots at s
      (record {
        within = let n = length-append bytes value in omega (arith, n, start, size);
        is = λ some.
            ap (λ (n : ℕ). take s.size (drop n (bytes ++ value))) start
            ∙ (ap (take s.size) (drop-append_seam bytes value)
            ∙ (ap (λ (n : ℕ). take n value) size ∙ (take-length value ∙ is)));
      })
      (λ i d low. grown bytes value (slice_index_or slots i d) (all i d low))

  pub empty_true : (bytes : List ℕ) (slots : List Slot) → AreEmpty slots → All (IsTrueSlot v files heads bytes) slots
  empty_true bytes slots none i d low =
      let e = none i d low in
      record {
        within = omega (arith, e.0, e.1);
        is = λ some. absurd (let z : ⊥ = omega (arith, some, e.1) in z);
      }

module _ (v : Sight) (files : List (List ℕ)) (heads : List Head) (cs : List Chunk) (records : AreRecords v files heads cs) where
  abbrev S : Side
  S = anyhow (SparesFiles files)

  -- the data of a chunk are those of its record
  pub value_is : (i : ℕ) → i < length heads → value_of v files heads i ≡ value_in cs i
  value_is i low = ap (λ (d : Chunk). d.value) (record_at v files heads cs records i low).is

  module _ (i : ℕ) (low : i < length heads) (s : Shelf) (q : RecordReader) (result : Result (Unit {0}) JobFault)
      {old new : Option History}
      (fetched : Adds old new (Leads S (CanFetchAll v files s.reader) (FetchedAll v files (slice_index_or cs i no_chunk) q result))) where
    both : Adds old new (Leads S (CanShelve v files heads s)
        (λ h. FetchedAll v files (slice_index_or cs i no_chunk) q result h × AreKept v files heads s))
    both = leads_as (λ h k. ((k.0, k.1.windows), k.1)) (λ h z. z) (leads_with (AreKept v files heads s) fetched)

    -- the next one is held
    pub one_held : (t : Shelf) (u : Unit {0}) → result ≡ Ok u
        → (AreWindows v files q → AreKept v files heads s → value_held q ≡ value_of v files heads i → AreKept v files heads t)
        → Adds old new (Leads S (CanShelve v files heads s) (ShelvedSo v files heads t (Ok u)))
    one_held t u done keeps =
        leads_as (λ h k. k)
        (λ h z.
        let f = subst (λ x. FetchedAll v files (slice_index_or cs i no_chunk) q x h) done z.0 in
        (f.0.0, keeps f.0.1 z.1 (f.1 ∙ sym (value_is i low))))
        both

    pub not_held : (t : Shelf) (fault : JobFault) → result ≡ Err fault
        → Adds old new (Leads S (CanShelve v files heads s) (ShelvedSo v files heads t (Err fault)))
    not_held t fault e =
        leads_as (λ h k. k) (λ h z. go fault h (subst (λ x. FetchedAll v files (slice_index_or cs i no_chunk) q x h) e z.0)) both
      where
        go : (fault : JobFault) (h : History) → FetchedAll v files (slice_index_or cs i no_chunk) q (Err fault) h
            → ShelvedSo v files heads t (Err fault) h
        go (Outside call) h k = tt
        go (Damaged name at) h k = k
        go (Spent n) h k = tt
        go NoMemory h k = tt

    pub no_room : (t : Shelf) → Adds old new (Leads S (CanShelve v files heads s) (ShelvedSo v files heads t (Err NoMemory)))
    no_room t = leads_as (λ h k. k) (λ h z. tt) both

    -- it is read in its turn
    pub shown_so : (t : Shelf) → (AreWindows v files q → AreKept v files heads s → AreKept v files heads t)
        → value_kept t ≡ value_held q
        → Adds old new (Leads S (CanShelve v files heads s) (ShownSo v files heads (value_in cs i) t result))
    shown_so t keeps is = leads_as (λ h k. k) (λ h z. go result h z.0 z.1) both
      where
        go : (result : Result (Unit {0}) JobFault) (h : History)
            → FetchedAll v files (slice_index_or cs i no_chunk) q result h → AreKept v files heads s
            → ShownSo v files heads (value_in cs i) t result h
        go (Ok value) h f k = ((f.0.0, keeps f.0.1 k), is ∙ f.1)
        go (Err (Outside call)) h f k = tt
        go (Err (Damaged name at)) h f k = f
        go (Err (Spent n)) h f k = tt
        go (Err NoMemory) h f k = tt

  -- after others
  pub shelved_then : {A : History → Type 0} (s t : Shelf) (result : Result (Unit {0}) JobFault) (u : Unit {0}) → result ≡ Ok u
      → {old mid new : Option History} {B : History → Type 0}
      → Adds old mid (Leads S A (ShelvedSo v files heads s result)) → Adds mid new (Leads S (CanShelve v files heads s) B)
      → Adds old new (Leads S A B)
  shelved_then s t result u e first told =
      leads_then (leads_as (λ h k. k) (λ h z. subst (λ x. ShelvedSo v files heads s x h) e z) first) told

  pub shelved_fails : {A : History → Type 0} (s : Shelf) (shown : List ℕ) (t : Shelf) (result : Result (Unit {0}) JobFault)
      (fault : JobFault) → result ≡ Err fault → {old new : Option History}
      → Adds old new (Leads S A (ShelvedSo v files heads s result))
      → Adds old new (Leads S A (ShownSo v files heads shown t (Err fault)))
  shelved_fails s shown t result fault e told =
      leads_as (λ h k. k) (λ h z. go fault h (subst (λ x. ShelvedSo v files heads s x h) e z)) told
    where
      go : (fault : JobFault) (h : History) → ShelvedSo v files heads s (Err fault) h → ShownSo v files heads shown t (Err fault) h
      go (Outside call) h k = tt
      go (Damaged name at) h k = k
      go (Spent n) h k = tt
      go NoMemory h k = tt
