-- Cuts that a loop writes in turn.
use Rattle.std.proofs.Common.{◌≡◌, ℕ, zero, suc, ◌+◌, ◌<◌, List, [], ◌∷◌, ◌++◌, length, take, drop, Option, Ok, Err, Result, ap, sym, subst, ◌∙◌, arith}
use Rattle.std.specs.Prelude.{slice_index_or}
use Rattle.std.specs.List.{AllZip}
use Rattle.std.proofs.lemmas.List.{take_more, map-append}
use Rattle.chk_site.specs.History.{History}
use Rattle.chk_site.specs.Site.{Adds}
use Rattle.chk_site.specs.Runs.{Leads}
use Rattle.chk_site.proofs.Leads.{leads_as, leads_then}
use Rattle.chk_chunk.specs.Keys.{Chunk}
use Rattle.chk_world.specs.Places.{As}
use Rattle.chk_world.specs.Sight.{job, Sight, AtJob}
use Rattle.chk_record_index.specs.Heads.{Head}
use Rattle.chk_record_index.specs.declared.fault.JobFault.{JobFault}
use Rattle.chk_record_index.specs.declared.fault.JobFault.TheVariants.{Outside, Damaged, Spent, NoMemory}
use Rattle.chk_book.specs.declared.segmenter.Segmenter.{Segmenter}
use Rattle.chk_record_reader.specs.ReadBack.{HoldsNothing}
use Rattle.chk_record_reader.specs.declared.reader.RecordReader.{RecordReader}
use Rattle.chk_archive_parts.specs.declared.cuts.Cut.{Cut}
use Rattle.chk_archive_parts.specs.Cuts.{no_chunk, cut_of, cut_chunk, cut_chunks, AreWithin}
use Rattle.chk_record_index.specs.Pieces.{bytes_in}
use Rattle.chk_archive_parts.specs.Gathering.{held}
use Rattle.chk_archive_parts.specs.Records.{file_at, AreRecords}
use Rattle.chk_archive_parts.specs.Fetching.{AreWindows, IsRecordAt}
use Rattle.chk_record_index.specs.Order.{no_head}
use Rattle.chk_archive_parts.specs.Shelves.{AreKept}
use Rattle.chk_archive_parts.specs.declared.shelf.Shelf.{Shelf}
use Rattle.chk_archive_parts.specs.Writes.{IsSoFar, PutSo, CutSo}
use Rattle.chk_archive_parts.proofs.Fetches.{any_default}

pub zip_at : (P : Head → Chunk → Type 0) (hs : List Head) (cs : List Chunk) → AllZip P hs cs
    → (i : ℕ) → i < length hs → (d : Head) (e : Chunk) → P (slice_index_or hs i d) (slice_index_or cs i e)
zip_at P [] cs zip i low d e = absurd (let z : ⊥ = omega (arith, low) in z)
zip_at P (h ∷ hs) [] zip i low d e = absurd zip
zip_at P (h ∷ hs) (c ∷ cs) zip zero low d e = zip.0
zip_at P (h ∷ hs) (c ∷ cs) zip (suc i) low d e = zip_at P hs cs zip.1 i (omega (arith, low)) d e

-- a reader that holds nothing has true windows
pub nothing_windows : (v : Sight) (files : List (List ℕ)) (r : RecordReader) → HoldsNothing r → AreWindows v files r
nothing_windows v files r none n e =
    none ∙ sym (ap (λ (b : List ℕ). take (length b) (drop r.from (bytes_in (held v (file_at files n))))) none)

abbrev pub no_cut : Cut
no_cut = record { index = 0; skip = 0 }

module _ (stamped : List (List ℕ)) (v : Sight) (files : List (List ℕ)) (heads : List Head) (cs : List Chunk)
    (cuts : List Cut) (records : AreRecords v files heads cs) (within : AreWithin (length heads) cuts)
    (i : ℕ) (low : i < length cuts) (A : History → Type 0) (s t : Segmenter) (r q : Shelf)
    (result : Result (Unit {0}) JobFault) where
  abbrev pub C : Cut
  C = slice_index_or cuts i no_cut

  abbrev pub D : Chunk
  D = slice_index_or cs C.index no_chunk

  pub is_record : IsRecordAt v files heads C.index D
  is_record = zip_at _ heads cs records.each C.index (within i no_cut low) no_head no_chunk

  more : cut_chunks cs (take i cuts) ++ cut_of C.skip D ∷ [] ≡ cut_chunks cs (take (i + 1) cuts)
  more =
      sym (map-append (cut_chunk cs) (take i cuts) (C ∷ []))
      ∙ ap (cut_chunks cs)
      (sym (take_more cuts i C low ∙ ap (λ x. take i cuts ++ x ∷ []) (any_default cuts i C no_cut low)))

  abbrev pub SoFar : ℕ → Segmenter → Shelf → History → Type 0
  SoFar n s r = AtJob stamped (λ u. IsSoFar v (cut_chunks cs (take n cuts)) s u × AreKept v files heads r)

  pub cut_more : (value : Unit {0}) → result ≡ Ok value → {old mid new : Option History}
      → Adds old mid (Leads (As stamped job) A (SoFar i s r))
      → Adds mid new (Leads (As stamped job) (SoFar i s r)
      (CutSo stamped v files heads (cut_chunks cs (take i cuts) ++ cut_of C.skip D ∷ []) t q result))
      → Adds old new (Leads (As stamped job) A (SoFar (i + 1) t q))
  cut_more value e first told =
      leads_then first
      (leads_as (λ h k. k)
      (λ h k. subst (λ l. AtJob stamped (λ u. IsSoFar v l t u × AreKept v files heads q) h) more
      (subst (λ x. CutSo stamped v files heads (cut_chunks cs (take i cuts) ++ cut_of C.skip D ∷ []) t q x h) e k))
      told)

  pub cut_fails : (all : List Chunk) (fault : JobFault) → result ≡ Err fault → {old mid new : Option History}
      → Adds old mid (Leads (As stamped job) A (SoFar i s r))
      → Adds mid new (Leads (As stamped job) (SoFar i s r)
      (CutSo stamped v files heads (cut_chunks cs (take i cuts) ++ cut_of C.skip D ∷ []) t q result))
      → Adds old new (Leads (As stamped job) A (PutSo stamped v all t (Err fault)))
  cut_fails all fault e first told =
      leads_then first
      (leads_as (λ h k. k)
      (λ h k. go fault h (subst (λ x. CutSo stamped v files heads (cut_chunks cs (take i cuts) ++ cut_of C.skip D ∷ []) t q x h) e k))
      told)
    where
      go : (fault : JobFault) (h : History)
          → CutSo stamped v files heads (cut_chunks cs (take i cuts) ++ cut_of C.skip D ∷ []) t q (Err fault) h
          → PutSo stamped v all t (Err fault) h
      go (Outside call) h k = k
      go (Damaged name at) h k = k
      go (Spent n) h k = k
      go NoMemory h k = k
