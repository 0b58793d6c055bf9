-- A record that is fetched of a file that the job knows.
use Rattle.std.proofs.Common.{◌≡◌, ℕ, zero, suc, ◌<◌, ◌≤◌, List, [], ◌∷◌, length, take, drop, Option, Ok, Err, Result, ap, sym, subst, ◌∙◌, refl, arith}
use Rattle.std.specs.Prelude.{Contains, slice_index_or}
use Rattle.chk_site.specs.Files.{File}
use Rattle.chk_site.specs.Effect.{IsSmallFile}
use Rattle.chk_site.specs.History.{History}
use Rattle.chk_site.specs.Site.{Adds}
use Rattle.chk_site.specs.Runs.{Leads, anyhow}
use Rattle.chk_site.proofs.Leads.{leads_as}
use Rattle.chk_chunk.specs.Keys.{Chunk, chunk_limit}
use Rattle.chk_world.specs.Sight.{Sight}
use Rattle.chk_world.specs.JobSteps.{SparesFile}
use Rattle.chk_record_index.specs.Heads.{Head}
use Rattle.chk_record_index.specs.Pieces.{bytes_in}
use Rattle.chk_record_index.specs.declared.fault.JobFault.{JobFault}
use Rattle.chk_record_index.specs.declared.fault.JobFault.TheVariants.{Outside, Damaged, Spent, NoMemory}
use Rattle.chk_archive_plan.specs.Passes.{head_in}
use Rattle.chk_record_reader.specs.ReadBack.{CanRead, HasRead}
use Rattle.chk_record_reader.specs.declared.reader.RecordReader.{RecordReader}
use Rattle.chk_archive_parts.specs.Gathering.{held, AreSound}
use Rattle.chk_archive_parts.specs.Records.{file_at}
use Rattle.chk_archive_parts.specs.Fetching.{head_file, IsRecordAt, CanFetch, Fetched}

pub any_default : {X : Type 0} (xs : List X) (i : ℕ) (a b : X) → i < length xs → slice_index_or xs i a ≡ slice_index_or xs i b
any_default [] i a b low = absurd (let z : ⊥ = omega (arith, low) in z)
any_default (x ∷ xs) zero a b low = refl
any_default (x ∷ xs) (suc i) a b low = any_default xs i a b (omega (arith, low))

module _ (v : Sight) (files : List (List ℕ)) (heads : List Head) (i : ℕ) (c : Chunk)
    (sound : AreSound v files) (is : IsRecordAt v files heads i c) where
  abbrev pub H : Head
  H = head_in heads i

  abbrev pub W : List ℕ
  W = head_file files heads i

  pub one_of_files : Contains files W
  one_of_files = (H.file, is.within, any_default files H.file W [] is.within)

  -- ---- the fetch

  module _ (r t : RecordReader) (result : Result (Unit {0}) JobFault) where
    ended : (result : Result (Unit {0}) JobFault) (h : History) → HasRead W (held v W) H t result h
        → Fetched v files heads i c t result h
    ended (Ok value) h k = (
      λ n e. subst (λ m. t.bytes ≡ take (length t.bytes) (drop t.from (bytes_in (held v (file_at files m)))))
          (sym k.1 ∙ e) (k.2 k.1),
      k.3 ∙ ap (λ (d : Chunk). d.value) is.is,
    )
    ended (Err (Outside call)) h k = tt
    ended (Err (Damaged name at)) h k = k
    ended (Err (Spent n)) h k = tt
    ended (Err NoMemory) h k = tt

    pub fetched : {old new : Option History} → ((most : ℕ) (f : Option File) → most ≤ 1048576 → IsSmallFile f
        → Adds old new (Leads (anyhow (SparesFile W)) (CanRead most W f H r) (HasRead W f H t result)))
        → Adds old new (Leads (anyhow (SparesFile W)) (CanFetch v files heads i r)
        (Fetched v files heads i c t result))
    fetched raw =
        leads_as (λ h k. record { has = k.0; known = is.known; window = k.1 H.file }) (λ h k. ended result h k)
        (raw chunk_limit (held v W) (omega arith) (sound W one_of_files).small)
