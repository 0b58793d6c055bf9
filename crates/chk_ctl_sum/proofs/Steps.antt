-- Record after record is taken, and stream after stream.
use Rattle.std.proofs.Common.{◌≡◌, ℕ, ◌+◌, ◌<◌, List, [], ◌∷◌, ◌++◌, length, map, take, Option, Ok, Err, sym, ap, ap₂, subst, get_or, ◌∙◌}
use Rattle.std.proofs.lemmas.List.{map-append, take_more}
use Rattle.chk_site.specs.Files.{Files}
use Rattle.chk_site.specs.History.{History}
use Rattle.chk_site.specs.Site.{Adds}
use Rattle.chk_site.specs.Runs.{anyhow, Leads}
use Rattle.chk_site.proofs.Runs.{adds_as}
use Rattle.chk_site.proofs.Leads.{leads_as, leads_then}
use Rattle.chk_record_index.specs.declared.fault.JobFault.{JobFault}
use Rattle.chk_record_index.specs.declared.fault.JobFault.TheVariants.{Outside, Damaged, Spent, NoMemory}
use Rattle.chk_record_reader.specs.declared.reader.RecordReader.{RecordReader}
use Rattle.chk_record_reader.specs.ReadBack.{value_held}
use Rattle.chk_record_reader.specs.Segments.{HasFiles, SparesFiles}
use Rattle.chk_record_reader.specs.Archives.{AreWindows}
use Rattle.chk_join_sources.specs.declared.gathering.Side.{Side}
use Rattle.chk_join_sources.specs.Blocks.{head_in}
use Rattle.chk_join_sources.specs.Comparing.{value_there}
use Rattle.chk_join_sources.specs.Reading.{Fetched}
use Rattle.chk_join_sources.proofs.AllCompared.{under}
use Rattle.sha2.specs.Sha256.{sha256}
use Rattle.chk_ctl_sum.specs.declared.rests.Skipping.{Skipping}
use Rattle.chk_ctl_sum.specs.Rests.{HoldsRest}
use Rattle.chk_ctl_sum.specs.Summing.{CanSum, HasSummed, TookOne, SummedOne, SummedAll}

module _ (all : List (List ℕ)) (held : Files) (side : Side) where
  -- a record is fetched, and the hasher takes its value
  pub taken_so : (old new : RecordReader) (before after : Skipping) (skip : ℕ) (taken : List ℕ)
      (index : ℕ) {K : History → History → Type 0} {from to : Option History} → Adds from to K
      → (AreWindows side.names.now held old → Adds from to (Leads (anyhow (SparesFiles all))
      (HasFiles all held)
      (Fetched all side.names.now held (head_in side.heads.now index) new (Ok tt))))
      → ((m : List ℕ) → HoldsRest skip before m → HoldsRest skip after (m ++ value_held new))
      → Adds from to (Leads (anyhow (SparesFiles all))
      (HasSummed all held side skip taken old before)
      (TookOne all held side skip (taken ++ value_there side held index) new after (Ok tt)))
  taken_so old new before after skip taken index own told update =
      leads_as (λ h x. (x.0.0, (x.0.1, x.1))) (λ h x. x)
      (under own
      (λ (x : AreWindows side.names.now held old × HoldsRest skip before taken).
      leads_as (λ h y. y)
      (λ h y. (
        (y.0, y.1),
        subst (λ v. HoldsRest skip after (taken ++ v)) y.2 (update taken x.1),
      ))
      (told x.0)))

  pub taken_not : (old new : RecordReader) (before after : Skipping) (skip : ℕ)
      (taken more : List ℕ) (index : ℕ) (fault : JobFault) {K : History → History → Type 0}
      {from to : Option History} → Adds from to K
      → (AreWindows side.names.now held old → Adds from to (Leads (anyhow (SparesFiles all))
      (HasFiles all held)
      (Fetched all side.names.now held (head_in side.heads.now index) new (Err fault))))
      → Adds from to (Leads (anyhow (SparesFiles all))
      (HasSummed all held side skip taken old before)
      (TookOne all held side skip more new after (Err fault)))
  taken_not old new before after skip taken more index fault own told =
      leads_as (λ h x. (x.0.0, x.0.1)) (λ h x. said fault h x) (under own told)
    where
      said : (fault : JobFault) (h : History)
          → Fetched all side.names.now held (head_in side.heads.now index) new (Err fault) h
          → TookOne all held side skip more new after (Err fault) h
      said (Outside call) h x = tt
      said (Damaged name at) h x = x
      said (Spent n) h x = tt
      said NoMemory h x = tt

  -- a refusal of a record is that of its block
  pub block_fails : (bytes : List ℕ) (skip : ℕ) (more : List ℕ) (r : RecordReader) (s : Skipping)
      (fault : JobFault) {A : History → Type 0} {old new : Option History}
      → Adds old new (Leads (anyhow (SparesFiles all)) A
      (TookOne all held side skip more r s (Err fault)))
      → Adds old new (Leads (anyhow (SparesFiles all)) A
      (SummedOne all held side bytes r (Err fault)))
  block_fails bytes skip more r s fault told = leads_as (λ h x. x) (λ h x. said fault h x) told
    where
      said : (fault : JobFault) (h : History) → TookOne all held side skip more r s (Err fault) h
          → SummedOne all held side bytes r (Err fault) h
      said (Outside call) h x = tt
      said (Damaged name at) h x = x
      said (Spent n) h x = tt
      said NoMemory h x = tt

  -- the digests so far
  abbrev pub SoFar : List (List ℕ) → RecordReader → List (List ℕ) → History → Type 0
  SoFar wanted r digests h = CanSum all held side r h × (digests ≡ wanted)

  -- one stream more
  pub stream_more : (wanted digests further : List (List ℕ)) (bytes digest : List ℕ)
      (q r : RecordReader) {A : History → Type 0} {old mid new : Option History}
      → further ≡ digests ++ digest ∷ []
      → Adds old mid (Leads (anyhow (SparesFiles all)) A (SoFar wanted q digests))
      → Adds mid new (Leads (anyhow (SparesFiles all)) (CanSum all held side q)
      (SummedOne all held side bytes r (Ok digest)))
      → Adds old new (Leads (anyhow (SparesFiles all)) A
      (SoFar (wanted ++ sha256 bytes ∷ []) r further))
  stream_more wanted digests further bytes digest q r is so_far told =
      leads_then so_far
      (adds_as (Leads (anyhow (SparesFiles all)) (SoFar wanted q digests)
      (SoFar (wanted ++ sha256 bytes ∷ []) r further)) told
      (λ added history x. record {
        leads = λ others had.
            let y = x.leads others had.0 in
            (y.0, is ∙ ap₂ (λ (l : List (List ℕ)) (d : List ℕ). l ++ d ∷ []) had.1 y.1);
        own = x.own;
      }))

  pub stream_fails : (wanted digests : List (List ℕ)) (bytes : List ℕ) (all_digests : List (List ℕ))
      (q r : RecordReader) (fault : JobFault) {A : History → Type 0} {old mid new : Option History}
      → Adds old mid (Leads (anyhow (SparesFiles all)) A (SoFar wanted q digests))
      → Adds mid new (Leads (anyhow (SparesFiles all)) (CanSum all held side q)
      (SummedOne all held side bytes r (Err fault)))
      → Adds old new (Leads (anyhow (SparesFiles all)) A
      (SummedAll all held all_digests (Err fault)))
  stream_fails wanted digests bytes all_digests q r fault so_far told =
      leads_then (leads_as (λ h x. x) (λ h x. x.0) so_far)
      (leads_as (λ h x. x) (λ h x. said fault h x) told)
    where
      said : (fault : JobFault) (h : History) → SummedOne all held side bytes r (Err fault) h
          → SummedAll all held all_digests (Err fault) h
      said (Outside call) h x = tt
      said (Damaged name at) h x = x
      said (Spent n) h x = tt
      said NoMemory h x = tt

-- so many streams, and the next one
pub taken_more : {X : Type 0} (f : X → List ℕ) (xs : List X) (i : ℕ) (x : X) → i < length xs
    → x ≡ get_or xs i x → map f (take i xs) ++ f x ∷ [] ≡ map f (take (i + 1) xs)
taken_more f xs i x within is =
    sym (map-append f (take i xs) (x ∷ []))
    ∙ ap (map f) (ap (λ y. take i xs ++ y ∷ []) is ∙ sym (take_more xs i x within))
