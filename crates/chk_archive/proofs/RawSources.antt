-- What a run tells of the files that it reads, whatever was told before.
use Rattle.std.proofs.Common.{◌≡◌, inl, inr, ℕ, List, ◌++◌, Ok, Err, Option, Result, subst}
use Rattle.std.specs.Prelude.{OnOk, IfErr}
use Rattle.chk_site.specs.Files.{Files}
use Rattle.chk_site.specs.History.{History, Every}
use Rattle.chk_site.specs.Site.{Adds}
use Rattle.chk_site.specs.Runs.{anyhow, Leads}
use Rattle.chk_site.proofs.Runs.{adds_as}
use Rattle.chk_site.proofs.Leads.{leads_as, leads_then, owned_anyhow}
use Rattle.chk_chunk.specs.Keys.{chunk_limit}
use Rattle.chk_world.specs.Books.{End}
use Rattle.chk_world.specs.JobSteps.{IsOf}
use Rattle.chk_record_index.specs.Heads.{Head}
use Rattle.chk_record_index.specs.Order.{in_head_order}
use Rattle.chk_record_index.specs.declared.fault.JobFault.{JobFault}
use Rattle.chk_record_index.specs.declared.fault.JobFault.TheVariants.{Outside, Damaged, Spent, NoMemory}
use Rattle.chk_record_reader.specs.Segments.{heads_from, HasFiles, SparesFiles, GatheredAll}
use Rattle.chk_archive.specs.Starts.{HaveStartsIn, ToldOtherStart}
use Rattle.chk_archive.specs.Archived.{MergesBy}
use Rattle.chk_archive.specs.Taking.{ReadSources}
use Rattle.chk_archive.specs.declared.taking.Taken.{Taken}

module _ (ws : List (List ℕ)) (es : List End) (held : Files) where
  bad_file : (fault : JobFault) (h : History) → GatheredAll chunk_limit ws held (Err fault) h
      → ReadSources {T = Taken} ws es held (Err fault) h
  bad_file (Outside call) h k = tt
  bad_file (Damaged name at) h k = inl k
  bad_file (Spent n) h k = tt
  bad_file NoMemory h k = tt

  pub read_fails : (fault : JobFault) {a m : Option History}
      → Adds a m (Leads (anyhow (SparesFiles ws)) (HasFiles ws held) (GatheredAll chunk_limit ws held (Err fault)))
      → Adds a m (Leads (anyhow (SparesFiles ws)) (HasFiles ws held) (ReadSources {T = Taken} ws es held (Err fault)))
  read_fails fault told = leads_as (λ h k. k) (bad_file fault) told

  abbrev Sorted : List Head
  Sorted = in_head_order (heads_from chunk_limit held 0 ws)

  module _ (heads : List Head) (r : Result Taken JobFault) where
    found : OnOk r (HaveStartsIn es (in_head_order heads))
        → ((HaveStartsIn es (in_head_order heads) → ⊥) → IfErr r (ToldOtherStart ws es (in_head_order heads)))
        → heads ≡ heads_from chunk_limit held 0 ws → (h : History) → ReadSources ws es held r h
    found have other is h =
        go r
        (subst (λ hs. OnOk r (HaveStartsIn es (in_head_order hs))) is have)
        (subst (λ hs. (HaveStartsIn es (in_head_order hs) → ⊥) → IfErr r (ToldOtherStart ws es (in_head_order hs))) is other)
      where
        go : (r : Result Taken JobFault) → OnOk r (HaveStartsIn es Sorted)
            → ((HaveStartsIn es Sorted → ⊥) → IfErr r (ToldOtherStart ws es Sorted)) → ReadSources ws es held r h
        go (Ok value) k differ = k
        go (Err (Outside call)) k differ = tt
        go (Err (Damaged name at)) k differ = inr differ
        go (Err (Spent n)) k differ = tt
        go (Err NoMemory) k differ = tt

    pub read_then : {a m z : Option History}
        → Adds a m (Leads (anyhow (SparesFiles ws)) (HasFiles ws held) (GatheredAll chunk_limit ws held (Ok heads)))
        → Adds m z (Every (IsOf MergesBy)) → OnOk r (HaveStartsIn es (in_head_order heads))
        → ((HaveStartsIn es (in_head_order heads) → ⊥) → IfErr r (ToldOtherStart ws es (in_head_order heads)))
        → Adds a z (Leads (anyhow (SparesFiles ws)) (HasFiles ws held) (ReadSources ws es held r))
    read_then told own have other =
        leads_then (leads_as (λ h k. k) (λ h k. k.2) told)
        (adds_as
        (Leads (anyhow (SparesFiles ws)) (λ h. heads ≡ heads_from chunk_limit held 0 ws) (ReadSources ws es held r)) own
        (λ added history every. record {
          leads = λ s is. found have other is (added ++ history);
          own = owned_anyhow added history;
        }))
