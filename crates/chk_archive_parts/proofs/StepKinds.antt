-- What a call's own steps are, by their kind.
use Rattle.std.proofs.Common.{◌≡◌, inl, inr, ℕ, List, [], ◌∷◌, Option, Ok, Err, Result, sym, ◌∙◌, true≢false}
use Rattle.chk_site.specs.Acts.{Deed, Reads, deed}
use Rattle.chk_site.specs.History.{History, Every}
use Rattle.chk_site.specs.Site.{Adds}
use Rattle.chk_site.proofs.Runs.{adds_as, adds_then}
use Rattle.chk_world.specs.JobSteps.{IsOf, WritesTo, removes, creates, appends, syncs}
use Rattle.chk_record_index.specs.Faults.{FailsLast}
use Rattle.chk_record_index.specs.Pieces.{AsksInPieces}
use Rattle.chk_record_index.specs.declared.fault.JobFault.{JobFault}
use Rattle.chk_archive_parts.proofs.AllFiles.{fails_later}
pub use Rattle.chk_book.proofs.Works.{as_kind}

-- steps that read nothing ask for no piece
pub no_reads : (K : Deed → Type 0)
    → ((call : Deed) → K call → (name : List ℕ) (at max : ℕ) → call ≡ Reads name at max → ⊥)
    → {old new : Option History} → Adds old new (Every (IsOf K)) → Adds old new (Every AsksInPieces)
no_reads K none own = adds_as (Every AsksInPieces) own (λ added history made. go added history made)
  where
    go : (added history : History) → Every (IsOf K) added history → Every AsksInPieces added history
    go [] history made = tt
    go (step ∷ added) history made = (
      go added history made.0,
      λ mine name at max is. elim made.1 [
        | inl theirs ↦ absurd (true≢false (sym mine ∙ theirs.0))
        | inr own ↦ absurd (none (deed step.act) own.1 name at max is)
      ],
    )

pub writes_no_reads : (w : List ℕ) (call : Deed) → WritesTo w call → (name : List ℕ) (at max : ℕ)
    → call ≡ Reads name at max → ⊥
writes_no_reads w call removes name at max is = absurd (cc)
writes_no_reads w call creates name at max is = absurd (cc)
writes_no_reads w call (appends piece) name at max is = absurd (cc)
writes_no_reads w call syncs name at max is = absurd (cc)

-- the call that failed is the last one, also behind other calls
pub fails_behind : {T : Type 0} {P : History → History → Type 0}
    (r : Result T JobFault) {old mid new : Option History}
    → Adds old mid P → Adds mid new (FailsLast r) → Adds old new (FailsLast r)
fails_behind (Ok value) so_far told = adds_then (FailsLast (Ok value)) so_far told
    (λ a b history p q. tt)
fails_behind {T = T} (Err fault) so_far told = fails_later T T fault so_far told
