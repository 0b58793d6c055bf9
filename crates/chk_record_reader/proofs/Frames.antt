-- Files that reading leaves as they are.
use Rattle.std.proofs.Common.{◌≡◌, inl, inr, ℕ, false, List, [], ◌∷◌, ◌++◌, Option, refl, sym, subst, ◌∙◌}
use Rattle.std.specs.Prelude.{Contains}
use Rattle.chk_site.specs.Files.{File, Files, IsSettled}
use Rattle.chk_site.specs.Acts.{Deed, touches, deed}
use Rattle.chk_site.specs.History.{History, Every, Others}
use Rattle.chk_site.specs.Site.{Adds}
use Rattle.chk_site.specs.Runs.{anyhow, Leads}
use Rattle.chk_site.proofs.Runs.{adds_both}
use Rattle.chk_site.proofs.Leads.{owned_anyhow}
use Rattle.chk_site.proofs.Stays.{settled_stays}
use Rattle.chk_replace.specs.Load.{Has}
use Rattle.chk_world.specs.JobSteps.{IsOf, ReadsFile, reads, asks, SparesFile}
use Rattle.chk_record_reader.specs.Segments.{HasFiles, SparesFiles, AreSettled}

pub reads_quiet : (w : List ℕ) (call : Deed) → ReadsFile call → touches call w ≡ false
reads_quiet w call (reads name at max) = refl
reads_quiet w call (asks name) = refl

-- own steps that don't touch it, and steps of others that spare it, leave a file that is wholly on
-- the disk
pub stays_so : (K : Deed → Type 0) (w : List ℕ) (file : Option File) → ((call : Deed) → K call
    → touches call w ≡ false) → IsSettled file
    → (added history : History) → Every (IsOf K) added history → Others
    (SparesFile w) added history → Has w file history → Has w file (added ++ history)
stays_so K w file quiet settled [] history every others has = has
stays_so K w file quiet settled (step ∷ added) history every others has =
    let earlier = stays_so K w file quiet settled added history every.0 others.0 has in
    elim every.1 [
      | inl theirs ↦ others.1 theirs.0 ∙ earlier
      | inr mine ↦
          settled_stays (added ++ history) step w mine.0.honest.modelled (quiet
          (deed step.act) mine.1) (subst IsSettled (sym earlier) settled) ∙ earlier
    ]

pub spares_one : (names : List (List ℕ)) (w : List ℕ) → Contains names w →
    (added history : History) → Others (SparesFiles names) added history
    → Others (SparesFile w) added history
spares_one names w one [] history others = tt
spares_one names w one (step ∷ added) history others =
    (spares_one names w one added history others.0, λ theirs. others.1 theirs w one)

-- what reading one of the files leads to, while the others stay
pub among : (names : List (List ℕ)) (held : Files) (w : List ℕ) {B : History → Type 0}
    {old new : Option History} → AreSettled names held → Contains names w
    → Adds old new (Leads (anyhow (SparesFile w)) (Has w (held w)) B) → Adds old new (Every
    (IsOf ReadsFile))
    → Adds old new (Leads (anyhow (SparesFiles names)) (HasFiles names held)
    (λ h. HasFiles names held h × B h))
among names held w {B = B} settled one raw own =
    adds_both (Leads (anyhow (SparesFiles names)) (HasFiles names held) (λ h. HasFiles names held h
    × B h)) raw own
    (λ added history x made. record {
      leads = λ s h. (
        λ v is.
            stays_so ReadsFile v (held v) (reads_quiet v) (settled v is).0 added history made
            (spares_one names v is added history s) (h v is),
        x.leads (spares_one names w one added history s) (h w one),
      );
      own = owned_anyhow added history;
    })
