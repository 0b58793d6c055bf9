-- How the part behind a suffix stands among the words of a call.
use Rattle.std.proofs.Common.{◌≡◌, List, ℕ, Option, Some, None, refl, subst, Result}
use Rattle.chk_site.specs.declared.acts.OutsideFault.{OutsideFault}
use Rattle.chk_site.specs.declared.acts.Who.{Who}
use Rattle.chk_site.specs.declared.suffixes.Part.TheVariants.{After}
use Rattle.chk_site.specs.History.{History}
use Rattle.chk_site.specs.Site.{part_text}
use Rattle.chk_world.specs.Checkpoints.{after_text}
use Rattle.chk_ctl_status_rows.specs.declared.probing.Probe.{Probe}
use Rattle.std.specs.Option.{option_copied}
use Rattle.chk_ctl_status_rows.specs.declared.probing.Next.{Next}
use Rattle.chk_ctl_status_rows.specs.Ends.{Probes, Sees}
use denote.Ref.{Bor}

part_is : (after : Option (Bor (List ℕ)))
    → part_text (After after) ≡ after_text (option_copied after)
part_is None = refl
part_is (Some suffix) = refl

pub probes_after : {who : Who} {path : List ℕ} {at : ℕ} {result : Result Probe OutsideFault}
    {old new : Option History} (after : Option (Bor (List ℕ)))
    → Probes who path (part_text (After after)) at result old new
    → Probes who path (after_text (option_copied after)) at result old new
probes_after {who = who} {path = path} {at = at} {result = result} {old = old} {new = new} after x =
    subst (λ (p : List ℕ). Probes who path p at result old new) (part_is after) x

-- the same of a suffix that is lent
pub sees_lent : {who : Who} {path : List ℕ} {first : ℕ} {next : Result Next OutsideFault}
    {old new : Option History} (lent : Option (Bor (List ℕ))) (after : Option (List ℕ))
    → option_copied lent ≡ after
    → Sees who path (after_text (option_copied lent)) first next old new
    → Sees who path (after_text after) first next old new
sees_lent {who = who} {path = path} {first = first} {next = next} {old = old} {new = new}
    lent after is x =
    subst (λ (o : Option (List ℕ)). Sees who path (after_text o) first next old new) is x
