use Rattle.std.proofs.Common.{◌≡◌, Bool, true, false, cond, Option, Some, None, Result, Ok, Err, refl, subst, sym, ap, ◌∙◌}
use Rattle.chk_site.specs.declared.acts.Role.{Role}
use Rattle.chk_site.specs.declared.acts.Role.TheVariants.{Agent}
use Rattle.chk_site.specs.declared.suffixes.Taking.{Taking}
use Rattle.chk_site_errors.specs.declared.faults.SystemFault.{SystemFault}
use Rattle.chk_site_errors.specs.Faults.{answer_of}
use Rattle.chk_site_real.specs.Requests.{given_to, is_request, without, IsNoRequest}
use Rattle.chk_site_real.proofs.site_real.SiteRealSite.take.Goals as goal

-- without requests none is taken
none_left : (given : Result (Option Taking) SystemFault) → IsNoRequest (answer_of (without given))
none_left (Err fault) = tt
none_left (Ok None) = tt
none_left (Ok (Some taking)) = go (is_request taking.bytes) refl
  where
    go : (b : Bool) → is_request taking.bytes ≡ b
        → IsNoRequest (answer_of (cond b (Ok None) (Ok (Some taking))))
    go true e = tt
    go false e = e

-- nor where an agent is given them
none_given : (role : Role) (given : Result (Option Taking) SystemFault) → role ≡ Agent
    → IsNoRequest (answer_of (given_to role given))
none_given role given e =
    subst (λ r. IsNoRequest (answer_of (given_to r given))) (sym e) (none_left given)

pub returns-clause-web : goal.returns-clause-web
returns-clause-web g c =
    λ agent. subst IsNoRequest (sym (c.settle.ensures.same ∙ ap answer_of c.given_to.ensures.given))
    (none_given _ _ agent)
