use Rattle.std.proofs.Common.{Some, ap, sym, ◌∙◌}
use Rattle.std.proofs.lemmas.Option.{same_Some}
use Rattle.chk_site_listings.proofs.Stamping.{Decides-stamps}
use Rattle.chk_site_listings.proofs.names.Listing.is_current.Goals as goal

pub returns-in-Some-Some : goal.returns-in-Some-Some
returns-in-Some-Some c =
    let alike = Decides-stamps c.in-Some-Some.kept c.in-Some-Some.stamp in (
      λ h. (
        c.in-Some-Some.kept,
        c.in-Some-Some.is-0,
        c.in-Some-Some.is-1 ∙ ap Some (sym (alike.0 (sym c.eq.ensures ∙ h))),
      ),
      λ both. c.eq.ensures ∙ alike.1
          (same_Some _ _ (sym c.in-Some-Some.is-0 ∙ both.1 ∙ (sym both.2 ∙ c.in-Some-Some.is-1))),
    )
