use Rattle.std.proofs.Common.{ap, ◌∙◌, nat_eq}
use Rattle.std.specs.List.{starts_with}
use Rattle.chk_site_listings.proofs.Fronts.{begins_is}
use Rattle.chk_site_listings.proofs.names.begins_with.Goals as goal

pub returns : goal.returns
returns c =
    c.starts_with.ensures.value
    ∙ (ap (λ text. starts_with nat_eq text c.as_bytes-2.result.now) c.as_bytes.ensures.value
    ∙ (ap (λ front. starts_with nat_eq c.args.name.now front) c.as_bytes-2.ensures.value
    ∙ begins_is c.args.front.now c.args.name.now))
