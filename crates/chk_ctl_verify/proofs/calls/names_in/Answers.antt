use Rattle.chk_ctl_verify.proofs.Steps.{listing_own, names_told}
use Rattle.chk_ctl_verify.proofs.calls.names_in.Goals as goal

pub returns-clause-told : goal.returns-clause-told
returns-clause-told g c =
    names_told (λ v. v.items) c.args.who.now c.args.folder.now c.list-given.result
    c.reached.result c.requires.job c.reached.ensures c.list-given.ensures.told

pub returns-clause-own : goal.returns-clause-own
returns-clause-own g c =
    listing_own c.args.who.now c.args.folder.now _ c.list-given.ensures.told
