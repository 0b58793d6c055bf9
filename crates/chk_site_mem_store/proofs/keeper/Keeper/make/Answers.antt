use Rattle.chk_site_mem_store.proofs.GoingLemmas.{goes_kept}
use Rattle.chk_site_mem_store.proofs.keeper.Keeper.make.Goals as goal

pub returns-then-branch-clause-ok : goal.returns-then-branch-clause-ok
returns-then-branch-clause-ok c =
    goes_kept c.args.self.now c.keep.new.self c.args.act c.in_ok-keep.field-0 c.if-branch.true c.in_ok-keep.ensures.kept
    c.in_ok-keep.ensures.modelled
