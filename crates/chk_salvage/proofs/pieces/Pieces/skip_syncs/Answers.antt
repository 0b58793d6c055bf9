use Rattle.std.proofs.Common.{refl, subst}
use Rattle.chk_salvage.specs.Skipping.{IsBehindSyncs}
use Rattle.chk_salvage.proofs.FeedLemmas.{goes_syncs}
use Rattle.chk_salvage.proofs.pieces.Pieces.skip_syncs.Goals as goal

pub returns-clause-goes : goal.returns-clause-goes
returns-clause-goes c =
    let self = c.args.self.now in
    goes_syncs self _ c.args.marker.now c.requires refl refl
    (subst (λ b. IsBehindSyncs c.args.marker.now b self.used c.behind_syncs-used.result) c.deref.ensures.value c.behind_syncs-used.ensures)
    refl refl
