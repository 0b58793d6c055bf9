use Rattle.chk_record_index.proofs.KeptKeys.{kept_same, kept_more}
use Rattle.chk_record_index.proofs.recents.Recents.make_places.Goals as goal

pub loop-alloc-preserved : goal.loop-alloc-preserved
loop-alloc-preserved c = λ origins kept.
    kept_more origins c.loop-alloc.self _ c.new.result c.in_ok-push.ensures.items c.new.ensures
    (c.loop-alloc.invariant origins kept)

pub returns-in_err-push : goal.returns-in_err-push
returns-in_err-push c = λ origins kept.
    kept_same origins c.loop-alloc.self _ c.in_err-push.ensures.items (c.loop-alloc.invariant origins kept)
