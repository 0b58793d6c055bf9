use Rattle.std.proofs.Common.{refl}
use Rattle.chk_record_index.proofs.KeptKeys.{empty_kept, set_kept, kept_set}
use Rattle.chk_record_index.proofs.recents.Recents.keep.Goals as goal

pub returns-in_err-set : goal.returns-in_err-set
returns-in_err-set c = λ origins k is start has kept.
    kept_set origins c.make_places.new.self _ c.place_for-place.result c.set.new.self refl
    (empty_kept origins c.set.new.self c.in_err-set.ensures.err) (c.make_places.ensures origins (record { each = kept.each }))

pub returns-in_ok-set : goal.returns-in_ok-set
returns-in_ok-set c = λ origins k is start has kept.
    kept_set origins c.make_places.new.self _ c.place_for-place.result c.set.new.self refl
    (set_kept origins c.set.new.self k c.args.key.now c.args.start c.args.origin is start has c.in_ok-set.ensures.ok)
    (c.make_places.ensures origins (record { each = kept.each }))

pub returns-in_err-make_places : goal.returns-in_err-make_places
returns-in_err-make_places c = λ origins k is start has kept. c.make_places.ensures origins (record { each = kept.each })

pub returns-in_default : goal.returns-in_default
returns-in_default c = λ origins k is start has kept. c.make_places.ensures origins (record { each = kept.each })
