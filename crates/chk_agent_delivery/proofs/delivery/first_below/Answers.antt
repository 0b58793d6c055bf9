use Rattle.std.specs.Prelude.{filter}
use Rattle.chk_acks.specs.Rows.{is_unmarked}
use Rattle.chk_agent_delivery.proofs.Lengths.{for_size}
use Rattle.chk_agent_delivery.proofs.BelowRows.{below_unnamed, below_unread, below_read}
use Rattle.chk_agent_delivery.proofs.delivery.first_below.Goals as goal

pub returns-in_default : goal.returns-in_default
returns-in_default c lengths is are =
    below_unnamed c.args.stems.now lengths (filter is_unmarked c.args.acks.now.rows) are c.in_default.ensures

pub returns-in_default-length_of : goal.returns-in_default-length_of
returns-in_default-length_of c lengths is are =
    below_unread c.args.stems.now lengths (filter is_unmarked c.args.acks.now.rows) _ _ are c.in-Some.ensures
    (c.in_default-length_of.ensures lengths is (for_size c.args.stems.now lengths are))

pub returns : goal.returns
returns c lengths is are =
    below_read c.args.stems.now lengths (filter is_unmarked c.args.acks.now.rows) _ _ c.in-Some-length_of.got are c.in-Some.ensures
    (c.in-Some-length_of.ensures lengths is (for_size c.args.stems.now lengths are))
