use Rattle.std.proofs.Common.{rules, ◌≡◌}
use Rattle.std.proofs.lemmas.Fn.{always_returns_same}
use Rattle.chk_chunk.specs.Keys.{stream_lt}
use Rattle.chk_book.specs.Views.{end_view}
use Rattle.chk_book.specs.declared.lists.End.{End}
use Rattle.chk_ctl_held.specs.Streams.{stream_of}
use Rattle.chk_ctl_held.proofs.EndPlaces.{parted}
use Rattle.chk_ctl_held.proofs.ends.place_of.Goals as goal

pub returns : goal.returns
returns c =
    let s = stream_of c.args.stream.now in
    c.partition_point.ensures.partitioned (λ (e : End). stream_lt (end_view e).stream s)
    (always_returns_same _ (λ a r. r ≡ stream_lt (end_view a.0.now).stream s) _
    (λ a r f k. search rules))
    (parted c.args.ends.now s c.requires)
