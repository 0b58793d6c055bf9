use Rattle.std.proofs.Common.{◌∙◌, ap, map, sym}
use Rattle.chk_book.specs.Views.{end_view}
use Rattle.chk_ctl_held.specs.Streams.{stream_of}
use Rattle.chk_ctl_held.proofs.EndPlaces.{end_by, ends_by}
use Rattle.chk_ctl_held.proofs.lines.archived_end.Goals as goal

pub returns-in-Some : goal.returns-in-Some
returns-in-Some c =
    ap end_by c.in-Some.ensures
    ∙ sym (ends_by (stream_of c.args.stream.now) (map end_view c.args.ends.now))

pub returns-in-None : goal.returns-in-None
returns-in-None c =
    ap end_by c.in-None.ensures
    ∙ sym (ends_by (stream_of c.args.stream.now) (map end_view c.args.ends.now))
