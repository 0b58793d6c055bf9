-- What the structs of stores and of missing bytes stand for.
use Rattle.std.specs.Prelude.{List, ◌++◌, map}
use Rattle.chk_book.specs.Views.{end_view}
use Rattle.chk_ctl_held.specs.Elsewhere.{Gap, Seen}
use Rattle.chk_ctl_held.specs.Streams.{stream_of}
use Rattle.chk_ctl_held.specs.declared.gaps.GapRef.{GapRef}
use Rattle.chk_ctl_held.specs.declared.others.Others.{Others}
use Rattle.chk_ctl_held.specs.declared.stores.Store.{Store}

abbrev pub seen_of : Store → Seen
seen_of s = record {
  name = s.name;
  ends = map end_view s.waiting.book.ends;
  heads = s.waiting.heads;
}

abbrev pub lent_gap : GapRef → Gap
lent_gap g = record { stream = stream_of g.stream; from = g.from; to = g.to }

-- those beside one of them, in their order
abbrev pub others_of : Others → List Seen
others_of o = map seen_of o.before.now ++ map seen_of o.behind.now
