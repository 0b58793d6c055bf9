-- What the fields of a splitter stand for.
use Rattle.std.specs.Prelude.{◌≡◌, ◌+◌, ◌≤◌, ◌<◌, false, length, take, drop}
use Rattle.chk_chunk.specs.Keys.{chunk_limit, record_limit}
use Rattle.chk_demux_split.specs.Splitting.{Splitting}
use Rattle.chk_demux_split.specs.declared.splitter.Splitter.TheInside.{Inside}

abbrev pub splitter_view : Inside → Splitting
splitter_view s = record {
  by_stamps = s.by_stamps;
  given = take s.given s.held.items;
  begun = take s.begun (drop s.given s.held.items);
  line = drop s.begun (drop s.given s.held.items);
}

-- the places are in order, the record that has begun and the line behind it are in their limits, and
-- lines alone begin no record
pub record IsSoundSplitter (s : Inside) : Type 0 where
  pub within : s.given + s.begun ≤ length s.held.items
  pub begun : s.begun ≤ record_limit
  pub line : length s.held.items < s.given + s.begun + chunk_limit
  pub plain : s.by_stamps ≡ false → s.begun ≡ 0
