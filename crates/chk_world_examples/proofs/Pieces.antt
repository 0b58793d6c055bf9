-- What is refused of lines, posts, books and rotations, each beside what is allowed.
use Rattle.chk_world_examples.specs.Lines.{LinesAreRefused}
use Rattle.chk_world_examples.specs.Posts.{PostsAreRefused}
use Rattle.chk_world_examples.specs.Parts.{PartsAreRefused}
use Rattle.chk_world_examples.specs.Books.{BooksAreRefused}
use Rattle.chk_world_examples.specs.Archives.{ArchivesAreRefused}
use Rattle.chk_world_examples.specs.Splits.{SplitsAreRefused}
use Rattle.chk_world_examples.specs.Writers.{TurnsAreRefused}
use Rattle.chk_world_examples.proofs.LineParts
use Rattle.chk_world_examples.proofs.WrongLines
use Rattle.chk_world_examples.proofs.WrongPosts
use Rattle.chk_world_examples.proofs.WrongParts
use Rattle.chk_world_examples.proofs.WrongBooks
use Rattle.chk_world_examples.proofs.WrongArchives
use Rattle.chk_world_examples.proofs.WrongSplits
use Rattle.chk_world_examples.proofs.WrongWriters

pub lines : LinesAreRefused
lines = record {
  else_obeys = LineParts.else_obeys;
  allowed = λ history old new a. LineParts.allowed history old new a.written a.all;
  another_class = WrongLines.another_class;
  same_class = WrongLines.same_class;
  another_start = WrongLines.another_start;
  same_start = WrongLines.same_start;
  goes_back = WrongLines.goes_back;
  stays = WrongLines.stays;
  past_start = WrongLines.past_start;
  at_start = WrongLines.at_start;
  not_sent = WrongLines.not_sent;
  is_acknowledged = WrongLines.end_of_line;
  no_generation = WrongLines.no_generation;
  next_generation = WrongLines.next_generation;
  no_suffix = WrongLines.no_suffix;
  same_suffix = WrongLines.same_suffix;
  not_newest = WrongLines.not_newest;
  past_newest = WrongLines.past_newest;
  false_place = WrongLines.false_place;
  true_place = WrongLines.true_place;
  inside_a_line = WrongLines.inside_a_line;
  end_of_line = WrongLines.end_of_line;
}

pub posts : PostsAreRefused
posts = record {
  else_obeys = WrongPosts.else_obeys;
  allowed = WrongPosts.allowed;
  false_data = WrongPosts.false_data;
  true_data = WrongPosts.true_data;
  inside_a_line = WrongPosts.inside_a_line;
  whole_line = WrongPosts.whole_line;
  another_start = WrongPosts.another_start;
  same_start = WrongPosts.same_start;
  another_source = WrongPosts.another_source;
  own_source = WrongPosts.own_source;
  second_cluster = WrongPosts.second_cluster;
  one_cluster = WrongPosts.one_cluster;
}

pub parts : PartsAreRefused
parts = record {
  allowed = WrongParts.allowed;
  false_part = WrongParts.false_part;
  true_part = WrongParts.true_part;
  whole_again = WrongParts.whole_again;
  rest_of_chunk = WrongParts.rest_of_chunk;
  no_part = WrongParts.no_part;
  last_byte = WrongParts.last_byte;
  past_a_gap = WrongParts.past_a_gap;
  no_gap = WrongParts.no_gap;
  of_another_stream = WrongParts.of_another_stream;
  with_another_key = WrongParts.with_another_key;
  not_done = WrongParts.not_done;
}

pub books : BooksAreRefused
books = record {
  archive_else = WrongBooks.archive_else;
  false_alone = WrongBooks.false_archive_alone;
  false_archive = WrongBooks.false_archive;
  true_archive = WrongBooks.true_archive;
  undone_alone = WrongBooks.undone_archive_alone;
  undone_archive = WrongBooks.undone_archive;
  joined_else = WrongBooks.joined_else;
  joined_alone = WrongBooks.joined_alone;
  joined_unsynced = WrongBooks.joined_unsynced;
  joined_synced = WrongBooks.joined_synced;
}

pub archives : ArchivesAreRefused
archives = record {
  else_obeys = WrongArchives.else_obeys;
  allowed = λ history b a. WrongArchives.allowed history b a.written a.all;
  without_stream = WrongArchives.without_stream;
  with_stream = WrongArchives.with_stream;
  another_start = WrongArchives.another_start;
  false_aside = WrongArchives.false_aside;
  true_aside = WrongArchives.true_aside;
  lost_aside = WrongArchives.lost_aside;
}

pub splits : SplitsAreRefused
splits = record {
  no_split = WrongSplits.no_split;
  no_split_alone = WrongSplits.no_split_alone;
  no_split_else = WrongSplits.no_split_else;
  is_split = WrongSplits.is_split;
  records_lost = WrongSplits.records_lost;
  records_lost_alone = WrongSplits.records_lost_alone;
  records_lost_else = WrongSplits.records_lost_else;
  records_kept = WrongSplits.records_kept;
}

pub turns : TurnsAreRefused
turns = record {
  base_read = WrongWriters.base_read;
  new_suffix = WrongWriters.new_suffix;
  base_read_alone = WrongWriters.base_read_alone;
  read_over_rotations = WrongWriters.read_over_rotations;
  older_suffix = WrongWriters.older_suffix;
  no_base_reader = WrongWriters.no_base_reader;
  older_suffix_alone = WrongWriters.older_suffix_alone;
  newer_suffix = WrongWriters.newer_suffix;
  deleted_early = WrongWriters.deleted_early;
  is_there = WrongWriters.is_there;
  deleted_early_alone = WrongWriters.deleted_early_alone;
  deleted_passed = WrongWriters.deleted_passed;
  deleted_none = WrongWriters.deleted_none;
  is_passed = WrongWriters.is_passed;
  deleted_none_alone = WrongWriters.deleted_none_alone;
}
