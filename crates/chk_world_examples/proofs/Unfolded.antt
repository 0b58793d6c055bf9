-- What the worked texts compute with, under one name.
use Rattle.std.specs.Fmt.{digits}
use Rattle.std.specs.Str.{is_utf8, chars}
use lib.Utf8.{encode}
use Rattle.md5.specs.Md5.{md5, digest_bytes, hash_after, compress, rounds, block_words}
use Rattle.chk_bytes.specs.Words.{is_word}
use Rattle.chk_seqfile.specs.Headers.{marker_of, written_front, class_text, read_header, read_front, read_fields, read_class}
use Rattle.chk_seqfile.specs.Entries.{records_of, entry_at}
use Rattle.chk_chunk.specs.Keys.{key_1, key_2, written_key, guessed_key, read_key}
use Rattle.chk_chunk.specs.Posts.{written_part}
use Rattle.chk_http_grammar.specs.Messages.{written_post_request, written_poll_request, written_reply}
use Rattle.chk_world.specs.Names.{read, spell}
use Rattle.chk_world.specs.Checkpoints.{read_checkpoint}
use Rattle.chk_world.specs.Books.{read_book}

-- all that spells, reads and sums them
unfoldable pub texts : Unit {0}
unfolding read spell digits is_utf8 chars encode is_word key_1 key_2 written_key guessed_key written_part read_key read_checkpoint read_book read_header read_front read_fields read_class entry_at records_of marker_of written_front class_text md5 digest_bytes hash_after compress rounds block_words written_post_request written_poll_request written_reply
texts = tt
