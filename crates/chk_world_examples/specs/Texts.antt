-- The names and texts of the worked history.
use Rattle.std.specs.Prelude.{ℕ, true, false, List, [], ◌∷◌, ◌++◌, None, codes, replicate}
use Rattle.chk_bytes.specs.Stems.{Stem}
use Rattle.chk_site.specs.declared.acts.Who.{Who}
use Rattle.chk_site.specs.declared.acts.Role.TheVariants.{Collector, Agent, Writer, Job}
use Rattle.chk_site.specs.declared.lists.Left.{Left}
use Rattle.chk_control.specs.declared.Class.TheVariants.{Plain}
use Rattle.chk_seqfile.specs.Headers.{header, marker_of}
use Rattle.chk_seqfile.specs.Entries.{record_entry}
use Rattle.chk_chunk.specs.Keys.{Stream, Chunk, no_cluster, key_1}
use Rattle.chk_chunk.specs.Posts.{written_post}
use Rattle.chk_http_grammar.specs.Messages.{written_post_request, written_poll_request, written_reply}
use Rattle.chk_world.specs.Checkpoints.{Line, One, checkpoint_text}
use Rattle.chk_world.specs.Books.{Book, Segment, End, One as book_1, book_bytes}

abbrev pub chunk : Chunk
chunk = record {
  key = record { stream = record { source = codes "h1"; kind = codes "Log"; name = codes "/a.log" }; start = 0; cluster = no_cluster; seq = 6 };
  value = codes "hello" ++ 10 ∷ [];
}

abbrev pub post : List ℕ
post = written_post (chunk ∷ [])

abbrev pub stem : Stem
stem = record { collector = codes "c1"; born = 1; number = 1 }

abbrev pub body : List ℕ
body = codes "c1.1.1 144" ++ 10 ∷ []

abbrev pub reply : List ℕ
reply = written_reply 200 (codes "OK") body

abbrev pub poll : List ℕ
poll = written_poll_request (codes "self") (stem ∷ [])

abbrev pub c1 : Who
c1 = record { role = Collector; name = codes "c1" }

abbrev pub born : List ℕ
born = codes "sinks/c1.born"

abbrev pub born_tmp : List ℕ
born_tmp = codes "sinks/c1.born.tmp"

abbrev pub sink : List ℕ
sink = codes "sinks/c1.1.1.chukwa"

abbrev pub head : List ℕ
head = header (marker_of (codes "c1.1.1"))

abbrev pub a1 : Who
a1 = record { role = Agent; name = codes "h1" }

abbrev pub log : Who
log = record { role = Writer; name = codes "log" }

abbrev pub path : List ℕ
path = codes "/a.log"

abbrev pub check_tmp : List ℕ
check_tmp = codes "agents/h1.check.tmp"

abbrev pub check : List ℕ
check = codes "agents/h1.check"

abbrev pub hello : List ℕ
hello = codes "hello" ++ 10 ∷ []

abbrev pub line : Line
line = record { live = true; name = codes "adaptor_1"; class = Plain; kind = codes "Log"; path = codes "/a.log"; offset = 0; first = 0; after = None; start = 0 }

abbrev pub text : List ℕ
text = checkpoint_text One (line ∷ [])

abbrev pub request : List ℕ
request = written_post_request (codes "self") post

abbrev pub entry : List ℕ
entry = record_entry (key_1 chunk.key) chunk.value

abbrev pub mark_tmp : List ℕ
mark_tmp = codes "sinks/c1.1.1.mark.tmp"

abbrev pub mark : List ℕ
mark = codes "sinks/c1.1.1.mark"

abbrev pub line_6 : Line
line_6 = record { live = true; name = codes "adaptor_1"; class = Plain; kind = codes "Log"; path = codes "/a.log"; offset = 6; first = 0; after = None; start = 0 }

abbrev pub text_6 : List ℕ
text_6 = checkpoint_text One (line_6 ∷ [])

abbrev pub done_sink : List ℕ
done_sink = codes "sinks/c1.1.1.done"

abbrev pub listed_names : List (List ℕ)
listed_names = codes "c1.1.1.done" ∷ codes "c1.born" ∷ []

abbrev pub seg : List ℕ
seg = codes "archive/seg.1"

abbrev pub book_tmp : List ℕ
book_tmp = codes "archive/book.tmp"

abbrev pub book_name : List ℕ
book_name = codes "archive/book"

abbrev pub seg_head : List ℕ
seg_head = header (marker_of (codes "seg.1"))

abbrev pub stream : Stream
stream = record { source = codes "h1"; kind = codes "Log"; name = codes "/a.log" }

abbrev pub segment : Segment
segment = record { number = 1; length = 144 }

abbrev pub end : End
end = record { stream = stream; start = 0; end = 6 }

abbrev pub book_1st : Book
book_1st = record { next = 2; segments = segment ∷ []; ends = end ∷ []; aside = None }

abbrev pub book_text : List ℕ
book_text = book_bytes book_1 book_1st

abbrev pub sevens : List ℕ
sevens = replicate 48 7

abbrev pub left : List Left
left = record { name = sink; tail = sevens; whole = false } ∷ []
