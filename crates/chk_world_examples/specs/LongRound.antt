-- A longer history: a log with a start above 0 is read over a rotation, one of its chunks is set aside and archived later,
-- and the archive is split.
use Rattle.std.specs.Prelude.{ℕ, true, List, [], ◌∷◌, Some, None, codes, ◌≡◌, ◌++◌}
use Rattle.chk_bytes.specs.Numbers.{be64}
use Rattle.chk_bytes.specs.Stems.{Stem}
use Rattle.chk_control.specs.declared.Class.TheVariants.{Rotating}
use Rattle.chk_seqfile.specs.Headers.{header, marker_of}
use Rattle.chk_seqfile.specs.Entries.{record_entry}
use Rattle.chk_site.specs.declared.acts.Who.{Who}
use Rattle.chk_site.specs.declared.acts.Call.{Call}
use Rattle.chk_site.specs.declared.acts.Call.TheVariants.{Start, Create, Append, Sync, Rename, Remove, LogRead, LogNewest, LogAppend, Send, Take, Answer, Got, List as ListNames, Say}
use Rattle.chk_site.specs.declared.acts.ActAnswer.{ActAnswer}
use Rattle.chk_site.specs.declared.acts.ActAnswer.TheVariants.{Done, Rotated, Deleted}
use Rattle.chk_site.specs.Files.{LogTurned, LogDropped}
use Rattle.chk_site.specs.History.{History, files_after, logs_after}
use Rattle.chk_chunk.specs.Keys.{Chunk, no_cluster, key_2}
use Rattle.chk_chunk.specs.Posts.{written_post}
use Rattle.chk_http_grammar.specs.Messages.{written_post_request, written_reply}
use Rattle.chk_world.specs.Checkpoints.{Line, Two, checkpoint_text, line_of, checkpoint_of}
use Rattle.chk_world.specs.Books.{Book, Segment, End, Two as book_2, Three, book_bytes}
use Rattle.chk_world.specs.ArchiveRuns.{report, Listing}
use Rattle.chk_site.specs.Logs.{Past, read_from}
use Rattle.chk_site.specs.Honest.{AtLogRead}
use Rattle.chk_world.specs.Streams.{start_of, log_of}
use Rattle.chk_world.specs.Committed.{aside_chunks, archive_of_stream, archived_end}
use Rattle.chk_world.specs.Splits.{split, demuxed_records}
use Rattle.chk_world.specs.Rules.{Legal}
use Rattle.chk_world.specs.Laws.{IsComplete}
use Rattle.chk_world.specs.Reading.{ReadsOn, ChunkStands}
use Rattle.chk_world.specs.DoneSinks.{IsGone}
use Rattle.chk_world_examples.specs.Texts.{a1, c1, log, path, check, check_tmp, sink, head, mark, mark_tmp, done_sink, poll, hello, seg, seg_head, book_tmp, book_name, stream}
use Rattle.chk_world.specs.Sight.{job}
use Rattle.chk_world_examples.specs.Moments.{g1}
use Rattle.chk_world_examples.specs.Refusing.{next_by}
use Rattle.chk_world_examples.specs.Writers.{turns}

-- the history with this call at its end
abbrev pub on : Who → Call → List (List ℕ) → ℕ → ℕ → ActAnswer → History → History
on who call words number max answer history = next_by who call words number max answer history ∷ history

-- ---- what is written

abbrev pub world : List ℕ
world = codes "world\n"

abbrev pub day_8 : List ℕ
day_8 = codes ".20101108"

-- the line at its start, past the first chunk, and past the rotated generation
abbrev pub line_5 : Line
line_5 = record {
  live = true;
  name = codes "adaptor_1";
  class = Rotating;
  kind = codes "Log";
  path = path;
  offset = 5;
  first = 5;
  after = None;
  start = 5;
}

abbrev pub line_11 : Line
line_11 = record line_5 { offset = 11 }

abbrev pub past_8 : Line
past_8 = record line_11 { first = 11; after = Some day_8 }

abbrev pub text_of : Line → List ℕ
text_of l = checkpoint_text Two (l ∷ [])

-- the two chunks, as they are posted and as they are stored
abbrev pub chunk_to : ℕ → List ℕ → Chunk
chunk_to seq value = record { key = record { stream = stream; start = 5; cluster = no_cluster; seq = seq }; value = value }

abbrev pub first_chunk : Chunk
first_chunk = chunk_to 11 hello

abbrev pub second_chunk : Chunk
second_chunk = chunk_to 17 world

abbrev pub request_1 : List ℕ
request_1 = written_post_request (codes "self") (written_post (first_chunk ∷ []))

abbrev pub request_2 : List ℕ
request_2 = written_post_request (codes "self") (written_post (second_chunk ∷ []))

abbrev pub entry_1 : List ℕ
entry_1 = record_entry (key_2 first_chunk.key) hello

abbrev pub entry_2 : List ℕ
entry_2 = record_entry (key_2 second_chunk.key) world

abbrev pub body_1 : List ℕ
body_1 = codes "c1.1.1 158\n"

abbrev pub body_2 : List ℕ
body_2 = codes "c1.1.2 158\n"

abbrev pub reply_1 : List ℕ
reply_1 = written_reply 200 (codes "OK") body_1

abbrev pub reply_2 : List ℕ
reply_2 = written_reply 200 (codes "OK") body_2

-- the collector's second sink
abbrev pub stem_2 : Stem
stem_2 = record { collector = codes "c1"; born = 1; number = 2 }

abbrev pub sink_2 : List ℕ
sink_2 = codes "sinks/c1.1.2.chukwa"

abbrev pub head_2 : List ℕ
head_2 = header (marker_of (codes "c1.1.2"))

abbrev pub mark_2 : List ℕ
mark_2 = codes "sinks/c1.1.2.mark"

abbrev pub mark_2_tmp : List ℕ
mark_2_tmp = codes "sinks/c1.1.2.mark.tmp"

abbrev pub done_2 : List ℕ
done_2 = codes "sinks/c1.1.2.done"

-- what the job lists, and its books
abbrev pub listed_1 : List (List ℕ)
listed_1 = codes "c1.1.1.chukwa" ∷ codes "c1.1.1.mark" ∷ codes "c1.1.2.done" ∷ codes "c1.born" ∷ []

abbrev pub listed_2 : List (List ℕ)
listed_2 = codes "c1.1.1.done" ∷ codes "c1.born" ∷ []

abbrev pub seg_2 : List ℕ
seg_2 = codes "archive/seg.2"

abbrev pub seg_2_head : List ℕ
seg_2_head = header (marker_of (codes "seg.2"))

abbrev pub aside_segment : Segment
aside_segment = record { number = 1; length = 158 }

abbrev pub book_aside : Book
book_aside = record { next = 2; segments = []; ends = []; aside = Some aside_segment }

abbrev pub whole_segment : Segment
whole_segment = record { number = 2; length = 220 }

abbrev pub whole_end : End
whole_end = record { stream = stream; start = 5; end = 17 }

abbrev pub book_whole : Book
book_whole = record { next = 3; segments = whole_segment ∷ []; ends = whole_end ∷ []; aside = None }

abbrev pub demux_seg : List ℕ
demux_seg = codes "demux/seg.1"

abbrev pub demux_tmp : List ℕ
demux_tmp = codes "demux/book.tmp"

abbrev pub demux_book : List ℕ
demux_book = codes "demux/book"

abbrev pub demux_segment : Segment
demux_segment = record { number = 1; length = 220 }

abbrev pub book_demux : Book
book_demux = record { next = 2; segments = demux_segment ∷ []; ends = whole_end ∷ []; aside = None }

-- ---- the steps

-- the agent starts, asks for the newest suffix, and publishes its first checkpoint
abbrev pub k1 : History
k1 = on a1 Start [] 0 0 (Done [] 0 0) g1

abbrev pub k2 : History
k2 = on a1 LogNewest (path ∷ []) 0 0 (Done [] 0 0) k1

abbrev pub k3 : History
k3 = on a1 Create (check_tmp ∷ []) 0 0 (Done [] 0 0) k2

abbrev pub k4 : History
k4 = on a1 Append (check_tmp ∷ text_of line_5 ∷ []) 0 0 (Done [] 0 0) k3

abbrev pub k5 : History
k5 = on a1 Sync (check_tmp ∷ []) 0 0 (Done [] 0 0) k4

abbrev pub k6 : History
k6 = on a1 Rename (check_tmp ∷ check ∷ []) 0 0 (Done [] 0 0) k5

-- it reads the log, and posts a chunk
abbrev pub k7 : History
k7 = on a1 LogRead (path ∷ codes "-" ∷ []) 0 131072 (Done (hello ∷ []) 0 0) k6

abbrev pub k8 : History
k8 = on a1 Send (codes "self" ∷ request_1 ∷ []) 1 0 (Done [] 1 0) k7

-- the collector writes it to its first sink, and answers
abbrev pub k9 : History
k9 = on c1 Take (codes "self" ∷ []) 0 0 (Done (request_1 ∷ []) 1 1) k8

abbrev pub k10 : History
k10 = on c1 Create (sink ∷ []) 0 0 (Done [] 0 0) k9

abbrev pub k11 : History
k11 = on c1 Append (sink ∷ head ∷ []) 0 0 (Done [] 0 0) k10

abbrev pub k12 : History
k12 = on c1 Append (sink ∷ entry_1 ∷ []) 0 0 (Done [] 0 0) k11

abbrev pub k13 : History
k13 = on c1 Answer (reply_1 ∷ []) 1 0 (Done [] 0 0) k12

abbrev pub k14 : History
k14 = on a1 Got [] 1 0 (Done (reply_1 ∷ []) 0 0) k13

-- it syncs the sink and publishes its mark
abbrev pub k15 : History
k15 = on c1 Sync (sink ∷ []) 0 0 (Done [] 0 0) k14

abbrev pub k16 : History
k16 = on c1 Create (mark_tmp ∷ []) 0 0 (Done [] 0 0) k15

abbrev pub k17 : History
k17 = on c1 Append (mark_tmp ∷ be64 158 ∷ []) 0 0 (Done [] 0 0) k16

abbrev pub k18 : History
k18 = on c1 Sync (mark_tmp ∷ []) 0 0 (Done [] 0 0) k17

abbrev pub k19 : History
k19 = on c1 Rename (mark_tmp ∷ mark ∷ []) 0 0 (Done [] 0 0) k18

-- the agent polls, and moves its checkpoint on
abbrev pub k20 : History
k20 = on a1 Send (codes "self" ∷ poll ∷ []) 2 0 (Done [] 2 0) k19

abbrev pub k21 : History
k21 = on c1 Take (codes "self" ∷ []) 0 0 (Done (poll ∷ []) 2 2) k20

abbrev pub k22 : History
k22 = on c1 Answer (reply_1 ∷ []) 2 0 (Done [] 0 0) k21

abbrev pub k23 : History
k23 = on a1 Got [] 2 0 (Done (reply_1 ∷ []) 0 0) k22

abbrev pub k24 : History
k24 = on a1 Create (check_tmp ∷ []) 0 0 (Done [] 0 0) k23

abbrev pub k25 : History
k25 = on a1 Append (check_tmp ∷ text_of line_11 ∷ []) 0 0 (Done [] 0 0) k24

abbrev pub k26 : History
k26 = on a1 Sync (check_tmp ∷ []) 0 0 (Done [] 0 0) k25

abbrev pub k27 : History
k27 = on a1 Rename (check_tmp ∷ check ∷ []) 0 0 (Done [] 0 0) k26

-- a writer rotates the log, and appends to the new base file
abbrev pub k28 : History
k28 = turns (Rotated day_8) (LogTurned path day_8) k27 ∷ k27

abbrev pub k29 : History
k29 = on log LogAppend (path ∷ world ∷ []) 0 0 (Done [] 0 0) k28

-- the agent is shown that the generation ends there, and publishes its place behind it
abbrev pub k30 : History
k30 = on a1 LogRead (path ∷ codes "-" ∷ []) 6 131072 (Done ([] ∷ day_8 ∷ []) 0 0) k29

abbrev pub k31 : History
k31 = on a1 Create (check_tmp ∷ []) 0 0 (Done [] 0 0) k30

abbrev pub k32 : History
k32 = on a1 Append (check_tmp ∷ text_of past_8 ∷ []) 0 0 (Done [] 0 0) k31

abbrev pub k33 : History
k33 = on a1 Sync (check_tmp ∷ []) 0 0 (Done [] 0 0) k32

abbrev pub k34 : History
k34 = on a1 Rename (check_tmp ∷ check ∷ []) 0 0 (Done [] 0 0) k33

-- the writer deletes the generation, which the checkpoint has passed
abbrev pub k35 : History
k35 = turns (Deleted day_8) (LogDropped path day_8) k34 ∷ k34

-- the agent reads on, and posts the next chunk
abbrev pub k36 : History
k36 = on a1 LogRead (path ∷ day_8 ∷ []) 0 131072 (Done (world ∷ []) 0 0) k35

abbrev pub k37 : History
k37 = on a1 Send (codes "self" ∷ request_2 ∷ []) 3 0 (Done [] 3 0) k36

-- the collector writes that to a second sink, and ends this one first
abbrev pub k38 : History
k38 = on c1 Take (codes "self" ∷ []) 0 0 (Done (request_2 ∷ []) 3 3) k37

abbrev pub k39 : History
k39 = on c1 Create (sink_2 ∷ []) 0 0 (Done [] 0 0) k38

abbrev pub k40 : History
k40 = on c1 Append (sink_2 ∷ head_2 ∷ []) 0 0 (Done [] 0 0) k39

abbrev pub k41 : History
k41 = on c1 Append (sink_2 ∷ entry_2 ∷ []) 0 0 (Done [] 0 0) k40

abbrev pub k42 : History
k42 = on c1 Answer (reply_2 ∷ []) 3 0 (Done [] 0 0) k41

abbrev pub k43 : History
k43 = on a1 Got [] 3 0 (Done (reply_2 ∷ []) 0 0) k42

abbrev pub k44 : History
k44 = on c1 Sync (sink_2 ∷ []) 0 0 (Done [] 0 0) k43

abbrev pub k45 : History
k45 = on c1 Create (mark_2_tmp ∷ []) 0 0 (Done [] 0 0) k44

abbrev pub k46 : History
k46 = on c1 Append (mark_2_tmp ∷ be64 158 ∷ []) 0 0 (Done [] 0 0) k45

abbrev pub k47 : History
k47 = on c1 Sync (mark_2_tmp ∷ []) 0 0 (Done [] 0 0) k46

abbrev pub k48 : History
k48 = on c1 Rename (mark_2_tmp ∷ mark_2 ∷ []) 0 0 (Done [] 0 0) k47

abbrev pub k49 : History
k49 = on c1 Rename (sink_2 ∷ done_2 ∷ []) 0 0 (Done [] 0 0) k48

abbrev pub k50 : History
k50 = on c1 Remove (mark_2 ∷ []) 0 0 (Done [] 0 0) k49

-- the job lists the sinks, and sets the chunk of the done one aside, since the archive has a gap before it
abbrev pub k51 : History
k51 = on job Start [] 0 0 (Done [] 0 0) k50

abbrev pub k52 : History
k52 = on job ListNames (codes "sinks" ∷ []) 0 0 (Done listed_1 0 0) k51

abbrev pub k53 : History
k53 = on job Create (seg ∷ []) 0 0 (Done [] 0 0) k52

abbrev pub k54 : History
k54 = on job Append (seg ∷ seg_head ∷ []) 0 0 (Done [] 0 0) k53

abbrev pub k55 : History
k55 = on job Append (seg ∷ entry_2 ∷ []) 0 0 (Done [] 0 0) k54

abbrev pub k56 : History
k56 = on job Sync (seg ∷ []) 0 0 (Done [] 0 0) k55

abbrev pub k57 : History
k57 = on job Create (book_tmp ∷ []) 0 0 (Done [] 0 0) k56

abbrev pub k58 : History
k58 = on job Append (book_tmp ∷ book_bytes Three book_aside ∷ []) 0 0 (Done [] 0 0) k57

abbrev pub k59 : History
k59 = on job Sync (book_tmp ∷ []) 0 0 (Done [] 0 0) k58

abbrev pub k60 : History
k60 = on job Rename (book_tmp ∷ book_name ∷ []) 0 0 (Done [] 0 0) k59

abbrev pub k61 : History
k61 = on job Remove (done_2 ∷ []) 0 0 (Done [] 0 0) k60

abbrev pub k62 : History
k62 = on job Say (report 1 0 1 1 ∷ []) 0 0 (Done [] 0 0) k61

-- the collector ends its first sink too
abbrev pub k63 : History
k63 = on c1 Rename (sink ∷ done_sink ∷ []) 0 0 (Done [] 0 0) k62

abbrev pub k64 : History
k64 = on c1 Remove (mark ∷ []) 0 0 (Done [] 0 0) k63

-- the job lists the sinks again, and archives both chunks
abbrev pub k65 : History
k65 = on job ListNames (codes "sinks" ∷ []) 0 0 (Done listed_2 0 0) k64

abbrev pub k66 : History
k66 = on job Create (seg_2 ∷ []) 0 0 (Done [] 0 0) k65

abbrev pub k67 : History
k67 = on job Append (seg_2 ∷ seg_2_head ∷ []) 0 0 (Done [] 0 0) k66

abbrev pub k68 : History
k68 = on job Append (seg_2 ∷ entry_1 ∷ []) 0 0 (Done [] 0 0) k67

abbrev pub k69 : History
k69 = on job Append (seg_2 ∷ entry_2 ∷ []) 0 0 (Done [] 0 0) k68

abbrev pub k70 : History
k70 = on job Sync (seg_2 ∷ []) 0 0 (Done [] 0 0) k69

abbrev pub k71 : History
k71 = on job Create (book_tmp ∷ []) 0 0 (Done [] 0 0) k70

abbrev pub k72 : History
k72 = on job Append (book_tmp ∷ book_bytes book_2 book_whole ∷ []) 0 0 (Done [] 0 0) k71

abbrev pub k73 : History
k73 = on job Sync (book_tmp ∷ []) 0 0 (Done [] 0 0) k72

abbrev pub k74 : History
k74 = on job Rename (book_tmp ∷ book_name ∷ []) 0 0 (Done [] 0 0) k73

abbrev pub k75 : History
k75 = on job Remove (done_sink ∷ []) 0 0 (Done [] 0 0) k74

abbrev pub k76 : History
k76 = on job Say (report 0 12 0 1 ∷ []) 0 0 (Done [] 0 0) k75

-- the job splits the archive into records
abbrev pub k77 : History
k77 = on job Create (demux_seg ∷ []) 0 0 (Done [] 0 0) k76

abbrev pub k78 : History
k78 = on job Append (demux_seg ∷ seg_head ∷ []) 0 0 (Done [] 0 0) k77

abbrev pub k79 : History
k79 = on job Append (demux_seg ∷ entry_1 ∷ []) 0 0 (Done [] 0 0) k78

abbrev pub k80 : History
k80 = on job Append (demux_seg ∷ entry_2 ∷ []) 0 0 (Done [] 0 0) k79

abbrev pub k81 : History
k81 = on job Sync (demux_seg ∷ []) 0 0 (Done [] 0 0) k80

abbrev pub k82 : History
k82 = on job Create (demux_tmp ∷ []) 0 0 (Done [] 0 0) k81

abbrev pub k83 : History
k83 = on job Append (demux_tmp ∷ book_bytes book_2 book_demux ∷ []) 0 0 (Done [] 0 0) k82

abbrev pub k84 : History
k84 = on job Sync (demux_tmp ∷ []) 0 0 (Done [] 0 0) k83

abbrev pub k85 : History
k85 = on job Rename (demux_tmp ∷ demux_book ∷ []) 0 0 (Done [] 0 0) k84

-- the job's second listing in it
abbrev pub run_2 : Listing
run_2 = record { names = listed_2; upto = k65 }

-- ---- what it is there for

pub record LongRoundHolds : Type 0 where
  pub legal : Legal [] k85
  -- the generation of the first chunk is deleted, and the line stands behind it; the log still has its bytes
  pub line : line_of (files_after k35) stream ≡ Some past_8
  pub rotated : (logs_after k35 path).rotated ≡ record { suffix = day_8; bytes = hello; deleted = true } ∷ []
  pub start : start_of k35 stream ≡ 5
  pub log : log_of k35 stream ≡ hello ++ world
  -- a reader stands there and is given the rest, of which a chunk can be made
  pub reads_on : ReadsOn k35 stream past_8
  pub given : AtLogRead (Done (world ∷ []) 0 0) 0 131072 (read_from (Past (Some day_8)) (logs_after k35 path))
  pub chunk_stands : ChunkStands k36 second_chunk
  -- the chunk past the gap is set aside, its sink is gone, and nothing is archived
  pub aside : aside_chunks (files_after k62) ≡ second_chunk ∷ []
  pub gone : IsGone k62 stem_2
  pub none_archived : archive_of_stream (files_after k62) stream ≡ []
  -- later both chunks are archived, by a run that is complete: more than the checkpoint had passed
  pub archived : archive_of_stream (files_after k76) stream ≡ hello ++ world
  pub none_aside : aside_chunks (files_after k76) ≡ []
  pub complete : IsComplete k76 run_2
  pub passed : checkpoint_of (files_after k65) stream ≡ 11
  pub end : archived_end k76 stream ≡ 17
  -- the records are the archive's lines
  pub records : demuxed_records (files_after k85) stream
      ≡ record { bytes = hello; end = 11 } ∷ record { bytes = world; end = 17 } ∷ []
  pub are_split : demuxed_records (files_after k85) stream ≡ split [] stream 5 (archive_of_stream (files_after k85) stream)
