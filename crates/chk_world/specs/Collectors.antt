-- What a collector may do next.
use Rattle.std.specs.Prelude.{◌≡◌, ◌⊎◌, ℕ, ◌+◌, ◌≤◌, Bool, true, false, ◌&&◌, ◌||◌, not, ◌==◌, MatchBool, List, [], ◌∷◌, ◌++◌, length, map, find, Contains, Option, Some, None, if◌then◌else◌}
use Rattle.std.specs.List.{list_any}
use Rattle.chk_bytes.specs.Numbers.{spelled}
use Rattle.chk_bytes.specs.Stems.{Stem, stem_text, same_stem}
use Rattle.chk_site.specs.declared.acts.Who.{Who}
use Rattle.chk_site.specs.declared.acts.CallFault.TheVariants.{Failed, Missing}
use Rattle.chk_site.specs.declared.acts.ActAnswer.{ActAnswer}
use Rattle.chk_site.specs.declared.acts.ActAnswer.TheVariants.{Done, Refused, Stopped}
use Rattle.chk_site.specs.Files.{File, Files}
use Rattle.chk_site.specs.Acts.{Deed, Starts, Creates, Appends, Syncs, Renames, Removes, Cuts, AsksSize, Reads, Takes, TakesMore, Answers, deed, is_done}
use Rattle.chk_site.specs.History.{Step, History, files_after, is_by, took_effect}
use Rattle.chk_seqfile.specs.Headers.{header, marker_of}
use Rattle.chk_seqfile.specs.Entries.{sync_entry, record_entry, piece_at, sync_after}
use Rattle.chk_chunk.specs.Keys.{Chunk, IsKey}
use Rattle.chk_http_grammar.specs.Messages.{Ack, IsPostOf, PollRequest, IsReply, acks_text}
use Rattle.chk_world.specs.Names.{Name, BornFile, SinkFile, MarkFile, DoneFile, Temporary, read, file, stop_names}
use Rattle.chk_world.specs.Committed.{OnFile, HasFile, IsAbsent, IsNumber, number_in, committed_length}

-- an append to a sink that was done: the piece, and where it ended
pub record Appended : Type 0 where
  pub stem : Stem
  pub piece : List ℕ
  pub end : ℕ

-- a message that a collector took: what it has got of it, and what it has done since
pub record Handling : Type 0 where
  pub taking : ℕ
  pub bytes : List ℕ
  -- it was answered
  pub answered : Bool
  -- the collector has taken no other message since
  pub newest : Bool
  -- it has made a sync since
  pub synced : Bool
  -- its appends to sinks since that were done, in order
  pub appends : List Appended

-- the sink that a collector created last, while all that it did for it was done; and where its header or
-- last sync entry ends
pub record Current : Type 0 where
  pub stem : Stem
  pub sync_end : ℕ

-- what a collector's rules look back to: since its start the number that it published, how many sinks it
-- created, and the sink that it may still append to; and the messages that it ever took, the newest first
pub record View : Type 0 where
  pub born : Option ℕ
  pub made : ℕ
  pub current : Option Current
  pub handled : List Handling

-- since the start nothing has been done yet
abbrev pub new_view : List Handling → View
new_view handled = record { born = None; made = 0; current = None; handled = handled }

-- the stem of a sink under writing
abbrev pub sink_of : Name → Option Stem
sink_of (SinkFile x) = Some x
sink_of n = None

-- the sink, of a file by which a mark is replaced
abbrev pub next_mark_of : Name → Option Stem
next_mark_of (Temporary (MarkFile x)) = Some x
next_mark_of n = None

-- the stem of a mark
abbrev pub mark_of : Name → Option Stem
mark_of (MarkFile x) = Some x
mark_of n = None

-- the first of the two that is there
abbrev pub either : Option Stem → Option Stem → Option Stem
either None y = y
either (Some x) y = Some x

-- the sink that a call works on, itself or by its mark's replacement. Its creation and its appends are told apart
abbrev pub concern : Deed → Option Stem
concern (Creates w) = next_mark_of (read w)
concern (Appends w piece) = next_mark_of (read w)
concern (Syncs w) = either (sink_of (read w)) (next_mark_of (read w))
concern (Renames old new) = mark_of (read new)
concern (Removes w) = next_mark_of (read w)
concern (Cuts w n) = sink_of (read w)
concern call = None

-- the call found no file
abbrev pub is_missing : ActAnswer → Bool
is_missing (Refused Missing) = true
is_missing answer = false

-- the answer is one after which the sink may still be appended to
abbrev pub went_well : Deed → ActAnswer → Bool
went_well (Removes w) answer = is_done answer || is_missing answer
went_well (Cuts w n) answer = false
went_well call answer = is_done answer

-- the current sink, unless something for it went wrong
abbrev pub still : Bool → Option Stem → Option Current → Option Current
still well None current = current
still well (Some y) None = None
still well (Some y) (Some cur) = if well || not (same_stem cur.stem y) then Some cur else None

-- where the header or the last sync entry ends, after a piece was appended to so many bytes
abbrev pub sync_end_after : ℕ → List ℕ → ℕ → ℕ
sync_end_after size piece end = if size == 0 then length piece else sync_after size end

-- the length of a file, or 0
abbrev pub size_in : Option File → ℕ
size_in None = 0
size_in (Some f) = length f.bytes

-- the current sink after an append to this one
abbrev pub appended_to : Option Stem → Bool → ℕ → List ℕ → Option Current → Option Current
appended_to None well size piece current = current
appended_to (Some y) well size piece None = None
appended_to (Some y) well size piece (Some cur) =
    if same_stem cur.stem y
    then (if well then Some (record { stem = cur.stem; sync_end = sync_end_after size piece cur.sync_end }) else None)
    else Some cur

-- the current sink after the creation of this one
abbrev pub created : Option Stem → Bool → Option Current → Option Current
created None well current = current
created (Some y) well current = if well then Some (record { stem = y; sync_end = 0 }) else None

-- the current sink after a call
abbrev pub current_after : Deed → ActAnswer → Files → Option Current → Option Current
current_after (Creates w) answer before current =
    created (sink_of (read w)) (is_done answer) (still (is_done answer) (next_mark_of (read w)) current)
current_after (Appends w piece) answer before current =
    appended_to (sink_of (read w)) (is_done answer) (size_in (before w)) piece
    (still (is_done answer) (next_mark_of (read w)) current)
current_after call answer before current = still (went_well call answer) (concern call) current

-- the name is that of a number of starts
abbrev pub is_born_file : Name → Bool
is_born_file (BornFile c) = true
is_born_file n = false

-- the published number after a call
abbrev pub born_after : Files → Files → Deed → Option ℕ → Option ℕ
born_after before after (Renames old new) born =
    if is_born_file (read new) && took_effect before after old then Some (number_in (after new)) else born
born_after before after call born = born

-- one more, where a sink was created
abbrev pub made_by : Option Stem → ℕ → ℕ
made_by None made = made
made_by (Some x) made = made + 1

-- the count of created sinks after a call
abbrev pub made_after : Deed → ℕ → ℕ
made_after (Creates w) made = made_by (sink_of (read w)) made
made_after call made = made

-- a message as it was taken
abbrev pub begun : ℕ → List ℕ → Handling
begun t bytes = record { taking = t; bytes = bytes; answered = false; newest = true; synced = false; appends = [] }

-- another message was taken
abbrev pub no_more_newest : Handling → Handling
no_more_newest h = record {
  taking = h.taking;
  bytes = h.bytes;
  answered = h.answered;
  newest = false;
  synced = h.synced;
  appends = h.appends;
}

-- a further piece of it was taken, where it is this one
abbrev pub with_bytes : ℕ → List ℕ → Handling → Handling
with_bytes t more h = record {
  taking = h.taking;
  bytes = if h.taking == t then h.bytes ++ more else h.bytes;
  answered = h.answered;
  newest = h.newest;
  synced = h.synced;
  appends = h.appends;
}

-- it was answered, where it is this one
abbrev pub with_answer : ℕ → Handling → Handling
with_answer t h = record {
  taking = h.taking;
  bytes = h.bytes;
  answered = h.taking == t || h.answered;
  newest = h.newest;
  synced = h.synced;
  appends = h.appends;
}

-- a sync was made
abbrev pub with_sync : Handling → Handling
with_sync h = record {
  taking = h.taking;
  bytes = h.bytes;
  answered = h.answered;
  newest = h.newest;
  synced = true;
  appends = h.appends;
}

-- these appends were done
abbrev pub with_appends : List Appended → Handling → Handling
with_appends appends h = record {
  taking = h.taking;
  bytes = h.bytes;
  answered = h.answered;
  newest = h.newest;
  synced = h.synced;
  appends = h.appends ++ appends;
}

-- an append, where it is to a sink
abbrev pub appended_at : Name → List ℕ → ℕ → List Appended
appended_at (SinkFile x) piece end = record { stem = x; piece = piece; end = end } ∷ []
appended_at n piece end = []

-- the messages that the collector took, after an act of its own
abbrev pub handled_after : Deed → ActAnswer → Files → List Handling → List Handling
handled_after (Takes door wait) (Done (bytes ∷ words) number of) after hs = begun number bytes ∷ map no_more_newest hs
handled_after (TakesMore t) (Done (bytes ∷ words) number of) after hs = map (with_bytes t bytes) hs
handled_after (Answers t bytes) answer after hs = map (with_answer t) hs
handled_after (Syncs w) answer after hs = map with_sync hs
handled_after (Appends w piece) (Done words number of) after hs =
    map (with_appends (appended_at (read w) piece (size_in (after w)))) hs
handled_after call answer after hs = hs

-- the view after a step of the collector itself
abbrev pub own_view : Files → Files → View → Deed → ActAnswer → View
own_view before after v Starts answer = new_view v.handled
own_view before after v call answer = record {
  born = born_after before after call v.born;
  made = made_after call v.made;
  current = current_after call answer before v.current;
  handled = handled_after call answer after v.handled;
}

-- a stop of the collector, or one that names a file of it, ends all but the messages that it took
abbrev pub view_after : Who → Bool → Deed → ActAnswer → Files → Files → View → View
view_after who own call (Stopped left) before after v =
    if own then new_view (handled_after call (Stopped left) after v.handled)
    else if stop_names who left then new_view v.handled else v
view_after who own call answer before after v = if own then own_view before after v call answer else v

-- the view of a collector
abbrev pub view : Who → History → View
view who [] = new_view []
view who (step ∷ history) =
    view_after who (is_by who step) (deed step.act) step.act.answer (files_after history) step.files (view who history)

-- the message of this taking, where the collector took it
abbrev pub handling_of : ℕ → List Handling → Option Handling
handling_of t hs = find (λ h. h.taking == t) hs

-- the chunk is one of a post that the collector has taken and not yet answered
pub record IsPosted (handled : List Handling) (c : Chunk) : Type 0 where
  pub message : Handling
  pub taken : Contains handled message
  pub open_yet : message.answered ≡ false
  pub chunks : List Chunk
  pub post : IsPostOf chunks message.bytes
  pub one : Contains chunks c

-- the bytes are a record of this chunk
abbrev pub IsRecordOf : Chunk → List ℕ → Type 0
IsRecordOf c bytes = (key : List ℕ) × IsKey c.key key × (bytes ≡ record_entry key c.value)

-- the marker of a sink's header
abbrev pub marker : Stem → List ℕ
marker x = marker_of (stem_text x)

-- the piece that may be appended next: the header, or a record of a posted chunk, behind a sync entry where one is due
abbrev pub IsNextPiece : List Handling → Current → ℕ → List ℕ → Type 0
IsNextPiece handled cur size piece =
    MatchBool (size == 0) (piece ≡ header (marker cur.stem))
    ((c : Chunk)
    × (key : List ℕ)
    × IsPosted handled c
    × IsKey c.key key
    × (piece ≡ piece_at (marker cur.stem) size cur.sync_end key c.value))

-- the sink is the one that the collector may still append to
abbrev pub IsCurrent : Option Current → Stem → (Current → Type 0) → Type 0
IsCurrent None y P = ⊥
IsCurrent (Some cur) y P = (cur.stem ≡ y) × P cur

-- all of it is synced, and this length is all of it
abbrev pub IsCommitted : ℕ → File → Type 0
IsCommitted n f = (length f.bytes ≡ n) × (f.synced ≡ n)

-- sinks have fresh names: this start's number, and one more than it has created
abbrev pub SinkNamesFresh : View → Name → Type 0
SinkNamesFresh v (SinkFile y) = (v.born ≡ Some y.born) × (y.number ≡ v.made + 1)
SinkNamesFresh v (Temporary n) = Unit {0}
SinkNamesFresh v n = ⊥

-- only the last sink is appended to, and only while all that was done for it was done
abbrev pub AppendsOnlyToCleanSink : View → Files → Name → List ℕ → Type 0
AppendsOnlyToCleanSink v before (SinkFile y) piece =
    HasFile (file before (SinkFile y))
    (λ f. IsCurrent v.current y (λ cur. IsNextPiece v.handled cur (length f.bytes) piece))
AppendsOnlyToCleanSink v before (Temporary n) piece = Unit {0}
AppendsOnlyToCleanSink v before n piece = ⊥

-- `born` is published once since the start, one more than before
abbrev pub BornPublishedOnce : View → Files → List ℕ → List ℕ → Type 0
BornPublishedOnce v before c d =
    (c ≡ d) × (v.born ≡ None)
    × OnFile (file before (Temporary (BornFile c)))
    (λ f. IsNumber f × (spelled f.bytes ≡ number_in (file before (BornFile d)) + 1))

-- a mark is the length and the synced length of the sink that may still be appended to
abbrev pub MarkIsSyncedLength : View → Files → Stem → Stem → Type 0
MarkIsSyncedLength v before x y =
    (x ≡ y)
    × OnFile (file before (Temporary (MarkFile x))) (λ f. IsNumber f × (96 ≤ spelled f.bytes)
    × HasFile (file before (SinkFile y))
    (λ g. IsCommitted (spelled f.bytes) g × IsCurrent v.current y (λ cur. Unit {0})))

-- a sink is done only at its mark
abbrev pub DoneAtItsMark : Files → Stem → Stem → Type 0
DoneAtItsMark before x y =
    (x ≡ y)
    × OnFile (file before (SinkFile x)) (λ f. HasFile (file before (MarkFile x)) (λ m. IsCommitted (spelled m.bytes) f))

-- which renames a collector makes
abbrev pub MayRename : View → Files → Name → Name → Type 0
MayRename v before (Temporary (BornFile c)) (BornFile d) = BornPublishedOnce v before c d
MayRename v before (Temporary (MarkFile x)) (MarkFile y) = MarkIsSyncedLength v before x y
MayRename v before (SinkFile x) (DoneFile y) = DoneAtItsMark before x y
MayRename v before (Temporary n) (Temporary m) = Unit {0}
MayRename v before old new = ⊥

-- a sink is removed only without a mark, and a mark only without its sink
abbrev pub MayRemove : Files → Name → Type 0
MayRemove before (SinkFile y) = IsAbsent (file before (MarkFile y))
MayRemove before (MarkFile y) = IsAbsent (file before (SinkFile y))
MayRemove before (Temporary n) = Unit {0}
MayRemove before n = ⊥

-- a sink is cut only to its mark
abbrev pub MayCut : Files → Name → ℕ → Type 0
MayCut before (SinkFile y) n = HasFile (file before (MarkFile y)) (λ m. spelled m.bytes ≡ n)
MayCut before (Temporary n) k = Unit {0}
MayCut before n k = ⊥

-- the line says where this append wrote the chunk's record
pub record Tells (c : Chunk) (a : Ack) (w : Appended) : Type 0 where
  pub stem : a.stem ≡ w.stem
  pub end : a.number ≡ w.end
  pub entry : List ℕ
  pub is : IsRecordOf c entry
  pub piece : (w.piece ≡ entry) ⊎ (w.piece ≡ sync_entry (marker w.stem) ++ entry)

-- one line for each chunk, each of an append of its own, in order
abbrev pub TellAll : List Chunk → List Ack → List Appended → Type 0
TellAll [] [] appends = Unit {0}
TellAll (c ∷ cs) (a ∷ acks) (w ∷ appends) =
    (Tells c a w × TellAll cs acks appends) ⊎ TellAll (c ∷ cs) (a ∷ acks) appends
TellAll chunks acks appends = ⊥

-- the call gave a message under this number
abbrev pub gave : ℕ → Deed → ActAnswer → Bool
gave t (Takes door wait) (Done (bytes ∷ words) number of) = number == t
gave t call answer = false

-- the step is the process's taking of this number
abbrev pub is_taking : Who → ℕ → Step → Bool
is_taking who t step = is_by who step && gave t (deed step.act) step.act.answer

-- it holds of some front of the history that ends at or behind the taking
abbrev pub SinceTaking : Who → ℕ → (History → Type 0) → History → Type 0
SinceTaking who t P [] = ⊥
SinceTaking who t P (step ∷ history) =
    P (step ∷ history) ⊎ MatchBool (is_taking who t step) ⊥ (SinceTaking who t P history)

-- the file is one of the sink's: itself, done, its mark, or its mark's next content
abbrev pub is_file_of : Stem → Name → Bool
is_file_of x (SinkFile y) = same_stem x y
is_file_of x (DoneFile y) = same_stem x y
is_file_of x (MarkFile y) = same_stem x y
is_file_of x (Temporary n) = is_file_of x n
is_file_of x n = false

-- the call asks for a change of the sink's files
abbrev pub changes_sink : Stem → Deed → Bool
changes_sink x (Creates w) = is_file_of x (read w)
changes_sink x (Appends w piece) = is_file_of x (read w)
changes_sink x (Syncs w) = is_file_of x (read w)
changes_sink x (Renames old new) = is_file_of x (read old) || is_file_of x (read new)
changes_sink x (Removes w) = is_file_of x (read w)
changes_sink x (Cuts w n) = is_file_of x (read w)
changes_sink x call = false

-- the call names one of the sink's files
abbrev pub names_sink : Stem → Deed → Bool
names_sink x (AsksSize w) = is_file_of x (read w)
names_sink x (Reads w at max) = is_file_of x (read w)
names_sink x call = changes_sink x call

-- a stop names one of the sink's files
abbrev pub stop_names_sink : Stem → ActAnswer → Bool
stop_names_sink x (Stopped left) = list_any (λ l. is_file_of x (read l.name)) left
stop_names_sink x answer = false

-- the call was refused for the state of the files, and so changed nothing
abbrev pub was_refused : ActAnswer → Bool
was_refused (Refused Failed) = false
was_refused (Refused fault) = true
was_refused answer = false

-- the step leaves the sink alone: of others it doesn't name its files, and of the process itself it changes none
abbrev pub leaves_sink : Who → Stem → Step → Bool
leaves_sink who x step =
    not (stop_names_sink x step.act.answer)
    && not
    (if is_by who step then changes_sink x (deed step.act) && not (was_refused step.act.answer)
    else names_sink x (deed step.act))

-- since the taking no other process named a file of the sink, and the process itself changed none
abbrev pub is_quiet : Who → Stem → ℕ → History → Bool
is_quiet who x t [] = true
is_quiet who x t (step ∷ history) =
    if is_taking who t step then true else leaves_sink who x step && is_quiet who x t history

-- the number is at most the committed length at some moment since the taking, and just that where nobody
-- touched the sink
pub record IsCommittedLength (who : Who) (history : History) (t : ℕ) (a : Ack) : Type 0 where
  pub at_most : SinceTaking who t (λ front. a.number ≤ committed_length (files_after front) a.stem) history
  pub just : is_quiet who a.stem t history ≡ true → a.number ≡ committed_length (files_after history) a.stem

-- one line for each asked stem, in order
abbrev pub CommittedLengths : Who → History → ℕ → List Stem → List Ack → Type 0
CommittedLengths who history t [] [] = Unit {0}
CommittedLengths who history t (x ∷ stems) (a ∷ acks) =
    (a.stem ≡ x) × IsCommittedLength who history t a × CommittedLengths who history t stems acks
CommittedLengths who history t stems acks = ⊥

-- a 200 to a post: it is the last message taken, not yet answered, and each line is of an append since
pub record PostAnswerNamesAppends (h : Handling) (acks : List Ack) : Type 0 where
  pub newest : h.newest ≡ true
  pub open_yet : h.answered ≡ false
  pub chunks : List Chunk
  pub post : IsPostOf chunks h.bytes
  pub lines : TellAll chunks acks h.appends

-- a 200 to a poll
pub record PollAnswerIsCommitted (who : Who) (history : History) (h : Handling) (acks : List Ack) : Type 0 where
  pub stems : List Stem
  pub poll : PollRequest stems h.bytes
  pub lines : CommittedLengths who history h.taking stems acks

-- a good reply to this message
abbrev pub GoodAnswer : Who → History → Option Handling → List Ack → Type 0
GoodAnswer who history None acks = ⊥
GoodAnswer who history (Some h) acks = PostAnswerNamesAppends h acks ⊎ PollAnswerIsCommitted who history h acks

-- an answer that reads as a 200 has lines, and is one to a post or to a poll
abbrev pub AnswersWell : Who → History → Option Handling → List ℕ → Type 0
AnswersWell who history h bytes =
    (body : List ℕ) → IsReply 200 body bytes
    → (acks : List Ack) × (body ≡ acks_text acks) × GoodAnswer who history h acks

-- between a taking and its answer there is no sync
abbrev pub NoSyncBeforeAnswer : Option Handling → Type 0
NoSyncBeforeAnswer None = Unit {0}
NoSyncBeforeAnswer (Some h) = h.synced ≡ false

-- what a collector may do next
abbrev pub CollectorRule : Who → History → View → Deed → Type 0
CollectorRule who history v (Creates w) = SinkNamesFresh v (read w)
CollectorRule who history v (Appends w piece) = AppendsOnlyToCleanSink v (files_after history) (read w) piece
CollectorRule who history v (Renames old new) = MayRename v (files_after history) (read old) (read new)
CollectorRule who history v (Removes w) = MayRemove (files_after history) (read w)
CollectorRule who history v (Cuts w n) = MayCut (files_after history) (read w) n
CollectorRule who history v (Answers t bytes) =
    NoSyncBeforeAnswer (handling_of t v.handled) × AnswersWell who history (handling_of t v.handled) bytes
CollectorRule who history v call = Unit {0}
