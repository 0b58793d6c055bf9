-- What a read of a log, the sending of a post, and what is got for it add to what an agent knows.
use Rattle.std.proofs.Common.{◌≡◌, inl, inr, ℕ, ◌+◌, ◌-◌, ◌≤◌, Bool, true, false, if◌then◌else◌, bytes_eq, List, [], ◌∷◌, length, take, min, Option, Some, None, Result, ap, sym, subst, ◌∙◌, refl, arith}
use Rattle.std.specs.Prelude.{IsTrue, Contains, Any, option_to_list, find}
use Rattle.std.proofs.lemmas.Bool.{and_parts}
use Rattle.std.proofs.lemmas.List.{length-take}
use Rattle.std.proofs.lemmas.Option.{same_Some}
use Rattle.chk_control.specs.Classes.{is_plain, breaks_lines}
use Rattle.chk_site.specs.declared.acts.Who.{Who}
use Rattle.chk_site.specs.declared.acts.Call.TheVariants.{LogRead, Send, Got}
use Rattle.chk_site.specs.declared.acts.CallFault.{CallFault}
use Rattle.chk_site.specs.declared.acts.OutsideFault.{OutsideFault}
use Rattle.chk_site.specs.declared.acts.ActAnswer.{ActAnswer}
use Rattle.chk_site.specs.declared.acts.ActAnswer.TheVariants.{Done}
use Rattle.chk_site.specs.declared.suffixes.Piece.{Piece}
use Rattle.chk_site.specs.Files.{Files}
use Rattle.chk_site.specs.CutLaws.{TakesToStop}
use Rattle.chk_site.specs.Logs.{TheBase, Past, Shown, Logs, part_of, read_from}
use Rattle.chk_site.specs.Acts.{Sends}
use Rattle.chk_site.specs.History.{Step, History, files_after, logs_after, since_start}
use Rattle.chk_site.specs.Honest.{AtLogRead, Gives}
use Rattle.chk_site.specs.Site.{Adds, Asked, asked, own_step, answered, Calls, CallsSome, Ends, IsTaken, Took, piece_given, bytes_given, sized}
use Rattle.chk_site.specs.Runs.{Leads}
use Rattle.chk_chunk.specs.Keys.{Stream, Chunk}
use Rattle.chk_http_grammar.specs.Messages.{WrittenPost}
use Rattle.chk_world.specs.Names.{is_source}
use Rattle.chk_world.specs.Checkpoints.{Line, checkpoint_lines, is_line_of, line_of}
use Rattle.chk_world.specs.Streams.{start_of, start_at, IsTruePlace}
use Rattle.chk_world.specs.Agents.{IsAtOrPast, ReadsFromCheckpoint, SendsPoll, Sent, GotFor, stream_of}
use Rattle.chk_world.specs.Rules.{Legal}
use Rattle.chk_world.specs.Places.{As, Talking}
use Rattle.chk_world.specs.Standing.{Stands}
use Rattle.chk_world.specs.Reading.{part_for, IsAtOrBehind, IsPlacePast, moved, passed, ReadsOn, ChunkStands}
use Rattle.chk_world.specs.Knowing.{agent, Grows, Both, Knows, Told, AfterRead}
use Rattle.chk_world.proofs.Ends.{bytes_same}
use Rattle.chk_world.proofs.CheckpointsMove.{found}
use Rattle.chk_world.proofs.LogsGrow.{is_founded}
use Rattle.chk_world.proofs.StaysTrue.{has_room}
use Rattle.chk_world.proofs.ToldCalls.{told_some}
use Rattle.chk_world.proofs.AgentKnows.{agent_took, agent_ends, own_first}
use Rattle.chk_world.proofs.AgentFacts.{may_send}
use Rattle.chk_world.proofs.LinesStand.{stands_on}
use Rattle.chk_world.proofs.LinesRead.{reads_give_log, chunk_of_read, chunk_on}

-- what was given, where something was
abbrev pub Gained : {V : Type 0} → (V → History → Type 0) → Option V → History → Type 0
Gained G (Some value) history = G value history
Gained G None history = Unit {0}

-- the start of a line is the stream's
pub start_is : (stamped : List (List ℕ)) (history : History) → Legal stamped history → (s : Stream)
    → IsTrue (is_source s.source)
    → (k : Line) → line_of (files_after history) s ≡ Some k → (l : Line) → Stands history s l
    → start_of history s ≡ k.start
start_is stamped history legal s known k there l h =
    let b = is_founded stamped history legal s known h.first h.founded in
    ap start_at h.founded ∙ (b.start ∙ ap (λ (l : Line). l.start) (same_Some b.line k (sym b.there ∙ there)))

-- a read at a place at or past the line is at or past it, where the place is a true one
pub may_read_at : (history : History) (s : Stream) (l line : Line) → IsTruePlace history s l
    → (plain : Bool)
    → IsPlacePast (if plain then TheBase else Past l.after) l line
    → IsAtOrPast history s (if plain then TheBase else Past l.after) (l.offset - l.first) line
may_read_at history s l line place true h = h
may_read_at history s l line place false h =
    let first = place.first in
    let on = place.on in
    let past = h.2 in
    (h.0, h.1, omega (arith, first, on, past))

-- The reader's place l, by the line k of its stream: it is at or past that.
pub record IsReaderOf (source : List ℕ) (lines : List Line) (l : Line) : Type 0 where
  pub line : Line
  pub one : Contains lines line
  pub there : find (is_line_of (stream_of source l)) lines ≡ Some line
  pub path : line.path ≡ l.path
  pub class : line.class ≡ l.class
  pub start : line.start ≡ l.start
  pub behind : IsAtOrBehind line.after l.after
  pub past : IsPlacePast (part_for l.class l.after) l line

module _ (stamped : List (List ℕ)) (source : List ℕ) (known : IsTrue (is_source source))
    (cluster : List ℕ) (lines : List Line)
    (F : History → Type 0) (grows : Grows stamped (agent source) F) where
  abbrev Me : Who
  Me = agent source

  -- ---- a read

  module _ (l : Line) (reader : IsReaderOf source lines l)
      (stands : (h : History) → F h → Stands h (stream_of source l) l)
      (text : List ℕ) (part_is : part_of text ≡ part_for l.class l.after) (max : ℕ) where
    abbrev S : Stream
    S = stream_of source l

    abbrev Reading : Asked
    Reading = asked Me LogRead (l.path ∷ text ∷ []) (l.offset - l.first) max

    found_line : (h : History) → Knows source cluster lines F h
        → line_of (files_after h) S ≡ Some reader.line
    found_line h k = ap (find (is_line_of S)) k.lines_are ∙ reader.there

    reads_on : (h : History) → Knows source cluster lines F h → ReadsOn h S l
    reads_on h k = record {
      line = reader.line;
      there = found_line h k;
      class = reader.class;
      behind = reader.behind;
      stands = stands h k.holds;
    }

    may_read : (before : History) → Knows source cluster lines F before
        → ReadsFromCheckpoint Me before l.path (part_of text) (l.offset - l.first)
    may_read before k =
        let kind : reader.line.kind ≡ l.kind =
        sym (bytes_same l.kind reader.line.kind
        (and_parts (bytes_eq l.kind reader.line.kind) (bytes_eq l.path reader.line.path) (found (is_line_of S) lines reader.line reader.there).passes).0) in
        let stream_is : stream_of source reader.line ≡ S =
        λ i. record { source = source; kind = kind i; name = reader.path i } in
        subst (λ p. ReadsFromCheckpoint Me before l.path p (l.offset - l.first)) (sym part_is)
        (subst (λ ls. Any (λ m. (m.path ≡ l.path)
        × IsAtOrPast before (stream_of source m) (part_for l.class l.after) (l.offset - l.first) m) ls) (sym k.lines_are) (
          reader.one.0,
          reader.line,
          reader.one.1,
          reader.one.2,
          (
            reader.path,
            subst (λ s. IsAtOrPast before s (part_for l.class l.after) (l.offset - l.first) reader.line) (sym stream_is)
                (may_read_at before S l reader.line (stands before k.holds).place (is_plain l.class) reader.past),
          ),
        ))

    -- a read that ended the work adds nothing
    pub read_ends : (given : Result Piece CallFault) (fault : OutsideFault)
        {old new : Option History}
        → Ends LogRead given fault
        → Adds old new (Calls Reading (answered piece_given given))
        → Adds old new (Leads (As stamped Me) (Told stamped source cluster lines F) (Told stamped source cluster lines F))
    read_ends given fault ends call =
        agent_ends stamped source known cluster lines F grows Reading refl (λ answer files logs. refl) (λ answer files logs. tt) piece_given given fault
        (λ before answer files logs legal k. may_read before k) ends call

    module _ (piece : Piece) (n : ℕ) (short : n ≤ length piece.bytes)
        (stop : TakesToStop (breaks_lines l.class) max piece n) where
      words_bytes : (p : List ℕ) (ends : List (List ℕ))
          → piece.bytes ∷ option_to_list piece.ended ≡ p ∷ ends
          → (p ≡ piece.bytes) × (ends ≡ option_to_list piece.ended)
      words_bytes p ends e = (sym (heads e), sym (tails e))
        where
          heads : {xs ys : List (List ℕ)} {x y : List ℕ} → x ∷ xs ≡ y ∷ ys → x ≡ y
          heads e = cc

          tails : {xs ys : List (List ℕ)} {x y : List ℕ} → x ∷ xs ≡ y ∷ ys → xs ≡ ys
          tails e = cc

      ended_one : (o : Option (List ℕ)) (ends : List (List ℕ)) → ends ≡ option_to_list o
          → (suffix : List ℕ) → o ≡ Some suffix → Contains ends suffix
      ended_one None ends e suffix is = absurd (cc)
      ended_one (Some x) ends e suffix is = subst (λ es. Contains es suffix) (sym e) (0, omega arith, same_Some x suffix is)

      after_read : (before : History) (step : Step) → Legal stamped (step ∷ before)
          → Knows source cluster lines F before
          → AtLogRead (Done (piece.bytes ∷ option_to_list piece.ended) 0 0) (l.offset - l.first) max
          (read_from (part_for l.class l.after) (logs_after before S.name))
          → AfterRead S l piece n (step ∷ before)
      after_read before step legal k at_read =
          let g : Shown = read_from (part_for l.class l.after) (logs_after before S.name) in
          let r = reads_give_log stamped before legal.0 S known l (reads_on before k) max (piece.bytes ∷ option_to_list piece.ended) 0 0 at_read in
          let w = words_bytes r.piece r.ends r.words_are in
          let size : length r.piece ≡ length piece.bytes = ap length w.0 in
          let at_stop = stop g (l.offset - l.first) r.from at_read in
          let here : Stands before S (moved l n) = r.stops n (omega (arith, short, size)) at_stop in
          let start = start_is stamped before legal.0 S known reader.line (found_line before k) l (stands before k.holds) in
          record {
            place = stands_on stamped before step legal S known (moved l n) here;
            chunk = λ c valid from.
                let room = has_room c valid in
                let taken_size : length (take n piece.bytes) ≡ n =
                length-take n piece.bytes ∙ (let z : min n (length piece.bytes) ≡ n = omega (arith, short) in z) in
                let value_size : length c.value ≡ n = ap length from.value_is ∙ taken_size in
                let some = room.some in
                chunk_on stamped before step legal c (subst (λ (t : Stream). IsTrue (is_source t.source)) (sym from.stream) known) valid
                (chunk_of_read before S l g (piece.bytes ∷ option_to_list piece.ended) (stands before k.holds) r c from.stream
                (from.start ∙ (sym reader.start ∙ sym start)) n (omega (arith, some, value_size)) (omega (arith, short, size))
                (from.value_is ∙ ap (take n) (sym w.0)) (from.seq ∙ ap (λ k. l.offset + k) taken_size) here);
            end = λ suffix is.
                subst (λ k. Stands (step ∷ before) S (passed l suffix k)) size
                (stands_on stamped before step legal S known (passed l suffix (length r.piece))
                (r.passes suffix (ended_one piece.ended r.ends w.1 suffix is)));
          }

    -- the read adds that the place behind what is taken stands, and each chunk of that
    pub read_told : (given : Result Piece CallFault) (taken : Option Piece) (count : Piece → ℕ)
        → ((piece : Piece) → taken ≡ Some piece → (count piece ≤ length piece.bytes) × TakesToStop (breaks_lines l.class) max piece (count piece))
        → {old new : Option History} → IsTaken given taken
        → Adds old new (Calls Reading (answered piece_given given))
        → Adds old new (Leads (As stamped Me) (Told stamped source cluster lines F)
        (Told stamped source cluster lines (Both F (Gained (λ piece h. AfterRead S l piece (count piece) h) taken))))
    read_told given taken count counts is call =
        agent_took stamped source known cluster lines F grows Reading refl (λ answer files logs. refl) (λ answer files logs. tt)
        (Gained (λ piece h. AfterRead S l piece (count piece) h) taken) piece_given given taken
        (λ before answer files logs legal k. may_read before k) (λ piece. tt)
        (λ before answer files logs took legal k. gains taken counts before answer files logs took legal k) is call
      where
        gains : (taken : Option Piece)
            → ((piece : Piece) → taken ≡ Some piece → (count piece ≤ length piece.bytes) × TakesToStop (breaks_lines l.class) max piece (count piece))
            → (before : History) (answer : ActAnswer) (files : Files) (logs : Logs)
            → Took piece_given taken answer
            → Legal stamped (own_step Reading answer files logs ∷ before)
            → Knows source cluster lines F before
            → Gained (λ piece h. AfterRead S l piece (count piece) h) taken (own_step Reading answer files logs ∷ before)
        gains None counts before answer files logs took legal k = tt
        gains (Some piece) counts before answer files logs took legal k =
            let c = counts piece refl in
            after_read piece (count piece) c.0 c.1 before (own_step Reading answer files logs) legal k
            (subst (λ p. AtLogRead (Done (piece.bytes ∷ option_to_list piece.ended) 0 0) (l.offset - l.first) max (read_from p (logs_after before S.name)))
            part_is
            (subst (λ a. AtLogRead a (l.offset - l.first) max (read_from (part_of text) (logs_after before S.name))) took legal.1.honest.agrees))

  -- ---- what is sent and got

  module _ (address bytes : List ℕ) (n : ℕ) where
    abbrev Sending : Asked
    Sending = asked Me Send (address ∷ bytes ∷ []) n 0

    sent_now : (m : ℕ) (before : History) (answer : ActAnswer) (files : Files) (logs : Logs)
        → Took sized (Some m) answer
        → Legal stamped (own_step Sending answer files logs ∷ before)
        → Sent (since_start Me (own_step Sending answer files logs ∷ before)) m address bytes
    sent_now m before answer files logs took legal =
        let step = own_step Sending answer files logs in
        let number : m ≡ n =
        subst (λ a. Gives a (λ words number of. number ≡ n)) took legal.1.honest.agrees.1 in
        subst (λ mine. Sent mine m address bytes) (sym (own_first Me before step refl refl))
        (record { step = step; one = (0, omega arith, refl); call = ap (λ k. Sends k address bytes) (sym number) })

  -- a post of chunks that stand, each of a line of the checkpoint, and all of the cluster
  pub post_told : (address bytes : List ℕ) (chunks : List Chunk) → WrittenPost address chunks bytes
      → ((c : Chunk) → Contains chunks c → c.key.cluster ≡ cluster)
      → ((c : Chunk) → Contains chunks c → (c.key.stream.source ≡ source) × ((k : Line) × (find (is_line_of c.key.stream) lines ≡ Some k)))
      → ((h : History) → F h → (c : Chunk) → Contains chunks c → ChunkStands h c)
      → (given : Result ℕ CallFault) (taken : Option ℕ) {old new : Option History}
      → IsTaken given taken
      → Adds old new (CallsSome (λ n. asked Me Send (address ∷ bytes ∷ []) n 0) (λ n. answered sized given))
      → Adds old new (Leads (Talking stamped Me) (Told stamped source cluster lines F)
      (Told stamped source cluster lines (Both F (Gained (λ m h. Sent (since_start Me h) m address bytes) taken))))
  post_told address bytes chunks written of_cluster of_line stand given taken is call =
      told_some (λ n. Sending address bytes n) (λ n. answered sized given)
      (λ n before after one.
      agent_took stamped source known cluster lines F grows (Sending address bytes n) refl (λ answer files logs. refl)
      (λ answer files logs. inl (chunks, written, of_cluster))
      (Gained (λ m h. Sent (since_start Me h) m address bytes) taken) sized given taken
      (λ before answer files logs legal k. inl (record {
        chunks = chunks;
        is_post = written;
        each = λ c one.
            let o = of_line c one in
            may_send Me before c o.1.0 o.0 (ap (find (is_line_of c.key.stream)) (ap (checkpoint_lines (files_after before)) o.0 ∙ k.lines_are) ∙ o.1.1)
            (stand before k.holds c one);
        cluster = cluster;
        here = of_cluster;
        before = k.one_cluster;
      })) (λ m. tt)
      (λ before answer files logs took legal k. gains n taken before answer files logs took legal) is one) call
    where
      gains : (n : ℕ) (taken : Option ℕ) (before : History) (answer : ActAnswer) (files : Files)
          (logs : Logs)
          → Took sized taken answer
          → Legal stamped (own_step (Sending address bytes n) answer files logs ∷ before)
          → Gained (λ m h. Sent (since_start Me h) m address bytes) taken (own_step (Sending address bytes n) answer files logs ∷ before)
      gains n None before answer files logs took legal = tt
      gains n (Some m) before answer files logs took legal = sent_now address bytes n m before answer files logs took legal

  -- a poll
  pub poll_told : (address bytes : List ℕ) → SendsPoll address bytes
      → (given : Result ℕ CallFault) (taken : Option ℕ) {old new : Option History}
      → IsTaken given taken
      → Adds old new (CallsSome (λ n. asked Me Send (address ∷ bytes ∷ []) n 0) (λ n. answered sized given))
      → Adds old new (Leads (Talking stamped Me) (Told stamped source cluster lines F)
      (Told stamped source cluster lines (Both F (Gained (λ m h. Sent (since_start Me h) m address bytes) taken))))
  poll_told address bytes poll given taken is call =
      told_some (λ n. Sending address bytes n) (λ n. answered sized given)
      (λ n before after one.
      agent_took stamped source known cluster lines F grows (Sending address bytes n) refl (λ answer files logs. refl)
      (λ answer files logs. inr poll)
      (Gained (λ m h. Sent (since_start Me h) m address bytes) taken) sized given taken
      (λ before answer files logs legal k. inr poll) (λ m. tt)
      (λ before answer files logs took legal k. gains n taken before answer files logs took legal) is one) call
    where
      gains : (n : ℕ) (taken : Option ℕ) (before : History) (answer : ActAnswer) (files : Files)
          (logs : Logs)
          → Took sized taken answer
          → Legal stamped (own_step (Sending address bytes n) answer files logs ∷ before)
          → Gained (λ m h. Sent (since_start Me h) m address bytes) taken (own_step (Sending address bytes n) answer files logs ∷ before)
      gains n None before answer files logs took legal = tt
      gains n (Some m) before answer files logs took legal = sent_now address bytes n m before answer files logs took legal

  -- what is got for a message
  pub got_told : (m : ℕ) (given : Result (List ℕ) CallFault) (taken : Option (List ℕ))
      {old new : Option History}
      → IsTaken given taken
      → Adds old new (Calls (asked Me Got [] m 0) (answered bytes_given given))
      → Adds old new (Leads (As stamped Me) (Told stamped source cluster lines F)
      (Told stamped source cluster lines (Both F (Gained (λ bytes h. GotFor (since_start Me h) m bytes) taken))))
  got_told m given taken is call =
      agent_took stamped source known cluster lines F grows (asked Me Got [] m 0) refl (λ answer files logs. refl) (λ answer files logs. tt)
      (Gained (λ bytes h. GotFor (since_start Me h) m bytes) taken) bytes_given given taken
      (λ before answer files logs legal k. tt) (λ bytes. tt)
      (λ before answer files logs took legal k. gains taken before answer files logs took) is call
    where
      gains : (taken : Option (List ℕ)) (before : History) (answer : ActAnswer) (files : Files)
          (logs : Logs)
          → Took bytes_given taken answer
          → Gained (λ bytes h. GotFor (since_start Me h) m bytes) taken (own_step (asked Me Got [] m 0) answer files logs ∷ before)
      gains None before answer files logs took = tt
      gains (Some bytes) before answer files logs took =
          let step = own_step (asked Me Got [] m 0) answer files logs in
          subst (λ mine. GotFor mine m bytes) (sym (own_first Me before step refl refl))
          (record { step = step; one = (0, omega arith, refl); call = refl; number = 0; of = 0; done = took })
