-- Where a step comes to the end of its log, the place read is the end of the whole log.
use Rattle.std.proofs.Common.{◌≡◌, inl, inr, ℕ, ◌+◌, ◌-◌, Bool, true, false, not, List, ◌∷◌, ◌++◌}
use Rattle.std.proofs.Common.{length, take, Some, Option, None, Result, Ok, Err, ap, sym, subst}
use Rattle.std.proofs.Common.{◌∙◌, refl, arith, bytes_eq, if◌then◌else◌}
use Rattle.std.specs.Prelude.{IsTrue, Any, option_to_list, find}
use Rattle.std.proofs.lemmas.Bool.{and_parts}
use Rattle.chk_control.specs.Classes.{is_plain, breaks_lines}
use Rattle.chk_site.specs.declared.acts.CallFault.{CallFault}
use Rattle.chk_site.specs.declared.acts.CallFault.TheVariants.{Failed, Missing, Exists, Short}
use Rattle.chk_site.specs.declared.acts.CallFault.TheVariants.{NoMemory}
use Rattle.chk_site.specs.declared.acts.ActAnswer.{ActAnswer}
use Rattle.chk_site.specs.declared.acts.ActAnswer.TheVariants.{Done}
use Rattle.chk_site.specs.declared.suffixes.Piece.{Piece}
use Rattle.chk_bytes.specs.Words.{joined}
use Rattle.chk_site.specs.Files.{Files, Nothing}
use Rattle.chk_site.specs.Acts.{Did, deed}
use Rattle.chk_site.specs.Logs.{TheBase, Past, Log, Logs, part_of, read_from, logs_changed}
use Rattle.chk_site.specs.Logs.{last_cut}
use Rattle.chk_site.specs.Honest.{AtLogRead}
use Rattle.chk_site.specs.History.{Step as Act, History, logs_after}
use Rattle.chk_site.specs.Site.{Adds, Asked, own_step, answered, Calls, Took, piece_given}
use Rattle.chk_site.specs.Runs.{Leads}
use Rattle.chk_site.proofs.Leads.{leads_then}
use Rattle.chk_chunk.specs.Keys.{Stream}
use Rattle.chk_tail.specs.declared.step.Step.TheVariants.{AtEnd}
use Rattle.chk_tail.specs.Taking.{asks_at, taken_of}
use Rattle.chk_tail.specs.Walks.{Spot, Way, part, reading, behind, Decides, Walks, decided, walked}
use Rattle.chk_tail.specs.Walks.{unkept}
use Rattle.chk_tail.proofs.Takes.{takes_most}
use Rattle.chk_world.specs.Names.{is_source}
use Rattle.chk_world.specs.Checkpoints.{Line, is_after_text, is_line_of, line_of}
use Rattle.chk_world.specs.Streams.{Founding, founding, founded_by, or_else, start_at, parts_since}
use Rattle.chk_world.specs.Streams.{bytes_of, whole_end, IsTruePlace}
use Rattle.chk_world.specs.Agents.{ReadsFromCheckpoint, IsAtOrPast, stream_of}
use Rattle.chk_world.specs.Rules.{Legal}
use Rattle.chk_world.specs.Places.{As}
use Rattle.chk_world.specs.Standing.{Stands}
use Rattle.chk_world.specs.Reading.{part_for, ReadsOn, IsPlacePast, passed}
use Rattle.chk_world.specs.Knowing.{agent, Grows, Both, Knows, Told, AfterRead}
use Rattle.chk_world.proofs.Ends.{bytes_same}
use Rattle.chk_world.proofs.CheckpointsMove.{found}
use Rattle.chk_world.proofs.AgentKnows.{agent_took, both_grow}
use Rattle.chk_world.proofs.AgentDoes.{Gained, IsReaderOf, read_told, may_read_at}
use Rattle.chk_world.proofs.LinesRead.{reads_give_log}
use Rattle.chk_world.proofs.LogEnds.{reads_find_end}
use Rattle.chk_agent_adaptor.proofs.Texts.{taken_all, taken_within, part_is, takes_to_stop}
use Rattle.chk_agent_adaptor.proofs.WalkFacts.{at_spot}
use Rattle.chk_agent_adaptor.proofs.WalkTold.{after_read_grows, reader_behind, told_as}

-- the whole log ends at this offset
abbrev pub EndsAt : Stream → ℕ → History → Type 0
EndsAt s o history = whole_end history s ≡ o

abbrev whole_since : Option Founding → Log → ℕ
whole_since f log =
    let p = parts_since f log in
    let bytes = joined (bytes_of p.rotated) ++ p.base in
    start_at f + length (take (last_cut p.lines (bytes_of p.rotated) p.base (length bytes)) bytes)

-- the end of the whole log is a matter of the stream's founding and the path's log
same_end : (before : History) (step : Act) (s : Stream) (first : Founding) → founding before s ≡ Some first
    → step.logs s.name ≡ logs_after before s.name → whole_end (step ∷ before) s ≡ whole_end before s
same_end before step s first founded same =
    let still : founding (step ∷ before) s ≡ founding before s =
    ap (λ o. or_else o (founded_by (line_of step.files s) (step.logs s.name))) founded ∙ sym founded in
    λ i. whole_since (still i) (same i)

module _ (stamped : List (List ℕ)) (source : List ℕ) (known : IsTrue (is_source source)) (cluster : List ℕ) (lines : List Line) (l : Line) where
  abbrev S : Stream
  S = stream_of source l

  abbrev W : Way
  W = record { who = agent source; path = l.path; lines = breaks_lines l.class; rotated = not (is_plain l.class) }

  module _ (F : History → Type 0) (grows : Grows stamped (agent source) F) (p : Spot) (reader : IsReaderOf source lines (at_spot l p))
      (named : IsTrue (is_after_text p.after)) (stands : (h : History) → F h → Stands h S (at_spot l p)) where
    abbrev L : Line
    L = at_spot l p

    abbrev Q : Asked
    Q = reading W p

    reads_on : (h : History) → Knows source cluster lines F h → ReadsOn h S L
    reads_on h k = record {
      line = reader.line;
      there = ap (find (is_line_of S)) k.lines_are ∙ reader.there;
      class = reader.class;
      behind = reader.behind;
      stands = stands h k.holds;
    }

    -- the read is made at or past the line
    may_read : (before : History) → Knows source cluster lines F before
        → ReadsFromCheckpoint (agent source) before l.path (part_of (part W.rotated p.after)) (p.offset - p.first)
    may_read before k =
        let kind : reader.line.kind ≡ l.kind =
        sym (bytes_same l.kind reader.line.kind
        (and_parts (bytes_eq l.kind reader.line.kind) (bytes_eq l.path reader.line.path) (found (is_line_of S) lines reader.line reader.there).passes).0) in
        let stream_is : stream_of source reader.line ≡ S =
        λ i. record { source = source; kind = kind i; name = reader.path i } in
        subst (λ q. ReadsFromCheckpoint (agent source) before l.path q (p.offset - p.first)) (sym (part_is l.class p.after named))
        (subst (λ ls. Any (λ m. (m.path ≡ l.path)
        × IsAtOrPast before (stream_of source m) (part_for l.class p.after) (p.offset - p.first) m) ls) (sym k.lines_are) (
          reader.one.0,
          reader.line,
          reader.one.1,
          reader.one.2,
          (
            reader.path,
            subst (λ s. IsAtOrPast before s (part_for l.class p.after) (p.offset - p.first) reader.line) (sym stream_is)
                (may_read_at before S L reader.line (stands before k.holds).place (is_plain l.class) reader.past),
          ),
        ))

    module _ (piece : Piece) (none : taken_of (breaks_lines l.class) piece ≡ 0) (not_ended : piece.ended ≡ None) where
      ends_there : (before : History) (answer : ActAnswer) (files : Files) (logs : Logs) → Took piece_given (Some piece) answer
          → Legal stamped (own_step Q answer files logs ∷ before) → Knows source cluster lines F before
          → EndsAt S p.offset (own_step Q answer files logs ∷ before)
      ends_there before answer files logs took legal k =
          let step = own_step Q answer files logs in
          let words = piece.bytes ∷ option_to_list piece.ended in
          let at_read : AtLogRead (Done words 0 0) (p.offset - p.first) (asks_at p.offset) (read_from (part_for l.class p.after) (logs_after before S.name)) =
          subst (λ q. AtLogRead (Done words 0 0) (p.offset - p.first) (asks_at p.offset) (read_from q (logs_after before S.name)))
          (part_is l.class p.after named)
          (subst (λ a. AtLogRead a (p.offset - p.first) (asks_at p.offset) (read_from (part_of (part W.rotated p.after)) (logs_after before S.name)))
          took legal.1.honest.agrees) in
          let g = read_from (part_for l.class p.after) (logs_after before S.name) in
          let r = reads_give_log stamped before legal.0 S known L (reads_on before k) (asks_at p.offset) words 0 0 at_read in
          let most = takes_most (breaks_lines l.class) piece g (p.offset - p.first) (asks_at p.offset) (omega arith) r.from at_read in
          let end : whole_end before S ≡ p.offset =
          reads_find_end stamped before legal.0 S known L (reads_on before k) (asks_at p.offset) (omega arith) words 0 0 at_read
          (record {
            piece = piece.bytes;
            words_are = ap (λ o. piece.bytes ∷ option_to_list o) not_ended;
            none_later = λ q low high within may. most.last q (omega (arith, none, low)) high within may;
          }) in
          let e = legal.1.honest.modelled.effect in
          let did : e.did ≡ Nothing = subst (λ a. Did (deed step.act) a e.did) took e.may in
          let same : logs S.name ≡ logs_after before S.name = e.logs_left S.name ∙ ap (λ d. logs_changed d (logs_after before) S.name) did in
          same_end before step S (stands before k.holds).first (stands before k.holds).founded same ∙ end

      pub end_told : {old new : Option History} → Adds old new (Calls Q (answered piece_given (Ok piece)))
          → Adds old new (Leads (As stamped (agent source)) (Told stamped source cluster lines F)
          (Told stamped source cluster lines (Both F (EndsAt S p.offset))))
      end_told call =
          agent_took stamped source known cluster lines F grows Q refl (λ answer files logs. refl) (λ answer files logs. tt)
          (EndsAt S p.offset) piece_given (Ok piece) (Some piece)
          (λ before answer files logs legal k. may_read before k) (λ piece. tt) ends_there refl call

  -- each of the reads in turn
  pub walk_ends_told : (next : Spot) (F : History → Type 0) → Grows stamped (agent source) F → (p : Spot) (marks : List Spot)
      {old new : Option History} → IsReaderOf source lines (at_spot l p) → IsTrue (is_after_text p.after) → ((h : History) → F h → Stands h S (at_spot l p))
      → Walks W (Ok AtEnd) next p marks old new
      → Adds old new (Leads (As stamped (agent source)) (Told stamped source cluster lines F)
      (Told stamped source cluster lines (Both F (EndsAt S next.offset))))
  walk_ends_told next F grows p marks reader named stands (decided given call d) = by_decision given call d
    where
      by_decision : (given : Result Piece CallFault) → {old new : Option History} → Adds old new (Calls (reading W p) (answered piece_given given))
          → Decides W p given (Ok AtEnd) next
          → Adds old new (Leads (As stamped (agent source)) (Told stamped source cluster lines F)
          (Told stamped source cluster lines (Both F (EndsAt S next.offset))))
      by_decision (Ok piece) call (ends, inl (some, is, next_is)) = absurd (cc)
      by_decision (Ok piece) {old = old} {new = new} call (ends, inr (none, not_ended, is, next_is)) =
          subst (λ (q : Spot). Adds old new (Leads (As stamped (agent source)) (Told stamped source cluster lines F)
          (Told stamped source cluster lines (Both F (EndsAt S q.offset))))) (sym next_is)
          (end_told F grows p reader named stands piece none not_ended call)
      by_decision (Err (Short size)) call d = absurd (cc)
      by_decision (Err Failed) call d = absurd d
      by_decision (Err Missing) call d = absurd d
      by_decision (Err Exists) call d = absurd d
      by_decision (Err NoMemory) call d = absurd d
  walk_ends_told next F grows p marks reader named stands (unkept piece some call is next_is) = absurd (cc)
  walk_ends_told next F grows p marks reader named stands (walked {marks = later} piece suffix ended ends none call rest) =
      let q : Spot = behind p (Some suffix) 0 in
      let Count : Piece → ℕ = taken_of (breaks_lines l.class) in
      let G : History → Type 0 = Gained (λ piece h. AfterRead S (at_spot l p) piece (Count piece) h) (Some piece) in
      let F' : History → Type 0 = Both F G in
      let all : length piece.bytes ≡ 0 = sym (taken_all (breaks_lines l.class) piece suffix ended) ∙ none in
      let on = ends.2 in
      let no_plain : is_plain l.class ≡ false = not_true (is_plain l.class) ends.0 in
      let behind_stands : (h : History) → F' h → Stands h S (at_spot l q) = λ h x.
      subst (λ n. Stands h S (passed (at_spot l p) suffix n)) all (x.two.end suffix ended) in
      let first =
      read_told stamped source known cluster lines F grows (at_spot l p) reader stands (part W.rotated p.after) (part_is l.class p.after named)
      (asks_at p.offset) (Ok piece) (Some piece) Count
      (λ piece e. (taken_within (breaks_lines l.class) piece, takes_to_stop (breaks_lines l.class) piece (asks_at p.offset) (omega arith))) refl call in
      let second = walk_ends_told next F' (both_grow stamped (agent source) F G grows
      (after_read_grows stamped source known S known (at_spot l p) piece (Count piece)))
      q later (reader_behind source lines l p q suffix no_plain on refl (omega arith) reader) ends.1 behind_stands rest in
      told_as stamped source known cluster lines l (λ h x. record { one = x.one.one; two = x.two }) (leads_then first second)
    where
      not_true : (b : Bool) → not b ≡ true → b ≡ false
      not_true true e = absurd (cc)
      not_true false e = refl
