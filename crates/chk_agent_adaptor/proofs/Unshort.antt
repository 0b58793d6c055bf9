-- A log is never shorter than the place of a reader that stands.
use Rattle.std.proofs.Common.{◌≡◌, ℕ, ◌+◌, ◌-◌, ◌≤◌, ◌<◌, Bool, true, false, if◌then◌else◌, bytes_eq}
use Rattle.std.proofs.Common.{List, [], ◌∷◌, length, Option, None, Result, Err, ap, sym, subst, ◌∙◌}
use Rattle.std.proofs.Common.{refl, arith}
use Rattle.std.specs.Prelude.{IsTrue, Any, find}
use Rattle.std.proofs.lemmas.Bool.{and_parts}
use Rattle.chk_control.specs.Classes.{is_plain}
use Rattle.chk_site.specs.declared.acts.Who.{Who}
use Rattle.chk_site.specs.declared.acts.Call.TheVariants.{LogRead}
use Rattle.chk_site.specs.declared.acts.CallFault.{CallFault}
use Rattle.chk_site.specs.declared.acts.CallFault.TheVariants.{Failed, Missing, Exists, Short}
use Rattle.chk_site.specs.declared.acts.CallFault.TheVariants.{NoMemory}
use Rattle.chk_site.specs.declared.acts.ActAnswer.{ActAnswer}
use Rattle.chk_site.specs.declared.acts.ActAnswer.TheVariants.{Refused}
use Rattle.chk_site.specs.declared.suffixes.Piece.{Piece}
use Rattle.chk_site.specs.Files.{Files}
use Rattle.chk_site.specs.Honest.{AtLogRead}
use Rattle.chk_site.specs.Logs.{Shown, Logs, TheBase, Past, part_of, read_from}
use Rattle.chk_site.specs.History.{History, files_after, logs_after}
use Rattle.chk_site.specs.Site.{Adds, Asked, answered, asked, Calls, own_step, piece_given, WasRefused}
use Rattle.chk_site.specs.Runs.{Leads}
use Rattle.chk_chunk.specs.Keys.{Stream}
use Rattle.chk_world.specs.Names.{is_source}
use Rattle.chk_world.specs.Checkpoints.{Line, is_line_of, line_of}
use Rattle.chk_world.specs.Agents.{IsAtOrPast, ReadsFromCheckpoint, stream_of}
use Rattle.chk_world.specs.Rules.{Legal}
use Rattle.chk_world.specs.Places.{As}
use Rattle.chk_world.specs.Standing.{Stands}
use Rattle.chk_world.specs.Streams.{IsTruePlace}
use Rattle.chk_world.specs.Reading.{IsPlacePast, part_for, ReadsOn}
use Rattle.chk_world.specs.Knowing.{agent, Both, Grows, Knows, Told}
use Rattle.chk_world.proofs.AgentDoes.{IsReaderOf, may_read_at}
use Rattle.chk_world.proofs.AgentKnows.{agent_took}
use Rattle.chk_world.proofs.CheckpointsMove.{found}
use Rattle.chk_world.proofs.Ends.{bytes_same}
use Rattle.chk_world.proofs.LinesRead.{TheParts, known, next_is, shown_head}

-- the generation of such a place reaches as far
place_within : (stamped : List (List ℕ)) (history : History) → Legal stamped history → (s : Stream)
    → IsTrue (is_source s.source) → (l : Line) → ReadsOn history s l
    → l.offset - l.first
    ≤ length (read_from (part_for l.class l.after) (logs_after history s.name)).bytes
place_within stamped history legal s source l reads =
    let at = known stamped history legal s source l reads in
    let p = TheParts stamped history legal s source l reads in
    let size = next_is l.after p.rotated p.base in
    let shown = ap (λ (g : Shown). length g.bytes) (shown_head stamped history legal s source l reads) in
    let within = at.within in
    omega (arith, within, size, shown)

-- no honest read of it is refused for the state of the log
none_refused : (answer : ActAnswer) (at max : ℕ) (g : Shown) → at ≤ length g.bytes
    → WasRefused answer → AtLogRead answer at max g → ⊥
none_refused (Refused (Short size)) at max g within is (short, size_is) =
    let z : ⊥ = omega (arith, within, short) in z
none_refused (Refused Failed) at max g within is agrees = is
none_refused (Refused NoMemory) at max g within is agrees = is
none_refused (Refused Missing) at max g within is agrees = agrees
none_refused (Refused Exists) at max g within is agrees = agrees
none_refused _ at max g within is agrees = is

module _ (stamped : List (List ℕ)) (source : List ℕ) (named : IsTrue (is_source source))
    (cluster : List ℕ) (lines : List Line) (F : History → Type 0)
    (grows : Grows stamped (agent source) F) (l : Line) (reader : IsReaderOf source lines l)
    (stands : (h : History) → F h → Stands h (stream_of source l) l) (text : List ℕ)
    (part_is : part_of text ≡ part_for l.class l.after) (max : ℕ) where
  abbrev S : Stream
  S = stream_of source l

  abbrev Reading : Asked
  Reading = asked (agent source) LogRead (l.path ∷ text ∷ []) (l.offset - l.first) max

  reads_on : (h : History) → Knows source cluster lines F h → ReadsOn h S l
  reads_on h k = record {
    line = reader.line;
    there = ap (find (is_line_of S)) k.lines_are ∙ reader.there;
    class = reader.class;
    behind = reader.behind;
    stands = stands h k.holds;
  }

  stream_is : stream_of source reader.line ≡ S
  stream_is =
      let passes = (found (is_line_of S) lines reader.line reader.there).passes in
      let kind : reader.line.kind ≡ l.kind =
      sym (bytes_same l.kind reader.line.kind
      (and_parts (bytes_eq l.kind reader.line.kind) (bytes_eq l.path reader.line.path) passes).0) in
      λ i. record { source = source; kind = kind i; name = reader.path i }

  may_read : (before : History) → Knows source cluster lines F before
      → ReadsFromCheckpoint (agent source) before l.path (part_of text) (l.offset - l.first)
  may_read before k =
      subst (λ p. ReadsFromCheckpoint (agent source) before l.path p (l.offset - l.first))
      (sym part_is)
      (subst (λ ls. Any (λ m. (m.path ≡ l.path)
      × IsAtOrPast before (stream_of source m) (part_for l.class l.after) (l.offset - l.first) m) ls)
      (sym k.lines_are) (
        reader.one.0,
        reader.line,
        reader.one.1,
        reader.one.2,
        (
          reader.path,
          subst (λ s. IsAtOrPast before s (part_for l.class l.after) (l.offset - l.first) reader.line)
              (sym stream_is)
              (may_read_at before S l reader.line (stands before k.holds).place (is_plain l.class) reader.past),
        ),
      ))

  -- so such a read is never answered with a shorter log
  pub short_told : (size : ℕ) {old new : Option History}
      → Adds old new (Calls Reading (answered piece_given (Err (Short size))))
      → Adds old new (Leads (As stamped (agent source)) (Told stamped source cluster lines F)
      (Told stamped source cluster lines (Both F (λ h. ⊥))))
  short_told size call =
      agent_took stamped source named cluster lines F grows Reading refl
      (λ answer files logs. refl) (λ answer files logs. tt) (λ h. ⊥) piece_given (Err (Short size)) None
      (λ before answer files logs legal k. may_read before k) (λ piece. tt)
      (λ before answer files logs took legal k.
      none_refused answer (l.offset - l.first) max
      (read_from (part_for l.class l.after) (logs_after before S.name))
      (place_within stamped before legal.0 S named l (reads_on before k)) took
      (subst (λ p. AtLogRead answer (l.offset - l.first) max (read_from p (logs_after before S.name)))
      part_is legal.1.honest.agrees))
      refl call
