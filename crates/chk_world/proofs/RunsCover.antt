-- Where what is acknowledged is saved, complete runs cover the checkpoints.
use Rattle.std.proofs.Common.{◌≡◌, ◌⊎◌, inl, inr, ℕ, ◌<◌, ◌≤◌, List, ◌∷◌, [], Option, Some, None, ap, sym, ◌∙◌, refl, arith}
use Rattle.std.specs.Prelude.{IsTrue}
use Rattle.std.proofs.lemmas.Bool.{cases_lt}
use Rattle.std.proofs.lemmas.Option.{same_Some, none-some}
use Rattle.chk_site.specs.History.{History, Ever, files_after, since_start}
use Rattle.chk_chunk.specs.Keys.{Stream, Chunk, Covers}
use Rattle.chk_world.specs.Names.{is_source}
use Rattle.chk_world.specs.Checkpoints.{Line, line_of, offset_in}
use Rattle.chk_world.specs.Streams.{Founding, founding, founded_by, or_else, start_at, start_of}
use Rattle.chk_world.specs.Agents.{Acknowledged}
use Rattle.chk_world.specs.Rules.{Legal}
use Rattle.chk_world.specs.Laws.{AcknowledgedIsSaved, RunsCoverCheckpoints, MovesOn, SavedAt, WasAcknowledged, agent_of}
use Rattle.chk_world.proofs.CheckpointsMove.{moves_forward}
use Rattle.chk_world.proofs.LogsGrow.{IsFounded, is_founded}
use Rattle.chk_world.proofs.CommittedSaved.{saved_stays}
use Rattle.chk_world.proofs.CompleteRuns.{Listed, listed, runs_take}
use Rattle.chk_world.proofs.Passed.{passed}

moved_start : (old l : Line) (o : Option Line) → MovesOn old o → o ≡ Some l → old.start ≡ l.start
moved_start old l None h e = absurd h
moved_start old l (Some m) h e = h.1 ∙ ap (λ (l : Line). l.start) (same_Some m l e)

-- a line has its stream's start
pub line_start : (stamped : List (List ℕ)) (history : History) → Legal stamped history → (s : Stream) → IsTrue (is_source s.source)
    → (l : Line) → line_of (files_after history) s ≡ Some l → start_of history s ≡ l.start
line_start stamped [] legal s known l e = absurd (none-some l e)
line_start stamped (step ∷ history) legal s known l e = go (founding history s) refl (line_start stamped history legal.0 s known)
  where
    go : (o : Option Founding) → founding history s ≡ o
        → ((old : Line) → line_of (files_after history) s ≡ Some old → start_of history s ≡ old.start) → start_of (step ∷ history) s ≡ l.start
    go (Some f) first earlier =
        let b : IsFounded history s f = is_founded stamped history legal.0 s known f first in
        let still : start_of (step ∷ history) s ≡ start_of history s =
        ap (λ o. start_at (or_else o (founded_by (line_of step.files s) (step.logs s.name)))) first ∙ sym (ap start_at first) in
        still ∙ (earlier b.line b.there
        ∙ moved_start b.line l (line_of step.files s) (moves_forward stamped history step legal s known b.line b.there) e)
    go None first earlier =
        ap (λ o. start_at (or_else o (founded_by (line_of step.files s) (step.logs s.name)))) first
        ∙ ap (λ o. start_at (founded_by o (step.logs s.name))) e

module _ (saves : AcknowledgedIsSaved) where
  ever_acknowledged : (stamped : List (List ℕ)) (history : History) → Legal stamped history → (s : Stream) → IsTrue (is_source s.source)
      → (c : Chunk) (o : ℕ) → Covers s o c → Ever (λ front. Acknowledged (since_start (agent_of s) front) c) history → SavedAt history s o
  ever_acknowledged stamped [] legal s known c o h a = saves stamped [] legal s known c a o h
  ever_acknowledged stamped (step ∷ history) legal s known c o h (inl a) = saves stamped (step ∷ history) legal s known c a o h
  ever_acknowledged stamped (step ∷ history) legal s known c o h (inr e) =
      saved_stays stamped history step legal s o (ever_acknowledged stamped history legal.0 s known c o h e)

  -- what a checkpoint has passed is saved
  pub passed_saved : (stamped : List (List ℕ)) (history : History) → Legal stamped history → (s : Stream) → IsTrue (is_source s.source)
      → (o : ℕ) → o < offset_in (line_of (files_after history) s) → SavedAt history s o
  passed_saved stamped history legal s known o low = go (line_of (files_after history) s) refl low
    where
      go : (line : Option Line) → line_of (files_after history) s ≡ line → o < offset_in line → SavedAt history s o
      go None e low = absurd (let z : ⊥ = omega arith in z)
      go (Some l) e low = pick (cases_lt o l.start)
        where
          pick : (o < l.start) ⊎ (l.start ≤ o) → SavedAt history s o
          pick (inl less) = let start = line_start stamped history legal s known l e in inr (omega (arith, less, start))
          pick (inr more) =
              let a : WasAcknowledged history s o = passed stamped history legal s known l e o more low in
              ever_acknowledged stamped history legal s known a.0 o a.1 a.2

  pub runs_cover : RunsCoverCheckpoints
  runs_cover stamped history legal l complete s known =
      let b : Listed stamped history l = listed stamped history legal l complete.last in
      runs_take stamped history legal l complete s (offset_in (line_of (files_after l.upto) s))
      (λ o low. passed_saved stamped l.upto b.legal s known o low)
