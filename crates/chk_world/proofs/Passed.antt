-- What a checkpoint has passed was acknowledged.
use Rattle.std.proofs.Common.{◌≡◌, ◌⊎◌, inl, inr, ℕ, ◌<◌, ◌≤◌, false, List, [], ◌∷◌, Option, Some, None, ap, sym, subst, ◌∙◌, refl, arith, true≢false}
use Rattle.std.specs.Prelude.{IsTrue, find, unwrap_or}
use Rattle.std.proofs.lemmas.Bool.{and_parts, cases_lt}
use Rattle.std.proofs.lemmas.Option.{none-some}
use Rattle.chk_site.specs.declared.acts.Who.{Who}
use Rattle.chk_site.specs.Files.{File}
use Rattle.chk_site.specs.Acts.{deed, Renames}
use Rattle.chk_site.specs.History.{Step, History, Ever, files_after, since_start}
use Rattle.chk_chunk.specs.Keys.{Stream}
use Rattle.chk_world.specs.Names.{CheckFile, Temporary, is_source, read, file, owns}
use Rattle.chk_world.specs.Checkpoints.{Line, read_checkpoint, lines_in, is_line_of, line_of}
use Rattle.chk_world.specs.Committed.{OnFile, IsWhole}
use Rattle.chk_world.specs.Agents.{Acknowledged, CheckpointMovesForward, LineMay, MayPublish, AgentRule}
use Rattle.chk_world.specs.Rules.{Legal, RoleMay}
use Rattle.chk_world.specs.Laws.{IsCheckpointFile, agent_of, WasAcknowledged}
use Rattle.chk_world.proofs.Kept.{on_file}
use Rattle.chk_world.proofs.SmallFiles.{step_good, publication, check_owner, readable}
use Rattle.chk_world.proofs.CheckpointsMove.{found, line_stream, owner_name}

ever_now : (P : History → Type 0) (history : History) → P history → Ever P history
ever_now P [] h = h
ever_now P (step ∷ history) h = inl h

-- each offset that the line has passed was acknowledged
abbrev Passed : History → Stream → Option Line → Type 0
Passed history s o = (l : Line) → o ≡ Some l → (q : ℕ) → l.start ≤ q → q < l.offset → WasAcknowledged history s q

later : (history : History) (step : Step) (s : Stream) (q : ℕ) → WasAcknowledged history s q → WasAcknowledged (step ∷ history) s q
later history step s q (c, h, e) = (c, h, inr e)

-- a new line, by the old one
line_passed : (who : Who) (history : History) (step : Step) (s : Stream) (o : Option Line) (l : Line) → who ≡ agent_of s
    → Passed history s o → LineMay who history s o l → (q : ℕ) → l.start ≤ q → q < l.offset → WasAcknowledged (step ∷ history) s q
line_passed who history step s None l is before may q low high =
    let at = may.offset in absurd (let z : ⊥ = omega (arith, low, high, at) in z)
line_passed who history step s (Some old) l is before may q low high = go (cases_lt q old.offset)
  where
    go : (q < old.offset) ⊎ (old.offset ≤ q) → WasAcknowledged (step ∷ history) s q
    go (inl less) = let start = may.start in later history step s q (before old refl q (omega (arith, low, start)) less)
    go (inr more) =
        let a = may.acknowledged q more high in (
          a.0,
          a.1,
          inr (ever_now (λ front. Acknowledged (since_start (agent_of s) front) a.0) history
              (subst (λ w. Acknowledged (since_start w history) a.0) is a.2)),
        )

-- the file is whole, and what its line of the stream has passed was acknowledged
abbrev HasPassed : History → Stream → Option File → Type 0
HasPassed history s o = OnFile o IsWhole × Passed history s (find (is_line_of s) (lines_in o))

pub passed : (stamped : List (List ℕ)) (history : History) → Legal stamped history → (s : Stream) → IsTrue (is_source s.source)
    → Passed history s (line_of (files_after history) s)
passed stamped [] legal s known = λ l e q low high. absurd (none-some l e)
passed stamped (step ∷ history) legal s known =
    (step_good stamped history step (CheckFile s.source) refl known (HasPassed (step ∷ history) s) (λ o g. g.0)
    (λ may. absurd (true≢false (sym (and_parts (owns step.act.who (CheckFile s.source)) false may).1))) legal.1
    (published (passed stamped history legal.0 s known)) (
      on_file (file (files_after history) (CheckFile s.source)) (λ f (c : IsCheckpointFile f). c.whole)
          ((readable stamped history legal.0).checkpoints s.source known),
      λ l e q low high. later history step s q (passed stamped history legal.0 s known l e q low high),
    )).1
  where
    new_lines : (who : Who) (lines : List Line) → who ≡ agent_of s → Passed history s (line_of (files_after history) s)
        → CheckpointMovesForward who history step lines → Passed (step ∷ history) s (find (is_line_of s) lines)
    new_lines who lines is before moves l e q low high =
        let f = found (is_line_of s) lines l e in
        let stream = line_stream s who.name l (ap (λ (w : Who). w.name) is) f.passes in
        let may : LineMay who history s (line_of (files_after history) s) l =
        subst (λ t. LineMay who history t (line_of (files_after history) t) l) stream (moves.each l f.one) in
        line_passed who history step s (line_of (files_after history) s) l is before may q low high

    good_in : (who : Who) → who ≡ agent_of s → Passed history s (line_of (files_after history) s) → (o : Option File) (f : File) → o ≡ Some f → OnFile o IsWhole
        → OnFile o (λ f. (lines : List Line) × (read_checkpoint f.bytes ≡ Some lines) × CheckpointMovesForward who history step lines)
        → HasPassed (step ∷ history) s (Some f)
    good_in who is before None f e w p = absurd (none-some f e)
    good_in who is before (Some g) f e w p =
        subst (HasPassed (step ∷ history) s) e
        (w, subst (λ ls. Passed (step ∷ history) s (find (is_line_of s) ls)) (sym (ap (λ o. unwrap_or o []) p.1)) (new_lines who p.0 is before p.2))

    published : Passed history s (line_of (files_after history) s) → (old new : List ℕ) → deed step.act ≡ Renames old new
        → read new ≡ CheckFile s.source → (f : File) → file (files_after history) (read old) ≡ Some f → HasPassed (step ∷ history) s (Some f)
    published before old new is r f at =
        let p = publication stamped history step old new (CheckFile s.source) legal.1 is r refl in
        let who = step.act.who in
        let agent = check_owner who.role who.name s.source p.owned in
        let rule : AgentRule who history step (deed step.act) = subst (λ role. RoleMay stamped role history step) agent legal.1.rule in
        let may : MayPublish who history step (read old) (read new) = subst (AgentRule who history step) is rule in
        let put : MayPublish who history step (Temporary (CheckFile s.source)) (CheckFile s.source) =
        subst (λ m. MayPublish who history step m (CheckFile s.source)) p.from (subst (MayPublish who history step (read old)) r may) in
        let name = owner_name who.role who.name s.source p.owned in
        let whose : who ≡ agent_of s = λ i. record { role = agent i; name = name i } in
        good_in who whose before (file (files_after history) (Temporary (CheckFile s.source))) f (ap (file (files_after history)) (sym p.from) ∙ at) p.whole_is put.1
