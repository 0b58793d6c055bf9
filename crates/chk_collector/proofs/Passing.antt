-- A sink is abandoned by puts that are done only where one was full.
use Rattle.std.proofs.Common.{◌≡◌, ◌⊎◌, inl, inr, ℕ, ◌≤◌, ◌<◌, Bool, true, false, ◌||◌, is_some, List, [], ◌∷◌, ◌++◌, length, length-append, Option, Some, None, refl, sym, ap, ◌∙◌, arith, true≢false}
use Rattle.std.specs.Prelude.{IsTrue, MatchBool}
use Rattle.std.proofs.lemmas.Bool.{ltb-true}
use Rattle.chk_bytes.specs.Stems.{Stem, is_stem}
use Rattle.chk_site.specs.Acts.{deed}
use Rattle.chk_site.specs.Files.{File}
use Rattle.chk_site.specs.History.{Step, History, files_after, is_stopped}
use Rattle.chk_site.specs.Runs.{Owns}
use Rattle.chk_world.specs.Committed.{HasFile, OnFile}
use Rattle.chk_world.specs.Laws.{wrote, written_by}
use Rattle.chk_world.specs.Names.{SinkFile, file}
use Rattle.chk_world.specs.Rules.{Legal}
use Rattle.chk_world.proofs.Law.{shape}
use Rattle.chk_sink.specs.Held.{Holds}
use Rattle.chk_sink.specs.Puts.{GoesOn, GoesOnInNext, GoesOnInSame}
use Rattle.chk_sink.specs.States.{State, Writing, IsSameStart, full_size, last_stem, needs_next}
use Rattle.chk_sink.proofs.Holding.{writing_kept}
use Rattle.chk_sink.proofs.HoldsStay.{has_stem}
use Rattle.chk_collector.specs.Passing.{HasPassed}

-- ---- it stays so

wrote_longer : (x : Stem) (added history : History) → length (wrote x history) ≤ length (wrote x (added ++ history))
wrote_longer x [] history = omega arith
wrote_longer x (step ∷ added) history =
    let before = wrote_longer x added history in
    omega (arith, before, length-append (wrote x (added ++ history)) (written_by x (deed step.act) step.act.answer))

pub passed_on : {collector : List ℕ} {born : ℕ} (added history : History) → HasPassed collector born history
    → HasPassed collector born (added ++ history)
passed_on added history p = record {
  stem = p.stem;
  is_one = p.is_one;
  of_collector = p.of_collector;
  of_start = p.of_start;
  more = let before = wrote_longer p.stem added history in let more = p.more in omega (arith, before, more);
}

-- what was stopped before a step of its own makes none
pub runs_before : (Own : History → Step → Type 0)
    → ((before : History) (step : Step) → Own before step → is_stopped before ≡ false)
    → (added history : History) → Owns Own added history → is_stopped (added ++ history) ≡ false
    → is_stopped history ≡ false
runs_before Own runs [] history own running = running
runs_before Own runs (step ∷ added) history own running =
    runs_before Own runs added history own.0 (ran step.own refl)
  where
    ran : (b : Bool) → step.own ≡ b → is_stopped (added ++ history) ≡ false
    ran true is = runs (added ++ history) step (own.1 is)
    ran false is = rw is at running

-- ---- a full sink

same_length : (written : List ℕ) (n : ℕ) (o : Option File) → HasFile o (λ f. length f.bytes ≡ n)
    → OnFile o (λ f. f.bytes ≡ written) → length written ≡ n
same_length written n None has is = absurd has
same_length written n (Some f) has is = ap length (sym is) ∙ has

pub full_passed : (stamped : List (List ℕ)) (s : State) (history : History) → Legal stamped history → Holds s history
    → (o : Writing) → s.current ≡ Some o → full_size < o.size → HasPassed s.collector s.born history
full_passed stamped s history legal holds o some more =
    let kept = writing_kept s o some history holds in
    let good : IsTrue (is_stem (last_stem s)) = has_stem stamped s history legal holds (ap is_some some) in
    let size = same_length (wrote (last_stem s) history) o.size (file (files_after history) (SinkFile (last_stem s))) kept.size
    ((shape stamped history legal (last_stem s) good).current _ kept.current refl) in
    record {
      stem = last_stem s;
      is_one = good;
      of_collector = refl;
      of_start = refl;
      more = omega (arith, more, size);
    }

-- ---- a put that was done

module _ (stamped : List (List ℕ)) (first s t : State) (same : IsSameStart first s) (goes : GoesOn s t)
    (history : History) (legal : Legal stamped history) (holds : Holds s history) where
  of_first : HasPassed s.collector s.born history → HasPassed first.collector first.born history
  of_first p = record {
    stem = p.stem;
    is_one = p.is_one;
    of_collector = p.of_collector ∙ same.collector;
    of_start = p.of_start ∙ same.born;
    more = p.more;
  }

  was_full : (o : Option Writing) → s.current ≡ o → is_some o ≡ true → needs_next o ≡ true
      → HasPassed first.collector first.born history
  was_full None is some full = absurd (true≢false (sym some))
  was_full (Some o) is some full =
      of_first (full_passed stamped s history legal holds o is (ltb-true full_size o.size full))

  pub full_before : (s.abandoned ≡ true → (first.abandoned ≡ true) ⊎ HasPassed first.collector first.born history)
      → t.abandoned ≡ true → (first.abandoned ≡ true) ⊎ HasPassed first.collector first.born history
  full_before earlier left = go (needs_next s.current) refl goes
    where
      either : (a b : Bool) → (a || b) ≡ true → (a ≡ true) ⊎ (b ≡ true)
      either true b e = inl refl
      either false b e = inr e

      go : (b : Bool) → needs_next s.current ≡ b → MatchBool b (GoesOnInNext s t) (GoesOnInSame s t)
          → (first.abandoned ≡ true) ⊎ HasPassed first.collector first.born history
      go true next on = elim (either s.abandoned (is_some s.current) (sym on.abandoned ∙ left)) [
        | inl was ↦ earlier was
        | inr some ↦ inr (was_full s.current refl some next)
      ]
      go false next on = earlier (sym on.abandoned ∙ left)
