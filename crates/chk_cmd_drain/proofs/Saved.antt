-- The lines of the checkpoint behind a drain that is done, or of one that had nothing to do.
use Rattle.std.proofs.Common.{◌≡◌, ℕ, zero, suc, ◌+◌, Bool, true, false, not, if◌then◌else◌, List, [], ◌∷◌, ◌++◌, map, Option, Some, Result, Ok, ap, sym, subst, ◌∙◌, refl, arith, true≢false}
use Rattle.std.specs.Prelude.{Contains, slice_get, slice_index}
use Rattle.std.proofs.lemmas.Option.{same_Some, none-some}
use Rattle.chk_site.specs.declared.acts.Who.{Who}
use Rattle.chk_site.specs.History.{History}
use Rattle.chk_world.specs.Checkpoints.{Line}
use Rattle.chk_agent_adaptor.specs.declared.adaptor.Phase.TheVariants.{Live}
use Rattle.chk_agent_adaptor.specs.Adaptors.{Adaptor, is_past, line_at}
use Rattle.chk_agent.specs.Commands.{live_from}
use Rattle.chk_agent.specs.States.{State, committed_at, lines_at, lines_of}
use Rattle.chk_agent.proofs.Soundness.{in_lines, line_in}
use Rattle.chk_cmd_line.specs.Lines.{stream_line}
use Rattle.chk_cmd_drain.specs.declared.faults.DrainFault.{DrainFault}
use Rattle.chk_cmd_drain.specs.Done.{HasLiveLine, lines_here}
use Rattle.chk_cmd_drain.specs.Drains.{Finishes}
use Rattle.chk_cmd_drain.specs.Parts.{AreSteady, IsRead, Reads, SavedAreRead}
use Rattle.chk_cmd_drain.specs.Streams.{line_of_stream, told_line}
use Rattle.chk_cmd_drain.proofs.Adding.{line_read}
use Rattle.chk_agent.proofs.Alike.{not_past}
use Rattle.chk_cmd_drain.proofs.Keeping.{AllKeep, drained_keeps, is_kept, live_still, was_kept}
use Rattle.chk_cmd_drain.proofs.SameSource.{drained_source}

-- the saved lines of the later state, by the adaptors that were live in the earlier one
pub record SavedFor (s t : State) : Type 0 where
  pub source : t.source ≡ s.source
  pub lines : (l : Line) → Contains t.saved l → l.live ≡ true
      → (i : ℕ) × (a : Adaptor) × (slice_get s.adaptors i ≡ Some a) × Reads l.kind l.path a
      × (a.phase ≡ Live) × (committed_at t i ≡ l.offset)
  pub has : (kind path : List ℕ) → IsRead kind path s.adaptors → HasLiveLine kind path t.saved
  pub from : (kind path : List ℕ) → HasLiveLine kind path t.saved → IsRead kind path s.adaptors
  pub shown : lines_here t.source t.saved ≡ map (told_line t) (live_from 0 s.adaptors)

-- ---- behind a drain

-- the line of one adaptor and those behind it
one_more : (say : ℕ → List ℕ) (i : ℕ) (p : Bool) (l : List ℕ) (rest : List (List ℕ)) (ns : List ℕ)
    → say (i + 0) ≡ l → rest ≡ map say ns
    → (if not p then l ∷ [] else []) ++ rest ≡ map say (if p then ns else i ∷ ns)
one_more say i true l rest ns here is = is
one_more say i false l rest ns here is =
    (λ k. sym here k ∷ is k) ∙ ap (λ n. say n ∷ map say ns) (let z : i + 0 ≡ i = omega arith in z)

-- the lines of adaptors from a number on, where `say` gives the line of each
shown_from : (source : List ℕ) (say : ℕ → List ℕ) (i : ℕ) (xs : List Adaptor) (ends : List ℕ)
    → ((k : ℕ) (a : Adaptor) → slice_get xs k ≡ Some a
    → say (i + k) ≡ line_of_stream source (slice_index ends k) (Some a))
    → lines_here source (lines_at xs ends) ≡ map say (live_from i xs)
shown_from source say i [] ends is = refl
shown_from source say i (a ∷ xs) [] is =
    one_more say i (is_past a.phase) _ _ (live_from (i + 1) xs) (is 0 a refl)
    (shown_from source say (i + 1) xs [] (λ k b at. next k ∙ is (suc k) b at))
  where
    next : (k : ℕ) → say (i + 1 + k) ≡ say (i + suc k)
    next k = ap say (let z : i + 1 + k ≡ i + suc k = omega arith in z)
shown_from source say i (a ∷ xs) (o ∷ ends) is =
    one_more say i (is_past a.phase) _ _ (live_from (i + 1) xs) (is 0 a refl)
    (shown_from source say (i + 1) xs ends (λ k b at. next k ∙ is (suc k) b at))
  where
    next : (k : ℕ) → say (i + 1 + k) ≡ say (i + suc k)
    next k = ap say (let z : i + 1 + k ≡ i + suc k = omega arith in z)

lives_before : (a b : Adaptor) → (is_past a.phase ≡ true → is_past b.phase ≡ true)
    → is_past b.phase ≡ false → is_past a.phase ≡ false
lives_before a b past e = go (is_past a.phase) refl
  where
    go : (p : Bool) → is_past a.phase ≡ p → is_past a.phase ≡ false
    go true is = absurd (true≢false (sym (past is) ∙ e))
    go false is = is

module _ (s t : State) (source : t.source ≡ s.source) (keep : AllKeep s.adaptors t.adaptors)
    (saved : t.saved ≡ lines_of t) (steady : AreSteady s.adaptors) where
  line_for : (l : Line) → Contains t.saved l → l.live ≡ true
      → (i : ℕ) × (a : Adaptor) × (slice_get s.adaptors i ≡ Some a) × Reads l.kind l.path a
      × (a.phase ≡ Live) × (committed_at t i ≡ l.offset)
  line_for l one live =
      let k = line_in t.adaptors t.delivery.table.committed l
      (subst (λ ls. Contains ls l) saved one) in
      let w = was_kept s.adaptors t.adaptors keep k.0 k.1 k.2 in
      let lives = lives_before w.0 k.1 w.2.past
      (not_past (is_past k.1.phase) (sym (ap (λ (m : Line). m.live) k.3) ∙ live)) in (
        k.0,
        w.0,
        w.1,
        record {
          lives = lives;
          kind_is = sym w.2.kind ∙ sym (ap (λ (m : Line). m.kind) k.3);
          path_is = sym w.2.path ∙ sym (ap (λ (m : Line). m.path) k.3);
        },
        steady k.0 w.0 w.1 lives,
        sym (ap (λ (m : Line). m.offset) k.3),
      )

  read_for : SavedAreRead (record t { adaptors = s.adaptors })
  read_for l one live = let r = line_for l one live in (r.0, r.1, r.2, r.3)

  drained_for : SavedFor s t
  drained_for = record {
    source = source;
    lines = line_for;
    has = λ kind path r.
        let n = is_kept s.adaptors t.adaptors keep r.0 r.1 r.2 in
        record {
          line = line_at (committed_at t r.0) n.0;
          one = subst (λ ls. Contains ls (line_at (committed_at t r.0) n.0)) (sym saved)
              (in_lines t.adaptors t.delivery.table.committed r.0 n.0 n.1);
          live = ap (λ p. not (is_past p)) (n.2.live (steady r.0 r.1 r.2 r.3.lives));
          kind_is = n.2.kind ∙ r.3.kind_is;
          path_is = n.2.path ∙ r.3.path_is;
        };
    from = line_read (record t { adaptors = s.adaptors }) read_for;
    shown = ap (lines_here t.source) saved
        ∙ (shown_from t.source (told_line t) 0 t.adaptors t.delivery.table.committed
        (λ k a at. ap (told_line t) (let z : 0 + k ≡ k = omega arith in z)
        ∙ ap (line_of_stream t.source (committed_at t k)) at)
        ∙ ap (map (told_line t)) (live_still 0 s.adaptors t.adaptors keep steady));
  }

-- ---- where none was live

pub none_read : (i : ℕ) (xs : List Adaptor) → live_from i xs ≡ [] → (k : ℕ) (a : Adaptor)
    → slice_get xs k ≡ Some a → is_past a.phase ≡ false → ⊥
none_read i [] none k a at lives = none-some a at
none_read i (x ∷ xs) none k a at lives =
    go (is_past x.phase) refl none k at (λ is j there. none_read (i + 1) xs is j a there lives)
  where
    go : (p : Bool) → is_past x.phase ≡ p
        → (if p then live_from (i + 1) xs else i ∷ live_from (i + 1) xs) ≡ []
        → (k : ℕ) → slice_get (x ∷ xs) k ≡ Some a
        → (live_from (i + 1) xs ≡ [] → (j : ℕ) → slice_get xs j ≡ Some a → ⊥) → ⊥
    go true is none zero at rest =
        true≢false (sym is ∙ (ap (λ (y : Adaptor). is_past y.phase) (same_Some x a at) ∙ lives))
    go true is none (suc k) at rest = rest none k at
    go false is none k at rest = let z : ⊥ = cc in z

none_shown : (source : List ℕ) (ls : List Line)
    → ((l : Line) → Contains ls l → l.live ≡ true → ⊥) → lines_here source ls ≡ []
none_shown source [] none = refl
none_shown source (l ∷ ls) none =
    go l.live refl (none_shown source ls
    (λ m (k, below, at) live. none m (suc k, omega (arith, below), at) live))
  where
    go : (b : Bool) → l.live ≡ b → lines_here source ls ≡ []
        → (if b then stream_line source l.kind l.path l.offset ∷ [] else []) ++ lines_here source ls
        ≡ []
    go true is rest = absurd (none l (0, omega arith, refl) is)
    go false is rest = rest

idle_for : (s : State) → live_from 0 s.adaptors ≡ [] → SavedAreRead s → SavedFor s s
idle_for s none saved = record {
  source = refl;
  lines = λ l one live. absurd (no_line l one live);
  has = λ kind path r. absurd (none_read 0 s.adaptors none r.0 r.1 r.2 r.3.lives);
  from = line_read s saved;
  shown = none_shown s.source s.saved no_line ∙ sym (ap (map (told_line s)) none);
}
  where
    no_line : (l : Line) → Contains s.saved l → l.live ≡ true → ⊥
    no_line l one live =
        let r = saved l one live in none_read 0 s.adaptors none r.0 r.1 r.2 r.3.lives

-- ---- both

pub saved_for : {who : Who} {now reads polls : ℕ} {s t : State}
    {result : Result (Unit {0}) DrainFault} {old new : Option History}
    → Finishes who now reads polls s result t old new → result ≡ Ok tt → AreSteady s.adaptors
    → SavedAreRead s → SavedFor s t
saved_for Finishes.unbegun is steady saved = absurd (cc)
saved_for {s = s} (Finishes.none_live none) is steady saved = idle_for s none saved
saved_for (Finishes.refused fault drained) is steady saved = absurd (cc)
saved_for (Finishes.undone answer fault drained undone) is steady saved = absurd (cc)
saved_for {s = s} (Finishes.told {t = t} printed some drained prints) is steady saved =
    let k = drained_keeps s drained in
    drained_for s t (drained_source s drained) k.adaptors k.saved steady
