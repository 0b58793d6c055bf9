-- The line of a stream, and the lines of adaptors in their order.
use Rattle.std.proofs.Common.{◌≡◌, ℕ, zero, suc, ◌+◌, ◌<◌, true, false, not, List, [], ◌∷◌, ◌++◌, Some, drop, length, ap, sym, ◌∙◌, refl, arith, add-one, true≢false, if◌then◌else◌}
use Rattle.std.specs.Prelude.{IsTrue, decimal, ◌^◌, codes, slice_get, slice_index, is_some}
use Rattle.std.specs.List.{list_all}
use Rattle.std.proofs.lemmas.Bool.{and_from}
use Rattle.std.proofs.lemmas.Option.{none-some, same_Some}
use Rattle.chk_bytes.specs.Words.{lacks, joined_at, is_word}
use Rattle.chk_bytes.proofs.WordLemmas.{word_lacks}
use Rattle.chk_world.specs.ArchiveRuns.{is_one_line}
use Rattle.chk_cmd_line.specs.Lines.{stream_line}
use Rattle.chk_agent_adaptor.specs.declared.adaptor.Phase.{Phase}
use Rattle.chk_agent_adaptor.specs.declared.adaptor.Phase.TheVariants.{Live, Stopping, Shrank, Past}
use Rattle.chk_agent_adaptor.specs.Adaptors.{Adaptor, is_past, line_at}
use Rattle.chk_agent.specs.Commands.{state_of}
use Rattle.chk_agent.specs.States.{State, committed_at, lines_at}
use Rattle.chk_agent.specs.Fits.{IsSound}
use Rattle.chk_agent.proofs.Soundness.{line_spelled}
use Rattle.chk_agent.proofs.SteppingSound.{Spelled, spelled_of}
use Rattle.chk_cmd_round.specs.Telling.{line_here, shown, shown_at, stream_lines}

-- ---- an adaptor

-- there is one of each number
pub some_at : {X : Type 0} (xs : List X) (i : ℕ) → i < length xs → (x : X) × (slice_get xs i ≡ Some x)
some_at [] i below = absurd (let z : ⊥ = omega (arith, below) in z)
some_at (x ∷ xs) zero below = (x, refl)
some_at (x ∷ xs) (suc i) below = some_at xs i (omega (arith, below))

-- its type and its path are words
pub adaptor_spelled : (s : State) → IsSound s → (i : ℕ) (a : Adaptor) → slice_get s.adaptors i ≡ Some a
    → Spelled (line_at (committed_at s i) a)
adaptor_spelled s sound i a at =
    let p = (sound.each i a at).place in
    spelled_of (line_at (committed_at s i) a) (line_spelled a p.marked (committed_at s i) p.from p.to)

-- a past one has no line
pub none_here : (source : List ℕ) (s : State) (i : ℕ) (a : Adaptor) → slice_get s.adaptors i ≡ Some a
    → is_some (state_of a.phase) ≡ false → shown_at source s i ≡ []
none_here source s i a at none = ap (shown source (committed_at s i)) at ∙ go a.phase none
  where
    go : (p : Phase) → is_some (state_of p) ≡ false
        → (if not (is_past p) then stream_line source a.kind a.path (committed_at s i) ∷ [] else []) ≡ []
    go Live none = absurd (true≢false none)
    go (Stopping end) none = absurd (true≢false none)
    go Shrank none = absurd (true≢false none)
    go Past none = refl

-- another one has one
pub one_here : (source : List ℕ) (s : State) (i : ℕ) (a : Adaptor) → slice_get s.adaptors i ≡ Some a
    → is_some (state_of a.phase) ≡ true → shown_at source s i ≡ stream_line source a.kind a.path (committed_at s i) ∷ []
one_here source s i a at some = ap (shown source (committed_at s i)) at ∙ go a.phase some
  where
    go : (p : Phase) → is_some (state_of p) ≡ true
        → (if not (is_past p) then stream_line source a.kind a.path (committed_at s i) ∷ [] else [])
        ≡ stream_line source a.kind a.path (committed_at s i) ∷ []
    go Live some = refl
    go (Stopping end) some = refl
    go Shrank some = refl
    go Past some = absurd (true≢false (sym some))

-- ---- in their order

no_ends : (i : ℕ) → drop {A = ℕ} i [] ≡ []
no_ends zero = refl
no_ends (suc i) = refl

lines_from : (source : List ℕ) (adaptors : List Adaptor) (ends : List ℕ) (i : ℕ) (a : Adaptor) → slice_get adaptors i ≡ Some a
    → stream_lines source (lines_at (drop i adaptors) (drop i ends))
    ≡ line_here source (line_at (slice_index ends i) a)
    ++ stream_lines source (lines_at (drop (suc i) adaptors) (drop (suc i) ends))
lines_from source [] ends i a at = absurd (none-some a at)
lines_from source (b ∷ adaptors) [] zero a at =
    ap (λ x. line_here source (line_at 0 x) ++ stream_lines source (lines_at adaptors [])) (same_Some b a at)
lines_from source (b ∷ adaptors) [] (suc i) a at =
    ap (λ ends. stream_lines source (lines_at (drop i adaptors) ends)) (sym (no_ends i)) ∙ lines_from source adaptors [] i a at
lines_from source (b ∷ adaptors) (o ∷ ends) zero a at =
    ap (λ x. line_here source (line_at o x) ++ stream_lines source (lines_at adaptors ends)) (same_Some b a at)
lines_from source (b ∷ adaptors) (o ∷ ends) (suc i) a at = lines_from source adaptors ends i a at

-- the lines from an adaptor on are its own and those from the next one on
pub lines_next : (source : List ℕ) (s : State) (i : ℕ) (a : Adaptor) → slice_get s.adaptors i ≡ Some a
    → stream_lines source (lines_at (drop i s.adaptors) (drop i s.delivery.table.committed))
    ≡ shown_at source s i
    ++ stream_lines source (lines_at (drop (i + 1) s.adaptors) (drop (i + 1) s.delivery.table.committed))
lines_next source s i a at =
    lines_from source s.adaptors s.delivery.table.committed i a at
    ∙ (ap (λ k. line_here source (line_at (committed_at s i) a)
    ++ stream_lines source (lines_at (drop k s.adaptors) (drop k s.delivery.table.committed))) (sym (add-one i))
    ∙ ap (λ here. here ++ stream_lines source (lines_at (drop (i + 1) s.adaptors) (drop (i + 1) s.delivery.table.committed)))
    (ap (shown source (committed_at s i)) (sym at)))
