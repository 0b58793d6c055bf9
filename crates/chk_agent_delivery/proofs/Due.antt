-- When a poll is due, and what a beginning leaves.
use Rattle.std.proofs.Common.{◌≡◌, ℕ, zero, suc, ◌+◌, Bool, true, false, ◌&&◌, ◌||◌, ◌==◌, List, [], ◌∷◌, length, Option, Some, None, ap, sym, subst, ◌∙◌, refl, arith, true≢false, eq-eqb, if◌then◌else◌}
use Rattle.std.specs.Prelude.{filter, slice_get, slice_index, slice_set, option_map, is_some}
use Rattle.std.specs.List.{list_any}
use Rattle.chk_bytes.specs.Stems.{Stem}
use Rattle.chk_chunk.specs.declared.Chunk.{Chunk}
use Rattle.chk_acks.specs.declared.row.Row.{Row}
use Rattle.chk_acks.specs.Rows.{is_unmarked, waiting_after, is_of_other}
use Rattle.chk_agent_delivery.specs.States.{Post, State}
use Rattle.chk_agent_delivery.specs.Turns.{is_due, is_long_ago, begun_at}
use Rattle.chk_agent_delivery.specs.Sound.{InTurn, PostFits, IsSound}
use Rattle.chk_agent_delivery.proofs.LengthStates.{kept_less}
use Rattle.chk_agent_delivery.proofs.Rows.{length_set}

pub some_waits : (rows : List Row) → is_some (waiting_after 0 rows) ≡ list_any is_unmarked rows
some_waits [] = refl
some_waits (row ∷ rows) = go (is_unmarked row) refl (some_waits rows)
  where
    go : (b : Bool) → is_unmarked row ≡ b → is_some (waiting_after 0 rows) ≡ list_any is_unmarked rows
        → is_some {T = Stem × ℕ} (option_map (λ (r : Row). (r.stem, r.offset)) (slice_get (if b then row ∷ filter is_unmarked rows else filter is_unmarked rows) 0))
        ≡ (b || list_any is_unmarked rows)
    go true e rest = refl
    go false e rest = rest

pub due_where : (now : ℕ) (s : State) (waits : Bool) → waits ≡ is_some (waiting_after 0 s.table.rows)
    → is_due now s ≡ (waits && is_long_ago now s)
due_where now s waits is = ap (λ b. b && is_long_ago now s) (sym (is ∙ some_waits s.table.rows))

-- ---- a beginning

pub set_index : (xs : List ℕ) (i j x : ℕ) → (j ≡ i → ⊥) → slice_index (slice_set xs i x) j ≡ slice_index xs j
set_index [] i j x other = refl
set_index (y ∷ xs) zero zero x other = absurd (other refl)
set_index (y ∷ xs) zero (suc j) x other = refl
set_index (y ∷ xs) (suc i) zero x other = refl
set_index (y ∷ xs) (suc i) (suc j) x other = set_index xs i j x (λ e. other (ap suc e))

set_both : (xs : List ℕ) (i j x y : ℕ) → (j ≡ i → ⊥) → slice_set (slice_set xs i x) j y ≡ slice_set (slice_set xs j y) i x
set_both [] i j x y other = refl
set_both (z ∷ xs) zero zero x y other = absurd (other refl)
set_both (z ∷ xs) zero (suc j) x y other = refl
set_both (z ∷ xs) (suc i) zero x y other = refl
set_both (z ∷ xs) (suc i) (suc j) x y other = ap (λ ks. z ∷ ks) (set_both xs i j x y (λ e. other (ap suc e)))

pub neither : (a b : Bool) → (a || b) ≡ false → (a ≡ false) × (b ≡ false)
neither true b e = absurd (true≢false e)
neither false b e = (refl, e)

turn_other : (last owners : List ℕ) (chunks : List Chunk) (i at : ℕ) → list_any (λ j. j == i) owners ≡ false → InTurn last owners chunks
    → InTurn (slice_set last i at) owners chunks
turn_other last owners [] i at other turn = tt
turn_other last [] (c ∷ chunks) i at other turn = absurd turn
turn_other last (j ∷ owners) (c ∷ chunks) i at other turn =
    let n = neither (j == i) (list_any (λ j. j == i) owners) other in
    let below = turn.0 in
    let apart : j ≡ i → ⊥ = λ e. true≢false (sym (eq-eqb j i e) ∙ n.0) in (
      (let size = length_set last i at in omega (arith, below, size)),
      turn.1 ∙ ap (λ k. k + length c.body) (sym (set_index last i j at apart)),
      turn.2,
      subst (λ ks. InTurn ks owners chunks) (sym (set_both last i j at c.seq apart))
          (turn_other (slice_set last j c.seq) owners chunks i at n.1 turn.3),
    )

pub begun_sound : (s : State) (i at : ℕ) → list_any (λ j. j == i) s.owners ≡ false → IsSound s → IsSound (begun_at i at s)
begun_sound s i at other sound = record {
  as_many = sound.as_many;
  turn = turn_other s.table.last s.owners s.queue.chunks i at other sound.turn;
  valid = sound.valid;
  room = sound.room;
  most = sound.most;
  post = post s.post sound.post;
  poll = sound.poll;
}
  where
    post : (p : Option Post) → PostFits s p → PostFits (begun_at i at s) p
    post None fits = tt
    post (Some p) fits =
        let room = fits.room in
        let less = kept_less (is_of_other i) s.table.rows in
        record { some = fits.some; few = fits.few; there = fits.there; room = omega (arith, room, less); short = fits.short }
