-- The row that a reply leaves below its offset.
use Rattle.std.proofs.Common.{◌≡◌, ℕ, zero, suc, ◌+◌, ◌≤◌, Bool, true, false, ◌||◌, List, [], ◌∷◌, length, drop, Option, Some, None, ap, sym, ◌∙◌, refl, arith, true≢false, if◌then◌else◌}
use Rattle.std.specs.Prelude.{filter, slice_get, option_map, is_some, find}
use Rattle.std.specs.List.{list_any}
use Rattle.std.proofs.lemmas.Option.{same_Some, none-some}
use Rattle.chk_bytes.specs.Stems.{Stem, same_stem}
use Rattle.chk_http_grammar.specs.Messages.{Ack}
use Rattle.chk_acks.specs.declared.row.Row.{Row}
use Rattle.chk_acks.specs.Rows.{is_unmarked, waiting_after}
use Rattle.chk_world.specs.Agents.{AreFor}
use Rattle.chk_agent_delivery.specs.declared.answers.Below.{Below}
use Rattle.chk_agent_delivery.specs.Turns.{length_of, below_row, first_below, first_named}
use Rattle.chk_agent_delivery.proofs.LengthStates.{kept_less}
use Rattle.chk_agent_delivery.proofs.Lengths.{stem_self}
use Rattle.chk_world.proofs.NameTests.{stem_same as stem_is}

stem_sym : (x y : Stem) → same_stem x y ≡ same_stem y x
stem_sym x y = go (same_stem x y) refl (same_stem y x) refl
  where
    go : (a : Bool) → same_stem x y ≡ a → (b : Bool) → same_stem y x ≡ b → a ≡ b
    go true p true q = refl
    go false p false q = refl
    go true p false q = absurd (true≢false (sym (ap (λ z. same_stem y z) (stem_is x y p) ∙ stem_self y) ∙ q))
    go false p true q = absurd (true≢false (sym (ap (λ z. same_stem x z) (stem_is y x q) ∙ stem_self x) ∙ p))

-- a reply names just the sinks that were asked for
named_is : (x : Stem) (stems : List Stem) (lengths : List Ack) → AreFor stems lengths
    → is_some (length_of x lengths) ≡ list_any (same_stem x) stems
named_is x [] [] are = refl
named_is x [] (k ∷ lengths) are = absurd are
named_is x (y ∷ stems) [] are = absurd are
named_is x (y ∷ stems) (k ∷ lengths) are =
    go (same_stem k.stem x) refl (named_is x stems lengths are.1)
  where
    at : same_stem k.stem x ≡ same_stem x y
    at = ap (λ z. same_stem z x) are.0 ∙ stem_sym y x

    go : (b : Bool) → same_stem k.stem x ≡ b → is_some (length_of x lengths) ≡ list_any (same_stem x) stems
        → is_some {T = ℕ} (option_map (λ (k : Ack). k.number) (if b then Some k else find (λ (k : Ack). same_stem k.stem x) lengths))
        ≡ (same_stem x y || list_any (same_stem x) stems)
    go true e rest = sym (ap (λ b. b || list_any (same_stem x) stems) (sym at ∙ e))
    go false e rest = rest ∙ sym (ap (λ b. b || list_any (same_stem x) stems) (sym at ∙ e))

-- the row of a sink and an offset, by the length that the reply gives
abbrev pub below_at : List Ack → Option (Stem × ℕ) → Option Below
below_at lengths None = None
below_at lengths (Some (x, want)) =
    option_map (λ got. record { stem = x; got = got; want = want }) (length_of x lengths)

pub below_is : (stems : List Stem) (lengths : List Ack) → AreFor stems lengths → (rows : List Row)
    → first_below lengths rows ≡ below_at lengths (first_named stems rows)
below_is stems lengths are [] = refl
below_is stems lengths are (row ∷ rows) =
    ap (λ b. if b then below_row lengths row else first_below lengths rows) (named_is row.stem stems lengths are)
    ∙ go (list_any (same_stem row.stem) stems) (below_is stems lengths are rows)
  where
    go : (b : Bool) → first_below lengths rows ≡ below_at lengths (first_named stems rows)
        → (if b then below_row lengths row else first_below lengths rows)
        ≡ below_at lengths (if b then Some (row.stem, row.offset) else first_named stems rows)
    go true rest = refl
    go false rest = rest

-- ---- the rows one by one

pub named_here : (stems : List Stem) (rows : List Row) (i : ℕ) (x : Stem) (n : ℕ) → waiting_after i rows ≡ Some (x, n)
    → first_named stems (drop i (filter is_unmarked rows))
    ≡ (if list_any (same_stem x) stems then Some (x, n) else first_named stems (drop (i + 1) (filter is_unmarked rows)))
named_here stems rows i x n e =
    let next : suc i ≡ i + 1 = omega arith in
    at (filter is_unmarked rows) i e ∙ ap (λ k. if list_any (same_stem x) stems then Some (x, n) else first_named stems (drop k (filter is_unmarked rows))) next
  where
    at : (ys : List Row) (i : ℕ) → option_map {U = Stem × ℕ} (λ (r : Row). (r.stem, r.offset)) (slice_get ys i) ≡ Some (x, n)
        → first_named stems (drop i ys) ≡ (if list_any (same_stem x) stems then Some (x, n) else first_named stems (drop (suc i) ys))
    at [] i e = absurd (none-some (x, n) e)
    at (y ∷ ys) zero e =
        let p = same_Some (y.stem, y.offset) (x, n) e in
        ap (λ (q : Stem × ℕ). if list_any (same_stem q.0) stems then Some q else first_named stems ys) p
    at (y ∷ ys) (suc i) e = at ys i e

pub named_none : (stems : List Stem) (rows : List Row) (i : ℕ) → waiting_after i rows ≡ None
    → first_named stems (drop i (filter is_unmarked rows)) ≡ None
named_none stems rows i e = at (filter is_unmarked rows) i e
  where
    at : (ys : List Row) (i : ℕ) → option_map {U = Stem × ℕ} (λ (r : Row). (r.stem, r.offset)) (slice_get ys i) ≡ None → first_named stems (drop i ys) ≡ None
    at [] zero e = refl
    at [] (suc i) e = refl
    at (y ∷ ys) zero e = absurd (none-some (y.stem, y.offset) (sym e))
    at (y ∷ ys) (suc i) e = at ys i e

pub named_last : (stems : List Stem) (rows : List Row) (i : ℕ) → length rows ≤ i → first_named stems (drop i (filter is_unmarked rows)) ≡ None
named_last stems rows i last = at (filter is_unmarked rows) i (let less = kept_less is_unmarked rows in omega (arith, less, last))
  where
    at : (ys : List Row) (i : ℕ) → length ys ≤ i → first_named stems (drop i ys) ≡ None
    at [] zero below = refl
    at [] (suc i) below = refl
    at (y ∷ ys) zero below = absurd (let z : ⊥ = omega (arith, below) in z)
    at (y ∷ ys) (suc i) below = at ys i (omega (arith, below))

pub named_found : (stems : List Stem) (rows : List Row) (i : ℕ) (x : Stem) (n : ℕ) → waiting_after i rows ≡ Some (x, n)
    → true ≡ list_any (same_stem x) stems → first_named stems (drop i (filter is_unmarked rows)) ≡ Some (x, n)
named_found stems rows i x n e one =
    named_here stems rows i x n e
    ∙ ap (λ b. if b then Some (x, n) else first_named stems (drop (i + 1) (filter is_unmarked rows))) (sym one)

pub named_on : (stems : List Stem) (rows : List Row) (i : ℕ) (x : Stem) (n : ℕ) → waiting_after i rows ≡ Some (x, n)
    → false ≡ list_any (same_stem x) stems
    → first_named stems (drop i (filter is_unmarked rows)) ≡ first_named stems (drop (i + 1) (filter is_unmarked rows))
named_on stems rows i x n e none =
    named_here stems rows i x n e
    ∙ ap (λ b. if b then Some (x, n) else first_named stems (drop (i + 1) (filter is_unmarked rows))) (sym none)

-- ---- the three ends

pub below_unnamed : (stems : List Stem) (lengths : List Ack) (rows : List Row) → AreFor stems lengths → None ≡ first_named stems rows
    → None ≡ first_below lengths rows
below_unnamed stems lengths rows are none = sym (below_is stems lengths are rows ∙ ap (below_at lengths) (sym none))

pub below_unread : (stems : List Stem) (lengths : List Ack) (rows : List Row) (x : Stem) (n : ℕ) → AreFor stems lengths
    → Some (x, n) ≡ first_named stems rows → None ≡ length_of x lengths → None ≡ first_below lengths rows
below_unread stems lengths rows x n are one none =
    sym (below_is stems lengths are rows ∙ (ap (below_at lengths) (sym one)
    ∙ ap (option_map (λ (got : ℕ). let b : Below = record { stem = x; got = got; want = n } in b)) (sym none)))

pub below_read : (stems : List Stem) (lengths : List Ack) (rows : List Row) (x : Stem) (n got : ℕ) → AreFor stems lengths
    → Some (x, n) ≡ first_named stems rows → Some got ≡ length_of x lengths
    → Some (record { stem = x; got = got; want = n }) ≡ first_below lengths rows
below_read stems lengths rows x n got are one some =
    sym (below_is stems lengths are rows ∙ (ap (below_at lengths) (sym one)
    ∙ ap (option_map (λ (got : ℕ). let b : Below = record { stem = x; got = got; want = n } in b)) (sym some)))
