-- A length that a poll leaves below an answered offset is below it.
use Rattle.std.proofs.Common.{◌≡◌, ℕ, ◌<◌, Bool, true, false, not, ◌&&◌, ◌||◌, nat_le, if◌then◌else◌, List, [], ◌∷◌, map, Option, Some, None, ap, sym, subst, ◌∙◌, refl, arith, true≢false}
use Rattle.std.specs.Prelude.{filter, find, is_some, option_map}
use Rattle.std.proofs.lemmas.Option.{same_Some, none-some}
use Rattle.chk_bytes.specs.Stems.{Stem, same_stem}
use Rattle.chk_http_grammar.specs.Messages.{Ack}
use Rattle.chk_world.proofs.NameTests.{stem_same, stem_self}
use Rattle.chk_acks.specs.declared.row.Row.{Row}
use Rattle.chk_acks.specs.Rows.{is_past, is_reached, is_unmarked, marked_at}
use Rattle.chk_acks.specs.Table.{Table}
use Rattle.chk_agent_delivery.specs.declared.answers.Below.{Below}
use Rattle.chk_agent_delivery.specs.Turns.{SeesAll, below_in, below_row, first_below, length_of}

-- where the row is of this sink and isn't marked, it ends past this length
abbrev IsAbove : Stem → ℕ → Row → Type 0
IsAbove x n row = row.marked ≡ false → same_stem row.stem x ≡ true → n < row.offset

abbrev AreAbove : Stem → ℕ → List Row → Type 0
AreAbove x n [] = Unit {0}
AreAbove x n (row ∷ rows) = IsAbove x n row × AreAbove x n rows

or_left : (a b : Bool) → (a || b) ≡ false → a ≡ false
or_left false b e = refl
or_left true b e = e

or_right : (a b : Bool) → (a || b) ≡ false → b ≡ false
or_right false b e = e
or_right true b e = absurd (true≢false e)

-- the rows behind a length that is seen
abbrev seen : Stem → ℕ → List ℕ → List Row → List Row
seen x n ends rows = filter (is_past ends) (map (marked_at x n) rows)

seen_keeps : (x y : Stem) (n m : ℕ) (ends : List ℕ) (rows : List Row) → AreAbove x n rows
    → AreAbove x n (seen y m ends rows)
seen_keeps x y n m ends [] all = tt
seen_keeps x y n m ends (row ∷ rows) all =
    go (is_past ends (marked_at y m row)) (seen_keeps x y n m ends rows all.1)
  where
    go : (b : Bool) → AreAbove x n (seen y m ends rows)
        → AreAbove x n (if b then marked_at y m row ∷ seen y m ends rows else seen y m ends rows)
    go true rest = (λ free same. all.0 (or_left row.marked (is_reached y m row) free) same, rest)
    go false rest = rest

seen_above : (x : Stem) (n : ℕ) (ends : List ℕ) (rows : List Row) → AreAbove x n (seen x n ends rows)
seen_above x n ends [] = tt
seen_above x n ends (row ∷ rows) =
    go (is_past ends (marked_at x n row)) (seen_above x n ends rows)
  where
    past : (t u : Bool) → (t && u) ≡ false → u ≡ true → t ≡ false
    past false u e same = refl
    past true u e same = absurd (true≢false (sym same ∙ e))

    more : (a b : ℕ) → nat_le a b ≡ false → b < a
    more a b e = grind (arith, e)

    go : (b : Bool) → AreAbove x n (seen x n ends rows)
        → AreAbove x n (if b then marked_at x n row ∷ seen x n ends rows else seen x n ends rows)
    go true rest = (
      λ free same.
          more row.offset n
          (past (nat_le row.offset n) (same_stem row.stem x) (or_right row.marked (is_reached x n row) free) same),
      rest,
    )
    go false rest = rest

all_keep : (x : Stem) (n : ℕ) (lengths : List Ack) (old new : Table) → SeesAll lengths old new
    → AreAbove x n old.rows → AreAbove x n new.rows
all_keep x n [] old new same all = subst (λ (t : Table). AreAbove x n t.rows) (sym same) all
all_keep x n (k ∷ lengths) old new (mid, sees, more) all =
    all_keep x n lengths mid new more
    (subst (AreAbove x n) (sym sees.rows) (seen_keeps x k.stem n k.number mid.committed old.rows all))

-- behind all of them, of the sink of the length that is found
all_above : (x : Stem) (got : ℕ) (lengths : List Ack) (old new : Table) → SeesAll lengths old new
    → length_of x lengths ≡ Some got → AreAbove x got new.rows
all_above x got [] old new same e = absurd (none-some got e)
all_above x got (k ∷ lengths) old new (mid, sees, more) e =
    go (same_stem k.stem x) refl (λ q. all_above x got lengths mid new more q) e
  where
    go : (b : Bool) → same_stem k.stem x ≡ b → (length_of x lengths ≡ Some got → AreAbove x got new.rows)
        → option_map (λ (k : Ack). k.number)
        (if b then Some k else find (λ (k : Ack). same_stem k.stem x) lengths) ≡ Some got
        → AreAbove x got new.rows
    go true same later q =
        all_keep x got lengths mid new more
        (subst (λ y. AreAbove y got mid.rows) (stem_same k.stem x same)
        (subst (λ n. AreAbove k.stem n mid.rows) (same_Some k.number got q)
        (subst (AreAbove k.stem k.number) (sym sees.rows) (seen_above k.stem k.number mid.committed old.rows))))
    go false same later q = later q

-- the first row that is left below
row_above : (lengths : List Ack) (rows : List Row) (x : Below) → AreAbove x.stem x.got rows
    → first_below lengths (filter is_unmarked rows) ≡ Some x → x.got < x.want
row_above lengths [] x all e = absurd (none-some x e)
row_above lengths (row ∷ rows) x all e =
    go row.marked refl (λ q. row_above lengths rows x all.1 q) e
  where
    at : (o : Option ℕ) → row.marked ≡ false
        → option_map {U = Below} (λ got. record { stem = row.stem; got = got; want = row.offset }) o ≡ Some x
        → x.got < x.want
    at None free q = absurd (none-some x q)
    at (Some n) free q =
        let same = same_Some (record { stem = row.stem; got = n; want = row.offset }) x q in
        let stem = ap (λ (b : Below). b.stem) same in
        let above = all.0 free (subst (λ y. same_stem row.stem y ≡ true) stem (stem_self row.stem)) in
        subst (λ w. x.got < w) (ap (λ (b : Below). b.want) same) above

    pick : (b : Bool) → row.marked ≡ false
        → (first_below lengths (filter is_unmarked rows) ≡ Some x → x.got < x.want)
        → (if b then below_row lengths row else first_below lengths (filter is_unmarked rows)) ≡ Some x
        → x.got < x.want
    pick true free later q = at (length_of row.stem lengths) free q
    pick false free later q = later q

    go : (m : Bool) → row.marked ≡ m
        → (first_below lengths (filter is_unmarked rows) ≡ Some x → x.got < x.want)
        → first_below lengths (if not m then row ∷ filter is_unmarked rows else filter is_unmarked rows) ≡ Some x
        → x.got < x.want
    go true marked later q = later q
    go false free later q = pick (is_some (length_of row.stem lengths)) free later q

pub below_above : (lengths : List Ack) (old new : Table) → SeesAll lengths old new → (x : Below)
    → length_of x.stem lengths ≡ Some x.got → below_in lengths new ≡ Some x → x.got < x.want
below_above lengths old new sees x is e =
    row_above lengths new.rows x (all_above x.stem x.got lengths old new sees is) e
