-- A good reply to a poll that leaves no row below its offset leaves fewer rows unmarked.
use Rattle.std.proofs.Common.{◌≡◌, ◌≢◌, ℕ, ◌+◌, ◌≤◌, ◌<◌, Bool, true, false, not, ◌&&◌, ◌||◌, if◌then◌else◌, List, [], ◌∷◌, map, Option, Some, None, length, ap, sym, subst, ◌∙◌, refl, arith, true≢false}
use Rattle.std.specs.Prelude.{filter, option_map, is_some, find, All}
use Rattle.std.proofs.lemmas.Bool.{eq-eqb}
use Rattle.std.proofs.lemmas.Option.{none-some}
use Rattle.chk_bytes.specs.Stems.{Stem, same_stem}
use Rattle.chk_http_grammar.specs.Messages.{Ack}
use Rattle.chk_acks.specs.declared.row.Row.{Row}
use Rattle.chk_acks.specs.Rows.{is_unmarked, is_reached, marked_at, is_past, is_of, rows_of}
use Rattle.chk_acks.specs.Table.{Table}
use Rattle.chk_acks.specs.Sound.{IsSound, BeginsUnmarked}
use Rattle.chk_world.specs.Agents.{AreFor}
use Rattle.chk_agent_delivery.specs.declared.answers.Below.{Below}
use Rattle.chk_agent_delivery.specs.Turns.{SeesAll, asked_stems, first_stems, length_of, below_row, first_below, below_in}
use Rattle.chk_agent_delivery.proofs.Lengths.{stem_self}
use Rattle.chk_world.proofs.NameTests.{stem_same as stem_is}
use Rattle.chk_agent_drain.specs.Parts.{count_rows}

-- a row that isn't marked, and whose sink passes a test
abbrev of_sinks : (Stem → Bool) → Row → Bool
of_sinks test row = is_unmarked row && test row.stem

-- they are those that pass and those that don't
split : (test : Stem → Bool) (rows : List Row)
    → count_rows is_unmarked rows ≡ count_rows (of_sinks test) rows + count_rows
    (of_sinks (λ x. not (test x))) rows
split test [] = refl
split test (row ∷ rows) =
    let rest = split test rows in
    let one = both (is_unmarked row) (test row.stem) in
    omega (arith, rest, one)
  where
    both : (u t : Bool) → (if u then 1 else 0) ≡ (if u && t then 1 else 0) +
        (if u && not t then 1 else 0)
    both true true = refl
    both true false = refl
    both false true = refl
    both false false = refl

-- the rows behind a length that is seen
abbrev seen_rows : Stem → ℕ → List ℕ → List Row → List Row
seen_rows x n ends rows = filter (is_past ends) (map (marked_at x n) rows)

-- it leaves no more of them
seen_one : (test : Stem → Bool) (x : Stem) (n : ℕ) (ends : List ℕ) (rows : List Row)
    → count_rows (of_sinks test) (seen_rows x n ends rows) ≤ count_rows (of_sinks test) rows
seen_one test x n ends [] = omega arith
seen_one test x n ends (row ∷ rows) =
    go (is_past ends (marked_at x n row)) (seen_one test x n ends rows)
  where
    fewer : (m r t : Bool) → (if not (m || r) && t then 1 else 0) ≤ (if not m && t then 1 else 0)
    fewer true r t = omega arith
    fewer false true t = omega arith
    fewer false false t = omega arith

    go : (b : Bool) → count_rows (of_sinks test) (seen_rows x n ends rows) ≤ count_rows
        (of_sinks test) rows
        → count_rows (of_sinks test)
        (if b then marked_at x n row ∷ seen_rows x n ends rows else seen_rows x n ends rows)
        ≤ (if of_sinks test row then 1 else 0) + count_rows (of_sinks test) rows
    go true rest = let one = fewer row.marked (is_reached x n row) (test row.stem) in omega
        (arith, rest, one)
    go false rest = omega (arith, rest)

seen_all : (test : Stem → Bool) (lengths : List Ack) (old new : Table) → SeesAll lengths old new
    → count_rows (of_sinks test) new.rows ≤ count_rows (of_sinks test) old.rows
seen_all test [] old new same = let is = ap (λ (t : Table). count_rows (of_sinks test) t.rows) same
    in omega (arith, is)
seen_all test (k ∷ lengths) old new (mid, sees, more) =
    let rest = seen_all test lengths mid new more in
    let one = seen_one test k.stem k.number mid.committed old.rows in
    let is = ap (count_rows (of_sinks test)) sees.rows in
    omega (arith, rest, one, is)

-- ---- no more are left

pub no_more : (lengths : List Ack) (old new : Table) → SeesAll lengths old new
    → count_rows is_unmarked new.rows ≤ count_rows is_unmarked old.rows
no_more lengths old new sees =
    let test : Stem → Bool = λ x. true in
    let passed = seen_all test lengths old new sees in
    let others = seen_all (λ x. not (test x)) lengths old new sees in
    let before = split test old.rows in
    let behind = split test new.rows in
    omega (arith, passed, others, before, behind)

-- ---- and fewer, where none is below

-- where none of these rows is left below, none of them is of a sink that was named
none_below : (x : Stem) (lengths : List Ack) → is_some (length_of x lengths) ≡ true
    → (rows : List Row)
    → first_below lengths (filter is_unmarked rows) ≡ None
    → count_rows (of_sinks (same_stem x)) rows ≡ 0
none_below x lengths named [] none = refl
none_below x lengths named (row ∷ rows) none =
    go (is_unmarked row) none (none_below x lengths named rows)
  where
    some_below : (o : Option ℕ) → is_some o ≡ true
        → option_map {U = Below} (λ got. record { stem = row.stem; got = got; want = row.offset })
        o ≡ None → ⊥
    some_below None some e = true≢false (sym some)
    some_below (Some n) some e = none-some _ (sym e)

    -- it isn't of that sink
    other : (b : Bool) → is_some (length_of row.stem lengths) ≡ b
        → (if b then below_row lengths row else first_below lengths (filter is_unmarked rows)) ≡
        None
        → (same_stem x row.stem ≡ false) × (first_below lengths (filter is_unmarked rows) ≡ None)
    other true is e = absurd (some_below (length_of row.stem lengths) is e)
    other false is e = (apart (same_stem x row.stem) refl, e)
      where
        apart : (b : Bool) → same_stem x row.stem ≡ b → same_stem x row.stem ≡ false
        apart true same =
            absurd (true≢false (sym named ∙
            (ap (λ y. is_some (length_of y lengths)) (stem_is x row.stem same) ∙ is)))
        apart false same = same

    go : (u : Bool) → first_below lengths
        (if u then row ∷ filter is_unmarked rows else filter is_unmarked rows) ≡ None
        → (first_below lengths (filter is_unmarked rows) ≡ None
        → count_rows (of_sinks (same_stem x)) rows ≡ 0)
        → (if u && same_stem x row.stem then 1 else 0) + count_rows (of_sinks (same_stem x)) rows ≡
        0
    go true e rest =
        let o = other (is_some (length_of row.stem lengths)) refl e in
        let none = rest o.1 in
        let one = ap {B = ℕ} (λ b. if b then 1 else 0) o.0 in
        omega (arith, none, one)
    go false e rest = let none = rest e in omega (arith, none)

-- the first of them is one of its sink
first_counts : (r : Row) (more rows : List Row) → filter is_unmarked rows ≡ r ∷ more
    → 1 ≤ count_rows (of_sinks (same_stem r.stem)) rows
first_counts r more [] e = absurd (let z : ⊥ = cc in z)
first_counts r more (row ∷ rows) e = go (is_unmarked row) e (first_counts r more rows)
  where
    go : (u : Bool) → (if u then row ∷ filter is_unmarked rows else filter is_unmarked rows) ≡ r ∷
        more
        → (filter is_unmarked rows ≡ r ∷ more → 1 ≤ count_rows (of_sinks (same_stem r.stem)) rows)
        → 1 ≤ (if u && same_stem r.stem row.stem then 1 else 0) + count_rows
        (of_sinks (same_stem r.stem)) rows
    go true e rest =
        let same : row ≡ r = cc in
        let self : same_stem r.stem row.stem ≡ true =
        ap (λ (k : Row). same_stem r.stem k.stem) same ∙ stem_self r.stem in
        let one = ap {B = ℕ} (λ b. if b then 1 else 0) self in
        omega (arith, one)
    go false e rest = let more = rest e in omega (arith, more)

pub fewer : (lengths : List Ack) (old new : Table) → asked_stems old ≢ []
    → AreFor (asked_stems old) lengths
    → SeesAll lengths old new → below_in lengths new ≡ None
    → count_rows is_unmarked new.rows < count_rows is_unmarked old.rows
fewer lengths old new some are sees none = go (filter is_unmarked old.rows) refl some are
  where
    go : (rows : List Row) → filter is_unmarked old.rows ≡ rows
        → first_stems 64 [] (map (λ (r : Row). r.stem) rows) ≢ []
        → AreFor (first_stems 64 [] (map (λ (r : Row). r.stem) rows)) lengths
        → count_rows is_unmarked new.rows < count_rows is_unmarked old.rows
    go [] is some are = absurd (some refl)
    go (r ∷ rows) is some are =
        let test = same_stem r.stem in
        let gone = none_below r.stem lengths (named lengths are) new.rows none in
        let one = first_counts r rows old.rows is in
        let others = seen_all (λ x. not (test x)) lengths old new sees in
        let before = split test old.rows in
        let behind = split test new.rows in
        omega (arith, gone, one, others, before, behind)
      where
        named : (lengths : List Ack) → AreFor
            (first_stems 64 [] (map (λ (r : Row). r.stem) (r ∷ rows))) lengths
            → is_some (length_of r.stem lengths) ≡ true
        named [] are = absurd are
        named (k ∷ lengths) are =
            ap (λ b. is_some (option_map (λ (k : Ack). k.number)
            (if b then Some k else find (λ (k : Ack). same_stem k.stem r.stem) lengths)))
            (ap (λ x. same_stem x r.stem) are.0 ∙ stem_self r.stem)

-- ---- where rows are there, one isn't marked

pub some_asked : (t : Table) → IsSound t → t.rows ≢ [] → asked_stems t ≢ []
some_asked t sound some = go t.rows refl some
  where
    go : (rows : List Row) → t.rows ≡ rows → rows ≢ []
        → first_stems 64 [] (map (λ (r : Row). r.stem) (filter is_unmarked rows)) ≢ []
    go [] is some = λ e. some refl
    go (r ∷ rows) is some =
        first (is_of r.adaptor r) (eq-eqb r.adaptor r.adaptor refl)
        (subst (λ rows. BeginsUnmarked (rows_of r.adaptor rows)) is (sound.gap r.adaptor known))
      where
        known : r.adaptor < length t.committed
        known = subst (All (λ row. row.adaptor < length t.committed)) is sound.known 0 r
            (omega arith)

        unmarked : (m : Bool) → m ≡ false → first_stems 64 [] (map (λ (r : Row). r.stem)
            (if not m then r ∷ filter is_unmarked rows else filter is_unmarked rows)) ≢ []
        unmarked true e = absurd (true≢false e)
        unmarked false e = λ empty. let z : ⊥ = cc in z

        first : (b : Bool) → b ≡ true → BeginsUnmarked
            (if b then r ∷ rows_of r.adaptor rows else rows_of r.adaptor rows)
            → first_stems 64 [] (map (λ (r : Row). r.stem) (filter is_unmarked (r ∷ rows))) ≢ []
        first true is fresh = unmarked r.marked fresh
        first false is fresh = absurd (true≢false (sym is))
