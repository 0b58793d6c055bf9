-- Segments whose records run as their book says are never damaged.
use Rattle.std.proofs.Common.{◌≡◌, ℕ, ◌≤◌, ◌-◌, Bool, true, false, ◌&&◌, List, [], ◌∷◌, ◌++◌, length, map, Option, Some, None, refl, sym, ◌∙◌, ap, subst, arith, if◌then◌else◌}
use Rattle.std.specs.Prelude.{Contains, nat_le, ◌==◌}
use Rattle.std.proofs.lemmas.Bool.{and_from}
use Rattle.std.proofs.lemmas.Option.{none-some}
use Rattle.chk_site.specs.Files.{Files}
use Rattle.chk_chunk.specs.Keys.{Stream, Chunk, chunk_end}
use Rattle.chk_world.specs.Books.{End, Book, chunks_of_stream}
use Rattle.chk_world.specs.Jobs.{Run}
use Rattle.chk_world.proofs.Each.{Each, each_at, later_one}
use Rattle.chk_record_index.specs.Heads.{Head}
use Rattle.chk_record_index.specs.Pieces.{bytes_in}
use Rattle.chk_record_index.proofs.NoDamage.{no_damage}
use Rattle.chk_book.specs.Folders.{most_in}
use Rattle.chk_record_reader.specs.Segments.{names_of, IsSound, heads_from, chunks_in_files}
use Rattle.chk_record_reader.specs.Courses.{is_head_of, end_of, goes_on, first_break, first_head, reached, IsBreakBy}
use Rattle.chk_record_reader.specs.Archives.{chunk_in, RunsSo, bad_segment, broken, unreached, IsDamagedAt}
use Rattle.chk_record_reader.proofs.Joining.{BeginsSo, chunks_from, begin_from}

-- a run ends at its begin or past it
run_rises : (start from to : ℕ) (cs : List Chunk) → Run start from cs to → from ≤ to
run_rises start from to [] run = let e = run in let z : from ≤ to = omega (arith, e) in z
run_rises start from to (c ∷ cs) run =
    let begins : c.key.seq - length c.value ≡ from = run.1 in
    let rest : c.key.seq ≤ to = run_rises start (chunk_end c) to cs run.2 in
    omega (arith, begins, rest)

abbrev Well : Stream → End → ℕ → List Head → Type 0
Well s e from heads = (first_break s e from heads ≡ None) × (reached s from heads ≡ e.end)

goes_well : (s : Stream) (e : End) (names : List (List ℕ)) (held : Files) (from : ℕ) (heads : List Head)
    → Each (BeginsSo names held) heads → Run e.start from (chunks_of_stream s (map (chunk_in names held) heads)) e.end
    → Well s e from heads
goes_well s e names held from [] begins run = (refl, sym run)
goes_well s e names held from (h ∷ hs) begins run =
    go (is_head_of s h) refl (λ (n : ℕ) r. goes_well s e names held n hs begins.1 r) run
  where
    go : (b : Bool) → is_head_of s h ≡ b
        → ((n : ℕ) → Run e.start n (chunks_of_stream s (map (chunk_in names held) hs)) e.end → Well s e n hs)
        → Run e.start from
        (if b then chunk_in names held h ∷ chunks_of_stream s (map (chunk_in names held) hs) else chunks_of_stream s (map (chunk_in names held) hs)) e.end
        → ((if b then (if goes_on e from h then first_break s e h.key.seq hs else Some h) else first_break s e from hs) ≡ None)
        × ((if b then reached s h.key.seq hs else reached s from hs) ≡ e.end)
    go true mine rest run =
        let far : h.key.seq ≤ e.end = run_rises e.start h.key.seq e.end (chunks_of_stream s (map (chunk_in names held) hs)) run.2 in
        let start : (h.key.start == e.start) ≡ true = let k : h.key.start ≡ e.start = run.0 in grind (arith, k) in
        let begin : (h.begin == from) ≡ true = let k : h.begin ≡ from = begins.0 ∙ run.1 in grind (arith, k) in
        let low : nat_le h.key.seq e.end ≡ true = grind (arith, far) in
        let on : goes_on e from h ≡ true =
        and_from (h.key.start == e.start) (h.begin == from && nat_le h.key.seq e.end) start
        (and_from (h.begin == from) (nat_le h.key.seq e.end) begin low) in
        let w = rest h.key.seq run.2 in
        (ap (λ b. if b then first_break s e h.key.seq hs else Some h) on ∙ w.0, w.1)
    go false mine rest run = rest from run

none_first : (s : Stream) (names : List (List ℕ)) (held : Files) (heads : List Head)
    → chunks_of_stream s (map (chunk_in names held) heads) ≡ [] → first_head s heads ≡ None
none_first s names held [] none = refl
none_first s names held (h ∷ hs) none = go (is_head_of s h) (λ e. none_first s names held hs e) none
  where
    go : (b : Bool) → (chunks_of_stream s (map (chunk_in names held) hs) ≡ [] → first_head s hs ≡ None)
        → (if b then chunk_in names held h ∷ chunks_of_stream s (map (chunk_in names held) hs) else chunks_of_stream s (map (chunk_in names held) hs)) ≡ []
        → (if b then Some h else first_head s hs) ≡ None
    go true rest e = absurd (cc)
    go false rest e = rest e

module _ (folder : List ℕ) (b : Book) (held : Files) (sound : Each (IsSound (most_in folder) held) (names_of folder b))
    (run : (s : Stream) → RunsSo (end_of s b.ends) (chunks_of_stream s (chunks_in_files (most_in folder) held (names_of folder b)))) where
  abbrev Names : List (List ℕ)
  Names = names_of folder b

  abbrev Hs : List Head
  Hs = heads_from (most_in folder) held 0 Names

  chunks : map (chunk_in Names held) Hs ≡ chunks_in_files (most_in folder) held Names
  chunks = chunks_from (most_in folder) Names held 0 [] Names refl refl

  well : (s : Stream) (o : Option End) → RunsSo o (chunks_of_stream s (chunks_in_files (most_in folder) held Names))
      → IsBreakBy s o Hs None
  well s None none = (none_first s Names held Hs (ap (chunks_of_stream s) chunks ∙ none), tt)
  well s (Some e) r =
      goes_well s e Names held e.start Hs (begin_from (most_in folder) Names held 0 [] Names refl refl)
      (subst (λ cs. Run e.start e.start (chunks_of_stream s cs) e.end) (sym chunks) r)

  pub undamaged : (s : Stream) (name : List ℕ) (at : ℕ) → IsDamagedAt folder b held s name at → ⊥
  undamaged s name at (bad_segment bad) =
      no_damage (most_in folder) (bytes_in (held name))
      (each_at (IsSound (most_in folder) held) Names name sound
      (subst (λ l. Contains l name) (sym bad.split) (in_middle bad.front name bad.back))) at bad.bad
    where
      in_middle : (front : List (List ℕ)) (w : List ℕ) (back : List (List ℕ)) → Contains (front ++ w ∷ back) w
      in_middle [] w back = (0, omega arith, refl)
      in_middle (x ∷ front) w back = later_one x (front ++ w ∷ back) w (in_middle front w back)
  undamaged s name at (broken all b1) = none-some b1.head (sym (well s (end_of s b.ends) (run s)).0 ∙ b1.is)
  undamaged s name at (unreached all none not of place) = not (well s (end_of s b.ends) (run s)).1
