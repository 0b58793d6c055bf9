-- What is wanted of a run of chunks.
use Rattle.std.proofs.Common.{◌≡◌, ◌⊎◌, inl, inr, ℕ, ◌+◌, ◌-◌, ◌<◌, ◌≤◌, List, [], ◌∷◌, ◌++◌, length, drop, sym, ap, ap₂, ◌∙◌, arith}
use Rattle.std.specs.Prelude.{flat_map}
use Rattle.std.proofs.lemmas.List.{drop_all, drop-append-le}
use Rattle.std.proofs.Math.Seq.{drop-append-add}
use Rattle.chk_site.specs.Files.{Files}
use Rattle.chk_chunk.specs.Keys.{Stream, Chunk, chunk_begin, chunk_end, is_of}
use Rattle.chk_world.specs.Books.{chunks_of_stream, values, chunks_within}
use Rattle.chk_world.specs.Jobs.{Run}
use Rattle.chk_world.specs.TrueBooks.{HasBytes}
use Rattle.chk_world.proofs.Each.{Each, each_filter}
use Rattle.chk_world.proofs.BooksTrue.{each_within, each_append}
use Rattle.chk_record_index.specs.Pieces.{bytes_in}
use Rattle.chk_ctl_cat.specs.Courses.{wanted_of, wanted}
use Rattle.chk_ctl_cat.specs.Archives.{chunks_held}

drop_parts : (n : ℕ) (xs ys : List ℕ) → drop n (xs ++ ys) ≡ drop n xs ++ drop (n - length xs) ys
drop_parts n xs ys = by (grind arith)
  where
    by : (n ≤ length xs) ⊎ (length xs < n) → drop n (xs ++ ys) ≡ drop n xs ++ drop (n - length xs) ys
    by (inl low) =
        let none : 0 ≡ n - length xs = omega (arith, low) in
        drop-append-le n xs ys low ∙ ap (λ m. drop n xs ++ drop m ys) none
    by (inr past) =
        let all : n ≡ length xs + (n - length xs) = omega (arith, past) in
        let none : drop n xs ≡ [] = drop_all n xs (omega (arith, past)) in
        ap (λ m. drop m (xs ++ ys)) all ∙ drop-append-add xs ys (n - length xs)
        ∙ sym (ap (λ t. t ++ drop (n - length xs) ys) none)

wanted_run : (begin start from to : ℕ) (ks : List Chunk) → Each HasBytes ks → Run start from ks to
    → flat_map (wanted_of begin) ks ≡ drop (begin - from) (values ks)
wanted_run begin start from to [] all run = sym (drop_all (begin - from) [] (omega arith))
wanted_run begin start from to (k ∷ ks) all run =
    let room : length k.value ≤ chunk_end k = all.0.room in
    let here : chunk_begin k ≡ from = run.1 in
    let later : begin - chunk_end k ≡ begin - from - length k.value = omega (arith, room, here) in
    ap₂ (λ x y. x ++ y) (ap (λ m. drop (begin - m) k.value) here)
    (wanted_run begin start (chunk_end k) to ks all.1 run.2 ∙ ap (λ m. drop m (values ks)) later)
    ∙ sym (drop_parts (begin - from) k.value (values ks))

pub held_bytes : (most : ℕ) (held : Files) (names : List (List ℕ)) → Each HasBytes (chunks_held most held names)
held_bytes most held [] = tt
held_bytes most held (w ∷ ws) =
    each_append HasBytes (chunks_within most (bytes_in (held w))) (chunks_held most held ws)
    (each_within most (bytes_in (held w))) (held_bytes most held ws)

pub wanted_held : (most : ℕ) (held : Files) (names : List (List ℕ)) (s : Stream) (begin start to : ℕ)
    → Run start start (chunks_of_stream s (chunks_held most held names)) to
    → wanted s begin (chunks_held most held names) ≡ drop (begin - start) (values (chunks_of_stream s (chunks_held most held names)))
wanted_held most held names s begin start to run =
    wanted_run begin start start to (chunks_of_stream s (chunks_held most held names))
    (each_filter HasBytes (is_of s) (chunks_held most held names) (held_bytes most held names)) run
