-- What is wanted of a stream's chunks lies in the newest of them.
use Rattle.std.proofs.Common.{◌≡◌, ◌∙◌, ℕ, ◌-◌, ◌<◌, List, [], ◌∷◌, ◌++◌, take}
use Rattle.std.proofs.Common.{drop, refl, sym, ap, subst, arith, append_assoc}
use Rattle.std.proofs.lemmas.List.{drop_all, take-append-drop}
use Rattle.std.proofs.lemmas.List.Elements.{filter-append}
use Rattle.chk_site.specs.Files.{Files}
use Rattle.chk_chunk.specs.Keys.{Chunk, chunk_end, is_of}
use Rattle.chk_world.specs.Books.{chunks_of_stream, chunks_within, values}
use Rattle.chk_world.specs.Jobs.{Run}
use Rattle.chk_world.specs.TrueBooks.{HasBytes}
use Rattle.chk_world.proofs.Each.{each_filter}
use Rattle.chk_world.proofs.BooksTrue.{run_length}
use Rattle.chk_record_index.specs.Pieces.{bytes_in}
use Rattle.chk_ctl_cat.specs.Archives.{chunks_held}
use Rattle.chk_ctl_cat.specs.Courses.{wanted}
use Rattle.chk_ctl_cat.proofs.Wanted.{wanted_held, held_bytes}
use Rattle.chk_ctl_streams.specs.Laws.{NewestHaveTheRest}
use Rattle.chk_ctl_cat.proofs.CourseLemmas.{wanted_both as wanted_parts}

held_then : (most : ℕ) (held : Files) (front back : List (List ℕ))
    → chunks_held most held (front ++ back)
    ≡ chunks_held most held front ++ chunks_held most held back
held_then most held [] back = refl
held_then most held (w ∷ front) back =
    ap (λ ks. chunks_within most (bytes_in (held w)) ++ ks) (held_then most held front back)
    ∙ sym (append_assoc (chunks_within most (bytes_in (held w))) (chunks_held most held front)
    (chunks_held most held back))

-- a run up to where another one begins that ends it
seam : (start n end first m to : ℕ) (xs ys : List Chunk) → Run start n (xs ++ ys) end
    → Run first m ys to → m < to → Run start n xs m
seam start n end first m to [] [] whole rest some =
    absurd (let z : ⊥ = omega (arith, rest, some) in z)
seam start n end first m to [] (y ∷ ys) whole rest some = sym rest.1 ∙ whole.1
seam start n end first m to (x ∷ xs) ys whole rest some =
    (whole.0, whole.1, seam start (chunk_end x) end first m to xs ys whole.2 rest some)

pub newest_have : NewestHaveTheRest
newest_have most held names oldest s begin start end first from to whole rest low past =
    let front = take oldest names in
    let back = drop oldest names in
    let ks = chunks_held most held front in
    let ls = chunks_held most held back in
    let parts : chunks_held most held names ≡ ks ++ ls =
    ap (chunks_held most held) (sym (take-append-drop oldest names))
    ∙ held_then most held front back in
    let split = ap (chunks_of_stream s) parts ∙ filter-append (is_of s) ks ls in
    let older : Run start start (chunks_of_stream s ks) from =
    seam start start end first from to (chunks_of_stream s ks) (chunks_of_stream s ls)
    (subst (λ cs. Run start start cs end) split whole) rest (omega (arith, low, past)) in
    let size = run_length start start (chunks_of_stream s ks) from
    (each_filter HasBytes (is_of s) ks (held_bytes most held front)) older in
    let none : wanted s begin ks ≡ [] =
    wanted_held most held front s begin start from older
    ∙ drop_all (begin - start) (values (chunks_of_stream s ks)) (omega (arith, size, low)) in
    sym (ap (wanted s begin) parts
    ∙ (wanted_parts s begin ks ls
    ∙ ap (λ t. t ++ wanted s begin ls) none))
