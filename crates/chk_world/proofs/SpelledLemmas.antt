-- Checkpoints and books: what is read was spelled so, and in which version it is written.
use Rattle.std.proofs.Common.{◌≡◌, ℕ, Bool, true, false, not, List, [], ◌∷◌, Some, refl, ap, length, if◌then◌else◌}
use Rattle.std.specs.Prelude.{IsTrue, nat_lt, nat_le}
use Rattle.std.specs.List.{list_all}
use Rattle.std.proofs.lemmas.Bool.{and_parts, and_from}
use Rattle.chk_bytes.specs.Numbers.{spelled_at}
use Rattle.chk_bytes.specs.Words.{parts_at}
use Rattle.chk_bytes.specs.Stems.{is_count}
use Rattle.chk_bytes.proofs.SpellingLemmas.{spelling-Some}
use Rattle.chk_world.specs.Checkpoints.{Line, Version, One, Two, is_line, are_apart, fits_version, are_lines, written_version, checkpoint_text, guessed_version, guessed_lines, behind_first, read_checkpoint}
use Rattle.chk_world.specs.Books.{Book, Version as BookVersion, One as First, Two as Second, Three as Third, is_segment, segments_rise, is_end, ends_rise, is_aside, begins_at_0, is_nothing, fits_version as fits, is_book, written_version as written_book_version, book_bytes, guessed_version as guessed_book_version, guessed, read_book}

pub checkpoint_so : (text : List ℕ) (lines : List Line) → read_checkpoint text ≡ Some lines
    → (v : Version) × IsTrue (are_lines v lines) × (checkpoint_text v lines ≡ text)
unfolding read_checkpoint
checkpoint_so text lines h =
    let v = guessed_version (parts_at 10 text) in
    let s = spelling-Some (are_lines v) (checkpoint_text v) (guessed_lines (behind_first (parts_at 10 text))) lines text h in
    (v, s.1, s.2)

-- lines that one version can spell another one can, where it fits them
refit : (v w : Version) (lines : List Line) → list_all (fits_version w) lines ≡ true → IsTrue (are_lines v lines)
    → IsTrue (are_lines w lines)
refit v w lines fit h =
    let a = and_parts (nat_le (length lines) 10000) _ h in
    let b = and_parts (list_all is_line lines) _ a.1 in
    let c = and_parts (list_all (fits_version v) lines) (are_apart lines) b.1 in
    and_from _ _ a.0 (and_from _ _ b.0 (and_from _ _ fit c.1))

pub all_fit_two : (lines : List Line) → list_all (fits_version Two) lines ≡ true
all_fit_two [] = refl
all_fit_two (l ∷ lines) = all_fit_two lines

pub checkpoint_written : (v : Version) (lines : List Line) → IsTrue (are_lines v lines)
    → IsTrue (are_lines (written_version lines) lines)
checkpoint_written v lines h = go (list_all (fits_version One) lines) refl
  where
    go : (b : Bool) → list_all (fits_version One) lines ≡ b → IsTrue (are_lines (if b then One else Two) lines)
    go true e = refit v One lines e h
    go false e = refit v Two lines (all_fit_two lines) h

pub book_so : (bytes : List ℕ) (b : Book) → read_book bytes ≡ Some b
    → (v : BookVersion) × IsTrue (is_book v b) × (book_bytes v b ≡ bytes)
unfolding read_book
book_so bytes b h =
    let v = guessed_book_version (spelled_at 4 1 bytes) in
    let s = spelling-Some (is_book v) (book_bytes v) (guessed v bytes) b bytes h in
    (v, s.1, s.2)

-- a book in another version that fits it
refit_book : (v w : BookVersion) (b : Book) → fits w b ≡ true → IsTrue (is_book v b) → IsTrue (is_book w b)
refit_book v w b fit h =
    let p1 = and_parts (is_count b.next) _ h in
    let p2 = and_parts (nat_lt (length b.segments) 4294967296) _ p1.1 in
    let p3 = and_parts (list_all (is_segment b.next) b.segments) _ p2.1 in
    let p4 = and_parts (segments_rise b.segments) _ p3.1 in
    let p5 = and_parts (nat_lt (length b.ends) 4294967296) _ p4.1 in
    let p6 = and_parts (list_all is_end b.ends) _ p5.1 in
    let p7 = and_parts (ends_rise b.ends) _ p6.1 in
    let p8 = and_parts (is_aside b.next b.segments b.aside) (fits v b) p7.1 in
    and_from _ _ p1.0 (and_from _ _ p2.0 (and_from _ _ p3.0 (and_from _ _ p4.0 (and_from _ _ p5.0 (and_from _ _ p6.0
    (and_from _ _ p7.0 (and_from _ _ p8.0 fit)))))))

pub book_written : (v : BookVersion) (b : Book) → IsTrue (is_book v b) → IsTrue (is_book (written_book_version b) b)
book_written v b h = go (is_nothing b.aside) (list_all begins_at_0 b.ends) refl refl
  where
    go : (n z : Bool) → is_nothing b.aside ≡ n → list_all begins_at_0 b.ends ≡ z
        → IsTrue (is_book (if not n then Third else if z then First else Second) b)
    go false z e f = refit_book v Third b (ap not e) h
    go true true e f = refit_book v First b (and_from _ _ f e) h
    go true false e f = refit_book v Second b e h
