-- The files of other folders are none of those that a join writes.
use Rattle.std.proofs.Common.{◌≡◌, inl, inr, ℕ, ◌+◌, ◌/◌, ◌%◌, Bool, true, false, ◌||◌, ◌&&◌, not}
use Rattle.std.proofs.Common.{List, [], ◌∷◌, ◌++◌, refl, ap, sym, subst, ◌∙◌, arith, true≢false}
use Rattle.std.proofs.Common.{bytes_eq, zero, suc, if◌then◌else◌}
use Rattle.std.specs.Prelude.{codes, ◌==◌, nat_lt, Contains, map}
use Rattle.std.specs.List.{list_any}
use Rattle.std.specs.Fmt.{digits, digits_onto, digit_glyph}
use Rattle.std.proofs.lemmas.Bool.{and_parts, or_from}
use Rattle.std.proofs.lemmas.List.Elements.{Contains-append_left, Contains-append_right}
use Rattle.chk_site.specs.Files.{Files}
use Rattle.chk_world.proofs.Ends.{bytes_same, bytes_self}
use Rattle.chk_world.specs.Books.{Segment, Book}
use Rattle.chk_world.proofs.Each.{later_one}
use Rattle.chk_book.specs.Folders.{segment_name, segment_stem, book_name, is_folder, most_in}
use Rattle.chk_chunk.specs.Keys.{chunk_limit, record_limit}
use Rattle.chk_record_reader.specs.Segments.{names_of, AreSettled}
use Rattle.chk_record_reader.specs.Merging.{AreApart}
use Rattle.chk_join_sources.specs.Copying.{joined_segment}
use Rattle.chk_join.specs.Joined.{can_join, joined_folder, archive_files, reads_of, folder_book}
use Rattle.chk_join.specs.Preparing.{Covers}
use Rattle.chk_join.proofs.RunFacts.{none_in}
use Rattle.chk_archive_parts.proofs.InTurn.{from_both}

-- ---- slashes

abbrev pub is_slash : ℕ → Bool
is_slash b = b == 47

glyph_no_slash : (d : ℕ) → is_slash (digit_glyph false d) ≡ false
glyph_no_slash d = go (nat_lt d 10)
  where
    go : (t : Bool) → is_slash (if t then 48 + d else 87 + d) ≡ false
    go true = grind arith
    go false = grind arith

-- digits are none
digits_no_slash : (k n : ℕ) (acc : List ℕ) → list_any is_slash acc ≡ false
    → list_any is_slash (digits_onto k 10 false n acc) ≡ false
digits_no_slash zero n acc none = none
digits_no_slash (suc k) n acc none =
    let glyph = digit_glyph false (n % 10) in
    let one : list_any is_slash (glyph ∷ acc) ≡ false =
    or_from (is_slash glyph) (list_any is_slash acc) (glyph_no_slash (n % 10)) none in
    either (n / 10 == 0) one (digits_no_slash k (n / 10) (glyph ∷ acc) one)
  where
    either : (t : Bool) → list_any is_slash (digit_glyph false (n % 10) ∷ acc) ≡ false
        → list_any is_slash (digits_onto k 10 false (n / 10) (digit_glyph false (n % 10) ∷ acc)) ≡ false
        → list_any is_slash (if t then digit_glyph false (n % 10) ∷ acc
        else digits_onto k 10 false (n / 10) (digit_glyph false (n % 10) ∷ acc)) ≡ false
    either true one more = one
    either false one more = more

-- the last part of a segment's name
pub stem_no_slash : (n : ℕ) → list_any is_slash (segment_stem n) ≡ false
unfolding digits
stem_no_slash n = digits_no_slash 64 n [] refl

slash_there : (xs ys : List ℕ) → list_any is_slash (xs ++ 47 ∷ ys) ≡ true
slash_there [] ys = refl
slash_there (x ∷ xs) ys = either (is_slash x) (slash_there xs ys)
  where
    either : (b : Bool) → list_any is_slash (xs ++ 47 ∷ ys) ≡ true → (b || list_any is_slash (xs ++ 47 ∷ ys)) ≡ true
    either true e = refl
    either false e = e

-- of two names with a slash, the last part of the one having none, the other's folder is the one's or lies below it
-- (`front` is what of the folder isn't gone through yet)
front_is : (f g x y : List ℕ) → list_any is_slash g ≡ false → list_any is_slash y ≡ false
    → f ++ 47 ∷ x ≡ g ++ 47 ∷ y → f ≡ g
front_is [] [] x y plain none e = refl
front_is [] (c ∷ g) x y plain none e =
    let head : 47 ≡ c = cc in
    absurd (true≢false (sym (ap (λ b. is_slash b || list_any is_slash g) (sym head)) ∙ plain))
front_is (c ∷ f) [] x y plain none e =
    let tail : f ++ 47 ∷ x ≡ y = cc in
    absurd (true≢false (sym (slash_there f x) ∙ (ap (list_any is_slash) tail ∙ none)))
front_is (c ∷ f) (d ∷ g) x y plain none e =
    let head : c ≡ d = cc in
    let tail : f ++ 47 ∷ x ≡ g ++ 47 ∷ y = cc in
    cons_both head (front_is f g x y (second (is_slash d) (list_any is_slash g) plain) none tail)
  where
    cons_both : c ≡ d → f ≡ g → c ∷ f ≡ d ∷ g
    cons_both h t = ap (λ k. k ∷ f) h ∙ ap (λ l. d ∷ l) t

    second : (a b : Bool) → (a || b) ≡ false → b ≡ false
    second true b h = absurd (true≢false h)
    second false b h = h

-- a file of another folder
pub apart_named : (folder x y : List ℕ) → list_any is_slash y ≡ false → bytes_eq folder joined_folder ≡ false
    → bytes_eq (folder ++ 47 ∷ x) (joined_folder ++ 47 ∷ y) ≡ false
apart_named folder x y plain other = go (bytes_eq (folder ++ 47 ∷ x) (joined_folder ++ 47 ∷ y)) refl
  where
    go : (b : Bool) → bytes_eq (folder ++ 47 ∷ x) (joined_folder ++ 47 ∷ y) ≡ b
        → bytes_eq (folder ++ 47 ∷ x) (joined_folder ++ 47 ∷ y) ≡ false
    go false e = e
    go true e =
        let same : folder ++ 47 ∷ x ≡ joined_folder ++ 47 ∷ y =
        bytes_same (folder ++ 47 ∷ x) (joined_folder ++ 47 ∷ y) e in
        let is : folder ≡ joined_folder = front_is folder joined_folder x y refl plain same in
        absurd (true≢false (sym (ap (λ f. bytes_eq f joined_folder) is ∙ bytes_self joined_folder) ∙ other))

pub apart_file : (folder x : List ℕ) (n : ℕ) → bytes_eq folder joined_folder ≡ false
    → bytes_eq (folder ++ 47 ∷ x) (joined_segment n) ≡ false
apart_file folder x n other = apart_named folder x (segment_stem n) (stem_no_slash n) other

-- the book of `joined` is no segment there
pub apart_book : (n : ℕ) → bytes_eq (book_name joined_folder) (joined_segment n) ≡ false
apart_book n = refl

-- ---- a folder that can be joined

pub other_folder : (folder : List ℕ) → can_join folder ≡ true → bytes_eq folder joined_folder ≡ false
other_folder folder can =
    let p = and_parts (is_folder folder) (not (bytes_eq folder joined_folder) && not (bytes_eq folder (codes "demux"))) can in
    let q = and_parts (not (bytes_eq folder joined_folder)) (not (bytes_eq folder (codes "demux"))) p.1 in
    not_true (bytes_eq folder joined_folder) q.0
  where
    not_true : (b : Bool) → not b ≡ true → b ≡ false
    not_true true e = absurd (true≢false (sym e))
    not_true false e = refl

pub plain_folder : (folder : List ℕ) → can_join folder ≡ true → is_folder folder ≡ true
plain_folder folder can =
    (and_parts (is_folder folder) (not (bytes_eq folder joined_folder) && not (bytes_eq folder (codes "demux"))) can).0

pub chunk_most : (folder : List ℕ) → can_join folder ≡ true → most_in folder ≡ chunk_limit
chunk_most folder can =
    let p = and_parts (is_folder folder) (not (bytes_eq folder joined_folder) && not (bytes_eq folder (codes "demux"))) can in
    let q = and_parts (not (bytes_eq folder joined_folder)) (not (bytes_eq folder (codes "demux"))) p.1 in
    go (bytes_eq folder (codes "demux")) q.1
  where
    go : (b : Bool) → not b ≡ true → (if b then record_limit else chunk_limit) ≡ chunk_limit
    go true e = absurd (true≢false (sym e))
    go false e = refl

-- ---- what is read

names_apart : (folder : List ℕ) (b : Book) (n : ℕ) → bytes_eq folder joined_folder ≡ false
    → AreApart (names_of folder b) (joined_segment n)
names_apart folder b n other v one = go b.segments one
  where
    go : (gs : List Segment) → Contains (map (λ (g : Segment). segment_name folder g.number) gs) v
        → bytes_eq v (joined_segment n) ≡ false
    go [] k = absurd (none_in v k)
    go (g ∷ gs) (zero, low, at) =
        subst (λ w. bytes_eq w (joined_segment n) ≡ false) at (apart_file folder (segment_stem g.number) n other)
    go (g ∷ gs) (suc k, low, at) = go gs (k, omega (arith, low), at)

archive_apart : (files : Files) (folder : List ℕ) (n : ℕ) → bytes_eq folder joined_folder ≡ false
    → AreApart (archive_files files folder) (joined_segment n)
archive_apart files folder n other v (zero, low, at) =
    subst (λ w. bytes_eq w (joined_segment n) ≡ false) at (apart_file folder (codes "book") n other)
archive_apart files folder n other v (suc k, low, at) =
    names_apart folder (folder_book files folder) n other v (k, omega (arith, low), at)

pub covers : (files : Files) (left right : List ℕ) → can_join left ≡ true → can_join right ≡ true
    → AreSettled (reads_of files left right) files → Covers (reads_of files left right) files left right
covers files left right can could settled =
    let ls = archive_files files left in
    let rs = archive_files files right in
    let joined = book_name joined_folder in
    record {
      settled = settled;
      apart = λ n v one. all_apart n v one;
      left_book = later_one joined (ls ++ rs) (book_name left) (Contains-append_left ls rs (book_name left) (0, omega arith, refl));
      right_book = later_one joined (ls ++ rs) (book_name right) (Contains-append_right ls rs (book_name right) (0, omega arith, refl));
      left_names = λ w one.
          later_one joined (ls ++ rs) w
          (Contains-append_left ls rs w (later_one (book_name left) (names_of left (folder_book files left)) w one));
      right_names = λ w one.
          later_one joined (ls ++ rs) w
          (Contains-append_right ls rs w (later_one (book_name right) (names_of right (folder_book files right)) w one));
    }
  where
    all_apart : (n : ℕ) → AreApart (reads_of files left right) (joined_segment n)
    all_apart n v (zero, low, at) = subst (λ w. bytes_eq w (joined_segment n) ≡ false) at (apart_book n)
    all_apart n v (suc k, low, at) =
        elim (from_both (archive_files files left) (archive_files files right) v (k, omega (arith, low), at)) [
          | inl one ↦ archive_apart files left n (other_folder left can) v one
          | inr one ↦ archive_apart files right n (other_folder right could) v one
        ]
