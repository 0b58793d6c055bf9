-- The same of a stream's split, whose records have their ends.
use Rattle.std.proofs.Common.{◌≡◌, ℕ, ◌+◌, Bool, true, false, List, [], ◌∷◌, ◌++◌, length, drop, ap, sym, ◌∙◌, refl, arith, length-append, if◌then◌else◌}
use Rattle.std.proofs.lemmas.List.Sums.{sum_by-cons}
use Rattle.std.specs.Prelude.{bytes_eq}
use Rattle.std.specs.List.{list_any}
use Rattle.chk_bytes.specs.Words.{joined}
use Rattle.chk_world.specs.Splits.{Record, ends_from, split_lines, split_stamped}
use Rattle.chk_demux_split.specs.Splitting.{pieces_of}
use Rattle.chk_demux_split.specs.Laws.{size_of, SplitIsPieces, SplitGoesOn, SplitGrows}
use Rattle.chk_demux_split.proofs.SplitLemmas.{goes_on_behind, pieces_grow}

pub split_pieces : SplitIsPieces
split_pieces stamped s start bytes = by (list_any (bytes_eq s.kind) stamped)
  where
    by : (t : Bool) → (if t then split_stamped start bytes else split_lines start bytes)
        ≡ ends_from start (pieces_of t bytes)
    by true = refl
    by false = refl

-- the pieces that some records and others are of
record Parts (at : ℕ) (pieces : List (List ℕ)) (first more : List Record) : Type 0 where
  front : List (List ℕ)
  rest : List (List ℕ)
  are : pieces ≡ front ++ rest
  size : length (joined front) ≡ size_of first
  more_is : more ≡ ends_from (at + size_of first) rest

parts_of : (at : ℕ) (pieces : List (List ℕ)) (first more : List Record)
    → ends_from at pieces ≡ first ++ more → Parts at pieces first more
parts_of at pieces [] more e = record {
  front = [];
  rest = pieces;
  are = refl;
  size = refl;
  more_is = sym e ∙ ap (λ n. ends_from n pieces) (let z : at ≡ at + 0 = omega arith in z);
}
parts_of at [] (r ∷ first) more e = absurd (cc)
parts_of at (p ∷ pieces) (r ∷ first) more e =
    let head : record { bytes = p; end = at + length p } ≡ r = cc in
    let tail : ends_from (at + length p) pieces ≡ first ++ more = cc in
    let same : p ≡ r.bytes = ap (λ (x : Record). x.bytes) head in
    let later = parts_of (at + length p) pieces first more tail in
    let sum = sum_by-cons (λ (x : Record). length x.bytes) r first in
    let piece : length p ≡ length r.bytes = ap length same in
    let rest_size = later.size in
    let both = length-append p (joined later.front) in record {
      front = p ∷ later.front;
      rest = later.rest;
      are = ap (λ l. p ∷ l) later.are;
      size = omega (arith, sum, piece, rest_size, both);
      more_is =
          later.more_is
          ∙ ap (λ n. ends_from n later.rest)
          (let z : at + length p + size_of first ≡ at + size_of (r ∷ first) =
          omega (arith, sum, piece) in z);
    }

pub split_goes_on : SplitGoesOn
split_goes_on stamped s start bytes first more e =
    let t = list_any (bytes_eq s.kind) stamped in
    let parts = parts_of start (pieces_of t bytes) first more
    (sym (split_pieces stamped s start bytes) ∙ e) in
    parts.more_is
    ∙ ap (ends_from (start + size_of first))
    (goes_on_behind t bytes parts.front parts.rest parts.are
    ∙ ap (λ n. pieces_of t (drop n bytes)) parts.size)
    ∙ sym (split_pieces stamped s (start + size_of first) (drop (size_of first) bytes))

pub ends-append : (at : ℕ) (a b : List (List ℕ))
    → ends_from at (a ++ b) ≡ ends_from at a ++ ends_from (at + length (joined a)) b
ends-append at [] b = ap (λ n. ends_from n b) (let z : at ≡ at + 0 = omega arith in z)
ends-append at (p ∷ a) b =
    let size = length-append p (joined a) in
    ap (λ l. record { bytes = p; end = at + length p } ∷ l)
    (ends-append (at + length p) a b
    ∙ ap (λ n. ends_from (at + length p) a ++ ends_from n b)
    (let z : at + length p + length (joined a) ≡ at + length (p ++ joined a) =
    omega (arith, size) in z))

pub split_grows : SplitGrows
split_grows stamped s start first later =
    let t = list_any (bytes_eq s.kind) stamped in
    let (more, is) = pieces_grow t first later in (
      ends_from (start + length (joined (pieces_of t first))) more,
      split_pieces stamped s start (first ++ later) ∙ ap (ends_from start) is
          ∙ ends-append start (pieces_of t first) more
          ∙ ap (λ l. l ++ ends_from (start + length (joined (pieces_of t first))) more)
          (sym (split_pieces stamped s start first)),
    )
