-- What holds of the places at which a reader may stop.
use Rattle.std.specs.Prelude.{◌≡◌, ◌≢◌, ◌⊎◌, ◌↔◌, ℕ, ◌+◌, ◌*◌, ◌<◌, ◌≤◌, Bool, true, false, List, ◌∷◌, ◌++◌, length, slice_index, IsTrue, is_some, option_to_list}
use Rattle.std.specs.List.{concat}
use Rattle.chk_site.specs.declared.acts.ActAnswer.TheVariants.{Done}
use Rattle.chk_site.specs.declared.suffixes.Piece.{Piece}
use Rattle.chk_site.specs.Honest.{AtLogRead}
use Rattle.chk_site.specs.Logs.{Shown, is_line_cut, is_cut_place, last_cut}

-- the next k bytes from p on are there, and none of them is a newline
pub record NoNewline (bytes : List ℕ) (p k : ℕ) : Type 0 where
  pub there : p + k ≤ length bytes
  pub lacks : (i : ℕ) → i < k → slice_index bytes (p + i) ≢ 10

-- From a cut place of a generation on, as far as no newline comes, the cut places are those 131,072 bytes on, and again
-- 131,072, whichever cut place of the line one begins at. The end of a rotated generation is one besides.
abbrev pub OneChain : Type 0
OneChain =
    (closed : Bool) (bytes : List ℕ) (p k d : ℕ)
    → IsTrue (is_line_cut closed 0 bytes p) → NoNewline bytes p k → d ≤ k
    → IsTrue (is_line_cut closed 0 bytes (p + d))
    ↔ (((j : ℕ) × (d ≡ 131072 * j)) ⊎ (IsTrue closed × (p + d ≡ length bytes)))

-- a cut place stays one when the base file grows
abbrev pub CutStays : Type 0
CutStays =
    (lines : Bool) (gs : List (List ℕ)) (base more : List ℕ) (at : ℕ)
    → IsTrue (is_cut_place lines gs base at) → IsTrue (is_cut_place lines gs (base ++ more) at)

-- without lines each place up to the end is a cut place
abbrev pub EachCut : Type 0
EachCut =
    (gs : List (List ℕ)) (base : List ℕ) (at : ℕ)
    → IsTrue (is_cut_place false gs base at) ↔ (at ≤ length (concat gs ++ base))

-- this is a cut place, no later than n, and none comes between
pub record IsLastCut (lines : Bool) (gs : List (List ℕ)) (base : List ℕ) (n at : ℕ) : Type 0 where
  pub cut : IsTrue (is_cut_place lines gs base at)
  pub within : at ≤ n
  pub none_between : (q : ℕ) → at < q → q ≤ n → IsTrue (is_cut_place lines gs base q) → ⊥

-- there is a last cut place up to each n
abbrev pub LastCut : Type 0
LastCut = (lines : Bool) (gs : List (List ℕ)) (base : List ℕ) (n : ℕ) → IsLastCut lines gs base n (last_cut lines gs base n)

-- a reader of lines may stop there in a generation, and any other reader anywhere
abbrev pub MayStop : Bool → Shown → ℕ → Type 0
MayStop false g at = Unit {0}
MayStop true g at = IsTrue (is_line_cut (is_some g.suffix) 0 g.bytes at)

-- what a reader of these bytes of a generation, from a place at which it may stop, takes of them ends at such a place
abbrev pub TakesToStop : Bool → ℕ → Piece → ℕ → Type 0
TakesToStop lines max piece n =
    (g : Shown) (at : ℕ) → MayStop lines g at → AtLogRead
    (Done (piece.bytes ∷ option_to_list piece.ended) 0 0) at max g
    → MayStop lines g (at + n)
