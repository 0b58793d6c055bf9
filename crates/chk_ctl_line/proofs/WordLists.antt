-- Words that may be the addresses of an agent's collectors, and those that may name stores.
use Rattle.std.proofs.Common.{◌≡◌, ◌≤◌, ℕ, List, length, map, refl}
use Rattle.std.specs.Borrow.{Bor}
use Rattle.std.specs.List.{list_all}
use Rattle.std.proofs.lemmas.Bool.{le-leb}
use Rattle.std.proofs.lemmas.List.{length-map}
use Rattle.std.proofs.lemmas.List.Folds.{list_all-map}
use Rattle.chk_bytes.specs.Words.{is_word}
use Rattle.chk_ctl_line.specs.Names.{are_collectors, are_stores, is_path}

-- so many words, of which each is one
pub words_fit : (xs : List (Bor (List ℕ))) → 1 ≤ length xs → length xs ≤ 64
    → list_all (λ w. is_word w.now) xs ≡ are_collectors (map (λ w. w.now) xs)
words_fit xs low high = rw (
  length-map xs (λ (w : Bor (List ℕ)). w.now),
  le-leb 1 (length xs) low,
  le-leb (length xs) 64 high,
  list_all-map is_word (λ (w : Bor (List ℕ)). w.now) xs,
) refl

-- the same of the paths of stores
pub paths_fit : (xs : List (Bor (List ℕ))) → 2 ≤ length xs → length xs ≤ 64
    → list_all (λ w. is_path w.now) xs ≡ are_stores (map (λ w. w.now) xs)
paths_fit xs low high = rw (
  length-map xs (λ (w : Bor (List ℕ)). w.now),
  le-leb 2 (length xs) low,
  le-leb (length xs) 64 high,
  list_all-map is_path (λ (w : Bor (List ℕ)). w.now) xs,
) refl
