-- Where a log stands among those that were looked at.
use Rattle.std.proofs.Common.{◌≡◌, ◌<◌, ◌≤◌, ℕ, List, inl, inr, refl, ap, ◌∙◌, arith, length}
use Rattle.std.specs.Prelude.{get_or, insert, string_bytes}
use Rattle.std.proofs.lemmas.List.Edits.{get_or-insert_at, length-insert}
use Rattle.chk_site_rotations.specs.declared.log.Log.{Log}
use Rattle.chk_site_rotations.specs.Logs.{IsAt, IsPlaced, IsNew}

pub placed_there : (logs : List Log) (path : List ℕ) (place : ℕ) → IsAt logs place path
    → IsPlaced logs logs path place
placed_there logs path place at = record { at = at; others = inl refl }

pub placed_new : (logs new : List Log) (path : List ℕ) (place : ℕ) (log : Log) → place ≤ length logs
    → new ≡ insert logs place log → IsNew log path → IsPlaced logs new path place
placed_new logs new path place log within put fresh =
    let size = ap length put ∙ length-insert logs place log within in
    record {
      at = (
        omega (arith, size, within),
        λ d. ap (λ (x : List Log). string_bytes (get_or x place d).path) put
            ∙ (ap (λ (x : Log). string_bytes x.path) (get_or-insert_at logs place log d within) ∙ fresh.0),
      );
      others = inr (log, put, fresh);
    }

pub not_within : (place size : ℕ) → place < size → size ≤ place → ⊥
not_within place size lt le = omega (arith, lt, le)
