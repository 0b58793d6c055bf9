-- The one of two ends that has more bytes is taken.
use Rattle.std.proofs.Common.{◌≡◌, ◌⊎◌, inl, inr, ℕ, ◌<◌, ◌≤◌, Bool, true, false, List, sym, subst, arith, length, map}
use Rattle.std.specs.Prelude.{Result, Option, Some, None, Ok, Err, IfOk, IfNone, nat_lt, if◌then◌else◌}
use Rattle.chk_record_index.specs.declared.fault.JobFault.{JobFault}
use Rattle.chk_join_sources.specs.declared.difference.Difference.{Difference}
use Rattle.std.proofs.lemmas.Bool.{lt-ltb, le-ltb, cases_lt}
use Rattle.std.proofs.lemmas.List.{length-map}
use Rattle.chk_world.specs.Books.{End}
use Rattle.chk_record_index.specs.Heads.{Head}
use Rattle.chk_book.specs.declared.lists.End.{End as EndStruct}
use Rattle.chk_book.specs.Views.{end_view}
use Rattle.chk_join_sources.specs.declared.blocks.Block.{Block}
use Rattle.chk_join_sources.specs.declared.plan.Plan.{Plan}
use Rattle.chk_join_sources.specs.Pairs.{paired}
use Rattle.chk_join_sources.specs.Plans.{IsBlockOf, HasTaken, HasTakenPair}

module _ (hs js : List Head) (a b : End) (first second : Block) (before after : Plan) (left : IsBlockOf hs a.stream first)
    (right : IsBlockOf js b.stream second) where
  pub took_longer : (b.end ≤ a.end → HasTaken a (record { from_right = false; block = first }) before after)
      → (a.end < b.end → HasTaken b (record { from_right = true; block = second }) before after)
      → HasTakenPair hs js (paired a b) before after
  took_longer low high = go (cases_lt a.end b.end)
    where
      go : (a.end < b.end) ⊎ (b.end ≤ a.end) → HasTakenPair hs js (paired a b) before after
      go (inr k) =
          let e : nat_lt a.end b.end ≡ false = le-ltb a.end b.end k in (
            record { from_right = false; block = first },
            record {
              side = sym e;
              block = subst (λ (t : Bool). IsBlockOf (if t then js else hs) (if t then b else a).stream first) (sym e) left;
            },
            subst (λ (t : Bool). HasTaken (if t then b else a) (record { from_right = false; block = first }) before after) (sym e) (low k),
          )
      go (inl k) =
          let e : nat_lt a.end b.end ≡ true = lt-ltb a.end b.end k in (
            record { from_right = true; block = second },
            record {
              side = sym e;
              block = subst (λ (t : Bool). IsBlockOf (if t then js else hs) (if t then b else a).stream second) (sym e) right;
            },
            subst (λ (t : Bool). HasTaken (if t then b else a) (record { from_right = true; block = second }) before after) (sym e) (high k),
          )

-- where both are alike
pub took_pair : (result : Result (Option Difference) JobFault) (hs js : List Head) (a b : End) (first second : Block) (before after : Plan)
    → IsBlockOf hs a.stream first → IsBlockOf js b.stream second
    → (b.end ≤ a.end → IfOk result (λ d. IfNone d (HasTaken a (record { from_right = false; block = first }) before after)))
    → (a.end < b.end → IfOk result (λ d. IfNone d (HasTaken b (record { from_right = true; block = second }) before after)))
    → IfOk result (λ d. IfNone d (HasTakenPair hs js (paired a b) before after))
took_pair (Ok None) hs js a b first second before after left right low high =
    took_longer hs js a b first second before after left right low high
took_pair (Ok (Some d)) hs js a b first second before after left right low high = tt
took_pair (Err fault) hs js a b first second before after left right low high = tt

-- a place among ends is one among those that they stand for
pub in_ends : (es : List EndStruct) (k : ℕ) → k < length es → k < length (map end_view es)
in_ends es k below = let same = length-map es end_view in omega (arith, same, below)

pub up_to_ends : (es : List EndStruct) (k : ℕ) → k ≤ length es → k ≤ length (map end_view es)
up_to_ends es k below = let same = length-map es end_view in omega (arith, same, below)
