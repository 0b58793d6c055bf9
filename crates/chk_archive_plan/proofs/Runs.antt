-- The pass over what was found, put in order, reaches what the run's report says.
use Rattle.std.proofs.Common.{◌≡◌, ℕ, zero, suc, ◌<◌, true, List, [], ◌∷◌, length, ap, sym, subst, ◌∙◌, refl, arith}
use Rattle.std.specs.Prelude.{IsTrue, Contains, Any, None, count_by, filter, slice_index_or}
use Rattle.chk_site.specs.History.{History, files_after}
use Rattle.chk_chunk.specs.Keys.{Stream, Chunk, Covers, is_of}
use Rattle.chk_chunk.specs.Reach.{IsReach}
use Rattle.chk_world.specs.Committed.{aside_chunks}
use Rattle.chk_world.specs.ArchiveRuns.{Listing, put_in, in_order, comes_before, found, end_before, end_since, HasReached, unclosed_in, total_gain, is_closed, sink_path, IsArchiveRun}
use Rattle.chk_record_index.proofs.Sorting.{at_test}
use Rattle.chk_archive_plan.specs.Plan.{reached_from, ends_of, set_aside}
use Rattle.chk_archive_plan.proofs.Reaching.{CoveredBy, reaches}
use Rattle.chk_archive_plan.proofs.Parts.{ends_at}
use Rattle.chk_archive_plan.proofs.ChunkOrder.{in_order_ordered, ordered_rise}
use Rattle.chk_world.proofs.Each.{later_one, passes_in, filter_in, filter_each, each_at}

-- ---- the same chunks, in order

in_put : (c : Chunk) (ds : List Chunk) → Contains (put_in c ds) c
in_put c [] = (0, omega arith, refl)
in_put c (d ∷ ds) =
    let rest = in_put c ds in
    at_test (λ l. Contains l c) (comes_before d c) (d ∷ put_in c ds) (c ∷ d ∷ ds)
    (λ e. later_one d (put_in c ds) c rest) (λ e. (0, omega arith, refl))

still_put : (c d : Chunk) (ds : List Chunk) → Contains ds d → Contains (put_in c ds) d
still_put c d ds one = go ds one.0 one.1 one.2
  where
    go : (ds : List Chunk) (k : ℕ) → k < length ds → slice_index_or ds k d ≡ d → Contains
        (put_in c ds) d
    go [] k below at = absurd (let z : ⊥ = omega arith in z)
    go (e ∷ ds) zero below at =
        at_test (λ l. Contains l d) (comes_before e c) (e ∷ put_in c ds) (c ∷ e ∷ ds)
        (λ t. (0, omega arith, at)) (λ t. later_one c (e ∷ ds) d (0, omega arith, at))
    go (e ∷ ds) (suc k) below at =
        let rest = go ds k (omega (arith, below)) at in
        at_test (λ l. Contains l d) (comes_before e c) (e ∷ put_in c ds) (c ∷ e ∷ ds)
        (λ t. later_one e (put_in c ds) d rest)
        (λ t. later_one c (e ∷ ds) d (suc k, omega (arith, below), at))

pub put_all : (cs : List Chunk) (c : Chunk) → Contains cs c → Contains (in_order cs) c
put_all cs c one = go cs one.0 one.1 one.2
  where
    go : (cs : List Chunk) (k : ℕ) → k < length cs → slice_index_or cs k c ≡ c → Contains
        (in_order cs) c
    go [] k below at = absurd (let z : ⊥ = omega arith in z)
    go (d ∷ cs) zero below at = subst (λ x. Contains (put_in d (in_order cs)) x) at
        (in_put d (in_order cs))
    go (d ∷ cs) (suc k) below at = still_put d c (in_order cs) (go cs k (omega (arith, below)) at)

from_put : (c d : Chunk) (ds : List Chunk) → Contains (put_in c ds) d → Contains (c ∷ ds) d
from_put c d [] one = one
from_put c d (e ∷ ds) one =
    at_test (λ l. Contains l d → Contains (c ∷ e ∷ ds) d) (comes_before e c) (e ∷ put_in c ds)
    (c ∷ e ∷ ds)
    (λ t one. go one (λ k. from_put c d ds k)) (λ t one. one) one
  where
    go : Contains (e ∷ put_in c ds) d → (Contains (put_in c ds) d → Contains (c ∷ ds) d) → Contains
        (c ∷ e ∷ ds) d
    go (zero, below, at) rest = later_one c (e ∷ ds) d (0, omega arith, at)
    go (suc k, below, at) rest = up (rest (k, omega (arith, below), at))
      where
        up : Contains (c ∷ ds) d → Contains (c ∷ e ∷ ds) d
        up (zero, below, at) = (0, omega arith, at)
        up (suc k, below, at) = (suc (suc k), omega (arith, below), at)

pub all_put : (cs : List Chunk) (c : Chunk) → Contains (in_order cs) c → Contains cs c
all_put [] c one = one
all_put (d ∷ cs) c one = go (from_put d c (in_order cs) one) (λ k. all_put cs c k)
  where
    go : Contains (d ∷ in_order cs) c → (Contains (in_order cs) c → Contains cs c) → Contains
        (d ∷ cs) c
    go (zero, below, at) rest = (0, omega arith, at)
    go (suc k, below, at) rest = later_one d cs c (rest (k, omega (arith, below), at))

-- ---- what is covered

covers_so : (s : Stream) (cs : List Chunk) (o : ℕ) → CoveredBy (filter (is_of s) (in_order cs)) o
    → Any (Covers s o) cs
covers_so s cs o (c, one, low, high) =
    let of = each_at (λ c. is_of s c ≡ true) (filter (is_of s) (in_order cs)) c
    (filter_each (is_of s) (in_order cs)) one in
    let there = all_put cs c (filter_in (is_of s) (in_order cs) c one) in
    (there.0, c, there.1, there.2, (of, low, high))

covered_so : (s : Stream) (cs : List Chunk) (o : ℕ) → Any (Covers s o) cs → CoveredBy
    (filter (is_of s) (in_order cs)) o
covered_so s cs o (k, c, below, at, h) = (
  c,
  passes_in (is_of s) (in_order cs) c
      (put_all cs c (k, below, at)) h.0,
  h.1,
  h.2,
)

pub order_reaches : (cs : List Chunk) (s : Stream) (from : ℕ) → IsReach
    (λ o. Any (Covers s o) cs) from (reached_from from (filter (is_of s) (in_order cs)))
order_reaches cs s from =
    let r = reaches from (filter (is_of s) (in_order cs))
    (ordered_rise s (in_order cs) (in_order_ordered cs)) in
    record {
      on = r.on;
      no_gap = λ o low high. covers_so s cs o (r.no_gap o low high);
      greatest = λ e low all. r.greatest e low (λ o a b. covered_so s cs o (all o a b));
    }

-- a run whose archives end where the pass does has reached what its report says
pub has_reached : (history : History) (l : Listing) →
    ((s : Stream) → end_since history l s ≡ ends_of (end_before history l) (in_order (found l)) s)
    → HasReached history l
has_reached history l at s =
    subst (IsReach (λ o. Any (Covers s o) (found l)) (end_before history l s))
    (sym (at s ∙ ends_at (end_before history l) (in_order (found l)) s))
    (order_reaches (found l) s (end_before history l s))

-- ---- the run

-- what stands at the end of a run makes it one with these numbers
pub run_is : (history : History) (l : Listing) (unclosed taken held removed : ℕ)
    → unclosed ≡ unclosed_in l.names → taken ≡ total_gain (end_before history l)
    (in_order (found l))
    → ((s : Stream) → end_since history l s ≡ ends_of (end_before history l) (in_order (found l)) s)
    → aside_chunks (files_after history) ≡ set_aside
    (ends_of (end_before history l) (in_order (found l))) (in_order (found l))
    → held ≡ length (aside_chunks (files_after history)) → removed ≡ count_by is_closed l.names
    → ((name : List ℕ) → Contains l.names name → IsTrue (is_closed name) → files_after history
    (sink_path name) ≡ None)
    → IsArchiveRun history l unclosed taken held removed
run_is history l unclosed taken held removed u t at aside h r gone = record {
  unclosed_is = u;
  taken_is = t;
  reached = has_reached history l at;
  rest = record {
    aside = aside ∙ ap (λ (ends : Stream → ℕ). set_aside ends (in_order (found l)))
        (λ i s. sym (at s) i);
    held_is = h;
    removed_is = r;
    gone = gone;
  };
}
