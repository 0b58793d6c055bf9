-- The heads of a stream's block are all heads of the stream.
use Rattle.std.proofs.Common.{◌≡◌, ℕ, zero, suc, ◌+◌, ◌-◌, ◌<◌, ◌≤◌, Bool, true, false, List, []}
use Rattle.std.proofs.Common.{◌∷◌, length, take, drop, refl, ap, sym, ◌∙◌, arith}
use Rattle.std.specs.Prelude.{if◌then◌else◌, filter}
use Rattle.chk_chunk.specs.Keys.{Stream}
use Rattle.chk_record_index.specs.Heads.{Head}
use Rattle.chk_record_reader.specs.Courses.{is_head_of}
use Rattle.chk_join_sources.specs.declared.blocks.Block.{Block}
use Rattle.chk_join_sources.specs.Blocks.{head_in, StreamsRise}
use Rattle.chk_join_sources.specs.Plans.{IsBlockOf}

module _ (p : Head → Bool) where
  abbrev with_it : Head → List Head → Bool → List Head
  with_it x xs b = if b then x ∷ filter p xs else filter p xs

  none : (hs : List Head) → ((k : ℕ) → k < length hs → p (head_in hs k) ≡ false) → filter p hs ≡ []
  none [] no_one = refl
  none (x ∷ xs) no_one =
      ap (with_it x xs) (no_one 0 (omega arith))
      ∙ none xs (λ k less. no_one (suc k) (omega (arith, less)))

  front : (hs : List Head) (n : ℕ) → n ≤ length hs → ((k : ℕ) → k < n → p (head_in hs k) ≡ true)
      → ((k : ℕ) → n ≤ k → k < length hs → p (head_in hs k) ≡ false) → take n hs ≡ filter p hs
  front hs zero fits all behind = sym (none hs (λ k less. behind k (omega arith) less))
  front [] (suc n) fits all behind = absurd (let z : ⊥ = omega (arith, fits) in z)
  front (x ∷ xs) (suc n) fits all behind =
      ap (λ l. x ∷ l)
      (front xs n (omega (arith, fits)) (λ k less. all (suc k) (omega (arith, less)))
      (λ k from less. behind (suc k) (omega (arith, from)) (omega (arith, less))))
      ∙ ap (with_it x xs) (sym (all 0 (omega arith)))

  all_of_block : (hs : List Head) (first n : ℕ) → first + n ≤ length hs
      → ((k : ℕ) → k < first → p (head_in hs k) ≡ false)
      → ((k : ℕ) → first ≤ k → k < first + n → p (head_in hs k) ≡ true)
      → ((k : ℕ) → first + n ≤ k → k < length hs → p (head_in hs k) ≡ false)
      → take n (drop first hs) ≡ filter p hs
  all_of_block hs zero n fits before all behind =
      front hs n (omega (arith, fits)) (λ k less. all k (omega arith) (omega (arith, less)))
      (λ k from less. behind k (omega (arith, from)) less)
  all_of_block [] (suc first) n fits before all behind =
      absurd (let z : ⊥ = omega (arith, fits) in z)
  all_of_block (x ∷ xs) (suc first) n fits before all behind =
      all_of_block xs first n (omega (arith, fits)) (λ k less. before (suc k) (omega (arith, less)))
      (λ k from less. all (suc k) (omega (arith, from)) (omega (arith, less)))
      (λ k from less. behind (suc k) (omega (arith, from)) (omega (arith, less)))
      ∙ ap (with_it x xs) (sym (before 0 (omega arith)))

pub block_heads : (hs : List Head) (s : Stream) (b : Block) → StreamsRise hs → IsBlockOf hs s b
    → take (b.end - b.first) (drop b.first hs) ≡ filter (is_head_of s) hs
block_heads hs s b rise is =
    let low = is.low in
    let high = is.high in
    let holds = is.holds rise in
    all_of_block (is_head_of s) hs b.first (b.end - b.first) (omega (arith, low, high))
    holds.before (λ k from less. is.all k from (omega (arith, low, from, less)))
    (λ k from less. holds.behind k (omega (arith, low, from)) less)
