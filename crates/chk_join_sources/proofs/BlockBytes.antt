-- The values of a stream's records are those of its block.
use Rattle.std.proofs.Common.{◌≡◌, ℕ, zero, suc, ◌+◌, ◌-◌, ◌<◌, ◌≤◌, Bool, true, false, List, [], ◌∷◌, ◌++◌, length, take, drop, refl, ap, ap₂, sym, ◌∙◌, arith}
use Rattle.std.specs.Prelude.{if◌then◌else◌, flat_map}
use Rattle.chk_site.specs.Files.{Files}
use Rattle.chk_chunk.specs.Keys.{Stream}
use Rattle.chk_record_index.specs.Heads.{Head}
use Rattle.chk_record_reader.specs.Courses.{is_head_of}
use Rattle.chk_record_reader.specs.Archives.{value_in}
use Rattle.chk_join_sources.specs.declared.gathering.Side.{Side}
use Rattle.chk_join_sources.specs.declared.blocks.Block.{Block}
use Rattle.chk_join_sources.specs.Blocks.{head_in, StreamsRise, AllOf, HoldsStream}
use Rattle.chk_join_sources.specs.Comparing.{values_between}
use Rattle.chk_join_sources.specs.Plans.{IsBlockOf}
use Rattle.chk_join_sources.specs.Differing.{bytes_of}

module _ (p : Head → Bool) (f : Head → List ℕ) where
  abbrev kept : Head → List ℕ
  kept h = if p h then f h else []

  none : (hs : List Head) → ((k : ℕ) → k < length hs → p (head_in hs k) ≡ false) → flat_map kept hs ≡ []
  none [] no_one = refl
  none (x ∷ xs) no_one =
      ap (λ (b : Bool). (if b then f x else []) ++ flat_map kept xs) (no_one 0 (omega arith))
      ∙ none xs (λ k less. no_one (suc k) (omega (arith, less)))

  front : (hs : List Head) (n : ℕ) → n ≤ length hs → ((k : ℕ) → k < n → p (head_in hs k) ≡ true)
      → ((k : ℕ) → n ≤ k → k < length hs → p (head_in hs k) ≡ false) → flat_map f (take n hs) ≡ flat_map kept hs
  front hs zero fits all behind = sym (none hs (λ k less. behind k (omega arith) less))
  front [] (suc n) fits all behind = absurd (let z : ⊥ = omega (arith, fits) in z)
  front (x ∷ xs) (suc n) fits all behind =
      ap₂ (λ (b : Bool) (v : List ℕ). (if b then f x else []) ++ v) (sym (all 0 (omega arith)))
      (front xs n (omega (arith, fits)) (λ k less. all (suc k) (omega (arith, less)))
      (λ k from less. behind (suc k) (omega (arith, from)) (omega (arith, less))))

  all_of_block : (hs : List Head) (first n : ℕ) → first + n ≤ length hs → ((k : ℕ) → k < first → p (head_in hs k) ≡ false)
      → ((k : ℕ) → first ≤ k → k < first + n → p (head_in hs k) ≡ true)
      → ((k : ℕ) → first + n ≤ k → k < length hs → p (head_in hs k) ≡ false)
      → flat_map f (take n (drop first hs)) ≡ flat_map kept hs
  all_of_block hs zero n fits before all behind =
      front hs n (omega (arith, fits)) (λ k less. all k (omega arith) (omega (arith, less)))
      (λ k from less. behind k (omega (arith, from)) less)
  all_of_block [] (suc first) n fits before all behind = absurd (let z : ⊥ = omega (arith, fits) in z)
  all_of_block (x ∷ xs) (suc first) n fits before all behind =
      all_of_block xs first n (omega (arith, fits)) (λ k less. before (suc k) (omega (arith, less)))
      (λ k from less. all (suc k) (omega (arith, from)) (omega (arith, less)))
      (λ k from less. behind (suc k) (omega (arith, from)) (omega (arith, less)))
      ∙ ap (λ (b : Bool). (if b then f x else []) ++ flat_map kept xs) (sym (before 0 (omega arith)))

pub block_bytes : (side : Side) (held : Files) (s : Stream) (b : Block) → StreamsRise side.heads.now
    → IsBlockOf side.heads.now s b → values_between side held b.first b.end ≡ bytes_of side held s
block_bytes side held s b rise is =
    let low = is.low in
    let high = is.high in
    let holds = is.holds rise in
    all_of_block (is_head_of s) (value_in side.names.now held) side.heads.now b.first (b.end - b.first) (omega (arith, low, high))
    holds.before (λ k from less. is.all k from (omega (arith, low, from, less)))
    (λ k from less. holds.behind k (omega (arith, low, from)) less)

-- the block that is found
pub is_block : (heads : List Head) (s : Stream) (b : Block) → (b.first ≤ b.end) × (b.end ≤ length heads) → AllOf heads s b.first b.end
    → (StreamsRise heads → HoldsStream heads s b.first b.end) → IsBlockOf heads s b
is_block heads s b within all holds = record { low = within.0; high = within.1; all = all; holds = holds }
