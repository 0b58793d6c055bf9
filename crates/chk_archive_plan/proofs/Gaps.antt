-- The chunks of a stream that end past the end reached are those from the first gap on.
use Rattle.std.proofs.Common.{◌≡◌, inl, inr, ℕ, ◌≤◌, ◌<◌, Bool, true, false, cond, List, [], ◌∷◌, ap, ◌∙◌, refl, arith}
use Rattle.std.specs.Prelude.{nat_lt, filter}
use Rattle.std.proofs.lemmas.Bool.{lt-ltb, le-ltb, ltb-true, ltb-false}
use Rattle.chk_chunk.specs.Keys.{Chunk, chunk_begin, chunk_end}
use Rattle.chk_archive_plan.specs.Plan.{goes_on, reached_from, NoneBelow, BeginsRise}
use Rattle.chk_world.specs.TrueBooks.{HasBytes}
use Rattle.chk_archive_plan.proofs.Reaching.{goes_not, reached_on, stuck}
use Rattle.chk_world.proofs.Each.{Each}

-- from the first chunk on that begins past the end reached so far
abbrev pub behind_gap : ℕ → List Chunk → List Chunk
behind_gap reached [] = []
behind_gap reached (c ∷ cs) = elim (goes_on reached c) [
  | true ↦ behind_gap (chunk_end c) cs
  | false ↦ elim (nat_lt reached (chunk_begin c)) [ true ↦ c ∷ cs | false ↦ behind_gap reached cs ]
]

abbrev pub past : ℕ → List Chunk → List Chunk
past n cs = filter (λ c. nat_lt n (chunk_end c)) cs

dropped : (n : ℕ) (c : Chunk) (cs : List Chunk) → chunk_end c ≤ n → past n (c ∷ cs) ≡ past n cs
dropped n c cs le = ap (λ b. cond b (c ∷ past n cs) (past n cs)) (le-ltb n (chunk_end c) le)

all_past : (n at : ℕ) (cs : List Chunk) → n < at → NoneBelow at cs → Each HasBytes cs → past n cs
    ≡ cs
all_past n at [] low none all = refl
all_past n at (c ∷ cs) low none all =
    let begins = none.0 in
    let some = all.0.some in
    let room = all.0.room in
    ap (λ b. cond b (c ∷ past n cs) (past n cs))
    (lt-ltb n (chunk_end c) (omega (arith, begins, low, some, room))) ∙ ap (λ l. c ∷ l)
    (all_past n at cs low none.1 all.1)

pub past_is : (reached : ℕ) (cs : List Chunk) → BeginsRise cs → Each HasBytes cs → past
    (reached_from reached cs) cs ≡ behind_gap reached cs
past_is reached [] rise all = refl
past_is reached (c ∷ cs) rise all =
    go (goes_on reached c) refl (nat_lt reached (chunk_begin c)) refl
    (past_is (chunk_end c) cs rise.1 all.1) (past_is reached cs rise.1 all.1)
  where
    go : (b : Bool) → goes_on reached c ≡ b → (g : Bool) → nat_lt reached (chunk_begin c) ≡ g
        → past (reached_from (chunk_end c) cs) cs ≡ behind_gap (chunk_end c) cs → past
        (reached_from reached cs) cs ≡ behind_gap reached cs
        → past (elim b as (λ b. ℕ) [
          | true ↦ reached_from
              (chunk_end c) cs
          | false ↦ reached_from reached cs
        ]) (c ∷ cs)
        ≡ elim b as (λ b. List Chunk) [
          | true ↦ behind_gap (chunk_end c) cs
          | false ↦ elim g as
              (λ g. List Chunk) [ true ↦ c ∷ cs | false ↦ behind_gap reached cs ]
        ]
    go true e g k on off = dropped (reached_from (chunk_end c) cs) c cs
        (reached_on (chunk_end c) cs) ∙ on
    go false e true k on off =
        let low = ltb-true reached (chunk_begin c) k in
        let still = stuck reached (chunk_begin c) cs low rise.0 in
        let some = all.0.some in
        let room = all.0.room in
        ap (λ n. past n (c ∷ cs)) still
        ∙ (ap (λ b. cond b (c ∷ past reached cs) (past reached cs))
        (lt-ltb reached (chunk_end c) (omega (arith, low, some, room)))
        ∙ ap (λ l. c ∷ l) (all_past reached (chunk_begin c) cs low rise.0 all.1))
    go false e false k on off =
        let high = ltb-false reached (chunk_begin c) k in
        let more = reached_on reached cs in
        elim (goes_not reached c e) [
          | inl gap ↦ absurd (let z : ⊥ = omega (arith, gap, high) in z)
          | inr under ↦ dropped (reached_from reached cs) c cs (omega (arith, under, more)) ∙ off
        ]
