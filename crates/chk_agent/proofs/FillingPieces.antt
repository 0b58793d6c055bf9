-- Whether a step of a fill gave as much as one may.
use Rattle.std.proofs.Common.{◌≡◌, ℕ, ◌+◌, ◌≤◌, Bool, true, false, List, [], ◌∷◌, ◌++◌, length}
use Rattle.std.proofs.Common.{drop, Option, Result, Ok, ap, sym, subst, ◌∙◌, refl, arith}
use Rattle.std.proofs.Common.{length-append}
use Rattle.std.specs.Prelude.{◌||◌, ◌==◌}
use Rattle.std.proofs.lemmas.List.{drop-append-le}
use Rattle.std.proofs.lemmas.List.Folds.{list_any-append}
use Rattle.std.specs.List.{list_any}
use Rattle.chk_site.specs.History.{History}
use Rattle.chk_chunk.specs.declared.Chunk.{Chunk}
use Rattle.chk_tail.specs.declared.step.Step.{Step}
use Rattle.chk_tail.specs.declared.step.Step.TheVariants.{Bytes, AtEnd as gave_none}
use Rattle.chk_tail.specs.declared.step.Step.TheVariants.{Shrank as is_short}
use Rattle.chk_agent_adaptor.specs.Adaptors.{Adaptor}
use Rattle.chk_agent.specs.declared.answers.AgentFault.{AgentFault}
use Rattle.chk_agent.specs.declared.answers.Stepped.{Stepped}
use Rattle.chk_agent.specs.declared.answers.Stepped.TheVariants.{Read as step_read}
use Rattle.chk_agent.specs.declared.answers.Stepped.TheVariants.{AtEnd as step_at_end}
use Rattle.chk_agent.specs.declared.answers.Stepped.TheVariants.{Held as step_held}
use Rattle.chk_agent.specs.declared.answers.Stepped.TheVariants.{Shrank as step_shrank}
use Rattle.chk_agent.specs.States.{State, chunk_given}
use Rattle.chk_agent.specs.Fills.{after_step, step_answer, IsOneStepped, held, made, refused}
use Rattle.chk_agent.specs.Fills.{unkept, wanting}
use Rattle.chk_agent.specs.Pieces.{is_piece, gave_piece}

abbrev waiting : State → List Chunk
waiting s = s.delivery.queue.chunks

-- what was noted since this state
pub record Noted (s t : State) (before now : Bool) : Type 0 where
  pub grown : length s.delivery.queue.chunks ≤ length t.delivery.queue.chunks
  pub full : now ≡ (before || gave_piece s t)

or_none : (b : Bool) → b ≡ (b || false)
or_none true = refl
or_none false = refl

or_assoc : (x y z : Bool) → ((x || y) || z) ≡ (x || (y || z))
or_assoc true y z = refl
or_assoc false y z = refl

drop_all : (xs : List Chunk) → drop (length xs) xs ≡ []
drop_all [] = refl
drop_all (x ∷ xs) = drop_all xs

pub noted_begun : (s : State) (before : Bool) → Noted s s before before
noted_begun s before = record {
  grown = omega arith;
  full = or_none before ∙ ap (λ xs. before || list_any is_piece xs) (sym (drop_all (waiting s)));
}

-- one chunk more
piece_more : (xs ys : List Chunk) (c : Chunk) → length xs ≤ length ys
    → list_any is_piece (drop (length xs) (ys ++ c ∷ [])) ≡ (list_any is_piece (drop (length xs) ys) || is_piece c)
piece_more xs ys c within =
    ap (list_any is_piece) (drop-append-le (length xs) ys (c ∷ []) within)
    ∙ (list_any-append is_piece (drop (length xs) ys) (c ∷ [])
    ∙ ap (λ b. list_any is_piece (drop (length xs) ys) || b) (sym (or_none (is_piece c))))

abbrev ok_of : Stepped → Result Stepped AgentFault
ok_of r = Ok r

same_ok : {a b : Stepped} → ok_of a ≡ ok_of b → a ≡ b
same_ok e = cc

bytes_of : (step : Step) (n : ℕ) → step_answer step ≡ step_read n
    → (bytes : List ℕ) × (end : ℕ) × (step ≡ Bytes bytes end) × (length bytes ≡ n)
bytes_of (Bytes bytes end) n e = (bytes, end, refl, let z : length bytes ≡ n = cc in z)
bytes_of gave_none n e = absurd (let z : ⊥ = cc in z)
bytes_of (is_short had size) n e = absurd (let z : ⊥ = cc in z)

read_more : (x : ℕ) (s t : State) (a b : Adaptor) (bytes : List ℕ) (end n : ℕ) {before now : Bool} → length bytes ≡ n
    → Noted s t before now → (after : Bool) → after ≡ (now || n == 131072) → Noted s (after_step x (Bytes bytes end) a b t) before after
read_more x s t a b bytes end n {before = before} {now = now} size noted after is =
    let c = chunk_given t a bytes end in
    let more : length (waiting t ++ c ∷ []) ≡ length (waiting t) + 1 = length-append (waiting t) (c ∷ []) in
    let grown = noted.grown in
    record {
      grown = omega (arith, grown, more);
      full =
          is ∙ (ap (λ k. now || k == 131072) (sym size)
          ∙ (ap (λ b. b || is_piece c) noted.full
          ∙ (or_assoc before (gave_piece s t) (is_piece c)
          ∙ ap (λ b. before || b) (sym (piece_more (waiting s) (waiting t) c grown)))));
    }

-- a step that gave so many bytes
pub noted_read : (x : ℕ) (s t u : State) (a : Adaptor) (res : Result Stepped AgentFault) (n : ℕ) {here new : Option History} {before now : Bool}
    → IsOneStepped x a t res u here new → res ≡ Ok (step_read n) → Noted s t before now → (after : Bool) → after ≡ (now || n == 131072)
    → Noted s u before after
noted_read x s t u a res n (held room) e noted after is = absurd (let z : ⊥ = cc in z)
noted_read x s t u a res n {before = before} (made b step room st) e noted after is =
    let p = bytes_of step n (same_ok e) in
    subst (λ k. Noted s (after_step x k a b t) before after) (sym p.2)
    (read_more x s t a b p.0 p.1 n p.3 noted after is)
noted_read x s t u a res n (refused b fault room st) e noted after is = absurd (let z : ⊥ = cc in z)
noted_read x s t u a res n (unkept b step room st) e noted after is = absurd (let z : ⊥ = cc in z)
noted_read x s t u a res n (wanting room) e noted after is = absurd (let z : ⊥ = cc in z)

-- one that gave none
abbrev pub GaveNone : Stepped → Type 0
GaveNone (step_read n) = ⊥
GaveNone step_at_end = Unit {0}
GaveNone (step_held used) = Unit {0}
GaveNone (step_shrank had size) = Unit {0}

none_more : (x : ℕ) (s t : State) (a b : Adaptor) (step : Step) {before now : Bool} → GaveNone (step_answer step)
    → Noted s t before now → Noted s (after_step x step a b t) before now
none_more x s t a b (Bytes bytes end) none noted = absurd none
none_more x s t a b gave_none none noted = record { grown = noted.grown; full = noted.full }
none_more x s t a b (is_short had size) none noted = record { grown = noted.grown; full = noted.full }

pub noted_none : (x : ℕ) (s t u : State) (a : Adaptor) (r : Stepped) → GaveNone r → (res : Result Stepped AgentFault)
    {here new : Option History} {before now : Bool}
    → IsOneStepped x a t res u here new → res ≡ Ok r → Noted s t before now → Noted s u before now
noted_none x s t u a r none res (held room) e noted = noted
noted_none x s t u a r none res (made b step room st) e noted =
    none_more x s t a b step (subst GaveNone (sym (same_ok e)) none) noted
noted_none x s t u a r none res (refused b fault room st) e noted = absurd (let z : ⊥ = cc in z)
noted_none x s t u a r none res (unkept b step room st) e noted = absurd (let z : ⊥ = cc in z)
noted_none x s t u a r none res (wanting room) e noted = absurd (let z : ⊥ = cc in z)
