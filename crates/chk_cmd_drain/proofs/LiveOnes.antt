-- Which adaptors aren't past, and their paths.
use Rattle.std.proofs.Common.{◌≡◌, inl, inr, ℕ, suc, ◌+◌, ◌<◌, Bool, true, false, List, [], ◌∷◌, ◌++◌, Option, Some, Ok, Err, Result, drop, length, get_or, ap, sym, ◌∙◌, refl, arith, add-one, append_assoc, true≢false, if◌then◌else◌}
use Rattle.std.specs.Prelude.{slice_get, IfOk, is_some}
use Rattle.std.proofs.Math.Seq.{drop-cons}
use Rattle.std.proofs.lemmas.Option.{same_Some, slice_get_cases, slice_get-get_or}
use Rattle.chk_bytes.specs.declared.NoMemory.{NoMemory}
use Rattle.chk_control.specs.declared.answers.State.{State as Named}
use Rattle.chk_agent_adaptor.specs.declared.adaptor.Phase.{Phase}
use Rattle.chk_agent_adaptor.specs.declared.adaptor.Phase.TheVariants.{Live, Stopping, Shrank, Past}
use Rattle.chk_agent_adaptor.specs.Adaptors.{Adaptor, is_past}
use Rattle.chk_agent.specs.States.{State}
use Rattle.chk_agent.specs.Commands.{state_of, live_from}
use Rattle.chk_cmd_drain.specs.Streams.{IsPathAt, live_here}

-- there is one of this number
pub record IsOne (xs : List Adaptor) (n : ℕ) : Type 0 where
  pub adaptor : Adaptor
  pub at : slice_get xs n ≡ Some adaptor

pub one_at : (xs : List Adaptor) (n : ℕ) → n < length xs → IsOne xs n
one_at xs n below =
    elim ((slice_get_cases xs n).1) [
      | inl here ↦ record { adaptor = here.0; at = here.2 }
      | inr past ↦ absurd (let far = past.0 in let z : ⊥ = omega (arith, below, far) in z)
    ]

pub path_found : (s : State) (i : ℕ) → i < length s.adaptors → (text : List ℕ)
    → ((a : Adaptor) → slice_get s.adaptors i ≡ Some a → text ≡ a.path)
    → (r : Result (List ℕ) NoMemory) → IfOk r (λ word. word ≡ text) → IfOk r (IsPathAt s i)
path_found s i low text is (Ok word) h = elim (slice_get_cases s.adaptors i).1 [
  | inl k ↦ (k.0, k.2, h ∙ is k.0 k.2)
  | inr k ↦ absurd (let z : ⊥ = omega (arith, low, k.0) in z)
]
path_found s i low text is (Err fault) h = tt

-- by how it stands
none_by : (i : ℕ) (p : Phase) → is_some (state_of p) ≡ false
    → (if is_past p then [] else i ∷ []) ≡ []
none_by i Live none = absurd (true≢false none)
none_by i (Stopping end) none = absurd (true≢false none)
none_by i Shrank none = absurd (true≢false none)
none_by i Past none = refl

one_by : (i : ℕ) (p : Phase) → is_some (state_of p) ≡ true
    → (if is_past p then [] else i ∷ []) ≡ i ∷ []
one_by i Live some = refl
one_by i (Stopping end) some = refl
one_by i Shrank some = refl
one_by i Past some = absurd (true≢false (sym some))

module _ (i : ℕ) (a : Adaptor) (o : Option Named) (state : o ≡ state_of a.phase) where
  pub none_here : is_some o ≡ false → live_here i a ≡ []
  none_here none = none_by i a.phase (ap is_some (sym state) ∙ none)

  pub one_here : is_some o ≡ true → live_here i a ≡ i ∷ []
  one_here some = one_by i a.phase (ap is_some (sym state) ∙ some)

here_and_on : (i : ℕ) (a : Adaptor) (adaptors : List Adaptor)
    → live_from i (a ∷ adaptors) ≡ live_here i a ++ live_from (i + 1) adaptors
here_and_on i a adaptors = go (is_past a.phase)
  where
    go : (b : Bool) → (if b then live_from (i + 1) adaptors else i ∷ live_from (i + 1) adaptors)
        ≡ (if b then [] else i ∷ []) ++ live_from (i + 1) adaptors
    go true = refl
    go false = refl

-- the next adaptor's number, where it isn't past, and those behind it
pub live_next : (adaptors : List Adaptor) (i : ℕ) (a : Adaptor) → slice_get adaptors i ≡ Some a
    → i < length adaptors
    → live_from i (drop i adaptors) ≡ live_here i a ++ live_from (i + 1) (drop (i + 1) adaptors)
live_next adaptors i a got low =
    let is : get_or adaptors i a ≡ a = same_Some (get_or adaptors i a) a
    (sym (slice_get-get_or adaptors i a low) ∙ got) in
    ap (live_from i) (drop-cons adaptors i a low)
    ∙ (ap (λ (b : Adaptor). live_from i (b ∷ drop (suc i) adaptors)) is
    ∙ (here_and_on i a (drop (suc i) adaptors)
    ∙ ap (λ (k : ℕ). live_here i a ++ live_from (i + 1) (drop k adaptors)) (sym (add-one i))))

-- the numbers found so far, and those that are left
pub found_next : (adaptors : List Adaptor) (i : ℕ) (a : Adaptor) (found more all : List ℕ)
    → slice_get adaptors i ≡ Some a → i < length adaptors → more ≡ found ++ live_here i a
    → found ++ live_from i (drop i adaptors) ≡ all
    → more ++ live_from (i + 1) (drop (i + 1) adaptors) ≡ all
found_next adaptors i a found more all got low is so_far =
    let rest = live_from (i + 1) (drop (i + 1) adaptors) in
    ap (λ (k : List ℕ). k ++ rest) is
    ∙ (append_assoc found (live_here i a) rest
    ∙ (ap (λ (k : List ℕ). found ++ k) (sym (live_next adaptors i a got low)) ∙ so_far))
