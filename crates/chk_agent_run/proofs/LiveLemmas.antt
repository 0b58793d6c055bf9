-- Whether one of the adaptors reads a stream: the one that has it tells.
use Rattle.std.proofs.Common.{◌≡◌, ℕ, ◌+◌, ◌<◌, Bool, true, false, ◌||◌, ◌&&◌, not, bytes_eq, true≢false, Option, List, [], ◌∷◌, length, map, Some, None, ap, ap₂, sym, ◌∙◌, refl, if◌then◌else◌}
use Rattle.std.specs.Prelude.{slice_get, is_some, option_map}
use Rattle.std.specs.List.{list_any}
use Rattle.std.proofs.lemmas.Bool.{and_parts, or_parts, or_from}
use Rattle.std.proofs.lemmas.Option.{same_Some, none-some}
use Rattle.chk_control.specs.declared.answers.State.{State as Named}
use Rattle.chk_world.specs.Checkpoints.{are_apart, clash, same_log}
use Rattle.chk_world.proofs.Ends.{bytes_same, bytes_self}
use Rattle.chk_agent_adaptor.specs.declared.adaptor.Phase.{Phase}
use Rattle.chk_agent_adaptor.specs.declared.adaptor.Phase.TheVariants.{Live, Stopping, Shrank, Past}
use Rattle.chk_agent_adaptor.specs.Adaptors.{Adaptor, is_past, line_at}
use Rattle.chk_agent.specs.Adds.{Found, stream_in}
use Rattle.chk_agent.specs.Commands.{state_of}
use Rattle.chk_agent.specs.Fits.{IsSound}
use Rattle.chk_agent.specs.States.{State}
use Rattle.chk_agent.proofs.AddingFound.{found_of, none_of}
use Rattle.chk_agent.proofs.Soundness.{below_at}
use Rattle.chk_agent_run.specs.Initial.{reads, is_live_in}
use Rattle.chk_control.proofs.SpelledLemmas.{false_from_not as not-true}

-- ---- truths

and_false : (b : Bool) → (b && false) ≡ false
and_false true = refl
and_false false = refl

and_true : (b : Bool) → (b && true) ≡ b
and_true true = refl
and_true false = refl

or_false : (b : Bool) → (b || false) ≡ b
or_false true = refl
or_false false = refl

turned : (a b : List ℕ) → bytes_eq a b ≡ bytes_eq b a
turned a b = go (bytes_eq a b) (bytes_eq b a) refl refl
  where
    go : (x y : Bool) → bytes_eq a b ≡ x → bytes_eq b a ≡ y → x ≡ y
    go true true p q = refl
    go false false p q = refl
    go true false p q =
        absurd (true≢false (sym (bytes_self a) ∙ ap (λ k. bytes_eq k a) (bytes_same a b p) ∙ q))
    go false true p q =
        absurd (true≢false (sym (bytes_self b) ∙ ap (λ k. bytes_eq k b) (bytes_same b a q) ∙ p))

-- ---- the adaptors

-- none of those that don't clash with the stream's adaptor reads the stream
none_else : (kind path : List ℕ) (a : Adaptor) (xs : List Adaptor) → a.kind ≡ kind → a.path ≡ path
    → list_any (clash (line_at 0 a)) (map (line_at 0) xs) ≡ false
    → list_any (reads kind path) xs ≡ false
none_else kind path a [] k p none = refl
none_else kind path a (x ∷ xs) k p none =
    let o = or_parts (clash (line_at 0 a) (line_at 0 x)) _ none in
    let other = (or_parts (same_log (line_at 0 a) (line_at 0 x)) _ o.0).0 in
    let apart : (bytes_eq x.kind kind && bytes_eq x.path path) ≡ false =
    ap₂ (λ s t. s && t) (turned x.kind kind ∙ ap (λ z. bytes_eq z x.kind) (sym k))
    (turned x.path path ∙ ap (λ z. bytes_eq z x.path) (sym p))
    ∙ other in
    or_from (reads kind path x) _
    (ap (λ b. not (is_past x.phase) && b) apart ∙ and_false (not (is_past x.phase)))
    (none_else kind path a xs k p o.1)

live_by : (kind path : List ℕ) (i : ℕ) (xs : List Adaptor) → are_apart (map (line_at 0) xs) ≡ true
    → (f : Found) → stream_in kind path i xs ≡ Some f
    → list_any (reads kind path) xs ≡ not (is_past f.adaptor.phase)
live_by kind path i [] apart f e = absurd (none-some f e)
live_by kind path i (a ∷ xs) apart f e =
    go (bytes_eq a.kind kind && bytes_eq a.path path) refl e
    (and_parts (not (list_any (clash (line_at 0 a)) (map (line_at 0) xs))) _ apart)
    (live_by kind path (i + 1) xs)
  where
    go : (b : Bool) → (bytes_eq a.kind kind && bytes_eq a.path path) ≡ b
        → (if b then Some (record { number = i; adaptor = a }) else stream_in kind path (i + 1) xs)
        ≡ Some f
        → (not (list_any (clash (line_at 0 a)) (map (line_at 0) xs)) ≡ true)
        × (are_apart (map (line_at 0) xs) ≡ true)
        → (are_apart (map (line_at 0) xs) ≡ true → (f : Found)
        → stream_in kind path (i + 1) xs ≡ Some f
        → list_any (reads kind path) xs ≡ not (is_past f.adaptor.phase))
        → (reads kind path a || list_any (reads kind path) xs) ≡ not (is_past f.adaptor.phase)
    go true is e p rest =
        let q = and_parts (bytes_eq a.kind kind) (bytes_eq a.path path) is in
        let same : record { number = i; adaptor = a } ≡ f
        = same_Some (record { number = i; adaptor = a }) f e in
        ap₂ (λ s t. s || t)
        (ap (λ b. not (is_past a.phase) && b) is ∙ and_true (not (is_past a.phase)))
        (none_else kind path a xs (bytes_same a.kind kind q.0) (bytes_same a.path path q.1)
        (not-true (list_any (clash (line_at 0 a)) (map (line_at 0) xs)) p.0))
        ∙ or_false (not (is_past a.phase))
        ∙ ap (λ (f : Found). not (is_past f.adaptor.phase)) same
    go false is e p rest =
        ap (λ b. (not (is_past a.phase) && b) || list_any (reads kind path) xs) is
        ∙ ap (λ b. b || list_any (reads kind path) xs) (and_false (not (is_past a.phase)))
        ∙ rest p.1 f e

live_none : (kind path : List ℕ) (i : ℕ) (xs : List Adaptor) → stream_in kind path i xs ≡ None
    → list_any (reads kind path) xs ≡ false
live_none kind path i [] e = refl
live_none kind path i (a ∷ xs) e =
    go (bytes_eq a.kind kind && bytes_eq a.path path) refl e (live_none kind path (i + 1) xs)
  where
    go : (b : Bool) → (bytes_eq a.kind kind && bytes_eq a.path path) ≡ b
        → (if b then Some (record { number = i; adaptor = a }) else stream_in kind path (i + 1) xs)
        ≡ None
        → (stream_in kind path (i + 1) xs ≡ None → list_any (reads kind path) xs ≡ false)
        → (reads kind path a || list_any (reads kind path) xs) ≡ false
    go true is e rest =
        let f : Found = record { number = i; adaptor = a } in absurd (none-some f (sym e))
    go false is e rest =
        ap (λ b. (not (is_past a.phase) && b) || list_any (reads kind path) xs) is
        ∙ ap (λ b. b || list_any (reads kind path) xs) (and_false (not (is_past a.phase)))
        ∙ rest e

has_state : (p : Phase) → is_some (state_of p) ≡ not (is_past p)
has_state Live = refl
has_state (Stopping end) = refl
has_state Shrank = refl
has_state Past = refl

-- ---- what the table found

module _ (kind path : List ℕ) (s : State) (o : Option ℕ)
    (found : o ≡ option_map (λ (f : Found). f.number) (stream_in kind path 0 s.adaptors)) where
  pub none_live : None ≡ o → false ≡ is_live_in kind path s.adaptors
  none_live none =
      sym (live_none kind path 0 s.adaptors
      (none_of (stream_in kind path 0 s.adaptors) (none ∙ found)))

  module _ (n : ℕ) (is : Some n ≡ o) where
    pub number_below : n < length s.adaptors
    number_below =
        let f = found_of kind path s.adaptors n (is ∙ found) in
        below_at s.adaptors n f.found.adaptor f.there

    pub found_live : IsSound s → (named : Option Named)
        → ((a : Adaptor) → slice_get s.adaptors n ≡ Some a → named ≡ state_of a.phase)
        → is_some named ≡ is_live_in kind path s.adaptors
    found_live sound named state =
        let f = found_of kind path s.adaptors n (is ∙ found) in
        ap is_some (state f.found.adaptor f.there)
        ∙ has_state f.found.adaptor.phase
        ∙ sym (live_by kind path 0 s.adaptors sound.apart f.found f.is)
