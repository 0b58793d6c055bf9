-- A step of an adaptor as a step of a drain.
use Rattle.std.proofs.Common.{◌≡◌, inl, inr, ℕ, zero, suc, ◌+◌, true, if◌then◌else◌, List, [], ◌∷◌, length, Option, Some, Result, Ok, ap, sym, ◌∙◌, refl, length-append}
use Rattle.std.specs.Prelude.{slice_get, slice_set}
use Rattle.std.proofs.lemmas.Bool.{eq-eqb, ne_eqb}
use Rattle.std.proofs.lemmas.Option.{none-some}
use Rattle.chk_site.specs.History.{History}
use Rattle.chk_tail.specs.declared.step.Step.{Step}
use Rattle.chk_tail.specs.declared.step.Step.TheVariants.{Bytes, AtEnd as gave_none, Shrank as is_short}
use Rattle.chk_agent_adaptor.specs.Adaptors.{Adaptor, is_stepped}
use Rattle.chk_agent_adaptor.specs.Steps.{stepped}
use Rattle.chk_agent_delivery.specs.Turns.{is_held}
use Rattle.chk_agent.specs.declared.answers.AgentFault.{AgentFault}
use Rattle.chk_agent.specs.declared.answers.Stepped.{Stepped}
use Rattle.chk_agent.specs.declared.answers.Stepped.TheVariants.{Read, Held}
use Rattle.chk_agent.specs.States.{State, chunk_given}
use Rattle.chk_agent.specs.Fills as fill
use Rattle.chk_agent.specs.Fills.{IsOneStepped, after_step, queued}
use Rattle.chk_agent.proofs.AddingPast.{set_size}
use Rattle.chk_agent.proofs.SteppingSound.{set_at}
use Rattle.chk_agent_drain.specs.Drains.{Progress, one_read, one_ended}
use Rattle.chk_agent_drain.specs.Parts.{AdaptorsBut, SameBut}

-- ---- what a step leaves

pub record StepLeaves (i : ℕ) (s t : State) : Type 0 where
  pub source : t.source ≡ s.source
  pub ready : t.ready ≡ s.ready
  pub adaptors : AdaptorsBut i s t

pub but_same : (i : ℕ) (s t : State) → t.adaptors ≡ s.adaptors → AdaptorsBut i s t
but_same i s t same = record {
  size = ap length same;
  others = λ k c other at. ap (λ xs. slice_get xs k) (sym same) ∙ at;
  here = λ c at. (c, ap (λ xs. slice_get xs i) (sym same) ∙ at, refl, refl);
}

leaves_same : (i : ℕ) (s : State) → StepLeaves i s s
leaves_same i s = record { source = refl; ready = refl; adaptors = but_same i s s refl }

pub step_leaves : {i : ℕ} {a : Adaptor} {s t : State} {result : Result Stepped AgentFault}
    {old new : Option History}
    → IsOneStepped i a s result t old new → slice_get s.adaptors i ≡ Some a → StepLeaves i s t
step_leaves {i = i} {s = s} (fill.held is) there = leaves_same i s
step_leaves {i = i} {a = a} {s = s} (fill.made b step held is) there = record {
  source = refl;
  ready = refl;
  adaptors = record {
    size = set_size s.adaptors i b;
    others = λ k c other at. elim (set_at s.adaptors i k b c at)
        [ inl h ↦ absurd (other h.0) | inr h ↦ h.1 ];
    here = λ c at. elim (set_at s.adaptors i i b c at) [
      | inl h ↦ (
        a,
        there,
        ap (λ (x : Adaptor). x.kind) (h.1 ∙ is.is),
        ap (λ (x : Adaptor). x.path) (h.1 ∙ is.is),
      )
      | inr h ↦ absurd (h.0 refl)
    ];
  };
}
step_leaves {i = i} {s = s} (fill.refused b fault held is) there = leaves_same i s
step_leaves {i = i} {s = s} (fill.unkept b step held is) there = leaves_same i s
step_leaves {i = i} {s = s} (fill.wanting held) there = leaves_same i s

pub but_then : (i : ℕ) (s t u : State) → AdaptorsBut i s t → AdaptorsBut i t u → AdaptorsBut i s u
but_then i s t u x y = record {
  size = y.size ∙ x.size;
  others = λ k c other at. x.others k c other (y.others k c other at);
  here = λ c at.
      let m = y.here c at in
      let n = x.here m.0 m.1 in (n.0, n.1, m.2 ∙ n.2, m.3 ∙ n.3);
}

-- ---- a step that gave bytes, and one that the queue had no room for

-- it is read on
abbrev pub IsReadOn : ℕ → State → Type 0
IsReadOn i t = (b : Adaptor) × (slice_get t.adaptors i ≡ Some b) × (is_stepped b.phase ≡ true)

pub put_there : {X : Type 0} (xs : List X) (i : ℕ) (x y : X) → slice_get xs i ≡ Some x
    → slice_get (slice_set xs i y) i ≡ Some y
put_there [] i x y at = absurd (none-some x at)
put_there (z ∷ xs) zero x y at = refl
put_there (z ∷ xs) (suc i) x y at = put_there xs i x y at

pub step_read : {i : ℕ} {a : Adaptor} {s t : State} {result : Result Stepped AgentFault}
    {old new : Option History}
    (n : ℕ) → IsOneStepped i a s result t old new → result ≡ Ok (Read n)
    → slice_get s.adaptors i ≡ Some a
    → is_stepped a.phase ≡ true → IsReadOn i t
step_read n (fill.held is) e there on = absurd (let z : ⊥ = cc in z)
step_read {i = i} {a = a} {s = s} n (fill.made b step held is) e there on =
    (b, put_there s.adaptors i a b there, go step is.is e)
  where
    go : (step : Step) → b ≡ stepped is.marks is.next (Ok step) a
        → ◌≡◌ {A = Result Stepped AgentFault} (Ok (fill.step_answer step)) (Ok (Read n))
        → is_stepped b.phase ≡ true
    go (Bytes bytes end) same e = ap (λ (x : Adaptor). is_stepped x.phase) same ∙ on
    go gave_none same e = absurd (let z : ⊥ = cc in z)
    go (is_short had size) same e = absurd (let z : ⊥ = cc in z)
step_read n (fill.refused b fault held is) e there on = absurd (let z : ⊥ = cc in z)
step_read n (fill.unkept b step held is) e there on = absurd (let z : ⊥ = cc in z)
step_read n (fill.wanting held) e there on = absurd (let z : ⊥ = cc in z)

-- one chunk more waits behind it
pub step_grows : {i : ℕ} {a : Adaptor} {s t : State} {result : Result Stepped AgentFault}
    {old new : Option History}
    (n : ℕ) → IsOneStepped i a s result t old new → result ≡ Ok (Read n)
    → length t.delivery.queue.chunks ≡ length s.delivery.queue.chunks + 1
step_grows n (fill.held is) e = absurd (let z : ⊥ = cc in z)
step_grows {i = i} {a = a} {s = s} n (fill.made b step held is) e = go step e
  where
    go : (step : Step) → ◌≡◌ {A = Result Stepped AgentFault} (Ok (fill.step_answer step))
        (Ok (Read n))
        → length (queued s i a step s.delivery).queue.chunks ≡ length s.delivery.queue.chunks + 1
    go (Bytes bytes end) e = length-append s.delivery.queue.chunks (chunk_given s a bytes end ∷ [])
    go gave_none e = absurd (let z : ⊥ = cc in z)
    go (is_short had size) e = absurd (let z : ⊥ = cc in z)
step_grows n (fill.refused b fault held is) e = absurd (let z : ⊥ = cc in z)
step_grows n (fill.unkept b step held is) e = absurd (let z : ⊥ = cc in z)
step_grows n (fill.wanting held) e = absurd (let z : ⊥ = cc in z)

-- the queue had no room, and nothing changed
pub record WasHeld (s t : State) (old new : Option History) : Type 0 where
  pub held : is_held s.delivery ≡ true
  pub state : t ≡ s
  pub at : new ≡ old

pub step_held : {i : ℕ} {a : Adaptor} {s t : State} {result : Result Stepped AgentFault}
    {old new : Option History}
    (n : ℕ) → IsOneStepped i a s result t old new → result ≡ Ok (Held n) → WasHeld s t old new
step_held n (fill.held is) e = record { held = is; state = refl; at = refl }
step_held n (fill.made b step held is) e = absurd (go step e)
  where
    go : (step : Step) → ◌≡◌ {A = Result Stepped AgentFault} (Ok (fill.step_answer step))
        (Ok (Held n)) → ⊥
    go (Bytes bytes end) e = let z : ⊥ = cc in z
    go gave_none e = let z : ⊥ = cc in z
    go (is_short had size) e = let z : ⊥ = cc in z
step_held n (fill.refused b fault held is) e = absurd (let z : ⊥ = cc in z)
step_held n (fill.unkept b step held is) e = absurd (let z : ⊥ = cc in z)
step_held n (fill.wanting held) e = absurd (let z : ⊥ = cc in z)

-- ---- what is counted

pub read_here : (i : ℕ) (p : Progress) → (one_read i p).reads i ≡ p.reads i + 1
read_here i p = ap (λ b. if b then p.reads i + 1 else p.reads i) (eq-eqb i i refl)

pub read_others : (i : ℕ) (p : Progress) → SameBut i p (one_read i p)
read_others i p = record {
  reads = λ k other. ap (λ b. if b then p.reads k + 1 else p.reads k) (ne_eqb k i other);
  ended = λ k other. refl;
}

pub ended_here : (i : ℕ) (p : Progress) → (one_ended i p).ended i ≡ true
ended_here i p = ap (λ b. if b then true else p.ended i) (eq-eqb i i refl)

pub ended_others : (i : ℕ) (p : Progress) → SameBut i p (one_ended i p)
ended_others i p = record {
  reads = λ k other. refl;
  ended = λ k other. ap (λ b. if b then true else p.ended k) (ne_eqb k i other);
}

pub others_then : (i : ℕ) (p q r : Progress) → SameBut i p q → SameBut i q r → SameBut i p r
others_then i p q r x y = record {
  reads = λ k other. y.reads k other ∙ x.reads k other;
  ended = λ k other. y.ended k other ∙ x.ended k other;
}
