-- States that are alike, and what an agent was loaded with.
use Rattle.std.proofs.Common.{◌≡◌, ℕ, List, Option, Some, None, Result, ap, sym, subst, ◌∙◌, refl, ◌+◌, arith, suc, zero, [], ◌∷◌, Bool, true, false, not, map, true≢false, if◌then◌else◌, ◌&&◌, bytes_eq}
use Rattle.std.proofs.lemmas.Bool.{and_parts}
use Rattle.std.proofs.lemmas.Option.{same_Some, none-some}
use Rattle.std.specs.Prelude.{slice_get, Contains}
use Rattle.chk_site.proofs.Runs.{adds_as}
use Rattle.chk_site.specs.History.{History}
use Rattle.chk_site.specs.Site.{Adds}
use Rattle.chk_world.specs.Checkpoints.{Line}
use Rattle.chk_world.proofs.Ends.{bytes_same}
use Rattle.chk_agent_adaptor.specs.Adaptors.{Adaptor, adaptor_of}
use Rattle.chk_agent.proofs.TurningTold.{IsSameAgent}
use Rattle.chk_agent.specs.Adds.{Found, with_added, stream_in}
use Rattle.chk_agent.specs.Settles as settle
use Rattle.chk_agent.specs.Settles.{IsSettled}
use Rattle.chk_agent.specs.States.{State}
use Rattle.chk_agent.specs.declared.answers.AgentFault.{AgentFault}
use Rattle.chk_agent.specs.declared.answers.Settled.{Settled}

-- a state that another one is
pub same_as : (s t u : State) → t ≡ u → IsSameAgent s u → IsSameAgent s t
same_as s t u is same = subst (λ (k : State). IsSameAgent s k) (sym is) same

pub with_same : (s : State) (found : Option Found) (l : Line) → IsSameAgent s (with_added s found l)
with_same s None l = record { source = refl; ready = refl }
with_same s (Some found) l = record { source = refl; ready = refl }

-- an end that names no call
pub nothing_last : {P : History → History → Type 0} {old new : Option History} → Adds old new P → Adds old new (λ a h. Unit {0})
nothing_last p = adds_as (λ a h. Unit {0}) p (λ a h x. tt)

pub settled_source : {now : ℕ} {s t : State} {result : Result Settled AgentFault}
    {old new : Option History}
    → IsSettled now s result t old new → t.source ≡ s.source
settled_source (settle.same same) = refl
settled_source (settle.written other writes) = refl
settled_source (settle.failed call other writes) = refl
settled_source (settle.unwritten other writes) = refl
settled_source settle.wanting = refl

pub loaded : (ls : List Line) (i : ℕ) (a : Adaptor) → slice_get (map adaptor_of ls) i ≡ Some a
    → (l : Line) × Contains ls l × (adaptor_of l ≡ a)
loaded [] i a at = absurd (none-some a at)
loaded (l ∷ ls) zero a at = (l, (0, omega arith, refl), same_Some (adaptor_of l) a at)
loaded (l ∷ ls) (suc i) a at =
    let r = loaded ls i a at in
    let below = r.1.1 in (r.0, (suc r.1.0, omega (arith, below), r.1.2), r.2)

pub found_is : (kind path : List ℕ) (n : ℕ) (xs : List Adaptor) (f : Found) → stream_in kind path n xs ≡ Some f
    → (k : ℕ) × (f.number ≡ n + k) × (slice_get xs k ≡ Some f.adaptor)
    × (f.adaptor.kind ≡ kind) × (f.adaptor.path ≡ path)
found_is kind path n [] f e = absurd (none-some f e)
found_is kind path n (a ∷ xs) f e =
    go (bytes_eq a.kind kind && bytes_eq a.path path) refl e (found_is kind path (n + 1) xs f)
  where
    go : (b : Bool) → (bytes_eq a.kind kind && bytes_eq a.path path) ≡ b
        → (if b then Some (record { number = n; adaptor = a }) else stream_in kind path (n + 1) xs) ≡ Some f
        → (stream_in kind path (n + 1) xs ≡ Some f → (k : ℕ) × (f.number ≡ n + 1 + k)
        × (slice_get xs k ≡ Some f.adaptor) × (f.adaptor.kind ≡ kind) × (f.adaptor.path ≡ path))
        → (k : ℕ) × (f.number ≡ n + k) × (slice_get (a ∷ xs) k ≡ Some f.adaptor)
        × (f.adaptor.kind ≡ kind) × (f.adaptor.path ≡ path)
    go true is e rest =
        let same : record { number = n; adaptor = a } ≡ f = same_Some (record { number = n; adaptor = a }) f e in
        let number = ap (λ (g : Found). g.number) same in
        let p = and_parts (bytes_eq a.kind kind) (bytes_eq a.path path) is in (
          0,
          omega (arith, number),
          ap (λ (g : Found). Some g.adaptor) same,
          sym (ap (λ (g : Found). g.adaptor.kind) same) ∙ bytes_same a.kind kind p.0,
          sym (ap (λ (g : Found). g.adaptor.path) same) ∙ bytes_same a.path path p.1,
        )
    go false is e rest =
        let r = rest e in let number = r.1 in (suc r.0, omega (arith, number), r.2, r.3, r.4)

pub not_past : (p : Bool) → not p ≡ true → p ≡ false
not_past true e = absurd (true≢false (sym e))
not_past false e = refl
