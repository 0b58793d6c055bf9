-- The adaptor of a stream, and that of a name.
use Rattle.std.proofs.Common.{◌≡◌, ℕ, suc, ◌+◌, Bool, true, false, ◌&&◌, List, [], ◌∷◌, length}
use Rattle.std.proofs.Common.{bytes_eq, Option, Some, None, refl, ◌∙◌, cond, if◌then◌else◌, Result}
use Rattle.std.proofs.Common.{Ok, Err, ap, sym, subst, arith}
use Rattle.std.specs.Prelude.{option_map, position, slice_get}
use Rattle.std.specs.List.{position_from}
use Rattle.std.proofs.lemmas.Iterator.Adapters.{position_from-zero}
use Rattle.std.proofs.lemmas.Option.{same_Some, none-some}
use Rattle.chk_control.specs.declared.Class.{Class}
use Rattle.chk_site.specs.History.{History}
use Rattle.chk_agent_adaptor.specs.Adaptors.{Adaptor}
use Rattle.chk_agent.specs.declared.answers.AgentFault.{AgentFault}
use Rattle.chk_agent.specs.declared.answers.Added.TheVariants.{New}
use Rattle.chk_agent.specs.States.{State}
use Rattle.chk_agent.specs.Adds.{Found, stream_in, revived_at, not_asked, TakesStream, written}
use Rattle.chk_agent.specs.Adds.{failed, unwritten, unbegun, MayTake, class_for, added_number}
use Rattle.chk_agent.specs.Adds.{IsAdded, new as is_new, refused, wanting}
use Rattle.chk_agent.specs.Takes.{Keeps, kept, failed as keep_failed, unwritten as keep_unwritten}
use Rattle.chk_agent.specs.Takes.{wanting as keep_wanting, TakesNamed, named, wanting as none_named}

abbrev is_of : List ℕ → List ℕ → Adaptor → Bool
is_of kind path a = bytes_eq a.kind kind && bytes_eq a.path path

found_from : (kind path : List ℕ) (i : ℕ) (adaptors : List Adaptor)
    → position_from (is_of kind path) i adaptors ≡ option_map (λ (f : Found). f.number) (stream_in kind path i adaptors)
found_from kind path i [] = refl
found_from kind path i (a ∷ adaptors) = go (is_of kind path a) (found_from kind path (i + 1) adaptors)
  where
    go : (b : Bool)
        → position_from (is_of kind path) (i + 1) adaptors ≡ option_map (λ (f : Found). f.number) (stream_in kind path (i + 1) adaptors)
        → cond b (Some i) (position_from (is_of kind path) (i + 1) adaptors)
        ≡ option_map (λ (f : Found). f.number) (if b then Some (record { number = i; adaptor = a }) else stream_in kind path (i + 1) adaptors)
    go true rest = refl
    go false rest = rest

pub found_at : (kind path : List ℕ) (adaptors : List Adaptor)
    → position (λ (a : Adaptor). bytes_eq a.kind kind && bytes_eq a.path path) adaptors
    ≡ option_map (λ (f : Found). f.number) (stream_in kind path 0 adaptors)
found_at kind path adaptors = position_from-zero (is_of kind path) adaptors ∙ found_from kind path 0 adaptors

-- an adaptor that was found stands at its number
found_there : (kind path : List ℕ) (i : ℕ) (adaptors : List Adaptor) (f : Found) → stream_in kind path i adaptors ≡ Some f
    → (k : ℕ) × (f.number ≡ i + k) × (slice_get adaptors k ≡ Some f.adaptor)
found_there kind path i [] f e = absurd (none-some f e)
found_there kind path i (a ∷ adaptors) f e = go (is_of kind path a) e (found_there kind path (i + 1) adaptors f)
  where
    go : (b : Bool) → (if b then Some (record { number = i; adaptor = a }) else stream_in kind path (i + 1) adaptors) ≡ Some f
        → (stream_in kind path (i + 1) adaptors ≡ Some f → (k : ℕ) × (f.number ≡ i + 1 + k) × (slice_get adaptors k ≡ Some f.adaptor))
        → (k : ℕ) × (f.number ≡ i + k) × (slice_get (a ∷ adaptors) k ≡ Some f.adaptor)
    go true e rest =
        let same : record { number = i; adaptor = a } ≡ f = same_Some (record { number = i; adaptor = a }) f e in
        let number = ap (λ (f : Found). f.number) same in
        (0, omega (arith, number), ap (λ (f : Found). Some f.adaptor) same)
    go false e rest = let r = rest e in let number = r.1 in (suc r.0, omega (arith, number), r.2)

pub record IsFound (kind path : List ℕ) (adaptors : List Adaptor) (n : ℕ) : Type 0 where
  pub found : Found
  pub is : stream_in kind path 0 adaptors ≡ Some found
  pub number : found.number ≡ n
  pub there : slice_get adaptors n ≡ Some found.adaptor

pub found_of : (kind path : List ℕ) (adaptors : List Adaptor) (n : ℕ)
    → Some n ≡ option_map (λ (f : Found). f.number) (stream_in kind path 0 adaptors) → IsFound kind path adaptors n
found_of kind path adaptors n e = go (stream_in kind path 0 adaptors) refl e
  where
    go : (o : Option Found) → stream_in kind path 0 adaptors ≡ o → Some n ≡ option_map (λ (f : Found). f.number) o
        → IsFound kind path adaptors n
    go None is e = absurd (none-some n (sym e))
    go (Some f) is e =
        let same : f.number ≡ n = sym (same_Some n f.number e) in
        let r = found_there kind path 0 adaptors f is in
        let number = r.1 in
        let here : r.0 ≡ n = omega (arith, number, same) in
        record { found = f; is = is; number = same; there = subst (λ k. slice_get adaptors k ≡ Some f.adaptor) here r.2 }

pub none_of : (o : Option Found) → None ≡ option_map (λ (f : Found). f.number) o → o ≡ None
none_of None e = refl
none_of (Some f) e = absurd (none-some f.number e)

-- a past one that was kept was taken
pub takes_past : (s : State) (name : List ℕ) (class : Class) (kind path : List ℕ) (start n : ℕ) (f : Found) → f.number ≡ n
    → {result : Result (Unit {0}) AgentFault} {t : State} {old new : Option History}
    → Keeps s (revived_at s n name f.adaptor) result t old new → TakesStream s name class kind path start (Some f) result t old new
takes_past s name class kind path start n f is {result = result} {t = t} {old = old} {new = new} keeps =
    go (subst (λ k. Keeps s (revived_at s k name f.adaptor) result t old new) (sym is) keeps)
  where
    go : {result : Result (Unit {0}) AgentFault} {t : State} {old new : Option History}
        → Keeps s (revived_at s f.number name f.adaptor) result t old new → TakesStream s name class kind path start (Some f) result t old new
    go (kept script) = written None not_asked refl script
    go (keep_failed call script) = failed None call not_asked refl script
    go (keep_unwritten script) = unwritten None not_asked refl script
    go keep_wanting = unbegun

-- ---- the call of a program

pub added_as : (class : Class) (kind path : List ℕ) (s : State) (o : Option Found) → stream_in kind path 0 s.adaptors ≡ o
    → MayTake o (length s.adaptors) → (c : Class) → c ≡ class_for class o → (t : State) (old new : Option History)
    → TakesNamed s c kind path (stream_in kind path 0 s.adaptors) (Ok tt) t old new
    → IsAdded class kind path s (Ok (New (added_number s o))) t old new
added_as class kind path s o is may c same t old new takes =
    go t old new (subst (λ c. TakesNamed s c kind path o (Ok tt) t old new) same (subst (λ o. TakesNamed s c kind path o (Ok tt) t old new) is takes))
  where
    go : (t : State) (old new : Option History) → TakesNamed s (class_for class o) kind path o (Ok tt) t old new
        → IsAdded class kind path s (Ok (New (added_number s o))) t old new
    go t old new (named name good taken) = is_new name o is may good taken

pub refused_as : (class : Class) (kind path : List ℕ) (s : State) (o : Option Found) → stream_in kind path 0 s.adaptors ≡ o
    → MayTake o (length s.adaptors) → (c : Class) → c ≡ class_for class o → (fault : AgentFault) (t : State) (old new : Option History)
    → TakesNamed s c kind path (stream_in kind path 0 s.adaptors) (Err fault) t old new
    → IsAdded class kind path s (Err fault) t old new
refused_as class kind path s o is may c same fault t old new takes =
    go fault t old new
    (subst (λ c. TakesNamed s c kind path o (Err fault) t old new) same (subst (λ o. TakesNamed s c kind path o (Err fault) t old new) is takes))
  where
    go : (fault : AgentFault) (t : State) (old new : Option History) → TakesNamed s (class_for class o) kind path o (Err fault) t old new
        → IsAdded class kind path s (Err fault) t old new
    go fault t old new (named name good taken) = refused name o fault is may good taken
    go fault t old new (none_named) = wanting
